-- Days of the Gregorian calendar, times of a day and offsets from UTC, and how XMP writes them
-- (ISO 16684-1, 8.2.1.2): YYYY-MM-DD, THH:MM:SS, +HH:MM or -HH:MM.
use Rattle.std.specs.Prelude.{ℕ, ◌+◌, ◌-◌, ◌*◌, ◌%◌, ◌==◌, nat_le, nat_lt, Bool, not, ◌&&◌, ◌||◌, if◌then◌else◌, List, [], ◌∷◌, ◌++◌, length, codes, Option, Some, None}
use Rattle.std.specs.List.{list_all}
use Rattle.std.specs.Char.{is_ascii_digit}

-- every fourth year, but of the centuries every fourth alone
abbrev pub is_leap : ℕ → Bool
is_leap year = (year % 4 == 0) && (not (year % 100 == 0) || (year % 400 == 0))

-- how many days a month has
abbrev pub month_days : ℕ → ℕ → ℕ
month_days year month =
    if month == 2 then (if is_leap year then 29 else 28)
    else (if (month == 4) || (month == 6) || (month == 9) || (month == 11) then 30 else 31)

-- a day of the years 1 to 9999
unfoldable pub date_exists : ℕ → ℕ → ℕ → Bool
date_exists year month day =
    nat_le 1 year && nat_le year 9999 && nat_le 1 month && nat_le month 12 && nat_le 1 day && nat_le day (month_days year month)

-- a time of a day; no second is a leap second
unfoldable pub time_exists : ℕ → ℕ → ℕ → Bool
time_exists hour minute second = nat_lt hour 24 && nat_lt minute 60 && nat_lt second 60

-- so many decimal digits
abbrev pub are_digits : ℕ → List ℕ → Bool
are_digits count bytes = (length bytes == count) && list_all is_ascii_digit bytes

-- the number that decimal digits write after a number that was read
abbrev pub number_after : ℕ → List ℕ → ℕ
number_after read [] = read
number_after read (digit ∷ digits) = number_after (read * 10 + (digit - 48)) digits

abbrev pub number : List ℕ → ℕ
number = number_after 0

-- the number of so many digits; none where they aren't so many, or no digits
unfoldable pub number_of : ℕ → List ℕ → Option ℕ
number_of count bytes = if are_digits count bytes then Some (number bytes) else None

-- the date of four, two and two digits
unfoldable pub date_text : List ℕ → List ℕ → List ℕ → Option (List ℕ)
date_text year month day =
    if are_digits 4 year && are_digits 2 month && are_digits 2 day && date_exists (number year) (number month) (number day)
    then Some (year ++ codes "-" ++ month ++ codes "-" ++ day) else None

-- the time of two, two and two digits
unfoldable pub time_text : List ℕ → List ℕ → List ℕ → Option (List ℕ)
time_text hour minute second =
    if are_digits 2 hour && are_digits 2 minute && are_digits 2 second && time_exists (number hour) (number minute) (number second)
    then Some (codes "T" ++ hour ++ codes ":" ++ minute ++ codes ":" ++ second) else None

abbrev pub is_sign : ℕ → Bool
is_sign byte = (byte == 43) || (byte == 45)

-- the offset of a sign, two digits below 24 and two below 60
unfoldable pub offset_text : ℕ → List ℕ → List ℕ → Option (List ℕ)
offset_text sign hours minutes =
    if is_sign sign && are_digits 2 hours && are_digits 2 minutes && nat_lt (number hours) 24 && nat_lt (number minutes) 60
    then Some (sign ∷ hours ++ codes ":" ++ minutes) else None
