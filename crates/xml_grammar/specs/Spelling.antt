-- How the parts of pieces are spelled. A text is here the list of its characters, as numbers; a name or a value is
-- the UTF-8 of its characters. Productions are those of XML 1.0 (fifth edition), but for names, which are those of
-- Namespaces in XML 1.0.
use Rattle.std.specs.Prelude.{◌≡◌, ◌≢◌, ℕ, ◌+◌, ◌*◌, Bool, true, false, ◌&&◌, ◌==◌, nat_lt, if◌then◌else◌, ◌⊎◌, IsTrue, IsFalse, List, [], ◌∷◌, ◌++◌, Option, Some, None, codes, encode_utf8_all}
use Rattle.std.specs.List.{list_all}
use Rattle.std.specs.Char.{digit_value}
use Rattle.std.specs.Str.{str_eq_ignore_ascii_case}
use Rattle.xmp_values.specs.Characters.{is_char, is_blank, is_name_char, is_name_of}
use Rattle.xml_grammar.specs.declared.tags.QName.{QName}
use Rattle.xml_grammar.specs.declared.tags.RawAttribute.{RawAttribute}

-- the text begins so
abbrev pub BeginsWith : List ℕ → List ℕ → Type 0
BeginsWith needle text = (rest : List ℕ) × (text ≡ needle ++ rest)

-- the needle stands nowhere in the text
abbrev pub Lacks : List ℕ → List ℕ → Type 0
Lacks needle text = (before after : List ℕ) → text ≢ before ++ needle ++ after

-- production 2, Char, any number of them
abbrev pub AreChars : List ℕ → Type 0
AreChars text = IsTrue (list_all is_char text)

-- production 3, S, but also nothing
abbrev pub AreBlank : List ℕ → Type 0
AreBlank text = IsTrue (list_all is_blank text)

-- production 3, S
abbrev pub IsGap : List ℕ → Type 0
IsGap [] = ⊥
IsGap (c ∷ cs) = AreBlank (c ∷ cs)

-- production 25, Eq
abbrev pub IsEquals : List ℕ → Type 0
IsEquals text = (before : List ℕ) × (after : List ℕ) × AreBlank before × AreBlank after × (text ≡ before ++ codes "=" ++ after)

-- either quote
abbrev pub IsQuote : ℕ → Type 0
IsQuote quote = (quote ≡ 0x22) ⊎ (quote ≡ 0x27)

-- between two equal quotes
abbrev pub quoted : ℕ → List ℕ → List ℕ
quoted quote text = quote ∷ (text ++ quote ∷ [])

-- NCName, production 4 of Namespaces in XML
abbrev pub SpellsName : List ℕ → List ℕ → Type 0
SpellsName name text = IsTrue (is_name_of text) × (name ≡ encode_utf8_all text)

abbrev pub SpellsPrefixed : Option (List ℕ) → List ℕ → List ℕ → Type 0
SpellsPrefixed None local text = SpellsName local text
SpellsPrefixed (Some prefix) local text = (front : List ℕ) × (back : List ℕ) × SpellsName prefix front × SpellsName local back × (text ≡ front ++ codes ":" ++ back)

-- QName, production 7 of Namespaces in XML
abbrev pub SpellsQName : QName → List ℕ → Type 0
SpellsQName name text = SpellsPrefixed name.prefix name.local text

-- the five entities of section 4.6
pub data Entity : Type 0 where
  Lt : Entity
  Gt : Entity
  Amp : Entity
  Apos : Entity
  Quot : Entity

abbrev pub entity_name : Entity → List ℕ
entity_name Lt = codes "lt"
entity_name Gt = codes "gt"
entity_name Amp = codes "amp"
entity_name Apos = codes "apos"
entity_name Quot = codes "quot"

abbrev pub entity_char : Entity → ℕ
entity_char Lt = 0x3C
entity_char Gt = 0x3E
entity_char Amp = 0x26
entity_char Apos = 0x27
entity_char Quot = 0x22

-- production 68, EntityRef
abbrev pub SpellsEntity : ℕ → List ℕ → Type 0
SpellsEntity c text = (e : Entity) × (c ≡ entity_char e) × (text ≡ codes "&" ++ entity_name e ++ codes ";")

abbrev pub is_digit : ℕ → ℕ → Bool
is_digit base c = nat_lt (digit_value c) base

-- the number that digits give after n
abbrev pub number_from : ℕ → ℕ → List ℕ → ℕ
number_from base n [] = n
number_from base n (d ∷ ds) = number_from base (n * base + digit_value d) ds

-- production 66, CharRef, in one base: digits, at least one, of which the number is a Char
abbrev pub SpellsNumber : ℕ → List ℕ → ℕ → List ℕ → Type 0
SpellsNumber base mark c text =
    (digits : List ℕ) × (digits ≢ []) × IsTrue (list_all (is_digit base) digits) × (c ≡ number_from base 0 digits) × IsTrue (is_char c)
    × (text ≡ mark ++ digits ++ codes ";")

-- production 67, Reference, and the character that it stands for
abbrev pub SpellsReference : ℕ → List ℕ → Type 0
SpellsReference c text = SpellsEntity c text ⊎ SpellsNumber 10 (codes "&#") c text ⊎ SpellsNumber 16 (codes "&#x") c text

-- Section 2.11: CR LF, and CR that no LF follows, are read as one LF. The first argument says whether CR was read last.
abbrev pub line_ends_after : Bool → List ℕ → List ℕ
line_ends_after after_cr [] = []
line_ends_after after_cr (c ∷ cs) =
    if c == 0xD then 0xA ∷ line_ends_after true cs
    else if after_cr && c == 0xA then line_ends_after false cs
    else c ∷ line_ends_after false cs

abbrev pub line_ends : List ℕ → List ℕ
line_ends = line_ends_after false

-- section 3.3.3: what a literal character of a value stands for
abbrev pub normal : ℕ → ℕ
normal c = if is_blank c then 0x20 else c

-- production 10, AttValue: one reference or one literal character, and the character that it gives
abbrev pub SpellsValueChar : ℕ → ℕ → List ℕ → Type 0
SpellsValueChar quote v text =
    SpellsReference v text
    ⊎ ((c : ℕ) × IsTrue (is_char c) × (c ≢ 0x3C) × (c ≢ 0x26) × (c ≢ quote) × (v ≡ normal c) × (text ≡ c ∷ []))

-- the characters of a value, one after the other
abbrev pub SpellsValueChars : ℕ → List ℕ → List ℕ → Type 0
SpellsValueChars quote [] text = text ≡ []
SpellsValueChars quote (v ∷ vs) text = (front : List ℕ) × (back : List ℕ) × SpellsValueChar quote v front × SpellsValueChars quote vs back × (text ≡ front ++ back)

-- production 10, AttValue: the value is read off the text whose line ends are LF
abbrev pub SpellsValue : List ℕ → List ℕ → Type 0
SpellsValue value text =
    (quote : ℕ) × (inside : List ℕ) × (vs : List ℕ) × IsQuote quote × SpellsValueChars quote vs (line_ends inside) × (value ≡ encode_utf8_all vs)
    × (text ≡ quoted quote inside)

-- production 41, Attribute
abbrev pub SpellsAttribute : RawAttribute → List ℕ → Type 0
SpellsAttribute a text =
    (name : List ℕ) × (equals : List ℕ) × (value : List ℕ) × SpellsQName a.name name × IsEquals equals × SpellsValue a.value value × (text ≡ name ++ equals ++ value)

-- attributes, each after white space
abbrev pub SpellsAttributes : List RawAttribute → List ℕ → Type 0
SpellsAttributes [] text = text ≡ []
SpellsAttributes (a ∷ others) text =
    (gap : List ℕ) × (front : List ℕ) × (back : List ℕ) × IsGap gap × SpellsAttribute a front × SpellsAttributes others back × (text ≡ gap ++ front ++ back)

-- white space, a word, Eq and a value in quotes, as an XML declaration has them
abbrev pub SpellsGiven : List ℕ → List ℕ → List ℕ → Type 0
SpellsGiven word value text =
    (gap : List ℕ) × (equals : List ℕ) × (quote : ℕ) × IsGap gap × IsEquals equals × IsQuote quote × (text ≡ gap ++ word ++ equals ++ quoted quote value)

-- productions 24, VersionInfo, and 26, VersionNum
abbrev pub IsVersion : List ℕ → Type 0
IsVersion text = (digits : List ℕ) × (digits ≢ []) × IsTrue (list_all (is_digit 10) digits) × SpellsGiven (codes "version") (codes "1." ++ digits) text

-- production 80, EncodingDecl. Wider than production 81, EncName: the name is any name characters, at least one; another
-- name than UTF-8 is then refused as such.
abbrev pub SpellsEncoding : Option (List ℕ) → List ℕ → Type 0
SpellsEncoding None text = text ≡ []
SpellsEncoding (Some encoding) text =
    (name : List ℕ) × (name ≢ []) × IsTrue (list_all is_name_char name) × (encoding ≡ encode_utf8_all name) × SpellsGiven (codes "encoding") name text

-- production 32, SDDecl
abbrev pub IsStandalone : List ℕ → Type 0
IsStandalone text = (text ≡ []) ⊎ SpellsGiven (codes "standalone") (codes "yes") text ⊎ SpellsGiven (codes "standalone") (codes "no") text

-- production 17, PITarget: a name that is not `xml` in any case
abbrev pub IsTarget : List ℕ → Type 0
IsTarget name = IsTrue (is_name_of name) × IsFalse (str_eq_ignore_ascii_case name (codes "xml"))

-- what stands after a target, up to `?>` (production 16): nothing, or white space and Chars without `?>`
abbrev pub IsInstructionText : List ℕ → Type 0
IsInstructionText text = (text ≡ []) ⊎ ((gap : List ℕ) × (body : List ℕ) × IsGap gap × AreChars body × Lacks (codes "?>") body × (text ≡ gap ++ body))
