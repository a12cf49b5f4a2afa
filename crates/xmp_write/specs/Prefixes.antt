-- The prefixes of a written text: a list of namespaces by first use, each with its prefix.
-- A namespace beside its prefix is a `Hint`, as in a text that is read.
use Rattle.std.specs.Prelude.{ℕ, ◌+◌, Bool, not, ◌&&◌, ◌||◌, if◌then◌else◌, codes, decimal, List, [], ◌∷◌, ◌++◌, length, map, fold, Option, Some, None, unwrap_or}
use Rattle.std.specs.List.{list_any, position_or_len, range_with_len}
use Rattle.std.specs.Str.{bytes_eq}
pub use Rattle.xmp_values.specs.Hints.{prefix_in, has_prefix}
use Rattle.xmp_values.specs.declared.hints.Hint.{Hint}
use Rattle.xmp_values.specs.declared.text.Name.{Name}
use Rattle.known_prefixes.specs.Prefixes.{fixed_prefix, known_prefix, is_fixed, is_known, begins_xml}
use Rattle.xmp_tree.specs.Parts.{Parts}
use Rattle.xmp_write.specs.declared.forms.Form.{Form}
use Rattle.xmp_write.specs.Written.{written_spaces}

-- A namespace after those that are used before it, unless it is one of them or is fixed.
abbrev pub with_use : List (List ℕ) → List ℕ → List (List ℕ)
with_use spaces space = if is_fixed space || list_any (bytes_eq space) spaces then spaces else spaces ++ space ∷ []

-- the namespaces that are declared, by first use
abbrev pub declared_spaces : Parts → Form → List (List ℕ)
declared_spaces t form = fold with_use [] (written_spaces t form)

-- a hint's prefix, if it is none of the known, isn't reserved and isn't given yet
abbrev pub fitting : List Hint → Option (List ℕ) → Option (List ℕ)
fitting given None = None
fitting given (Some prefix) = if is_known prefix || begins_xml prefix || has_prefix given prefix then None else Some prefix

abbrev pub numbered : ℕ → List ℕ
numbered n = codes "ns" ++ decimal n

-- no hint has the prefix, of whichever namespace, and it isn't given yet
abbrev pub is_free : List Hint → List Hint → List ℕ → Bool
is_free hints given prefix = not (has_prefix hints prefix) && not (has_prefix given prefix)

-- The least number from 1 whose prefix is free. Each hint and each given prefix takes one number at most, so
-- that the number after as many is free.
abbrev pub free_number : List Hint → List Hint → ℕ
free_number hints given = 1 + position_or_len (λ n. is_free hints given (numbered n)) (range_with_len 1 (length hints + length given))

-- The prefix of a namespace, where these are given to others: the known one, else the hint's if it fits, else
-- the first free one.
abbrev pub prefix_for : List Hint → List Hint → List ℕ → List ℕ
prefix_for hints given space = unwrap_or (known_prefix space) (unwrap_or (fitting given (prefix_in hints space)) (numbered (free_number hints given)))

abbrev pub with_prefix : List Hint → List Hint → List ℕ → List Hint
with_prefix hints given space = given ++ record { space = space; prefix = prefix_for hints given space } ∷ []

-- The prefixes of the text of a tree in a form.
abbrev pub prefixes : Parts → List Hint → Form → List Hint
prefixes t hints form = fold (with_prefix hints) [] (declared_spaces t form)

-- the namespaces of a list
abbrev pub spaces_in : List Hint → List (List ℕ)
spaces_in = map (λ h. h.space)

-- the prefix with which a name of a namespace is written; where there is none it is empty
abbrev pub written_prefix : List Hint → List ℕ → List ℕ
written_prefix ps space = unwrap_or (fixed_prefix space) (unwrap_or (prefix_in ps space) [])

-- a name, `prefix:local`
abbrev pub spelled : List Hint → Name → List ℕ
spelled ps name = written_prefix ps name.space ++ codes ":" ++ name.local
