-- The local parts of what is spelled are names.
use Rattle.std.proofs.Common.{◌≡◌, ℕ, Bool, true, false, List, [], ◌∷◌, Option, Some, None, refl, cond}
use Rattle.std.specs.Prelude.{IfSome, ◌==◌, ◌&&◌, option_map, option_and_then}
use Rattle.std.specs.List.{before_first, after_first}
use Rattle.std.specs.Str.{byte}
use Rattle.std.proofs.lemmas.Bool.{and_parts}
use Rattle.xmp_values.specs.Characters.{IsName}
use Rattle.xmp_paths.specs.declared.spelling.Prefixed.{Prefixed}
use Rattle.xmp_paths.specs.declared.spelling.SpelledStep.{SpelledStep}
use Rattle.xmp_paths.specs.declared.spelling.SpelledStep.TheVariants.{Field, Qualifier, Item, Tag}
use Rattle.xmp_paths.specs.Grammar.{is_name, is_colon, prefixed, place_of_number, is_lang_tag, bracketed, member_step, item_step, spelled_step, is_mark, pieces, spelled_steps, spelling, spelled}
use Rattle.xmp_paths.specs.Allowed.{IsSpelledStep, AreSpelledSteps, IsSpelling}
use Rattle.xmp_paths.proofs.NameTests.{is_name-IsName}
use Rattle.xmp_paths.proofs.Options.{some_if, some_map, some_and_then, some_consed}

abbrev IsLocal : Prefixed → Type 0
IsLocal p = IsName p.local

pub prefixed_local : (text : List ℕ) → IfSome (prefixed text) IsLocal
prefixed_local text = by (is_name (before_first is_colon text) && is_name (after_first is_colon text)) (λ h. (is_name-IsName (after_first is_colon text)).1 (and_parts _ _ h).1)
  where
    by : (b : Bool) → (b ≡ true → IsName (after_first is_colon text)) →
        IfSome (cond b (Some record { prefix = before_first is_colon text; local = after_first is_colon text }) None) IsLocal
    by true h = h refl
    by false h = tt

member_local : (text : List ℕ) → IfSome (member_step text) IsSpelledStep
member_local [] = tt
member_local (b ∷ bs) =
    some_if IsSpelledStep (b == byte "?") (option_map Qualifier (prefixed bs)) (option_map Field (prefixed (b ∷ bs)))
    (some_map IsLocal IsSpelledStep Qualifier (λ p h. h) (prefixed bs) (prefixed_local bs))
    (some_map IsLocal IsSpelledStep Field (λ p h. h) (prefixed (b ∷ bs)) (prefixed_local (b ∷ bs)))

item_local : (text : List ℕ) → IfSome (item_step text) IsSpelledStep
item_local text =
    some_if IsSpelledStep (is_lang_tag text) (Some (Tag text)) (option_map Item (place_of_number text)) tt (by (place_of_number text))
  where
    by : (o : Option ℕ) → IfSome (option_map Item o) IsSpelledStep
    by (Some at) = tt
    by None = tt

step_local : (text : List ℕ) → IfSome (spelled_step text) IsSpelledStep
step_local [] = tt
step_local (b ∷ bs) =
    some_if IsSpelledStep (b == byte "/") (member_step bs) (option_and_then item_step (bracketed bs)) (member_local bs)
    (some_and_then IsSpelledStep item_step item_local (bracketed bs))

steps_local : (ps : List (List ℕ)) → IfSome (spelled_steps ps) AreSpelledSteps
steps_local [] = tt
steps_local (p ∷ ps) =
    some_consed IsSpelledStep AreSpelledSteps (λ s ss h t. (h, t)) (spelled_step p) (spelled_steps ps) (step_local p) (steps_local ps)

spelling_of : (o : Option Prefixed) (os : Option (List SpelledStep)) → IfSome o IsLocal → IfSome os AreSpelledSteps → IfSome (spelling o os) IsSpelling
spelling_of (Some p) (Some ss) h t = record { first = h; steps = t }
spelling_of (Some p) None h t = tt
spelling_of None os h t = tt

pub spelled_names : (text : List ℕ) → IfSome (spelled text) IsSpelling
spelled_names text = spelling_of (prefixed (before_first is_mark text)) (spelled_steps (pieces text)) (prefixed_local (before_first is_mark text)) (steps_local (pieces text))
