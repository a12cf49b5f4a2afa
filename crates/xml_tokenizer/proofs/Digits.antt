-- Going over digits.
use Rattle.std.proofs.Common.{◌≡◌, ℕ, ◌≤◌, List, [], refl, sym, ◌∙◌}
use Rattle.std.specs.Str.{chars}
use Rattle.xml_grammar.specs.Spelling.{is_digit}
use Rattle.xml_tokenizer.specs.References.{capped_from, no_char}
use Rattle.xml_tokenizer.specs.Runs.{taken, past}

-- what is left gives what the whole gives
pub record Counts (base : ℕ) (text : List ℕ) (number : ℕ) (rest : List ℕ) : Type 0 where
  pub number_is : capped_from base number (taken (is_digit base) (chars rest)) ≡ capped_from base 0 (taken (is_digit base) (chars text))
  pub same : past (is_digit base) (chars rest) ≡ past (is_digit base) (chars text)
  pub low : number ≤ no_char

pub record Counted (base : ℕ) (text : List ℕ) (number : ℕ) (rest : List ℕ) : Type 0 where
  pub number_is : number ≡ capped_from base 0 (taken (is_digit base) (chars text))
  pub same : chars rest ≡ past (is_digit base) (chars text)

pub counts_end : (base : ℕ) (text : List ℕ) (number : ℕ) (rest : List ℕ) → Counts base text number rest → chars rest ≡ [] → Counted base text number rest
counts_end base text number rest w h =
    let t : capped_from base number (taken (is_digit base) (chars rest)) ≡ number = rw h refl in
    let s : past (is_digit base) (chars rest) ≡ chars rest = rw h refl in
    record { number_is = sym t ∙ w.number_is; same = sym s ∙ w.same }
