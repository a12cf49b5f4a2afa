-- A script is read where its bytes are UTF-8.
use Rattle.std.proofs.Common.{◌≡◌, ◌∙◌, ℕ, Bool, List, ap, sym, cond, Ok, Err}
use Rattle.std.specs.Prelude.{Result, Option, Some, None, IfSome}
use Rattle.std.specs.Str.{IsUtf8, is_utf8}
use Rattle.std.specs.Str.Lossy.{utf8_valid_len}
use Rattle.std.proofs.lemmas.Bool.{false_from_ne_true}
use Rattle.std.proofs.lemmas.Str.{IsUtf8-from_is_utf8, is_utf8-from_IsUtf8}
use Rattle.xmp_values.specs.declared.hints.Hint.{Hint}
use Rattle.xmp_values.specs.declared.rules.Rule.{Rule}
use Rattle.xmp_values.specs.declared.rules.Rule.TheVariants.{ScriptUtf8}
use Rattle.xmp_edit.specs.ScriptParts.{ScriptParts, ReadingParts}
use Rattle.xmp_edit.specs.Lines.{lines_of}
use Rattle.xmp_edit.specs.ScriptOf.{lines_read, beginning, finished, script_of}

abbrev told : List Hint → List ℕ → Bool → Result ScriptParts (Rule × ℕ)
told hints bytes b = cond b (finished hints (lines_read (lines_of bytes) 1 (beginning hints))) (Err (ScriptUtf8, utf8_valid_len bytes))

pub script_text : (hints : List Hint) (bytes : List ℕ) → IsUtf8 bytes → script_of hints bytes ≡ finished hints (lines_read (lines_of bytes) 1 (beginning hints))
script_text hints bytes utf8 = ap (told hints bytes) (is_utf8-from_IsUtf8 bytes utf8)

pub script_bytes : (hints : List Hint) (bytes : List ℕ) (n : ℕ) → (IsUtf8 bytes → ⊥) → n ≡ utf8_valid_len bytes → script_of hints bytes ≡ Err (ScriptUtf8, n)
script_bytes hints bytes n other is =
    ap (told hints bytes) (false_from_ne_true (is_utf8 bytes) (λ h. other (IsUtf8-from_is_utf8 bytes h))) ∙ ap (λ k. Err (ScriptUtf8, k)) (sym is)

-- what was read is finished, or the fault stays
pub refused : (hints : List Hint) (o : Option (Rule × ℕ)) (x : Result ReadingParts (Rule × ℕ)) → IfSome o (λ f. x ≡ Err f) → IfSome o (λ f. finished hints x ≡ Err f)
refused hints (Some f) x e = ap (finished hints) e
refused hints None x e = tt

pub accepted : (hints : List Hint) (r : ReadingParts) (x : Result ReadingParts (Rule × ℕ)) (s : ScriptParts) → x ≡ Ok r → finished hints (Ok r) ≡ Ok s → finished hints x ≡ Ok s
accepted hints r x s e f = ap (finished hints) e ∙ f
