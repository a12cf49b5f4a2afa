-- Lists of texts and of items beside each other.
use Rattle.std.proofs.Common.{◌≡◌, Bool, true, false, List, [], ◌∷◌, length, refl, sym, arith}
use Rattle.std.specs.Prelude.{◌&&◌}
use Rattle.xmp_tree.specs.declared.nested.Value.{Value}
use Rattle.mwg_rules.specs.Sources.{Texts}
use Rattle.mwg_rules.specs.Forms.{are_texts, is_text}

-- two answers that hold together are one
pub same_test : (a b : Bool) → (a ≡ true → b ≡ true) → (b ≡ true → a ≡ true) → a ≡ b
same_test true true p q = refl
same_test true false p q = sym (p refl)
same_test false true p q = q refl
same_test false false p q = refl

both_false : (a b : Bool) → b ≡ false → (a && b) ≡ false
both_false true b e = e
both_false false b e = refl

-- texts of another number
pub are_texts-other : (texts : Texts) (vs : List Value) → (length texts ≡ length vs → ⊥) → are_texts texts vs ≡ false
are_texts-other [] [] n = absurd (n refl)
are_texts-other [] (v ∷ vs) n = refl
are_texts-other (t ∷ ts) [] n = refl
are_texts-other (t ∷ ts) (v ∷ vs) n = both_false (is_text t v) (are_texts ts vs) (are_texts-other ts vs (λ e. n (omega arith)))
