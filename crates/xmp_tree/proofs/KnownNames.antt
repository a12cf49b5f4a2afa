-- Names that have a meaning of their own.
use Rattle.std.proofs.Common.{◌≡◌, ◌∙◌, sym, ap, arith, get_or}
use Rattle.xmp_values.specs.declared.text.Name.{Name}
use Rattle.xmp_tree.specs.Wf.{lang_name, type_name}

pub lang_not_type : (n : Name) → n ≡ lang_name → n ≡ type_name → ⊥
unfolding lang_name type_name
lang_not_type n is_lang is_type =
    let letters = ap (λ (m : Name). get_or m.local 0 0) (sym is_lang ∙ is_type) in omega arith
