-- The value by members, by the place of the first member `rdf:value`.
use Rattle.std.proofs.Common.{ℕ, ◌≡◌, List, ◌++◌, ap, sym, ◌∙◌}
use Rattle.std.specs.Prelude.{Some, None, slice_get, position, not, remove}
use Rattle.xmp_tree.specs.declared.nested.Member.{Member}
use Rattle.xmp_tree.specs.declared.nested.Value.{out-Value}
use Rattle.xmp_tree.specs.declared.nested.Shape.{Struct}
use Rattle.xmp_tree.specs.Parts.{value}
use Rattle.xmp_tree.specs.Wf.{value_of}
use Rattle.rdf_forms.specs.Values.{is_value_member, other_members, composed, by_members}
use Rattle.xmp_rdf.proofs.Found.{find-at, find-none, find-passes, filter-remove}

pub by_members-none : (lang types ms : List Member) → None ≡ position is_value_member ms → by_members lang types ms ≡ value (Struct ms) (lang ++ types)
unfolding by_members
by_members-none lang types ms none = ap (composed lang types ms) (find-none is_value_member ms none)

pub by_members-at : (lang types ms : List Member) (at : ℕ) (m : Member) → Some at ≡ position is_value_member ms → slice_get ms at ≡ Some m →
    by_members lang types ms ≡ value (out-Value (value_of m)).shape (lang ++ ((out-Value (value_of m)).quals ++ (types ++ other_members (remove ms at))))
unfolding by_members
by_members-at lang types ms at m place there =
    let found = find-at is_value_member ms at m place there in
    let same = filter-remove (λ m. not (is_value_member m)) ms at m there (ap not (find-passes is_value_member ms m found)) in
    ap (composed lang types ms) found
    ∙ ap (λ others. value (out-Value (value_of m)).shape (lang ++ ((out-Value (value_of m)).quals ++ (types ++ others)))) (sym same)
