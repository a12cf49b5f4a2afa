-- Two names are the same where the test of their bytes says so.
use Rattle.std.proofs.Common.{◌≡◌, ◌↔◌, true, ap}
use Rattle.std.specs.Str.{bytes_eq}
use Rattle.std.proofs.lemmas.Bool.{and_parts, and_from}
use Rattle.std.proofs.lemmas.Slice.Eq.{bytes_eq-Decides}
use Rattle.xmp_values.specs.declared.text.Name.{Name}
use Rattle.xmp_values.specs.Names.{same_name}

pub same_name_is : (m n : Name) → (same_name m n ≡ true) ↔ (m ≡ n)
unfolding same_name
same_name_is m n = (
  λ h. let both = and_parts (bytes_eq m.space n.space) (bytes_eq m.local n.local) h in
      let space = (bytes_eq-Decides m.space n.space).0 both.0 in
      let local = (bytes_eq-Decides m.local n.local).0 both.1 in
      λ i. record { space = space i; local = local i },
  λ e. and_from _ _ ((bytes_eq-Decides m.space n.space).1 (ap (λ (k : Name). k.space) e)) ((bytes_eq-Decides m.local n.local).1 (ap (λ (k : Name). k.local) e)),
)
