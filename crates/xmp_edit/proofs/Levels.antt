-- One level of a value: what keeps the fields, the items or the qualifiers keeps the value.
use Rattle.std.proofs.Common.{◌≡◌, ◌-◌, ◌≤◌, ℕ, List, sym, subst}
use Rattle.std.specs.Prelude.{All, Result, Ok, Err}
use Rattle.xmp_values.specs.declared.rules.Rule.{Rule}
use Rattle.xmp_tree.specs.declared.nested.Value.{Value, out-Value, out-roll-Value}
use Rattle.xmp_tree.specs.declared.nested.Member.{Member}
use Rattle.xmp_tree.specs.declared.nested.Shape.{Shape, Shape-F, out-Shape, roll-Shape, roll-out-Shape, Struct, Array}
use Rattle.xmp_tree.specs.declared.nested.Shape.TheVariants.{rolls-Struct, rolls-Array}
use Rattle.xmp_tree.specs.declared.nested.Shape.TheOpen as layer
use Rattle.xmp_tree.specs.Parts.{value}
use Rattle.xmp_tree.specs.Wf.{IsWfValue, IsWfShape, value_depth, shape_depth, AreWellFormed, AreWellFormedQualifiers}
use Rattle.xmp_tree.proofs.WfLemmas.{within_value, within_struct, within_array}
use Rattle.xmp_edit.specs.Edits.{ok_map, fields_changed, items_changed, shape_changed, quals_changed}
use Rattle.xmp_edit.specs.Allowed.{IsWithin, IfGiven}

pub given_map : {X Y : Type 0} (P : X → Type 0) (Q : Y → Type 0) (g : X → Y) → ((x : X) → P x → Q (g x)) → (r : Result X Rule) → IfGiven P r → IfGiven Q (ok_map g r)
given_map P Q g over (Ok x) h = over x h
given_map P Q g over (Err e) h = tt

abbrev pub IsShapeWithin : ℕ → Shape → Type 0
IsShapeWithin room s = IsWfShape s × (shape_depth s ≤ room)

abbrev pub AreItems : ℕ → List Value → Type 0
AreItems room vs = All IsWfValue vs × All (λ v. value_depth v ≤ room) vs

pub fields_level : (room : ℕ) (f : List Member → Result (List Member) Rule) → ((ms : List Member) → AreWellFormed room ms → IfGiven (AreWellFormed room) (f ms)) →
    (l : Shape-F Shape Member Value) → IsShapeWithin room (roll-Shape l) → IfGiven (IsShapeWithin room) (fields_changed f l)
fields_level room f keeps (layer.Simple text) h = tt
fields_level room f keeps (layer.Uri text) h = tt
fields_level room f keeps (layer.Struct fields) h =
    given_map (AreWellFormed room) (IsShapeWithin room) Struct (λ ms. (within_struct ms room).1) (f fields)
    (keeps fields ((within_struct fields room).0 (subst (IsShapeWithin room) (rolls-Struct fields) h)))
fields_level room f keeps (layer.Array kind items) h = tt

pub items_level : (room : ℕ) (f : List Value → Result (List Value) Rule) → ((vs : List Value) → AreItems room vs → IfGiven (AreItems room) (f vs)) →
    (l : Shape-F Shape Member Value) → IsShapeWithin room (roll-Shape l) → IfGiven (IsShapeWithin room) (items_changed f l)
items_level room f keeps (layer.Simple text) h = tt
items_level room f keeps (layer.Uri text) h = tt
items_level room f keeps (layer.Struct fields) h = tt
items_level room f keeps (layer.Array kind items) h =
    given_map (AreItems room) (IsShapeWithin room) (Array kind) (λ vs. (within_array kind vs room).1) (f items)
    (keeps items ((within_array kind items room).0 (subst (IsShapeWithin room) (rolls-Array kind items) h)))

module _ (room : ℕ) (some : room ≡ 0 → ⊥) where
  pub made_value : (s : Shape) (q : List Member) → IsShapeWithin (room - 1) s → AreWellFormedQualifiers (room - 1) q → IsWithin room (value s q)
  made_value s q hs hq = (within_value (value s q) room some).1 (rw (out-roll-Value record { shape = s; quals = q }) (hs, hq))

  pub shape_level : (v : Value) → IsWithin room v → (f : Shape-F Shape Member Value → Result Shape Rule) →
      ((l : Shape-F Shape Member Value) → IsShapeWithin (room - 1) (roll-Shape l) → IfGiven (IsShapeWithin (room - 1)) (f l)) → IfGiven (IsWithin room) (shape_changed f v)
  shape_level v h f keeps =
      let w = (within_value v room some).0 h in
      let s = (out-Value v).shape in
      given_map (IsShapeWithin (room - 1)) (IsWithin room) (λ t. value t (out-Value v).quals) (λ t ht. made_value t (out-Value v).quals ht w.1)
      (f (out-Shape s)) (keeps (out-Shape s) (subst (IsShapeWithin (room - 1)) (sym (roll-out-Shape s)) w.0))

  pub quals_level : (v : Value) → IsWithin room v → (f : List Member → Result (List Member) Rule) →
      ((ms : List Member) → AreWellFormedQualifiers (room - 1) ms → IfGiven (AreWellFormedQualifiers (room - 1)) (f ms)) → IfGiven (IsWithin room) (quals_changed f v)
  quals_level v h f keeps =
      let w = (within_value v room some).0 h in
      given_map (AreWellFormedQualifiers (room - 1)) (IsWithin room) (value (out-Value v).shape) (λ q hq. made_value (out-Value v).shape q w.0 hq)
      (f (out-Value v).quals) (keeps (out-Value v).quals w.1)
