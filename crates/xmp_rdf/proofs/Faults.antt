-- The first fault of elements one after another, and what is read unless there is one.
use Rattle.std.proofs.Common.{◌≡◌, List, [], ◌∷◌, ◌++◌, refl, sym, ap, ◌∙◌}
use Rattle.std.specs.Prelude.{Option, Some, None, Result, Ok, Err}
use Rattle.rdf_forms.specs.Visits.{Visit}
use Rattle.std.specs.Option.{option_or}
use Rattle.rdf_forms.specs.Rules.{fault_at, first_fault}
use Rattle.xmp_rdf.specs.Meanings.{Fault, unless}

pub option_or_assoc : {X : Type 0} (a b c : Option X) → option_or (option_or a b) c ≡ option_or a (option_or b c)
option_or_assoc (Some x) b c = refl
option_or_assoc None b c = refl

pub option_or_none : {X : Type 0} (a : Option X) → option_or a None ≡ a
option_or_none (Some x) = refl
option_or_none None = refl

pub first_fault-append : (vs ws : List Visit) → first_fault (vs ++ ws) ≡ option_or (first_fault vs) (first_fault ws)
first_fault-append [] ws = refl
first_fault-append (v ∷ vs) ws =
    ap (option_or (fault_at v)) (first_fault-append vs ws) ∙ sym (option_or_assoc (fault_at v) (first_fault vs) (first_fault ws))

-- what is read after what was read
abbrev pub and_then : {X Y : Type 0} → Result X Fault → (X → Result Y Fault) → Result Y Fault
and_then (Ok x) more = more x
and_then (Err e) more = Err e

pub and_then-ok : {X Y : Type 0} (r : Result X Fault) (x : X) (more : X → Result Y Fault) → r ≡ Ok x → and_then r more ≡ more x
and_then-ok r x more is = ap (λ s. and_then s more) is

pub and_then-err : {X Y : Type 0} (r : Result X Fault) (e : Fault) (more : X → Result Y Fault) → r ≡ Err e → and_then r more ≡ Err e
and_then-err r e more is = ap (λ s. and_then s more) is

pub unless-and_then : {X Y : Type 0} (f g : Option Fault) (x : X) (y : Y) → unless (option_or f g) y ≡ and_then (unless f x) (λ _. unless g y)
unless-and_then None g x y = refl
unless-and_then (Some e) g x y = refl

pub unless-made : {X Y : Type 0} (f : Option Fault) (x : X) (make : X → Y) → unless f (make x) ≡ and_then (unless f x) (λ z. Ok (make z))
unless-made None x make = refl
unless-made (Some e) x make = refl

-- what was read shows that there is no fault
pub unless-ok : {Y : Type 0} (f : Option Fault) (y x : Y) → unless f y ≡ Ok x → (f ≡ None) × (y ≡ x)
unless-ok None y x is = (refl, cc)
unless-ok (Some e) y x is = absurd cc
