-- What a change at one name leaves at any name.
use Rattle.std.proofs.Common.{◌≡◌, ℕ, Bool, true, false, List, [], Option, None, refl, sym, ap, ◌∙◌}
use Rattle.std.specs.Prelude.{if◌then◌else◌, Vec}
use Rattle.std.specs.declared.alloc.Global.{Global}
use Rattle.std.specs.Str.{bytes_eq}
use Rattle.std.specs.Ordering.{is_eq, nat_cmp}
use Rattle.std.specs.Cmp.{eq_by_cmp_equiv}
use Rattle.std.specs.Cmp.Lexicographic.{slice_cmp, nat_list_cmp_total}
use Rattle.std.specs.Map.{lookup, IsKeyTest, AreApart, KeepsOthers}
use Rattle.std.specs.BTreeMap.{BTreeMap, UpdatesBy, is_at}
use Rattle.std.proofs.lemmas.Map.Text.{is_eq-slice_cmp}
use Rattle.xml_grammar.proofs.SoundPieces.{same_bytes, bytes_same}
use Rattle.xml_grammar.proofs.Parts.{apart}
use Rattle.xmp_xml.specs.Named.{named_at}

pub named_none : {X : Type 0} (m : BTreeMap (Vec ℕ Global) X) → m.entries ≡ [] → (q : List ℕ) → named_at m q ≡ None
named_none m none q = ap (lookup (is_at (λ (k : Vec ℕ Global). slice_cmp nat_cmp q k.items))) none

other_entries : {K X : Type 0} (eq : K → K → Bool) (test : K → Bool) (old new : List (K × X)) → KeepsOthers eq test old new → (other : K → Bool) → IsKeyTest eq other → AreApart test other → lookup other new ≡ lookup other old
unfolding KeepsOthers
other_entries eq test old new h = h

-- a key of the one name is none of the other
apart_in_order : (name q key : List ℕ) → bytes_eq name q ≡ false → is_eq (slice_cmp nat_cmp name key) ≡ true → is_eq (slice_cmp nat_cmp q key) ≡ false
apart_in_order name q key differ at =
    apart (is_eq (slice_cmp nat_cmp q key)) (λ also.
    let one : name ≡ key = same_bytes name key (sym (is_eq-slice_cmp name key) ∙ at) in
    let other : q ≡ key = same_bytes q key (sym (is_eq-slice_cmp q key) ∙ also) in
    let bad : true ≡ false = sym (bytes_same name q (one ∙ sym other)) ∙ differ in
    cc)

by_name : {W : Type 0} (f g : List ℕ → W) (name : List ℕ) (w : W) → g name ≡ w → ((q : List ℕ) → bytes_eq name q ≡ false → g q ≡ f q) → (q : List ℕ) → g q ≡ (if bytes_eq name q then w else f q)
by_name f g name w here other q = by (bytes_eq name q) refl
  where
    by : (b : Bool) → bytes_eq name q ≡ b → g q ≡ (if b then w else f q)
    by true e = ap g (sym (same_bytes name q e)) ∙ here
    by false e = other q e

pub named_updates : {X : Type 0} (name : List ℕ) (m n : BTreeMap (Vec ℕ Global) X) (w : Option X) → UpdatesBy (λ (x y : Vec ℕ Global). slice_cmp nat_cmp x.items y.items) (λ (k : Vec ℕ Global). slice_cmp nat_cmp name k.items) m n w
    → (q : List ℕ) → named_at n q ≡ (if bytes_eq name q then w else named_at m q)
named_updates name m n w h =
    by_name (named_at m) (named_at n) name w h.1
    (λ q e. other_entries _ _ m.entries n.entries h.3 (is_at (λ (k : Vec ℕ Global). slice_cmp nat_cmp q k.items))
    (λ x y. (eq_by_cmp_equiv nat_list_cmp_total).congr q x.items y.items)
    (λ k. apart_in_order name q k.items e))
