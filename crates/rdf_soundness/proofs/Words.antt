-- What the words on names say: tests as facts.
use Rattle.std.proofs.Common.{◌≡◌, ◌≢◌, ◌↔◌, ℕ, Bool, true, false, not, ◌&&◌, ◌||◌, List, [], ◌∷◌, refl, sym, ap, ◌∙◌}
use Rattle.std.specs.Prelude.{AllPairs, codes}
use Rattle.std.specs.List.{list_any}
use Rattle.std.specs.Str.{bytes_eq}
use Rattle.std.proofs.lemmas.Bool.{and_parts, and_from, not-true, both_ways}
use Rattle.xmp_values.specs.declared.text.Name.{Name}
use Rattle.xml_grammar.specs.Nesting.{has_twice}
use Rattle.xml_grammar.specs.Sound.{IsSoundName}
use Rattle.xml_grammar.proofs.SoundPieces.{same_bytes, bytes_same}
use Rattle.xml_grammar.proofs.Repeats.{apart_from_test, fails_differ}
pub use Rattle.xmp_values.proofs.SameNames.{same_name_is}
use Rattle.xmp_tree.specs.Wf.{IsOwnSpace, IsNamed, lang_name, type_name}
use Rattle.rdf_forms.specs.Words.{rdf_space, xml_space, same_name, rdf, is_rdf, in_rdf, in_xml, in_none, is_member_name}
use Rattle.rdf_forms.specs.MemberRules.{has_again}

-- ---- names that are the same

again_is : (ns : List Name) → has_again ns ≡ has_twice same_name ns
again_is [] = refl
again_is (n ∷ ns) = ap (λ (b : Bool). list_any (same_name n) ns || b) (again_is ns)

-- names of which none stands again
pub names_apart : (ns : List Name) → has_again ns ≡ false → AllPairs (λ m n. m ≢ n) ns
names_apart ns h =
    apart_from_test Name same_name (λ m n. m ≢ n) (λ m n. fails_differ Name (same_name m n) m n (same_name_is m n)) ns (sym (again_is ns) ∙ h)

-- ---- names of RDF

pub rdf_is : (local : List ℕ) (n : Name) → is_rdf local n ≡ true → n ≡ rdf local
unfolding is_rdf
rdf_is local n h =
    let parts = and_parts (bytes_eq n.space rdf_space) (bytes_eq n.local local) h in
    let space = same_bytes n.space rdf_space parts.0 in
    let same = same_bytes n.local local parts.1 in
    λ i. record { space = space i; local = same i }

pub is_rdf_from : (local : List ℕ) (n : Name) → n ≡ rdf local → is_rdf local n ≡ true
unfolding is_rdf
is_rdf_from local n same =
    and_from (bytes_eq n.space rdf_space) (bytes_eq n.local local) (bytes_same n.space rdf_space (ap (λ (z : Name). z.space) same))
    (bytes_same n.local local (ap (λ (z : Name). z.local) same))

pub rdf_in : (local : List ℕ) (n : Name) → is_rdf local n ≡ true → in_rdf n ≡ true
unfolding is_rdf in_rdf
rdf_in local n h = (and_parts (bytes_eq n.space rdf_space) (bytes_eq n.local local) h).0

pub type_is : (n : Name) → (is_rdf (codes "type") n ≡ true) ↔ (n ≡ type_name)
unfolding type_name
type_is n = (rdf_is (codes "type") n, is_rdf_from (codes "type") n)

-- ---- namespaces

pub not_lang : (n : Name) → in_xml n ≡ false → n ≢ lang_name
unfolding in_xml lang_name
not_lang n h same = both_ways (bytes_eq n.space xml_space) h (bytes_same n.space xml_space (ap (λ (z : Name). z.space) same))

-- a namespace that is none of these three
pub record IsOutside (n : Name) : Type 0 where
  pub some : in_none n ≡ false
  pub not_rdf : in_rdf n ≡ false
  pub not_xml : in_xml n ≡ false

pub own_outside : (n : Name) → is_member_name n ≡ true → IsOutside n
unfolding is_member_name
own_outside n h =
    let front = and_parts (not (in_none n) && not (in_rdf n)) (not (in_xml n)) h in
    let parts = and_parts (not (in_none n)) (not (in_rdf n)) front.0 in
    record { some = not-true (in_none n) parts.0; not_rdf = not-true (in_rdf n) parts.1; not_xml = not-true (in_xml n) front.1 }

pub own_space : (n : Name) → IsSoundName n → IsOutside n → IsOwnSpace n.space
unfolding in_none in_rdf in_xml
own_space n sound h = record {
  some = λ e. both_ways (bytes_eq n.space []) h.some (bytes_same n.space [] e);
  not_rdf = λ e. both_ways (bytes_eq n.space rdf_space) h.not_rdf (bytes_same n.space rdf_space e);
  not_xml = λ e. both_ways (bytes_eq n.space xml_space) h.not_xml (bytes_same n.space xml_space e);
  not_xmlns = sound.free;
}

pub sound_named : (n : Name) → IsSoundName n → IsNamed n
sound_named n sound = record { chars = sound.chars; local = sound.named }

pub outside_not_rdf : (local : List ℕ) (n : Name) → IsOutside n → is_rdf local n ≡ false
outside_not_rdf local n h = by (is_rdf local n) (rdf_in local n)
  where
    by : (b : Bool) → (b ≡ true → in_rdf n ≡ true) → b ≡ false
    by true tells = absurd (both_ways (in_rdf n) h.not_rdf (tells refl))
    by false tells = refl
