-- The prefixes of a text may be declared in one tag.
use Rattle.std.proofs.Common.{◌≡◌, ◌≢◌, ℕ, suc, false, not, List, [], ◌∷◌, length, get_or, ap, sym, ◌∙◌, refl, arith}
use Rattle.std.specs.Prelude.{All, AllPairs, codes, filter}
use Rattle.std.specs.Str.{bytes_eq}
use Rattle.std.proofs.lemmas.Bool.{false_from_ne_true, not_from_false}
use Rattle.std.proofs.lemmas.List.Elements.{All-cons, All-head, All-tail}
use Rattle.std.proofs.lemmas.List.Kept.{AllPairs-cons}
use Rattle.xmp_values.specs.Spaces.{meta_space, rdf_space}
use Rattle.xmp_values.specs.declared.hints.Hint.{Hint}
use Rattle.known_prefixes.specs.Prefixes.{is_fixed, begins_xml}
use Rattle.xml_grammar.specs.Scopes.{xml_space, xmlns_space, is_misbound}
use Rattle.xml_grammar.proofs.SoundPieces.{same_bytes}
use Rattle.xml_grammar.specs.Trees.{first_hints}
use Rattle.rdf_soundness.proofs.Lists.{filter_all}
use Rattle.round_trip.specs.Law.{meta_hint, rdf_hint, declared_hints}
use Rattle.xmp_write.specs.PrefixLaws.{IsDeclared, AreDeclared}
use Rattle.round_trip.proofs.Premises.{bound_by, IsDeclarable, AreDeclarable}

pub bytes_differ : (a b : List ℕ) → a ≢ b → bytes_eq a b ≡ false
bytes_differ a b apart = false_from_ne_true (bytes_eq a b) (λ is. apart (same_bytes a b is))

not_xml : (h : Hint) → IsDeclared h → bytes_eq h.prefix (codes "xml") ≡ false
not_xml h d = bytes_differ h.prefix (codes "xml") (λ is. let wrong = ap begins_xml (sym is) ∙ d.not_xml in absurd cc)

not_xmlns : (h : Hint) → IsDeclared h → bytes_eq h.prefix (codes "xmlns") ≡ false
not_xmlns h d = bytes_differ h.prefix (codes "xmlns") (λ is. let wrong = ap begins_xml (sym is) ∙ d.not_xml in absurd cc)

not_misbound : (h : Hint) → IsDeclared h → is_misbound (bound_by h) ≡ false
not_misbound h d =
    rw (not_xmlns h d, not_xml h d, bytes_differ h.space xml_space d.own.not_xml, bytes_differ h.space xmlns_space d.own.not_xmlns, bytes_differ h.space [] d.own.some) refl

declarable : (h : Hint) → IsDeclared h → IsDeclarable h
declarable h d = record {
  named = d.named;
  chars = d.chars;
  allowed = not_misbound h d;
  not_rdf = bytes_differ h.prefix (codes "rdf") d.not_rdf;
  not_xml = not_xml h d;
  not_x = bytes_differ h.prefix (codes "x") d.not_x;
}

all_declarable : (ps : List Hint) → All IsDeclared ps → AllPairs (λ g h. g.prefix ≢ h.prefix) ps → AreDeclarable ps
all_declarable [] each apart = tt
all_declarable (h ∷ hs) each apart = (
  declarable h (All-head IsDeclared h hs each),
  λ k d within. bytes_differ h.prefix (get_or hs k d).prefix (apart 0 (suc k) d (omega arith) (omega arith)),
  all_declarable hs (All-tail IsDeclared h hs each) (λ i j d lt within. apart (suc i) (suc j) d (omega arith) (omega arith)),
)

pub are_declarable : (ps : List Hint) → AreDeclared ps → AreDeclarable ps
are_declarable ps h = all_declarable ps h.each h.prefixes_apart

-- ---- each namespace is declared once

meta_apart : (space : List ℕ) → is_fixed space ≡ false → meta_space ≢ space
unfolding meta_space rdf_space xml_space
meta_apart space unfixed same = let wrong = ap is_fixed same ∙ unfixed in absurd cc

rdf_apart : (space : List ℕ) → is_fixed space ≡ false → rdf_space ≢ space
unfolding meta_space rdf_space xml_space
rdf_apart space unfixed same = let wrong = ap is_fixed same ∙ unfixed in absurd cc

meta_not_rdf : meta_space ≢ rdf_space
unfolding meta_space rdf_space
meta_not_rdf same = let long = ap length same in omega arith

pub hints_apart : (ps : List Hint) → AreDeclared ps → AllPairs (λ g h. g.space ≢ h.space) (declared_hints ps)
hints_apart ps h =
    AllPairs-cons (λ (g h : Hint). g.space ≢ h.space) meta_hint (rdf_hint ∷ ps)
    (All-cons (λ (h : Hint). meta_space ≢ h.space) rdf_hint ps meta_not_rdf (λ k d within. meta_apart (get_or ps k d).space (h.each k d within).unfixed))
    (AllPairs-cons (λ (g h : Hint). g.space ≢ h.space) rdf_hint ps (λ k d within. rdf_apart (get_or ps k d).space (h.each k d within).unfixed) h.spaces_apart)

pub all_first : (hs : List Hint) → AllPairs (λ g h. g.space ≢ h.space) hs → first_hints hs ≡ hs
all_first [] apart = refl
all_first (h ∷ hs) apart =
    ap (λ (gs : List Hint). h ∷ filter (λ g. not (bytes_eq h.space g.space)) gs) (all_first hs (λ i j d lt within. apart (suc i) (suc j) d (omega arith) (omega arith)))
    ∙ ap (λ (gs : List Hint). h ∷ gs)
    (filter_all (λ g. not (bytes_eq h.space g.space)) hs (λ k d within. not_from_false _ (bytes_differ h.space (get_or hs k d).space (apart 0 (suc k) d (omega arith) (omega arith)))))
