-- The tag of `rdf:Description`: its about and its declarations of prefixes.
use Rattle.std.proofs.Common.{◌≡◌, ℕ, Bool, true, false, cond, List, [], ◌∷◌, ◌++◌, map, Some, refl, ap, sym, subst, ◌∙◌}
use Rattle.std.specs.Prelude.{All, codes, encode_utf8_all}
use Rattle.std.specs.List.{list_any}
use Rattle.std.specs.Str.{bytes_eq}
use lib.Utf8.{encode}
use Rattle.std.proofs.lemmas.Bool.{or_from}
use Rattle.std.proofs.lemmas.List.Elements.{All-nil, All-cons, All-head, All-tail}
use Rattle.std.proofs.lemmas.Str.{encodes-append}
use Rattle.xmp_values.specs.Characters.{is_name_start, is_name_char, IsCharText, IsName}
use Rattle.xmp_values.specs.declared.hints.Hint.{Hint}
use Rattle.xml_grammar.specs.declared.tags.RawAttribute.{RawAttribute}
use Rattle.xml_grammar.specs.Spelling.{SpellsQName}
use Rattle.xml_grammar.specs.Scopes.{Binding, bindings_of, plain_attributes, bound_to, is_misbound, same_qname}
use Rattle.xml_grammar.specs.Nesting.{has_twice}
use Rattle.xml_grammar.proofs.SoundPieces.{same_bytes, bytes_same}
use Rattle.round_trip.proofs.Premises.{bound_by, IsDeclarable, AreDeclarable}
use Rattle.xmp_write.specs.Text.{declared_text, top_text}
use Rattle.xmp_write.specs.Prefixes.{prefix_in}
use Rattle.std.proofs.Math.Utf8.{scalars}
use Rattle.xmp_values.proofs.CharacterTexts.{name_scalars}
use Rattle.round_trip.proofs.Escapes.{scalars_append}
use Rattle.round_trip.proofs.Marks.{in_rdf_prefix, AreSpelled, none_spelled, more_spelled}

abbrev pub declared : Hint → RawAttribute
declared h = record { name = record { prefix = Some (codes "xmlns"); local = h.prefix }; value = h.space }

xmlns_name : (h : Hint) → IsName h.prefix → (chars : List ℕ) × SpellsQName (record { prefix = Some (codes "xmlns"); local = h.prefix }) chars × (encode_utf8_all chars ≡ codes "xmlns:" ++ h.prefix) × (scalars chars ≡ true)
unfolding encode is_name_start is_name_char
xmlns_name h (cs, is, named) =
    (codes "xmlns:" ++ cs, (codes "xmlns", cs, (refl, refl), (named, is), refl), encodes-append (codes "xmlns:") cs ∙ ap (λ (t : List ℕ). codes "xmlns:" ++ t) (sym is), scalars_append (codes "xmlns:") cs refl (name_scalars cs named))

pub declared_spelled : (hs : List Hint) → AreDeclarable hs → AreSpelled (map declared hs) (declared_text hs)
declared_spelled [] h = none_spelled
declared_spelled (g ∷ hs) h =
    let n = xmlns_name g h.0.named in
    more_spelled (record { prefix = Some (codes "xmlns"); local = g.prefix }) n.0 (codes "xmlns:" ++ g.prefix) n.1 n.2 n.3 g.space h.0.chars (map declared hs) (declared_text hs) (declared_spelled hs h.2)

about_word : SpellsQName (in_rdf_prefix (codes "about")) (codes "rdf:about") × (encode_utf8_all (codes "rdf:about") ≡ codes "rdf:about")
unfolding encode is_name_start is_name_char
about_word = ((codes "rdf", codes "about", (refl, refl), (refl, refl), refl), refl)

abbrev pub top_raws : List ℕ → List Hint → List RawAttribute
top_raws about ps = record { name = in_rdf_prefix (codes "about"); value = about } ∷ map declared ps

pub top_spelled : (about : List ℕ) (ps : List Hint) → IsCharText about → AreDeclarable ps → AreSpelled (top_raws about ps) (top_text about ps)
top_spelled about ps text h =
    more_spelled (in_rdf_prefix (codes "about")) (codes "rdf:about") (codes "rdf:about") about_word.0 about_word.1 refl about text (map declared ps) (declared_text ps) (declared_spelled ps h)

-- ---- what they declare

pub declares : (ps : List Hint) → bindings_of (map declared ps) ≡ map bound_by ps
declares [] = refl
declares (h ∷ hs) = ap (λ (bs : List Binding). bound_by h ∷ bs) (declares hs)

pub none_plain : (ps : List Hint) → plain_attributes (map declared ps) ≡ []
none_plain [] = refl
none_plain (h ∷ hs) = none_plain hs

pub none_misbound : (ps : List Hint) → AreDeclarable ps → list_any is_misbound (map bound_by ps) ≡ false
none_misbound [] h = refl
none_misbound (p ∷ ps) h = or_from (is_misbound (bound_by p)) (list_any is_misbound (map bound_by ps)) h.0.allowed (none_misbound ps h.2)

none_again : (h : Hint) (hs : List Hint) → All (λ g. bytes_eq h.prefix g.prefix ≡ false) hs
    → list_any (λ (b : RawAttribute). same_qname (declared h).name b.name) (map declared hs) ≡ false
none_again h [] all = refl
none_again h (g ∷ hs) all =
    or_from (bytes_eq h.prefix g.prefix) (list_any (λ (b : RawAttribute). same_qname (declared h).name b.name) (map declared hs))
    (All-head (λ g. bytes_eq h.prefix g.prefix ≡ false) g hs all) (none_again h hs (All-tail (λ g. bytes_eq h.prefix g.prefix ≡ false) g hs all))

declared_once : (hs : List Hint) → AreDeclarable hs → has_twice (λ (a b : RawAttribute). same_qname a.name b.name) (map declared hs) ≡ false
declared_once [] h = refl
declared_once (g ∷ hs) h =
    or_from (list_any (λ (b : RawAttribute). same_qname (declared g).name b.name) (map declared hs)) (has_twice (λ (a b : RawAttribute). same_qname a.name b.name) (map declared hs))
    (none_again g hs h.1) (declared_once hs h.2)

no_about : (about : List ℕ) (hs : List Hint) → list_any (λ (b : RawAttribute). same_qname (in_rdf_prefix (codes "about")) b.name) (map declared hs) ≡ false
no_about about [] = refl
no_about about (h ∷ hs) = no_about about hs

pub top_once : (about : List ℕ) (ps : List Hint) → AreDeclarable ps → has_twice (λ (a b : RawAttribute). same_qname a.name b.name) (top_raws about ps) ≡ false
top_once about ps h =
    or_from (list_any (λ (b : RawAttribute). same_qname (in_rdf_prefix (codes "about")) b.name) (map declared ps)) (has_twice (λ (a b : RawAttribute). same_qname a.name b.name) (map declared ps))
    (no_about about ps) (declared_once ps h)

-- ---- what is bound after them

-- a prefix that none of them declares
pub bound_after : (ps : List Hint) (outer : List Binding) (prefix : List ℕ) → All (λ h. bytes_eq h.prefix prefix ≡ false) ps
    → bound_to (map bound_by ps ++ outer) (Some prefix) ≡ bound_to outer (Some prefix)
bound_after [] outer prefix all = refl
bound_after (h ∷ hs) outer prefix all =
    ap (λ (b : Bool). cond b (Some h.space) (bound_to (map bound_by hs ++ outer) (Some prefix))) (All-head (λ h. bytes_eq h.prefix prefix ≡ false) h hs all)
    ∙ bound_after hs outer prefix (All-tail (λ h. bytes_eq h.prefix prefix ≡ false) h hs all)

pub each_fresh : (word : List ℕ) (tells : (h : Hint) → IsDeclarable h → bytes_eq h.prefix word ≡ false) (ps : List Hint) → AreDeclarable ps → All (λ h. bytes_eq h.prefix word ≡ false) ps
each_fresh word tells [] h = All-nil (λ h. bytes_eq h.prefix word ≡ false)
each_fresh word tells (p ∷ ps) h = All-cons (λ h. bytes_eq h.prefix word ≡ false) p ps (tells p h.0) (each_fresh word tells ps h.2)

found_differs : (h : Hint) (hs : List Hint) (space prefix : List ℕ) → All (λ g. bytes_eq h.prefix g.prefix ≡ false) hs → prefix_in hs space ≡ Some prefix → bytes_eq h.prefix prefix ≡ false
found_differs h [] space prefix all is = absurd cc
found_differs h (g ∷ hs) space prefix all is = by (bytes_eq space g.space) is (found_differs h hs space prefix (All-tail (λ g. bytes_eq h.prefix g.prefix ≡ false) g hs all))
  where
    by : (b : Bool) → cond b (Some g.prefix) (prefix_in hs space) ≡ Some prefix → (prefix_in hs space ≡ Some prefix → bytes_eq h.prefix prefix ≡ false) → bytes_eq h.prefix prefix ≡ false
    by true is rest = let same : g.prefix ≡ prefix = cc in ap (bytes_eq h.prefix) (sym same) ∙ All-head (λ g. bytes_eq h.prefix g.prefix ≡ false) g hs all
    by false is rest = rest is

-- the prefix that the list has for a namespace is bound to it
pub bound_here : (ps : List Hint) (outer : List Binding) (space prefix : List ℕ) → AreDeclarable ps → prefix_in ps space ≡ Some prefix
    → bound_to (map bound_by ps ++ outer) (Some prefix) ≡ Some space
bound_here [] outer space prefix h is = absurd cc
bound_here (g ∷ hs) outer space prefix h is = by (bytes_eq space g.space) refl is (bound_here hs outer space prefix h.2)
  where
    by : (b : Bool) → bytes_eq space g.space ≡ b → cond b (Some g.prefix) (prefix_in hs space) ≡ Some prefix
        → (prefix_in hs space ≡ Some prefix → bound_to (map bound_by hs ++ outer) (Some prefix) ≡ Some space)
        → cond (bytes_eq g.prefix prefix) (Some g.space) (bound_to (map bound_by hs ++ outer) (Some prefix)) ≡ Some space
    by true e is rest =
        let same : g.prefix ≡ prefix = cc in
        ap (λ (b : Bool). cond b (Some g.space) (bound_to (map bound_by hs ++ outer) (Some prefix))) (bytes_same g.prefix prefix same) ∙ ap (λ (t : List ℕ). Some t) (sym (same_bytes space g.space e))
    by false e is rest =
        ap (λ (b : Bool). cond b (Some g.space) (bound_to (map bound_by hs ++ outer) (Some prefix))) (found_differs g hs space prefix h.1 is) ∙ rest is

pub found_named : (ps : List Hint) (space prefix : List ℕ) → AreDeclarable ps → prefix_in ps space ≡ Some prefix → IsName prefix
found_named [] space prefix h is = absurd cc
found_named (g ∷ hs) space prefix h is = by (bytes_eq space g.space) is (found_named hs space prefix h.2)
  where
    by : (b : Bool) → cond b (Some g.prefix) (prefix_in hs space) ≡ Some prefix → (prefix_in hs space ≡ Some prefix → IsName prefix) → IsName prefix
    by true is rest = let same : g.prefix ≡ prefix = cc in subst IsName same h.0.named
    by false is rest = rest is
