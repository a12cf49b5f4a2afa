-- A namespace that a prefix leads to is one that a name may have.
use Rattle.std.proofs.Common.{◌≡◌, ◌≢◌, ℕ, Bool, true, List, [], ◌∷◌, Option, Some, None, refl, codes}
use Rattle.std.specs.Prelude.{All, IfSome, option_map, not, ◌&&◌}
use Rattle.std.specs.Option.{option_or}
use Rattle.std.specs.List.{find}
use Rattle.std.specs.Str.{bytes_eq}
use Rattle.std.proofs.lemmas.List.Elements.{All-nil, All-cons, All-head, All-tail}
use Rattle.std.specs.Char.{encode_utf8}
use Rattle.std.proofs.lemmas.Bool.{and_parts, not-true, both_ways}
use Rattle.std.proofs.lemmas.Slice.Eq.{bytes_eq-Decides}
use Rattle.xmp_values.specs.declared.hints.Hint.{Hint}
use Rattle.xmp_values.specs.Characters.{IsCharText, is_char}
use Rattle.xmp_values.specs.Hints.{IsValidHint, space_in}
use Rattle.xmp_values.specs.Spaces.{rdf_space, xml_space, xmlns_space, meta_space}
use Rattle.xmp_values.proofs.CharacterTexts.{IsCharText-spells}
use Rattle.known_prefixes.specs.Prefixes.{known_prefixes, known_space}
use Rattle.xmp_paths.specs.Parts.{Bindings}
use Rattle.xmp_paths.specs.Namespaces.{space_of, AreBound}
use Rattle.xmp_paths.proofs.Options.{some_if}

pub record IsSpace (space : List ℕ) : Type 0 where
  pub chars : IsCharText space
  pub some : space ≢ []
  pub bound : space ≢ xmlns_space

-- what is found in a list keeps what all of it keep
found : {X : Type 0} (P : X → Type 0) (p : X → Bool) (xs : List X) → All P xs → IfSome (find p xs) P
found P p [] h = tt
found P p (x ∷ xs) h = some_if P (p x) (Some x) (find p xs) (All-head P x xs h) (found P p xs (All-tail P x xs h))

hinted : (hints : List Hint) (prefix : List ℕ) → All IsValidHint hints → IfSome (space_in hints prefix) IsSpace
hinted [] prefix valid = tt
hinted (h ∷ hs) prefix valid =
    let v = All-head IsValidHint h hs valid in
    some_if IsSpace (bytes_eq prefix h.prefix) (Some h.space) (space_in hs prefix) record { chars = v.chars; some = v.spaced; bound = v.bound } (hinted hs prefix (All-tail IsValidHint h hs valid))

abbrev IsKnown : List ℕ × List ℕ → Type 0
IsKnown k = IsSpace k.0

-- a fact of each of a list, one by one
abbrev Each : List (List ℕ × List ℕ) → Type 0
Each [] = Unit {0}
Each (k ∷ ks) = IsKnown k × Each ks

each_all : (ks : List (List ℕ × List ℕ)) → Each ks → All IsKnown ks
each_all [] h = All-nil IsKnown
each_all (k ∷ ks) h = All-cons IsKnown k ks h.0 (each_all ks h.1)

-- neither empty nor that of `xmlns`
abbrev is_free : List ℕ → Bool
is_free space = not (bytes_eq space []) && not (bytes_eq space xmlns_space)

free_space : (space : List ℕ) → IsCharText space → is_free space ≡ true → IsSpace space
free_space space chars free =
    let parts = and_parts (not (bytes_eq space [])) (not (bytes_eq space xmlns_space)) free in
    record {
      chars = chars;
      some = λ e. both_ways (bytes_eq space []) (not-true _ parts.0) ((bytes_eq-Decides space []).1 e);
      bound = λ e. both_ways (bytes_eq space xmlns_space) (not-true _ parts.1) ((bytes_eq-Decides space xmlns_space).1 e);
    }

all_known : All IsKnown known_prefixes
unfolding rdf_space xml_space xmlns_space meta_space is_char encode_utf8
all_known = each_all known_prefixes ((
  free_space rdf_space ((IsCharText-spells rdf_space).1 (rdf_space, refl, refl)) refl,
  (
    free_space xml_space ((IsCharText-spells xml_space).1 (xml_space, refl, refl)) refl,
    (
      free_space meta_space ((IsCharText-spells meta_space).1 (meta_space, refl, refl)) refl,
      (
        free_space (codes "http://purl.org/dc/elements/1.1/") ((IsCharText-spells (codes "http://purl.org/dc/elements/1.1/")).1 ((codes "http://purl.org/dc/elements/1.1/"), refl, refl)) refl,
        (
          free_space (codes "http://ns.adobe.com/xap/1.0/") ((IsCharText-spells (codes "http://ns.adobe.com/xap/1.0/")).1 ((codes "http://ns.adobe.com/xap/1.0/"), refl, refl)) refl,
          (
            free_space (codes "http://ns.adobe.com/xap/1.0/mm/") ((IsCharText-spells (codes "http://ns.adobe.com/xap/1.0/mm/")).1 ((codes "http://ns.adobe.com/xap/1.0/mm/"), refl, refl)) refl,
            (
              free_space (codes "http://ns.adobe.com/xap/1.0/rights/") ((IsCharText-spells (codes "http://ns.adobe.com/xap/1.0/rights/")).1 ((codes "http://ns.adobe.com/xap/1.0/rights/"), refl, refl)) refl,
              (
                free_space (codes "http://ns.adobe.com/photoshop/1.0/") ((IsCharText-spells (codes "http://ns.adobe.com/photoshop/1.0/")).1 ((codes "http://ns.adobe.com/photoshop/1.0/"), refl, refl)) refl,
                (
                  free_space (codes "http://ns.adobe.com/tiff/1.0/") ((IsCharText-spells (codes "http://ns.adobe.com/tiff/1.0/")).1 ((codes "http://ns.adobe.com/tiff/1.0/"), refl, refl)) refl,
                  (
                    free_space (codes "http://ns.adobe.com/exif/1.0/") ((IsCharText-spells (codes "http://ns.adobe.com/exif/1.0/")).1 ((codes "http://ns.adobe.com/exif/1.0/"), refl, refl)) refl,
                    (
                      free_space (codes "http://ns.adobe.com/xmp/note/") ((IsCharText-spells (codes "http://ns.adobe.com/xmp/note/")).1 ((codes "http://ns.adobe.com/xmp/note/"), refl, refl)) refl,
                      (
                        free_space (codes "http://iptc.org/std/Iptc4xmpCore/1.0/xmlns/") ((IsCharText-spells (codes "http://iptc.org/std/Iptc4xmpCore/1.0/xmlns/")).1 ((codes "http://iptc.org/std/Iptc4xmpCore/1.0/xmlns/"), refl, refl)) refl,
                        tt,
                      ),
                    ),
                  ),
                ),
              ),
            ),
          ),
        ),
      ),
    ),
  ),
))

known : (prefix : List ℕ) → IfSome (known_space prefix) IsSpace
known prefix = by (find (λ k. bytes_eq prefix k.1) known_prefixes) (found IsKnown (λ k. bytes_eq prefix k.1) known_prefixes all_known)
  where
    by : (o : Option (List ℕ × List ℕ)) → IfSome o IsKnown → IfSome (option_map (λ k. k.0) o) IsSpace
    by (Some k) v = v
    by None v = tt

either : {X : Type 0} (P : X → Type 0) (a b : Option X) → IfSome a P → IfSome b P → IfSome (option_or a b) P
either P (Some x) b h t = h
either P None b h t = t

pub space_is : (b : Bindings) (prefix : List ℕ) → AreBound b → IfSome (space_of b prefix) IsSpace
space_is b prefix bound =
    either IsSpace (space_in b.lines prefix) (option_or (known_space prefix) (space_in b.hints prefix)) (hinted b.lines prefix bound.lines)
    (either IsSpace (known_space prefix) (space_in b.hints prefix) (known prefix) (hinted b.hints prefix bound.hints.each))
