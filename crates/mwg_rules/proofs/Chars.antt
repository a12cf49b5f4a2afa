-- The test of texts that a tree may have.
use Rattle.std.proofs.Common.{◌≡◌, ◌↔◌, ◌∙◌, ℕ, Bool, true, false, cond, List, [], ◌∷◌, Some, None, Option, refl, ap, sym, subst}
use Rattle.std.specs.Prelude.{All, slice_get}
use Rattle.std.proofs.lemmas.Option.{get_or_from_slice_get, slice_get_within}
use Rattle.std.specs.List.{list_all}
use Rattle.std.specs.Option.{option_and_then, option_flatten}
use Rattle.std.specs.Str.{chars, IsUtf8}
use Rattle.std.proofs.lemmas.Bool.{and_parts, and_from}
use Rattle.std.proofs.lemmas.List.Elements.{All-nil, All-cons, All-map}
use Rattle.std.proofs.lemmas.Str.{chars-encodes, encodes-chars, IsUtf8-from_is_utf8, is_utf8-from_IsUtf8}
use Rattle.xmp_values.specs.Characters.{IsCharText, is_char}
use Rattle.xmp_values.proofs.CharacterTexts.{IsCharText-spells, char_scalars}
use Rattle.xmp_tree.specs.declared.nested.Member.{Member}
use Rattle.mwg_rules.specs.declared.choices.Choice.{Choice}
use Rattle.mwg_rules.specs.declared.choices.Choice.TheVariants.{Exif, Xmp, Iptc}
use Rattle.mwg_rules.specs.declared.properties.Property.{Property}
use Rattle.mwg_rules.specs.Properties.{number_of, properties}
use Rattle.mwg_rules.specs.Sources.{Texts, choice_for, choices_for, if_chars, is_chars, preferred, value_at}
use Rattle.mwg_rules.specs.Reconciled.{HasChars, chosen, texts_of}

pub is_chars-IsCharText : (bytes : List ℕ) → IsCharText bytes ↔ (is_chars bytes ≡ true)
unfolding is_chars
is_chars-IsCharText bytes = (
  λ h. let k = (IsCharText-spells bytes).0 h in
      let scalar = char_scalars k.0 k.2 in
      let utf8 : IsUtf8 bytes = (k.0, (scalar, sym k.1)) in
      let spelled : chars bytes ≡ k.0 = ap chars k.1 ∙ chars-encodes k.0 scalar in
      and_from _ _ (is_utf8-from_IsUtf8 bytes utf8) (ap (list_all is_char) spelled ∙ k.2),
  λ h. let both = and_parts _ _ h in
      (IsCharText-spells bytes).1 (chars bytes, sym (encodes-chars bytes (IsUtf8-from_is_utf8 bytes both.0)), both.1),
)

all_chars : (texts : Texts) → list_all is_chars texts ≡ true → All IsCharText texts
all_chars [] h = All-nil IsCharText
all_chars (t ∷ ts) h = let both = and_parts (is_chars t) (list_all is_chars ts) h in All-cons IsCharText t ts ((is_chars-IsCharText t).1 both.0) (all_chars ts both.1)

abbrev AreChars : Option Texts → Type 0
AreChars None = Unit {0}
AreChars (Some texts) = All IsCharText texts

if_chars-chars : (texts : Texts) → AreChars (if_chars texts)
if_chars-chars texts = by (list_all is_chars texts) refl
  where
    by : (b : Bool) → list_all is_chars texts ≡ b → AreChars (cond b (Some texts) None)
    by true e = all_chars texts e
    by false e = tt

held : (o : Option Texts) → AreChars (option_and_then if_chars o)
held None = tt
held (Some texts) = if_chars-chars texts

value_at-chars : (values : List (Option Texts)) (i : ℕ) → AreChars (value_at values i)
unfolding value_at
value_at-chars values i = held _

preferred-chars : (exif iptc : Option Texts) (changed xmp : Bool) → AreChars exif → AreChars iptc → HasChars (preferred exif changed xmp iptc)
unfolding preferred
preferred-chars (Some e) iptc changed xmp he hi = he
preferred-chars None (Some i) true xmp he hi = hi
preferred-chars None (Some i) false true he hi = tt
preferred-chars None (Some i) false false he hi = hi
preferred-chars None None true true he hi = tt
preferred-chars None None true false he hi = tt
preferred-chars None None false true he hi = tt
preferred-chars None None false false he hi = tt

-- what is chosen may stand in a tree
pub choices_for-chars : (exif : List (Option Texts)) (changed : Bool) (iptc : List (Option Texts)) (ms : List Member) → All HasChars (choices_for exif changed iptc ms)
unfolding choices_for
choices_for-chars exif changed iptc ms =
    All-map HasChars (choice_for exif changed iptc ms) properties
    (λ i d lt. preferred-chars (value_at exif _) (value_at iptc _) changed _ (value_at-chars exif _) (value_at-chars iptc _))

texts_of-chars : (c : Option Choice) → HasChars c → AreChars (texts_of c)
texts_of-chars None h = tt
texts_of-chars (Some (Exif texts)) h = h
texts_of-chars (Some Xmp) h = tt
texts_of-chars (Some (Iptc texts)) h = h

-- a choice of a list may stand in a tree
pub chosen_at : (cs : List (Option Choice)) (i : ℕ) (o : Option (Option Choice)) → slice_get cs i ≡ o → All HasChars cs → HasChars (option_flatten o)
chosen_at cs i None is h = tt
chosen_at cs i (Some c) is h = subst HasChars (get_or_from_slice_get cs i c c is) (h i c (slice_get_within cs i c is))

pub chosen-chars : (cs : List (Option Choice)) (p : Property) → All HasChars cs → HasChars (chosen cs p)
chosen-chars cs p h = chosen_at cs (number_of p) (slice_get cs (number_of p)) refl h

-- its texts too
pub texts-chars : (c : Option Choice) (texts : Texts) → HasChars c → texts_of c ≡ Some texts → All IsCharText texts
texts-chars c texts h is = subst AreChars is (texts_of-chars c h)
