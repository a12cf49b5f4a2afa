-- Tags inside an element that break no rule, and elements of them.
use Rattle.std.proofs.Common.{◌≡◌, ℕ, ◌+◌, ◌≤◌, Bool, true, false, not, cond, ◌||◌, List, [], ◌∷◌, ◌++◌, length, Option, Some, None, refl, ap, sym, subst, ◌∙◌, append_assoc, arith}
use Rattle.std.specs.Prelude.{codes, nat_le, encode_utf8_all}
use Rattle.std.specs.List.{list_any, filter_map}
use lib.Utf8.{encode}
use Rattle.std.proofs.lemmas.Bool.{false_from_ne_true, leb-true, and_from}
use Rattle.std.proofs.lemmas.Str.{encodes-append}
use Rattle.xmp_values.specs.declared.rules.Rule.TheVariants.{Mismatch, BadNamespace, UnboundPrefix, TwiceAttribute, TooDeep}
use Rattle.xml_grammar.specs.declared.elements.Attribute.{Attribute}
use Rattle.xml_grammar.specs.declared.tags.QName.{QName}
use Rattle.xml_grammar.specs.declared.tags.RawAttribute.{RawAttribute}
use Rattle.xml_grammar.specs.declared.tags.Tag.{Tag}
use Rattle.xml_grammar.specs.Spelling.{BeginsWith, SpellsQName, SpellsAttributes}
use Rattle.xml_grammar.specs.Pieces.{Start, End}
use Rattle.xmp_values.specs.Names.{same_name}
use Rattle.xml_grammar.specs.Scopes.{Binding, bindings_of, is_misbound, element_name, expanded_attributes, same_prefix, same_qname}
use Rattle.xml_grammar.specs.Nesting.{Level, has_unbound, has_twice, misbinds, unbinds, repeats, is_too_deep, broken}
use Rattle.xml_grammar.specs.Trees.{Event, Opens, Closes, hint_of}
use Rattle.xml_grammar.proofs.SoundPieces.{bytes_same}
use Rattle.xmp_write.specs.Text.{element_text, empty_text}
use Rattle.std.proofs.Math.Utf8.{scalars}
use Rattle.round_trip.proofs.Escapes.{scalars_append}
use Rattle.round_trip.proofs.Spelt.{inside, IsSpelt, Anything, Tagged, spelt_then, spelt_one}

-- what a tag inside an element keeps
pub record IsGoodTag (bs : List Binding) (tag : Tag) : Type 0 where
  pub declares_none : bindings_of tag.attributes ≡ []
  pub bound : has_unbound bs tag ≡ false
  pub once : has_twice (λ (a b : RawAttribute). same_qname a.name b.name) tag.attributes ≡ false
  pub apart : has_twice (λ (a b : Attribute). same_name a.name b.name) (expanded_attributes bs tag.attributes) ≡ false

pub none_of : (a b c d : Bool) → a ≡ false → b ≡ false → c ≡ false → d ≡ false
    → cond a (Some BadNamespace) (cond b (Some UnboundPrefix) (cond c (Some TwiceAttribute) (cond d (Some TooDeep) None))) ≡ None
none_of a b c d p q r s = rw (p, q, r, s) refl

pub start_good : (l : Level) (ls : List Level) (tag : Tag) → IsGoodTag l.bound tag → length (l ∷ ls) ≤ 99 → broken (inside (l ∷ ls)) (Start tag) ≡ None
unfolding broken
start_good l ls tag h low =
    none_of (misbinds (Start tag)) (unbinds (inside (l ∷ ls)) (Start tag)) (repeats (inside (l ∷ ls)) (Start tag)) (is_too_deep (inside (l ∷ ls)) (Start tag))
    (ap (λ (bs : List Binding). list_any is_misbound bs) h.declares_none)
    (ap (λ (bs : List Binding). has_unbound (bs ++ l.bound) tag) h.declares_none ∙ h.bound)
    (ap (λ (b : Bool). b || has_twice (λ (a b : Attribute). same_name a.name b.name) (expanded_attributes (bindings_of tag.attributes ++ l.bound) tag.attributes)) h.once
    ∙ ap (λ (bs : List Binding). has_twice (λ (a b : Attribute). same_name a.name b.name) (expanded_attributes (bs ++ l.bound) tag.attributes)) h.declares_none ∙ h.apart)
    (false_from_ne_true (nat_le 100 (length (l ∷ ls))) (λ is. let k = leb-true 100 (length (l ∷ ls)) is in omega (arith, k, low)))

same_prefix_self : (p : Option (List ℕ)) → same_prefix p p ≡ true
same_prefix_self None = refl
same_prefix_self (Some p) = bytes_same p p refl

same_qname_self : (q : QName) → same_qname q q ≡ true
same_qname_self q = and_from (same_prefix q.prefix q.prefix) _ (same_prefix_self q.prefix) (bytes_same q.local q.local refl)

pub end_good : (l : Level) (ls : List Level) → broken (inside (l ∷ ls)) (End l.name) ≡ None
unfolding broken
end_good l ls = ap (λ (b : Bool). cond (not b) (Some Mismatch) None) (same_qname_self l.name)

three : (x n a c : List ℕ) → x ++ n ++ a ++ c ≡ x ++ (n ++ (a ++ c))
three x n a c = simp append_assoc

four : (x n a g c : List ℕ) → x ++ n ++ a ++ g ++ c ≡ x ++ (n ++ (a ++ (g ++ c)))
four x n a g c = simp append_assoc

regroup : (x n a y b z : List ℕ) → (x ++ n ++ a ++ y) ++ (b ++ (z ++ n ++ y)) ≡ x ++ n ++ a ++ y ++ b ++ z ++ n ++ y
regroup x n a y b z = simp append_assoc

-- the level that a tag opens
abbrev pub level_of : Level → QName → List RawAttribute → Level
level_of l q raws = record { name = q; bound = bindings_of raws ++ l.bound }

-- a name and attributes as they are spelled
pub record IsSpelledTag (l : Level) (ls : List Level) (q : QName) (raws : List RawAttribute) (name attributes : List ℕ) : Type 0 where
  pub name_chars : List ℕ
  pub named : SpellsQName q name_chars
  pub name_utf8 : name ≡ encode_utf8_all name_chars
  pub name_scalar : scalars name_chars ≡ true
  pub chars : List ℕ
  pub attributed : SpellsAttributes raws chars
  pub utf8 : attributes ≡ encode_utf8_all chars
  pub scalar : scalars chars ≡ true
  pub good : (empty : Bool) → IsGoodTag l.bound (record { name = q; attributes = raws; empty = empty })
  pub low : length (l ∷ ls) ≤ 99

module _ (l : Level) (ls : List Level) (q : QName) (raws : List RawAttribute) (name attributes : List ℕ) (h : IsSpelledTag l ls q raws name attributes) where
  abbrev pub opens : ℕ → Event
  opens at = Opens at (element_name (bindings_of raws ++ l.bound) q) (expanded_attributes (bindings_of raws ++ l.bound) raws)

  tag_bytes : (close : List ℕ) → encode_utf8_all close ≡ close → encode_utf8_all (codes "<" ++ h.name_chars ++ h.chars ++ [] ++ close) ≡ codes "<" ++ name ++ attributes ++ close
  unfolding encode
  tag_bytes close ascii =
      ap encode_utf8_all (four (codes "<") h.name_chars h.chars [] close)
      ∙ ap (λ (t : List ℕ). 0x3C ∷ t) (encodes-append h.name_chars (h.chars ++ close)
      ∙ ap (λ (t : List ℕ). encode_utf8_all h.name_chars ++ t) (encodes-append h.chars close)
      ∙ ap (λ (t : List ℕ). t ++ (encode_utf8_all h.chars ++ encode_utf8_all close)) (sym h.name_utf8)
      ∙ ap (λ (t : List ℕ). name ++ (t ++ encode_utf8_all close)) (sym h.utf8)
      ∙ ap (λ (t : List ℕ). name ++ (attributes ++ t)) ascii)
      ∙ sym (three (codes "<") name attributes close)

  tag_scalars : (close : List ℕ) → scalars close ≡ true → scalars (codes "<" ++ h.name_chars ++ h.chars ++ [] ++ close) ≡ true
  tag_scalars close k =
      scalars_append (codes "<" ++ h.name_chars ++ h.chars ++ []) close
      (scalars_append (codes "<" ++ h.name_chars ++ h.chars) [] (scalars_append (codes "<" ++ h.name_chars) h.chars (scalars_append (codes "<") h.name_chars refl h.name_scalar) h.scalar) refl) k

  start_spelt : (at : ℕ) → IsSpelt Anything (inside (l ∷ ls)) at (codes "<" ++ name ++ attributes ++ codes ">") (λ es. opens at ∷ es) (inside (level_of l q raws ∷ l ∷ ls))
  unfolding encode
  start_spelt at =
      subst (λ (b : List ℕ). IsSpelt Anything (inside (l ∷ ls)) at b (λ es. opens at ∷ es) (inside (level_of l q raws ∷ l ∷ ls))) (tag_bytes (codes ">") refl)
      (spelt_one [] (inside (l ∷ ls)) at (Start (record { name = q; attributes = raws; empty = false })) (codes "<" ++ h.name_chars ++ h.chars ++ [] ++ codes ">") (λ es. opens at ∷ es)
      (λ left. record { spelled = (h.name_chars, h.chars, [], h.named, h.attributed, refl, refl); fits = tt })
      (start_good l ls (record { name = q; attributes = raws; empty = false }) (h.good false) h.low) (tag_scalars (codes ">") refl) (ap (filter_map hint_of) (h.good false).declares_none) (λ more. refl))

  -- an element without anything in it
  pub empty_spelt : (at : ℕ) → IsSpelt Anything (inside (l ∷ ls)) at (empty_text name attributes) (λ es. opens at ∷ Closes ∷ es) (inside (l ∷ ls))
  unfolding encode
  empty_spelt at =
      subst (λ (b : List ℕ). IsSpelt Anything (inside (l ∷ ls)) at b (λ es. opens at ∷ Closes ∷ es) (inside (l ∷ ls))) (tag_bytes (codes "/>") refl)
      (spelt_one [] (inside (l ∷ ls)) at (Start (record { name = q; attributes = raws; empty = true })) (codes "<" ++ h.name_chars ++ h.chars ++ [] ++ codes "/>") (λ es. opens at ∷ Closes ∷ es)
      (λ left. record { spelled = (h.name_chars, h.chars, [], h.named, h.attributed, refl, refl); fits = tt })
      (start_good l ls (record { name = q; attributes = raws; empty = true }) (h.good true) h.low) (tag_scalars (codes "/>") refl) (ap (filter_map hint_of) (h.good true).declares_none) (λ more. refl))

  end_bytes : encode_utf8_all (codes "</" ++ h.name_chars ++ [] ++ codes ">") ≡ codes "</" ++ name ++ codes ">"
  unfolding encode
  end_bytes =
      ap encode_utf8_all (three (codes "</") h.name_chars [] (codes ">"))
      ∙ ap (λ (t : List ℕ). 0x3C ∷ 0x2F ∷ t) (encodes-append h.name_chars (codes ">") ∙ ap (λ (t : List ℕ). t ++ codes ">") (sym h.name_utf8))

  -- the end tag, which begins with `<`
  end_spelt : (at : ℕ) → (k : IsSpelt Anything (inside (level_of l q raws ∷ l ∷ ls)) at (codes "</" ++ name ++ codes ">") (λ es. Closes ∷ es) (inside (l ∷ ls)))
      × ((left : List ℕ) → BeginsWith (codes "<") (k.chars ++ left))
  end_spelt at = (
    record {
      chars = codes "</" ++ h.name_chars ++ [] ++ codes ">";
      utf8 = sym end_bytes;
      scalar = scalars_append (codes "</" ++ h.name_chars ++ []) (codes ">") (scalars_append (codes "</" ++ h.name_chars) [] (scalars_append (codes "</") h.name_chars refl h.name_scalar) refl) refl;
      pieces = (at, End q) ∷ [];
      read = λ left before. (
        refl,
        codes "</" ++ h.name_chars ++ [] ++ codes ">",
        left,
        record { spelled = (h.name_chars, [], h.named, refl, refl); fits = tt },
        end_good (level_of l q raws) (l ∷ ls),
        refl,
        refl,
      );
      ends = refl;
      means = λ more. refl;
      hinted = refl;
    },
    λ left. ((0x2F ∷ h.name_chars) ++ [] ++ codes ">" ++ left, refl),
  )

  -- an element with something in it
  pub element_spelt : (at : ℕ) (bytes : List ℕ) (f : List Event → List Event)
      → IsSpelt Tagged (inside (level_of l q raws ∷ l ∷ ls)) (at + length (codes "<" ++ name ++ attributes ++ codes ">")) bytes f (inside (level_of l q raws ∷ l ∷ ls))
      → IsSpelt Anything (inside (l ∷ ls)) at (element_text name attributes bytes) (λ es. opens at ∷ f (Closes ∷ es)) (inside (l ∷ ls))
  element_spelt at bytes f k =
      let after : ℕ = at + length (codes "<" ++ name ++ attributes ++ codes ">") in
      let inner = spelt_then Tagged Anything (inside (level_of l q raws ∷ l ∷ ls)) (inside (level_of l q raws ∷ l ∷ ls)) (inside (l ∷ ls)) after bytes (codes "</" ++ name ++ codes ">") f (λ es. Closes ∷ es)
      k (end_spelt (after + length bytes)).0 (λ left any. (end_spelt (after + length bytes)).1 left) in
      let all = spelt_then Anything Anything (inside (l ∷ ls)) (inside (level_of l q raws ∷ l ∷ ls)) (inside (l ∷ ls)) at (codes "<" ++ name ++ attributes ++ codes ">") (bytes ++ (codes "</" ++ name ++ codes ">"))
      (λ es. opens at ∷ es) (λ es. f (Closes ∷ es)) (start_spelt at) inner (λ left any. tt) in
      subst (λ (b : List ℕ). IsSpelt Anything (inside (l ∷ ls)) at b (λ es. opens at ∷ f (Closes ∷ es)) (inside (l ∷ ls))) (regroup (codes "<") name attributes (codes ">") bytes (codes "</")) all
