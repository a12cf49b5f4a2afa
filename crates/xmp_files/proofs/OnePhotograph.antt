-- What is kept of a JPEG file is one thing.
use Rattle.std.proofs.Common.{◌≡◌, ◌∙◌, ℕ, List, [], ◌∷◌, map, length, Some, None, refl, sym, ap, subst, arith}
use Rattle.std.specs.declared.option.Option.{Option}
use Rattle.std.proofs.lemmas.List.{length-map}
use Rattle.std.proofs.lemmas.List.Sorted.{IsPermutation-map}
use Rattle.jpeg_regions.specs.Jpeg.{Region, portion_payloads}
use Rattle.xmp_base.specs.declared.file_span.FileSpan.{FileSpan}
use Rattle.jpeg_regions.proofs.Faults.{cuts_same}
use Rattle.jpeg_extended.specs.Tiling.{Tiled, first_full}
use Rattle.jpeg_extended.specs.Portions.{Portion, extent}
use Rattle.jpeg_extended.specs.Joined.{Joined}
use Rattle.jpeg_extended.proofs.OneText.{one_text, one_over, one_place, not_over, not_gap, over_or_gap}
use Rattle.xmp_files.specs.declared.held.Need.{Need}
use Rattle.xmp_files.specs.declared.held.Extended.{Extended}
use Rattle.xmp_files.specs.declared.held.Extended.TheVariants as extended
use Rattle.xmp_files.specs.Keeping.{Piece, Kept, photograph}
use Rattle.xmp_files.specs.Photographs.{IsExtended, IsName, IsPhotograph, main_packet, named_portions, portions_in}
use Rattle.xmp_files.proofs.OneMeaning.{one_note}

-- portions that are joined tile
tiled : (ps : List Portion) (text : List ℕ) → Joined ps text → Tiled (map extent ps) (length text)
tiled ps text j = record {
  some = omega (arith, j.some, length-map ps extent);
  within = j.within;
  same = j.same;
  ordered = map extent j.ordered;
  shuffled = IsPermutation-map extent ps j.ordered j.shuffled;
  tiles = j.tiles;
}

no_first : (full : ℕ) → first_full [] ≡ Some full → ⊥
no_first full e = cc e

some_text : {A : Type 0} (x y : A) → x ≡ y → Some x ≡ Some y
some_text x y e = ap Some e

pub one_extended : (ps : List Portion) (a b : Option Extended) → IsExtended ps a → IsExtended ps b → a ≡ b
one_extended ps None None p q = refl
one_extended ps None (Some (extended.Joined text)) p q = absurd (omega (arith, q.some, ap (λ (l : List Portion). length l) p))
one_extended ps None (Some (extended.TooLong full)) p q = absurd (no_first full (subst (λ (l : List Portion). first_full (map extent l) ≡ Some full) p q.first))
one_extended ps None (Some (extended.Gap place)) p q = absurd (no_first q.full (subst (λ (l : List Portion). first_full (map extent l) ≡ Some q.full) p q.first))
one_extended ps (Some (extended.Joined text)) None p q = absurd (omega (arith, p.some, ap (λ (l : List Portion). length l) q))
one_extended ps (Some (extended.Joined text)) (Some (extended.Joined other)) p q = ap (λ (t : List ℕ). Some (extended.Joined t)) (one_text ps text other p q)
one_extended ps (Some (extended.Joined text)) (Some (extended.TooLong full)) p q = absurd (not_over (map extent ps) (length text) full (tiled ps text p) q)
one_extended ps (Some (extended.Joined text)) (Some (extended.Gap place)) p q = absurd (not_gap (map extent ps) (length text) place (tiled ps text p) q)
one_extended ps (Some (extended.TooLong full)) None p q = absurd (no_first full (subst (λ (l : List Portion). first_full (map extent l) ≡ Some full) q p.first))
one_extended ps (Some (extended.TooLong full)) (Some (extended.Joined text)) p q = absurd (not_over (map extent ps) (length text) full (tiled ps text q) p)
one_extended ps (Some (extended.TooLong full)) (Some (extended.TooLong other)) p q = ap (λ (n : ℕ). Some (extended.TooLong n)) (one_over (map extent ps) full other p q)
one_extended ps (Some (extended.TooLong full)) (Some (extended.Gap place)) p q = absurd (over_or_gap (map extent ps) full place p q)
one_extended ps (Some (extended.Gap place)) None p q = absurd (no_first p.full (subst (λ (l : List Portion). first_full (map extent l) ≡ Some p.full) q p.first))
one_extended ps (Some (extended.Gap place)) (Some (extended.Joined text)) p q = absurd (not_gap (map extent ps) (length text) place (tiled ps text q) p)
one_extended ps (Some (extended.Gap place)) (Some (extended.TooLong full)) p q = absurd (over_or_gap (map extent ps) full place q p)
one_extended ps (Some (extended.Gap place)) (Some (extended.Gap other)) p q = ap (λ (n : ℕ). Some (extended.Gap n)) (one_place (map extent ps) place other p q)

pub one_name : (payloads : List FileSpan) (packet : Option Piece) (a b : Option (List ℕ)) → IsName payloads packet a → IsName payloads packet b → a ≡ b
one_name [] packet a b p q = p ∙ sym q
one_name (payload ∷ payloads) packet a b p q = one_note packet a b p q

module _ (need : Need) (file : List ℕ) (k l : Kept) (p : IsPhotograph need file k) (q : IsPhotograph need file l) where
  pub same_regions : p.regions ≡ q.regions
  same_regions = cuts_same file p.regions q.regions p.jpeg.cuts q.jpeg.cuts

  pub same_note : p.note ≡ q.note
  same_note = one_name (portion_payloads p.regions) (main_packet file p.regions) p.note q.note p.noted
      (subst (λ (rs : List Region). IsName (portion_payloads rs) (main_packet file rs) q.note) (sym same_regions) q.noted)

  same_portions : portions_in file p.note (named_portions file p.note p.regions) ≡ portions_in file q.note (named_portions file q.note q.regions)
  same_portions = λ i. portions_in file (same_note i) (named_portions file (same_note i) (same_regions i))

  same_extended : p.extended ≡ q.extended
  same_extended = one_extended (portions_in file p.note (named_portions file p.note p.regions)) p.extended q.extended p.joins
      (subst (λ (ps : List Portion). IsExtended ps q.extended) (sym same_portions) q.joins)

  pub one_photograph : k ≡ l
  one_photograph = p.is
      ∙ (λ i. photograph need (length file) (same_regions i) (main_packet file (same_regions i)) (named_portions file (same_note i) (same_regions i)) (same_extended i))
      ∙ sym q.is
