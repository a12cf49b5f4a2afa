-- The kinds and payloads of the new segments.
use Rattle.std.proofs.Common.{◌≡◌, ℕ, suc, ◌+◌, ◌^◌, ◌<◌, ◌≤◌, ◌&&◌, nat_le, nat_eq, Bool, true, false, cond, List, [], ◌∷◌, ◌++◌, length, map, refl, ap, ◌∙◌, arith, lit<}
use Rattle.std.specs.Prelude.{flat_map}
use Rattle.std.specs.List.{All, AllByRecursion, list_all, starts_with}
use Rattle.std.specs.Str.{bytes_eq}
use Rattle.std.proofs.lemmas.Bool.{and_parts}
use Rattle.std.proofs.lemmas.List.{length-append}
use Rattle.byteorder.specs.Endian.{big_bytes}
use Rattle.xmp_values.specs.Digits.{AreCapitals, is_digit, capital}
use Rattle.jpeg_regions.specs.declared.kind.RegionKind.TheVariants as kinds
use Rattle.jpeg_regions.specs.Kinds.{first_kind_of, is_portion, is_exif}
use Rattle.jpeg_regions.specs.Jpeg.{Segment, IsInner, HasLength, is_main, is_extension}
use Rattle.jpeg_extended.specs.Tiling.{limit}
use Rattle.jpeg_extended.specs.Portions.{Portion, is_named, name_in, payload_text, portion_of, signature}
use Rattle.jpeg_extended.specs.Written.{name_text, portions_of}
use Rattle.jpeg_extended.proofs.NewPortions.{read_back, all_read, new_fit}
use Rattle.jpeg_relocation.specs.NewSegments.{app1, main_limit, main_payload_text, main_segment, portion_segments}
use Rattle.jpeg_relocation.proofs.Located.{kind_in, payload_in}
use Rattle.jpeg_relocation.proofs.Names.{name_capitals}
use Rattle.jpeg_relocation.proofs.NewRegions.{bears}

counted : (n : ℕ) (payload : List ℕ) → n ≡ 2 + length payload → n < 65536 → HasLength (big_bytes 2 n ++ payload)
counted n payload is small = omega (arith, is, small)

pub app1_inner : (payload : List ℕ) → length payload ≤ 65533 → IsInner (app1 payload)
app1_inner payload h = record { filled = lit< tt; body = counted (2 + length payload) payload refl (omega (arith, h)) }

pub app1_payload : (payload : List ℕ) → payload_in (app1 payload) ≡ payload
app1_payload payload = refl

app1_kind : (payload : List ℕ) → kind_in (app1 payload) ≡ first_kind_of payload
app1_kind payload = refl

-- the main segment

pub main_kind : (packet : List ℕ) → kind_in (main_segment packet) ≡ kinds.Main
main_kind packet = refl

pub main_inner : (packet : List ℕ) → length packet ≤ main_limit → IsInner (main_segment packet)
main_inner packet h = app1_inner (main_payload_text packet) (omega (arith, h))

-- the segments of portions

named_by : (b : Bool) (x p : Portion) → cond b (x ∷ []) [] ≡ p ∷ [] → b ≡ true
named_by true x p h = refl
named_by false x p h = absurd (cc h)

-- what a new portion's segment is
abbrev pub IsNew : List ℕ → Segment → Type 0
IsNew name s = IsInner s × (is_main (kind_in s) ≡ false) × (is_extension (kind_in s) ≡ true) × (bears name s ≡ true)

module _ (name : List ℕ) (capitals : AreCapitals name) (p : Portion) (fits : (p.full < 2 ^ 32) × (p.offset < 2 ^ 32) × (length p.bytes ≤ 65458)) where
  abbrev payload : List ℕ
  payload = payload_text name p

  named : is_named name payload (length payload) ≡ true
  named = named_by (is_named name payload (length payload)) _ p (read_back name capitals p fits)

  portion : is_portion payload ≡ true
  portion =
      let long = nat_le 75 (length payload) in
      let most = nat_le (length payload) 65533 in
      let starts = starts_with nat_eq payload signature in
      let digits = list_all is_digit (name_in payload) in
      let same = bytes_eq (map capital (name_in payload)) name in
      let a = and_parts ((((long && long) && most) && starts) && digits) same named in
      let b = and_parts (((long && long) && most) && starts) digits a.0 in
      let c = and_parts ((long && long) && most) starts b.0 in
      let d = and_parts (long && long) most c.0 in
      let e = and_parts long long d.0 in
      (λ i. e.0 i && c.1 i && b.1 i)

  portion_kind : kind_in (app1 payload) ≡ kinds.Portion
  portion_kind = ap (λ (b : Bool). cond b kinds.Portion (cond (is_exif payload) kinds.Exif kinds.Other)) portion

  size : length payload ≤ 65533
  size =
      let parts = and_parts (nat_le 75 (length payload) && nat_le 75 (length payload)) (nat_le (length payload) 65533) in
      omega (arith, length-append name (big_bytes 4 p.full ++ (big_bytes 4 p.offset ++ p.bytes)), capitals.0, fits.2)

  pub portion_new : IsNew name (app1 payload)
  portion_new = (
    app1_inner payload size,
    ap is_main portion_kind,
    ap is_extension portion_kind,
    (λ i. is_extension (portion_kind i) && named i),
  )

pub portions_new : (name : List ℕ) (ps : List Portion) → AreCapitals name → All (λ (p : Portion). (p.full < 2 ^ 32) × (p.offset < 2 ^ 32) × (length p.bytes ≤ 65458)) ps
    → AllByRecursion (IsNew name) (map (λ p. app1 (payload_text name p)) ps)
portions_new name [] capitals fits = tt
portions_new name (p ∷ ps) capitals fits =
    (portion_new name capitals p (fits 0 p (omega arith)), portions_new name ps capitals (λ k d less. fits (suc k) d (omega (arith, less))))

pub text_new : (text : List ℕ) → length text ≤ limit → AllByRecursion (IsNew (name_text text)) (portion_segments text)
text_new text h = portions_new (name_text text) (portions_of text) (name_capitals text) (new_fit text h)

payloads_are : (name : List ℕ) (ps : List Portion) → map payload_in (map (λ p. app1 (payload_text name p)) ps) ≡ map (payload_text name) ps
payloads_are name [] = refl
payloads_are name (p ∷ ps) = ap (λ l. payload_text name p ∷ l) (payloads_are name ps)

pub text_read : (text : List ℕ) → length text ≤ limit → flat_map (portion_of (name_text text)) (map payload_in (portion_segments text)) ≡ portions_of text
text_read text h = ap (flat_map (portion_of (name_text text))) (payloads_are (name_text text) (portions_of text)) ∙ all_read (name_text text) (portions_of text) (name_capitals text) (new_fit text h)
