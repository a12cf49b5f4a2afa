-- What makes a file one of directories, and that it is read as the tree of its packet.
use Rattle.std.proofs.Common.{◌≡◌, ◌∙◌, ℕ, ◌+◌, ◌≤◌, Bool, true, false, cond, List, [], ◌∷◌, ◌++◌, length, take, refl, sym, ap, subst, arith, inl, inr, Ok, Err, Some, None, if◌then◌else◌}
use Rattle.std.specs.declared.option.Option.{Option}
use Rattle.std.specs.declared.result.Result.{Result}
use Rattle.std.specs.Option.{ok_or}
use Rattle.std.specs.Prelude.{◌==◌, nat_eq, nat_le, nat_lt, not, ◌&&◌, ◌||◌, codes}
use Rattle.std.specs.Cmp.Lexicographic.{pointwise}
use Rattle.std.proofs.lemmas.Bool.{le-ltb, le-leb}
use Rattle.std.proofs.lemmas.List.{take-take, length-take}
use Rattle.xmp_values.specs.declared.faults.Fault.{Fault}
use Rattle.xmp_values.specs.declared.hints.Hint.{Hint}
use Rattle.xmp_tree.specs.Parts.{Parts}
use Rattle.rdf_forms.specs.Meaning.{Meaning}
use Rattle.round_trip.specs.Law.{PacketMeans}
use Rattle.tiff_dirs.specs.Numbers.{number}
use Rattle.tiff_dirs.specs.Layouts.{layout_by, layout_of}
use Rattle.tiff_dirs.proofs.Piece.{number_part}
use Rattle.tiff_dirs.specs.Tiff.{Tiff}
use Rattle.tiff_dirs.specs.Model.{IsTiff}
use Rattle.xmp_files.specs.declared.kinds.Kind.{Kind}
use Rattle.xmp_files.specs.declared.kinds.Kind.TheVariants.{Tiff as Classic, BigTiff}
use Rattle.xmp_files.specs.declared.held.Need.TheVariants.{Packet}
use Rattle.xmp_files.specs.declared.opening.Opened.{Opened}
use Rattle.xmp_files.specs.Faults.{file_limit, over_limit, not_known, short_offsets, packet_limit, over_packet}
use Rattle.xmp_files.specs.Kinds.{kind_of, is_jpeg, is_tiff, is_big_tiff, has_long_offsets, begins}
use Rattle.xmp_files.specs.Stages.{followed, Followed}
use Rattle.xmp_files.specs.Keeping.{Piece, Kept, image}
use Rattle.xmp_files.specs.Images.{HasDirectories, tiff_packet, IsImage}
use Rattle.xmp_files.specs.Loading.{known, with_offsets, kind_of_file, IsKept, IsLoaded}
use Rattle.xmp_files.specs.Opening.{IsOpened, HoldsTree}
use Rattle.xmp_files.proofs.Loads.{known_kind, known_as}
use Rattle.xmp_files.proofs.WalkedImages.{kind_by, classic_tests, big_tests, big_fronts, IsImageKind, image_told}
use Rattle.xmp_files.proofs.WrittenSidecars.{meant, opens}

-- The kind of a file of directories depends on its first 4 bytes alone, or on 8 where it is a BigTIFF file.

front_same : (m n : ℕ) (a b : List ℕ) → n ≤ m → m ≤ 16 → take m a ≡ take m b → take n (take 16 a) ≡ take n (take 16 b)
front_same m n a b few most h =
    take-take n 16 a (omega (arith, few, most)) ∙ sym (take-take n m a few) ∙ ap (take n) h ∙ take-take n m b few ∙ sym (take-take n 16 b (omega (arith, few, most)))

begins_same : (m : ℕ) (a b signature : List ℕ) → length signature ≤ m → m ≤ 16 → take m a ≡ take m b → begins (take 16 a) signature ≡ begins (take 16 b) signature
begins_same m a b signature few most h = ap (pointwise nat_eq signature) (front_same m (length signature) a b few most h)

classic_kind : (a b c d e f : Bool) → a ≡ false → b ≡ true → kind_by a b c d e f ≡ Some Classic
classic_kind a b c d e f p q = rw (p, q) refl

big_kind : (a b c d e f : Bool) → a ≡ false → b ≡ false → c ≡ true → kind_by a b c d e f ≡ Some BigTiff
big_kind a b c d e f p q r = rw (p, q, r) refl

module _ (m : ℕ) (least : 4 ≤ m) (most : m ≤ 16) (a b : List ℕ) (h : take m a ≡ take m b) where
  jpeg_same : is_jpeg (take 16 a) ≡ is_jpeg (take 16 b)
  jpeg_same = begins_same m a b (0xFF ∷ 0xD8 ∷ []) (omega (arith, least)) most h

  tiff_same : is_tiff (take 16 a) ≡ is_tiff (take 16 b)
  tiff_same = λ i. begins_same m a b (codes "II" ++ 0x2A ∷ 0x00 ∷ []) (omega (arith, least)) most h i || begins_same m a b (codes "MM" ++ 0x00 ∷ 0x2A ∷ []) (omega (arith, least)) most h i

  big_same : is_big_tiff (take 16 a) ≡ is_big_tiff (take 16 b)
  big_same = λ i. begins_same m a b (codes "II" ++ 0x2B ∷ 0x00 ∷ []) (omega (arith, least)) most h i || begins_same m a b (codes "MM" ++ 0x00 ∷ 0x2B ∷ []) (omega (arith, least)) most h i

classic_known : (a b : List ℕ) → take 4 a ≡ take 4 b → known a ≡ Ok Classic → known b ≡ Ok Classic
classic_known a b h is =
    let t = classic_tests a (known_kind a Classic is) in
    known_as b Classic
    (classic_kind (is_jpeg (take 16 b)) (is_tiff (take 16 b)) _ _ _ _ (sym (jpeg_same 4 (omega arith) (omega arith) a b h) ∙ t.0) (sym (tiff_same 4 (omega arith) (omega arith) a b h) ∙ t.1)) refl

module _ (a b : List ℕ) (h : take 8 a ≡ take 8 b) (long_a : 8 ≤ length a) (long_b : 8 ≤ length b) where
  offsets_same : has_long_offsets (take 16 a) ≡ has_long_offsets (take 16 b)
  offsets_same = λ i. begins_same 8 a b (codes "II" ++ 0x2B ∷ 0x00 ∷ 0x08 ∷ 0x00 ∷ 0x00 ∷ 0x00 ∷ []) (omega arith) (omega arith) h i
      || begins_same 8 a b (codes "MM" ++ 0x00 ∷ 0x2B ∷ 0x00 ∷ 0x08 ∷ 0x00 ∷ 0x00 ∷ []) (omega arith) (omega arith) h i

  long_enough : (file : List ℕ) → 8 ≤ length file → nat_le 8 (length (take 16 file)) ≡ true
  long_enough file long = le-leb 8 (length (take 16 file)) (omega (arith, length-take 16 file, long))

  with_same : with_offsets (take 16 b) BigTiff ≡ with_offsets (take 16 a) BigTiff
  with_same = λ i. if (long_enough b long_b ∙ sym (long_enough a long_a)) i && not (sym offsets_same i) then Err short_offsets else Ok BigTiff

  big_known : known a ≡ Ok BigTiff → known b ≡ Ok BigTiff
  big_known is =
      let kind : kind_of a ≡ Some BigTiff = known_kind a BigTiff is in
      let t = big_tests a kind in
      let plain : with_offsets (take 16 a) BigTiff ≡ Ok BigTiff =
      sym (ap (λ (k : Option Kind). followed (ok_or k not_known) (with_offsets (take 16 a))) kind) ∙ is in
      known_as b BigTiff
      (big_kind (is_jpeg (take 16 b)) (is_tiff (take 16 b)) (is_big_tiff (take 16 b)) _ _ _ (sym (jpeg_same 8 (omega arith) (omega arith) a b h) ∙ t.0)
      (sym (tiff_same 8 (omega arith) (omega arith) a b h) ∙ t.1) (sym (big_same 8 (omega arith) (omega arith) a b h) ∙ t.2)) (with_same ∙ plain)

-- A BigTIFF file has words of 8 bytes.

word_by : (file : List ℕ) (big : Bool) → (number true 2 0 file == 0x4D4D) ≡ big → number big 2 2 file ≡ 43 → (layout_of file).word ≡ 8
word_by file big order magic =
    ap (λ (b : Bool). (layout_by b (number b 2 2 file)).word) order ∙ ap (λ (n : ℕ). (layout_by big n).word) magic

front_number : (file front : List ℕ) (big : Bool) (at : ℕ) → take 4 file ≡ front → at + 2 ≤ 4 → number big 2 at file ≡ number big 2 at front
front_number file front big at is within = sym (number_part (take 4 file) file 0 4 refl big 2 at at within (omega arith)) ∙ ap (number big 2 at) is

wide_word : (file : List ℕ) → is_big_tiff (take 16 file) ≡ true → (layout_of file).word ≡ 8
unfolding number
wide_word file h =
    elim (big_fronts file h) [
      | inl is ↦ word_by file false (ap (λ (n : ℕ). n == 0x4D4D) (front_number file (0x49 ∷ 0x49 ∷ 0x2B ∷ 0 ∷ []) true 0 is (omega arith)))
          (front_number file (0x49 ∷ 0x49 ∷ 0x2B ∷ 0 ∷ []) false 2 is (omega arith))
      | inr is ↦ word_by file true (ap (λ (n : ℕ). n == 0x4D4D) (front_number file (0x4D ∷ 0x4D ∷ 0 ∷ 0x2B ∷ []) true 0 is (omega arith)))
          (front_number file (0x4D ∷ 0x4D ∷ 0 ∷ 0x2B ∷ []) true 2 is (omega arith))
    ]

-- a file that begins with the same word, in which the layout and no offset stands, is of the same kind
same_kind : (a b : List ℕ) (kind : Kind) → HasDirectories kind → 4 ≤ (layout_of a).word → take (layout_of a).word b ≡ take (layout_of a).word a → 8 ≤ length a → 8 ≤ length b → known a ≡ Ok kind → known b ≡ Ok kind
same_kind a b Classic has least same long_a long_b is =
    let front : take 4 a ≡ take 4 b = sym (take-take 4 (layout_of a).word a least) ∙ ap (take 4) (sym same) ∙ take-take 4 (layout_of a).word b least in classic_known a b front is
same_kind a b BigTiff has least same long_a long_b is =
    let eight : (layout_of a).word ≡ 8 = wide_word a (big_tests a (known_kind a BigTiff is)).2 in
    big_known a b (subst (λ (n : ℕ). take n a ≡ take n b) eight (sym same)) long_a long_b is
same_kind a b kind has least same long_a long_b is = absurd has

pub image_kind_same : (a b : List ℕ) → 4 ≤ (layout_of a).word → take (layout_of a).word b ≡ take (layout_of a).word a → 8 ≤ length a → 8 ≤ length b → IsImageKind a → IsImageKind b
image_kind_same a b least same long_a long_b (kind, has, is) = (kind, has, same_kind a b kind has least same long_a long_b is)

-- A file of directories is loaded with its packet, and read as the tree that this has.
module _ (file : List ℕ) (tiff : Tiff) (walked : IsTiff file tiff) (kind : IsImageKind file) (payload : Piece) (there : tiff_packet file tiff ≡ Some payload) where
  -- what is kept of it
  abbrev pub held_image : Kept
  held_image = image Packet (length file) tiff (Some payload)

  is_image : IsImage Packet file held_image
  is_image = record { tiff = tiff; walked = walked; is = ap (λ (o : Option Piece). image Packet (length file) tiff o) (sym there) }

  pub image_loaded : length file ≤ file_limit → length payload.bytes ≤ packet_limit → IsLoaded Packet (Some file) (Ok held_image)
  image_loaded small short =
      let within : Ok held_image ≡ cond (nat_lt packet_limit (length payload.bytes)) (Err (over_packet (length payload.bytes))) (Ok held_image) =
      ap (λ (b : Bool). cond b (Err (over_packet (length payload.bytes))) (Ok held_image)) (sym (le-ltb packet_limit (length payload.bytes) short)) in
      let there_is : kind_of_file (Some file) ≡ known file =
      ap (λ (b : Bool). followed (cond b (Err (over_limit (length file))) (Ok file)) known) (le-ltb file_limit (length file) small) in
      subst (λ (y : Result Kind Fault). Followed y (IsKept Packet file) (Ok held_image)) (sym there_is)
      (image_told Packet file (Ok held_image) (Ok held_image) kind is_image within)

  pub image_read : (declared : List Hint) (t : Parts) → length file ≤ file_limit → length payload.bytes ≤ packet_limit → PacketMeans payload.bytes declared t None → HoldsTree (Some file) t
  image_read declared t small short h =
      let meaning : Meaning = meant payload.bytes declared t None h.means in
      let opened : Opened = record { meaning = meaning; joined = false } in
      let is_opened : IsOpened held_image (Ok opened) = (Ok meaning, opens payload.bytes declared t None h, refl) in
      (opened, (Ok held_image, image_loaded small short, is_opened), h.means.tree_is 100 (omega arith))
