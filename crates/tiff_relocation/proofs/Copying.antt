-- The laws of a relocation, where the file has no entry of the packet.
use Rattle.std.proofs.Common.{◌≡◌, ◌∙◌, ℕ, ◌+◌, ◌^◌, ◌<◌, List, [], ◌∷◌, ◌++◌, length, map, refl, sym, ap, subst, All, None}
use Rattle.std.specs.declared.option.Option.{Option}
use Rattle.std.specs.List.{flat_map}
use Rattle.xmp_base.specs.Device.{put_at}
use Rattle.xmp_base.specs.declared.file_span.FileSpan.{FileSpan}
use Rattle.tiff_dirs.specs.declared.layout.Layout.{Layout}
use Rattle.tiff_dirs.specs.declared.entry.Entry.{Entry}
use Rattle.tiff_dirs.specs.Layouts.{layout_of}
use Rattle.tiff_dirs.specs.Directories.{span}
use Rattle.tiff_dirs.specs.Model.{IsTiff}
use Rattle.tiff_dirs.specs.Offsets.{Walks, all_named}
use Rattle.tiff_dirs.specs.Overlaps.{Meets, NoOverlap, apart_of, named_in}
use Rattle.tiff_dirs.specs.Pictures.{first_of_tag}
use Rattle.tiff_dirs.specs.Tiff.{Dir, Tiff, dir_at, first_entry, tiff_of}
use Rattle.tiff_relocation.specs.Relocation.{changed_by, copy_by, copy_bytes, numbers_by, packet_place_by, pad, relocated}
use Rattle.tiff_relocation.specs.Apart.{HasRoom, IsApart, IsMoved, MayMove, not_holding}
use Rattle.tiff_relocation.proofs.NewFile.{first_is, new_tiff, now, tiff_now}

module _ (a : List ℕ) (at : ℕ) (rest : List ℕ) (walks : Walks a (at ∷ rest)) (packet : List ℕ) where
  abbrev l : Layout
  l = layout_of a

  abbrev d : Dir
  d = dir_at l a at

  abbrev old : Tiff
  old = tiff_of a (at ∷ rest)

  -- the new file, by the packet's entry
  abbrev file_by : Option Entry → List ℕ
  file_by o =
      put_at a (changed_by l o).start (numbers_by l (length a) (length packet) o) ++ (pad (length a) ++ (copy_bytes a (copy_by l (length a) d (length packet) o) ++ packet))

  abbrev elsewhere_by : Option Entry → List FileSpan
  elsewhere_by o = not_holding l d o ∷ (flat_map (apart_of l) d.entries ++ (flat_map (λ e. named_in l e e.entries) (map (dir_at l a) rest) ++ old.pictures))

  abbrev away_by : Option Entry → Type 0
  away_by o = All (λ r. Meets (changed_by l o) r → ⊥) (elsewhere_by o)

  abbrev told_by : Option Entry → Type 0
  told_by o = packet_place_by l (length a) d o + length packet < 256 ^ l.word

  moved_walk : first_of_tag 700 d.entries ≡ None → NoOverlap old → IsApart old → MayMove a old packet → IsMoved a old packet
  moved_walk none clear away may =
      let file_is : relocated a old packet ≡ now a at rest walks packet = ap file_by none in
      let away_now : away_by None = subst away_by none away in
      let room : HasRoom None d = subst (λ (o : Option Entry). HasRoom o d) none may.room in
      let told : told_by None = subst told_by none may.told in
      let first = first_is a at rest walks packet away_now room may.long told none in
      record {
        now = tiff_now a at rest walks packet away_now room may.long told none;
        walked = subst (λ (x : List ℕ). IsTiff x (tiff_now a at rest walks packet away_now room may.long told none)) (sym file_is) (new_tiff a at rest walks packet away_now room may.long told none clear);
        layout = refl;
        pictures = refl;
        entry = first.0;
        first = first.1;
        value = first.2 ∙ sym (ap (λ (o : Option Entry). span (packet_place_by l (length a) d o) (packet_place_by l (length a) d o + length packet)) none);
      }

moved_of : (a offsets packet : List ℕ) → Walks a offsets → first_entry 700 (tiff_of a offsets).dirs ≡ None → NoOverlap (tiff_of a offsets) → IsApart (tiff_of a offsets) → MayMove a (tiff_of a offsets) packet
    → IsMoved a (tiff_of a offsets) packet
unfolding all_named
moved_of a [] packet walks none clear away may = absurd (let bad = walks.all in cc bad)
moved_of a (at ∷ rest) packet walks none clear away may = moved_walk a at rest walks packet none clear away may

-- The new file has directories, the new packet and the old pictures.
pub copied_is_walked : (file : List ℕ) (tiff : Tiff) (packet : List ℕ) → first_entry 700 tiff.dirs ≡ None → IsTiff file tiff → IsApart tiff → MayMove file tiff packet → IsMoved file tiff packet
copied_is_walked file tiff packet none t =
    let law : Tiff → Type 0 = λ x. first_entry 700 x.dirs ≡ None → NoOverlap x → IsApart x → MayMove file x packet → IsMoved file x packet in
    let found = t.found in
    subst law (sym found.is) (λ n c. moved_of file found.offsets packet found.walks n c) none t.clear
