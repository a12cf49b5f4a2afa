-- A JPEG file whose packet is exchanged for that of a tree is read as that tree.
use Rattle.std.proofs.Common.{◌≡◌, ℕ, ◌<◌, ◌≤◌, false, List, length, Some, None, Ok, refl, sym, subst, arith}
use Rattle.std.specs.declared.option.Option.{Option}
use Rattle.xmp_base.specs.Device.{put_at}
use Rattle.xmp_values.specs.declared.hints.Hint.{Hint}
use Rattle.xmp_tree.specs.Parts.{Parts}
use Rattle.rdf_forms.specs.Meaning.{Meaning}
use Rattle.round_trip.specs.Law.{PacketMeans}
use Rattle.xmp_files.specs.declared.held.Need.{Need}
use Rattle.xmp_files.specs.declared.opening.Opened.{Opened}
use Rattle.xmp_files.specs.Faults.{file_limit, packet_limit}
use Rattle.xmp_files.specs.Keeping.{Piece, Kept}
use Rattle.xmp_files.specs.Meanings.{Means, IsNoteOf}
use Rattle.xmp_files.specs.Opening.{IsOpened, HoldsTree}
use Rattle.xmp_files.specs.Photographs.{IsPhotograph}
use Rattle.xmp_files.proofs.ExchangedPackets.{exchanged_kept, exchanged_loaded}
use Rattle.xmp_files.proofs.WrittenSidecars.{meant, means, opens}

-- the note of a packet that means a tree and a note, or none
pub noted_as : (bytes : List ℕ) (declared : List Hint) (t : Parts) (note : Option (List ℕ)) → PacketMeans bytes declared t note → IsNoteOf bytes note
noted_as bytes declared t note h = (
  Ok (meant bytes declared t note h.means),
  subst (λ (x : List ℕ). Means x (Ok (meant bytes declared t note h.means))) (sym h.text_is) (means bytes declared t note h.means),
  sym (h.means.note_is 100 (omega arith)),
)

module _ (need : Need) (old : List ℕ) (kept : Kept) (p : IsPhotograph need old kept) (payload : Piece) (there : kept.payload ≡ Some payload)
    (now : List ℕ) (as_long : length now ≡ length payload.bytes) (some : 0 < length now) (small : length old ≤ file_limit) (short : length now ≤ packet_limit) where
  pub photograph_holds : (declared : List Hint) (t : Parts) → PacketMeans now declared t None → HoldsTree (Some (put_at old payload.at now)) t
  photograph_holds declared t h =
      let kept_now : Kept = exchanged_kept need old kept p payload there now as_long some in
      let meaning : Meaning = meant now declared t None h.means in
      let opened : Opened = record { meaning = meaning; joined = false } in
      let is_opened : IsOpened kept_now (Ok opened) = (Ok meaning, opens now declared t None h, refl) in
      (opened, (Ok kept_now, exchanged_loaded need old kept p payload there now as_long some small short (noted_as now declared t None h), is_opened), h.means.tree_is 100 (omega arith))
