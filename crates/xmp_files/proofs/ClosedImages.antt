-- A TIFF or BigTIFF file with a closed packet is refused.
use Rattle.std.proofs.Common.{◌≡◌, ℕ, ◌<◌, ◌≤◌, List, length, Some, Ok, Err, refl}
use Rattle.xmp_base.specs.Device.{put_at}
use Rattle.xmp_values.specs.declared.faults.Fault.{Fault}
use Rattle.xmp_values.specs.declared.faults.Part.TheVariants.{Main}
use Rattle.xmp_values.specs.Stops.{fault_at}
use Rattle.packet_exchange.specs.Closing.{Closed}
use Rattle.xmp_files.specs.declared.held.Need.{Need}
use Rattle.xmp_files.specs.Faults.{file_limit, packet_limit}
use Rattle.xmp_files.specs.Keeping.{Piece, Kept}
use Rattle.xmp_files.specs.Images.{IsImage}
use Rattle.xmp_files.specs.Opening.{Holds}
use Rattle.xmp_files.specs.Patching.{DocumentOrFault}
use Rattle.xmp_files.proofs.WalkedImages.{IsImageKind}
use Rattle.xmp_files.proofs.ExchangedImages.{exchanged_image, exchanged_loaded}
use Rattle.xmp_files.proofs.ClosedPackets.{closed_fault}

pub image_closed : DocumentOrFault → (need : Need) (old : List ℕ) (kept : Kept) (x : IsImage need old kept) (payload : Piece) (there : kept.payload ≡ Some payload) (kind : IsImageKind old)
    (now : List ℕ) (as_long : length now ≡ length payload.bytes) (long : 8 < length now) → length old ≤ file_limit → length now ≤ packet_limit → Closed now
    → (fault : Fault) × Holds (Some (put_at old payload.at now)) (Err fault)
image_closed decided need old kept x payload there kind now as_long long small short closed =
    let f = closed_fault decided now closed in
    let kept_now : Kept = exchanged_image need old kept x payload there kind now as_long long in
    let fault : Fault = fault_at f.0 Main f.1 in (
      fault,
      (Ok kept_now, exchanged_loaded need old kept x payload there kind now as_long long small short, (Err fault, (Err (f.0, f.1), f.2, refl), refl)),
    )
