-- A packet that is exchanged inside its file: where it stands, and what the file is read as wherever that was cut off.
use Rattle.std.proofs.Common.{◌≡◌, ◌≢◌, ◌⊎◌, ℕ, ◌+◌, ◌≤◌, true, Bool, List, [], ◌∷◌, length, take, drop, Option, Some, None, Ok, sym, subst}
use Rattle.xmp_base.specs.Device.{put_at}
use Rattle.packet_exchange.specs.Closing.{Closed}
use Rattle.xmp_files.specs.declared.held.Need.TheVariants.{Packet}
use Rattle.xmp_files.specs.Keeping.{Piece, Kept}
use Rattle.xmp_files.specs.Loading.{IsLoaded}
use Rattle.xmp_files.specs.Opening.{HoldsTree, IsWhole}
use Rattle.xmp_files.specs.Patching.{IsLeft, FileIsPatched}
use Rattle.xmp_files.specs.Planning.{Edited, Plan, InPlace}
use Rattle.xmp_files.specs.Plans.{IsPlanned, MayPlan}
use Rattle.xmp_files.proofs.ExchangedPackets.{Stands, loaded_stands}

module _ (bytes : List ℕ) (kept : Kept) (loaded : IsLoaded Packet (Some bytes) (Ok kept)) (payload : Piece) (of_kept : kept.payload ≡ Some payload) where
  stands : Stands bytes payload
  stands = loaded_stands Packet bytes kept payload loaded of_kept

  -- the payload stands in its file
  pub payload_within : payload.at + length payload.bytes ≤ length bytes
  payload_within = stands.within

  pub payload_stands : take (length payload.bytes) (drop payload.at bytes) ≡ payload.bytes
  payload_stands = stands.there

  module _ (joined : Bool) (e : Edited) (plan : Plan) (planned : IsPlanned kept joined true e (Ok plan)) (new now : List ℕ) (is : plan ≡ InPlace (record { at = payload.at; bytes = new } ∷ []))
      (as_long : length now ≡ length payload.bytes) (left : (now ≡ payload.bytes) ⊎ (now ≡ new) ⊎ Closed now) (fixed : e.digest ≡ None) (holds : HoldsTree (Some bytes) e.old)
      (may : e.new ≢ e.old → MayPlan e.new e.hints) (law : FileIsPatched) where
    left_of : IsLeft payload.bytes plan now
    left_of = subst (λ (p : Plan). IsLeft payload.bytes p now) (sym is) left

    -- and then it is read as the old tree, as the new one, or it is refused
    pub patched_whole : IsWhole e.old e.new (Some (put_at bytes payload.at now))
    patched_whole = law Packet bytes kept joined e plan loaded fixed planned holds may payload of_kept now as_long left_of
