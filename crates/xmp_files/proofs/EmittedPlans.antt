-- The file that is written is that of the plan: the old one with its payload exchanged, or the parts of a new one.
use Rattle.std.proofs.Common.{◌≡◌, ◌≢◌, ◌⊎◌, ℕ, ◌+◌, ◌-◌, ◌<◌, ◌≤◌, ◌^◌, List, [], ◌∷◌, ◌++◌, length, take, drop, refl, sym, ap, ◌∙◌, subst, arith, Ok, Err, Some, None, inl, inr, Result, append_assoc}
use Rattle.std.specs.declared.option.Option.{Option}
use Rattle.std.specs.Option.{unwrap_or}
use Rattle.std.specs.Prelude.{All}
use Rattle.std.specs.FinMap.{get}
use Rattle.std.proofs.lemmas.List.{append-nil, length-drop, take_all}
use Rattle.std.proofs.lemmas.List.Elements.{All-nil, All-cons}
use Rattle.xmp_base.specs.declared.device.Failed.{Failed}
use Rattle.xmp_base.specs.Device.{DeskState, CreateCall, Told, bytes_of, put_at}
use Rattle.xmp_base.proofs.Ranges.{put_same}
use Rattle.jpeg_regions.specs.Jpeg.{span}
use Rattle.jpeg_extended.specs.FromDesk.{payload_at}
use Rattle.xmp_files.specs.declared.held.Need.{Need}
use Rattle.xmp_files.specs.declared.parts.FilePart.{FilePart}
use Rattle.xmp_files.specs.declared.parts.NewFile.{NewFile}
use Rattle.xmp_files.specs.Faults.{no_file}
use Rattle.xmp_files.specs.Keeping.{Piece, Kept}
use Rattle.xmp_files.specs.Loading.{IsLoaded}
use Rattle.xmp_files.specs.Loads.{PayloadLies, IsOfSize}
use Rattle.xmp_files.specs.NewFiles.{parts_at, PartLies, spliced_parts}
use Rattle.xmp_files.specs.Planning.{Edited, Plan, Same, InPlace, Relocated, parts_bytes, parts_len, planned_file}
use Rattle.xmp_files.specs.Plans.{place_of, room_of, packet_of, planned_len}
use Rattle.xmp_files.specs.Planneds.{bytes_in, new_packet, IsNear}
use Rattle.xmp_files.specs.Emitting.{PartsCall, EmitCall, IsPlanFor, near_parts}
use Rattle.xmp_files.proofs.Emits.{emit_put}
use Rattle.xmp_files.proofs.ExchangedPackets.{Stands, loaded_stands}
use Rattle.xmp_files.proofs.LoadedKept.{loaded_size}
use Rattle.xmp_files.proofs.PlanCases.{IsExchange, Becomes, planned_cases}

abbrev spliced : List ℕ → ℕ → List ℕ → ℕ → ℕ → List ℕ
spliced file at bytes rest size = take at file ++ bytes ++ take (size - rest) (drop rest file)

whole_range : (bytes : List ℕ) → payload_at bytes (span 0 (length bytes)) ≡ bytes
whole_range bytes = take_all (length bytes - 0) bytes (omega arith)

-- what three parts join to
spliced_bytes : (file : List ℕ) (at : ℕ) (bytes : List ℕ) (rest size : ℕ) → parts_bytes file (parts_at bytes (spliced_parts at (length bytes) rest size)) ≡ spliced file at bytes rest size
spliced_bytes file at bytes rest size =
    let front : payload_at file (span 0 at) ≡ take at file = (let n : at - 0 ≡ at = omega arith in ap (λ (k : ℕ). take k file) n) in
    let back : payload_at file (span rest size) ++ [] ≡ take (size - rest) (drop rest file) = append-nil (payload_at file (span rest size)) in
    (λ i. front i ++ (whole_range bytes i ++ back i)) ∙ sym (append_assoc (take at file) bytes (take (size - rest) (drop rest file)))

spliced_len : (at : ℕ) (bytes : List ℕ) (rest size : ℕ) → parts_len (parts_at bytes (spliced_parts at (length bytes) rest size)) ≡ at + length bytes + (size - rest)
spliced_len at bytes rest size = omega (arith, ap length (whole_range bytes))

spliced_put : (file : List ℕ) (size at n : ℕ) (bytes : List ℕ) → length file ≡ size → at + n ≤ size → length bytes ≡ n → spliced file at bytes (at + n) size ≡ put_at file at bytes
spliced_put file size at n bytes whole within as_long =
    ap (λ (l : List ℕ). (take at file ++ bytes) ++ l)
    (take_all (size - (at + n)) (drop (at + n) file) (omega (arith, length-drop (at + n) file, whole)) ∙ ap (λ (k : ℕ). drop (at + k) file) (sym as_long))

spliced_same : (file : List ℕ) (size : ℕ) (q : Piece) → length file ≡ size → Stands file q → spliced file q.at q.bytes (q.at + length q.bytes) size ≡ file
spliced_same file size q whole stands =
    spliced_put file size q.at (length q.bytes) q.bytes whole (omega (arith, stands.within, whole)) refl
    ∙ ap (put_at file q.at) (sym stands.there) ∙ sym (put_same q.at (length q.bytes) file stands.within)

spliced_none : (file : List ℕ) (size : ℕ) → length file ≡ size → spliced file 0 [] 0 size ≡ file
spliced_none file size whole = take_all (size - 0) file (omega (arith, whole))

abbrev PlannedBytes : List ℕ → ℕ → Option Piece → Plan → Type 0
PlannedBytes file size payload plan = spliced file (place_of payload) (new_packet payload plan) (place_of payload + room_of payload) size ≡ planned_file file plan

-- of a plan that keeps the bytes
kept_bytes : (file : List ℕ) (size : ℕ) (payload : Option Piece) → length file ≡ size → ((q : Piece) → payload ≡ Some q → Stands file q)
    → spliced file (place_of payload) (bytes_in payload) (place_of payload + room_of payload) size ≡ file
kept_bytes file size None whole stands = spliced_none file size whole
kept_bytes file size (Some q) whole stands = spliced_same file size q whole (stands q refl)

planned_kept : (file : List ℕ) (size : ℕ) (payload : Option Piece) (plan : Plan) → length file ≡ size → ((q : Piece) → payload ≡ Some q → Stands file q)
    → (plan ≡ Same) ⊎ (plan ≡ InPlace []) → PlannedBytes file size payload plan
planned_kept file size payload plan whole stands (inl is) = subst (PlannedBytes file size payload) (sym is) (kept_bytes file size payload whole stands)
planned_kept file size payload plan whole stands (inr is) = subst (PlannedBytes file size payload) (sym is) (kept_bytes file size payload whole stands)

planned_exchange : (file : List ℕ) (size : ℕ) (payload : Option Piece) (e : Edited) (plan : Plan) → length file ≡ size → ((q : Piece) → payload ≡ Some q → Stands file q)
    → IsExchange payload e plan → PlannedBytes file size payload plan
planned_exchange file size payload e plan whole stands x =
    let q : Piece = x.old in
    let new : List ℕ = packet_of e (length q.bytes) in
    let put : spliced file q.at new (q.at + length q.bytes) size ≡ put_at file q.at new =
    spliced_put file size q.at (length q.bytes) new whole (omega (arith, (stands q x.there).within, whole)) x.as_long in
    subst (λ (o : Option Piece). PlannedBytes file size o plan) (sym x.there) (subst (PlannedBytes file size (Some q)) (sym x.is) put)

planned_by : (file : List ℕ) (kept : Kept) (e : Edited) (plan : Plan) → length file ≡ kept.size → ((q : Piece) → kept.payload ≡ Some q → Stands file q)
    → IsNear plan → Becomes kept.payload kept.container kept.portions e plan → PlannedBytes file kept.size kept.payload plan
planned_by file kept e plan whole stands near (inl h) = planned_kept file kept.size kept.payload plan whole stands h.1
planned_by file kept e plan whole stands near (inr (same, inl x)) = planned_exchange file kept.size kept.payload e plan whole stands x
planned_by file kept e plan whole stands near (inr (same, inr (inl x))) = absurd (subst IsNear x.is near)
planned_by file kept e plan whole stands near (inr (same, inr (inr (inl x)))) = absurd (subst IsNear x.is near)
planned_by file kept e plan whole stands near (inr (same, inr (inr (inr (inl x))))) = absurd (subst IsNear x.is near)
planned_by file kept e plan whole stands near (inr (same, inr (inr (inr (inr x))))) = absurd (subst IsNear x.is near)

-- a file that was loaded is there
pub loaded_there : (need : Need) (file : Option (List ℕ)) (kept : Kept) → IsLoaded need file (Ok kept) → file ≡ Some (unwrap_or file [])
loaded_there need None kept h = absurd (let bad : Ok kept ≡ Err no_file = h in cc)
loaded_there need (Some bytes) kept h = refl

planned_bytes : (s : DeskState) (held : Kept) (new : Plan) (from : List ℕ) → Told s.files (λ files. IsLoaded held.need (get files from) (Ok held)) → IsPlanFor held new → IsNear new
    → Told s.files (λ files. PlannedBytes (bytes_of files from) held.size held.payload new)
planned_bytes s held new from loaded plan near files told =
    let old : List ℕ = bytes_of files from in
    let here : IsLoaded held.need (Some old) (Ok held) =
    subst (λ (o : Option (List ℕ)). IsLoaded held.need o (Ok held)) (loaded_there held.need (get files from) held (loaded files told)) (loaded files told) in
    planned_by old held plan.2 new (sym (loaded_size held.need (Some old) held here)) (λ q there. loaded_stands held.need old held q here there) near
    (planned_cases held plan.0 plan.1 plan.2 new plan.3)

-- how many bytes are put
abbrev PlannedSize : ℕ → Option Piece → Plan → Type 0
PlannedSize size payload plan = place_of payload + length (new_packet payload plan) + (size - (place_of payload + room_of payload)) ≡ planned_len size plan

kept_size : (size : ℕ) (payload : Option Piece) → PayloadLies size payload → place_of payload + length (bytes_in payload) + (size - (place_of payload + room_of payload)) ≡ size
kept_size size None lies = omega arith
kept_size size (Some q) lies = omega (arith, lies.0)

size_kept : (size : ℕ) (payload : Option Piece) (plan : Plan) → PayloadLies size payload → (plan ≡ Same) ⊎ (plan ≡ InPlace []) → PlannedSize size payload plan
size_kept size payload plan lies (inl is) = subst (PlannedSize size payload) (sym is) (kept_size size payload lies)
size_kept size payload plan lies (inr is) = subst (PlannedSize size payload) (sym is) (kept_size size payload lies)

size_exchange : (size : ℕ) (payload : Option Piece) (e : Edited) (plan : Plan) → PayloadLies size payload → IsExchange payload e plan → PlannedSize size payload plan
size_exchange size payload e plan lies x =
    let q : Piece = x.old in
    let here : PayloadLies size (Some q) = subst (PayloadLies size) x.there lies in
    subst (λ (o : Option Piece). PlannedSize size o plan) (sym x.there) (subst (PlannedSize size (Some q)) (sym x.is) (omega (arith, here.0, x.as_long)))

size_by : (kept : Kept) (e : Edited) (plan : Plan) → PayloadLies kept.size kept.payload → IsNear plan → Becomes kept.payload kept.container kept.portions e plan → PlannedSize kept.size kept.payload plan
size_by kept e plan lies near (inl h) = size_kept kept.size kept.payload plan lies h.1
size_by kept e plan lies near (inr (same, inl x)) = size_exchange kept.size kept.payload e plan lies x
size_by kept e plan lies near (inr (same, inr (inl x))) = absurd (subst IsNear x.is near)
size_by kept e plan lies near (inr (same, inr (inr (inl x)))) = absurd (subst IsNear x.is near)
size_by kept e plan lies near (inr (same, inr (inr (inr (inl x))))) = absurd (subst IsNear x.is near)
size_by kept e plan lies near (inr (same, inr (inr (inr (inr x))))) = absurd (subst IsNear x.is near)

near_len : (held : Kept) (new : Plan) → IsPlanFor held new → IsOfSize held.size held → IsNear new → parts_len (near_parts held.payload new held.size) ≡ planned_len held.size new
near_len held new plan lies near =
    spliced_len (place_of held.payload) (new_packet held.payload new) (place_of held.payload + room_of held.payload) held.size
    ∙ size_by held plan.2 new lies.payload near (planned_cases held plan.0 plan.1 plan.2 new plan.3)

near_size : (size : ℕ) (plan : Plan) → IsNear plan → planned_len size plan ≡ size
near_size size Same near = refl
near_size size (InPlace pieces) near = refl
near_size size (Relocated parts) near = absurd near

-- the payload ends in the file
payload_end : (size : ℕ) (payload : Option Piece) → PayloadLies size payload → place_of payload + room_of payload ≤ size
payload_end size None lies = omega arith
payload_end size (Some q) lies = lies.0

three : (P : FilePart → Type 0) (a b c : FilePart) → P a → P b → P c → All P (a ∷ b ∷ c ∷ [])
three P a b c p q r = All-cons P a (b ∷ c ∷ []) p (All-cons P b (c ∷ []) q (All-cons P c [] r (All-nil P)))

-- The same of the numbers and the bytes as the code has them.
module _ (held : Kept) (new : Plan) (at len size : ℕ) (bytes : List ℕ) (at_is : at ≡ place_of held.payload) (len_is : len ≡ room_of held.payload) (size_is : size ≡ held.size)
    (bytes_is : bytes ≡ new_packet held.payload new) (lies : IsOfSize held.size held) where
  pub ends_within : at + len ≤ size
  ends_within = let end = payload_end held.size held.payload lies.payload in omega (arith, at_is, len_is, size_is, end)

  abbrev put : List FilePart
  put = spliced_parts at (length bytes) (at + len) size

  pub put_is : parts_at bytes put ≡ near_parts held.payload new held.size
  put_is = λ i. parts_at (bytes_is i) (spliced_parts (at_is i) (length (bytes_is i)) (at_is i + len_is i) (size_is i))

  pub put_lies : (known : ℕ) → known ≡ size → All (PartLies known (length bytes)) put
  put_lies known is =
      subst (λ (n : ℕ). All (PartLies n (length bytes)) put) (sym is)
      (three (PartLies size (length bytes)) _ _ _ (omega arith, omega (arith, ends_within)) (omega arith, omega arith) (ends_within, omega arith))

  pub put_room : IsPlanFor held new → IsNear new → size < 2 ^ 64 → parts_len (parts_at bytes put) < 2 ^ 64
  put_room plan near small = omega (arith, ap parts_len put_is, near_len held new plan lies near, near_size held.size new near, size_is, small)

module _ (held : Kept) (new : Plan) (s t u : DeskState) (from to : List ℕ) (apart : from ≢ to) (create : CreateCall s t to (Ok tt)) where
  -- the old file with its payload exchanged
  pub emit_near : (result : Result (Unit {0}) Failed) → Told s.files (λ files. IsLoaded held.need (get files from) (Ok held)) → IsPlanFor held new → IsOfSize held.size held → IsNear new
      → PartsCall t u from to (near_parts held.payload new held.size) result → EmitCall s u new held.size from to result
  emit_near result loaded plan lies near p =
      emit_put s t u from to (near_parts held.payload new held.size) apart create new held.size result p
      (λ files told. spliced_bytes (bytes_of files from) (place_of held.payload) (new_packet held.payload new) (place_of held.payload + room_of held.payload) held.size
      ∙ planned_bytes s held new from loaded plan near files told)
      (near_len held new plan lies near)

  -- a new file
  pub emit_anew : (file : NewFile) (result : Result (Unit {0}) Failed) → new ≡ Relocated (parts_at file.bytes file.parts.items) → PartsCall t u from to (parts_at file.bytes file.parts.items) result
      → EmitCall s u new held.size from to result
  emit_anew file result is p =
      emit_put s t u from to (parts_at file.bytes file.parts.items) apart create new held.size result p (λ files told. ap (planned_file (bytes_of files from)) (sym is))
      (ap (planned_len held.size) (sym is))
