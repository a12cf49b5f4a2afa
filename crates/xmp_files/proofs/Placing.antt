-- Where a packet that fits is put, and that a change of the tree is a plan.
use Rattle.std.proofs.Common.{◌≡◌, ℕ, ◌+◌, ◌<◌, ◌≤◌, Bool, true, false, List, [], ◌∷◌, ◌++◌, Some, None, Ok, Err, refl, inl, inr, arith, ap, sym, subst, ◌∙◌}
use Rattle.std.specs.Prelude.{◌≢◌, is_some, not, min, nat_lt}
use Rattle.std.proofs.Math.Nat.{min-le_left, min-eq_left}
use Rattle.std.proofs.lemmas.Bool.{le-ltb}
use Rattle.std.specs.declared.result.Result.{Result}
use Rattle.xmp_values.specs.declared.faults.Fault.{Fault}
use Rattle.xmp_values.specs.declared.hints.Hint.{Hint}
use Rattle.xmp_write.specs.declared.forms.Form.{Form}
use Rattle.xmp_write.specs.Prefixes.{prefixes}
use Rattle.xmp_write.specs.WrittenPackets.{least_len, packet}
use Rattle.xmp_files.specs.Faults.{packet_limit}
use Rattle.tiff_dirs.specs.Tiff.{Tiff}
use Rattle.xmp_files.specs.Loads.{ContainerLies}
use Rattle.std.specs.declared.option.Option.{Option}
use Rattle.std.proofs.lemmas.Bool.{and_parts}
use Rattle.xmp_values.specs.declared.stops.FaultStop.{FaultStop}
use Rattle.xmp_values.specs.declared.stops.FaultStop.TheVariants as faults
use Rattle.xmp_files.specs.Keeping.{Piece, Container, Text, Segments, Directories, regions_in, directories_in, Kept}
use Rattle.xmp_base.specs.declared.file_span.FileSpan.{FileSpan}
use Rattle.jpeg_regions.specs.Jpeg.{Region}
use Rattle.jpeg_relocation.specs.NewSegments.{main_limit}
use Rattle.xmp_files.specs.declared.plans.Exchange.{Exchange}
use Rattle.xmp_files.specs.Planning.{Edited, New, Plan, Same, InPlace, Relocated}
use Rattle.xmp_files.specs.Plans.{packet_of, room_of, put_over, told, padding, least_of, whole_form, unmoved, IsDivided, IsRelocation, OrRelocation, IsMoved, IsPlanned, stays, fits, exchanged, digest_pieces, put_among, put_last, segment_padded, segments_text}
use Rattle.xmp_files.specs.Planneds.{AmongAnswer, DivideAnswer, LastAnswer, MoveAnswer, PlanAnswer, plan_of}

-- a packet that fits is put over the payload
pub placed : (payload : Option Piece) (container : Container) (joined : Bool) (least : ℕ) (e : Edited) → fits payload joined least ≡ true
    → InPlace (exchanged payload e ++ digest_pieces container e.digest) ≡ put_over payload (packet_of e (room_of payload))
placed (Some payload) Text joined least e h = refl
placed (Some payload) (Segments regions) joined least e h = refl
placed (Some payload) (Directories size tiff) joined least e h = refl
placed None container joined least e h =
    let parts = and_parts (not joined) false h in
    let no : false ≡ true = parts.1 in
    absurd cc

-- a tree that stays
pub same_planned : (kept : Kept) (joined patch : Bool) (e : Edited) → e.new ≡ e.old → e.digest ≡ None → IsPlanned kept joined patch e (Ok Same)
same_planned kept joined patch e same none = inl (same, ap (λ (d : Option (List ℕ)). let r : Result Plan Fault = Ok (stays kept.container d) in r) (sym none))

-- a tree that changes
pub changed_planned : (kept : Kept) (joined patch : Bool) (e : Edited) (plan : Plan) → e.new ≢ e.old → IsMoved kept.payload kept.container kept.portions joined patch e (Ok plan) → IsPlanned kept joined patch e (Ok plan)
changed_planned kept joined patch e plan differs h = inr (differs, h)

-- the fault of a changed tree is that of the plan
pub stops_planned : (kept : Kept) (joined patch : Bool) (e : Edited) (stop : FaultStop) → e.new ≢ e.old → MoveAnswer kept.payload kept.container kept.portions joined patch e (Err stop)
    → PlanAnswer kept joined patch e (Err stop)
stops_planned kept joined patch e (faults.Fault fault) differs h = inr (differs, h)
stops_planned kept joined patch e faults.Memory differs h = tt

abbrev ok_plan : Plan → Result Plan Fault
ok_plan p = Ok p

-- a least length that is told, and with padding is within the limit, is the least length
least_small : (n least padded : ℕ) → least ≡ min n 18446744073709551615 → padded ≡ min (least + 2048) 18446744073709551615 → padded ≤ 16777216
    → (least ≡ n) × (n + 2048 ≤ 16777216)
least_small n least padded a b c = grind (arith, min-le_left, min-eq_left)

-- a packet that fits is over the payload, and that is what becomes of the file
moved_inside : (payload : Option Piece) (container : Container) (portions : List FileSpan) (joined patch : Bool) (e : Edited) (least : ℕ) (plan : Plan) → least ≡ least_of e
    → least_of e + 2048 ≤ 16777216 → fits payload joined least ≡ true → plan ≡ put_over payload (packet_of e (room_of payload))
    → IsMoved payload container portions joined patch e (Ok plan)
moved_inside payload container portions joined patch e least plan same short fit is =
    let test : nat_lt packet_limit (least_of e + padding) ≡ false = le-ltb packet_limit (least_of e + padding) short in
    let fit_2 : fits payload joined (least_of e) ≡ true = ap (fits payload joined) (sym same) ∙ fit in
    let put : InPlace (exchanged payload e ++ digest_pieces container e.digest) ≡ plan = placed payload container joined (least_of e) e fit_2 ∙ sym is in
    let first : unmoved payload container joined patch e ≡ Some (Ok (InPlace (exchanged payload e ++ digest_pieces container e.digest))) = rw (test, fit_2) refl in
    subst (λ (known : Option (Result Plan Fault)). OrRelocation known container portions e (Ok plan)) (sym first) (ap ok_plan (sym put))

-- the same of the numbers, the prefixes and the form as the code has them
pub inside_moved : (payload : Option Piece) (container : Container) (portions : List FileSpan) (joined patch : Bool) (e : Edited) (ps : List Hint) (form : Form) (least padded : ℕ) (plan : Plan)
    → ps ≡ prefixes e.new e.hints form → form ≡ whole_form e.new → least ≡ told (least_len ps e.new form) → padded ≡ min (least + 2048) 18446744073709551615
    → padded ≤ 16777216 → fits payload joined least ≡ true → plan ≡ put_over payload (packet ps e.new form (room_of payload))
    → IsMoved payload container portions joined patch e (Ok plan)
inside_moved payload container portions joined patch e ps form least padded plan ps_is form_is least_is padded_is small fit is =
    let lens : least_len ps e.new form ≡ least_of e = rw (ps_is, form_is) refl in
    let bytes : packet ps e.new form (room_of payload) ≡ packet_of e (room_of payload) = rw (ps_is, form_is) refl in
    let numbers = least_small (least_of e) least padded (least_is ∙ ap told lens) padded_is small in
    moved_inside payload container portions joined patch e least plan numbers.0 numbers.1 fit (is ∙ ap (put_over payload) bytes)

-- A packet that doesn't fit, where a file may be written anew.
not_fitting : (payload : Option Piece) (container : Container) (portions : List FileSpan) (joined : Bool) (e : Edited) (least : ℕ) (step : Result Plan Fault) → least ≡ least_of e
    → least_of e + 2048 ≤ 16777216 → fits payload joined least ≡ false → IsRelocation container portions e step → IsMoved payload container portions joined false e step
not_fitting payload container portions joined e least step same short fit h =
    let test : nat_lt packet_limit (least_of e + padding) ≡ false = le-ltb packet_limit (least_of e + padding) short in
    let fit_2 : fits payload joined (least_of e) ≡ false = ap (fits payload joined) (sym same) ∙ fit in
    let first : unmoved payload container joined false e ≡ None = rw (test, fit_2) refl in
    subst (λ (known : Option (Result Plan Fault)). OrRelocation known container portions e step) (sym first) h

anew_relocation : (container : Container) (portions : List FileSpan) (e : Edited) (padded : ℕ) (bytes : List ℕ) → is_some (directories_in container) ≡ false → regions_in container ≡ None → padded ≡ least_of e + padding → bytes ≡ packet_of e padded
    → IsRelocation container portions e (Ok (Relocated (New bytes ∷ [])))
anew_relocation Text portions e padded bytes none text padded_is is = ap (λ (l : List ℕ). ok_plan (Relocated (New l ∷ []))) (is ∙ ap (packet_of e) padded_is)
anew_relocation (Segments regions) portions e padded bytes none text padded_is is = absurd (cc text)
anew_relocation (Directories size tiff) portions e padded bytes none text padded_is is = absurd (cc none)

-- the packet is put at the end of a TIFF file
last_relocation : (container : Container) (portions : List FileSpan) (e : Edited) (size : ℕ) (tiff : Tiff) (step : Result Plan Fault) → directories_in container ≡ Some tiff → ContainerLies size container portions
    → step ≡ put_last size tiff (packet_of e (least_of e + padding)) → IsRelocation container portions e step
last_relocation Text portions e size tiff step dirs lies is = absurd (cc dirs)
last_relocation (Segments regions) portions e size tiff step dirs lies is = absurd (cc dirs)
last_relocation (Directories len other) portions e size tiff step dirs lies is =
    let same : other ≡ tiff = (let h : Some other ≡ Some tiff = dirs in cc) in
    is ∙ (λ i. put_last (sym lies i) (sym same i) (packet_of e (least_of e + padding)))

divided_relocation : (container : Container) (portions : List FileSpan) (e : Edited) (regions : List Region) (step : Result Plan Fault) → regions_in container ≡ Some regions → main_limit < least_of e
    → IsDivided regions portions e.new e.hints step → IsRelocation container portions e step
divided_relocation Text portions e regions step segments long is = absurd (cc segments)
divided_relocation (Directories size tiff) portions e regions step segments long is = absurd (cc segments)
divided_relocation (Segments others) portions e regions step segments long is =
    let same : regions ≡ others = (let h : Some others ≡ Some regions = segments in sym cc) in
    inr (long, subst (λ (rs : List Region). IsDivided rs portions e.new e.hints step) same is)

among_relocation : (container : Container) (portions : List FileSpan) (e : Edited) (regions : List Region) (step : Result Plan Fault) → regions_in container ≡ Some regions → least_of e ≤ main_limit
    → step ≡ put_among regions portions (segments_text (packet_of e (segment_padded (least_of e))) None) → IsRelocation container portions e step
among_relocation Text portions e regions step segments short is = absurd (cc segments)
among_relocation (Directories size tiff) portions e regions step segments short is = absurd (cc segments)
among_relocation (Segments others) portions e regions step segments short is =
    let same : regions ≡ others = (let h : Some others ≡ Some regions = segments in sym cc) in
    inl (short, is ∙ ap (λ (rs : List Region). put_among rs portions (segments_text (packet_of e (segment_padded (least_of e))) None)) same)

-- the padded length that is told is the padded length
padded_small : (n least padded : ℕ) → least ≡ n → n + 2048 ≤ 16777216 → padded ≡ min (least + 2048) 18446744073709551615 → padded ≡ n + 2048
padded_small n least padded a b c = grind (arith, min-le_left, min-eq_left)

module _ (payload : Option Piece) (container : Container) (portions : List FileSpan) (joined patch : Bool) (e : Edited) (ps : List Hint) (form : Form) (least padded : ℕ)
    (ps_is : ps ≡ prefixes e.new e.hints form) (form_is : form ≡ whole_form e.new) (least_is : least ≡ told (least_len ps e.new form))
    (padded_is : padded ≡ min (least + 2048) 18446744073709551615) (small : padded ≤ 16777216) (fit : fits payload joined least ≡ false) (anew : patch ≡ false) where
  lens : least_len ps e.new form ≡ least_of e
  lens = rw (ps_is, form_is) refl

  numbers : (least ≡ least_of e) × (least_of e + 2048 ≤ 16777216)
  numbers = least_small (least_of e) least padded (least_is ∙ ap told lens) padded_is small

  -- a sidecar is written anew
  pub anew_moved : (plan : Plan) (bytes : List ℕ) → is_some (directories_in container) ≡ false → regions_in container ≡ None → plan ≡ Relocated (New bytes ∷ []) → bytes ≡ packet ps e.new form padded → IsMoved payload container portions joined patch e (Ok plan)
  anew_moved plan bytes none text plan_is is =
      let same : packet ps e.new form padded ≡ packet_of e padded = rw (ps_is, form_is) refl in
      subst (λ (b : Bool). IsMoved payload container portions joined b e (Ok plan)) (sym anew)
      (subst (λ (p : Plan). IsMoved payload container portions joined false e (Ok p)) (sym plan_is)
      (not_fitting payload container portions joined e least (Ok (Relocated (New bytes ∷ []))) numbers.0 numbers.1 fit
      (anew_relocation container portions e padded bytes none text (padded_small (least_of e) least padded numbers.0 numbers.1 padded_is) (is ∙ same))))

  -- the packet is put at the end of a TIFF file
  last_moved : (size : ℕ) (tiff : Tiff) (step : Result Plan Fault) → directories_in container ≡ Some tiff → ContainerLies size container portions → step ≡ put_last size tiff (packet ps e.new form padded)
      → IsMoved payload container portions joined patch e step
  last_moved size tiff step dirs lies is =
      let same : packet ps e.new form padded ≡ packet_of e (least_of e + padding) =
      rw (ps_is, form_is) (ap (packet_of e) (padded_small (least_of e) least padded numbers.0 numbers.1 padded_is)) in
      subst (λ (b : Bool). IsMoved payload container portions joined b e step) (sym anew)
      (not_fitting payload container portions joined e least step numbers.0 numbers.1 fit
      (last_relocation container portions e size tiff step dirs lies (is ∙ ap (put_last size tiff) same)))

  pub last_answer : (size : ℕ) (tiff : Tiff) (result : Result Exchange FaultStop) → directories_in container ≡ Some tiff → ContainerLies size container portions → LastAnswer size tiff (packet ps e.new form padded) result
      → MoveAnswer payload container portions joined patch e result
  last_answer size tiff (Ok exchange) dirs lies is = last_moved size tiff (Ok (plan_of exchange)) dirs lies is
  last_answer size tiff (Err (faults.Fault fault)) dirs lies is = last_moved size tiff (Err fault) dirs lies is
  last_answer size tiff (Err faults.Memory) dirs lies is = tt

  -- the padded length has room for the packet
  pub padded_room : least_len ps e.new form ≤ padded
  padded_room = omega (arith, padded_small (least_of e) least padded numbers.0 numbers.1 padded_is, lens)

  -- a tree that is too long for a segment is divided
  divided_moved : (regions : List Region) (step : Result Plan Fault) → regions_in container ≡ Some regions → main_limit < least → IsDivided regions portions e.new e.hints step
      → IsMoved payload container portions joined patch e step
  divided_moved regions step segments long is =
      subst (λ (b : Bool). IsMoved payload container portions joined b e step) (sym anew)
      (not_fitting payload container portions joined e least step numbers.0 numbers.1 fit
      (divided_relocation container portions e regions step segments (omega (arith, long, numbers.0)) is))

  pub divided_answer : (regions : List Region) (result : Result Exchange FaultStop) → regions_in container ≡ Some regions → main_limit < least → DivideAnswer regions portions e.new e.hints result
      → MoveAnswer payload container portions joined patch e result
  divided_answer regions (Ok exchange) segments long is = divided_moved regions (Ok (plan_of exchange)) segments long is
  divided_answer regions (Err (faults.Fault fault)) segments long is = divided_moved regions (Err fault) segments long is
  divided_answer regions (Err faults.Memory) segments long is = tt

  -- the packet of the whole tree stands in a segment
  pub among_moved : (regions : List Region) (step : Result Plan Fault) → regions_in container ≡ Some regions → least ≤ main_limit
      → step ≡ put_among regions portions (segments_text (packet ps e.new form (segment_padded least)) None) → IsMoved payload container portions joined patch e step
  among_moved regions step segments short is =
      let same : packet ps e.new form (segment_padded least) ≡ packet_of e (segment_padded (least_of e)) = rw (ps_is, form_is) (ap (λ (n : ℕ). packet_of e (segment_padded n)) numbers.0) in
      subst (λ (b : Bool). IsMoved payload container portions joined b e step) (sym anew)
      (not_fitting payload container portions joined e least step numbers.0 numbers.1 fit
      (among_relocation container portions e regions step segments (omega (arith, short, numbers.0)) (is ∙ ap (λ (l : List ℕ). put_among regions portions (segments_text l None)) same)))

  -- what new segments made of the file
  pub among_answer : (regions : List Region) (result : Result Exchange FaultStop) → regions_in container ≡ Some regions → least ≤ main_limit
      → AmongAnswer regions portions (segments_text (packet ps e.new form (segment_padded least)) None) result → MoveAnswer payload container portions joined patch e result
  among_answer regions (Ok exchange) segments short is = among_moved regions (Ok (plan_of exchange)) segments short is
  among_answer regions (Err (faults.Fault fault)) segments short is = among_moved regions (Err fault) segments short is
  among_answer regions (Err faults.Memory) segments short is = tt

  pub least_exact : least ≡ least_len ps e.new form
  least_exact = numbers.0 ∙ sym lens
