-- A tree in two texts, as the code makes them.
use Rattle.std.proofs.Common.{◌≡◌, ◌∙◌, ℕ, ◌+◌, ◌<◌, ◌≤◌, Bool, cond, true, false, List, length, Some, Ok, Err, sym, ap, subst, inl, inr, arith}
use Rattle.std.specs.Prelude.{nat_lt}
use Rattle.std.specs.declared.result.Result.{Result}
use Rattle.std.proofs.lemmas.Bool.{le-ltb, lt-ltb}
use Rattle.xmp_base.specs.declared.file_span.FileSpan.{FileSpan}
use Rattle.xmp_values.specs.Digits.{AreCapitals}
use Rattle.xmp_values.specs.declared.faults.Fault.{Fault}
use Rattle.xmp_values.specs.declared.hints.Hint.{Hint}
use Rattle.xmp_values.specs.declared.stops.FaultStop.{FaultStop}
use Rattle.xmp_values.specs.declared.stops.FaultStop.TheVariants as faults
use Rattle.xmp_tree.specs.Parts.{Parts}
use Rattle.xmp_write.specs.declared.forms.Form.{Form}
use Rattle.xmp_write.specs.declared.splits.Split.{Split}
use Rattle.xmp_write.specs.Splits.{front_form, rest_form, text_len, Tells, FitsNever}
use Rattle.jpeg_regions.specs.Jpeg.{Region}
use Rattle.jpeg_extended.specs.Written.{name_text}
use Rattle.jpeg_relocation.specs.NewSegments.{main_limit}
use Rattle.jpeg_relocation.proofs.Names.{name_capitals}
use Rattle.xmp_files.specs.declared.plans.Exchange.{Exchange}
use Rattle.xmp_files.specs.Faults.{packet_limit, over_extended}
use Rattle.xmp_files.specs.Planning.{Plan}
use Rattle.xmp_files.specs.Plans.{told, put_among, put_both, segments_text, rest_text, named_front, front_least, front_packet, over_segment, IsDivided}
use Rattle.xmp_files.specs.Planneds.{AmongAnswer, DivideAnswer, plan_of}

abbrev step_err : Fault → Result Plan Fault
step_err fault = Err fault

module _ (regions : List Region) (joined : List FileSpan) (t : Parts) (hints : List Hint) where
  pub divided_never : (least : ℕ) (fault : Fault) → FitsNever t hints main_limit least → fault ≡ over_segment least → IsDivided regions joined t hints (Err fault)
  divided_never least fault never is = inr (least, never, ap step_err is)

  module _ (split : Split) (tells : Tells t hints main_limit split) where
    abbrev rest : List ℕ
    rest = rest_text t hints split.count

    abbrev new : List ℕ
    new = segments_text (front_packet t hints split.count) (Some rest)

    pub divided_long : (fault : Fault) → packet_limit < split.rest → fault ≡ over_extended split.rest → IsDivided regions joined t hints (Err fault)
    divided_long fault long is =
        let test : nat_lt packet_limit (length rest) ≡ true = lt-ltb packet_limit (length rest) (omega (arith, long, tells.rest)) in
        inl (split.count, tells.largest, ap step_err (is ∙ ap over_extended tells.rest) ∙ sym (ap (λ (b : Bool). cond b (step_err (over_extended (told (length rest)))) (put_among regions joined new)) test))

    module _ (short : split.rest ≤ packet_limit) where
      rest_exact : split.rest ≡ text_len t hints (rest_form t split.count)
      rest_exact = omega (arith, short, tells.rest)

      put_is : put_both regions joined t hints split.count ≡ put_among regions joined new
      put_is =
          let test : nat_lt packet_limit (length rest) ≡ false = le-ltb packet_limit (length rest) (omega (arith, short, tells.rest)) in
          ap (λ (b : Bool). cond b (step_err (over_extended (told (length rest)))) (put_among regions joined new)) test

      divided_step : (step : Result Plan Fault) → step ≡ put_among regions joined new → IsDivided regions joined t hints step
      divided_step step is = inl (split.count, tells.largest, is ∙ sym put_is)

      pub divided_result : (result : Result Exchange FaultStop) → AmongAnswer regions joined new result → DivideAnswer regions joined t hints result
      divided_result (Ok exchange) is = divided_step (Ok (plan_of exchange)) is
      divided_result (Err (faults.Fault fault)) is = divided_step (Err fault) is
      divided_result (Err faults.Memory) is = tt

module _ (t : Parts) (hints : List Hint) (split : Split) (tells : Tells t hints main_limit split) where
  pub rest_len : split.rest ≤ packet_limit → split.rest ≡ text_len t hints (rest_form t split.count)
  rest_len short = omega (arith, short, tells.rest)

  module _ (name : List ℕ) (named : name ≡ name_text (rest_text t hints split.count)) where
    front_is : front_form name split.count ≡ named_front t hints split.count
    front_is = ap (λ (digits : List ℕ). front_form digits split.count) named

    capitals : AreCapitals name
    capitals = subst AreCapitals (sym named) (name_capitals (rest_text t hints split.count))

    pub front_form_is : (form : Form) → form ≡ front_form name split.count → form ≡ named_front t hints split.count
    front_form_is form is = is ∙ front_is

    pub front_len : 73 + split.front ≡ front_least t hints split.count
    front_len = omega (arith, tells.front name capitals, ap (text_len t hints) front_is)

    pub front_fits : 73 + split.front ≤ main_limit
    front_fits = omega (arith, tells.front name capitals, tells.largest.fits name capitals)
