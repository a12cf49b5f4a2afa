use Rattle.xmp_files.specs.Planning.{Edited}
use Rattle.std.proofs.Common.{ℕ, List, length, None, sym, ap, ◌∙◌, subst, arith}
use Rattle.std.specs.Prelude.{IfOk, is_some}
use Rattle.std.specs.Option.{option_copied}
use Rattle.xmp_base.specs.declared.file_span.FileSpan.{FileSpan}
use Rattle.jpeg_regions.specs.Jpeg.{portion_payloads}
use Rattle.jpeg_regions.specs.Cutting.{Tiles}
use Rattle.jpeg_extended.specs.FromDesk.{ArePicked}
use Rattle.xmp_write.specs.WrittenPackets.{packet}
use Rattle.xmp_files.specs.Planning.{Part, Relocated}
use Rattle.xmp_files.specs.Plans.{segments_text, segment_padded, MayPlan}
use Rattle.xmp_files.proofs.Relocations.{container_lies, any_ok}
use Rattle.xmp_tree.specs.Wf.{Wf}
use Rattle.xmp_files.proofs.MayBeWritten.{may_be_written}
use Rattle.xmp_files.proofs.Placing.{inside_moved, anew_moved, last_answer, padded_room, divided_answer, among_answer, least_exact}
use Rattle.xmp_files.specs.Planneds.{plan_of, AmongAnswer, DivideAnswer, LastAnswer, ExchangeLies}
use Rattle.xmp_files.proofs.plans.change_of.Goals as goal

pub returns-then-fits-clause-step : goal.returns-then-fits-clause-step
returns-then-fits-clause-step c old =
    let e : Edited = record { old = old; new = c.args.tree.now; hints = c.args.hints.now; digest = None } in
    inside_moved c.args.held.now.payload c.args.held.now.container c.args.held.now.portions c.args.joined c.args.patch e c.in_ok-prefixes.prefixes c.whole-form.result c.least_len-least.result
    c.saturating_add-padded.result (plan_of c.in_ok-inside.field-0) c.in_ok-prefixes.ensures c.whole-form.ensures c.least_len-least.ensures c.saturating_add-padded.ensures
    c.if-padded-gt-PACKET_LIMIT.false (sym c.fits.ensures ∙ c.if-fits.true) c.in_ok-inside.ensures

pub returns-then-fits-clause-written : goal.returns-then-fits-clause-written
returns-then-fits-clause-written c =
    may_be_written c.args.tree.now c.args.hints.now c.in_ok-prefixes.prefixes c.whole-form.result (subst Wf c.tree.view_is c.tree.invariant) c.as_slice.ensures.valid
    c.whole-form.ensures c.in_ok-prefixes.ensures (omega (arith, c.count_of-count.ensures.sum, c.count_of-count.type_inv, ap length c.as_slice.ensures.hints, ap length c.as_slice-2.ensures))
    (omega (arith, c.count_of-count.ensures.few, ap length c.as_slice.ensures.hints))

pub append_packet-requires-clause-room : goal.append_packet-requires-clause-room
append_packet-requires-clause-room c =
    let e : Edited = record { old = c.args.tree.now; new = c.args.tree.now; hints = c.args.hints.now; digest = None } in
    padded_room c.args.held.now.payload c.args.held.now.container c.args.held.now.portions c.args.joined c.args.patch e c.in_ok-prefixes.prefixes c.whole-form.result c.least_len-least.result
    c.saturating_add-padded.result c.in_ok-prefixes.ensures c.whole-form.ensures c.least_len-least.ensures c.saturating_add-padded.ensures
    c.if-padded-gt-PACKET_LIMIT.false (sym c.fits.ensures ∙ c.if-fits.false) c.if-patch.false

pub returns-in-Some-clause-step : goal.returns-in-Some-clause-step
returns-in-Some-clause-step c old =
    let e : Edited = record { old = old; new = c.args.tree.now; hints = c.args.hints.now; digest = None } in
    last_answer c.args.held.now.payload c.args.held.now.container c.args.held.now.portions c.args.joined c.args.patch e c.in_ok-prefixes.prefixes c.whole-form.result c.least_len-least.result
    c.saturating_add-padded.result c.in_ok-prefixes.ensures c.whole-form.ensures c.least_len-least.ensures c.saturating_add-padded.ensures
    c.if-padded-gt-PACKET_LIMIT.false (sym c.fits.ensures ∙ c.if-fits.false) c.if-patch.false c.args.held.now.size c.in-Some.dirs.now c.append_packet.result
    (sym c.directories.ensures ∙ ap option_copied c.in-Some.is) c.requires.lies.container
    (subst (λ (n : ℕ). LastAnswer n c.in-Some.dirs.now (packet c.in_ok-prefixes.prefixes c.args.tree.now c.whole-form.result c.saturating_add-padded.result) c.append_packet.result)
    c.size.ensures c.append_packet.ensures.step)

pub returns-in-Some-clause-written : goal.returns-in-Some-clause-written
returns-in-Some-clause-written c =
    any_ok (MayPlan c.args.tree.now c.args.hints.now) c.append_packet.result
    (may_be_written c.args.tree.now c.args.hints.now c.in_ok-prefixes.prefixes c.whole-form.result (subst Wf c.tree.view_is c.tree.invariant) c.as_slice.ensures.valid
    c.whole-form.ensures c.in_ok-prefixes.ensures (omega (arith, c.count_of-count.ensures.sum, c.count_of-count.type_inv, ap length c.as_slice.ensures.hints, ap length c.as_slice-2.ensures))
    (omega (arith, c.count_of-count.ensures.few, ap length c.as_slice.ensures.hints)))

pub returns-in-Some-clause-lies : goal.returns-in-Some-clause-lies
returns-in-Some-clause-lies c = subst (λ (n : ℕ). IfOk c.append_packet.result (ExchangeLies n)) c.size.ensures c.append_packet.ensures.lies

pub returns-in_default-regions-clause-step : goal.returns-in_default-regions-clause-step
returns-in_default-regions-clause-step c old =
    let e : Edited = record { old = old; new = c.args.tree.now; hints = c.args.hints.now; digest = None } in
    anew_moved c.args.held.now.payload c.args.held.now.container c.args.held.now.portions c.args.joined c.args.patch e c.in_ok-prefixes.prefixes c.whole-form.result c.least_len-least.result
    c.saturating_add-padded.result c.in_ok-prefixes.ensures c.whole-form.ensures c.least_len-least.ensures c.saturating_add-padded.ensures
    c.if-padded-gt-PACKET_LIMIT.false (sym c.fits.ensures ∙ c.if-fits.false) c.if-patch.false _ c.in_ok-bytes.bytes
    (ap is_some (sym c.directories.ensures ∙ ap option_copied c.in_default.is)) (sym c.regions.ensures ∙ ap option_copied c.in_default-regions.is)
    (ap (λ (ps : List Part). Relocated ps) c.in_ok-whole_file.ensures.is) c.in_ok-bytes.ensures

pub returns-in_default-regions-clause-written : goal.returns-in_default-regions-clause-written
returns-in_default-regions-clause-written c =
    may_be_written c.args.tree.now c.args.hints.now c.in_ok-prefixes.prefixes c.whole-form.result (subst Wf c.tree.view_is c.tree.invariant) c.as_slice.ensures.valid
    c.whole-form.ensures c.in_ok-prefixes.ensures (omega (arith, c.count_of-count.ensures.sum, c.count_of-count.type_inv, ap length c.as_slice.ensures.hints, ap length c.as_slice-2.ensures))
    (omega (arith, c.count_of-count.ensures.few, ap length c.as_slice.ensures.hints))

pub returns-in_default-regions-clause-lies : goal.returns-in_default-regions-clause-lies
returns-in_default-regions-clause-lies c = c.in_ok-whole_file.ensures.lies c.args.held.now.size

pub returns-then-least-gt-SEGMENT_LIMIT-clause-step : goal.returns-then-least-gt-SEGMENT_LIMIT-clause-step
returns-then-least-gt-SEGMENT_LIMIT-clause-step c old =
    let e : Edited = record { old = old; new = c.args.tree.now; hints = c.args.hints.now; digest = None } in
    divided_answer c.args.held.now.payload c.args.held.now.container c.args.held.now.portions c.args.joined c.args.patch e c.in_ok-prefixes.prefixes c.whole-form.result c.least_len-least.result
    c.saturating_add-padded.result c.in_ok-prefixes.ensures c.whole-form.ensures c.least_len-least.ensures c.saturating_add-padded.ensures
    c.if-padded-gt-PACKET_LIMIT.false (sym c.fits.ensures ∙ c.if-fits.false) c.if-patch.false c.in-Some-regions.regions.now c.with_both.result (sym c.regions.ensures ∙ ap option_copied c.in-Some-regions.is)
    c.if-least-gt-SEGMENT_LIMIT.true
    (subst (λ (ps : List FileSpan). DivideAnswer c.in-Some-regions.regions.now ps c.args.tree.now c.args.hints.now c.with_both.result) c.portions-portions.ensures c.with_both.ensures.step)

pub returns-then-least-gt-SEGMENT_LIMIT-clause-written : goal.returns-then-least-gt-SEGMENT_LIMIT-clause-written
returns-then-least-gt-SEGMENT_LIMIT-clause-written c =
    any_ok (MayPlan c.args.tree.now c.args.hints.now) c.with_both.result
    (may_be_written c.args.tree.now c.args.hints.now c.in_ok-prefixes.prefixes c.whole-form.result (subst Wf c.tree.view_is c.tree.invariant) c.as_slice.ensures.valid
    c.whole-form.ensures c.in_ok-prefixes.ensures (omega (arith, c.count_of-count.ensures.sum, c.count_of-count.type_inv, ap length c.as_slice.ensures.hints, ap length c.as_slice-2.ensures))
    (omega (arith, c.count_of-count.ensures.few, ap length c.as_slice.ensures.hints)))

pub returns-then-least-gt-SEGMENT_LIMIT-clause-lies : goal.returns-then-least-gt-SEGMENT_LIMIT-clause-lies
returns-then-least-gt-SEGMENT_LIMIT-clause-lies c = subst (λ (n : ℕ). IfOk c.with_both.result (ExchangeLies n)) c.size-size.ensures c.with_both.ensures.lies

pub with_both-requires-clause-tiles : goal.with_both-requires-clause-tiles
with_both-requires-clause-tiles c =
    subst (λ (n : ℕ). Tiles 2 n c.in-Some-regions.regions.now) (sym c.size-size.ensures)
    (container_lies c.args.held.now.size c.args.held.now.container c.args.held.now.portions c.in-Some-regions.regions.now c.requires.lies.container (sym c.regions.ensures ∙ ap option_copied c.in-Some-regions.is)).0

pub with_both-requires-clause-among : goal.with_both-requires-clause-among
with_both-requires-clause-among c =
    subst (λ (ps : List FileSpan). ArePicked ps (portion_payloads c.in-Some-regions.regions.now)) (sym c.portions-portions.ensures)
    (container_lies c.args.held.now.size c.args.held.now.container c.args.held.now.portions c.in-Some-regions.regions.now c.requires.lies.container (sym c.regions.ensures ∙ ap option_copied c.in-Some-regions.is)).1

pub with_packet-requires-clause-tiles : goal.with_packet-requires-clause-tiles
with_packet-requires-clause-tiles c =
    subst (λ (n : ℕ). Tiles 2 n c.in-Some-regions.regions.now) (sym c.size-size.ensures)
    (container_lies c.args.held.now.size c.args.held.now.container c.args.held.now.portions c.in-Some-regions.regions.now c.requires.lies.container (sym c.regions.ensures ∙ ap option_copied c.in-Some-regions.is)).0

pub with_packet-requires-clause-among : goal.with_packet-requires-clause-among
with_packet-requires-clause-among c =
    subst (λ (ps : List FileSpan). ArePicked ps (portion_payloads c.in-Some-regions.regions.now)) (sym c.portions-portions.ensures)
    (container_lies c.args.held.now.size c.args.held.now.container c.args.held.now.portions c.in-Some-regions.regions.now c.requires.lies.container (sym c.regions.ensures ∙ ap option_copied c.in-Some-regions.is)).1

pub with_packet-requires-clause-least : goal.with_packet-requires-clause-least
with_packet-requires-clause-least c =
    let e : Edited = record { old = c.args.tree.now; new = c.args.tree.now; hints = c.args.hints.now; digest = None } in
    least_exact c.args.held.now.payload c.args.held.now.container c.args.held.now.portions c.args.joined c.args.patch e c.in_ok-prefixes.prefixes c.whole-form.result c.least_len-least.result
    c.saturating_add-padded.result c.in_ok-prefixes.ensures c.whole-form.ensures c.least_len-least.ensures c.saturating_add-padded.ensures
    c.if-padded-gt-PACKET_LIMIT.false (sym c.fits.ensures ∙ c.if-fits.false) c.if-patch.false

pub returns-clause-step : goal.returns-clause-step
returns-clause-step c old =
    let e : Edited = record { old = old; new = c.args.tree.now; hints = c.args.hints.now; digest = None } in
    among_answer c.args.held.now.payload c.args.held.now.container c.args.held.now.portions c.args.joined c.args.patch e c.in_ok-prefixes.prefixes c.whole-form.result c.least_len-least.result
    c.saturating_add-padded.result c.in_ok-prefixes.ensures c.whole-form.ensures c.least_len-least.ensures c.saturating_add-padded.ensures
    c.if-padded-gt-PACKET_LIMIT.false (sym c.fits.ensures ∙ c.if-fits.false) c.if-patch.false c.in-Some-regions.regions.now c.with_packet.result (sym c.regions.ensures ∙ ap option_copied c.in-Some-regions.is)
    c.if-least-gt-SEGMENT_LIMIT.false
    (subst (λ (ps : List FileSpan). AmongAnswer c.in-Some-regions.regions.now ps (segments_text (packet c.in_ok-prefixes.prefixes c.args.tree.now c.whole-form.result (segment_padded c.least_len-least.result)) None) c.with_packet.result)
    c.portions-portions.ensures c.with_packet.ensures.step)

pub returns-clause-written : goal.returns-clause-written
returns-clause-written c =
    any_ok (MayPlan c.args.tree.now c.args.hints.now) c.with_packet.result
    (may_be_written c.args.tree.now c.args.hints.now c.in_ok-prefixes.prefixes c.whole-form.result (subst Wf c.tree.view_is c.tree.invariant) c.as_slice.ensures.valid
    c.whole-form.ensures c.in_ok-prefixes.ensures (omega (arith, c.count_of-count.ensures.sum, c.count_of-count.type_inv, ap length c.as_slice.ensures.hints, ap length c.as_slice-2.ensures))
    (omega (arith, c.count_of-count.ensures.few, ap length c.as_slice.ensures.hints)))

pub returns-clause-lies : goal.returns-clause-lies
returns-clause-lies c = subst (λ (n : ℕ). IfOk c.with_packet.result (ExchangeLies n)) c.size-size.ensures c.with_packet.ensures.lies
