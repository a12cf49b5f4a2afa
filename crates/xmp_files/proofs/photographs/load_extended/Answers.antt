use Rattle.std.proofs.Common.{◌∙◌, ℕ, List, None, Some, Option, sym, subst}
use Rattle.xmp_files.specs.Helds.{piece_of}
use Rattle.xmp_files.specs.Keeping.{photograph}
use Rattle.xmp_files.specs.Loads.{IsNoteFor}
use Rattle.jpeg_extended.specs.FromDesk.{AreInside}
use Rattle.xmp_files.proofs.LoadedExtended.{kept_wants, kept_alone, kept_text, kept_stopped, payloads_lie}
use Rattle.xmp_files.proofs.photographs.load_extended.Goals as goal

pub returns-in-Err : goal.returns-in-Err
returns-in-Err g c = record {
  call = kept_wants c.args.need (g.D.Desk.state c.args.desk.now) c.args.name.now c.args.size (record { len = c.requires.len; whole = c.requires.told }) c.requires.kind c.args.regions (piece_of c.args.packet)
      c.requires.jpeg c.requires.packet c.requires.lies c.requires.short c.requires.tiles;
}

pub returns-in-Err-note_for : goal.returns-in-Err-note_for
returns-in-Err-note_for g c = record {
  call = kept_wants c.args.need (g.D.Desk.state c.args.desk.now) c.args.name.now c.args.size (record { len = c.requires.len; whole = c.requires.told }) c.requires.kind c.args.regions (piece_of c.args.packet)
      c.requires.jpeg c.requires.packet c.requires.lies c.requires.short c.requires.tiles;
}

pub returns-in_default : goal.returns-in_default
returns-in_default g c = record {
  call = kept_alone c.args.need (g.D.Desk.state c.args.desk.now) c.args.name.now c.args.size (record { len = c.requires.len; whole = c.requires.told }) c.requires.kind c.args.regions (piece_of c.args.packet)
      c.requires.jpeg c.requires.packet c.requires.lies c.requires.short c.requires.tiles c.as_slice-listed.result.now (c.as_slice-listed.ensures.value ∙ c.in-Ok.ensures) c.photograph.result
      (subst (λ (bytes : List ℕ). IsNoteFor c.as_slice-listed.result.now bytes None) c.as_slice.ensures
      (subst (λ (n : Option (List ℕ)). IsNoteFor c.as_slice-listed.result.now c.as_slice.result.now n) c.in_default.is c.in-Ok-note_for.ensures))
      (c.photograph.ensures ∙ (λ i. photograph c.args.need c.args.size c.args.regions (Some (piece_of c.args.packet)) (c.no_text-text.ensures.portions i) (c.no_text-text.ensures.joined i)));
}

pub extended_text-requires-clause-inside : goal.extended_text-requires-clause-inside
extended_text-requires-clause-inside g c =
    subst (AreInside c.args.size) (sym (c.as_slice-listed.ensures.value ∙ c.in-Ok.ensures)) (payloads_lie c.args.size c.args.regions c.requires.tiles)

pub returns-in-Ok-extended_text : goal.returns-in-Ok-extended_text
returns-in-Ok-extended_text g c = record {
  call = kept_text c.args.need (g.D.Desk.state c.args.desk.now) c.args.name.now c.args.size (record { len = c.requires.len; whole = c.requires.told }) c.requires.kind c.args.regions (piece_of c.args.packet)
      c.requires.jpeg c.requires.packet c.requires.lies c.requires.short c.requires.tiles c.as_slice-listed.result.now (c.as_slice-listed.ensures.value ∙ c.in-Ok.ensures) c.in-Some.note
      (subst (λ (bytes : List ℕ). IsNoteFor c.as_slice-listed.result.now bytes (Some c.in-Some.note)) c.as_slice.ensures
      (subst (λ (n : Option (List ℕ)). IsNoteFor c.as_slice-listed.result.now c.as_slice.result.now n) c.in-Some.is c.in-Ok-note_for.ensures))
      (g.D.Desk.state c.extended_text.new.desk) _ c.in-Ok-extended_text.text c.in-Ok-extended_text.ensures.call c.photograph-in-Ok-extended_text.ensures;
}

pub returns-in-Err-extended_text : goal.returns-in-Err-extended_text
returns-in-Err-extended_text g c = record {
  call = kept_stopped c.args.need (g.D.Desk.state c.args.desk.now) c.args.name.now c.args.size (record { len = c.requires.len; whole = c.requires.told }) c.requires.kind c.args.regions (piece_of c.args.packet)
      c.requires.jpeg c.requires.packet c.requires.lies c.requires.short c.requires.tiles c.as_slice-listed.result.now (c.as_slice-listed.ensures.value ∙ c.in-Ok.ensures) c.in-Some.note
      (subst (λ (bytes : List ℕ). IsNoteFor c.as_slice-listed.result.now bytes (Some c.in-Some.note)) c.as_slice.ensures
      (subst (λ (n : Option (List ℕ)). IsNoteFor c.as_slice-listed.result.now c.as_slice.result.now n) c.in-Some.is c.in-Ok-note_for.ensures))
      (g.D.Desk.state c.extended_text.new.desk) c.in-Err-extended_text.stop c.in-Err-extended_text.ensures.call;
}
