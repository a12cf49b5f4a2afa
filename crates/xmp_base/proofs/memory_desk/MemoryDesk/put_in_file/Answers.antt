use Rattle.std.proofs.Common.{List, ℕ, length, refl, ap, ◌∙◌, arith}
use Rattle.std.proofs.lemmas.Result.{err_from_is_err_and}
use Rattle.std.specs.List.{position}
use Rattle.std.specs.String.{string_bytes}
use Rattle.std.specs.Str.{bytes_eq}
use Rattle.xmp_base.specs.declared.memory_desk.Entry.{Entry}
use Rattle.xmp_base.specs.Device.{put_at}
use Rattle.xmp_base.specs.MemoryState.{DeskMemory}
use Rattle.xmp_base.proofs.InMemoryWrites.{stored_set, bytes_at, same_entries, not_absent}
use Rattle.xmp_base.specs.contracts.memory_desk.MemoryDesk.{the_view}
use Rattle.xmp_base.proofs.memory_desk.MemoryDesk.put_in_file.Goals as goal

pub put-requires : goal.put-requires
put-requires c =
    let here = c.in-Some.ensures ∙ ap (λ (es : List Entry). position (λ (e : Entry). bytes_eq (string_bytes e.name) c.args.name.now) es) c.deref.ensures.value in
    let same = bytes_at c.self.inside.files.items _ _ _ c.index_mut-file.result.now here (ap (λ (d : DeskMemory). d.files) c.self.view_is) c.index_mut-file.ensures.value in
    omega (arith, c.requires.within, ap length same)

pub returns-in_ok-put-in-Some-clause-ok : goal.returns-in_ok-put-in-Some-clause-ok
returns-in_ok-put-in-Some-clause-ok c =
    let here = c.in-Some.ensures ∙ ap (λ (es : List Entry). position (λ (e : Entry). bytes_eq (string_bytes e.name) c.args.name.now) es) c.deref.ensures.value in
    let same = bytes_at c.self.inside.files.items _ _ _ c.index_mut-file.result.now here refl c.index_mut-file.ensures.value in
    rw (← c.self.view_is) (stored_set _ c.self.inside.files.items refl _ _ _ c.index_mut-file.result.now _ here c.index_mut-file.ensures.value refl
    (c.in_ok-put-in-Some.ensures.ok ∙ ap (λ (b : List ℕ). put_at b c.args.at c.args.piece.now) same))

pub returns-in_err-put-in-Some-clause-err : goal.returns-in_err-put-in-Some-clause-err
returns-in_err-put-in-Some-clause-err c =
    let same = same_entries c.self.inside.files.items c.in-Some.i c.index_mut-file.result.now (record { name = c.index_mut-file.result.now.name; bytes = c.put.new.bytes })
    c.index_mut-file.ensures.value refl c.in_err-put-in-Some.ensures.err in
    let p = err_from_is_err_and c.from_residual.result c.from_residual.ensures.1 in
    rw (p.1, ← c.self.view_is) (ap (λ (files : List (List ℕ × List ℕ)). record (the_view c.self.inside) { files = files }) same)

pub returns-in-None-clause-ok : goal.returns-in-None-clause-ok
returns-in-None-clause-ok c = absurd (not_absent c.self.inside.files.items _ _
    (c.in-None.ensures ∙ ap (λ (es : List Entry). position (λ (e : Entry). bytes_eq (string_bytes e.name) c.args.name.now) es) c.deref.ensures.value)
    (ap (λ (d : DeskMemory). d.files) c.self.view_is) c.requires.known)
