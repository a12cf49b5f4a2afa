use Rattle.std.proofs.Common.{arith, ◌≡◌, ◌∙◌, length, List, ℕ, sym, subst, Ok}
use Rattle.std.proofs.lemmas.List.{take_at}
use Rattle.xmp_base.specs.Whole.{ReadAll}
use Rattle.xmp_base.proofs.Calls.{read_large, read_memory, read_device, read_done, size_known, size_len}
use Rattle.xmp_base.proofs.whole.read_all.Goals as goal

pub returns-then-size-limit : goal.returns-then-size-limit
returns-then-size-limit g c = record { call = read_large _ _ _ _ _ c.in-Ok.ensures.call c.if-size-limit.true }

pub returns-in_default : goal.returns-in_default
returns-in_default g c = record { call = read_memory _ _ _ _ _ c.in-Ok.ensures.call c.if-size-limit.false }

pub fill_from-requires-clause-known : goal.fill_from-requires-clause-known
fill_from-requires-clause-known g c = size_known _ _ _ _ c.args.limit c.in-Ok.ensures.call

pub fill_from-requires-clause-within : goal.fill_from-requires-clause-within
fill_from-requires-clause-within g c =
    let whole = c.as_mut_slice.ensures.len ∙ c.in-Ok-vec.ensures.len ∙ sym (size_len _ _ _ _ c.args.limit c.in-Ok.ensures.call) in
    omega (arith, whole)

pub returns-in-Ok-fill_from : goal.returns-in-Ok-fill_from
returns-in-Ok-fill_from g c =
    let size : length c.fill_from.new.to ≡ c.in-Ok.size = c.fill_from.auto.to ∙ c.as_mut_slice.ensures.len ∙ c.in-Ok-vec.ensures.len in
    let same : c.from_vec.result ≡ c.fill_from.new.to = c.from_vec.ensures ∙ take_at _ _ _ (size ∙ sym c.in-Ok-vec.ensures.len) in
    record {
      call = subst (λ (bytes : List ℕ). ReadAll (g.D.Desk.state c.args.desk.now) (g.D.Desk.state c.fill_from.new.desk) c.args.name.now c.args.limit (Ok bytes)) (sym same)
          (read_done _ _ _ _ _ c.in-Ok.ensures.call _ _ c.if-size-limit.false size c.in-Ok-fill_from.ensures.call c.in-Ok-fill_from.ensures.once);
    }

pub returns-in-Err : goal.returns-in-Err
returns-in-Err g c =
    let size : length c.fill_from.new.to ≡ c.in-Ok.size = c.fill_from.auto.to ∙ c.as_mut_slice.ensures.len ∙ c.in-Ok-vec.ensures.len in
    record { call = read_device _ _ _ _ _ c.in-Ok.ensures.call _ _ c.in-Err.field-0 c.if-size-limit.false size c.in-Err.ensures.call c.in-Err.ensures.once }
