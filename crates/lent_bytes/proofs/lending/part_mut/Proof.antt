-- `part_mut` lends bytes of a slice, from one index up to another: a walk of its MIR, by hand.
use mathlib.Core.Path.{◌≡◌, refl, sym, subst, ap, ◌∙◌}
use Prim.Native.Nat.{ℕ, ◌+◌, ◌-◌, ◌*◌, ◌^◌, ◌<◌, ◌≤◌}
use native.Mathlib.Nat.{mul-le-mul_right}
use native.Mathlib.Omega.{arith}
use mathlib.Core.List.{List, [], ◌∷◌, ◌++◌}
use lib.ListN.{length, take, drop as drop_list, take-append-drop, length-drop}
use seplogic.Ra.Ura.{Ura}
use mir.Syntax.{Body, named, w64, seq, assign, place, rv_opd, copy, return}
use mir.Val.{Val, vint}
use base.Logic.{SProp, ent}
use base.Fml.{Lft, GName, Share, ftrue, flft}
use prog.Memory.{Memory}
use prog.Routine.{Routine}
use prog.Wp.{Env, Calls, Loops, WpFn, Tables}
use types.Logic.{Logic}
use contract.Lifetimes.{AllOutlive}
use contract.Monad.{Fun}
use contract.Running.{tables, tables_of}
use sound.WpLaws.{WpFn-mono}
use types.Kit.{‵, ◌⊛◌, raw, given, some, later, at_ret, ◌$◌, ◌∵◌, !, qed, by, move, keep, drop, split, split3, join, learn, fsplit, fjoin, use2, await, pick, suffices, frame, rewrite, done}
use types.Part.{whole, sub, agg}
use types.Run.{stop, fld, hop, from, addr, bin, of_opd, and_then, no_more, first, blocks, exec, returns, enter}
use types.ByLocal.{alloc_all, pass_all, free_all, look_at, look_in_at, get, sets, sets_last, env}
use denote.Builtin.{usize, u8}
use denote.Exit.{yes, no}
use denote.Memory.{mem}
use denote.Plain.{uint_vals, uint_Tells}
use denote.RattleType.{owns}
use denote.Ref.{MutBor}
use denote.Signature.{plain, mut_slice_of}
use denote.Slice.{MutSlice, Room, slice_val, mut_slice_vals, mut_slice_Tells}
use denote.Steps.{nothing}
use denote.Triple.Clauses.{Clauses, Ended, closing}
use denote.Triple.Entry.{on_entry}
use denote.Triple.Spec.{Meets, triple_of}
use denote.Triple.Table.{entered}
use denote.Triple.Walked.{says, Stays, stay_dropped, walk_of, ends_at, walked, Goes-dropped, Goes-spent_slice, walk_Meets}
use borrow.Table.Elements.{at, at_mul, length-take-le}
use Rattle.std.proofs.lemmas.List.{drop-drop}
use Rattle.lent_bytes.proofs.Lent.{part_lent, lends_part}
use Rattle.lent_bytes.specs.contracts.lending.part_mut as F
use Rattle.lent_bytes.specs.contracts.lending.part_mut.Key.{name as #self}
use Rattle.lent_bytes.proofs.lending.part_mut.Statement as stated
use Rattle.lent_bytes.proofs.lending.part_mut.Code as code

abbrev ended : Ended
ended = F.ended

abbrev stayed : Stays ended.signature.params ended.kept
stayed = (stay_dropped (mut_slice_of (0 ∷ []) tt (plain (λ _. u8))) no, (stay_dropped (plain (λ _. usize)) yes, (stay_dropped (plain (λ _. usize)) yes, tt)))

abbrev rest : Body
rest = seq (assign (place 0 []) (rv_opd (copy (place 4 [])))) return

module _ {M : Type 1} {𝓤 : Ura M} (𝓛 : Logic 𝓤) (at_mem : Memory → SProp 𝓤) (run : Routine → Fun 𝓤) where
  open 𝓛 use {H}

  abbrev clauses : Clauses 𝓤 ended
  clauses = F.clauses 𝓛 at_mem run

  module _ (C : Calls 𝓤 H) (Λ : Loops 𝓤 H) (κ : Lft) (q : Share) (bd : AllOutlive 1 ended.signature.outlives (κ, tt)) (b o : ℕ) (γ : GName) (xs : List ℕ) (m e : ℕ) where
    abbrev self : MutBor (List ℕ)
    self = record { ref_ptr = (b, o); ghost_name = γ; now = xs }

    abbrev bound : (walk_of 𝓛 ended stayed clauses).Ghost
    bound = (((κ, tt), (q, tt), bd, (self, (m, (e, tt))), (mut_slice_vals self, (vint w64 m ∷ [], (vint w64 e ∷ [], tt)))), tt)

    abbrev Post : Val → SProp 𝓤
    Post = (walk_of 𝓛 ended stayed clauses).post bound

    walk : Room u8 (length xs) → m < 2 ^ 64 → e < 2 ^ 64 → m ≤ e → e ≤ length xs → ent 𝓤 (on_entry 𝓛 ended.signature (κ, tt) (q, tt) (self, (m, (e, tt))) (mut_slice_vals self, (vint w64 m ∷ [], (vint w64 e ∷ [], tt)))) (WpFn 𝓤 H C Λ code.function (slice_val (b, o) (length xs) ∷ vint w64 m ∷ vint w64 e ∷ []) Post)
    walk rm fm fe order le =
        let s : ℕ = (mem u8).size in
        let k : ℕ = e - m in
        let fit : length xs * s < 2 ^ 63 = rm.1 in
        let less : k * s ≤ length xs * s = mul-le-mul_right s (omega arith) in
        let fk : k < 2 ^ 64 = omega arith in
        let front : List ℕ = take m xs in
        let lf : length front ≡ m = length-take-le m xs (omega arith) in
        let lb : length (drop_list m xs) ≡ length xs - m = length-drop m xs in
        let on : at o s (length front) ≡ m + o = (let a = at_mul o s (length front) in omega arith) in
        let mid : List ℕ = take k (drop_list m xs) in
        let back : List ℕ = drop_list e xs in
        let after : drop_list k (drop_list m xs) ≡ back = drop-drop k m xs ∙ ap (λ (j : ℕ). drop_list j xs) (omega arith) in
        let cut : xs ≡ front ++ (mid ++ back) = sym (take-append-drop m xs) ∙ ap (λ (l : List ℕ). front ++ l) (sym (take-append-drop k (drop_list m xs)) ∙ ap (λ (l : List ℕ). mid ++ l) after) in
        let long : length mid ≡ k = length-take-le k (drop_list m xs) (omega arith) in
        let roomy : Room u8 (length mid) = subst (λ (j : ℕ). Room u8 j) (sym long) (fk, omega arith) in
        let p : ℕ = m + o in
        qed 𝓛 ((‵ (flft κ q) ⊛ ‵ ftrue) ∷ ‵ (owns (MutSlice (named 0) κ u8 ∷ usize ∷ usize ∷ []) (self, (m, (e, tt))) (mut_slice_vals self, (vint w64 m ∷ [], (vint w64 e ∷ [], tt)))) ∷ []) ∵ enter ! C Λ code.function (slice_val (b, o) (length xs) ∷ vint w64 m ∷ vint w64 e ∷ []) _ $
        alloc_all ! (λ l. pass_all ! refl ((tt, (tt, (record { fits = rm.0 }, tt))), ((tt, record { fits = fm }), ((tt, record { fits = fe }), tt))) $
        let En : Env 𝓤 H = env (code.function).locals l in
        first ! $ blocks ! $
        sets ! (addr ! (from ! (fld ! refl (hop ! (look_in_at ! 1 (sub ! 0 refl (whole !))) (stop !))))) refl (tt, tt) $
        sets ! (bin ! (get ! refl) (get ! refl) tt) refl (tt, tt) $
        sets ! (bin ! (get ! refl) (get ! refl) order) refl (tt, record { fits = fk }) $
        sets_last ! (agg ! (and_then ! (get ! refl) (and_then ! (get ! refl) (no_more !)))) refl (tt, (tt, (record { fits = fk }, tt))) $
        exec ! C Λ En rest (at_ret En Post) $
        sets ! (of_opd ! (get ! refl)) refl (tt, (tt, (record { fits = fk }, tt))) $
        split ! $ move ! (2 ∷ []) $ fsplit ! $ move ! (0 ∷ 2 ∷ []) $
        use2 𝓛 (later (some (part_lent 𝓛 (named 0) κ q b o γ u8 xs front mid back cut p on roomy))) (lends_part 𝓛 (named 0) κ q b o γ u8 xs front mid back cut p on roomy (mut_slice_vals self)) $ await ! tt $ pick ! (λ δ.
        returns ! (look_at ! 0 refl) $ free_all ! refl $ keep ! (0 ∷ 2 ∷ []) $ split3 ! $
        rewrite ! 0 (λ (j : ℕ). ‵ ((MutSlice (named 0) κ u8).own_val (record { ref_ptr = (b, p); ghost_name = δ; now = mid }) (slice_val (b, p) j ∷ []))) long refl $
        suffices ! _ (ends_at 𝓛 ended stayed clauses bound (slice_val (b, p) k) (record { ref_ptr = (b, p); ghost_name = δ; now = mid }) (tt, (tt, (tt, tt))) (tt, (tt, (tt, tt)))) $
        nothing ! $ nothing ! $ fjoin ! $ nothing ! $ fjoin ! $ nothing ! $ fjoin ! $ join ! $ move ! (1 ∷ 3 ∷ []) $ join ! $ join ! $ frame ! $ says ! refl $ done !))

  meets : (𝓣 : Tables 𝓤 H) → Meets 𝓛 ended.signature (WpFn 𝓤 H 𝓣.C 𝓣.Λ code.function) (closing 𝓛 ended clauses)
  meets 𝓣 =
      walk_Meets 𝓛 ended stayed (Goes-spent_slice 𝓛 1 (0 ∷ []) tt (plain (λ _. u8)), (Goes-dropped 𝓛 1 (plain (λ _. usize)) yes (λ κs x f. refl), (Goes-dropped 𝓛 1 (plain (λ _. usize)) yes (λ κs x f. refl), tt))) clauses (WpFn 𝓤 H 𝓣.C 𝓣.Λ code.function) (WpFn-mono 𝓤 H 𝓛.laws 𝓣 code.function)
      (walked 𝓛 ended stayed clauses (WpFn 𝓤 H 𝓣.C 𝓣.Λ code.function) (λ κs. (mut_slice_vals, (uint_vals w64, (uint_vals w64, tt)))) (λ κs. (mut_slice_Tells (named 0) κs.0 u8, (uint_Tells w64, (uint_Tells w64, tt))))
      (λ κs qs bounds a g are.
      let On : SProp 𝓤 = on_entry 𝓛 ended.signature κs qs a (mut_slice_vals a.0, (vint w64 a.1.0 ∷ [], (vint w64 a.1.1.0 ∷ [], tt))) in
      qed 𝓛 (raw On ∷ (given (a.1.0 ≤ a.1.1.0) (‵ ftrue) ⊛ given (a.1.1.0 ≤ length a.0.now) (‵ ftrue)) ∷ []) ∵
      move ! (1 ∷ []) $ split ! $ learn ! (λ order. drop ! $ learn ! (λ le. drop ! $
      by ! (walk 𝓣.C 𝓣.Λ κs.0 qs.0 bounds a.0.ref_ptr.0 a.0.ref_ptr.1 a.0.ghost_name a.0.now a.1.0 a.1.1.0 are.0.0.1 are.1.0.1 are.1.1.0.1 order le)))))

pub part_mut_spec : {M : Type 1} → stated.statement M
unfolding tables_of
part_mut_spec 𝓤 𝓛 𝓜 𝓡 wired =
    let A = 𝓛.A in
    let 𝓣 : Tables 𝓤 𝓛.H = tables_of 𝓤 𝓛.H 𝓜 (tables 𝓤 𝓛.H 𝓜 𝓡 𝓡.env) in
    entered 𝓤 𝓛.H (triple_of 𝓛 ended.signature (F.spec 𝓛 𝓜.mem 𝓡.returns)) 𝓣.C 𝓣.Λ #self code.function (code.unfolded 𝓤 𝓛.H 𝓜 𝓡 wired)
    (meets 𝓛 𝓜.mem 𝓡.returns 𝓣)
