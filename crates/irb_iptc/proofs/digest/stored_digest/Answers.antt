use Rattle.std.proofs.Common.{◌≡◌, ◌==◌, ◌-◌, ℕ, [], ◌∷◌, ◌++◌, Option, true, false, cond, drop, map, sym, ap, subst, ◌∙◌, arith, eq-eqb}
use Rattle.std.proofs.lemmas.Bool.{ne_eqb}
use Rattle.std.proofs.lemmas.List.{map_push}
use Rattle.std.specs.Option.{option_map, option_and_then}
use Rattle.irb_iptc.specs.Resources.{EndsList, IsCut}
use Rattle.irb_iptc.specs.Listing.{Placed, of_id, in_memory}
use Rattle.irb_iptc.specs.Digest.{digest_of_block}
use Rattle.irb_iptc.specs.Reading.{IsFound, Underway, place_of}
use Rattle.irb_iptc.proofs.Runs.{underway_more}
use Rattle.irb_iptc.proofs.Digests.{first_found, none_found, cut_found, of_id-append}
use Rattle.irb_iptc.proofs.digest.stored_digest.Goals as goal

pub returns-then-block-eq-STORED_DIGEST-clause-is : goal.returns-then-block-eq-STORED_DIGEST-clause-is
returns-then-block-eq-STORED_DIGEST-clause-is c = λ listing l.
    let at = c.next.at in
    let u = c.next.invariant in
    let same : at ≡ at - 0 = omega arith in
    let f = subst (λ (n : ℕ). IsFound (drop n c.args.bytes.now) at c.in-Found.block) same c.in-Found.ensures.is in
    let here : (c.in-Found.block.id == 1061) ≡ true = eq-eqb c.in-Found.block.id 1061 c.if-block-eq-STORED_DIGEST.true in
    let first = first_found 1061 c.args.bytes.now u.0 at u.1 u.2 c.in-Found.block f here listing l in
    c.digest_of_block.ensures.is ∙ ap (λ (o : Option Placed). option_map in_memory (option_and_then digest_of_block o)) (sym first)

pub next-preserved : goal.next-preserved
next-preserved c =
    let at = c.next.at in
    let u = c.next.invariant in
    let same : at ≡ at - 0 = omega arith in
    let block = c.in-Found.block in
    let f = subst (λ (n : ℕ). IsFound (drop n c.args.bytes.now) at block) same c.in-Found.ensures.is in
    let other : (block.id == 1061) ≡ false = ne_eqb block.id 1061 c.if-block-eq-STORED_DIGEST.false in (
      u.0 ++ block ∷ [],
      subst (λ (n : ℕ). Underway c.args.bytes.now 0 (u.0 ++ block ∷ []) n) (sym c.end-at.ensures) (underway_more c.args.bytes.now 0 u.0 at u.1 block f),
      ap (of_id 1061) (map_push place_of u.0 block) ∙ of_id-append 1061 (map place_of u.0) (place_of block ∷ []) ∙ ap (λ ps. ps ++ of_id 1061 (place_of block ∷ [])) u.2
          ∙ (let alone : of_id 1061 (place_of block ∷ []) ≡ [] = ap (λ b. cond b (place_of block ∷ []) []) other in alone),
    )

pub returns-in-Ended-clause-is : goal.returns-in-Ended-clause-is
returns-in-Ended-clause-is c = λ listing l.
    let at = c.next.at in
    let u = c.next.invariant in
    let same : at ≡ at - 0 = omega arith in
    let e = subst (λ (n : ℕ). EndsList (drop n c.args.bytes.now)) same c.in-Ended.ensures.is in
    ap (λ (o : Option Placed). option_map in_memory (option_and_then digest_of_block o)) (sym (none_found 1061 c.args.bytes.now u.0 at u.1 u.2 e listing l))

pub returns-in-Short-clause-is : goal.returns-in-Short-clause-is
returns-in-Short-clause-is c = λ listing l.
    let at = c.next.at in
    let u = c.next.invariant in
    let same : at ≡ at - 0 = omega arith in
    absurd (cut_found 1061 c.args.bytes.now u.0 at u.1 u.2 (subst (λ (n : ℕ). IsCut (drop n c.args.bytes.now)) same c.in-Short.ensures.is) listing l)
