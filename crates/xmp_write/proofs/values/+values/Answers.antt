use Rattle.std.proofs.Common.{◌≡◌, ◌<◌, length, ◌++◌, [], ap, sym, ◌∙◌, arith}
use Rattle.std.specs.Option.{option_copied}
use Rattle.std.proofs.lemmas.Bool.{eqb-true, eqb-false}
use Rattle.xmp_write.proofs.PutValues.{plain_put, qualified_put}
use Rattle.std.specs.Prelude.{codes}
use Rattle.xmp_write.specs.Text.{value_text, member_text, kind_name}
use Rattle.xmp_write.specs.Placing.{spelled_name}
use Rattle.xmp_write.proofs.PlacedPieces.{◌▸◌, puts_as, puts_none, ended, more_put}
use Rattle.xmp_write.proofs.TextLevels.{shape_text-Struct, shape_text-Array}
use Rattle.xmp_write.proofs.values.+values.Goals as goal

pub put_array-returns : goal.put_array-returns
put_array-returns t c =
    let kind = kind_name c.args.kind in
    let start = puts_as (codes "<" ++ kind ++ [] ++ codes ">") c.put-at-2.ensures c.kind_start.ensures in
    let end = puts_as (codes "</" ++ kind ++ codes ">") c.put-at-3.ensures c.kind_end.ensures in
    ended (spelled_name c.args.name) (c.put_start-at.ensures ▸ c.put_lang-at.ensures ▸ c.put-at.ensures ▸ ended kind (start ▸ c.put_items-at.ensures) end) c.put_end.ensures

pub put_items-loop-item-init : goal.put_items-loop-item-init
put_items-loop-item-init t c = puts_none c.args.to.now c.args.at (omega arith) (omega arith)

pub put_items-loop-item-preserved : goal.put_items-loop-item-preserved
put_items-loop-item-preserved t c =
    let ps = c.args.prefixes.now in
    let item = c.item-item.result in
    more_put (value_text ps (codes "rdf:li")) c.args.items.now c.loop-item.item-index item c.loop-item-test.true c.item-item.is c.loop-item.invariant
    (puts_as (value_text ps (codes "rdf:li") item) c.put_value-after.ensures (ap (λ name. value_text ps name item) c.rdf.ensures))

pub put_members-loop-member-init : goal.put_members-loop-member-init
put_members-loop-member-init t c = puts_none c.args.to.now c.args.at (omega arith) (omega arith)

pub put_members-loop-member-preserved : goal.put_members-loop-member-preserved
put_members-loop-member-preserved t c =
    more_put (member_text c.args.prefixes.now) c.args.members.now c.loop-member.member-index c.member-item.result c.loop-member-test.true c.member-item.is c.loop-member.invariant
    c.put_member-after.ensures

pub put_shape-returns-in-Struct : goal.put_shape-returns-in-Struct
put_shape-returns-in-Struct t c =
    let told = rw c.as_slice.ensures at c.put_struct.ensures in
    rw (c.in-Struct.is, shape_text-Struct) told

pub put_shape-returns-in-Array : goal.put_shape-returns-in-Array
put_shape-returns-in-Array t c =
    let told = rw c.as_slice-in-Array.ensures at c.put_array.ensures in
    rw (c.in-Array.is, shape_text-Array) told

pub put_struct-returns : goal.put_struct-returns
put_struct-returns t c =
    ended (spelled_name c.args.name) (c.put_start-at.ensures ▸ c.put_parsed-at.ensures ▸ c.put-at.ensures ▸ c.put_members-at.ensures) c.put_end.ensures

pub put_value-returns-then-is_empty : goal.put_value-returns-then-is_empty
put_value-returns-then-is_empty t c =
    let none : length c.others_of-others.result.now ≡ 0 = eqb-true (length c.others_of-others.result.now) 0 (sym c.is_empty.ensures ∙ c.if-is_empty.true) in
    plain_put c.args.prefixes.now (spelled_name c.args.name) c.args.value.now c.as_slice-quals.result.now c.others_of-others.result.now (option_copied c.lang_of-lang.result)
    c.as_slice-quals.ensures c.others_of-others.ensures c.lang_of-lang.ensures none c.put_shape.ensures

pub put_value-returns : goal.put_value-returns
put_value-returns t c =
    let many = eqb-false (length c.others_of-others.result.now) 0 (sym c.is_empty.ensures ∙ c.if-is_empty.false) in
    let some : 0 < length c.others_of-others.result.now = omega (arith, many) in
    qualified_put c.args.prefixes.now (spelled_name c.args.name) c.args.value.now c.as_slice-quals.result.now c.others_of-others.result.now (option_copied c.lang_of-lang.result)
    c.as_slice-quals.ensures c.others_of-others.ensures c.lang_of-lang.ensures (spelled_name c.rdf.result) some
    c.rdf.ensures c.put_start-at.ensures c.put_parsed-at.ensures c.put-at.ensures c.put_shape-at.ensures c.put_members-at.ensures c.put_end.ensures
