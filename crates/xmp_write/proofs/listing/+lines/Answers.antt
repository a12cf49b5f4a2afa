use Rattle.xmp_write.proofs.LineLevels.{shape_lines-Struct, shape_lines-Array}
use Rattle.xmp_write.proofs.WritingSteps.{value_written, item_written}
use Rattle.xmp_write.proofs.listing.+lines.Goals as goal

pub push_items-loop-at-preserved : goal.push_items-loop-at-preserved
push_items-loop-at-preserved t c =
    item_written c.args.prefixes.now c.args.items.now c.loop-at.at c.index-items-at.result c.args.writer.now c.loop-at.writer c.push_item.new.writer
    c.loop-at-test.true c.index-items-at.is c.loop-at.invariant c.in_ok-push_item.ensures

pub push_shape-returns-in-Struct : goal.push_shape-returns-in-Struct
push_shape-returns-in-Struct t c =
    let told = rw c.as_slice.ensures at c.push_members.ensures in
    rw (c.in-Struct.is, shape_lines-Struct) told

pub push_shape-returns-in-Array : goal.push_shape-returns-in-Array
push_shape-returns-in-Array t c =
    let told = rw c.as_slice-in-Array.ensures at c.push_items.ensures in
    rw (c.in-Array.is, shape_lines-Array) told

pub push_value-returns : goal.push_value-returns
push_value-returns t c =
    value_written c.args.prefixes.now c.push_shape.result c.args.value.now c.as_slice.result.now c.args.writer.now c.push_line.new.self c.push_members.new.writer c.push_shape.new.writer
    c.as_slice.ensures c.in_ok-push_line.ensures c.in_ok-push_members.ensures c.push_shape.ensures
