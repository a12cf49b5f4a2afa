use Rattle.std.proofs.Common.{sym}
use Rattle.std.proofs.lemmas.List.Sums.{fold-append}
use Rattle.xmp_write.proofs.Levels.{value_spaces-out, shape_spaces-Struct, shape_spaces-Array}
use Rattle.xmp_write.proofs.uses.+uses.Goals as goal

pub use_shape-returns-in-Struct : goal.use_shape-returns-in-Struct
use_shape-returns-in-Struct t c =
    let told = rw c.as_slice.ensures at c.use_members.ensures in
    rw (c.in-Struct.is, shape_spaces-Struct) told

pub use_shape-returns-in-Array : goal.use_shape-returns-in-Array
use_shape-returns-in-Array t c =
    let told = rw c.as_slice-in-Array.ensures at c.use_items.ensures in
    rw (c.in-Array.is, shape_spaces-Array) told

pub use_value-returns : goal.use_value-returns
use_value-returns t c =
    let told = rw c.as_slice.ensures at c.use_members.ensures in
    rw (value_spaces-out, fold-append, sym c.in_ok-use_shape.ensures) told
