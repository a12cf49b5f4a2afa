pub mod Elements
pub mod FirstUses
pub mod Law
