pub mod Relocation
pub mod Moves
pub mod Apart
