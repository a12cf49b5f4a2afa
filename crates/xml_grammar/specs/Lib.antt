pub mod Spelling
pub mod Pieces
pub mod Scopes
pub mod Nesting
pub mod Trees
pub mod Documents
pub mod Sound
pub mod Heights
