pub mod Cutting
pub mod Exchanged
pub mod FromDesk
pub mod Jpeg
pub mod Kinds
pub mod Markers
pub mod Reads
pub mod Wanted
