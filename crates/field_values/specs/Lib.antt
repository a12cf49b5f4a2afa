pub mod Dates
pub mod FieldTexts
pub mod Zones
