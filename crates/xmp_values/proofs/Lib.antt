pub mod CharacterTexts
pub mod HintMaps
pub mod NameSets
pub mod SameNames
pub mod TextPlaces
mod ValidHints
