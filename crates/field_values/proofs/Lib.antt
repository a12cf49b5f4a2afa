pub mod Encodings
pub mod Written
pub mod CharTexts
