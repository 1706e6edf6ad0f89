pub mod AcceptedTexts
pub mod Ranked
pub mod Refusing
