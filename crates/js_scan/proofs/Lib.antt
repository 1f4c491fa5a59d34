pub mod TextsLemmas
pub mod TokensLemmas
pub mod Utf8Lemmas
pub mod OwnBytes
pub mod Spelling
pub mod TokenTexts
mod Rows
