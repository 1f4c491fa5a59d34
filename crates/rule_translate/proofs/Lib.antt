pub mod CompoundLemmas
pub mod StepLemmas
pub mod TranslationLemmas
