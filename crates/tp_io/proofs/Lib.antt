pub mod CountLemmas
pub mod LoadLemmas
pub mod LoadListLemmas
pub mod SinkLemmas
