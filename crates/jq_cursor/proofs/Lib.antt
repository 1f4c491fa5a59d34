pub mod KeywordTables
pub mod PlaceSteps
pub mod SpanSteps
pub mod OrderSteps
pub mod NoteSteps
pub mod SelectionSteps
pub mod ClassSteps
pub mod NameSteps
