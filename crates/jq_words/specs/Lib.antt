-- What public contracts cite.
pub mod Brackets
pub mod CallViews
pub mod Calls
pub mod FreeLists
pub mod Functions
pub mod Results
pub mod Texts
pub mod Views
pub mod Words
