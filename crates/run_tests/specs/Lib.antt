-- What public contracts cite.
pub mod RoomSinks
pub mod SureRuns
