pub mod HoleSteps
pub mod PieceSteps
