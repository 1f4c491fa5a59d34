pub mod LeftSteps
pub mod PageSteps
pub mod TagLists
pub mod TagSteps
pub mod TreeLists
pub mod TreeSteps
