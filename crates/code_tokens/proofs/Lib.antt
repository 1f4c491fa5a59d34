pub mod MemberSteps
pub mod PairSteps
