pub mod Tables
pub mod ValueSteps
