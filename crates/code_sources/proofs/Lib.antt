pub mod ByteSteps
pub mod FileSteps
pub mod ReferenceSteps
pub mod ScriptSteps
pub mod SourceSteps
pub mod TagSteps
