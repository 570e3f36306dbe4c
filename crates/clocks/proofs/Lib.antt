pub mod FieldLaws
pub mod UnrolledLaws
pub mod ClockLaws
pub mod LargestLaws
pub mod PrintedLaws
