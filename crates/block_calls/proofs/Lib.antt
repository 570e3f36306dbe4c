pub mod PromiseLaws
pub mod CallLaws
pub mod RefusalLaws
pub mod GoingBack
pub mod GoingBackDropping
pub mod ClockLaws
pub mod TryLaws
