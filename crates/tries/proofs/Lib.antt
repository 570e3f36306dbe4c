pub mod TryLaws
pub mod PromiseLaws
pub mod RefusalLaws
