pub mod Tries
pub mod Refusals
pub mod Promises
