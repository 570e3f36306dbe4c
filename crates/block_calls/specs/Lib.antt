pub mod Calls
pub mod Refusals
pub mod Promises
pub mod History
pub mod Tries
