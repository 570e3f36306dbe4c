pub mod Forms
pub mod Promises
pub mod Answers
pub mod Examples
