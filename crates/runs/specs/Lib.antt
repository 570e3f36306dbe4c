pub mod Runs
pub mod Two
pub mod Answers
