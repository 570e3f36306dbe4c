pub mod Same
pub mod Verdict
