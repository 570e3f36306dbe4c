pub mod MadeLaws
pub mod FullLaws
