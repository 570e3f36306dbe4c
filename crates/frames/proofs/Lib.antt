pub mod FrameLaws
pub mod UnderLaws
