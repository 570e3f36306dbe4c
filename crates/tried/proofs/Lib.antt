pub mod CourseLaws
pub mod BackLaws
pub mod TriedLaws
