pub mod StartLaws
pub mod SkipLaws
pub mod WrapLaws
pub mod PostLaws
pub mod NearLaws
