pub mod RunLaws
pub mod ReadRunLaws
pub mod StepLaws
pub mod TwoLaws
pub mod LongestLaws
pub mod GrowthLaws
pub mod PutLaws
