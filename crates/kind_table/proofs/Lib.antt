pub mod WayLaws
pub mod PlaceLaws
pub mod TableLaws
