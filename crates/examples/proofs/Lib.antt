pub mod PaperLaws
pub mod ClockLaws
pub mod OddLaws
pub mod WindowLaws
