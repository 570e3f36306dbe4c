pub mod Paper
pub mod ClockRows
pub mod OddRows
pub mod WindowRows
pub mod RomRows
