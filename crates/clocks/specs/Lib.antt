pub mod Tables
pub mod Clocks
pub mod Lines
pub mod Unrolled
