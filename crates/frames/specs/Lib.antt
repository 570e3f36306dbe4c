pub mod Frames
pub mod Under
