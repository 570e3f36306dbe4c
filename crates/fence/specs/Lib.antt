pub mod Fence
pub mod Rows
