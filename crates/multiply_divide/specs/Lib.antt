pub mod MultiplyDivide
pub mod Examples
