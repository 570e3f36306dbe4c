pub mod HeldLaws
pub mod KeepLaws
