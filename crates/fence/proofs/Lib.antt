pub mod ViewLaws
pub mod NameLaws
pub mod QuietLaws
pub mod WriteLaws
pub mod OneLaws
pub mod AcceptLaws
pub mod RecordLaws
pub mod FenceLaws
