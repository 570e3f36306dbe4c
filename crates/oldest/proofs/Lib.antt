pub mod MoveLaws
pub mod WayLaws
pub mod RowLaws
pub mod RoomLaws
pub mod SumLaws
pub mod OctetLaws
