pub mod StoringLaws
pub mod WholeLaws
pub mod ValueLaws
