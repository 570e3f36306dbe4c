pub mod BranchLaws
pub mod FlowLaws
pub mod OddJumpLaws
pub mod VectorLaws
