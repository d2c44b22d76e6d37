pub mod Kinds
pub mod Nodes
pub mod GateClauses
pub mod TwoInput
pub mod WideGates
pub mod KindLaws
pub mod Computed
