pub mod Judging
pub mod LineStates
pub mod Relying
pub mod Results
pub mod Growing
pub mod VerdictLines
