pub mod Events
pub mod Resolving
pub mod DocketStates
pub mod LawOfDockets
