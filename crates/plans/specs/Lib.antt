pub mod PlanStates
pub mod NodeReasons
pub mod Sinks
pub mod Demands
pub mod Showings
