pub mod Standings
pub mod Refusing
pub mod Plans
pub mod PlanLaw
pub mod Settings
pub mod Dockets
pub mod Calls
pub mod Law
