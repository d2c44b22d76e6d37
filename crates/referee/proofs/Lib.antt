pub mod DefineCases
pub mod EventCases
pub mod LawOnDockets
