pub mod ReadingSteps
pub mod FormulaAnswers
pub mod FormulaGates
pub mod SpeltRead
pub mod ReadSpelt
pub mod ReadsExactly
