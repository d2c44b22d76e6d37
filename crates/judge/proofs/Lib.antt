pub mod FormulaMade
pub mod LinesSpelt
pub mod LinesRun
pub mod LineCounts
pub mod LinedPlans
pub mod LinesRelied
pub mod Relied
