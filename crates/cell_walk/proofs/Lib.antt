mod CellDarts
mod CellRounds
mod ComponentDarts
mod Counting
mod EdgeDarts
pub mod FoundDarts
mod ListedCells
mod OnWays
mod RoundDarts
mod RowSteps
mod ShortRings
pub mod SeenDarts
mod SinceDarts
mod SurveyFacts
mod Walks
mod ManyOrbits
mod MarkedDarts
mod QueuedDarts
