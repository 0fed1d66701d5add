mod ClosedLinks
mod ClosingRows
mod NewLinkFacts
mod OpenFacts
mod OpenList
mod Rounds
mod WalkSteps
mod StarNumbers
