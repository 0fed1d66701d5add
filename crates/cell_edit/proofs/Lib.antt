pub mod StarNumbers
pub mod Writings
pub mod RowEntries
mod DartEntries
mod CopyEntries
pub mod ChangeRoom
pub mod Beyond
mod PairEntries
mod InsertionEdit
pub mod Premises
pub mod AlongLinks
pub mod PairsAlong
mod PathSides
mod Apart
mod FacePlan
pub mod WalkTurns
mod BridgeEntries
mod EndingEdit
pub mod Appending
pub mod EntryEdit
pub mod Listed
pub mod CornerList
mod FaceSteps
mod RowSize
pub mod Commuting
mod CornerWords
mod LoneCorner
mod ListedDart
mod OneSidedCorner
