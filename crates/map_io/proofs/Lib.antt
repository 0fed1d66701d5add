mod HeldFiles
mod ReadWhole
mod Handed
mod FailingCalls
