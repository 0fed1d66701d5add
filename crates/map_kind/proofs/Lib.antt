mod CellWords
mod SingleLinks
mod Around
