mod Cells
mod NothingKnown
