mod Counts
mod Pieces
