mod PathLine
mod Spaced
