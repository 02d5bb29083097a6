pub mod Lists
mod DesksSoFar
mod Columns
mod DealtSoFar
mod EachLeft
