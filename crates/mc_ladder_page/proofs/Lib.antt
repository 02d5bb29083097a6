mod Chains
mod Given
mod Lanes
mod Rows
