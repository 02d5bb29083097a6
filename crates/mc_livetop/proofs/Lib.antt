mod Asking
mod Ending
mod Named
mod NeverStop
mod Orders
mod Running
mod Shows
mod Stopping
