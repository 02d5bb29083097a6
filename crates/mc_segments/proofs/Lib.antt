mod AllEnds
mod Allowed
mod Followed
mod Marked
mod Missed
mod Own
mod Places
