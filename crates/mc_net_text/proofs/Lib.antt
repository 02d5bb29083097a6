mod Alike
mod NetsRead
mod OneMore
