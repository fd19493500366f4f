mod Counts
mod Telling
mod Told
mod Rows
mod Raised
mod OneMore
mod OnePick
mod Whole
