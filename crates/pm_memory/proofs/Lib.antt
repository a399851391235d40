mod Updates
mod Children
mod Listing
mod Moves
mod Parts
