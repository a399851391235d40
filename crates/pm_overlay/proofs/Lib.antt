mod Alters
mod Lists
mod Steps
mod Updates
