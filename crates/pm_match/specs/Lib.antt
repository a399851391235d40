-- What a reader of the contracts needs: for which expression an engine was built. Where it matches is in pm_regex.
pub mod Aim
-- What the proof alone needs: the automaton, and how far a search is.
pub mod Automaton
pub mod Postfix
pub mod Labels
pub mod Finding
pub mod Starts
pub mod Automata
pub mod Search
pub mod Engine
pub mod Shown
pub mod Backward
pub mod Cache
pub mod Forward
pub mod Begins
pub mod Lists
pub mod Anywhere
pub mod Examples
pub mod Checkpoints
