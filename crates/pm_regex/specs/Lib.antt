-- What a reader of the contracts needs: how an expression is read, from its text to its tree, where it matches, and which match is found.
pub mod Re
pub mod Bytes
pub mod Macros
pub mod Tokens
pub mod Grammar
pub mod Reading
pub mod Postfix
pub mod Matching
pub mod Found
pub mod Examples
pub mod MatchExamples
-- What the proof alone needs: how far the code is on its way there.
pub mod Code
pub mod Expansion
pub mod Signs
pub mod Sets
pub mod Machine
pub mod Groups
pub mod Reader
