-- How often a call is made that a signal may interrupt, and which answer counts.
use Rattle.std.specs.Prelude.{◌≡◌, ◌<◌, ℕ, ◌-◌, Result, Ok, Err}
use Rattle.std.specs.IoError.{error_kind}
use Rattle.std.specs.declared.io.Error.{Error}
use Rattle.std.specs.declared.io.ErrorKind.TheVariants.{Interrupted}

-- a signal interrupted the call that answered so
abbrev pub IsInterrupted : {T : Type 0} → Result T Error → Type 0
IsInterrupted (Ok value) = ⊥
IsInterrupted (Err error) = error_kind error ≡ Interrupted

-- at most so many calls, which take a caller from one state to another, and the answer that counts: that of the first one
-- which no signal interrupted, or, if each was interrupted, that
pub data Tries {F T : Type 0} (call : F → Result T Error → F → Type 0) : ℕ → F → Result T Error → F → Type 0 where
  answered : (most : ℕ) (before : F) (answer : Result T Error) (after : F)
      → 0 < most → call before answer after → (IsInterrupted answer → ⊥) → Tries call most before answer after
  again : (most : ℕ) (before : F) (lost : Result T Error) (between : F) (answer : Result T Error) (after : F)
      → 0 < most → call before lost between → IsInterrupted lost → Tries call (most - 1) between answer after
      → Tries call most before answer after
  given_up : (most : ℕ) (state : F) (answer : Result T Error) → most ≡ 0 → IsInterrupted answer → Tries call most state answer state
