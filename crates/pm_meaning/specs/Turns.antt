-- What comes of a statement, and what every statement may ask for.
use Rattle.std.specs.Prelude.{ℕ, Bool, true, false, ◌-◌, ◌^◌, min, nat_lt, List, Option}
use Rattle.pm_vars.specs.Table.{Table}
use Rattle.pm_subst.specs.Words.{size_in}
use Rattle.pm_subst.specs.declared.kinds.Mode.{Mode}
use Rattle.pm_journal.specs.LogText.{value_too_long_line, unusable_name_line}
use Rattle.pm_journal.specs.Plan.{Plan, Ends, and_then}
use Rattle.pm_meaning.specs.Changes.{overflowed}
use Rattle.pm_meaning.specs.Logging.{log}
use Rattle.pm_meaning.specs.Minds.{Mind}
use Rattle.pm_meaning.specs.declared.acted.Acted.{Acted}
use Rattle.pm_meaning.specs.declared.acted.Acted.TheVariants.{Delivered, Failed}
use Rattle.pm_meaning.specs.declared.acted.Cause.{Cause}
use Rattle.pm_meaning.specs.declared.acted.Cause.TheVariants.{Overflow}
use Rattle.pm_meaning.specs.declared.process.End.{End}

-- the next statement comes, the process ends, a block is entered under this lock, this rcfile is asked for before the next
-- statement, or in the place of the one that is being read, that one is over, or a copy of the process is wanted for a block
pub data Turn : Type 0 where
  GoesOn : Mind → Turn
  Halts : End → Mind → Turn
  Enters : Option (List ℕ) → Mind → Turn
  Includes : List ℕ → Mind → Turn
  Switches : List ℕ → Mind → Turn
  EndsFile : Mind → Turn
  Clones : Mind → Turn

-- the text is logged, and then this comes
abbrev pub say_then : {R : Type 0} → Mind → List ℕ → R → Plan R
say_then p text next = and_then (log text p) (λ done. Ends next)

-- a name can't be used: this is told, and the process goes on
abbrev pub refuse_name : List ℕ → Mind → Plan Turn
refuse_name text p = say_then p (unusable_name_line text) (GoesOn p)

-- a text with these outputs of its commands is expanded to more than 1,048,576 bytes
abbrev pub is_too_long : Mode → List ℕ → Table → List (List ℕ) → Bool
is_too_long mode text vars outputs = nat_lt 1048576 (size_in mode vars outputs text)

-- the length of the expansion, as far as a counter of 64 bits goes
abbrev pub length_in : Mode → List ℕ → Table → List (List ℕ) → ℕ
length_in mode text vars outputs = min (size_in mode vars outputs text) (2 ^ 64 - 1)

-- a value that is too long is told by its length, and the statement is skipped
abbrev pub skip_value : Mode → List ℕ → List (List ℕ) → Mind → Plan Turn
skip_value mode text outputs p = say_then p (value_too_long_line (length_in mode text p.vars outputs)) (GoesOn (overflowed p))

-- what an action came to, and the process then
pub record ActEnd : Type 0 where
  pub acted : Acted
  pub mind : Mind

-- a delivery that is no copy
abbrev pub is_for_good : Acted → Bool
is_for_good Delivered = true
is_for_good other = false

-- the mail was delivered for good
abbrev pub for_good : ActEnd → Bool
for_good end = is_for_good end.acted

-- an action wasn't done for this cause
abbrev pub failed : Cause → Mind → ActEnd
failed cause p = record { acted = Failed cause; mind = p }

-- a name can't be used: this is told, and the action isn't done
abbrev pub refuse_act : Cause → List ℕ → Mind → Plan ActEnd
refuse_act cause text p = say_then p (unusable_name_line text) (failed cause p)

-- so an action ends one of whose texts is too long
abbrev pub overflow_act : ℕ → Mind → Plan ActEnd
overflow_act length p = say_then p (value_too_long_line length) (failed (Overflow length) (overflowed p))

-- a value that is too long is told by its length, and the action isn't done
abbrev pub skip_act : Mode → List ℕ → List (List ℕ) → Mind → Plan ActEnd
skip_act mode text outputs p = overflow_act (length_in mode text p.vars outputs) p
