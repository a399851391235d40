-- Laws of a run of formail.
use Rattle.std.specs.Prelude.{◌≡◌, ◌⊎◌, ℕ, ℤ, false, List, [], ◌++◌, All}
use Rattle.pm_host.specs.Told.{Rose}
use Rattle.pm_bytes.specs.declared.environment.Pair.{Pair}
use Rattle.formail_edit.specs.Laws.{IsShown}
use Rattle.formail_split.specs.Mailboxes.{IsBetween}
use Rattle.formail_split.specs.Parts.{parts_of}
use Rattle.formail_split.specs.Written.{HidesLines}
use Rattle.formail_top.specs.Outputs.{outputs_of, each_output_of}
use Rattle.formail_top.specs.Run.{Seen, Ended, AsksFor}
use Rattle.formail_top.specs.declared.request.Request.{Request}

-- a read, a call of the host or a write failed
abbrev pub SomeRose : Seen → Type 0
SomeRose seen =
    Rose seen.source.faults seen.source'.faults ⊎ Rose seen.host.faults seen.host'.faults ⊎ Rose seen.out.faults seen.out'.faults

-- 74 comes only where a call failed
abbrev pub FailuresHaveCalls : Type 0
FailuresHaveCalls = (words : List (List ℕ)) (vars : List Pair) (seen : Seen) → Ended words vars 74 seen → SomeRose seen

-- The words ask for whole mails: `-r`, `-x`, `-X`, `-f` and `-b` don't stand, the text of `-p` hides a line `From `, and
-- a new name of `-R` isn't empty and is part of one line.
pub record AskForMails (words : List (List ℕ)) (request : Request) : Type 0 where
  pub asked : AsksFor words request
  pub no_reply : request.reply ≡ false
  pub no_takes : request.edits.takes ≡ []
  pub from_line : request.edits.keep_from ≡ false
  pub escaped : request.edits.keep_body ≡ false
  pub prefix : HidesLines request.edits.prefix
  pub names : All IsShown request.edits.renames

-- what is written of some mails is cut again into just what was written of each, in order
pub record AreCutAgain (request : Request) (moment : ℤ) (mails : List (List ℕ)) : Type 0 where
  pub alone : parts_of (outputs_of request moment mails) ≡ each_output_of request moment mails
  -- and so it is behind the mails of a mailbox
  pub behind : (box : List ℕ) → IsBetween box
      → parts_of (box ++ outputs_of request moment mails) ≡ parts_of box ++ each_output_of request moment mails

-- where the words ask for whole mails it is so, whatever the mails say
abbrev pub OutputsAreMails : Type 0
OutputsAreMails = (words : List (List ℕ)) (request : Request) → AskForMails words request
    → (moment : ℤ) (mails : List (List ℕ)) → AreCutAgain request moment mails
