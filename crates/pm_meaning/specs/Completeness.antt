-- What a run comes to where nothing stands in its way.
use Rattle.std.specs.Prelude.{◌≡◌, ◌⊎◌, ℕ, true, false, List, [], ◌∷◌, ◌++◌, Option, Some}
use Rattle.pm_bytes.specs.Name.{is_usable}
use Rattle.pm_bytes.specs.declared.environment.Environ.{Environ}
use Rattle.pm_journal.specs.Walking.{Means}
use Rattle.pm_journal.specs.declared.acts.Act.{Act}
use Rattle.pm_journal.specs.declared.acts.Act.TheVariants.{ReadFile, Append, Place, Lock}
use Rattle.pm_journal.specs.declared.acts.Entry.{Entry}
use Rattle.pm_journal.specs.declared.acts.Reply.{Reply}
use Rattle.pm_journal.specs.declared.acts.Reply.TheVariants.{Content, Done, IsFolder, Placed, Held}
use Rattle.pm_meaning.specs.Delivering.{plain_prefix}
use Rattle.pm_meaning.specs.Destinations.{destination_of, full_of, are_file_texts}
use Rattle.pm_meaning.specs.Locks.{lock_word, is_lock_word, full_lock, is_taken, any_held}
use Rattle.pm_meaning.specs.Minds.{Mind}
use Rattle.pm_meaning.specs.declared.process.End.{End}
use Rattle.pm_meaning.specs.declared.process.End.TheVariants.{Delivered, HostOff}
use Rattle.pm_meaning.specs.Courses.{Course, advance, run_of}
use Rattle.pm_meaning.specs.EndStatus.{ComesTo, EndsBy, SetsNoStatus}
use Rattle.pm_meaning.specs.Running.{Opening, Running, FallingOff, OpeningRule, default_mailboxes}
use Rattle.pm_meaning.specs.declared.command_line.CommandLine.{CommandLine}
use Rattle.pm_meaning.specs.declared.ending.Ending.{Ending}

-- the lock was got
abbrev pub IsHeld : Reply → Type 0
IsHeld (Held sleeps forced) = Unit {0}
IsHeld other = ⊥

-- the piece was appended, or a folder stood there, which gets it next
abbrev pub IsTaken : Reply → Type 0
IsTaken Done = Unit {0}
IsTaken IsFolder = Unit {0}
IsTaken other = ⊥

-- the piece was filed
abbrev pub IsFiledAway : Reply → Type 0
IsFiledAway (Placed name) = Unit {0}
IsFiledAway other = ⊥

-- a lock was got, and a mailbox or a folder took its piece
abbrev pub IsServed : Act → Reply → Type 0
IsServed (Lock name sleep limit suspend tries) reply = IsHeld reply
IsServed (Append name piece) reply = IsTaken reply
IsServed (Place kind folder prefix piece stamp) reply = IsFiledAway reply
IsServed other reply = Unit {0}

-- each of these was
abbrev pub AllServed : List Entry → Type 0
AllServed [] = Unit {0}
AllServed (e ∷ es) = IsServed e.act e.reply × AllServed es

-- an rcfile was read
abbrev pub IsContent : Reply → Type 0
IsContent (Content bytes) = Unit {0}
IsContent other = ⊥

-- a mailbox is seen as this one file, unless it is a folder by its ending
abbrev pub file_of : List ℕ → Mind → List (List ℕ)
file_of mailbox p = full_of p.base (destination_of mailbox) ∷ []

-- its automatic lock file; `/dev/null` has none
abbrev pub lock_of : List ℕ → Mind → Option (List ℕ)
lock_of mailbox p = lock_word (Some []) [] (mailbox ∷ []) p

-- this file was found to be a folder where a piece was to be appended to it
abbrev pub IsFolderAt : List ℕ → Act → Reply → Type 0
IsFolderAt file (Append name piece) IsFolder = name ≡ file
IsFolderAt file act reply = ⊥

-- at one of these it was
abbrev pub FoundFolder : List ℕ → List Entry → Type 0
FoundFolder file [] = ⊥
FoundFolder file (e ∷ es) = IsFolderAt file e.act e.reply ⊎ FoundFolder file es

-- The process can deliver to this default mailbox: it and its lock file can have such names; the lock file is another file and isn't
-- held already, and the mailbox is no lock file that is held.
pub record CanTake (mailbox : List ℕ) (p : Mind) : Type 0 where
  pub named : are_file_texts (mailbox ∷ []) ≡ true
  pub lock_named : is_lock_word (lock_of mailbox p) ≡ true
  pub lock_free : is_taken (full_lock p.base (lock_of mailbox p)) (file_of mailbox p) p.locks ≡ false
  pub no_lock : any_held (file_of mailbox p) p.locks ≡ false

-- there is a default mailbox, and the process can deliver to the first one
abbrev pub HasDefault : List (List ℕ) → Mind → Type 0
HasDefault [] p = ⊥
HasDefault (mailbox ∷ others) p = CanTake mailbox p

-- Nothing stands in the way: each lock was got, and each mailbox and folder took its piece; a mail filter's rcfile was read; where
-- nothing is left to do there is a default mailbox; and where that is found to be a folder, the names of its files can begin with MSGPREFIX.
pub record IsClear (c : Course) (entries : List Entry) : Type 0 where
  pub served : AllServed entries
  pub read : (before later : List Entry) (e : Entry) (o : OpeningRule) (name : List ℕ) (names : List (List ℕ)) (p : Mind) → entries ≡ before ++ e ∷ later
      → ComesTo c before (Opening o (name ∷ names) p) → p.filter ≡ true → e.act ≡ ReadFile name → IsContent e.reply
  pub named : (before later : List Entry) (p : Mind) → entries ≡ before ++ later → ComesTo c before (Running [] p) → HasDefault (default_mailboxes p.vars) p
  pub prefixed : (before later : List Entry) (mailbox : List ℕ) (others : List (List ℕ)) (p : Mind) → entries ≡ before ++ later → ComesTo c before (FallingOff (mailbox ∷ others) p)
      → FoundFolder (full_of p.base (destination_of mailbox)) later → is_usable (plain_prefix p) ≡ true

-- the mail was delivered, or the process went off on another host
abbrev pub IsWell : End → Type 0
IsWell Delivered = Unit {0}
IsWell HostOff = Unit {0}
IsWell other = ⊥

-- the first process of a run ended so, with the status of that end, which is success unless EXITCODE or TRAP says otherwise
pub record EndsWell (c : Course) (entries : List Entry) (ending : Ending) : Type 0 where
  pub well : IsWell ending.end
  pub by : EndsBy c entries ending
  pub success : SetsNoStatus by.left.mind → ending.status ≡ 0

-- where nothing stands in its way the first process of a run ends so
abbrev pub ClearIsWell : Type 0
ClearIsWell =
    (line : CommandLine) (env : Environ) (bytes : List ℕ) (entries : List Entry) (ending : Ending) → Means advance (run_of line env bytes) entries ending
    → IsClear (run_of line env bytes) entries → EndsWell (run_of line env bytes) entries ending
