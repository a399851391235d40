-- The meaning of a process: a machine whose steps are plans.
use Rattle.std.specs.Prelude.{ℕ, Bool, true, false, not, ◌||◌, ◌&&◌, List, [], ◌∷◌, ◌++◌, Option, None, map, codes, bytes_eq, nat_eq, nat_le, if◌then◌else◌}
use Rattle.std.specs.List.{starts_with, list_any}
use Rattle.pm_bytes.specs.declared.environment.Environ.{Environ}
use Rattle.pm_bytes.specs.declared.environment.Pair.{Pair}
use Rattle.pm_message.specs.FromLine.{makes_line, prepared_of}
use Rattle.pm_message.specs.Split.{split_of}
use Rattle.pm_message.specs.declared.head.Message.{Message}
use Rattle.pm_recipe.specs.Tree.{Trees, nil, cons, Tree, Assign, Unset, Recipe, Defect, Act, Block}
use Rattle.pm_recipe.specs.Listed.{rc_of}
use Rattle.pm_journal.specs.LogText.{couldnt_read_line, too_many_rcfiles_line, too_many_clones_line, no_delivery_line}
use Rattle.pm_journal.specs.declared.acts.Act.TheVariants.{ReadFile, Unlock, Moment}
use Rattle.pm_journal.specs.declared.acts.Reply.{Reply}
use Rattle.pm_journal.specs.declared.acts.Reply.TheVariants.{Content, Missing, Now}
use Rattle.pm_journal.specs.Plan.{Plan, Ends, and_then, ask}
use Rattle.pm_journal.specs.Walking.{Next, Stop, Go}
use Rattle.pm_vars.specs.Table.{Table}
use Rattle.pm_meaning.specs.FirstValues.{login_name, home_folder, first_process}
use Rattle.pm_meaning.specs.Changes.{with_variable, with_base, with_rcfile, with_openings, opened}
use Rattle.pm_meaning.specs.Turns.{Turn, GoesOn, Halts, Enters, Includes, Switches, EndsFile, Clones, ActEnd, is_for_good, say_then}
use Rattle.pm_meaning.specs.Assigning.{assigned, assign, unset, skip_defect}
use Rattle.pm_meaning.specs.Delivering.{is_without, deliver_default, try_each}
use Rattle.pm_meaning.specs.Blocks.{carry_out, begun_block, closed, give_maybe}
use Rattle.pm_meaning.specs.Judging.{judge_first}
use Rattle.pm_meaning.specs.GlobalLock.{give_named}
use Rattle.pm_meaning.specs.Locks.{value_or}
use Rattle.pm_meaning.specs.Texts.{is_empty}
use Rattle.pm_meaning.specs.Minds.{Mind}
use Rattle.pm_meaning.specs.declared.acted.Acted.TheVariants.{Failed}
use Rattle.pm_meaning.specs.declared.acted.Cause.TheVariants.{NoName}
use Rattle.pm_meaning.specs.declared.chain.Chain.{Chain}
use Rattle.pm_meaning.specs.declared.process.End.{End}
use Rattle.pm_meaning.specs.declared.process.End.TheVariants.{Delivered, FellOff, NoRc, HostOff}
use Rattle.pm_meaning.specs.Ends.{tell_delivery, trap}
use Rattle.pm_meaning.specs.Status.{exit_status}
use Rattle.pm_meaning.specs.declared.command_line.CommandLine.{CommandLine}
use Rattle.pm_meaning.specs.declared.ending.Ending.{Ending}

-- what is left to do: a statement, the end of a block, with the chain of its recipe and its lock, or the end of an rcfile, with the
-- name of the one that goes on after it
pub data Item : Type 0 where
  Do : Tree → Item
  BlockEnd : Chain → Option (List ℕ) → Item
  FileEnd : List ℕ → Item

-- a copy of a process that was made for a block: what it has to do, and how it begins
pub record Task : Type 0 where
  pub items : List Item
  pub mind : Mind

-- how the rcfiles of the command line are opened: the user's own may be missing, which isn't told, and MAILDIR may stay as a word set it
pub record OpeningRule : Type 0 where
  pub is_implied : Bool
  pub keeps_folder : Bool

-- The command line was read in this environment and these bytes came, these words are left that set variables, with this home folder after
-- them, these rcfiles
-- of it are left to try, a process has so much left to do, an rcfile is asked for before that, or in the place of the current one,
-- which it leaves block by block, with these locks, a copy of it is wanted for these statements of a block, or isn't made, no statement
-- ended it and these default mailboxes are left to try, it leaves all blocks, it is over, its abstract was logged, its program of TRAP
-- has run, or LOCKFILE's lock was given back too.
pub data State : Type 0 where
  Arrived : CommandLine → Environ → List ℕ → State
  Setting : List Pair → CommandLine → List ℕ → Mind → State
  Opening : OpeningRule → List (List ℕ) → Mind → State
  Running : List Item → Mind → State
  Including : List ℕ → List Item → Mind → State
  Switching : List ℕ → List Item → Mind → State
  LeavingFile : List (Option (List ℕ)) → List Item → Mind → State
  Cloning : Trees → List Item → Mind → State
  Refusing : List Item → Mind → State
  FallingOff : List (List ℕ) → Mind → State
  Leaving : List (Option (List ℕ)) → End → Mind → State
  Over : End → Mind → State
  Trapping : End → Mind → State
  Unlocking : Ending → Mind → State
  Closing : Ending → Mind → State

-- what a process comes to that goes on no further by itself: it ended, or wants a copy for these statements of a block
pub data Event : Type 0 where
  Ended : Ending → Mind → Event
  WantsClone : Trees → List Item → Mind → Event

-- the home folder once these words have set variables
abbrev pub home_by : List Pair → List ℕ → List ℕ
home_by [] home = home
home_by (pair ∷ pairs) home = home_by pairs (if bytes_eq pair.name (codes "HOME") then pair.value else home)

-- the words that set variables come first
abbrev pub begun : CommandLine → Environ → Message → Next State Event
begun line env message = Go (Setting line.values line (home_by line.values (home_folder env)) (first_process line.filter line.fails_softly line.arguments env message))

-- the From line has the moment that was told
abbrev pub dated : CommandLine → Environ → List ℕ → Reply → Plan (Next State Event)
dated line env bytes (Now moment) = Ends (begun line env (prepared_of bytes line.renew (login_name env) moment))
dated line env bytes other = Ends (begun line env (split_of bytes))

-- the message gets a From line where the command line asks for one
abbrev pub prepare : CommandLine → Environ → List ℕ → Plan (Next State Event)
prepare line env bytes =
    if makes_line bytes line.renew then and_then (ask Moment) (dated line env bytes)
    else Ends (begun line env (split_of bytes))

-- a word that sets a variable has the effect of an assignment, but that it names no other rcfile and no other host
abbrev pub set_by_word : Pair → Mind → Plan Turn
set_by_word pair p =
    if bytes_eq pair.name (codes "INCLUDERC") || bytes_eq pair.name (codes "SWITCHRC") then Ends (GoesOn p)
    else if bytes_eq pair.name (codes "HOST") then Ends (GoesOn (with_variable pair.name pair.value p))
    else assigned pair.name pair.value p

-- the process after such a word
abbrev pub mind_in : Turn → Mind
mind_in (GoesOn p) = p
mind_in (Halts end p) = p
mind_in (Enters lock p) = p
mind_in (Includes name p) = p
mind_in (Switches name p) = p
mind_in (EndsFile p) = p
mind_in (Clones p) = p

-- a name in the home folder
abbrev pub in_home : List ℕ → List ℕ → List ℕ
in_home home word = home ++ codes "/" ++ word

-- a mail filter's rcfile, and one that begins with `/` or `./`, is named as it is, and any other from the home folder
abbrev pub named_rcfile : Bool → List ℕ → List ℕ → List ℕ
named_rcfile filter home word =
    if filter || starts_with nat_eq word (codes "/") || starts_with nat_eq word (codes "./") then word else in_home home word

-- the rcfiles that are tried, in order; without one the user's own
abbrev pub rcfiles_of : CommandLine → List ℕ → List (List ℕ)
rcfiles_of line home = if is_without line.rcfiles then in_home home (codes ".procmailrc") ∷ [] else map (named_rcfile line.filter home) line.rcfiles

-- a word set MAILDIR
abbrev pub sets_folder : List Pair → Bool
sets_folder pairs = list_any (λ pair. bytes_eq pair.name (codes "MAILDIR")) pairs

-- how rcfiles are opened for these words
abbrev pub opening_of : CommandLine → OpeningRule
opening_of line = record { is_implied = is_without line.rcfiles; keeps_folder = sets_folder line.values }

-- the next word that sets a variable; after the last one the rcfiles come
abbrev pub setting : List Pair → CommandLine → List ℕ → Mind → Plan (Next State Event)
setting [] line home p = Ends (Go (Opening (opening_of line) (rcfiles_of line home) p))
setting (pair ∷ pairs) line home p = and_then (set_by_word pair p) (λ turn. Ends (Go (Setting pairs line home (mind_in turn))))

-- statements before what is left
abbrev pub ahead : Trees → List Item → List Item
ahead nil rest = rest
ahead (cons tree trees) rest = Do tree ∷ ahead trees rest

-- no rcfile of the command line was read
abbrev pub is_first : Mind → Bool
is_first p = is_empty p.rcfile

-- the first rcfile that is read is run from the working folder, where it is one of that, unless a word set MAILDIR
abbrev pub entered : OpeningRule → List ℕ → Mind → Mind
entered o name p =
    if is_first p && starts_with nat_eq name (codes "./") && not o.keeps_folder
    then with_base (codes ".") (with_variable (codes "MAILDIR") (codes ".") (with_rcfile name p))
    else with_rcfile name p

-- these rcfiles are left
abbrev pub with_later : List (List ℕ) → Mind → Mind
with_later names p = record p { later = names }

-- nothing stands at the name
abbrev pub is_missing : Reply → Bool
is_missing Missing = true
is_missing other = false

-- An rcfile that wasn't read: a mail filter ends without it, that there is none of the user's own is no matter, and any other is told;
-- then the next one is tried.
abbrev pub pass_over : OpeningRule → List ℕ → List (List ℕ) → Bool → Mind → Plan (Next State Event)
pass_over o name names missing p =
    if p.filter then Ends (Go (Over NoRc p))
    else if o.is_implied && missing then Ends (Go (Opening o names p))
    else say_then p (couldnt_read_line name) (Go (Opening o names p))

-- the statements of an rcfile that was read come, with nothing before the first recipe
abbrev pub after_read : OpeningRule → List ℕ → List (List ℕ) → Mind → Reply → Plan (Next State Event)
after_read o name names p (Content bytes) = Ends (Go (Running (ahead (rc_of bytes) []) (begun_block (entered o name (with_later names p)))))
after_read o name names p other = pass_over o name names (is_missing other) p

-- where none is left, a process that has read one isn't on its host, and any other falls off its end
abbrev pub without_rcfile : Mind → State
without_rcfile p = if is_first p then Running [] p else Over HostOff p

-- the next rcfile of the command line is opened, unless the run has opened 256, which is told
abbrev pub open_next : OpeningRule → List (List ℕ) → Mind → Plan (Next State Event)
open_next o [] p = Ends (Go (without_rcfile p))
open_next o (name ∷ names) p =
    if nat_le 256 p.openings then say_then p (too_many_rcfiles_line name) (Go (Opening o names p))
    else and_then (ask (ReadFile name)) (after_read o name names (opened p))

-- the text, unless it is empty or this one
abbrev pub unless_same : List ℕ → List ℕ → List (List ℕ)
unless_same other text = if is_empty text || bytes_eq text other then [] else text ∷ []

-- the default mailboxes that are tried: DEFAULT, and then ORGMAIL where it is another
abbrev pub default_mailboxes : Table → List (List ℕ)
default_mailboxes vars =
    unless_same [] (value_or [] (codes "DEFAULT") vars) ++ unless_same (value_or [] (codes "DEFAULT") vars) (value_or [] (codes "ORGMAIL") vars)

-- the mail goes to the first default mailbox that gets it; without one there is no name
abbrev pub fall_back : Mind → Plan ActEnd
fall_back p = try_each (default_mailboxes p.vars) (Failed NoName) p

-- what a statement asks for
abbrev pub statement : Tree → Mind → Plan Turn
statement (Assign name text) p = assign name text p
statement (Unset name) p = unset name p
statement (Recipe top act) p = judge_first top (λ q. carry_out top act q) p
statement (Defect line text) p = skip_defect text p

-- what the open blocks have for locks, the innermost first
abbrev pub locks_of : List Item → List (Option (List ℕ))
locks_of [] = []
locks_of (BlockEnd saved lock ∷ items) = lock ∷ locks_of items
locks_of (other ∷ items) = locks_of items

-- what the blocks of the current rcfile have for locks
abbrev pub locks_in_file : List Item → List (Option (List ℕ))
locks_in_file [] = []
locks_in_file (BlockEnd saved lock ∷ items) = lock ∷ locks_in_file items
locks_in_file (FileEnd name ∷ items) = []
locks_in_file (other ∷ items) = locks_in_file items

-- what is left after the current rcfile, with its end
abbrev pub behind_file : List Item → List Item
behind_file [] = []
behind_file (FileEnd name ∷ items) = FileEnd name ∷ items
behind_file (other ∷ items) = behind_file items

-- what is left of the rcfile in a clone, which releases no lock of its parent
abbrev pub unlocked : List Item → List Item
unlocked [] = []
unlocked (BlockEnd saved lock ∷ items) = BlockEnd saved None ∷ unlocked items
unlocked (other ∷ items) = other ∷ unlocked items

-- the statements of a block
abbrev pub block_of_act : Act → Trees
block_of_act (Block trees) = trees
block_of_act other = nil

-- the statements in the block of a recipe; without a block there are none
abbrev pub block_of : Tree → Trees
block_of (Recipe top act) = block_of_act act
block_of other = nil

-- what is left once a block was entered under this lock
abbrev pub inside : Trees → Chain → Option (List ℕ) → List Item → List Item
inside trees saved lock rest = ahead trees (BlockEnd saved lock ∷ rest)

-- a clone of a process is that process, rcfiles of the command line that are left included, but it holds no lock
abbrev pub copied : Mind → Mind
copied p = record p { locks = []; global = None; is_clone = true }

-- the copy of a process that runs a block and goes on after it
abbrev pub clone_of : Trees → List Item → Mind → Task
clone_of trees rest p = record { items = unlocked (inside trees p.chain None rest); mind = begun_block (copied p) }

-- what comes after a statement, which itself opens no rcfile, so that `count` were opened before and after it: what is left,
-- a block's statements, another rcfile, what is after the current one, a copy, or the end, once all blocks are left
abbrev pub next_of : Tree → ℕ → List Item → Turn → Next State Event
next_of tree count rest (GoesOn p) = Go (Running rest (with_openings count p))
next_of tree count rest (Halts end p) = Go (Leaving (locks_of rest) end (with_openings count p))
next_of tree count rest (Enters lock p) = Go (Running (inside (block_of tree) p.chain lock rest) (begun_block (with_openings count p)))
next_of tree count rest (Includes name p) = Go (Including name rest (with_openings count p))
next_of tree count rest (Switches name p) = Go (Switching name rest (with_openings count p))
next_of tree count rest (EndsFile p) = Go (LeavingFile (locks_in_file rest) (behind_file rest) (with_openings count p))
next_of tree count rest (Clones p) = Go (Cloning (block_of tree) rest (with_openings count p))

-- what comes after a default mailbox; no block is open there
abbrev pub next_default : List (List ℕ) → ActEnd → Next State Event
next_default rest came = if is_for_good came.acted then Go (Over Delivered came.mind) else Go (FallingOff rest came.mind)

-- the next default mailbox is tried; without one no delivery was made
abbrev pub falling_off : List (List ℕ) → Mind → Plan (Next State Event)
falling_off [] p = say_then p no_delivery_line (Go (Over FellOff p))
falling_off (mailbox ∷ rest) p = and_then (deliver_default mailbox p) (λ came. Ends (next_default rest came))

-- what a process does next: it falls off the end, carries a statement out, leaves a block, whose lock is given back, or comes back
-- to the rcfile of this name
abbrev pub running : List Item → Mind → Plan (Next State Event)
running [] p = Ends (Go (FallingOff (default_mailboxes p.vars) p))
running (Do tree ∷ rest) p = and_then (statement tree p) (λ turn. Ends (next_of tree p.openings rest turn))
running (BlockEnd saved lock ∷ rest) p = and_then (give_maybe lock p) (λ q. Ends (Go (Running rest (closed saved q))))
running (FileEnd name ∷ rest) p = Ends (Go (Running rest (with_rcfile name p)))

-- what comes once the statements of an rcfile were read
abbrev pub Reading : Type 0
Reading = Trees → Mind → Next State Event

-- so it goes on with the statements of an rcfile that was read; one that wasn't is told, and what is left comes
abbrev pub with_statements : List ℕ → List Item → Mind → Reading → Reply → Plan (Next State Event)
with_statements name rest p go (Content bytes) = Ends (go (rc_of bytes) p)
with_statements name rest p go other = say_then p (couldnt_read_line name) (Go (Running rest p))

-- an rcfile is opened, unless the run has opened 256, which is told
abbrev pub open_rcfile : List ℕ → List Item → Mind → Reading → Plan (Next State Event)
open_rcfile name rest p go =
    if nat_le 256 p.openings then say_then p (too_many_rcfiles_line name) (Go (Running rest p))
    else and_then (ask (ReadFile name)) (with_statements name rest (opened p) go)

-- the statements of the rcfile come before what is left, and after them the current one goes on
abbrev pub included : List ℕ → List Item → Trees → Mind → Next State Event
included name rest trees p = Go (Running (ahead trees (FileEnd p.rcfile ∷ rest)) (with_rcfile name p))

-- the blocks of the current rcfile are left, and the statements of the other one take its place, with nothing before the first recipe
abbrev pub switched : List ℕ → List Item → Trees → Mind → Next State Event
switched name rest trees p = Go (LeavingFile (locks_in_file rest) (ahead trees (behind_file rest)) (begun_block (with_rcfile name p)))

-- the blocks of an rcfile that is left give their locks back, the innermost first, and then this is left to do
abbrev pub leaving_file : List (Option (List ℕ)) → List Item → Mind → Plan (Next State Event)
leaving_file [] items p = Ends (Go (Running items p))
leaving_file (lock ∷ locks) items p = and_then (give_maybe lock p) (λ q. Ends (Go (LeavingFile locks items q)))

-- after its blocks a process is over; on another host the next rcfile of the command line is tried, which isn't the first
abbrev pub left_by : End → Mind → State
left_by HostOff p = Opening (record { is_implied = false; keeps_folder = true }) p.later (with_later [] p)
left_by end p = Over end p

-- a process that ends inside blocks gives their locks back, the innermost first
abbrev pub leaving : List (Option (List ℕ)) → End → Mind → Plan (Next State Event)
leaving [] end p = Ends (Go (left_by end p))
leaving (lock ∷ locks) end p = and_then (give_maybe lock p) (λ q. Ends (Go (Leaving locks end q)))

-- how the process ended, by the exit code of TRAP's program
abbrev pub ending_of : End → ℕ → Mind → Ending
ending_of end trapped p = record { end = end; status = exit_status end trapped p }

-- the locks that are still held are given back, the last taken first, and then this comes
abbrev pub unlock_each : {R : Type 0} → List (List ℕ) → R → Plan R
unlock_each [] next = Ends next
unlock_each (name ∷ names) next = and_then (ask (Unlock name)) (λ reply. unlock_each names next)

-- one step: the acts that it asks for, and what comes next
abbrev pub step : State → Plan (Next State Event)
step (Arrived line env bytes) = prepare line env bytes
step (Setting pairs line home p) = setting pairs line home p
step (Opening o names p) = open_next o names p
step (Running items p) = running items p
step (Including name rest p) = open_rcfile name rest p (included name rest)
step (Switching name rest p) = open_rcfile name rest p (switched name rest)
step (LeavingFile locks items p) = leaving_file locks items p
step (Cloning trees items p) = Ends (Stop (WantsClone trees items p))
step (Refusing items p) = say_then p too_many_clones_line (Go (Running items p))
step (FallingOff mailboxes p) = falling_off mailboxes p
step (Leaving locks end p) = leaving locks end p
step (Over end p) = and_then (tell_delivery end p) (λ done. Ends (Go (Trapping end p)))
step (Trapping end p) = and_then (trap end p) (λ t. Ends (Go (Unlocking (ending_of end t.code t.mind) t.mind)))
step (Unlocking ending p) = and_then (give_named p.global p) (λ q. Ends (Go (Closing ending q)))
step (Closing ending p) = unlock_each p.locks (Stop (Ended ending p))
