-- Each step of a process leaves it with the locks of the blocks that are open then, and LOCKFILE's.
use Rattle.std.proofs.Common.{◌≡◌, ℕ, Bool, true, false, ◌&&◌, List, [], ◌∷◌, ◌++◌, Option, None, refl, ap, ◌∙◌, sym, subst}
use Rattle.std.specs.Prelude.{if◌then◌else◌, not, codes, nat_eq, nat_le}
use Rattle.std.specs.List.{starts_with}
use Rattle.pm_bytes.specs.declared.environment.Environ.{Environ}
use Rattle.pm_bytes.specs.declared.environment.Pair.{Pair}
use Rattle.pm_message.specs.FromLine.{makes_line}
use Rattle.pm_recipe.specs.Listed.{rc_of}
use Rattle.pm_recipe.specs.Tree.{Trees, nil, cons, Tree}
use Rattle.pm_journal.specs.LogText.{couldnt_read_line, too_many_rcfiles_line, too_many_clones_line, no_delivery_line}
use Rattle.pm_journal.specs.Plan.{Ends, and_then, ask}
use Rattle.pm_journal.specs.Walking.{Next, Stop, Go}
use Rattle.pm_journal.specs.declared.acts.Act.TheVariants.{Moment}
use Rattle.pm_journal.specs.declared.acts.Reply.{Reply}
use Rattle.pm_journal.specs.declared.acts.Reply.TheVariants.{Content, Now}
use Rattle.pm_meaning.specs.Blocks.{begun_block, closed, give_maybe}
use Rattle.pm_meaning.specs.Changes.{opened, with_openings, with_rcfile}
use Rattle.pm_meaning.specs.Delivering.{deliver_default}
use Rattle.pm_meaning.specs.Ends.{tell_delivery, trap}
use Rattle.pm_meaning.specs.GlobalLock.{give_named}
use Rattle.pm_meaning.specs.Minds.{Mind}
use Rattle.pm_meaning.specs.Running.{State, Arrived, Setting, Opening, Running, Including, Switching, LeavingFile, Cloning, Refusing, FallingOff, Leaving, Over, Trapping, Unlocking, Closing, Item, Do, BlockEnd, FileEnd, OpeningRule, Event, Ended, dated, prepare, set_by_word, mind_in, setting, ahead, is_first, entered, with_later, is_missing, pass_over, after_read, open_next, Reading, with_statements, open_rcfile, included, switched, leaving_file, locks_of, locks_in_file, behind_file, inside, block_of, next_of, next_default, falling_off, running, statement, left_by, leaving, ending_of, unlock_each, step}
use Rattle.pm_meaning.specs.Turns.{Turn, GoesOn, Halts, Enters, Includes, Switches, EndsFile, Clones, is_for_good, say_then}
use Rattle.pm_meaning.specs.declared.chain.Chain.{Chain}
use Rattle.pm_meaning.specs.declared.command_line.CommandLine.{CommandLine}
use Rattle.pm_meaning.specs.declared.process.End.{End}
use Rattle.pm_meaning.specs.declared.process.End.TheVariants.{Delivered, FellOff, NoRc, HostOff}
use Rattle.pm_run.specs.HeldLocks.{ComesRight, named, names_of, HeldAre, HoldsOnly, HoldsRight}
use Rattle.pm_run.proofs.Always.{Always, always_then, always_if, always_after, always_said}
use Rattle.pm_run.proofs.Kept.{Kept, kept_if, AfterAct, AfterTrap}
use Rattle.pm_run.proofs.NamesOnce.{none_held}
use Rattle.pm_run.proofs.KeptOutputs.{kept_trap}
use Rattle.pm_run.proofs.KeptDeliveries.{kept_default}
use Rattle.pm_run.proofs.KeptStatements.{Comes, kept_given, kept_word, kept_statement, kept_left}

-- the same locks by another list of blocks
as_blocks : (a b : List (Option (List ℕ))) (p : Mind) → a ≡ b → HoldsOnly a p → HoldsOnly b p
as_blocks a b p e h = subst (λ l. HoldsOnly l p) e h

-- statements open no block
locks_ahead : (trees : Trees) (rest : List Item) → locks_of (ahead trees rest) ≡ locks_of rest
locks_ahead nil rest = refl
locks_ahead (cons tree trees) rest = locks_ahead trees rest

-- the open blocks are those of the rcfile and those behind it
locks_parted : (items : List Item) → locks_of items ≡ locks_in_file items ++ locks_of (behind_file items)
locks_parted [] = refl
locks_parted (Do tree ∷ items) = locks_parted items
locks_parted (BlockEnd saved lock ∷ items) = ap (λ l. lock ∷ l) (locks_parted items)
locks_parted (FileEnd name ∷ items) = refl

right_dated : (line : CommandLine) (env : Environ) (bytes : List ℕ) (reply : Reply) → Always ComesRight (dated line env bytes reply)
right_dated line env bytes (Now moment) = none_held
right_dated line env bytes other = none_held

right_prepared : (line : CommandLine) (env : Environ) (bytes : List ℕ) → Always ComesRight (prepare line env bytes)
right_prepared line env bytes = always_if ComesRight (makes_line bytes line.renew) (and_then (ask Moment) (dated line env bytes)) _ (λ reply. right_dated line env bytes reply) none_held

right_setting : (pairs : List Pair) (line : CommandLine) (home : List ℕ) (p : Mind) → HoldsOnly [] p → Always ComesRight (setting pairs line home p)
right_setting [] line home p h = h
right_setting (pair ∷ pairs) line home p h =
    always_then (λ (turn : Turn). Kept (HeldAre []) (mind_in turn)) ComesRight (set_by_word pair p) (λ turn. Ends (Go (Setting pairs line home (mind_in turn)))) (kept_word [] pair p h) (λ turn k. k)

right_passed : (o : OpeningRule) (name : List ℕ) (names : List (List ℕ)) (missing : Bool) (p : Mind) → HoldsOnly [] p → Always ComesRight (pass_over o name names missing p)
right_passed o name names missing p h =
    always_if ComesRight p.filter (Ends (Go (Over NoRc p))) _ h
    (always_if ComesRight (o.is_implied && missing) (Ends (Go (Opening o names p))) _ h (always_said ComesRight p (couldnt_read_line name) (Go (Opening o names p)) h))

right_entered : (o : OpeningRule) (name : List ℕ) (p : Mind) → Kept (HeldAre []) p → Kept (HeldAre []) (entered o name p)
right_entered o name p h = kept_if (HeldAre []) (is_first p && starts_with nat_eq name (codes "./") && not o.keeps_folder) _ _ h h

right_read : (o : OpeningRule) (name : List ℕ) (names : List (List ℕ)) (p : Mind) (reply : Reply) → HoldsOnly [] p → Always ComesRight (after_read o name names p reply)
right_read o name names p (Content bytes) h =
    let q = begun_block (entered o name (with_later names p)) in
    as_blocks [] (locks_of (ahead (rc_of bytes) [])) q (sym (locks_ahead (rc_of bytes) [])) (right_entered o name (with_later names p) h)
right_read o name names p other h = right_passed o name names (is_missing other) p h

right_without : (b : Bool) (p : Mind) → HoldsOnly [] p → HoldsRight (if b then Running [] p else Over HostOff p)
right_without true p h = h
right_without false p h = h

right_opening : (o : OpeningRule) (names : List (List ℕ)) (p : Mind) → HoldsOnly [] p → Always ComesRight (open_next o names p)
right_opening o [] p h = right_without (is_first p) p h
right_opening o (name ∷ names) p h =
    always_if ComesRight (nat_le 256 p.openings) (say_then p (too_many_rcfiles_line name) (Go (Opening o names p))) _
    (always_said ComesRight p (too_many_rcfiles_line name) (Go (Opening o names p)) h) (λ reply. right_read o name names (opened p) reply h)

-- an rcfile that is opened, where what comes then has the right locks
right_with : (name : List ℕ) (rest : List Item) (p : Mind) (go : Reading) (reply : Reply) → ((trees : Trees) (q : Mind) → HoldsOnly (locks_of rest) q → ComesRight (go trees q)) → HoldsOnly (locks_of rest) p
    → Always ComesRight (with_statements name rest p go reply)
right_with name rest p go (Content bytes) goes h = goes (rc_of bytes) p h
right_with name rest p go other goes h = always_said ComesRight p (couldnt_read_line name) (Go (Running rest p)) h

right_opened : (name : List ℕ) (rest : List Item) (p : Mind) (go : Reading) → ((trees : Trees) (q : Mind) → HoldsOnly (locks_of rest) q → ComesRight (go trees q)) → HoldsOnly (locks_of rest) p
    → Always ComesRight (open_rcfile name rest p go)
right_opened name rest p go goes h =
    always_if ComesRight (nat_le 256 p.openings) (say_then p (too_many_rcfiles_line name) (Go (Running rest p))) _
    (always_said ComesRight p (too_many_rcfiles_line name) (Go (Running rest p)) h) (λ reply. right_with name rest (opened p) go reply goes h)

right_included : (name : List ℕ) (rest : List Item) (trees : Trees) (p : Mind) → HoldsOnly (locks_of rest) p → ComesRight (included name rest trees p)
right_included name rest trees p h =
    let items = FileEnd p.rcfile ∷ rest in
    as_blocks (locks_of items) (locks_of (ahead trees items)) (with_rcfile name p) (sym (locks_ahead trees items)) h

right_switched : (name : List ℕ) (rest : List Item) (trees : Trees) (p : Mind) → HoldsOnly (locks_of rest) p → ComesRight (switched name rest trees p)
right_switched name rest trees p h =
    as_blocks (locks_of rest) (locks_in_file rest ++ locks_of (ahead trees (behind_file rest))) (begun_block (with_rcfile name p))
    (locks_parted rest ∙ ap (λ l. locks_in_file rest ++ l) (sym (locks_ahead trees (behind_file rest)))) h

right_left : (locks : List (Option (List ℕ))) (items : List Item) (p : Mind) → HoldsOnly (locks ++ locks_of items) p → Always ComesRight (leaving_file locks items p)
right_left [] items p h = h
right_left (lock ∷ locks) items p h =
    always_then (Kept (HeldAre (names_of (locks ++ locks_of items)))) ComesRight (give_maybe lock p) (λ q. Ends (Go (LeavingFile locks items q)))
    (kept_left (names_of (locks ++ locks_of items)) lock p h) (λ q k. k)

right_by : (end : End) (p : Mind) → HoldsOnly [] p → HoldsRight (left_by end p)
right_by HostOff p h = h
right_by other p h = h

right_leaving : (locks : List (Option (List ℕ))) (end : End) (p : Mind) → HoldsOnly locks p → Always ComesRight (leaving locks end p)
right_leaving [] end p h = right_by end p h
right_leaving (lock ∷ locks) end p h =
    always_then (Kept (HeldAre (names_of locks))) ComesRight (give_maybe lock p) (λ q. Ends (Go (Leaving locks end q))) (kept_left (names_of locks) lock p h) (λ q k. k)

right_inside : (trees : Trees) (saved : Chain) (lock : Option (List ℕ)) (rest : List Item) (p : Mind) → HeldAre (named lock (names_of (locks_of rest))) p.locks p.global
    → HoldsOnly (locks_of (inside trees saved lock rest)) p
right_inside trees saved lock rest p h =
    let items = BlockEnd saved lock ∷ rest in as_blocks (locks_of items) (locks_of (ahead trees items)) p (sym (locks_ahead trees items)) h

right_turn : (tree : Tree) (count : ℕ) (rest : List Item) (turn : Turn) → Comes (names_of (locks_of rest)) turn → ComesRight (next_of tree count rest turn)
right_turn tree count rest (GoesOn p) h = h
right_turn tree count rest (Halts end p) h = h
right_turn tree count rest (Enters lock p) h = right_inside (block_of tree) p.chain lock rest (begun_block (with_openings count p)) h
right_turn tree count rest (Includes name p) h = h
right_turn tree count rest (Switches name p) h = h
right_turn tree count rest (EndsFile p) h = as_blocks (locks_of rest) (locks_in_file rest ++ locks_of (behind_file rest)) (with_openings count p) (locks_parted rest) h
right_turn tree count rest (Clones p) h = h

right_running : (items : List Item) (p : Mind) → HoldsOnly (locks_of items) p → Always ComesRight (running items p)
right_running [] p h = h
right_running (Do tree ∷ rest) p h =
    always_then (Comes (names_of (locks_of rest))) ComesRight (statement tree p) (λ turn. Ends (next_of tree p.openings rest turn)) (kept_statement (names_of (locks_of rest)) tree p h)
    (λ turn k. right_turn tree p.openings rest turn k)
right_running (BlockEnd saved lock ∷ rest) p h =
    always_then (Kept (HeldAre (names_of (locks_of rest)))) ComesRight (give_maybe lock p) (λ q. Ends (Go (Running rest (closed saved q)))) (kept_left (names_of (locks_of rest)) lock p h) (λ q k. k)
right_running (FileEnd name ∷ rest) p h = h

right_default : (rest : List (List ℕ)) (b : Bool) (p : Mind) → HoldsOnly [] p → ComesRight (if b then Go (Over Delivered p) else Go (FallingOff rest p))
right_default rest true p h = h
right_default rest false p h = h

right_falling : (mailboxes : List (List ℕ)) (p : Mind) → HoldsOnly [] p → Always ComesRight (falling_off mailboxes p)
right_falling [] p h = always_said ComesRight p no_delivery_line (Go (Over FellOff p)) h
right_falling (mailbox ∷ rest) p h =
    always_then (AfterAct (HeldAre [])) ComesRight (deliver_default mailbox p) (λ came. Ends (next_default rest came)) (kept_default (HeldAre []) mailbox p h)
    (λ came k. right_default rest (is_for_good came.acted) came.mind k)

-- where no lock is held any more, none is given back at the end
right_closing : (locks : List (List ℕ)) (next : Next State Event) → ComesRight next → Always ComesRight (unlock_each locks next)
right_closing [] next h = h
right_closing (name ∷ names) next h = λ reply. right_closing names next h

-- a step from a state with the right locks
pub steps_right : (s : State) → HoldsRight s → Always ComesRight (step s)
steps_right (Arrived line env bytes) h = right_prepared line env bytes
steps_right (Setting pairs line home p) h = right_setting pairs line home p h
steps_right (Opening o names p) h = right_opening o names p h
steps_right (Running items p) h = right_running items p h
steps_right (Including name rest p) h = right_opened name rest p (included name rest) (λ trees q k. right_included name rest trees q k) h
steps_right (Switching name rest p) h = right_opened name rest p (switched name rest) (λ trees q k. right_switched name rest trees q k) h
steps_right (LeavingFile locks items p) h = right_left locks items p h
steps_right (Cloning trees items p) h = h
steps_right (Refusing items p) h = always_said ComesRight p too_many_clones_line (Go (Running items p)) h
steps_right (FallingOff mailboxes p) h = right_falling mailboxes p h
steps_right (Leaving locks end p) h = right_leaving locks end p h
steps_right (Over end p) h = always_after ComesRight (tell_delivery end p) (λ done. Ends (Go (Trapping end p))) (λ done. h)
steps_right (Trapping end p) h =
    always_then (AfterTrap (HeldAre [])) ComesRight (trap end p) (λ t. Ends (Go (Unlocking (ending_of end t.code t.mind) t.mind))) (kept_trap (HeldAre []) end p h) (λ t k. k)
steps_right (Unlocking ending p) h =
    always_then (λ (q : Mind). HeldAre [] q.locks None × (q.global ≡ None)) ComesRight (give_named p.global p) (λ q. Ends (Go (Closing ending q))) (kept_given [] p h) (λ q k. k.0.others)
steps_right (Closing ending p) h = right_closing p.locks (Stop (Ended ending p)) h
