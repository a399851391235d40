-- Steps after which a process isn't over as delivered.
use Rattle.std.proofs.Common.{◌≡◌, ℕ, Bool, true, false, ◌&&◌, List, [], ◌∷◌, Option, refl}
use Rattle.std.specs.Prelude.{if◌then◌else◌, nat_le}
use Rattle.pm_bytes.specs.declared.environment.Environ.{Environ}
use Rattle.pm_bytes.specs.declared.environment.Pair.{Pair}
use Rattle.pm_message.specs.FromLine.{makes_line, prepared_of}
use Rattle.pm_message.specs.Split.{split_of}
use Rattle.pm_message.specs.declared.head.Message.{Message}
use Rattle.pm_recipe.specs.Listed.{rc_of}
use Rattle.pm_recipe.specs.Tree.{Trees}
use Rattle.pm_journal.specs.LogText.{couldnt_read_line, too_many_rcfiles_line, too_many_clones_line, no_delivery_line}
use Rattle.pm_journal.specs.declared.acts.Act.TheVariants.{Moment, ReadFile}
use Rattle.pm_journal.specs.declared.acts.Reply.{Reply}
use Rattle.pm_journal.specs.declared.acts.Reply.TheVariants.{Content, Now}
use Rattle.pm_journal.specs.Plan.{Plan, Ends, and_then, ask}
use Rattle.pm_journal.specs.Walking.{Next, Stop, Go}
use Rattle.pm_meaning.specs.Blocks.{begun_block, give_maybe}
use Rattle.pm_meaning.specs.Changes.{opened}
use Rattle.pm_meaning.specs.FirstValues.{login_name, home_folder, first_process}
use Rattle.pm_meaning.specs.Minds.{Mind}
use Rattle.pm_meaning.specs.Turns.{say_then}
use Rattle.pm_meaning.specs.declared.process.End.TheVariants.{FellOff, NoRc, HostOff}
use Rattle.pm_meaning.specs.Ends.{is_delivered}
use Rattle.pm_meaning.specs.Running.{State, Setting, Opening, Running, LeavingFile, Leaving, Over, Trapping, Unlocking, Closing, Item, OpeningRule, Event, Ended, WantsClone, home_by, begun, dated, prepare, set_by_word, mind_in, rcfiles_of, opening_of, setting, ahead, is_first, entered, with_later, is_missing, pass_over, after_read, without_rcfile, open_next, Reading, with_statements, open_rcfile, leaving_file}
use Rattle.pm_meaning.specs.declared.command_line.CommandLine.{CommandLine}
use Rattle.pm_meaning.proofs.NoDelivery.{Never, never_ends, never_asked, never_then, never_said, never_if}

-- the process is over as delivered, or has ended so
abbrev pub is_last : Next State Event → Bool
is_last (Stop (Ended ending p)) = is_delivered ending.end
is_last (Stop (WantsClone trees items p)) = false
is_last (Go (Leaving locks end p)) = is_delivered end
is_last (Go (Over end p)) = is_delivered end
is_last (Go (Trapping end p)) = is_delivered end
is_last (Go (Unlocking ending p)) = is_delivered ending.end
is_last (Go (Closing ending p)) = is_delivered ending.end
is_last (Go other) = false

-- the test fails on each state in the midst of a process
pub record FailsMidway (test : Next State Event → Bool) : Type 0 where
  pub setting : (pairs : List Pair) (line : CommandLine) (home : List ℕ) (p : Mind) → test (Go (Setting pairs line home p)) ≡ false
  pub opening : (o : OpeningRule) (names : List (List ℕ)) (p : Mind) → test (Go (Opening o names p)) ≡ false
  pub running : (items : List Item) (p : Mind) → test (Go (Running items p)) ≡ false
  pub leaving : (locks : List (Option (List ℕ))) (items : List Item) (p : Mind) → test (Go (LeavingFile locks items p)) ≡ false

-- the test fails on a process that is over without its rcfile, or on another host
pub record FailsOver (test : Next State Event → Bool) : Type 0 where
  pub unread : (p : Mind) → test (Go (Over NoRc p)) ≡ false
  pub elsewhere : (p : Mind) → test (Go (Over HostOff p)) ≡ false

pub not_last_over : FailsOver is_last
not_last_over = record { unread = λ p. refl; elsewhere = λ p. refl }

pub not_last : FailsMidway is_last
not_last = record { setting = λ pairs line home p. refl; opening = λ o names p. refl; running = λ items p. refl; leaving = λ locks items p. refl }

begun_fails : (test : Next State Event → Bool) → FailsMidway test → (line : CommandLine) (env : Environ) (message : Message) → test (begun line env message) ≡ false
begun_fails test fails line env message = fails.setting line.values line (home_by line.values (home_folder env)) (first_process line.filter line.fails_softly line.arguments env message)

never_dated : (test : Next State Event → Bool) → FailsMidway test → (line : CommandLine) (env : Environ) (bytes : List ℕ) (reply : Reply) → Never test (dated line env bytes reply)
never_dated test fails line env bytes (Now moment) = never_ends test (begun line env (prepared_of bytes line.renew (login_name env) moment)) (begun_fails test fails line env (prepared_of bytes line.renew (login_name env) moment))
never_dated test fails line env bytes other = never_ends test (begun line env (split_of bytes)) (begun_fails test fails line env (split_of bytes))

pub never_prepared : (test : Next State Event → Bool) → FailsMidway test → (line : CommandLine) (env : Environ) (bytes : List ℕ) → Never test (prepare line env bytes)
never_prepared test fails line env bytes =
    never_if test (makes_line bytes line.renew) (and_then (ask Moment) (dated line env bytes)) (Ends (begun line env (split_of bytes)))
    (never_asked test Moment (dated line env bytes) (never_dated test fails line env bytes)) (never_ends test (begun line env (split_of bytes)) (begun_fails test fails line env (split_of bytes)))

pub never_setting : (test : Next State Event → Bool) → FailsMidway test → (pairs : List Pair) (line : CommandLine) (home : List ℕ) (p : Mind) → Never test (setting pairs line home p)
never_setting test fails [] line home p = never_ends test (Go (Opening (opening_of line) (rcfiles_of line home) p)) (fails.opening (opening_of line) (rcfiles_of line home) p)
never_setting test fails (pair ∷ pairs) line home p =
    never_then test (set_by_word pair p) (λ turn. Ends (Go (Setting pairs line home (mind_in turn)))) (λ turn. never_ends test (Go (Setting pairs line home (mind_in turn))) (fails.setting pairs line home (mind_in turn)))

never_passed : (test : Next State Event → Bool) → FailsMidway test → FailsOver test → (o : OpeningRule) (name : List ℕ) (names : List (List ℕ)) (missing : Bool) (p : Mind) → Never test (pass_over o name names missing p)
never_passed test fails over o name names missing p =
    let next : Next State Event = Go (Opening o names p) in
    let told : Plan (Next State Event) = say_then p (couldnt_read_line name) next in
    let other : Plan (Next State Event) = if o.is_implied && missing then Ends next else told in
    never_if test p.filter (Ends (Go (Over NoRc p))) other (never_ends test (Go (Over NoRc p)) (over.unread p))
    (never_if test (o.is_implied && missing) (Ends next) told (never_ends test next (fails.opening o names p)) (never_said test p (couldnt_read_line name) next (fails.opening o names p)))

never_after : (test : Next State Event → Bool) → FailsMidway test → FailsOver test → (o : OpeningRule) (name : List ℕ) (names : List (List ℕ)) (p : Mind) (reply : Reply) → Never test (after_read o name names p reply)
never_after test fails over o name names p (Content bytes) =
    let items = ahead (rc_of bytes) [] in
    let q = begun_block (entered o name (with_later names p)) in
    never_ends test (Go (Running items q)) (fails.running items q)
never_after test fails over o name names p other = never_passed test fails over o name names (is_missing other) p

-- without another rcfile a process falls off its end, or isn't on its host
lost_by : (test : Next State Event → Bool) → FailsMidway test → FailsOver test → (b : Bool) (p : Mind) → test (Go (if b then Running [] p else Over HostOff p)) ≡ false
lost_by test fails over true p = fails.running [] p
lost_by test fails over false p = over.elsewhere p

pub never_opening : (test : Next State Event → Bool) → FailsMidway test → FailsOver test → (o : OpeningRule) (names : List (List ℕ)) (p : Mind) → Never test (open_next o names p)
never_opening test fails over o [] p = never_ends test (Go (without_rcfile p)) (lost_by test fails over (is_first p) p)
never_opening test fails over o (name ∷ names) p =
    let next : Next State Event = Go (Opening o names p) in
    let read = and_then (ask (ReadFile name)) (after_read o name names (opened p)) in
    never_if test (nat_le 256 p.openings) (say_then p (too_many_rcfiles_line name) next) read (never_said test p (too_many_rcfiles_line name) next (fails.opening o names p))
    (never_asked test (ReadFile name) (after_read o name names (opened p)) (never_after test fails over o name names (opened p)))

-- an rcfile that is opened, whatever it has, when what comes then isn't the end
never_with : (test : Next State Event → Bool) → FailsMidway test → (name : List ℕ) (rest : List Item) (p : Mind) (go : Reading) (reply : Reply) → ((trees : Trees) (q : Mind) → test (go trees q) ≡ false) → Never test (with_statements name rest p go reply)
never_with test fails name rest p go (Content bytes) goes = never_ends test (go (rc_of bytes) p) (goes (rc_of bytes) p)
never_with test fails name rest p go other goes = never_said test p (couldnt_read_line name) (Go (Running rest p)) (fails.running rest p)

pub never_opened : (test : Next State Event → Bool) → FailsMidway test → (name : List ℕ) (rest : List Item) (p : Mind) (go : Reading) → ((trees : Trees) (q : Mind) → test (go trees q) ≡ false) → Never test (open_rcfile name rest p go)
never_opened test fails name rest p go goes =
    let read = and_then (ask (ReadFile name)) (with_statements name rest (opened p) go) in
    never_if test (nat_le 256 p.openings) (say_then p (too_many_rcfiles_line name) (Go (Running rest p))) read
    (never_said test p (too_many_rcfiles_line name) (Go (Running rest p)) (fails.running rest p))
    (never_asked test (ReadFile name) (with_statements name rest (opened p) go) (λ reply. never_with test fails name rest (opened p) go reply goes))

pub never_left : (test : Next State Event → Bool) → FailsMidway test → (locks : List (Option (List ℕ))) (items : List Item) (p : Mind) → Never test (leaving_file locks items p)
never_left test fails [] items p = never_ends test (Go (Running items p)) (fails.running items p)
never_left test fails (lock ∷ locks) items p =
    never_then test (give_maybe lock p) (λ q. Ends (Go (LeavingFile locks items q))) (λ q. never_ends test (Go (LeavingFile locks items q)) (fails.leaving locks items q))

pub never_refused : (test : Next State Event → Bool) → FailsMidway test → (items : List Item) (p : Mind) → Never test (say_then p too_many_clones_line (Go (Running items p)))
never_refused test fails items p = never_said test p too_many_clones_line (Go (Running items p)) (fails.running items p)

pub never_lost : (p : Mind) → Never is_last (say_then p no_delivery_line (Go (Over FellOff p)))
never_lost p = never_said is_last p no_delivery_line (Go (Over FellOff p)) refl
