-- A run, from the acts that were done.
use Rattle.std.proofs.Common.{◌≡◌, ◌⊎◌, inl, inr, Bool, true, false, Some, None, Option, List, ℕ, [], ◌∷◌, refl, sym, ap, ◌∙◌, subst, arith}
use Rattle.pm_journal.specs.JournalState.{JournalState}
use Rattle.pm_journal.specs.Entries.{View, view_of, Accounts}
use Rattle.pm_journal.specs.Executed.{Executes}
use Rattle.pm_journal.specs.Plan.{Plays}
use Rattle.pm_journal.specs.declared.acts.Entry.{Entry}
use Rattle.lockfile_top.specs.Doing.{do_tasks}
use Rattle.lockfile_top.specs.Promise.{Run, BadWords, NotBegun, DoesTasks, Outcome, bad_words, not_begun, does_tasks, Leaves, LeavesRight, Promise, Did}
use Rattle.lockfile_top.specs.Status.{status_number, end_status}
use Rattle.lockfile_top.specs.Words.{command_line}
use Rattle.lockfile_top.specs.declared.tasks.CommandLine.{CommandLine}
use Rattle.lockfile_top.specs.declared.tasks.Ending.TheVariants.{AllDone, GaveUp}
use Rattle.lockfile_top.proofs.EndLemmas.{tasks_stop, tasks_succeed}
use Rattle.lockfile_top.proofs.GoneLemmas.{stopped_gone}
use Rattle.pm_journal.proofs.AccountsJoin.{accounts_effect}
use Rattle.lockfile_top.specs.declared.tasks.Task.{Task}
use Rattle.lockfile_top.specs.declared.tasks.Ending.{Ending}

-- the view without its references
abbrev pub plain : View → View
plain v = view_of v.host v.out v.err

accounts_plain : (es : List Entry) (a b : View) → Accounts es a b → Accounts es (plain a) (plain b)
accounts_plain es a b h = record {
  groups = h.groups;
  honest = h.honest;
  ran = h.ran;
  said = h.said;
  written = h.written;
  framed = h.framed;
  covered = h.covered;
  same = refl;
}

-- what was done doesn't depend on the references that held the objects
pub did_plain : (tasks : List Task) (made : List (List ℕ)) (ending : Ending) (x y : JournalState) (a b : View) → Executes (do_tasks tasks made) ending x y a b → made ≡ [] → Did tasks ending (plain a) (plain b)
did_plain tasks made ending x y a b h e = record {
  entries = h.more;
  plays = subst (λ m. Plays (do_tasks tasks m) h.more ending) e h.plays;
  accounts = accounts_plain h.more a b h.accounts;
}

abbrev first_of : List ℕ → ℕ
first_of [] = 0
first_of (x ∷ xs) = x

abbrev second_of : List ℕ → ℕ
second_of [] = 0
second_of (x ∷ xs) = first_of xs

abbrev third_of : List ℕ → ℕ
third_of [] = 0
third_of (x ∷ xs) = second_of xs

-- the references are those of before, each at its place
pub first_same : (x y z a b c : ℕ) → (x ∷ y ∷ z ∷ []) ≡ (a ∷ b ∷ c ∷ []) → x ≡ a
first_same x y z a b c e = ap first_of e

pub second_same : (x y z a b c : ℕ) → (x ∷ y ∷ z ∷ []) ≡ (a ∷ b ∷ c ∷ []) → y ≡ b
second_same x y z a b c e = ap second_of e

pub third_same : (x y z a b c : ℕ) → (x ∷ y ∷ z ∷ []) ≡ (a ∷ b ∷ c ∷ []) → z ≡ c
third_same x y z a b c e = ap third_of e

not_64 : (inverted : Bool) (ending : Ending) → status_number (end_status inverted ending) ≡ 64 → ⊥
not_64 false AllDone h = omega (arith, h)
not_64 false GaveUp h = omega (arith, h)
not_64 true AllDone h = omega (arith, h)
not_64 true GaveUp h = omega (arith, h)

not_71 : (inverted : Bool) (ending : Ending) → status_number (end_status inverted ending) ≡ 71 → ⊥
not_71 false AllDone h = omega (arith, h)
not_71 false GaveUp h = omega (arith, h)
not_71 true AllDone h = omega (arith, h)
not_71 true GaveUp h = omega (arith, h)

read_apart : (found : Option CommandLine) (line : CommandLine) → found ≡ Some line → found ≡ None → ⊥
read_apart found line h k = let e : Some line ≡ None = sym h ∙ k in absurd (cc)

unread_of : (run : Run) → Outcome run → command_line run.env run.words ≡ None → BadWords run ⊎ NotBegun run
unread_of run (bad_words h) u = inl h
unread_of run (not_begun h) u = inr h
unread_of run (does_tasks h) u = absurd (read_apart (command_line run.env run.words) h.line h.read u)

usage_of : (run : Run) → Outcome run → run.status ≡ 64 → BadWords run
usage_of run (bad_words h) s = h
usage_of run (not_begun h) s = absurd (omega (arith, h.status_is, s))
usage_of run (does_tasks h) s = absurd (not_64 h.line.inverted h.ending (sym h.status_is ∙ s))

starved_of : (run : Run) → Outcome run → run.status ≡ 71 → NotBegun run
starved_of run (bad_words h) s = absurd (omega (arith, h.status_is, s))
starved_of run (not_begun h) s = h
starved_of run (does_tasks h) s = absurd (not_71 h.line.inverted h.ending (sym h.status_is ∙ s))

leaves : (run : Run) (h : DoesTasks run) → Leaves run h
leaves run h = record {
  tree = accounts_effect h.entries run.before run.after h.accounts;
  succeeded = λ e. tasks_succeed h.line.tasks [] h.entries (subst (Plays (do_tasks h.line.tasks []) h.entries) e h.plays);
  stopped = λ e. let s = tasks_stop h.line.tasks [] h.entries (subst (Plays (do_tasks h.line.tasks []) h.entries) e h.plays) in
      record { from = s; gone = stopped_gone [] h.entries run.before run.after s h.accounts };
}

left_of : (run : Run) (how : Outcome run) → LeavesRight run how
left_of run (bad_words h) = tt
left_of run (not_begun h) = tt
left_of run (does_tasks h) = leaves run h

-- the promise, from how a run went
pub promised : (run : Run) → Outcome run → Promise run
promised run how = record { how = how; left = left_of run how; unread = unread_of run how; on_64 = usage_of run how; on_71 = starved_of run how }
