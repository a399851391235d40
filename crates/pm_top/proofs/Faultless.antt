-- An entry of the host's that tells of a fault has the host's count risen.
use Rattle.std.proofs.Common.{◌⊎◌, inl, inr, ℕ, ◌≤◌, List, [], ◌∷◌, ◌++◌, sym, subst, arith}
use Rattle.pm_host.specs.Told.{Rose}
use Rattle.pm_journal.specs.declared.acts.Entry.{Entry}
use Rattle.pm_journal.specs.Laws.{SomeFaulty}
use Rattle.pm_journal.proofs.Causes.{act_cause, faults_raise}
use Rattle.pm_top.specs.Run.{Run}
use Rattle.pm_top.specs.Outcome.{Outcome}
use Rattle.pm_top.specs.Account.{done_in, given_in, Account}

faulty_of : (es fs : List Entry) → SomeFaulty (es ++ fs) → SomeFaulty es ⊎ SomeFaulty fs
faulty_of [] fs h = inr h
faulty_of (e ∷ es) fs (inl h) = inl (inl h)
faulty_of (e ∷ es) fs (inr h) = elim (faulty_of es fs h) [ inl k ↦ inl (inr k) | inr k ↦ inr k ]

rose_between : (a b c d : ℕ) → a ≤ b → Rose b c → c ≤ d → Rose a d
rose_between a b c d first rose last = omega arith

le_refl : (a : ℕ) → a ≤ a
le_refl a = omega arith

le_then : (a b c : ℕ) → a ≤ b → b ≤ c → a ≤ c
le_then a b c h k = omega arith

pub faultless_in : (run : Run) (how : Outcome run) (a : Account run how) → SomeFaulty run.entries → Rose run.before.host.faults run.after.host.faults
faultless_in run how a faulty =
    let before = run.before.host.faults in
    let middle = a.middle.host.faults in
    let later = a.later.host.faults in
    let last = a.last.host.faults in
    subst (λ h. Rose before h.faults) (sym a.host_same)
    (elim (faulty_of (done_in run how) (given_in run how) (subst SomeFaulty a.entries_are faulty)) [
      | inl h ↦ rose_between before before middle last (le_refl before) (faults_raise act_cause (done_in run how) run.before a.middle a.accounts h) (le_then middle later last a.took.ran.later a.back.ran.later)
      | inr h ↦ rose_between before later last last (le_then before middle later a.accounts.ran.later a.took.ran.later) (faults_raise act_cause (given_in run how) a.later a.last a.back h) (le_refl last)
    ])
