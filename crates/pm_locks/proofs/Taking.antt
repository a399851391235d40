-- A lock under way.
use Rattle.std.proofs.Common.{◌≡◌, List, [], ◌∷◌, ◌++◌, ℕ, refl, ap}
use Rattle.pm_host.specs.Told.{HostView}
use Rattle.pm_host.specs.Runs.{logged, Ran, Transitions}
use Rattle.pm_journal.specs.Locking.{LockAsks, lock_heard, lock_step, no_tally}
use Rattle.pm_host.proofs.RunsJoin.{ran_none, ran_then, transitions_then}
use Rattle.pm_host.specs.declared.calls.Answer.{Answer}
use Rattle.pm_host.specs.declared.calls.Logged.{Logged}
use Rattle.pm_journal.specs.declared.locking.LockRule.{LockRule}
use Rattle.pm_journal.specs.declared.locking.LockState.{LockState}
use Rattle.pm_journal.specs.declared.locking.LockEnd.{LockEnd}
use Rattle.pm_journal.specs.declared.locking.LockState.TheVariants.{Trying}
use Rattle.pm_journal.specs.declared.locking.LockStep.TheVariants.{Finish}
use Rattle.pm_locks.specs.Machine.{Machine, taking, taking_heard}
use Rattle.pm_locks.specs.Walks.{TakingAsks, RunsTaking}
use Rattle.pm_locks.specs.Steps.{MakesLockStep}

-- the calls so far lead here
pub record Taking (rule : LockRule) (name : List ℕ) (at : LockState) (before now : HostView) : Type 0 where
  pub calls : List Logged
  pub ran : Ran calls before now
  pub walk : Transitions (LockAsks name) (lock_heard rule) (Trying no_tally) calls at

pub begun : (rule : LockRule) (name : List ℕ) (s : HostView) → Taking rule name (Trying no_tally) s s
begun rule name s = record { calls = []; ran = ran_none s; walk = refl }

pub goes_on : (rule : LockRule) (name : List ℕ) (at : LockState) (answer : Answer) (a b c : HostView) → Taking rule name at a b
    → MakesLockStep name (lock_step at) answer b c → Taking rule name (lock_heard rule at answer) a c
goes_on rule name at answer a b c so_far step = record {
  calls = so_far.calls ++ logged step.call answer ∷ [];
  ran = ran_then so_far.calls step.call answer a b c so_far.ran step.makes;
  walk = transitions_then (LockAsks name) (lock_heard rule) (Trying no_tally) so_far.calls at step.call answer so_far.walk step.asks step.makes.fits;
}

abbrev standing : LockRule → LockState → Machine
standing rule at = record { rule = rule; at = at }

-- the same walk with the rule beside the state
pub with_rule : (rule : LockRule) (name : List ℕ) (calls : List Logged) (s t : LockState) → Transitions (LockAsks name) (lock_heard rule) s calls t
    → Transitions (TakingAsks name) taking_heard (standing rule s) calls (standing rule t)
with_rule rule name [] s t walk = ap (standing rule) walk
with_rule rule name (c ∷ cs) s t walk = (walk.0, walk.1, with_rule rule name cs (lock_heard rule s c.answer) t walk.2)

pub has_run : (rule : LockRule) (name : List ℕ) (at : LockState) (end : LockEnd) (before now : HostView) → Taking rule name at before now → lock_step at ≡ Finish end
    → RunsTaking name (taking rule) end before now
has_run rule name at end before now so_far ends = record {
  calls = so_far.calls;
  ran = so_far.ran;
  last = standing rule at;
  walk = with_rule rule name so_far.calls (Trying no_tally) at so_far.walk;
  ends = ends;
}
