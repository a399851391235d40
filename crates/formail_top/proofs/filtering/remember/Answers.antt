use Rattle.formail_top.specs.Run.{untouched, used}
use Rattle.formail_top.proofs.Bounds.{ids_short}
use Rattle.formail_top.proofs.LeavingLemmas.{on_err}
use Rattle.formail_top.proofs.filtering.remember.Goals as goal

pub returns-in_err-status-clause-left : goal.returns-in_err-status-clause-left
returns-in_err-status-clause-left g c =
    on_err _ (used _ _ _ (rw c.in_ok-end.ensures.ok at c.cache_step.ensures.steps) c.in_err-status.ensures.asked)

pub returns-in_err-end-clause-left : goal.returns-in_err-end-clause-left
returns-in_err-end-clause-left g c = on_err _ (untouched (c.cache_step.ensures.memory c.in_err-end.ensures.memory))

pub returns-clause-ok : goal.returns-clause-ok
returns-clause-ok g c =
    record {
      end = c.in_ok-end.end;
      middle = _;
      steps = rw (c.as_slice.ensures.value, c.in_ok-ids.ensures, c.in_ok-end.ensures.ok) at c.cache_step.ensures.steps;
      tree = rw (c.as_slice.ensures.value, c.in_ok-ids.ensures, c.in_ok-end.ensures.ok) at c.cache_step.ensures.tree;
      after = c.in_ok-status.ensures.ok;
    }

pub cache_step-requires-clause-ids : goal.cache_step-requires-clause-ids
cache_step-requires-clause-ids g c = rw (c.as_slice.ensures.value, c.in_ok-ids.ensures) (ids_short c.args.asked.request.now c.args.mails.now)
