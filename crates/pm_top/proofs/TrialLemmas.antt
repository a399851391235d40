-- How the runs of a trial end, from what was done so far.
use Rattle.std.proofs.Common.{◌≡◌, ◌≢◌, ◌≤◌, ◌<◌, ℕ, ◌+◌, List, [], Some, None, Result, Ok, Err, OnErr, refl, sym, ap, ◌∙◌, subst, arith}
use Rattle.pm_bytes.specs.declared.environment.Environ.{Environ}
use Rattle.pm_bytes.specs.declared.error.Memory.{Memory}
use Rattle.pm_host.specs.declared.answers.Child.TheVariants.{NoChild}
use Rattle.pm_journal.specs.Entries.{View}
use Rattle.pm_top.specs.Words.{all_bytes}
use Rattle.pm_top.specs.Run.{Run}
use Rattle.pm_top.specs.Promise.{Promise as RunPromise}
use Rattle.pm_top.specs.Counting.{totals_of}
use Rattle.pm_top.specs.Report.{report_of}
use Rattle.pm_top.specs.TrialWords.{trial_count}
use Rattle.pm_top.specs.Runs.{IsRun, Delivered, all_entries}
use Rattle.pm_top.specs.Trials.{Fails, Succeeds, GivesUp, Tried}
use Rattle.pm_top.specs.ProgramPromise.{Promise, Tries}
use Rattle.pm_top.specs.declared.delivering.TrialEnd.{TrialEnd}
use Rattle.pm_top.specs.declared.totals.Totals.{Totals}
use Rattle.pm_top.proofs.RunLemmas.{Counted, delivered_more}

-- memory was wanting right after a run with status 0
pub gives_up_after : (count : ℕ) (env : Environ) (number : ℕ) (totals : Totals) (before middle : View) (run : Run) → number < count → Counted env number totals before middle → IsRun env number run → run.before ≡ middle → run.status ≡ 0 → GivesUp count env before run.after
gives_up_after count env number totals before middle run within c last begins status = record {
  number = number + 1;
  within = omega arith;
  delivered = delivered_more env number before middle run c.delivered last begins status;
}

pub fails : (count : ℕ) (env : Environ) (number : ℕ) (totals : Totals) (before middle : View) (run : Run) → number < count → Counted env number totals before middle → IsRun env number run → run.before ≡ middle → run.status ≢ 0 → Fails count env run.status before run.after
fails count env number totals before middle run within c last begins failed = record {
  k = number;
  within = within;
  fails = record { middle = middle; delivered = c.delivered; run = run; last = last; begins = begins; ends = refl; status_is = refl; failed = failed };
}

pub succeeds : (count : ℕ) (env : Environ) (number : ℕ) (totals : Totals) (report : List ℕ) (before after : View) → number ≡ count → Counted env number totals before after → report ≡ report_of count totals → Succeeds count env report before after
succeeds count env number totals report before after all c says = subst (λ n. Succeeds n env report before after) all (record {
  delivered = c.delivered;
  report_is = says ∙ ap (λ n. report_of n totals) (sym all) ∙ ap (report_of number) c.counted;
})

-- what holds whatever came holds where memory was wanting
pub on_err : (r : Result TrialEnd Memory) (P : Type 0) → P → OnErr r P
on_err (Ok end) P h = tt
on_err (Err e) P h = h
