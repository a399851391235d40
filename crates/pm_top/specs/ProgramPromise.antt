-- What is promised of the program.
use Rattle.std.specs.Prelude.{◌≡◌, ℕ, [], Some, None}
use Rattle.pm_host.specs.declared.answers.Child.TheVariants.{NoChild}
use Rattle.pm_top.specs.Words.{all_bytes}
use Rattle.pm_top.specs.Run.{Run}
use Rattle.pm_top.specs.Promise.{Promise as RunPromise}
use Rattle.pm_top.specs.TrialWords.{trial_count}
use Rattle.pm_top.specs.Trials.{Tried}

-- a trial of so many messages was made in place of one run: the source took no call, and the journal has no entry
pub record Tries (count : ℕ) (run : Run) : Type 0 where
  pub source_same : run.rest ≡ run.source
  pub none_noted : run.entries ≡ []
  pub tried : Tried (record {
    count = count;
    env = run.env;
    status = run.status;
    before = run.before;
    after = run.after;
  })
  pub children : run.after.host.child ≡ NoChild

-- Words that ask for no trial are those of one run, of which all is promised that is promised of a run; the others
-- are a trial.
pub record Promise (run : Run) : Type 0 where
  pub single : trial_count (all_bytes run.words) ≡ None → RunPromise run
  pub trial : (count : ℕ) → trial_count (all_bytes run.words) ≡ Some count → Tries count run
