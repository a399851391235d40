-- The runs of a trial.
use Rattle.std.specs.Prelude.{◌≡◌, ◌⊎◌, ℕ, ◌+◌, List, [], ◌∷◌, ◌++◌, length, All, codes}
use Rattle.pm_bytes.specs.declared.environment.Environ.{Environ}
use Rattle.pm_journal.specs.Entries.{View}
use Rattle.pm_journal.specs.declared.acts.Entry.{Entry}
use Rattle.pm_top.specs.Words.{all_bytes}
use Rattle.pm_top.specs.Run.{Run}
use Rattle.pm_top.specs.Outcome.{HasMeaning}
use Rattle.pm_top.specs.Promise.{Promise, IsStarved}
use Rattle.pm_top.specs.Messages.{message_of}
use Rattle.pm_top.specs.Sources.{telling}

-- the words of each run
abbrev pub run_words : List (List ℕ)
run_words = codes "-m" ∷ codes "rc" ∷ []

-- the run has a meaning, which is that of message k, all of which was read
pub record MeansMessage (k : ℕ) (run : Run) : Type 0 where
  pub meaning : HasMeaning run
  pub mail_is : meaning.mail ≡ message_of k
  pub all_read : run.rest ≡ telling []

-- Run k of a trial: a run by `-m rc` over message k, of which all is promised that is promised of a run. Either memory
-- was wanting in it, or it has the meaning of that message.
pub record IsRun (env : Environ) (k : ℕ) (run : Run) : Type 0 where
  pub words_are : all_bytes run.words ≡ run_words
  pub env_is : run.env ≡ env
  pub source_is : run.source ≡ telling (message_of k)
  pub promise : Promise run
  pub went : IsStarved run ⊎ MeansMessage k run

-- runs from number k on, each of which begins with what the one before it left
abbrev pub AreRuns : Environ → ℕ → List Run → View → View → Type 0
AreRuns env k [] before after = after ≡ before
AreRuns env k (run ∷ runs) before after =
    IsRun env k run × (run.before ≡ before) × AreRuns env (k + 1) runs run.after after

-- the entries of all runs, in order
abbrev pub all_entries : List Run → List Entry
all_entries [] = []
all_entries (run ∷ runs) = run.entries ++ all_entries runs

-- the first runs of a trial, as many as this, ended with status 0
pub record Delivered (env : Environ) (number : ℕ) (before after : View) : Type 0 where
  pub runs : List Run
  pub in_order : AreRuns env 0 runs before after
  pub as_many : length runs ≡ number
  pub succeeded : All (λ run. run.status ≡ 0) runs
