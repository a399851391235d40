-- What a clone of a process has of it, and a worked run in which one goes off its host.
use Rattle.std.specs.Prelude.{◌≡◌, ℕ, false, List, [], ◌∷◌, None, codes}
use Rattle.pm_bytes.specs.declared.environment.Environ.{Environ}
use Rattle.pm_message.specs.declared.renewal.Renew.TheVariants.{AddMissing}
use Rattle.pm_recipe.specs.Tree.{Trees}
use Rattle.pm_journal.specs.Walking.{Means}
use Rattle.pm_journal.specs.declared.acts.Act.{Act}
use Rattle.pm_journal.specs.declared.acts.Act.TheVariants.{ReadFile, SayErr, WriteOut}
use Rattle.pm_journal.specs.declared.acts.Entry.{Entry}
use Rattle.pm_journal.specs.declared.acts.Reply.{Reply}
use Rattle.pm_journal.specs.declared.acts.Reply.TheVariants.{Content, Wrote}
use Rattle.pm_meaning.specs.Minds.{Mind}
use Rattle.pm_meaning.specs.declared.process.End.TheVariants.{Delivered}
use Rattle.pm_meaning.specs.Courses.{advance, run_of}
use Rattle.pm_meaning.specs.Running.{Item, clone_of}
use Rattle.pm_meaning.specs.declared.command_line.CommandLine.{CommandLine}

-- The clone has the process's options, mail, variables, directory and host name, the same rcfile in progress, the same rcfiles of the
-- command line left, its counts and LASTFOLDER, and no lock.
pub record IsClone (p clone : Mind) : Type 0 where
  pub filter : clone.filter ≡ p.filter
  pub softly : clone.fails_softly ≡ p.fails_softly
  pub mail : clone.message ≡ p.message
  pub vars : clone.vars ≡ p.vars
  pub base : clone.base ≡ p.base
  pub host : clone.host_name ≡ p.host_name
  pub rcfile : clone.rcfile ≡ p.rcfile
  pub later : clone.later ≡ p.later
  pub placed : clone.placed ≡ p.placed
  pub openings : clone.openings ≡ p.openings
  pub stored : clone.stored ≡ p.stored
  pub no_lock : clone.locks ≡ []
  pub no_global : clone.global ≡ None

-- the clone that is made for a block
abbrev pub CloneIsWhole : Type 0
CloneIsWhole = (trees : Trees) (rest : List Item) (p : Mind) → IsClone p (clone_of trees rest p).mind

-- procmail ./rc ./rc2
abbrev pub two_rcfiles : CommandLine
two_rcfiles = record {
  filter = false;
  fails_softly = false;
  renew = AddMissing;
  arguments = [];
  values = [];
  rcfiles = codes "./rc" ∷ codes "./rc2" ∷ [];
}

-- an environment without a variable, on the host `mx`
abbrev pub on_mx : Environ
on_mx = record { vars = []; pid = 1; host_name = codes "mx" }

-- a short mail
abbrev pub mail : List ℕ
mail = codes "From a@b Thu Jan  1 00:00:00 1970\nA: b\n\nhi\n"

-- no call failed in this act
abbrev pub noted : Act → Reply → Entry
noted act reply = record { act = act; reply = reply; before = record { host = 0; out = 0; err = 0 }; after = record { host = 0; out = 0; err = 0 } }

-- The process writes the mail to standard output. Then its clone, which was made before, is off its host, and goes on with the second
-- rcfile, which writes the body.
abbrev pub off_host : List Entry
off_host =
    noted (ReadFile (codes "./rc")) (Content (codes ":0 c\n{ HOST=other }\n:0\n|\n"))
    ∷ noted (WriteOut mail) Wrote
    ∷ noted (SayErr (codes "procmail: HOST mismatched \"other\"\n")) Wrote
    ∷ noted (ReadFile (codes "./rc2")) (Content (codes ":0 b\n|\n"))
    ∷ noted (WriteOut (codes "hi\n")) Wrote
    ∷ []

-- such is the run of these rcfiles
abbrev pub CloneGoesOn : Type 0
CloneGoesOn = Means advance (run_of two_rcfiles on_mx mail) off_host (record { end = Delivered; status = 0 })
