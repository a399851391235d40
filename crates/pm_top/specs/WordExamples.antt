-- Command lines, form by form (procmail(1)).
use Rattle.std.specs.Prelude.{ℕ, List, [], ◌∷◌, ◌≡◌, Option, Some, None, true, codes}
use Rattle.pm_bytes.specs.declared.environment.Pair.{Pair}
use Rattle.pm_meaning.specs.declared.command_line.CommandLine.{CommandLine}
use Rattle.pm_message.specs.declared.renewal.Renew.TheVariants.{Date, Keep, Sender}
use Rattle.pm_top.specs.Words.{asked, no_words}
use Rattle.pm_top.specs.declared.place.Next.TheVariants.{Any}

-- what words ask for, if they are read
abbrev pub reads : List (List ℕ) → Option CommandLine
reads words = asked Any no_words words

-- a variable that a word sets
abbrev pub pair : List ℕ → List ℕ → Pair
pair name value = record { name = name; value = value }

-- what holds of them
pub record Examples : Type 0 where
  -- rcfiles and variables, in any order
  pub nothing : reads [] ≡ Some no_words
  pub rcfiles : reads (codes "rc" ∷ codes "A=b" ∷ codes "/rc" ∷ [])
      ≡ Some (record no_words { values = pair (codes "A") (codes "b") ∷ []; rcfiles = codes "rc" ∷ codes "/rc" ∷ [] })
  pub first_equals : reads (codes "_a1=b=c" ∷ codes "A=" ∷ []) ≡ Some (record no_words { values = pair (codes "_a1") (codes "b=c") ∷ pair (codes "A") [] ∷ [] })
  pub minus : reads (codes "-" ∷ []) ≡ Some (record no_words { rcfiles = codes "-" ∷ [] })
  pub no_name : reads (codes "=b" ∷ []) ≡ None
  pub digit_in_front : reads (codes "1=b" ∷ []) ≡ None
  pub empty_word : reads ([] ∷ []) ≡ None
  pub byte_0 : reads ((114 ∷ 0 ∷ []) ∷ []) ≡ None
  -- letters stand in groups; `-Y` and `-o` change nothing
  pub softly : reads (codes "-t" ∷ []) ≡ Some (record no_words { fails_softly = true })
  pub group : reads (codes "-Yot" ∷ codes "rc" ∷ []) ≡ Some (record no_words { fails_softly = true; rcfiles = codes "rc" ∷ [] })
  pub other_letter : reads (codes "-tx" ∷ []) ≡ None
  -- `-f`, or `-r`, has a sender, and `-f -` renews the date alone
  pub sender : reads (codes "-f" ∷ codes "a@b" ∷ []) ≡ Some (record no_words { renew = Sender (codes "a@b") })
  pub sender_after : reads (codes "-tra@b" ∷ []) ≡ Some (record no_words { fails_softly = true; renew = Sender (codes "a@b") })
  pub date : reads (codes "-f" ∷ codes "-" ∷ []) ≡ Some (record no_words { renew = Date })
  pub date_after : reads (codes "-f-" ∷ []) ≡ Some (record no_words { renew = Date })
  pub last_sender : reads (codes "-fa" ∷ codes "-fb" ∷ []) ≡ Some (record no_words { renew = Sender (codes "b") })
  pub no_sender : reads (codes "-f" ∷ []) ≡ None
  pub empty_sender : reads (codes "-f" ∷ [] ∷ []) ≡ None
  pub sender_with_blank : reads (codes "-fa b" ∷ []) ≡ None
  -- `-a` has an argument
  pub arguments : reads (codes "-a" ∷ codes "-t" ∷ codes "-ax y" ∷ []) ≡ Some (record no_words { arguments = codes "-t" ∷ codes "x y" ∷ [] })
  pub no_argument : reads (codes "-a" ∷ []) ≡ None
  -- after `--` no word is an option
  pub dashes : reads (codes "--" ∷ codes "-t" ∷ codes "--" ∷ []) ≡ Some (record no_words { rcfiles = codes "-t" ∷ codes "--" ∷ [] })
  -- a mail filter has one rcfile, and all words after it are its arguments; the mail stays as it is without `-f`
  pub filter : reads (codes "-m" ∷ codes "A=b" ∷ codes "rc" ∷ codes "x" ∷ codes "-t" ∷ codes "B=c" ∷ [])
      ≡ Some (record no_words { filter = true; renew = Keep; arguments = codes "x" ∷ codes "-t" ∷ codes "B=c" ∷ []; values = pair (codes "A") (codes "b") ∷ []; rcfiles = codes "rc" ∷ [] })
  pub filter_sender : reads (codes "-fa" ∷ codes "-m" ∷ codes "rc" ∷ []) ≡ Some (record no_words { filter = true; renew = Sender (codes "a"); rcfiles = codes "rc" ∷ [] })
  pub filter_arguments : reads (codes "-ma" ∷ codes "x" ∷ codes "rc" ∷ codes "y" ∷ [])
      ≡ Some (record no_words { filter = true; renew = Keep; arguments = codes "x" ∷ codes "y" ∷ []; rcfiles = codes "rc" ∷ [] })
  pub late_filter : reads (codes "rc" ∷ codes "x" ∷ codes "-m" ∷ codes "-t" ∷ [])
      ≡ Some (record no_words { filter = true; renew = Keep; arguments = codes "x" ∷ codes "-t" ∷ []; rcfiles = codes "rc" ∷ [] })
  pub no_rcfile : reads (codes "-m" ∷ []) ≡ None
