-- Short runs and mails, and what is printed of them.
use Rattle.std.specs.Prelude.{◌≡◌, ℕ, ℤ, true, false, pos, negsuc, List, [], ◌∷◌, ◌++◌, Some, None, codes}
use Rattle.json.specs.Print.{print}
use Rattle.json.specs.Token.{begin_object, end_object}
use Rattle.pm_journal.specs.declared.acts.Act.{Act}
use Rattle.pm_journal.specs.declared.acts.Act.TheVariants.{ReadFile, Append, SayFile, Moment}
use Rattle.pm_journal.specs.declared.acts.Entry.{Entry}
use Rattle.pm_journal.specs.declared.acts.Reply.{Reply}
use Rattle.pm_journal.specs.declared.acts.Reply.TheVariants.{Content, Done, Undone, Now}
use Rattle.pm_conds.specs.declared.observer.Note.{Note}
use Rattle.pm_conds.specs.declared.observer.Note.TheVariants.{CameTo, Judged}
use Rattle.pm_meaning.specs.declared.question.Factors.{Factors}
use Rattle.pm_meaning.specs.declared.question.Outcome.{Outcome}
use Rattle.pm_meaning.specs.declared.question.Outcome.TheVariants as outcome
use Rattle.explain_mails.specs.Went.{Went}
use Rattle.explain_mails.specs.declared.outcome.Compared.{Compared}
use Rattle.explain_mails.specs.Recipes.{came_members}
use Rattle.explain_mails.specs.Objects.{run_object, mail_object, outcome_object, comparison_object}

abbrev pub entry : Act → Reply → Entry
entry act reply = record { act = act; reply = reply; before = record { host = 0; out = 0; err = 0 }; after = record { host = 0; out = 0; err = 0 } }

-- an rcfile is read, and a mailbox gets the mail
abbrev pub run : List Entry
run = entry (ReadFile (codes "rc")) (Content (codes "abc")) ∷ entry Moment (Now (pos 1)) ∷ entry (Append (codes "box") (codes "mail")) Done ∷ []

-- Runs.
pub record OfRuns : Type 0 where
  pub whole : run_object false run [] 0
      ≡ codes "{\"steps\":[{\"act\":\"read\",\"name\":\"rc\",\"bytes\":3,\"done\":true,\"code\":0,\"text\":\"\"},{\"act\":\"append\",\"name\":\"box\",\"bytes\":4,\"done\":true,\"code\":0,\"text\":\"\"}],\"recipes\":[],\"delivered_to\":\"box\",\"status\":0}\n"
  pub quiet : run_object true run [] 0 ≡ codes "{\"delivered_to\":\"box\",\"status\":0}\n"
  pub nowhere : run_object true (entry (Append (codes "box") (codes "mail")) Undone ∷ []) [] 73 ≡ codes "{\"delivered_to\":null,\"status\":73}\n"
  pub nothing : run_object false [] [] 64 ≡ codes "{\"steps\":[],\"recipes\":[],\"delivered_to\":null,\"status\":64}\n"
  pub log : run_object false (entry (SayFile (codes "a\"b\\") (codes "1\t2\n")) Done ∷ []) [] 73
      ≡ codes "{\"steps\":[{\"act\":\"log\",\"name\":\"a\\\"b\\\\\",\"bytes\":4,\"done\":true,\"code\":0,\"text\":\"1\\t2\\n\"}],\"recipes\":[],\"delivered_to\":null,\"status\":73}\n"
  -- a byte that is no UTF-8 is U+FFFD
  pub odd_name : run_object true (entry (Append (98 ∷ 255 ∷ 120 ∷ []) (codes "mail")) Done ∷ []) [] 0
      ≡ codes "{\"delivered_to\":\"b" ++ (239 ∷ 191 ∷ 189 ∷ codes "x\",\"status\":0}\n")

abbrev pub went : List (List ℕ) → ℕ → Went
went names status = record { names = names; status = status }

abbrev pub moved : Compared
moved = record { number = 117; subject = Some (codes "[bug] crash"); old = went (codes "rest" ∷ []) 0; new = went (codes "bugs" ∷ codes "| taker" ∷ []) 0 }

abbrev pub stayed : Compared
stayed = record { number = 2; subject = None; old = went (codes "a" ∷ codes "b" ∷ []) 0; new = went (codes "b" ∷ codes "a" ∷ []) 0 }

-- Mails of a mailbox, and by two rcfiles.
pub record OfMails : Type 0 where
  pub mail : mail_object 7 (Some (codes "one")) (entry (Append (codes "box") (codes "mail")) Done ∷ []) [] 0
      ≡ codes "{\"mail\":7,\"subject\":\"one\",\"steps\":[{\"act\":\"append\",\"name\":\"box\",\"bytes\":4,\"done\":true,\"code\":0,\"text\":\"\"}],\"recipes\":[],\"delivered_to\":\"box\",\"status\":0}\n"
  pub outcome : outcome_object 7 None (went (codes "a" ∷ codes "forward b" ∷ []) 0)
      ≡ codes "{\"mail\":7,\"subject\":null,\"destinations\":[\"a\",\"forward b\"],\"status\":0}\n"
  pub lost : outcome_object 7 (Some []) (went [] 75) ≡ codes "{\"mail\":7,\"subject\":\"\",\"destinations\":[],\"status\":75}\n"
  pub comparison : comparison_object false (stayed ∷ moved ∷ [])
      ≡ codes "{\"mails\":2,\"elsewhere\":1,\"moves\":[{\"mail\":117,\"subject\":\"[bug] crash\",\"old\":{\"destinations\":[\"rest\"],\"status\":0},\"new\":{\"destinations\":[\"bugs\",\"| taker\"],\"status\":0}}]}\n"
  pub none : comparison_object false (stayed ∷ []) ≡ codes "{\"mails\":1,\"elsewhere\":0,\"moves\":[]}\n"
  pub quiet_comparison : comparison_object true (moved ∷ moved ∷ stayed ∷ []) ≡ codes "{\"mails\":3,\"elsewhere\":2}\n"

-- an rcfile with two recipes is read, and the mail is appended to a mailbox
abbrev pub judged_run : List Entry
judged_run = entry (ReadFile (codes "rc")) (Content (codes ":0\n* a\nx\n:0 E\nbox\n")) ∷ entry (Append (codes "box") (codes "mail")) Done ∷ []

-- the recipes that were come to, and the condition of the first
abbrev pub notes : List Note
notes = CameTo (codes "rc") 0 true 1 ∷ Judged outcome.Fails (pos 0) 1 ∷ CameTo (codes "rc") 1 true 1 ∷ CameTo (codes "b") 7 false 2 ∷ []

-- what a condition's object has of this
abbrev pub came : Outcome → ℤ → List ℕ
came come score = print (begin_object ∷ (came_members come score ++ end_object ∷ []))

abbrev pub weight : Factors
weight = record { w = pos 20; x = 0 }

-- Recipes and their conditions.
pub record OfRecipes : Type 0 where
  pub run : run_object false judged_run notes 0
      ≡ codes "{\"steps\":[{\"act\":\"read\",\"name\":\"rc\",\"bytes\":18,\"done\":true,\"code\":0,\"text\":\"\"},{\"act\":\"append\",\"name\":\"box\",\"bytes\":4,\"done\":true,\"code\":0,\"text\":\"\"}],\"recipes\":[{\"rcfile\":\"rc\",\"line\":1,\"text\":\":0\",\"tried\":true,\"steps\":1,\"conditions\":[{\"line\":2,\"text\":\"* a\",\"holds\":false}]},{\"rcfile\":\"rc\",\"line\":4,\"text\":\":0 E\",\"tried\":true,\"steps\":1,\"conditions\":[]},{\"rcfile\":\"b\",\"line\":null,\"text\":null,\"tried\":false,\"steps\":2,\"conditions\":[]}],\"delivered_to\":\"box\",\"status\":0}\n"
  pub quiet : run_object true judged_run notes 0 ≡ codes "{\"delivered_to\":\"box\",\"status\":0}\n"
  pub holds : came outcome.Holds (pos 0) ≡ codes "{\"holds\":true}"
  pub matched : came (outcome.Matched (codes "a")) (pos 0) ≡ codes "{\"holds\":true,\"match\":\"a\"}"
  pub counted : came (outcome.Counted weight 2 None) (pos 40) ≡ codes "{\"matches\":2,\"score\":40}"
  pub counted_match : came (outcome.Counted weight 1 (Some (codes "a"))) (negsuc 19) ≡ codes "{\"matches\":1,\"score\":-20,\"match\":\"a\"}"
  pub size : came (outcome.Compared weight true 165 1000) (pos 3) ≡ codes "{\"length\":165,\"limit\":1000,\"score\":3}"
  pub program : came (outcome.Exited weight false 3) (pos 20) ≡ codes "{\"code\":3,\"score\":20}"
  pub defect : came outcome.Defective (pos 0) ≡ codes "{\"error\":\"not a condition\"}"
  pub long : came (outcome.TooLong 3000) (pos 0) ≡ codes "{\"error\":\"value too long\",\"length\":3000}"
