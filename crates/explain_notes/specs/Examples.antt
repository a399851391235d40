-- Short runs, and what is printed of them.
use Rattle.std.specs.Prelude.{◌≡◌, ℕ, true, false, pos, negsuc, List, [], ◌∷◌, Option, Some, None, codes}
use Rattle.pm_conds.specs.declared.observer.Note.{Note}
use Rattle.pm_conds.specs.declared.observer.Note.TheVariants.{CameTo, Judged}
use Rattle.pm_journal.specs.declared.acts.Act.{Act}
use Rattle.pm_journal.specs.declared.acts.Act.TheVariants.{ReadFile, Append, Moment}
use Rattle.pm_journal.specs.declared.acts.Entry.{Entry}
use Rattle.pm_journal.specs.declared.acts.Reply.{Reply}
use Rattle.pm_journal.specs.declared.acts.Reply.TheVariants.{Content, Done, Now}
use Rattle.pm_meaning.specs.declared.question.Factors.{Factors}
use Rattle.pm_meaning.specs.declared.question.Outcome.TheVariants.{Holds, Matched, Fails, Counted, Compared, Exited, Defective, TooLong}
use Rattle.explain_notes.specs.declared.recipe.Line.{Line}
use Rattle.explain_notes.specs.Came.{came}
use Rattle.explain_notes.specs.Explained.{explained}
use Rattle.explain_notes.specs.Lines.{told_line}
use Rattle.explain_notes.specs.declared.told.Told.{Told}
use Rattle.explain_notes.specs.declared.told.What.{What}
use Rattle.explain_notes.specs.declared.told.What.TheVariants.{Recipe, Condition}

-- a weight
abbrev pub weight : Factors
weight = record { w = pos 20; x = 0 }

-- What comes of conditions.
pub record OfCame : Type 0 where
  pub holds : came Holds (pos 0) ≡ codes "yes"
  pub fails : came Fails (pos 0) ≡ codes "no"
  pub matched : came (Matched (codes "a\tb")) (pos 0) ≡ codes "yes, MATCH is \"a b\""
  pub one : came (Counted weight 1 None) (pos 20) ≡ codes "1 match, score 20"
  pub several : came (Counted weight 2 (Some (codes "x"))) (negsuc 29) ≡ codes "2 matches, score -30, MATCH is \"x\""
  pub none : came (Counted weight 0 None) (pos 0) ≡ codes "0 matches, score 0"
  pub size : came (Compared weight true 165 1000) (pos 3) ≡ codes "165 bytes, limit 1000, score 3"
  pub program : came (Exited weight false 3) (pos 20) ≡ codes "exit status 3, score 20"
  pub defect : came Defective (pos 0) ≡ codes "not a condition"
  pub long : came (TooLong 3000) (pos 0) ≡ codes "value too long (3000 bytes)"

-- what is told of this line of `rc`
abbrev pub told : Option Line → What → Told
told line what = record { entries = 1; rcfile = codes "rc"; line = line; what = what }

-- a line with its number
abbrev pub line : ℕ → List ℕ → Option Line
line number text = Some (record { number = number; text = text })

-- a recipe that its flags don't admit
abbrev pub untried : List ℕ → List ℕ
untried text = told_line (told (line 33 text) (Recipe 4 false))

-- The lines of recipes and conditions.
pub record OfLines : Type 0 where
  pub recipe : told_line (told (line 6 (codes ":0 fw: spam.lock")) (Recipe 2 true)) ≡ codes "rc:6   :0 fw: spam.lock\n"
  pub unknown : told_line (told None (Recipe 2 true)) ≡ codes "rc     recipe at place 2\n"
  pub after_match : untried (codes ":0 A") ≡ codes "rc:33  :0 A                                  not tried: the last recipe without A or a didn't match\n"
  pub after_success : untried (codes ":0 a")
      ≡ codes "rc:33  :0 a                                  not tried: the last recipe without A or a didn't match, or the one before didn't succeed\n"
  pub otherwise : untried (codes ":0E:") ≡ codes "rc:33  :0E:                                  not tried: a recipe before it was executed\n"
  pub on_error : untried (codes ":0 e") ≡ codes "rc:33  :0 e                                  not tried: the recipe before it didn't fail\n"
  pub several_flags : untried (codes ":0 AE") ≡ codes "rc:33  :0 AE                                 not tried\n"
  pub condition : told_line (told (line 7 (codes "* < 256000")) (Condition Holds (pos 0))) ≡ codes "  rc:7   * < 256000                          yes\n"
  pub joined : told_line (told (line 1234 (codes "* a\\\n  b")) (Condition Fails (pos 0))) ≡ codes "  rc:1234 * a\\   b                            no\n"
  pub long : told_line (told (line 7 (codes "* ^Subject:.*a long text of a condition")) (Condition Fails (pos 0)))
      ≡ codes "  rc:7   * ^Subject:.*a long text of a condition  no\n"
  pub no_line : told_line (told None (Condition Fails (pos 0))) ≡ codes "  rc     condition                           no\n"

-- an act with its reply
abbrev pub entry : Act → Reply → Entry
entry act reply = record { act = act; reply = reply; before = record { host = 0; out = 0; err = 0 }; after = record { host = 0; out = 0; err = 0 } }

-- an rcfile with two recipes is read, and the mail is appended to a mailbox
abbrev pub entries : List Entry
entries = entry Moment (Now (pos 1)) ∷ entry (ReadFile (codes "rc")) (Content (codes ":0\n* a\nx\n:0\n* b\n* c\nbox\n")) ∷ entry (Append (codes "box") (codes "mail")) Done ∷ []

-- the recipes that were come to, and their conditions
abbrev pub notes : List Note
notes = CameTo (codes "rc") 0 true 2 ∷ Judged Fails (pos 0) 2 ∷ CameTo (codes "rc") 1 true 2 ∷ Judged Holds (pos 0) 2 ∷ Judged Holds (pos 0) 2 ∷ []

-- Whole runs.
pub record OfShown : Type 0 where
  pub run : explained entries notes 0
      ≡ codes "  read rc: 24 bytes\nrc:1   :0\n  rc:2   * a                                 no\nrc:4   :0\n  rc:5   * b                                 yes\n  rc:6   * c                                 yes\n  append 4 bytes to box\ndelivered to box, status 0. Nothing was changed.\n"
  pub unread : explained [] (CameTo (codes "rc") 0 true 0 ∷ Judged Fails (pos 0) 0 ∷ []) 73
      ≡ codes "rc     recipe at place 0\n  rc     condition                           no\nnot delivered, status 73. Nothing was changed.\n"
