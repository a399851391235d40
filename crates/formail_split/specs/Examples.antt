-- Short mailboxes and their mails, and what some children come to.
use Rattle.std.specs.Prelude.{◌≡◌, ℕ, pos, true, Some, None, List, [], ◌∷◌, codes}
use Rattle.pm_journal.specs.declared.acts.Reply.{Reply}
use Rattle.pm_journal.specs.declared.acts.Reply.TheVariants.{Ended, NotStarted, Broken}
use Rattle.formail_edit.specs.Examples.{plain, put, rename}
use Rattle.formail_edit.specs.declared.edits.Edits.{Edits}
use Rattle.formail_edit.specs.declared.edits.PutKind.TheVariants.{Always}
use Rattle.formail_split.specs.Children.{edited_at}
use Rattle.formail_split.specs.Feeding.{ChildRun, worst_of}
use Rattle.formail_split.specs.Parts.{parts_of, selected, first_of, after_last_of}
use Rattle.formail_split.specs.Written.{WriteMails}
use Rattle.formail_split.specs.declared.feeding.Outcome.{Outcome}
use Rattle.formail_split.specs.declared.feeding.Outcome.TheVariants.{Fine, Amiss, Failed}

abbrev pub two_mails : List ℕ
two_mails = codes "From a\nA: 1\n\nx\n\nFrom b\nB: 2\n\ny\n"

abbrev pub abc : List (List ℕ)
abc = codes "a" ∷ codes "b" ∷ codes "c" ∷ []

-- the mails of what is written of a text, where no line `From ` is put in front
abbrev pub written : Edits → List ℕ → List (List ℕ)
written edits text = parts_of (edited_at (pos 0) edits text)

abbrev pub forged : List ℕ
forged = codes "From a\n\nFrom b\n\n\nFrom c\n"

-- the worst that two children came to, each of which was given one byte
abbrev pub run : Reply → ChildRun
run reply = record { reply = reply; calls = [] }

abbrev pub worst : Reply → Reply → Outcome
worst first second = worst_of (codes "a" ∷ codes "b" ∷ []) (run first ∷ run second ∷ [])

-- the child took its byte and ended with this code
abbrev pub exits : ℕ → Reply
exits code = Ended code 1 []

-- what holds of them
pub record Examples : Type 0 where
  -- a mail begins at each line `From ` that follows an empty line, and at the front
  pub two : parts_of two_mails ≡ codes "From a\nA: 1\n\nx\n\n" ∷ codes "From b\nB: 2\n\ny\n" ∷ []
  pub empty_bodies : parts_of (codes "From a\n\nFrom b\n\n") ≡ codes "From a\n\n" ∷ codes "From b\n\n" ∷ []
  pub none : parts_of [] ≡ []
  pub one : parts_of (codes "A: 1") ≡ codes "A: 1" ∷ []
  pub inside_a_body : parts_of (codes "From a\n\nFrom\nx\nFrom y\n") ≡ codes "From a\n\nFrom\nx\nFrom y\n" ∷ []
  pub other_case : parts_of (codes "From a\n\nfrom b\n") ≡ codes "From a\n\nfrom b\n" ∷ []
  pub blank_line_is_not_empty : parts_of (codes "From a\n \nFrom b\n") ≡ codes "From a\n \nFrom b\n" ∷ []
  pub after_an_empty_line : parts_of (codes "\nFrom x\n\n\nFrom y")
      ≡ codes "\n" ∷ codes "From x\n\n\n" ∷ codes "From y" ∷ []
  pub without_line_in_front : parts_of (codes "A: 1\n\nb\n\nFrom x\n") ≡ codes "A: 1\n\nb\n\n" ∷ codes "From x\n" ∷ []
  -- `+N` and `-N`
  pub all : selected 0 None abc ≡ abc
  pub second_alone : selected 1 (Some 1) abc ≡ codes "b" ∷ []
  pub first_two : selected 0 (Some 2) abc ≡ codes "a" ∷ codes "b" ∷ []
  pub but_the_first : selected 1 None abc ≡ codes "b" ∷ codes "c" ∷ []
  pub more_than_there_are : selected 2 (Some 9) abc ≡ codes "c" ∷ []
  pub past_the_end : selected 9 (Some 1) abc ≡ []
  pub at_most_none : selected 1 (Some 0) abc ≡ []
  pub first_place : first_of 2 9 ≡ 2
  pub last_place : after_last_of 2 9 None ≡ 2
  -- what is given to a child
  pub edited_part : edited_at (pos 0) plain (codes "From a\n\nFrom b\n") ≡ codes "From a\n\n>From b\n\n"
  pub dated_part : edited_at (pos 86_405) plain (codes "A: 1\n\n")
      ≡ codes "From unknown Fri Jan  2 00:00:05 1970\nA: 1\n\n"
  -- without options whole mails are written
  pub usual : WriteMails plain
  pub nothing_forged : written plain forged ≡ codes "From a\n\n>From b\n\n\n>From c\n\n" ∷ []
  pub part_of_the_sign : written (record plain { prefix = codes "From" }) forged
      ≡ codes "From a\n\nFromFrom b\n\n\nFromFrom c\n\n" ∷ []
  -- and else a text can forge a mail
  pub with_an_empty_prefix : written (record plain { prefix = [] }) forged
      ≡ codes "From a\n\n" ∷ codes "From b\n\n\n" ∷ codes "From c\n\n" ∷ []
  pub with_a_sign_for_prefix : written (record plain { prefix = codes "From x" }) (codes "From a\n\nFrom b\n")
      ≡ codes "From a\n\n" ∷ codes "From xFrom b\n\n" ∷ []
  pub with_a_newline_in_the_prefix : written (record plain { prefix = codes "\n" }) (codes "From a\n\nFrom b\n")
      ≡ codes "From a\n\n\n" ∷ codes "From b\n\n" ∷ []
  pub with_the_body_kept : written (record plain { keep_body = true }) (codes "From a\n\nFrom b\n")
      ≡ codes "From a\n\n" ∷ codes "From b\n\n" ∷ []
  pub with_an_empty_line_in_a_field :
      written (record plain { puts = put Always (codes "A: 1\n\nFrom b") ∷ [] }) (codes "From a\n\nx\n")
      ≡ codes "From a\nA: 1\n\n" ∷ codes "From b\n\nx\n\n" ∷ []
  pub with_an_empty_line_in_a_name :
      written (record plain { renames = rename (codes "A:") (codes "B: 1\n\nFrom b\nC:") ∷ [] }) (codes "From a\nA: 1\n\nx\n")
      ≡ codes "From a\nB: 1\n\n" ∷ codes "From b\nC: 1\n\nx\n\n" ∷ []
  -- the worst that children came to
  pub of_none : worst_of [] [] ≡ Fine
  pub both_right : worst (exits 0) (exits 0) ≡ Fine
  pub second_code : worst (exits 0) (exits 3) ≡ Amiss
  pub first_code : worst (exits 1) (exits 0) ≡ Amiss
  pub both_codes : worst (exits 1) (exits 2) ≡ Amiss
  pub code_of_a_signal : worst (exits 137) (exits 0) ≡ Amiss
  pub closed_early : worst (Ended 0 0 []) (exits 0) ≡ Amiss
  pub first_not_started : worst NotStarted (exits 0) ≡ Failed
  pub second_not_started : worst (exits 0) NotStarted ≡ Failed
  pub not_started_and_code : worst NotStarted (exits 1) ≡ Failed
  pub code_and_not_started : worst (exits 1) NotStarted ≡ Failed
  pub broken : worst (exits 0) (Broken 1) ≡ Failed
