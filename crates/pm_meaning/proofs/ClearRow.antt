-- A worked run in which nothing stands in the way: a mail filter that writes each mail to standard output.
use Rattle.std.proofs.Common.{◌≡◌, inl, inr, ℕ, zero, suc, Bool, true, false, List, [], ◌∷◌, ◌++◌, Option, Some, None, refl, sym, ap, ◌∙◌, subst}
use Rattle.std.specs.Prelude.{codes, length}
use Rattle.pm_bytes.specs.declared.environment.Environ.{Environ}
use Rattle.pm_message.specs.Split.{split_of}
use Rattle.pm_message.specs.declared.renewal.Renew.TheVariants.{Keep}
use Rattle.pm_journal.specs.Plan.{Plays}
use Rattle.pm_journal.specs.Walking.{reach, Means, ArrivesAt}
use Rattle.pm_journal.specs.declared.acts.Act.{Act}
use Rattle.pm_journal.specs.declared.acts.Act.TheVariants.{ReadFile, WriteOut}
use Rattle.pm_journal.specs.declared.acts.Entry.{Entry}
use Rattle.pm_journal.specs.declared.acts.Reply.{Reply}
use Rattle.pm_journal.specs.declared.acts.Reply.TheVariants.{Content, Wrote}
use Rattle.pm_journal.proofs.WalkJoin.{never_some}
use Rattle.pm_meaning.specs.Delivering.{no_flags}
use Rattle.pm_meaning.specs.Destinations.{destination_of, full_of}
use Rattle.pm_meaning.specs.FirstValues.{first_process}
use Rattle.pm_meaning.specs.Minds.{Mind}
use Rattle.pm_meaning.specs.ProgramActions.{fed_piece}
use Rattle.pm_meaning.specs.declared.process.End.TheVariants.{Delivered}
use Rattle.pm_meaning.specs.Completeness.{IsContent, FoundFolder, IsClear}
use Rattle.pm_meaning.specs.Courses.{Others, Course, now_at, advance, run_of}
use Rattle.pm_meaning.specs.Running.{Running}
use Rattle.pm_meaning.specs.declared.command_line.CommandLine.{CommandLine}
use Rattle.pm_meaning.specs.declared.ending.Ending.{Ending}
use Rattle.pm_meaning.proofs.DefaultDelivered.{found_rest}

-- procmail -m rc
abbrev words : CommandLine
words = record { filter = true; fails_softly = false; renew = Keep; arguments = []; values = []; rcfiles = codes "rc" ∷ [] }

-- without a variable
abbrev bare : Environ
bare = record { vars = []; pid = 1; host_name = codes "mail" }

abbrev noted : Act → Reply → Entry
noted act reply = record { act = act; reply = reply; before = record { host = 0; out = 0; err = 0 }; after = record { host = 0; out = 0; err = 0 } }

-- what standard output gets
abbrev written : List ℕ → List ℕ
written mail = fed_piece no_flags (first_process true false [] bare (split_of mail))

-- the rcfile is read, the mail is written, and then these come
abbrev noted_then : List ℕ → List Entry → List Entry
noted_then mail later = noted (ReadFile (codes "rc")) (Content (codes ":0\n|\n")) ∷ noted (WriteOut (written mail)) Wrote ∷ later

abbrev noted_of : List ℕ → List Entry
noted_of mail = noted_then mail []

-- the mail was delivered
abbrev delivered : Ending
delivered = record { end = Delivered; status = 0 }

delivered_row : (mail : List ℕ) → Means advance (run_of words bare mail) (noted_of mail) delivered
delivered_row mail = record { steps = 9; plays = (refl, tt, (refl, tt, refl)) }

-- each of these entries has it
abbrev Each : (Entry → Type 0) → List Entry → Type 0
Each P [] = Unit {0}
Each P (e ∷ es) = P e × Each P es

each_has : (P : Entry → Type 0) (es before later : List Entry) (e : Entry) → Each P es → es ≡ before ++ e ∷ later → P e
each_has P [] [] later e all is = let h : [] ≡ e ∷ later = is in absurd (cc)
each_has P [] (b ∷ before) later e all is = let h : [] ≡ b ∷ before ++ e ∷ later = is in absurd (cc)
each_has P (x ∷ es) [] later e all is = let h : x ∷ es ≡ e ∷ later = is in let same : x ≡ e = cc in subst P same all.0
each_has P (x ∷ es) (b ∷ before) later e all is =
    let h : x ∷ es ≡ b ∷ before ++ e ∷ later = is in
    let rest : es ≡ before ++ e ∷ later = cc in
    each_has P es before later e all.1 rest

abbrev is_reading : Act → Bool
is_reading (ReadFile name) = true
is_reading other = false

-- another act reads no rcfile
reads_none : (act : Act) (reply : Reply) (name : List ℕ) → is_reading act ≡ false → act ≡ ReadFile name → IsContent reply
reads_none act reply name fails is = let e : is_reading act ≡ true = ap is_reading is in let clash : true ≡ false = sym e ∙ fails in absurd (cc)

-- where an rcfile was asked for it came
abbrev IsReadWell : Entry → Type 0
IsReadWell e = (name : List ℕ) → e.act ≡ ReadFile name → IsContent e.reply

reads_well : (mail : List ℕ) → Each IsReadWell (noted_of mail)
reads_well mail = (λ name is. tt, (λ name is. reads_none (WriteOut (written mail)) Wrote name refl is, tt))

-- the first of these entries, so many
abbrev front : ℕ → List Entry → List Entry
front zero es = []
front (suc k) [] = []
front (suc k) (e ∷ es) = e ∷ front k es

front_is : (es before later : List Entry) → es ≡ before ++ later → before ≡ front (length before) es
front_is es [] later is = refl
front_is [] (b ∷ before) later is = let h : [] ≡ b ∷ before ++ later = is in absurd (cc)
front_is (x ∷ es) (b ∷ before) later is =
    let h : x ∷ es ≡ b ∷ before ++ later = is in
    let same : b ≡ x = cc in
    let rest : es ≡ before ++ later = cc in
    let k : before ≡ front (length before) es = front_is es before later rest in
    cc

front_none : (k : ℕ) → front k [] ≡ []
front_none zero = refl
front_none (suc k) = refl

-- the process has something left to do
abbrev has_more : Option Course → Bool
has_more None = true
has_more (Some c) = elim c.at [ Running [] p ↦ false | other ↦ true ]

never_at : {c : Course} (o : Others) (p : Mind) → has_more (Some c) ≡ true → Some (now_at o (Running [] p)) ≡ Some c → ⊥
never_at {c} o p more is = let e : false ≡ has_more (Some c) = ap has_more is in let clash : false ≡ true = e ∙ more in cc

-- over these entries the run comes to where nothing is left to do
abbrev Came : List ℕ → ℕ → List Entry → Others → Mind → Type 0
Came mail n es o p = Plays (reach {X = Ending} advance n (run_of words bare mail)) es (Some (now_at o (Running [] p)))

-- after the delivery the process comes to its end
never_behind : (mail : List ℕ) (n : ℕ) (o : Others) (p : Mind) → Came mail (suc (suc (suc (suc n)))) (noted_of mail) o p → ⊥
never_behind mail zero o p h = never_at o p refl h.2.2
never_behind mail (suc zero) o p h = never_at o p refl h.2.2
never_behind mail (suc (suc zero)) o p h = never_at o p refl h.2.2
never_behind mail (suc (suc (suc zero))) o p h = never_at o p refl h.2.2
never_behind mail (suc (suc (suc (suc zero)))) o p h = never_at o p refl h.2.2
never_behind mail (suc (suc (suc (suc (suc n))))) o p h = never_some [] (now_at o (Running [] p)) h.2.2

never_came : (mail : List ℕ) (n k : ℕ) (o : Others) (p : Mind) → Came mail n (front k (noted_of mail)) o p → ⊥
never_came mail zero zero o p h = never_at o p refl h
never_came mail zero (suc k) o p h = h
never_came mail (suc zero) zero o p h = never_at o p refl h
never_came mail (suc zero) (suc k) o p h = h
never_came mail (suc (suc zero)) zero o p h = never_at o p refl h
never_came mail (suc (suc zero)) (suc k) o p h = h
never_came mail (suc (suc (suc n))) zero o p h = h
never_came mail (suc (suc (suc zero))) (suc zero) o p h = never_at o p refl h.2
never_came mail (suc (suc (suc zero))) (suc (suc k)) o p h = h.2
never_came mail (suc (suc (suc (suc n)))) (suc zero) o p h = h.2
never_came mail (suc (suc (suc (suc n)))) (suc (suc k)) o p h =
    never_behind mail n o p (subst (λ l. Came mail (suc (suc (suc (suc n)))) (noted_then mail l) o p) (front_none k) h)

-- nothing was found to be a folder
never_folder : (mail file : List ℕ) → FoundFolder file (noted_of mail) → ⊥
never_folder mail file (inl here) = here
never_folder mail file (inr (inl here)) = here
never_folder mail file (inr (inr none)) = none

clear_row : (mail : List ℕ) → IsClear (run_of words bare mail) (noted_of mail)
clear_row mail = record {
  served = (tt, (tt, tt));
  read = λ before later e o name names p is comes filter act. each_has IsReadWell (noted_of mail) before later e (reads_well mail) is name act;
  named = λ before later p is comes.
      let arrives : ArrivesAt {X = Ending} advance (run_of words bare mail) before (now_at comes.0 (Running [] p)) = comes.2 in
      absurd (never_came mail arrives.steps (length before) comes.0 p
      (subst (λ l. Came mail arrives.steps l comes.0 p) (front_is (noted_of mail) before later is) arrives.plays));
  prefixed = λ before later mailbox others p is comes found.
      let file = full_of p.base (destination_of mailbox) in
      absurd (never_folder mail file (subst (λ l. FoundFolder file l) (sym is) (found_rest file before later found)));
}
