-- Where memory was wanting after an attempt, the mail wasn't delivered, but for what hinders.
use Rattle.std.proofs.Common.{◌≡◌, ◌⊎◌, inl, inr, Bool, true, false, List, ℕ, [], ◌∷◌, ◌++◌, Option, Some, None, Result, Ok, Err, OnErr, length, refl, sym, ap, ◌∙◌, subst, append_assoc}
use Rattle.std.specs.Prelude.{◌&&◌, ◌||◌, not, nat_lt, codes, if◌then◌else◌}
use Rattle.pm_recipe.specs.declared.tree.Flags.{Flags}
use Rattle.pm_journal.specs.JournalState.{JournalState}
use Rattle.pm_journal.specs.Entries.{View}
use Rattle.pm_journal.specs.Executed.{OutOfMemory}
use Rattle.pm_journal.specs.Outcomes.{run_end}
use Rattle.pm_journal.specs.Plan.{Plan, Ends, Asks, and_then, Plays}
use Rattle.pm_journal.specs.declared.acts.Act.{Act}
use Rattle.pm_journal.specs.declared.acts.Act.TheVariants.{Append, Run, WriteOut, Moment}
use Rattle.pm_journal.specs.declared.acts.Reply.{Reply}
use Rattle.pm_journal.specs.declared.acts.Reply.TheVariants.{Done as ReplyDone, Held}
use Rattle.pm_journal.specs.declared.acts.Entry.{Entry}
use Rattle.pm_journal.specs.declared.placing.FolderKind.{FolderKind}
use Rattle.pm_journal.proofs.WalkJoin.{parts_of}
use Rattle.pm_meaning.specs.Abstracts.{copy_lines, logs_all, abstract_of}
use Rattle.pm_meaning.specs.Delivering.{Filing, Attempted, is_without, is_stored, line_if, filed_lines, attempt_lines, appended_by, in_folder, file_as, file_one, file_all, give_back, under_lock, attempt}
use Rattle.pm_meaning.specs.Locks.{is_fault, with_lock}
use Rattle.pm_meaning.specs.Minds.{Mind}
use Rattle.pm_meaning.specs.ProgramActions.{Tried, Trying, is_fine, fed, filter_mail, capture, write_outcome, stored_if, outcome_lines, trial_lines, unlock_after, try_locked, try_under}
use Rattle.pm_meaning.specs.declared.process.Attempt.TheVariants.{Unlocked as AttemptUnlocked}
use Rattle.pm_meaning.specs.declared.process.Destination.{Destination}
use Rattle.pm_meaning.specs.declared.process.Filed.{Filed}
use Rattle.pm_meaning.specs.declared.process.Filed.TheVariants.{Stored}
use Rattle.pm_meaning.specs.declared.process.Outcome.{Outcome}
use Rattle.pm_meaning.specs.declared.process.Outcome.TheVariants.{Done}
use Rattle.pm_meaning.specs.declared.process.Trial.TheVariants.{Unlocked}
use Rattle.pm_perform.specs.Filing.{is_folder_there, is_folder_met, met_folder, HasNone}
use Rattle.pm_perform.proofs.FoundLemmas.{Grown}
use Rattle.pm_perform.specs.Errands.{IsWork, is_for_good}
use Rattle.pm_perform.specs.Undelivered.{is_done, is_forced, delivers, hinders, any_delivers, any_hinders, Undelivered}
use Rattle.pm_perform.specs.declared.errands.Errand.{Errand}
use Rattle.pm_perform.specs.declared.errands.Errand.TheVariants.{Feed, Filter, Capture, Write}
use Rattle.pm_perform.proofs.CalmLemmas.{Calm, IsCalm, or_none, or_first, or_second, any_none, any_front, any_back, calm_plays, calm_out, calm_under, calm_sure, sure_none}

-- lines in two parts
pub without_front : (first rest : List (List ℕ)) → is_without first ≡ false → is_without (first ++ rest) ≡ false
without_front [] rest h = let f : true ≡ false = h in absurd (cc)
without_front (line ∷ lines) rest h = refl

pub without_back : (first rest : List (List ℕ)) → is_without rest ≡ false → is_without (first ++ rest) ≡ false
without_back [] rest h = h
without_back (line ∷ lines) rest h = refl

pub err_both : {T E : Type 0} (r : Result T E) (P Q S : Type 0) → (P → Q → S) → OnErr r P → OnErr r Q → OnErr r S
err_both (Ok x) P Q S f h k = tt
err_both (Err e) P Q S f h k = f h k

either : (b : Bool) → (b ≡ true) ⊎ (b ≡ false)
either true = inl refl
either false = inr refl

-- an outcome of which nothing is told
fine_lines : (flags : Flags) (line : List ℕ) (o : Outcome) → is_fine o ≡ true → outcome_lines flags line o ≡ []
fine_lines flags line Done h = refl
fine_lines flags line other h = let f : false ≡ true = h in absurd (cc)

no_line : (b : Bool) (line : List ℕ) → b ≡ false → line_if b line ≡ []
no_line b line h = ap (λ v. line_if v line) h

three_none : (first second third : List (List ℕ)) → first ≡ [] → second ≡ [] → third ≡ [] → (first ++ second) ++ third ≡ []
three_none first second third e f h = ap (λ l. (l ++ second) ++ third) e ∙ (ap (λ l. ([] ++ l) ++ third) f ∙ h)

ends_so : {R : Type 0} (r : R) (es : List Entry) (end : R) → Plays (Ends r) es end → end ≡ r
ends_so r [] end h = h
ends_so r (e ∷ es) end h = absurd h

-- an act that delivers where its outcome is fine: nothing is told then, or nothing was delivered
abbrev Quiet : Flags → List Entry → List (List ℕ) → Type 0
Quiet flags es lines = (any_delivers flags es ≡ false) ⊎ (lines ≡ [])

one_calm : (flags : Flags) (e : Entry) (act : Act) (o : Outcome) → e.act ≡ act → delivers flags act e.reply ≡ is_fine o → is_fine o ≡ false → delivers flags e.act e.reply ≡ false
one_calm flags e act o is agrees fails = ap (λ a. delivers flags a e.reply) is ∙ (agrees ∙ fails)

free_quiet : (flags : Flags) (act : Act) (g : Reply → Tried) (line : List ℕ) (es : List Entry) (done : Trying) → ((reply : Reply) → delivers flags act reply ≡ is_fine (g reply).outcome)
    → Plays (Asks act (λ reply. Ends (record { trial = Unlocked (g reply).outcome; mind = (g reply).mind }))) es done → Quiet flags es (trial_lines flags line done.trial)
free_quiet flags act g line [] done agrees h = absurd h
free_quiet flags act g line (e ∷ (f ∷ fs)) done agrees h = absurd h.2
free_quiet flags act g line (e ∷ []) done agrees h =
    let o = (g e.reply).outcome in
    elim (either (is_fine o)) [
      | inl fine ↦ inr (ap (λ (d : Trying). trial_lines flags line d.trial) h.2 ∙ fine_lines flags line o fine)
      | inr fails ↦ inl (or_none (delivers flags e.act e.reply) false (one_calm flags e act o h.0 (agrees e.reply) fails) refl)
    ]

-- it was tried under one that was got
held_quiet : (flags : Flags) (act : Act) (g : Reply → Tried) (name line : List ℕ) (forced : ℕ) (es : List Entry) (done : Trying) → ((reply : Reply) → delivers flags act reply ≡ is_fine (g reply).outcome)
    → Plays (Asks act (λ reply. unlock_after name forced (g reply))) es done → nat_lt 0 forced ≡ false → any_hinders es ≡ false → Quiet flags es (trial_lines flags line done.trial)
held_quiet flags act g name line forced [] done agrees h unforced free = absurd h
held_quiet flags act g name line forced (e ∷ []) done agrees h unforced free = absurd h.2
held_quiet flags act g name line forced (e ∷ (f ∷ (k ∷ ks))) done agrees h unforced free = absurd h.2.2
held_quiet flags act g name line forced (e ∷ (f ∷ [])) done agrees h unforced free =
    let o = (g e.reply).outcome in
    let second : (hinders f.act f.reply || false) ≡ false = or_second (hinders e.act e.reply) (hinders f.act f.reply || false) free in
    let gone : is_fault f.reply ≡ false = ap (λ a. hinders a f.reply) (sym h.2.0) ∙ or_first (hinders f.act f.reply) false second in
    elim (either (is_fine o)) [
      | inl fine ↦ inr (ap (λ (d : Trying). trial_lines flags line d.trial) h.2.2 ∙ three_none _ (outcome_lines flags line o) _ (no_line (nat_lt 0 forced) _ unforced) (fine_lines flags line o fine) (no_line (is_fault f.reply) _ gone))
      | inr fails ↦ inl (or_none (delivers flags e.act e.reply) (delivers flags f.act f.reply || false) (one_calm flags e act o h.0 (agrees e.reply) fails)
          (or_none (delivers flags f.act f.reply) false (ap (λ a. delivers flags a f.reply) h.2.0) refl))
    ]

locked_quiet : (flags : Flags) (work : Mind → Plan Tried) (act : Act) (g : Mind → Reply → Tried) (name line : List ℕ) (p : Mind) (reply : Reply) (es : List Entry) (done : Trying)
    → ((q : Mind) → work q ≡ Asks act (λ r. Ends (g q r))) → ((q : Mind) (r : Reply) → delivers flags act r ≡ is_fine (g q r).outcome)
    → Plays (try_locked name work p reply) es done → is_forced reply ≡ false → any_hinders es ≡ false → Quiet flags es (trial_lines flags line done.trial)
locked_quiet flags work act g name line p (Held sleeps forced) es done is agrees h unforced free =
    let q = with_lock name p in
    held_quiet flags act (g q) name line forced es done (agrees q) (subst (λ w. Plays (and_then w (unlock_after name forced)) es done) (is q) h) unforced free
locked_quiet flags work act g name line p other [] done is agrees h unforced free = inl refl
locked_quiet flags work act g name line p other (e ∷ es) done is agrees h unforced free = absurd h

-- where nothing hinders, nothing is told of what was tried, or nothing was delivered
pub tried_quiet : (flags : Flags) (work : Mind → Plan Tried) (act : Act) (g : Mind → Reply → Tried) (line : List ℕ) (lock : Option (List ℕ)) (p : Mind) (es : List Entry) (done : Trying)
    → ((q : Mind) → work q ≡ Asks act (λ r. Ends (g q r))) → ((q : Mind) (r : Reply) → delivers flags act r ≡ is_fine (g q r).outcome)
    → Plays (try_under lock work p) es done → any_hinders es ≡ false → Quiet flags es (trial_lines flags line done.trial)
tried_quiet flags work act g line None p es done is agrees h free =
    let last : Tried → Plan Trying = λ t. Ends (record { trial = Unlocked t.outcome; mind = t.mind }) in
    free_quiet flags act (g p) line es done (agrees p) (subst (λ w. Plays (and_then w last) es done) (is p) h)
tried_quiet flags work act g line (Some name) p [] done is agrees h free = absurd h
tried_quiet flags work act g line (Some name) p (e ∷ es) done is agrees h free =
    let unforced : is_forced e.reply ≡ false = ap (λ a. hinders a e.reply) (sym h.0) ∙ or_first (hinders e.act e.reply) (any_hinders es) free in
    let taken : delivers flags e.act e.reply ≡ false = ap (λ a. delivers flags a e.reply) h.0 in
    elim (locked_quiet flags work act g name line p e.reply es done is agrees h.2 unforced (or_second (hinders e.act e.reply) (any_hinders es) free)) [
      | inl none ↦ inl (or_none (delivers flags e.act e.reply) (any_delivers flags es) taken none)
      | inr said ↦ inr said
    ]

filter_calm : (flags : Flags) (work : Mind → Plan Tried) (w : Mind → Plan Tried) → work ≡ w → ((q : Mind) → IsCalm flags (w q)) → (q : Mind) → IsCalm flags (work q)
filter_calm flags work w is calm q = subst (λ (v : Mind → Plan Tried). IsCalm flags (v q)) (sym is) (calm q)

pub errand_quiet : (flags : Flags) (errand : Errand) (work : Mind → Plan Tried) (line : List ℕ) (lock : Option (List ℕ)) (p : Mind) (es : List Entry) (done : Trying) → IsWork flags errand work
    → Plays (try_under lock work p) es done → any_hinders es ≡ false → Quiet flags es (trial_lines flags line done.trial)
errand_quiet flags (Feed command input kept) work line lock p es done is h free =
    tried_quiet flags work (Run command input false) (λ q reply. fed flags is.0 (length input) (run_end reply) q) line lock p es done (λ q. ap (λ (w : Mind → Plan Tried). w q) is.2) (λ q reply. refl) h free
errand_quiet flags (Write piece kept) work line lock p es done is h free =
    tried_quiet flags work (WriteOut piece) (λ q reply. record { outcome = write_outcome reply; mind = stored_if (write_outcome reply) (codes "|") (length piece) q }) line lock p es done (λ q. ap (λ (w : Mind → Plan Tried). w q) is.1) (λ q reply. refl) h free
errand_quiet flags (Filter command input) work line lock p es done is h free =
    inl (calm_plays flags (try_under lock work p) es done (calm_under flags lock work p (filter_calm flags work (filter_mail flags command input) is (λ q reply. (refl, tt)))) h)
errand_quiet flags (Capture command input name) work line lock p es done is h free =
    inl (calm_plays flags (try_under lock work p) es done (calm_under flags lock work p (filter_calm flags work (capture flags name command input) is (λ q reply. (refl, tt)))) h)

-- memory was wanting while it was tried
pub errand_sure : (flags : Flags) (errand : Errand) (work : Mind → Plan Tried) (lock : Option (List ℕ)) (p : Mind) (x y : JournalState) (a b : View) → IsWork flags errand work
    → (is_for_good errand ≡ true → y.entries ≡ x.entries) → OutOfMemory (try_under lock work p) x y a b → Undelivered flags x y
errand_sure flags (Feed command input kept) work lock p x y a b is same out = sure_none flags x y (same refl)
errand_sure flags (Write piece kept) work lock p x y a b is same out = sure_none flags x y (same refl)
errand_sure flags (Filter command input) work lock p x y a b is same out =
    calm_sure flags x y (calm_out flags (try_under lock work p) x y a b (calm_under flags lock work p (filter_calm flags work (filter_mail flags command input) is (λ q reply. (refl, tt)))) out)
errand_sure flags (Capture command input name) work lock p x y a b is same out =
    calm_sure flags x y (calm_out flags (try_under lock work p) x y a b (calm_under flags lock work p (filter_calm flags work (capture flags name command input) is (λ q reply. (refl, tt)))) out)

-- mailboxes and folders
stored_by : (flags : Flags) (name : List ℕ) (stored p : Mind) (reply : Reply) (es : List Entry) (f : Filing) → Plays (appended_by flags name stored p reply) es f → not (is_done reply) ≡ false → is_stored f.filed ≡ true
stored_by flags name stored p ReplyDone es f h free = ap (λ (g : Filing). is_stored g.filed) (ends_so _ es f h)
stored_by flags name stored p other es f h free = let e : true ≡ false = free in absurd (cc)

stored_if_done : (b : Bool) (flags : Flags) (name piece : List ℕ) (stored p : Mind) (es : List Entry) (f : Filing)
    → Plays (if b then Ends (record { filed = Stored; mind = stored }) else Asks (Append name piece) (appended_by flags name stored p)) es f → any_hinders es ≡ false → is_stored f.filed ≡ true
stored_if_done true flags name piece stored p es f h free = ap (λ (g : Filing). is_stored g.filed) (ends_so _ es f h)
stored_if_done false flags name piece stored p [] f h free = absurd h
stored_if_done false flags name piece stored p (e ∷ es) f h free =
    stored_by flags name stored p e.reply es f h.2 (ap (λ a. hinders a e.reply) (sym h.0) ∙ or_first (hinders e.act e.reply) (any_hinders es) free)

-- to file in a folder the moment is asked
folder_hinders : (kind : FolderKind) (folder prefix piece : List ℕ) (p : Mind) (es : List Entry) (f : Filing) → Plays (in_folder kind folder prefix piece p) es f → any_hinders es ≡ false → is_stored f.filed ≡ true
folder_hinders kind folder prefix piece p [] f h free = absurd h
folder_hinders kind folder prefix piece p (e ∷ es) f h free =
    let met : true ≡ false = ap (λ a. hinders a e.reply) (sym h.0) ∙ or_first (hinders e.act e.reply) (any_hinders es) free in absurd (cc)

one_stored : (kind : Option FolderKind) (flags : Flags) (name : List ℕ) (p : Mind) (es : List Entry) (f : Filing) → Plays (file_as kind flags name p) es f → any_hinders es ≡ false → is_stored f.filed ≡ true
one_stored None flags name p es f h free = stored_if_done _ flags _ _ _ p es f h free
one_stored (Some kind) flags name p es f h free = folder_hinders kind _ _ _ p es f h free

all_stored : (flags : Flags) (ds : List Destination) (p : Mind) (es : List Entry) (f : Filing) → Plays (file_all flags ds p) es f → any_hinders es ≡ false → is_stored f.filed ≡ true
all_stored flags [] p es f h free = ap (λ (g : Filing). is_stored g.filed) (ends_so _ es f h)
all_stored flags (d ∷ ds) p es f h free =
    let next : Filing → Plan Filing = λ filing. if is_stored filing.filed then file_all flags ds filing.mind else Ends filing in
    let k = parts_of (file_one flags d p) next es f h in
    let whole : any_hinders (k.front ++ k.rest) ≡ false = ap any_hinders (sym k.whole) ∙ free in
    let first : is_stored k.middle.filed ≡ true = one_stored d.kind flags d.name p k.front k.middle k.plays_front (any_front (λ e. hinders e.act e.reply) k.front k.rest whole) in
    let rest : Plays (file_all flags ds k.middle.mind) k.rest f = subst (λ b. Plays (if b then file_all flags ds k.middle.mind else Ends k.middle) k.rest f) first k.plays_rest in
    all_stored flags ds k.middle.mind k.rest f rest (any_back (λ e. hinders e.act e.reply) k.front k.rest whole)

stored_lines : (text : List ℕ) (filed : Filed) → is_stored filed ≡ true → filed_lines text filed ≡ []
stored_lines text Stored h = refl
stored_lines text other h = let f : false ≡ true = h in absurd (cc)

given_back : (text name : List ℕ) (forced : ℕ) (filing : Filing) (es : List Entry) (done : Attempted) → Plays (give_back name forced filing) es done → nat_lt 0 forced ≡ false → is_stored filing.filed ≡ true → any_hinders es ≡ false
    → attempt_lines text done.attempt ≡ []
given_back text name forced filing [] done h unforced stored free = absurd h
given_back text name forced filing (e ∷ (f ∷ fs)) done h unforced stored free = absurd h.2
given_back text name forced filing (e ∷ []) done h unforced stored free =
    let gone : is_fault e.reply ≡ false = ap (λ a. hinders a e.reply) (sym h.0) ∙ or_first (hinders e.act e.reply) false free in
    ap (λ (d : Attempted). attempt_lines text d.attempt) h.2 ∙ three_none _ (filed_lines text filing.filed) _ (no_line (nat_lt 0 forced) _ unforced) (stored_lines text filing.filed stored) (no_line (is_fault e.reply) _ gone)

under_quiet : (flags : Flags) (text name : List ℕ) (ds : List Destination) (p : Mind) (reply : Reply) (es : List Entry) (done : Attempted) → Plays (under_lock name flags ds p reply) es done → is_forced reply ≡ false → any_hinders es ≡ false
    → Quiet flags es (attempt_lines text done.attempt)
under_quiet flags text name ds p (Held sleeps forced) es done h unforced free =
    let q = with_lock name p in
    let k = parts_of (file_all flags ds q) (give_back name forced) es done h in
    let whole : any_hinders (k.front ++ k.rest) ≡ false = ap any_hinders (sym k.whole) ∙ free in
    let stored = all_stored flags ds q k.front k.middle k.plays_front (any_front (λ e. hinders e.act e.reply) k.front k.rest whole) in
    inr (given_back text name forced k.middle k.rest done k.plays_rest unforced stored (any_back (λ e. hinders e.act e.reply) k.front k.rest whole))
under_quiet flags text name ds p other [] done h unforced free = inl refl
under_quiet flags text name ds p other (e ∷ es) done h unforced free = absurd h

-- where nothing hinders, nothing is told of an attempt, or nothing was delivered
pub attempt_quiet : (flags : Flags) (text : List ℕ) (lock : Option (List ℕ)) (ds : List Destination) (p : Mind) (es : List Entry) (done : Attempted) → Plays (attempt lock flags ds p) es done → any_hinders es ≡ false
    → Quiet flags es (attempt_lines text done.attempt)
attempt_quiet flags text None ds p es done h free =
    let last : Filing → Plan Attempted = λ filing. Ends (record { attempt = AttemptUnlocked filing.filed; mind = filing.mind }) in
    let k = parts_of (file_all flags ds p) last es done h in
    let whole : any_hinders (k.front ++ k.rest) ≡ false = ap any_hinders (sym k.whole) ∙ free in
    let stored = all_stored flags ds p k.front k.middle k.plays_front (any_front (λ e. hinders e.act e.reply) k.front k.rest whole) in
    inr (ap (λ (d : Attempted). attempt_lines text d.attempt) (ends_so _ k.rest done k.plays_rest) ∙ stored_lines text k.middle.filed stored)
attempt_quiet flags text (Some name) ds p [] done h free = absurd h
attempt_quiet flags text (Some name) ds p (e ∷ es) done h free =
    let unforced : is_forced e.reply ≡ false = ap (λ a. hinders a e.reply) (sym h.0) ∙ or_first (hinders e.act e.reply) (any_hinders es) free in
    let taken : delivers flags e.act e.reply ≡ false = ap (λ a. delivers flags a e.reply) h.0 in
    elim (under_quiet flags text name ds p e.reply es done h.2 unforced (or_second (hinders e.act e.reply) (any_hinders es) free)) [
      | inl none ↦ inl (or_none (delivers flags e.act e.reply) (any_delivers flags es) taken none)
      | inr said ↦ inr said
    ]

-- a folder that was met hinders
folder_undone : (reply : Reply) → not (is_done reply) ≡ false → is_folder_there reply ≡ false
folder_undone ReplyDone h = refl
folder_undone other h = let f : true ≡ false = h in absurd (cc)

met_as : (act : Act) (reply : Reply) → hinders act reply ≡ false → is_folder_met act reply ≡ false
met_as (Append name piece) reply h = folder_undone reply h
met_as Moment reply h = h
met_as other reply h = refl

met_hinders : (e : Entry) → hinders e.act e.reply ≡ false → is_folder_met e.act e.reply ≡ false
met_hinders e h = met_as e.act e.reply h

none_met : (es : List Entry) → any_hinders es ≡ false → met_folder es ≡ false
none_met [] h = refl
none_met (e ∷ es) h = or_none (is_folder_met e.act e.reply) (met_folder es) (met_hinders e (or_first (hinders e.act e.reply) (any_hinders es) h)) (none_met es (or_second (hinders e.act e.reply) (any_hinders es) h))

pub attempt_sure : (flags : Flags) (x y : JournalState) → Grown x y → HasNone x y → Undelivered flags x y
attempt_sure flags x y grown none = record {
  more = grown.more;
  entries = grown.entries;
  none = λ final free. ap (any_delivers flags) (none grown.more grown.entries (none_met grown.more free));
}

-- after what was tried memory was wanting, though something was to be told
pub sure_told : (flags : Flags) (lines : List (List ℕ)) (x y z : JournalState) (more : List Entry) → y.entries ≡ x.entries ++ more → (any_hinders more ≡ false → Quiet flags more lines) → Calm flags y z
    → (flags.copy ≡ false → lines ≡ [] → ⊥) → Undelivered flags x z
sure_told flags lines x y z more e quiet k says = record {
  more = more ++ k.more;
  entries = k.entries ∙ (ap (λ l. l ++ k.more) e ∙ append_assoc x.entries more k.more);
  none = λ final free.
      any_none (λ e. delivers flags e.act e.reply) more k.more (elim (quiet (any_front (λ e. hinders e.act e.reply) more k.more free)) [
        | inl none ↦ none
        | inr said ↦ absurd (says final said)
      ]) k.none;
}

-- what is told
pub told_some : (lines : List (List ℕ)) → is_without lines ≡ false → lines ≡ [] → ⊥
told_some lines h e = let f : true ≡ false = sym (ap is_without e) ∙ h in cc

pub copy_some : (flags : Flags) (lines : List (List ℕ)) → flags.copy ≡ true → flags.copy ≡ false → lines ≡ [] → ⊥
copy_some flags lines h final e = let f : true ≡ false = sym h ∙ final in cc

no_copy : (done copy logs : Bool) → copy ≡ false → (done && copy && logs) ≡ false
no_copy true copy logs h = ap (λ c. c && logs) h
no_copy false copy logs h = refl

pub lines_some : (flags : Flags) (done : Bool) (q : Mind) (all first : List (List ℕ)) → all ≡ first ++ copy_lines done flags q → is_without all ≡ false → flags.copy ≡ false → first ≡ [] → ⊥
lines_some flags done q all first e h final none =
    let copies : copy_lines done flags q ≡ [] = ap (λ b. if b then abstract_of q ∷ [] else []) (no_copy done flags.copy (logs_all q) final) in
    told_some all h (e ∙ (ap (λ l. l ++ copy_lines done flags q) none ∙ copies))

pub lines_told : (flags : Flags) (done : Bool) (q : Mind) (all said first : List (List ℕ)) → all ≡ said ++ copy_lines done flags q → said ≡ first → is_without all ≡ false → flags.copy ≡ false → first ≡ [] → ⊥
lines_told flags done q all said first e is h = lines_some flags done q all first (e ∙ ap (λ l. l ++ copy_lines done flags q) is) h
