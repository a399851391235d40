-- The entries of conditions, by their notes.
use Rattle.std.proofs.Common.{◌≡◌, ◌≤◌, ◌<◌, ◌+◌, ℕ, suc, Bool, true, if◌then◌else◌, List, [], ◌∷◌, ◌++◌, length, Option, Some, None, inl, inr, refl, sym, ap, ◌∙◌, subst, arith, append_assoc, append-nil}
use Rattle.std.specs.Prelude.{ℤ, pos}
use Rattle.std.specs.List.{list_any}
use Rattle.std.proofs.lemmas.Bool.{cases_lt, lt-ltb, le-ltb}
use Rattle.std.proofs.lemmas.List.{length-append}
use Rattle.pm_conds.specs.Notes.{Counted, counted, Noted, noted_by, note_each}
use Rattle.pm_conds.specs.declared.observer.Note.{Note}
use Rattle.pm_conds.specs.declared.observer.Note.TheVariants.{Judged}
use Rattle.pm_journal.specs.Plan.{Plan, Ends, Asks, Plays}
use Rattle.pm_journal.specs.declared.acts.Entry.{Entry}
use Rattle.pm_journal.proofs.WalkJoin.{parts_of}
use Rattle.pm_meaning.specs.Evaluating.{course_of, judged_one, is_weighted}
use Rattle.pm_meaning.specs.Judging.{Come, comes_of, with_table}
use Rattle.pm_meaning.specs.Minds.{Mind}
use Rattle.pm_meaning.specs.declared.question.Judgement.{Judgement}
use Rattle.pm_meaning.specs.declared.question.Outcome.{Outcome}
use Rattle.pm_recipe.specs.declared.tree.Condition.{Condition}
use Rattle.pm_recipe.specs.declared.tree.Flags.{Flags}
use Rattle.pm_vars.specs.Table.{Table}
use Rattle.explain_run.proofs.Stays.{skip}
use Rattle.explain_run.specs.Heard.{is_of_condition}
use Rattle.explain_run.specs.Laws.{AllBefore, FindsConditions, LeavesActions}

-- after these notes others came, which find the entries from one number up to another, and no later ones
record Found (notes : List Note) (n m : ℕ) (all : List Note) : Type 0 where
  new : List Note
  whole : all ≡ notes ++ new
  finds : (after : List Note) (index : ℕ) → n ≤ index → index < m → is_of_condition (new ++ after) index ≡ true
  leaves : (index : ℕ) → m ≤ index → AllBefore new index

-- a plan after so many entries ends with their number
counted_end : {R : Type 0} (n : ℕ) (plan : Plan R) (es : List Entry) (end : Counted R) → Plays (counted n plan) es end → end.entries ≡ n + length es
counted_end n (Ends r) [] end h =
    let none : n ≡ n + length {A = Entry} [] = omega arith in
    ap (λ c. c.entries) h ∙ none
counted_end n (Ends r) (e ∷ es) end h = absurd h
counted_end n (Asks act go_on) [] end h = absurd h
counted_end n (Asks act go_on) (e ∷ es) end h =
    let more : suc n + length es ≡ n + length (e ∷ es) = omega arith in
    counted_end (suc n) (go_on e.reply) es end h.2 ∙ more

-- no more notes came
no_notes : (notes : List Note) (n m : ℕ) → m ≤ n → Found notes n m notes
no_notes notes n m none = record {
  new = [];
  whole = sym (append-nil notes);
  finds = λ after index low high. absurd (omega (arith, none, low, high));
  leaves = λ index past. tt;
}

-- the note of a condition after so many entries
one_note : (outcome : Outcome) (score : ℤ) (entries n : ℕ) (notes : List Note) → Found notes n entries (notes ++ Judged outcome score entries ∷ [])
one_note outcome score entries n notes = record {
  new = Judged outcome score entries ∷ [];
  whole = refl;
  finds = λ after index low high. ap (λ (comes : Bool). if comes then true else is_of_condition after index) (lt-ltb index entries high);
  leaves = λ index past. (le-ltb index entries past, tt);
}

-- and others after it
more_notes : (outcome : Outcome) (score : ℤ) (entries n m : ℕ) (notes all : List Note) → entries ≤ m → Found (notes ++ Judged outcome score entries ∷ []) entries m all → Found notes n m all
more_notes outcome score entries n m notes all few k = record {
  new = Judged outcome score entries ∷ k.new;
  whole = k.whole ∙ append_assoc notes (Judged outcome score entries ∷ []) k.new;
  finds = λ after index low high. elim (cases_lt index entries) [
    | inl less ↦ ap (λ (comes : Bool). if comes then true else is_of_condition (k.new ++ after) index) (lt-ltb index entries less)
    | inr ge ↦ ap (λ (comes : Bool). if comes then true else is_of_condition (k.new ++ after) index) (le-ltb index entries ge) ∙ k.finds after index ge high
  ];
  leaves = λ index past. (le-ltb index entries (omega (arith, few, past)), k.leaves index past);
}

length_both : (n : ℕ) (front es : List Entry) → (n + length front) + length es ≡ n + length (front ++ es)
length_both n front es = grind (arith, length-append)

-- a condition was judged, and maybe others
found_one : (weighted : Bool) (come : Counted Come) (end : Option Judgement) (score : ℤ) (vars : Table) (notes : List Note) (n : ℕ) (front : List Entry) (go_on : ℤ → Mind → List Note → Plan Noted) → come.entries ≡ n + length front
    → ((s : ℤ) (q : Mind) (heard : List Note) (fs : List Entry) (noted : Noted) → Plays (go_on s q heard) fs noted → Found heard come.entries (come.entries + length fs) noted.notes)
    → (es : List Entry) (noted : Noted) → Plays (noted_by weighted come (course_of end score vars) notes go_on) es noted → Found notes n (n + length (front ++ es)) noted.notes
found_one weighted come None score vars notes n front go_on counts f es noted h =
    let few : come.entries ≤ come.entries + length es = omega arith in
    subst (λ m. Found notes n m noted.notes) (ap (λ k. k + length es) counts ∙ length_both n front es)
    (more_notes come.end.outcome score come.entries n (come.entries + length es) notes noted.notes few (f score (with_table vars come.end.mind) (notes ++ Judged come.end.outcome score come.entries ∷ []) es noted h))
found_one weighted come (Some end) score vars notes n front go_on counts f [] noted h =
    subst (λ m. Found notes n m noted.notes) (counts ∙ sym (ap (λ (es : List Entry). n + length es) (append-nil front)))
    (subst (λ all. Found notes n come.entries all) (sym (ap (λ x. x.notes) h)) (one_note come.end.outcome score come.entries n notes))
found_one weighted come (Some end) score vars notes n front go_on counts f (e ∷ es) noted h = absurd h

found_each : (weighted : Bool) (flags : Flags) (rest : List Condition) (total : ℤ) (p : Mind) (n : ℕ) (notes : List Note) (es : List Entry) (noted : Noted)
    → Plays (note_each weighted flags rest total p n notes) es noted → Found notes n (n + length es) noted.notes
found_each weighted flags [] total p n notes [] noted h =
    let none : n + length {A = Entry} [] ≤ n = omega arith in
    subst (λ all. Found notes n (n + length {A = Entry} []) all) (sym (ap (λ x. x.notes) h)) (no_notes notes n (n + length {A = Entry} []) none)
found_each weighted flags [] total p n notes (e ∷ es) noted h = absurd h
found_each weighted flags (condition ∷ rest) total p n notes es noted h =
    let after : Counted Come → Plan Noted = λ come. noted_by weighted come (judged_one condition.text come.end.outcome total come.end.mind.vars) notes (λ score q heard. note_each weighted flags rest score q come.entries heard) in
    let a = parts_of (counted n (comes_of condition flags p)) after es noted h in
    let course = judged_one condition.text a.middle.end.outcome total a.middle.end.mind.vars in
    subst (λ (l : List Entry). Found notes n (n + length l) noted.notes) (sym a.whole)
    (found_one weighted a.middle course.end course.total course.vars notes n a.front (λ score q heard. note_each weighted flags rest score q a.middle.entries heard)
    (counted_end n (comes_of condition flags p) a.front a.middle a.plays_front) (λ s q heard fs m k. found_each weighted flags rest s q a.middle.entries heard fs m k) a.rest noted a.plays_rest)

pub finds_conditions : FindsConditions
finds_conditions conditions flags p n es noted h before after index b low high =
    let k = found_each (list_any is_weighted conditions) flags conditions (pos 0) p n [] es noted h in
    skip before (noted.notes ++ after) index b ∙ ap (λ (notes : List Note). is_of_condition (notes ++ after) index) k.whole ∙ k.finds after index low high

pub leaves_actions : LeavesActions
leaves_actions conditions flags p n es noted h index past =
    let k = found_each (list_any is_weighted conditions) flags conditions (pos 0) p n [] es noted h in
    subst (λ (notes : List Note). AllBefore notes index) (sym k.whole) (k.leaves index past)
