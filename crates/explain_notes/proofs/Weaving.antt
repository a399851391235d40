-- What is shown, taken apart again.
use Rattle.std.proofs.Common.{◌≡◌, ℕ, ◌-◌, max, List, [], ◌∷◌, ◌++◌, map, take, drop, refl, ap, sym, ◌∙◌}
use Rattle.std.proofs.lemmas.List.{append_assoc, take-append-drop}
use Rattle.pm_journal.specs.declared.acts.Entry.{Entry}
use Rattle.explain_text.specs.Steps.{steps_of, step_of, listed}
use Rattle.explain_text.specs.declared.step.Step.{Step}
use Rattle.explain_notes.specs.Laws.{steps_in, told_in}
use Rattle.explain_notes.specs.Shown.{woven}
use Rattle.explain_notes.specs.declared.shown.Shown.{Shown}
use Rattle.explain_notes.specs.declared.shown.Shown.TheVariants as shown
use Rattle.explain_notes.specs.declared.told.Told.{Told}

steps-did : (steps : List Step) (rest : List Shown) → steps_in (map shown.Step steps ++ rest) ≡ steps ++ steps_in rest
steps-did [] rest = refl
steps-did (step ∷ steps) rest = ap (λ (ss : List Step). step ∷ ss) (steps-did steps rest)

steps-alone : (steps : List Step) → steps_in (map shown.Step steps) ≡ steps
steps-alone [] = refl
steps-alone (step ∷ steps) = ap (λ (ss : List Step). step ∷ ss) (steps-alone steps)

told-did : (steps : List Step) (rest : List Shown) → told_in (map shown.Step steps ++ rest) ≡ told_in rest
told-did [] rest = refl
told-did (step ∷ steps) rest = told-did steps rest

told-alone : (steps : List Step) → told_in (map shown.Step steps) ≡ []
told-alone [] = refl
told-alone (step ∷ steps) = told-alone steps

-- the steps of entries, some of them first
steps_of-append : (front behind : List Entry) → steps_of (front ++ behind) ≡ steps_of front ++ steps_of behind
steps_of-append [] behind = refl
steps_of-append (entry ∷ entries) behind =
    ap (λ (ss : List Step). listed (step_of entry) ++ ss) (steps_of-append entries behind)
    ∙ sym (append_assoc (listed (step_of entry)) (steps_of entries) (steps_of behind))

steps_of-cut : (n : ℕ) (entries : List Entry) → steps_of (take n entries) ++ steps_of (drop n entries) ≡ steps_of entries
steps_of-cut n entries = sym (steps_of-append (take n entries) (drop n entries)) ∙ ap steps_of (take-append-drop n entries)

pub woven-steps : (before : ℕ) (entries : List Entry) (all : List Told) → steps_in (woven before entries all) ≡ steps_of entries
woven-steps before entries [] = steps-alone (steps_of entries)
woven-steps before entries (told ∷ others) =
    let n = told.entries - before in
    let later = woven (max before told.entries) (drop n entries) others in
    steps-did (steps_of (take n entries)) (shown.Told told ∷ later)
    ∙ ap (λ (ss : List Step). steps_of (take n entries) ++ ss) (woven-steps (max before told.entries) (drop n entries) others)
    ∙ steps_of-cut n entries

pub woven-told : (before : ℕ) (entries : List Entry) (all : List Told) → told_in (woven before entries all) ≡ all
woven-told before entries [] = told-alone (steps_of entries)
woven-told before entries (told ∷ others) =
    let n = told.entries - before in
    let later = woven (max before told.entries) (drop n entries) others in
    told-did (steps_of (take n entries)) (shown.Told told ∷ later)
    ∙ ap (λ (all : List Told). told ∷ all) (woven-told (max before told.entries) (drop n entries) others)
