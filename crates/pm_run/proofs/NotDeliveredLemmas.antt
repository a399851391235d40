-- A run that was out of memory has delivered nothing for good, but for what stands in the way of that.
use Rattle.std.proofs.Common.{◌≡◌, ◌∙◌, Bool, true, false, List, ℕ, [], ◌∷◌, ◌++◌, refl, sym, subst}
use Rattle.std.specs.Prelude.{◌||◌}
use Rattle.pm_recipe.specs.Tree.{Top, Tree, Assign, Unset, Recipe, Defect, Act, Block}
use Rattle.pm_journal.specs.declared.acts.Entry.{Entry}
use Rattle.pm_meaning.specs.Courses.{Course}
use Rattle.pm_meaning.specs.Minds.{Mind}
use Rattle.pm_meaning.specs.Running.{State, Running, FallingOff, Leaving, Over, Trapping, Unlocking, Closing, Item, Do, BlockEnd, FileEnd}
use Rattle.pm_perform.specs.Undelivered.{any_hinders, hinders}
use Rattle.pm_run.specs.NotDelivered.{asks_copy, has_ended, is_told, ActsWithout, StepsWithout, HasNotDelivered}
use Rattle.pm_run.specs.RunningOut.{LeavesUndelivered, MayRunOut, RunMayRunOut}

second_none : (b c : Bool) → (b || c) ≡ false → c ≡ false
second_none true c h = let e : true ≡ false = h in absurd (cc)
second_none false c h = h

-- the last of entries without a hindrance
last_free : (front back : List Entry) → any_hinders (front ++ back) ≡ false → any_hinders back ≡ false
last_free [] back h = h
last_free (e ∷ es) back h = last_free es back (second_none (hinders e.act e.reply) (any_hinders (es ++ back)) h)

never_both : (b : Bool) → b ≡ true → b ≡ false → ⊥
never_both b holds fails = let e : true ≡ false = sym holds ∙ fails in cc

acts_without : (top : Top) (p : Mind) (entries : List Entry) → LeavesUndelivered top p entries → top.flags.copy ≡ false → any_hinders entries ≡ false → ActsWithout top p entries
acts_without top p entries h copy free = record {
  judged = h.judged;
  acted = h.acted;
  parts = h.parts;
  conditions = h.conditions;
  none = h.none copy (last_free h.judged h.acted (subst (λ l. any_hinders l ≡ false) h.parts free));
}

abbrev Spares : State → List Entry → Type 0
Spares s entries = asks_copy s ≡ false → any_hinders entries ≡ false → is_told s ≡ false → (has_ended s ≡ false) × StepsWithout s entries

recipe_spares : (top : Top) (act : Act) (rest : List Item) (p : Mind) (entries : List Entry) → MayRunOut (Running (Do (Recipe top act) ∷ rest) p) entries → Spares (Running (Do (Recipe top act) ∷ rest) p) entries
recipe_spares top (Block trees) rest p entries h = λ copy free told. (refl, tt)
recipe_spares top other rest p entries h = λ copy free told. (refl, acts_without top p entries h copy free)

tree_spares : (tree : Tree) (rest : List Item) (p : Mind) (entries : List Entry) → MayRunOut (Running (Do tree ∷ rest) p) entries → Spares (Running (Do tree ∷ rest) p) entries
tree_spares (Recipe top act) rest p entries h = recipe_spares top act rest p entries h
tree_spares (Assign name text) rest p entries h = λ copy free told. (refl, tt)
tree_spares (Unset name) rest p entries h = λ copy free told. (refl, tt)
tree_spares (Defect line text) rest p entries h = λ copy free told. (refl, tt)

items_spare : (items : List Item) (p : Mind) (entries : List Entry) → MayRunOut (Running items p) entries → Spares (Running items p) entries
items_spare [] p entries h = λ copy free told. (refl, tt)
items_spare (Do tree ∷ rest) p entries h = tree_spares tree rest p entries h
items_spare (BlockEnd saved lock ∷ rest) p entries h = λ copy free told. (refl, tt)
items_spare (FileEnd name ∷ rest) p entries h = λ copy free told. (refl, tt)

mailboxes_spare : (mailboxes : List (List ℕ)) (p : Mind) (entries : List Entry) → MayRunOut (FallingOff mailboxes p) entries → Spares (FallingOff mailboxes p) entries
mailboxes_spare [] p entries h = λ copy free told. (refl, tt)
mailboxes_spare (mailbox ∷ rest) p entries h = λ copy free told. (refl, h refl free)

spares : (s : State) (entries : List Entry) → MayRunOut s entries → Spares s entries
spares (Running items p) entries h = items_spare items p entries h
spares (FallingOff mailboxes p) entries h = mailboxes_spare mailboxes p entries h
spares (Leaving locks end p) entries h = λ copy free told. absurd (never_both (any_hinders entries) h free)
spares (Over end p) entries h = λ copy free told. absurd (never_both (is_told (Over end p)) h told)
spares (Trapping end p) entries h = λ copy free told. absurd (never_both (is_told (Trapping end p)) h told)
spares (Unlocking ending p) entries h = λ copy free told. absurd (never_both (any_hinders entries) h free)
spares (Closing ending p) entries h = absurd h
spares other entries h = λ copy free told. (refl, tt)

pub has_not_delivered : (c : Course) (entries : List Entry) → RunMayRunOut c entries → HasNotDelivered c entries
has_not_delivered c entries h = spares c.at entries h
