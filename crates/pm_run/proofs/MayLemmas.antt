-- Where memory may be wanting.
use Rattle.std.proofs.Common.{◌≡◌, ◌⊎◌, ◌∙◌, true, List, ℕ, [], ◌∷◌, ◌++◌, inl, inr, refl, sym, ap, subst, append-nil, append_assoc}
use Rattle.std.specs.Prelude.{◌||◌}
use Rattle.std.proofs.lemmas.List.{append_cancel_left}
use Rattle.pm_recipe.specs.Tree.{Top, Tree, Assign, Unset, Recipe, Defect, Act, Block}
use Rattle.pm_recipe.specs.declared.tree.Flags.{Flags}
use Rattle.pm_code.specs.Flat.{Does}
use Rattle.pm_journal.specs.JournalState.{JournalState}
use Rattle.pm_journal.specs.Entries.{View}
use Rattle.pm_journal.specs.Noted.{NotesAct}
use Rattle.pm_journal.specs.Plan.{Plan, Ends, Asks, Plays, Wants}
use Rattle.pm_journal.specs.Executed.{OutOfMemory, LeadsTo}
use Rattle.pm_journal.specs.declared.acts.Act.{Act as HostAct}
use Rattle.pm_journal.specs.declared.acts.Act.TheVariants.{Unlock}
use Rattle.pm_journal.specs.declared.acts.Entry.{Entry}
use Rattle.pm_journal.specs.declared.acts.Reply.{Reply}
use Rattle.pm_meaning.specs.Locks.{is_fault}
use Rattle.pm_meaning.specs.Minds.{Mind}
use Rattle.pm_meaning.specs.Running.{Running, Item, Do, BlockEnd, FileEnd}
use Rattle.pm_meaning.specs.Turns.{Turn, GoesOn}
use Rattle.pm_perform.specs.Undelivered.{hinders, any_hinders, Undelivered}
use Rattle.pm_run.specs.RunningOut.{NoDelivery, conditions_of, AreJudged, LeavesUndelivered, MayRunOut, OfNew, HinderedSince}
use Rattle.pm_run.specs.Walk.{StatementMay}

-- where the new entries begin with these
same_new : (x y : JournalState) (es more : List Entry) → y.entries ≡ x.entries ++ es → y.entries ≡ x.entries ++ more → es ≡ more
same_new x y es more e h = append_cancel_left x.entries es more (sym e ∙ h)

-- nothing was noted, so that nothing was delivered
pub none_delivered : (flags : Flags) (x : JournalState) → Undelivered flags x x
none_delivered flags x = record { more = []; entries = sym (append-nil x.entries); none = λ _ _. refl }

pub delivered_none : (flags : Flags) (x y : JournalState) → Undelivered flags x y → OfNew (NoDelivery flags) x y
delivered_none flags x y u = λ more e. subst (NoDelivery flags) (same_new x y u.more more u.entries e) u.none

-- a recipe at its beginning
begun_judging : (plan : Plan Turn) (acted : List Entry) → acted ≡ [] → ((turn : Turn) × Plays plan [] turn) ⊎ ((act : HostAct) × Wants plan [] act × (acted ≡ []))
begun_judging (Ends r) acted none = inl (r, refl)
begun_judging (Asks act go_on) acted none = inr (act, refl, none)

nothing_done : (top : Top) (p : Mind) → LeavesUndelivered top p []
nothing_done top p = record { judged = []; acted = []; parts = refl; conditions = begun_judging (conditions_of top p) [] refl; none = λ _ _. refl }

-- of a recipe without a block
recipe_may : (top : Top) (act : Act) (rest : List Item) (p : Mind) (es : List Entry) → LeavesUndelivered top p es → MayRunOut (Running (Do (Recipe top act) ∷ rest) p) es
recipe_may top (Block trees) rest p es h = tt
recipe_may top other rest p es h = h

-- what is left may be anything at the beginning of a step
tree_begins : (tree : Tree) (rest : List Item) (p : Mind) → MayRunOut (Running (Do tree ∷ rest) p) []
tree_begins (Recipe top act) rest p = recipe_may top act rest p [] (nothing_done top p)
tree_begins (Assign name text) rest p = tt
tree_begins (Unset name) rest p = tt
tree_begins (Defect line text) rest p = tt

pub may_begin : (items : List Item) (p : Mind) → MayRunOut (Running items p) []
may_begin [] p = tt
may_begin (Do tree ∷ rest) p = tree_begins tree rest p
may_begin (BlockEnd saved lock ∷ rest) p = tt
may_begin (FileEnd name ∷ rest) p = tt

-- memory was wanting before anything was noted
pub may_at_once : (items : List Item) (p : Mind) (x : JournalState) → OfNew (MayRunOut (Running items p)) x x
may_at_once items p x = λ more e. subst (MayRunOut (Running items p)) (same_new x x [] more (sym (append-nil x.entries)) e) (may_begin items p)

-- memory was wanting while the conditions were judged
pub judging_may : (top : Top) (p : Mind) (x y : JournalState) (a b : View) → OutOfMemory (conditions_of top p) x y a b → OfNew (LeavesUndelivered top p) x y
judging_may top p x y a b k = λ more e. record {
  judged = more;
  acted = [];
  parts = sym (append-nil more);
  conditions = subst (λ l. AreJudged top p l []) (same_new x y k.more more k.entries e) (elim k.where_off [
    | inl w ↦ inr (w.wanted, w.wants, refl)
    | inr e ↦ inl (e.end, e.plays)
  ]);
  none = λ _ _. refl;
}

-- or in the action
pub acting_may : (top : Top) (p q : Mind) (x y z : JournalState) (a b : View) → LeadsTo (conditions_of top p) (Ends (GoesOn q)) x y a b → Undelivered top.flags y z → OfNew (LeavesUndelivered top p) x z
acting_may top p q x y z a b l u = λ more e. record {
  judged = l.more;
  acted = u.more;
  parts = sym (same_new x z (l.more ++ u.more) more (u.entries ∙ (ap (λ v. v ++ u.more) l.entries ∙ append_assoc x.entries l.more u.more)) e);
  conditions = inl (GoesOn q, subst (λ v. Plays (conditions_of top p) v (GoesOn q)) (append-nil l.more) (l.plays [] (GoesOn q) refl));
  none = u.none;
}

pub same_tree : (shown tree : Tree) → Does shown ≡ Does tree → shown ≡ tree
same_tree shown tree e = cc

pub recipe_statement : (top : Top) (act : Act) (p : Mind) (x y : JournalState) → OfNew (LeavesUndelivered top p) x y → (more : List Entry) → y.entries ≡ x.entries ++ more → StatementMay (Does (Recipe top act)) p more
recipe_statement top act p x y h = λ more e tree rest is.
    subst (λ t. MayRunOut (Running (Do t ∷ rest) p) more) (same_tree (Recipe top act) tree is) (recipe_may top act rest p more (h more e))

-- a lock file couldn't be removed
pub stuck_may : (name : List ℕ) (reply : Reply) (x y z : JournalState) (a b : View) (rest : List Entry) → NotesAct (Unlock name) reply x y a b → is_fault reply ≡ true → z.entries ≡ y.entries ++ rest
    → HinderedSince x z
stuck_may name reply x y z a b rest n stuck later = λ more e.
    let hinder : hinders n.entry.act n.entry.reply ≡ true = ap (λ act. hinders act n.entry.reply) n.act_is ∙ (ap is_fault n.reply_is ∙ stuck) in
    let noted : z.entries ≡ x.entries ++ n.entry ∷ rest = later ∙ (ap (λ l. l ++ rest) n.entries ∙ append_assoc x.entries (n.entry ∷ []) rest) in
    subst (λ l. any_hinders l ≡ true) (same_new x z (n.entry ∷ rest) more noted e) (ap (λ b. b || any_hinders rest) hinder)
