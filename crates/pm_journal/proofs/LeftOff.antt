-- What the calls of an act that was left off may have done.
use Rattle.std.proofs.Common.{◌≡◌, ℕ, true, List, [], ◌∷◌, ◌++◌, Option, refl, sym, ap, ◌∙◌, subst, inl, inr}
use Rattle.pm_host.specs.World.{World}
use Rattle.pm_host.specs.Runs.{after_calls, AllRight, logged}
use Rattle.pm_host.proofs.RunsJoin.{after_calls-append}
use Rattle.pm_host.specs.declared.nodes.Node.{Node}
use Rattle.pm_host.specs.declared.command.Command.{Command}
use Rattle.pm_host.specs.declared.calls.Call.TheVariants.{Names}
use Rattle.pm_host.specs.declared.calls.Logged.{Logged}
use Rattle.pm_journal.specs.Children.{TakeOn, LeftRun, fed_bytes, with_input, run_calls, after_child_ran}
use Rattle.pm_journal.specs.Deliveries.{OthersLeave, asked_by, asked_folders, AllGrow}
use Rattle.pm_journal.specs.Executed.{UnfinishedCalls}
use Rattle.pm_journal.specs.Filed.{IsOneOf, SameOrMade}
use Rattle.pm_journal.specs.Placing.{MakesFolders, LeftNames, LeftPlace, with_folders}
use Rattle.pm_journal.specs.Reading.{ReadLooking}
use Rattle.pm_journal.specs.declared.acts.Act.{Act}
use Rattle.pm_journal.specs.declared.acts.Act.TheVariants.{ReadFile, Place, Run}
use Rattle.pm_journal.specs.declared.placing.FolderKind.{FolderKind}
use Rattle.pm_journal.specs.declared.placing.FolderKind.TheVariants.{Maildir, Mh, Plain}
use Rattle.pm_journal.proofs.AccountsJoin.{AllRight-split, reading_same}
use Rattle.pm_journal.proofs.ChildEffect.{child_effect, idle_walk}
use Rattle.pm_journal.proofs.FilesGrow.{made_bytes, folders_others}
use Rattle.pm_journal.proofs.LockLeaves.{batch_apart}
use Rattle.pm_journal.proofs.PlaceDelivers.{makes_only}
use Rattle.pm_journal.proofs.PlaceEffect.{makes_effect}

-- nothing was added, and some folders were made
only_grows : (folders : List (List ℕ)) (w v : World) → ((name : List ℕ) → OthersLeave w.others name → SameOrMade folders name (w.nodes name) (v.nodes name) × OthersLeave v.others name) → AllGrow [] folders w v
only_grows folders w v h name free left = let k = h name left in record { bytes = made_bytes folders name (w.nodes name) (v.nodes name) k.0; same = λ unwritten. k.0; left = k.1 }

no_change : (folders : List (List ℕ)) (w v : World) → v ≡ w → AllGrow [] folders w v
no_change folders w v e = only_grows folders w v (λ name left. (inl (ap (λ u. u.nodes name) e), subst (λ u. OthersLeave u.others name) (sym e) left))

-- the folder was asked for
asked_one : (folder name : List ℕ) (makes later : List Logged) → MakesFolders (folder ∷ []) true makes → IsOneOf name (folder ∷ []) → IsOneOf name (asked_folders (makes ++ later))
asked_one folder name [] later made h = absurd made
asked_one folder name (c ∷ cs) later made (inl e) = subst (λ k. IsOneOf name (asked_by k ++ asked_folders (cs ++ later))) (sym made.0) (inl e)
asked_one folder name (c ∷ cs) later made (inr h) = absurd h

made_asked : (folder name : List ℕ) (makes later : List Logged) (x y : Option Node) → MakesFolders (folder ∷ []) true makes → SameOrMade (folder ∷ []) name x y → SameOrMade (asked_folders (makes ++ later)) name x y
made_asked folder name makes later x y made (inl e) = inl e
made_asked folder name makes later x y made (inr e) = inr (asked_one folder name makes later made e.0, e.1, e.2)

names_grow : (folder : List ℕ) (calls : List Logged) (w : World) → LeftNames folder calls → AllRight calls w → AllGrow [] (asked_folders calls) w (after_calls calls w)
names_grow folder calls w l right =
    let last = logged (Names folder) l.answer ∷ [] in
    let parts = AllRight-split l.makes last w (subst (λ c. AllRight c w) l.calls_are right) in
    let there = with_folders l.makes w in
    let is : after_calls (l.makes ++ last) w ≡ there = after_calls-append l.makes last w ∙ makes_effect (folder ∷ []) true l.makes w l.made in
    let only = makes_only (folder ∷ []) true l.makes w l.made parts.0 in
    subst (λ c. AllGrow [] (asked_folders c) w (after_calls c w)) (sym l.calls_are)
    (subst (AllGrow [] (asked_folders (l.makes ++ last)) w) (sym is)
    (only_grows (asked_folders (l.makes ++ last)) w there
    (λ name left. (made_asked folder name l.makes last (w.nodes name) (there.nodes name) l.made (only.each name), subst (λ o. OthersLeave o name) (sym (folders_others l.makes w)) left))))

place_grows : (kind : FolderKind) (folder : List ℕ) (calls : List Logged) (w : World) → LeftPlace kind folder calls → AllRight calls w → AllGrow [] (asked_folders calls) w (after_calls calls w)
place_grows Mh folder calls w (inl none) right = no_change (asked_folders calls) w (after_calls calls w) (ap (λ c. after_calls c w) none)
place_grows Mh folder calls w (inr l) right = names_grow folder calls w l right
place_grows Maildir folder calls w none right = no_change (asked_folders calls) w (after_calls calls w) (ap (λ c. after_calls c w) none)
place_grows Plain folder calls w none right = no_change (asked_folders calls) w (after_calls calls w) (ap (λ c. after_calls c w) none)

-- others acted while the program ran
ran_grows : (command : Command) (input : List ℕ) (calls : List Logged) (w : World) → LeftRun command input calls → AllGrow [] (asked_folders calls) w (after_calls calls w)
ran_grows command input calls w l =
    let all = run_calls command true l.feeds l.takes l.finished in
    let is : after_calls all w ≡ after_child_ran command all w = child_effect w command input true l.feeds l.takes l.feeding.at l.finished l.feeding.walk (idle_walk l.takes (TakeOn []) l.at l.taking) in
    let fed : World = with_input command (fed_bytes all) w in
    subst (λ c. AllGrow [] (asked_folders c) w (after_calls c w)) (sym l.calls_are)
    (subst (AllGrow [] (asked_folders all) w) (sym is)
    (only_grows (asked_folders all) w (after_child_ran command all w)
    (λ name left. let b = batch_apart w.others fed name refl left in (inl b.here, b.left))))

-- an act that was left off made at most its folders, and others may have acted
pub unfinished_grows : (act : Act) (calls : List Logged) (w : World) → UnfinishedCalls act calls → AllRight calls w → AllGrow [] (asked_folders calls) w (after_calls calls w)
unfinished_grows (ReadFile name) calls w u right = no_change (asked_folders calls) w (after_calls calls w) (reading_same name calls ReadLooking u.0 w u.1)
unfinished_grows (Place kind folder prefix piece stamp) calls w u right = place_grows kind folder calls w u right
unfinished_grows (Run command input want) calls w (inl none) right = no_change (asked_folders calls) w (after_calls calls w) (ap (λ c. after_calls c w) none)
unfinished_grows (Run command input want) calls w (inr u) right = ran_grows command input calls w u.1
unfinished_grows other calls w none right = no_change (asked_folders calls) w (after_calls calls w) (ap (λ c. after_calls c w) none)
