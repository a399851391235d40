-- What the entries added to the files, up to the end of a run.
use Rattle.std.proofs.Common.{◌≡◌, ◌⊎◌, inl, inr, List, ℕ, [], ◌∷◌, ◌++◌, Option, refl, sym, ap, ◌∙◌, subst, append_assoc}
use Rattle.pm_host.specs.Told.{Tells}
use Rattle.pm_host.specs.Runs.{Steps, AllRight, after_calls, child_after}
use Rattle.pm_host.specs.declared.nodes.Node.{Node}
use Rattle.pm_host.specs.declared.answers.Child.TheVariants.{NoChild}
use Rattle.pm_host.specs.World.{World}
use Rattle.pm_host.specs.declared.calls.Logged.{Logged}
use Rattle.pm_host.proofs.RunsJoin.{tells_then}
use Rattle.pm_journal.specs.Deliveries.{bytes_at, added_by, all_added, IsNoLock, IsUnwritten, folders_by, all_folders, asked_folders, AllGrow}
use Rattle.pm_journal.specs.Filed.{IsOneOf, SameOrMade}
use Rattle.pm_journal.specs.Walking.{IsUnfinished}
use Rattle.pm_journal.specs.declared.acts.Act.TheVariants.{Moment}
use Rattle.pm_journal.specs.declared.acts.Entry.{Entry}
use Rattle.pm_journal.proofs.ChildrenStay.{left_off_child}
use Rattle.pm_journal.proofs.FilesGrow.{accounts_grow, made_join, one_of_left, one_of_right}
use Rattle.pm_journal.proofs.LeftOff.{unfinished_grows}
use Rattle.pm_meaning.specs.Courses.{Course, advance}
use Rattle.pm_meaning.specs.declared.ending.Ending.{Ending}
use Rattle.pm_top.specs.Run.{Run}
use Rattle.pm_top.specs.Outcome.{Outcome, left_off}
use Rattle.pm_top.specs.Account.{done_in, calls_in, given_in, Account}
use Rattle.pm_top.specs.Promise.{HasGrown}

-- an act that was left off added nothing to a file
unfinished_adds : (c : Course) (done : List Entry) (calls : List Logged) (w : World) → IsUnfinished {X = Ending} advance c done calls → AllRight calls w → AllGrow [] (asked_folders calls) w (after_calls calls w)
unfinished_adds s done calls w h right = elim h.off [ inl k ↦ unfinished_grows k.wanted calls w k.leaves right | inr k ↦ unfinished_grows Moment calls w k.none right ]

calls_add : (run : Run) (how : Outcome run) (w : World) → AllRight (calls_in run how) w → AllGrow [] (asked_folders (calls_in run how)) w (after_calls (calls_in run how) w)
calls_add run (left_off h) w right = unfinished_adds _ h.done h.left_off w h.unfinished right
calls_add run other w right = unfinished_grows Moment [] w refl right

no_lock_split : (es fs : List Entry) (name : List ℕ) → IsNoLock (es ++ fs) name → IsNoLock es name × IsNoLock fs name
no_lock_split [] fs name h = (tt, h)
no_lock_split (e ∷ es) fs name h = let s = no_lock_split es fs name h.1 in ((h.0, s.0), s.1)

unwritten_split : (es fs : List Entry) (name : List ℕ) → IsUnwritten (es ++ fs) name → IsUnwritten es name × IsUnwritten fs name
unwritten_split [] fs name h = (tt, h)
unwritten_split (e ∷ es) fs name h = let s = unwritten_split es fs name h.1 in ((h.0, s.0), s.1)

all_added-append : (es fs : List Entry) (name : List ℕ) → all_added (es ++ fs) name ≡ all_added es name ++ all_added fs name
all_added-append [] fs name = refl
all_added-append (e ∷ es) fs name =
    ap (λ l. added_by e.act e.reply name ++ l) (all_added-append es fs name) ∙ sym (append_assoc (added_by e.act e.reply name) (all_added es name) (all_added fs name))

grow_join : (es fs : List Entry) (ms ns : List (List ℕ)) (u v w : World) → AllGrow es ms u v → AllGrow fs ns v w → AllGrow (es ++ fs) (ms ++ ns) u w
grow_join es fs ms ns u v w g h name free left =
    let parts = no_lock_split es fs name free in
    let first = g name parts.0 left in
    let second = h name parts.1 first.left in
    record {
      bytes = second.bytes ∙ ap (λ l. l ++ all_added fs name) first.bytes ∙ append_assoc (bytes_at (u.nodes name)) (all_added es name) (all_added fs name) ∙ ap (λ l. bytes_at (u.nodes name) ++ l) (sym (all_added-append es fs name));
      same = λ unwritten. let s = unwritten_split es fs name unwritten in made_join ms ns name (u.nodes name) (v.nodes name) (w.nodes name) (first.same s.0) (second.same s.1);
      left = second.left;
    }

all_folders-append : (es fs : List Entry) → all_folders (es ++ fs) ≡ all_folders es ++ all_folders fs
all_folders-append [] fs = refl
all_folders-append (e ∷ es) fs = ap (λ l. folders_by e.act ++ l) (all_folders-append es fs) ∙ sym (append_assoc (folders_by e.act) (all_folders es) (all_folders fs))

one_of_either : (name : List ℕ) (ms ns : List (List ℕ)) → IsOneOf name (ms ++ ns) → IsOneOf name ms ⊎ IsOneOf name ns
one_of_either name [] ns h = inr h
one_of_either name (m ∷ ms) ns (inl e) = inl (inl e)
one_of_either name (m ∷ ms) ns (inr h) = elim (one_of_either name ms ns h) [ inl k ↦ inl (inr k) | inr k ↦ inr k ]

-- the folders in another order
one_of_turned : (name : List ℕ) (ms ks ns : List (List ℕ)) → IsOneOf name (ms ++ (ks ++ ns)) → IsOneOf name ((ms ++ ns) ++ ks)
one_of_turned name ms ks ns h =
    elim (one_of_either name ms (ks ++ ns) h) [
      | inl k ↦ one_of_left name (ms ++ ns) ks (one_of_left name ms ns k)
      | inr k ↦ elim (one_of_either name ks ns k) [
        | inl l ↦ one_of_right name (ms ++ ns) ks l
        | inr l ↦ one_of_left name (ms ++ ns) ks (one_of_right name ms ns l)
      ]
    ]

made_turned : (name : List ℕ) (ms ks ns : List (List ℕ)) (x y : Option Node) → SameOrMade (ms ++ (ks ++ ns)) name x y → SameOrMade ((ms ++ ns) ++ ks) name x y
made_turned name ms ks ns x y (inl e) = inl e
made_turned name ms ks ns x y (inr e) = inr (one_of_turned name ms ks ns e.0, e.1, e.2)

grow_turned : (es : List Entry) (ms ks ns : List (List ℕ)) (u w : World) → AllGrow es (ms ++ (ks ++ ns)) u w → AllGrow es ((ms ++ ns) ++ ks) u w
grow_turned es ms ks ns u w g name free left =
    let h = g name free left in record { bytes = h.bytes; same = λ unwritten. made_turned name ms ks ns (u.nodes name) (w.nodes name) (h.same unwritten); left = h.left }

-- over the whole run each file grew by what the entries added to it
pub grown_in : (run : Run) (how : Outcome run) (a : Account run how) → HasGrown run how
grown_in run how a =
    let done = done_in run how in
    let given = given_in run how in
    let asked = asked_folders (calls_in run how) in
    let folders : all_folders run.entries ≡ all_folders done ++ all_folders given = ap all_folders a.entries_are ∙ all_folders-append done given in
    let last = tells_then (Steps (calls_in run how)) (AllGrow given (all_folders given)) (AllGrow given (asked ++ all_folders given))
    (λ u v w s g. grow_join [] given asked (all_folders given) u v w (subst (AllGrow [] asked u) (sym s.made) (calls_add run how u s.right)) g)
    a.middle.host.world a.later.host.world a.last.host.world a.took.ran.world (accounts_grow given a.later a.last a.back) in
    let whole = tells_then (AllGrow done (all_folders done)) (AllGrow given (asked ++ all_folders given)) (AllGrow (done ++ given) ((all_folders done ++ all_folders given) ++ asked))
    (λ u v w g h. grow_turned (done ++ given) (all_folders done) asked (all_folders given) u w (grow_join done given (all_folders done) (asked ++ all_folders given) u v w g h))
    run.before.host.world a.middle.host.world a.last.host.world (accounts_grow done run.before a.middle a.accounts) last in
    subst (λ fs. Tells (AllGrow run.entries (fs ++ asked)) run.before.host.world run.after.host.world) (sym folders)
    (subst (λ es. Tells (AllGrow es ((all_folders done ++ all_folders given) ++ asked)) run.before.host.world run.after.host.world) (sym a.entries_are)
    (subst (λ h. Tells (AllGrow (done ++ given) ((all_folders done ++ all_folders given) ++ asked)) run.before.host.world h.world) (sym a.host_same) whole))

unfinished_child : (c : Course) (done : List Entry) (calls : List Logged) → IsUnfinished {X = Ending} advance c done calls → child_after calls NoChild ≡ NoChild
unfinished_child s done calls h = elim h.off [ inl k ↦ left_off_child k.wanted calls k.leaves | inr k ↦ ap (λ c. child_after c NoChild) k.none ]

-- the act that was left off left no child running
pub calls_child : (run : Run) (how : Outcome run) → child_after (calls_in run how) NoChild ≡ NoChild
calls_child run (left_off h) = unfinished_child _ h.done h.left_off h.unfinished
calls_child run other = refl
