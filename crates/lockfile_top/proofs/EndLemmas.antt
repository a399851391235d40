-- How runs end.
use Rattle.std.proofs.Common.{◌≡◌, Bool, true, false, Some, List, ℕ, [], ◌∷◌, ◌++◌, reverse, refl, sym, ap, ◌∙◌, subst}
use Rattle.std.specs.Prelude.{nat_eq, if◌then◌else◌}
use Rattle.pm_journal.specs.Plan.{Ends, and_then, Plays}
use Rattle.pm_journal.specs.Held.{AreUnlocks}
use Rattle.pm_journal.specs.Locking.{lock_act}
use Rattle.pm_journal.specs.declared.locking.LockRule.{LockRule}
use Rattle.pm_journal.specs.declared.acts.Act.{Act}
use Rattle.pm_journal.specs.declared.acts.Act.TheVariants.{Unlock, SayErr}
use Rattle.pm_journal.specs.declared.acts.Reply.{Reply}
use Rattle.pm_journal.specs.declared.acts.Reply.TheVariants.{Held, Removed}
use Rattle.pm_journal.specs.declared.acts.Entry.{Entry}
use Rattle.lockfile_top.specs.Lines.{sorry_line, forcing_line}
use Rattle.lockfile_top.specs.Doing.{without_name, with_name, say_then, after_take, after_give, remove_each, give_up, do_tasks}
use Rattle.lockfile_top.specs.Ends.{made_from, made_after, Succeeds, AllSucceed, about, StopsFrom}
use Rattle.lockfile_top.specs.declared.tasks.Task.{Task}
use Rattle.lockfile_top.specs.declared.tasks.Task.TheVariants.{Take, Give}
use Rattle.lockfile_top.specs.declared.tasks.Ending.TheVariants.{AllDone, GaveUp}
use Rattle.lockfile_top.proofs.TaskLemmas.{behind}

ends_apart : AllDone ≡ GaveUp → ⊥
ends_apart h = absurd (cc)

-- these removals were tried, and then a line was said
record Tail (names : List (List ℕ)) (text : List ℕ) (es : List Entry) : Type 0 where
  given : List Entry
  line : Entry
  is : es ≡ given ++ line ∷ []
  unlocks : AreUnlocks names given
  line_is : line.act ≡ SayErr text

tail_of : (names : List (List ℕ)) (text : List ℕ) (es : List Entry) → Plays (remove_each names (say_then text GaveUp)) es GaveUp → Tail names text es
tail_of [] text [] h = absurd h
tail_of [] text (e ∷ []) h = record { given = []; line = e; is = refl; unlocks = tt; line_is = h.0 }
tail_of [] text (e ∷ (f ∷ fs)) h = absurd h.2
tail_of (n ∷ ns) text [] h = absurd h
tail_of (n ∷ ns) text (e ∷ es) h =
    let t = tail_of ns text es h.2 in
    record { given = e ∷ t.given; line = t.line; is = ap (λ l. e ∷ l) t.is; unlocks = (h.0, t.unlocks); line_is = t.line_is }

-- the removals end in one way
never_done : (names : List (List ℕ)) (text : List ℕ) (es : List Entry) → Plays (remove_each names (say_then text GaveUp)) es AllDone → ⊥
never_done [] text [] h = h
never_done [] text (e ∷ []) h = ends_apart h.2
never_done [] text (e ∷ (f ∷ fs)) h = h.2
never_done (n ∷ ns) text [] h = h
never_done (n ∷ ns) text (e ∷ es) h = never_done ns text es h.2

-- an entry that succeeded stands in front
goes_on : (made made' : List (List ℕ)) (e : Entry) (es : List Entry) → made_from e.act e.reply made ≡ made' → Succeeds e.act e.reply → StopsFrom made' es → StopsFrom made (e ∷ es)
goes_on made made' e es is succeeds s = record {
  front = e ∷ s.front;
  failed = s.failed;
  given = s.given;
  line = s.line;
  entries_are = ap (λ l. e ∷ l) s.entries_are;
  done = (succeeds, s.done);
  missed = s.missed;
  unlocks = subst (λ m. AreUnlocks (reverse (made_after m s.front)) s.given) (sym is) s.unlocks;
  line_is = s.line_is;
}

-- the entry didn't succeed, and the run stopped
stops_here : (made : List (List ℕ)) (name : List ℕ) (e : Entry) (es : List Entry) → (Succeeds e.act e.reply → ⊥) → about e.act ≡ name → Plays (give_up name made) es GaveUp → StopsFrom made (e ∷ es)
stops_here made name e es missed is h =
    let t = tail_of (reverse made) (sorry_line name) es h in
    record {
      front = [];
      failed = e;
      given = t.given;
      line = t.line;
      entries_are = ap (λ l. e ∷ l) t.is;
      done = tt;
      missed = missed;
      unlocks = t.unlocks;
      line_is = t.line_is ∙ ap (λ n. SayErr (sorry_line n)) (sym is);
    }

-- what holds of the act and the reply of an entry
of_entry : (P : Act → Reply → Type 0) (e : Entry) (act : Act) (reply : Reply) → e.act ≡ act → e.reply ≡ reply → P act reply → P e.act e.reply
of_entry P e act reply a r h = subst (λ x. P x e.reply) (sym a) (subst (λ x. P act x) (sym r) h)

to_entry : (P : Act → Reply → Type 0) (e : Entry) (act : Act) (reply : Reply) → e.act ≡ act → e.reply ≡ reply → P e.act e.reply → P act reply
to_entry P e act reply a r h = subst (λ x. P act x) r (subst (λ x. P x e.reply) a h)

-- the tasks stop, whatever was made before
abbrev Stops : List Task → Type 0
Stops tasks = (made : List (List ℕ)) (es : List Entry) → Plays (do_tasks tasks made) es GaveUp → StopsFrom made es

told_stops : (quiet : Bool) (text : List ℕ) (task : Task) (tasks : List Task) (made made' : List (List ℕ)) (es : List Entry) → Stops tasks
    → Plays (and_then (if quiet then Ends (Some made') else say_then text (Some made')) (behind task tasks made)) es GaveUp → StopsFrom made' es
told_stops true text task tasks made made' es back h = back made' es h
told_stops false text task tasks made made' [] back h = absurd h
told_stops false text task tasks made made' (f ∷ fs) back h =
    goes_on made' made' f fs (ap (λ a. made_from a f.reply made') h.0) (subst (λ a. Succeeds a f.reply) (sym h.0) tt) (back made' fs h.2)

take_stops : (name : List ℕ) (rule : LockRule) (tasks : List Task) (made : List (List ℕ)) (reply : Reply) (e : Entry) (es : List Entry) → Stops tasks → e.act ≡ lock_act name rule → e.reply ≡ reply
    → Plays (and_then (after_take name made reply) (behind (Take name rule) tasks made)) es GaveUp → StopsFrom made (e ∷ es)
take_stops name rule tasks made (Held sleeps forced) e es back a r h =
    goes_on made (with_name name made) e es
    (of_entry (λ act reply. made_from act reply made ≡ with_name name made) e (lock_act name rule) (Held sleeps forced) a r refl)
    (of_entry Succeeds e (lock_act name rule) (Held sleeps forced) a r tt)
    (told_stops (nat_eq forced 0) (forcing_line name) (Take name rule) tasks made (with_name name made) es back h)
take_stops name rule tasks made other e es back a r h = stops_here made name e es (λ k. to_entry Succeeds e (lock_act name rule) other a r k) (ap about a) h

give_stops : (name : List ℕ) (tasks : List Task) (made : List (List ℕ)) (reply : Reply) (e : Entry) (es : List Entry) → Stops tasks → e.act ≡ Unlock name → e.reply ≡ reply
    → Plays (behind (Give name) tasks made (after_give name made reply)) es GaveUp → StopsFrom made (e ∷ es)
give_stops name tasks made Removed e es back a r h =
    goes_on made (without_name name made) e es
    (of_entry (λ act reply. made_from act reply made ≡ without_name name made) e (Unlock name) Removed a r refl)
    (of_entry Succeeds e (Unlock name) Removed a r tt)
    (back (without_name name made) es h)
give_stops name tasks made other e es back a r h = stops_here made name e es (λ k. to_entry Succeeds e (Unlock name) other a r k) (ap about a) h

-- tasks that aren't all done stop
pub tasks_stop : (tasks : List Task) (made : List (List ℕ)) (es : List Entry) → Plays (do_tasks tasks made) es GaveUp → StopsFrom made es
tasks_stop [] made [] h = absurd (ends_apart (sym h))
tasks_stop [] made (e ∷ es) h = absurd h
tasks_stop (Take name rule ∷ tasks) made [] h = absurd h
tasks_stop (Take name rule ∷ tasks) made (e ∷ es) h = take_stops name rule tasks made e.reply e es (tasks_stop tasks) h.0 refl h.2
tasks_stop (Give name ∷ tasks) made [] h = absurd h
tasks_stop (Give name ∷ tasks) made (e ∷ es) h = give_stops name tasks made e.reply e es (tasks_stop tasks) h.0 refl h.2

-- the tasks are all done, whatever was made before
abbrev Succeed : List Task → Type 0
Succeed tasks = (made : List (List ℕ)) (es : List Entry) → Plays (do_tasks tasks made) es AllDone → AllSucceed es

told_succeeds : (quiet : Bool) (text : List ℕ) (task : Task) (tasks : List Task) (made made' : List (List ℕ)) (es : List Entry) → Succeed tasks
    → Plays (and_then (if quiet then Ends (Some made') else say_then text (Some made')) (behind task tasks made)) es AllDone → AllSucceed es
told_succeeds true text task tasks made made' es back h = back made' es h
told_succeeds false text task tasks made made' [] back h = absurd h
told_succeeds false text task tasks made made' (f ∷ fs) back h = (subst (λ a. Succeeds a f.reply) (sym h.0) tt, back made' fs h.2)

take_succeeds : (name : List ℕ) (rule : LockRule) (tasks : List Task) (made : List (List ℕ)) (reply : Reply) (e : Entry) (es : List Entry) → Succeed tasks → e.act ≡ lock_act name rule → e.reply ≡ reply
    → Plays (and_then (after_take name made reply) (behind (Take name rule) tasks made)) es AllDone → AllSucceed (e ∷ es)
take_succeeds name rule tasks made (Held sleeps forced) e es back a r h = (
  of_entry Succeeds e (lock_act name rule) (Held sleeps forced) a r tt,
  told_succeeds (nat_eq forced 0) (forcing_line name) (Take name rule) tasks made (with_name name made) es back h,
)
take_succeeds name rule tasks made other e es back a r h = absurd (never_done (reverse made) (sorry_line name) es h)

give_succeeds : (name : List ℕ) (tasks : List Task) (made : List (List ℕ)) (reply : Reply) (e : Entry) (es : List Entry) → Succeed tasks → e.act ≡ Unlock name → e.reply ≡ reply
    → Plays (behind (Give name) tasks made (after_give name made reply)) es AllDone → AllSucceed (e ∷ es)
give_succeeds name tasks made Removed e es back a r h = (of_entry Succeeds e (Unlock name) Removed a r tt, back (without_name name made) es h)
give_succeeds name tasks made other e es back a r h = absurd (never_done (reverse made) (sorry_line name) es h)

-- where the tasks are all done, each lock was got, and each that was to be given back was
pub tasks_succeed : (tasks : List Task) (made : List (List ℕ)) (es : List Entry) → Plays (do_tasks tasks made) es AllDone → AllSucceed es
tasks_succeed [] made [] h = tt
tasks_succeed [] made (e ∷ es) h = absurd h
tasks_succeed (Take name rule ∷ tasks) made [] h = absurd h
tasks_succeed (Take name rule ∷ tasks) made (e ∷ es) h = take_succeeds name rule tasks made e.reply e es (tasks_succeed tasks) h.0 refl h.2
tasks_succeed (Give name ∷ tasks) made [] h = absurd h
tasks_succeed (Give name ∷ tasks) made (e ∷ es) h = give_succeeds name tasks made e.reply e es (tasks_succeed tasks) h.0 refl h.2
