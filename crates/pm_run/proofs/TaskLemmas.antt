-- A process that is run by its parts.
use Rattle.std.proofs.Common.{◌≡◌, ◌∙◌, ℕ, true, List, Option, Some, None, map, refl, sym, ap, subst}
use Rattle.pm_journal.specs.JournalState.{JournalState}
use Rattle.pm_journal.specs.Entries.{View}
use Rattle.pm_journal.specs.Executed.{GivesEach}
use Rattle.pm_journal.specs.Held.{Keeping}
use Rattle.pm_journal.specs.Walking.{Reaches}
use Rattle.pm_journal.proofs.WantsMemory.{out_anywhere}
use Rattle.pm_meaning.specs.Apart.{bare, state_of}
use Rattle.pm_meaning.specs.Courses.{Course, Others, now_at, advance}
use Rattle.pm_meaning.specs.Minds.{Mind}
use Rattle.pm_meaning.specs.Running.{State, Over, step}
use Rattle.pm_meaning.specs.declared.ending.Ending.{Ending}
use Rattle.pm_meaning.specs.declared.mind.Mind.{Mind as Parts}
use Rattle.pm_meaning.specs.declared.mind.Opening.{Opening as Opens}
use Rattle.pm_meaning.specs.declared.mind.Shared.{Shared}
use Rattle.pm_meaning.specs.declared.process.End.{End}
use Rattle.pm_meaning.proofs.Beside.{plain, accounts_plain, takes_plain}
use Rattle.pm_run.specs.Copies.{others_of}
use Rattle.pm_run.specs.HeldLocks.{AllRight, HoldsRight, only}
use Rattle.pm_run.specs.Nested.{frame_of, items_in}
use Rattle.pm_run.specs.RunningOut.{MayRunOut, RunMayRunOut, RunsOut, OfNew}
use Rattle.pm_run.specs.Tasks.{ComesTo, EndsRight, GivesUpAll, Processes, Stand, others_in, seen, seen_by, started, tasks_of}
use Rattle.pm_run.specs.declared.frames.RcFrame.{RcFrame}
use Rattle.pm_run.specs.declared.parts.ProcessEnd.{ProcessEnd}
use Rattle.pm_run.specs.declared.parts.ProcessEnd.TheVariants as ended
use Rattle.pm_run.proofs.RightRuns.{run_reaches}
use Rattle.pm_run.proofs.NamesOnce.{only_global}
use Rattle.pm_run.proofs.MayLemmas.{may_at_once}
use Rattle.pm_run.proofs.RunOutLemmas.{ran_out_at_once, ran_out_in_run}

-- memory may be wanting where a task begins
started_may : (opening : Option Opens) (frames : List RcFrame) (rcfiles : List (List ℕ)) (p : Mind) (x : JournalState) → OfNew (MayRunOut (started opening frames rcfiles p)) x x
started_may (Some o) frames rcfiles p x = λ more e. tt
started_may None frames rcfiles p x = may_at_once (items_in (map frame_of frames)) (record p { is_clone = true; later = rcfiles }) x

-- memory was wanting before the process began
pub wants_first : (opening : Option Opens) (frames : List RcFrame) (rcfiles : List (List ℕ)) (p : Mind) (o : Others) (held : List (List ℕ)) (x y : JournalState) (a b : View) → Keeping x held → GivesEach held x y a b
    → GivesUpAll (now_at o (started opening frames rcfiles p)) x y a b
wants_first opening frames rcfiles p o held x y a b keeping gives =
    let s = started opening frames rcfiles p in
    record {
      held = held;
      journal = x;
      view = a;
      out = ran_out_in_run o s x x a a (ran_out_at_once step MayRunOut s x x a a (out_anywhere (step s) x x a refl) (started_may opening frames rcfiles p x));
      keeping = keeping;
      gives = gives;
    }

-- a process that begins in this rcfile, in a run that has opened so many
abbrev pub in_rcfile : List ℕ → Shared → Mind → Mind
in_rcfile rcfile s p = record p { rcfile = rcfile; openings = s.openings }

abbrev with_left : Parts → Shared → Mind → Mind
with_left m s p = record p { openings = s.openings; later = m.rcfiles.items }

-- the parts of a process that is over, put back
pub seen_back : (m : Parts) (s : Shared) (p : Mind) → state_of m s.host_name s.placed ≡ bare p → s.openings ≡ p.openings → m.rcfiles.items ≡ p.later → seen p ≡ seen_by m s
seen_back m s p state openings later =
    sym (ap (with_left m s) state
    ∙ (ap (λ n. record (bare p) { openings = n; later = m.rcfiles.items }) openings ∙ ap (λ r. record (bare p) { openings = p.openings; later = r }) later))

-- it came to its end
pub task_comes : (end : End) (m : Parts) (old new : Stand) (s t : State) (p : Mind) → s ≡ t → new.shared.clones ≡ new.queue.made → seen p ≡ seen_by m new.shared
    → ((first : Option Ending) → Reaches {X = Ending} advance (now_at (others_in old first) s) (now_at (others_of new.queue first) (Over end p)) old.journal new.journal old.view new.view) → ComesTo end m t old new
task_comes end m old new s t p e made sees runs = (
  p,
  sees,
  λ first.
      subst (λ n. Reaches {X = Ending} advance (now_at (others_in old first) t) (now_at (record { queue = tasks_of new.queue; made = n; first = first }) (Over end p)) old.journal new.journal old.view new.view) (sym made)
      (subst (λ v. Reaches {X = Ending} advance (now_at (others_in old first) v) (now_at (others_of new.queue first) (Over end p)) old.journal new.journal old.view new.view) e (runs first)),
)

-- or memory was wanting in it
pub task_wants : (o : Others) (s t : State) (held : List (List ℕ)) (x y z : JournalState) (a b c : View) → s ≡ t → RunsOut {X = Ending} advance RunMayRunOut (now_at o s) x y a b → Keeping y held → GivesEach held y z b c
    → GivesUpAll (now_at o t) x z a c
task_wants o s t held x y z a b c e out keeping gives = record {
  held = held;
  journal = y;
  view = b;
  out = subst (λ v. RunsOut {X = Ending} advance RunMayRunOut (now_at o v) x y a b) e out;
  keeping = keeping;
  gives = gives;
}

-- what stands afterwards, whoever holds the host and the sinks
abbrev pub held_plainly : Stand → Stand
held_plainly s = record s { view = plain s.view }

reaches_plain : (c d : Course) (x y : JournalState) (a b : View) → Reaches {X = Ending} advance c d x y a b → Reaches {X = Ending} advance c d x y (plain a) (plain b)
reaches_plain c d x y a b h = record {
  more = h.more;
  entries = h.entries;
  arrives = h.arrives;
  means = h.means;
  unfinished = h.unfinished;
  accounts = accounts_plain h.more a b h.accounts;
}

out_plain : (c : Course) (x y : JournalState) (a b : View) → RunsOut {X = Ending} advance RunMayRunOut c x y a b → RunsOut {X = Ending} advance RunMayRunOut c x y (plain a) (plain b)
out_plain c x y a b k = let h = k.interrupted in record {
  interrupted = record {
    more = h.more;
    entries = h.entries;
    middle = plain h.middle;
    accounts = accounts_plain h.more a h.middle h.accounts;
    left_off = h.left_off;
    unfinished = h.unfinished;
    took = takes_plain h.left_off h.middle b h.took;
  };
  place = k.place;
}

gives_plain : (held : List (List ℕ)) (x y : JournalState) (a b : View) → GivesEach held x y a b → GivesEach held x y (plain a) (plain b)
gives_plain held x y a b h = record { given = h.given; entries = h.entries; unlocks = h.unlocks; accounts = accounts_plain h.given a b h.accounts }

gives_up_plain : (c : Course) (x y : JournalState) (a b : View) → GivesUpAll c x y a b → GivesUpAll c x y (plain a) (plain b)
gives_up_plain c x y a b h = record {
  held = h.held;
  journal = h.journal;
  view = plain h.view;
  out = out_plain c x h.journal a h.view h.out;
  keeping = h.keeping;
  gives = gives_plain h.held h.journal y h.view b h.gives;
}

comes_plain : (end : End) (m : Parts) (s : State) (old new : Stand) → ComesTo end m s old new → ComesTo end m s (held_plainly old) (held_plainly new)
comes_plain end m s old new h = (
  h.0,
  h.1,
  λ first. reaches_plain (now_at (others_in old first) s) (now_at (others_in new first) (Over end h.0)) old.journal new.journal old.view new.view (h.2 first),
)

pub processes_plain : (came : ProcessEnd) (s : State) (old new : Stand) → Processes came s old new → Processes came s (held_plainly old) (held_plainly new)
processes_plain (ended.Delivered m) s old new h = comes_plain _ m s old new h
processes_plain (ended.FellOff m) s old new h = comes_plain _ m s old new h
processes_plain (ended.HostOff m) s old new h = comes_plain _ m s old new h
processes_plain (ended.NoRc m) s old new h = comes_plain _ m s old new h
processes_plain ended.Memory s old new h = λ first. gives_up_plain (now_at (others_in old first) s) old.journal new.journal old.view new.view (h first)

-- the references after the process are those before it
comes_back : (end : End) (m : Parts) (s : State) (old new : Stand) → ComesTo end m s old new → new.view.references ≡ old.view.references
comes_back end m s old new h = (h.2 None).accounts.same

gives_up_back : (c : Course) (x y : JournalState) (a b : View) → GivesUpAll c x y a b → b.references ≡ a.references
gives_up_back c x y a b h = h.gives.accounts.same ∙ (h.out.interrupted.took.same ∙ h.out.interrupted.accounts.same)

pub processes_back : (came : ProcessEnd) (s : State) (old new : Stand) → Processes came s old new → new.view.references ≡ old.view.references
processes_back (ended.Delivered m) s old new h = comes_back _ m s old new h
processes_back (ended.FellOff m) s old new h = comes_back _ m s old new h
processes_back (ended.HostOff m) s old new h = comes_back _ m s old new h
processes_back (ended.NoRc m) s old new h = comes_back _ m s old new h
processes_back ended.Memory s old new h = gives_up_back (now_at (others_in old None) s) old.journal new.journal old.view new.view (h None)

-- what is left held of a process that began with the locks of its blocks and LOCKFILE's
comes_right : (end : End) (m : Parts) (s : State) (old new : Stand) → ComesTo end m s old new → HoldsRight s → AllRight (tasks_of old.queue) → (m.locks.names ≡ only m.global) × AllRight (tasks_of new.queue)
comes_right end m s old new h right all =
    let p = h.0 in
    let after = run_reaches (now_at (others_in old None) s) (now_at (others_in new None) (Over end p)) old.journal new.journal old.view new.view (right, all) (h.2 None) in
    let locks : p.locks ≡ m.locks.names = ap (λ (q : Mind). q.locks) h.1 in
    let global : p.global ≡ m.global = ap (λ (q : Mind). q.global) h.1 in
    (sym locks ∙ only_global p.locks p.global after.0 ∙ ap only global, after.1)

pub processes_right : (came : ProcessEnd) (s : State) (old new : Stand) → Processes came s old new → HoldsRight s → AllRight (tasks_of old.queue) → EndsRight came (tasks_of new.queue)
processes_right (ended.Delivered m) s old new h right all = comes_right _ m s old new h right all
processes_right (ended.FellOff m) s old new h right all = comes_right _ m s old new h right all
processes_right (ended.HostOff m) s old new h right all = comes_right _ m s old new h right all
processes_right (ended.NoRc m) s old new h right all = comes_right _ m s old new h right all
processes_right ended.Memory s old new h right all = tt
