-- How a run went, and the account of it.
use Rattle.std.proofs.Common.{◌≡◌, List, ℕ, false, true, [], ◌++◌, Option, Some, None, IsSome, refl, sym, ap, ◌∙◌, subst, append-nil}
use Rattle.pm_host.proofs.RunsJoin.{ran_none}
use Rattle.pm_journal.specs.JournalState.{JournalState}
use Rattle.pm_journal.specs.Entries.{View, Accounts}
use Rattle.pm_journal.specs.Executed.{TakesCalls}
use Rattle.pm_journal.specs.Walking.{Means, Completes}
use Rattle.pm_journal.proofs.AccountsJoin.{accounts_none}
use Rattle.pm_top.specs.Words.{command_line}
use Rattle.pm_meaning.specs.Courses.{advance, run_of}
use Rattle.pm_meaning.specs.Status.{status_number}
use Rattle.pm_meaning.specs.declared.command_line.CommandLine.{CommandLine}
use Rattle.pm_meaning.specs.declared.ending.Ending.{Ending}
use Rattle.pm_meaning.specs.declared.status.Status.{Status}
use Rattle.pm_meaning.specs.declared.status.Status.TheVariants.{Success, Usage, DataError, NoInput, SystemError, CannotCreate, InputOutput, TemporaryFailure}
use Rattle.pm_run.specs.RunningOut.{GaveUp}
use Rattle.pm_streams.specs.Reading.{Drained, ReadPast, StopsFailed}
use Rattle.pm_top.specs.Run.{Run}
use Rattle.pm_top.specs.Outcome.{SaysLine, LastLine, status_line, Refused, BadWords, ReadFault, TooLong, NotBegun, HasMeaning, LeftOff, Outcome, bad_words, read_fault, too_long, not_begun, left_off, meant}
use Rattle.pm_top.specs.Account.{SaysLast, Account}
use Rattle.pm_top.specs.Traced.{IsUnbegun, Traced}

took_none : (v : View) → TakesCalls [] v v
took_none v = record { ran = ran_none v.host; out_same = refl; err_same = refl; same = refl }

abbrev IsWhole : (run : Run) → Outcome run → Type 0
IsWhole run (left_off h) = ⊥
IsWhole run other = Unit {0}

-- the account of a run that wasn't left off
whole_account : (run : Run) (how : Outcome run) (middle : View) → IsWhole run how → Accounts run.entries run.before middle
    → run.after.host ≡ middle.host → run.after.out ≡ middle.out → SaysLast run how middle.err run.after.err → Account run how
whole_account run (bad_words h) middle u a hs os s =
    record { entries_are = sym (append-nil run.entries); middle = middle; accounts = a; later = middle; took = took_none middle; last = middle; back = accounts_none middle; stops = refl; host_same = hs; out_same = os; said = s }
whole_account run (read_fault h) middle u a hs os s =
    record { entries_are = sym (append-nil run.entries); middle = middle; accounts = a; later = middle; took = took_none middle; last = middle; back = accounts_none middle; stops = refl; host_same = hs; out_same = os; said = s }
whole_account run (too_long h) middle u a hs os s =
    record { entries_are = sym (append-nil run.entries); middle = middle; accounts = a; later = middle; took = took_none middle; last = middle; back = accounts_none middle; stops = refl; host_same = hs; out_same = os; said = s }
whole_account run (not_begun h) middle u a hs os s =
    record { entries_are = sym (append-nil run.entries); middle = middle; accounts = a; later = middle; took = took_none middle; last = middle; back = accounts_none middle; stops = refl; host_same = hs; out_same = os; said = s }
whole_account run (left_off h) middle u a hs os s = absurd u
whole_account run (meant h) middle u a hs os s =
    record { entries_are = sym (append-nil run.entries); middle = middle; accounts = a; later = middle; took = took_none middle; last = middle; back = accounts_none middle; stops = refl; host_same = hs; out_same = os; said = s }

refused_account : (run : Run) (status : Status) (how : Outcome run) → IsWhole run how → Refused status run → SaysLast run how run.before.err run.after.err → Account run how
refused_account run status how u r said =
    whole_account run how run.before u (subst (λ l. Accounts l run.before run.before) (sym r.nothing) (accounts_none run.before)) r.host_same r.out_same said

-- from what the function that says the line ensures
pub refused : (run : Run) (status : Status) → run.status ≡ status_number status → run.entries ≡ [] → run.after.host ≡ run.before.host → run.after.out ≡ run.before.out
    → SaysLine (status_line status) run.before.err run.after.err → Refused status run
refused run status is none hs os s = record { status_is = is; nothing = none; host_same = hs; out_same = os; said = s }

bad_words_run : (run : Run) → command_line run.words ≡ None → run.rest ≡ run.source → Refused Usage run → Traced run
bad_words_run run n same r =
    let h : BadWords run = record { unread = n; source_same = same; refused = r } in record { how = bad_words h; account = refused_account run Usage (bad_words h) tt r r.said }

read_fault_run : (run : Run) (line : CommandLine) → command_line run.words ≡ Some line → StopsFailed run.source run.rest → Refused InputOutput run → Traced run
read_fault_run run line is stopped r =
    let h : ReadFault run = record { line = line; read = is; stopped = stopped; refused = r } in record { how = read_fault h; account = refused_account run InputOutput (read_fault h) tt r r.said }

too_long_run : (run : Run) (line : CommandLine) → command_line run.words ≡ Some line → ReadPast run.source run.rest → Refused DataError run → Traced run
too_long_run run line is past r =
    let h : TooLong run = record { line = line; read = is; past = past; refused = r } in record { how = too_long h; account = refused_account run DataError (too_long h) tt r r.said }

not_begun_run : (run : Run) (line : CommandLine) → command_line run.words ≡ Some line → Refused SystemError run → Traced run
not_begun_run run line is r = let h : NotBegun run = record { line = line; read = is; refused = r } in record { how = not_begun h; account = refused_account run SystemError (not_begun h) tt r r.said }

some_line : (found : Option CommandLine) → IsSome found → (line : CommandLine) × (found ≡ Some line)
some_line (Some line) some = (line, refl)
some_line None some = let e : false ≡ true = some in cc

-- no process began, for this status
pub unbegun_run : (run : Run) (status : Status) → IsUnbegun status run.words run.source run.rest → Refused status run → Traced run
unbegun_run run Usage h r = bad_words_run run h.0 h.1 r
unbegun_run run InputOutput h r = let read = some_line (command_line run.words) h.0 in read_fault_run run read.0 read.1 h.1 r
unbegun_run run DataError h r = let read = some_line (command_line run.words) h.0 in too_long_run run read.0 read.1 h.1 r
unbegun_run run SystemError h r = let read = some_line (command_line run.words) h in not_begun_run run read.0 read.1 r
unbegun_run run Success h r = absurd h
unbegun_run run NoInput h r = absurd h
unbegun_run run CannotCreate h r = absurd h
unbegun_run run TemporaryFailure h r = absurd h

-- a process that came to its end
pub meant_run : (run : Run) (line : CommandLine) (mail : List ℕ) (ending : Ending) (x y : JournalState) (middle : View) → x.entries ≡ [] → run.entries ≡ y.entries
    → Completes advance (run_of line run.env mail) ending x y run.before middle → command_line run.words ≡ Some line → Drained mail run.source run.rest → run.status ≡ ending.status
    → run.after.host ≡ middle.host → run.after.out ≡ middle.out → LastLine ending.end middle.err run.after.err → Traced run
meant_run run line mail ending x y middle e is h read drained status hs os last =
    let same : h.more ≡ run.entries = sym (is ∙ (h.entries ∙ ap (λ l. l ++ h.more) e)) in
    let means : Means advance (run_of line run.env mail) run.entries ending = subst (λ l. Means advance (run_of line run.env mail) l ending) same h.means in
    let how : HasMeaning run = record { line = line; read = read; mail = mail; drained = drained; ending = ending; means = means; status_is = status } in
    record { how = meant how; account = whole_account run (meant how) middle tt (subst (λ l. Accounts l run.before middle) same h.accounts) hs os last }

-- a process that was left off
pub left_run : (run : Run) (line : CommandLine) (mail : List ℕ) (x y : JournalState) (last : View) → x.entries ≡ [] → run.entries ≡ y.entries
    → GaveUp (run_of line run.env mail) x y run.before last → command_line run.words ≡ Some line → Drained mail run.source run.rest → run.status ≡ status_number SystemError
    → run.after.host ≡ last.host → run.after.out ≡ last.out → SaysLine (status_line SystemError) last.err run.after.err → Traced run
left_run run line mail x y last e is gave read drained status hs os said =
    let h = gave.abandoned in
    let parts : run.entries ≡ h.done ++ h.given = is ∙ (h.entries ∙ ap (λ l. l ++ h.done ++ h.given) e) in
    let how : LeftOff run = record { status_is = status; line = line; read = read; mail = mail; drained = drained; done = h.done; left_off = h.left_off; unfinished = h.unfinished; place = gave.place; held = h.held; kept = h.kept; given = h.given; unlocks = h.unlocks; entries_are = parts } in
    record {
      how = left_off how;
      account = record { entries_are = parts; middle = h.middle; accounts = h.accounts; later = h.later; took = h.took; last = last; back = h.back; stops = tt; host_same = hs; out_same = os; said = said };
    }
