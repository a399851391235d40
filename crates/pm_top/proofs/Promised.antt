-- The promise, from how a run went and the account of it.
use Rattle.std.proofs.Common.{◌≡◌, List, [], ◌++◌, refl, sym, ap, ◌∙◌, subst}
use Rattle.pm_host.specs.Told.{HostView, Tells, Adds}
use Rattle.pm_host.specs.Runs.{Ran, Steps, after_calls, child_after}
use Rattle.pm_host.specs.declared.answers.Child.TheVariants.{NoChild}
use Rattle.pm_host.proofs.RunsJoin.{tells_then, ran_join, child_after-append}
use Rattle.pm_journal.specs.JournalState.{JournalState}
use Rattle.pm_journal.specs.Entries.{View, counts_of, view_of, Honest, joined, after_entries, all_said, all_written, Frame, AllCovered}
use Rattle.pm_journal.specs.Held.{Keeping, AllGivenBack}
use Rattle.pm_journal.specs.declared.acts.Entry.{Entry}
use Rattle.pm_journal.proofs.AccountsJoin.{honest_join, covered_join, adds_then, all_said-append, all_written-append, accounts_effect}
use Rattle.pm_journal.proofs.DeliveriesHold.{accounts_deliver}
use Rattle.pm_journal.proofs.KeepsJoin.{all_given_back}
use Rattle.pm_journal.proofs.LocksLeft.{all_left_faulted}
use Rattle.pm_journal.proofs.ReplyOf.{protocol_reply}
use Rattle.pm_top.specs.Run.{Run}
use Rattle.pm_top.specs.Outcome.{Outcome, bad_words, read_fault, too_long, not_begun, left_off, meant}
use Rattle.pm_top.specs.Account.{done_in, calls_in, given_in, Account}
use Rattle.pm_top.specs.Promise.{IsFramed, Promise}
use Rattle.pm_top.specs.Traced.{Traced}
use Rattle.pm_journal.proofs.ChildrenStay.{no_child_left}
use Rattle.pm_meaning.proofs.ClearRun.{clear_is_well}
use Rattle.pm_meaning.proofs.EndStatus.{end_has_status}
use Rattle.pm_meaning.proofs.StoredDone.{stored_is_done}
use Rattle.pm_meaning.proofs.DeliveredLast.{delivered_is_done}
use Rattle.pm_run.proofs.NotDeliveredLemmas.{has_not_delivered}
use Rattle.pm_top.proofs.Faultless.{faultless_in}
use Rattle.pm_top.proofs.Grown.{grown_in, calls_child}
use Rattle.pm_top.proofs.Refusals.{meaning_of, starved_of, refuses_of}

-- what the run did with its host, in one
ran_in : (run : Run) (how : Outcome run) (a : Account run how) → Ran (joined a.accounts.groups ++ calls_in run how ++ joined a.back.groups) run.before.host run.after.host
ran_in run how a =
    let first = ran_join (joined a.accounts.groups) (calls_in run how) run.before.host a.middle.host a.later.host a.accounts.ran a.took.ran in
    let whole = ran_join (joined a.accounts.groups ++ calls_in run how) (joined a.back.groups) run.before.host a.later.host a.last.host first a.back.ran in
    subst (λ v. Ran (joined a.accounts.groups ++ calls_in run how ++ joined a.back.groups) run.before.host v) (sym a.host_same) whole

tree_in : (run : Run) (how : Outcome run) (a : Account run how)
    → Tells (λ old new. new ≡ after_entries (given_in run how) a.back.groups (after_calls (calls_in run how) (after_entries (done_in run how) a.accounts.groups old))) run.before.host.world run.after.host.world
tree_in run how a =
    let first = tells_then (λ w v. v ≡ after_entries (done_in run how) a.accounts.groups w) (Steps (calls_in run how)) (λ w v. v ≡ after_calls (calls_in run how) (after_entries (done_in run how) a.accounts.groups w))
    (λ u v w f s. s.made ∙ ap (after_calls (calls_in run how)) f) run.before.host.world a.middle.host.world a.later.host.world (accounts_effect (done_in run how) run.before a.middle a.accounts) a.took.ran.world in
    let whole = tells_then (λ w v. v ≡ after_calls (calls_in run how) (after_entries (done_in run how) a.accounts.groups w)) (λ w v. v ≡ after_entries (given_in run how) a.back.groups w)
    (λ w v. v ≡ after_entries (given_in run how) a.back.groups (after_calls (calls_in run how) (after_entries (done_in run how) a.accounts.groups w)))
    (λ u v w f s. s ∙ ap (after_entries (given_in run how) a.back.groups) f) run.before.host.world a.later.host.world a.last.host.world first (accounts_effect (given_in run how) a.later a.last a.back) in
    subst (λ o. Tells (λ w v. v ≡ after_entries (given_in run how) a.back.groups (after_calls (calls_in run how) (after_entries (done_in run how) a.accounts.groups w))) run.before.host.world o) (ap (λ h. h.world) (sym a.host_same)) whole

written_in : (run : Run) (how : Outcome run) (a : Account run how) → Tells (Adds (all_written run.entries)) run.before.out.bytes run.after.out.bytes
written_in run how a =
    let same : all_written run.entries ≡ all_written (done_in run how) ++ all_written (given_in run how) = ap all_written a.entries_are ∙ all_written-append (done_in run how) (given_in run how) in
    let next : Tells (Adds (all_written (given_in run how))) a.middle.out.bytes run.after.out.bytes =
    subst (λ v. Tells (Adds (all_written (given_in run how))) a.middle.out.bytes v.bytes) (sym a.out_same) (subst (λ v. Tells (Adds (all_written (given_in run how))) v.bytes a.last.out.bytes) a.took.out_same a.back.written) in
    subst (λ l. Tells (Adds l) run.before.out.bytes run.after.out.bytes) (sym same)
    (tells_then (Adds (all_written (done_in run how))) (Adds (all_written (given_in run how))) (Adds (all_written (done_in run how) ++ all_written (given_in run how))) (adds_then (all_written (done_in run how)) (all_written (given_in run how)))
    run.before.out.bytes a.middle.out.bytes run.after.out.bytes a.accounts.written next)

said_in : (run : Run) (how : Outcome run) (a : Account run how) → Tells (Adds (all_said run.entries)) run.before.err.bytes a.last.err.bytes
said_in run how a =
    let same : all_said run.entries ≡ all_said (done_in run how) ++ all_said (given_in run how) = ap all_said a.entries_are ∙ all_said-append (done_in run how) (given_in run how) in
    let next : Tells (Adds (all_said (given_in run how))) a.middle.err.bytes a.last.err.bytes = subst (λ v. Tells (Adds (all_said (given_in run how))) v.bytes a.last.err.bytes) a.took.err_same a.back.said in
    subst (λ l. Tells (Adds l) run.before.err.bytes a.last.err.bytes) (sym same)
    (tells_then (Adds (all_said (done_in run how))) (Adds (all_said (given_in run how))) (Adds (all_said (done_in run how) ++ all_said (given_in run how))) (adds_then (all_said (done_in run how)) (all_said (given_in run how)))
    run.before.err.bytes a.middle.err.bytes a.last.err.bytes a.accounts.said next)

-- a frame up to a view that differs from the last only in name
frame_at : (es : List Entry) (a v w : View) (h : HostView) (run : Run) → Frame es (counts_of a) (counts_of v) → w ≡ v → run.after.host ≡ w.host → run.after.out ≡ w.out
    → Frame es (counts_of a) (counts_of (view_of run.after.host run.after.out w.err))
frame_at es a v w h run f e hs os =
    subst (λ o. Frame es (counts_of a) (counts_of (view_of run.after.host o w.err))) (sym os)
    (subst (λ o. Frame es (counts_of a) (counts_of (view_of o w.out w.err))) (sym hs) (subst (λ u. Frame es (counts_of a) (counts_of u)) (sym e) f))

framed_in : (run : Run) (how : Outcome run) (a : Account run how) → IsFramed run how a
framed_in run (bad_words h) a = frame_at run.entries run.before a.middle a.last a.last.host run a.accounts.framed a.stops a.host_same a.out_same
framed_in run (read_fault h) a = frame_at run.entries run.before a.middle a.last a.last.host run a.accounts.framed a.stops a.host_same a.out_same
framed_in run (too_long h) a = frame_at run.entries run.before a.middle a.last a.last.host run a.accounts.framed a.stops a.host_same a.out_same
framed_in run (not_begun h) a = frame_at run.entries run.before a.middle a.last a.last.host run a.accounts.framed a.stops a.host_same a.out_same
framed_in run (left_off h) a = (a.accounts.framed, frame_at h.given a.later a.last a.last a.last.host run a.back.framed refl a.host_same a.out_same)
framed_in run (meant h) a = frame_at run.entries run.before a.middle a.last a.last.host run a.accounts.framed a.stops a.host_same a.out_same

-- no child runs after the calls of a run
none_runs : (run : Run) (how : Outcome run) (a : Account run how) → child_after (joined a.accounts.groups ++ calls_in run how ++ joined a.back.groups) NoChild ≡ NoChild
none_runs run how a =
    child_after-append (joined a.accounts.groups ++ calls_in run how) (joined a.back.groups) NoChild
    ∙ ap (child_after (joined a.back.groups))
    (child_after-append (joined a.accounts.groups) (calls_in run how) NoChild
    ∙ ap (child_after (calls_in run how)) (no_child_left (done_in run how) a.accounts.groups a.accounts.honest)
    ∙ calls_child run how)
    ∙ no_child_left (given_in run how) a.back.groups a.back.honest

-- the entries of the whole run have the calls of their protocols
honest_in : (run : Run) (how : Outcome run) (a : Account run how) → Honest run.entries (a.accounts.groups ++ a.back.groups)
honest_in run how a = subst (λ l. Honest l (a.accounts.groups ++ a.back.groups)) (sym a.entries_are)
    (honest_join (done_in run how) (given_in run how) a.accounts.groups a.back.groups a.accounts.honest a.back.honest)

promised : (run : Run) → Traced run → AllGivenBack run.entries → run.before.host.child ≡ NoChild → Promise run
promised run t locks child = let a = t.account in record {
  how = t.how;
  account = a;
  meaning = meaning_of run t.how;
  status = λ h. end_has_status h.line run.env h.mail run.entries h.ending h.means;
  state = record { tree = tree_in run t.how a; written = written_in run t.how a; said = said_in run t.how a };
  deliveries = accounts_deliver (done_in run t.how) run.before a.middle a.accounts;
  files = grown_in run t.how a;
  stored = stored_is_done;
  delivered = λ h. delivered_is_done h.line run.env h.mail run.entries h.ending h.means;
  locks = locks;
  left = all_left_faulted protocol_reply run.entries (a.accounts.groups ++ a.back.groups) (honest_in run t.how a) locks;
  causes = record {
    honest = honest_in run t.how a;
    ran = ran_in run t.how a;
    framed = framed_in run t.how a;
    covered = subst AllCovered (sym a.entries_are) (covered_join (done_in run t.how) (given_in run t.how) a.accounts.covered a.back.covered);
  };
  refusals = refuses_of run t.how;
  undelivered = λ h. has_not_delivered h.place.at h.place.begun h.place.allowed;
  memory = starved_of run t.how;
  complete = λ h clear. clear_is_well end_has_status h.line run.env h.mail run.entries h.ending h.means clear;
  faultless = faultless_in run t.how a;
  children = (ran_in run t.how a).child ∙ (ap (child_after (joined a.accounts.groups ++ calls_in run t.how ++ joined a.back.groups)) child ∙ none_runs run t.how a);
}

-- a run that keeps no lock
pub promised_kept : (run : Run) (x : JournalState) → run.entries ≡ x.entries → Traced run → Keeping x [] → run.before.host.child ≡ NoChild → Promise run
promised_kept run x is t k child = promised run t (subst AllGivenBack (sym is) (all_given_back x.entries [] k.keeps)) child

-- a run that noted nothing
pub promised_refused : (run : Run) → run.entries ≡ [] → Traced run → run.before.host.child ≡ NoChild → Promise run
promised_refused run none t child = promised run t (subst AllGivenBack (sym none) tt) child

-- the promise of a run over other objects that tell the same
pub promised_lent : (run : Run) (before after : View) → before ≡ run.before → after ≡ run.after → Promise run
    → Promise (record { words = run.words; env = run.env; status = run.status; source = run.source; rest = run.rest; entries = run.entries; before = before; after = after })
promised_lent run before after b a p =
    subst (λ v. Promise (record { words = run.words; env = run.env; status = run.status; source = run.source; rest = run.rest; entries = run.entries; before = before; after = v })) (sym a)
    (subst (λ v. Promise (record { words = run.words; env = run.env; status = run.status; source = run.source; rest = run.rest; entries = run.entries; before = v; after = run.after })) (sym b) p)
