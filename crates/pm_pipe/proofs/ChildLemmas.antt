-- A child's run, put together.
use Rattle.std.proofs.Common.{◌≡◌, ◌≤◌, ℕ, Bool, true, false, List, [], ◌∷◌, ◌++◌, length, take, drop, Option, Some, None, Result, Ok, Err, IfOk, OnErr, arith, refl, sym, ap, ◌∙◌, subst}
use Rattle.std.proofs.lemmas.Grind.{common_steps}
use Rattle.pm_bytes.specs.declared.error.Memory.{Memory as WantOfMemory}
use Rattle.pm_host.specs.Told.{HostView, Makes}
use Rattle.pm_host.specs.Runs.{Ran, logged}
use Rattle.pm_host.proofs.RunsJoin.{ran_none, ran_one, ran_join, ran_then, transitions_then}
use Rattle.pm_host.specs.declared.answers.Finished.{Finished}
use Rattle.pm_host.specs.declared.answers.Started.TheVariants.{Started as StartedOk, Failed as StartFailed}
use Rattle.pm_host.specs.declared.command.Command.{Command}
use Rattle.pm_host.specs.declared.calls.Call.TheVariants.{Start, Feed, Take, Finish}
use Rattle.pm_host.specs.declared.calls.Answer.{Answer}
use Rattle.pm_host.specs.declared.calls.Answer.TheVariants.{Start as AnswerStart, Finish as AnswerFinish}
use Rattle.pm_host.specs.declared.calls.Logged.{Logged}
use Rattle.pm_journal.specs.Appending.{IsFront}
use Rattle.pm_journal.specs.Children.{FeedOn, FeedAsks, FeedDone, FeedState, feed_heard, heard_feed, TakeState, TakeOn, TakeOver, TakeAsks, TakeDone, take_heard, heard_take, took_more, Takes, takes_output, run_calls, run_reply, not_started, was_run}
use Rattle.pm_journal.specs.declared.children.FeedEnd.{FeedEnd}
use Rattle.pm_journal.specs.declared.children.FeedEnd.TheVariants.{All as FedAll, Closed as FedUpTo, Failed as FedFailed}
use Rattle.pm_journal.specs.declared.children.TakeEnd.{TakeEnd}
use Rattle.pm_journal.specs.declared.children.TakeEnd.TheVariants.{All as CameAll, Failed as CameFailed}
use Rattle.pm_journal.specs.declared.acts.Reply.{Reply}
use Rattle.pm_journal.specs.declared.acts.Reply.TheVariants.{NotStarted as ReplyNotStarted}
use Rattle.pm_pipe.specs.Runs.{EndsRun, RunsTo, Feeding, Feeds, Taking, TakesAll, TakesWhere, LeavesTaking, Brings}
use Rattle.pm_pipe.specs.declared.child.Came.TheVariants.{More, End, Failed}

take_front : (k : ℕ) (xs : List ℕ) → IsFront (take k xs) xs
take_front k xs = grind (arith, common_steps)

-- one feed more, of the next k bytes at most
pub fed_more : (input : List ℕ) (k taken : ℕ) (answer : Answer) (a b c : HostView) → Feeding input (FeedOn taken) a b → Makes (Feed (take k (drop taken input))) answer b c → 1 ≤ length (take k (drop taken input))
    → Feeding input (heard_feed taken answer) a c
fed_more input k taken answer a b c h makes some =
    let part = take k (drop taken input) in
    let front : IsFront part (drop taken input) = take_front k (drop taken input) in
    record {
      calls = h.calls ++ logged (Feed part) answer ∷ [];
      ran = ran_then h.calls (Feed part) answer a b c h.ran makes;
      walk = transitions_then (FeedAsks input) feed_heard (FeedOn 0) h.calls (FeedOn taken) (Feed part) answer h.walk (record { part = part; is = refl; front = front; some = some }) makes.fits;
    }

pub took_none : (s : HostView) → Taking (TakeOn []) s s
took_none s = record { calls = []; ran = ran_none s; prefix = refl }

-- one take more
pub took_some : (so_far : List ℕ) (room : ℕ) (answer : Answer) (a b c : HostView) → Taking (TakeOn so_far) a b → Makes (Take room) answer b c → 1 ≤ room → room ≤ 4096 → length so_far ≤ 67108864
    → Taking (heard_take so_far answer) a c
took_some so_far room answer a b c h makes some small wanted = record {
  calls = h.calls ++ logged (Take room) answer ∷ [];
  ran = ran_then h.calls (Take room) answer a b c h.ran makes;
  prefix = transitions_then TakeAsks take_heard (TakeOn []) h.calls (TakeOn so_far) (Take room) answer h.prefix (record { room = room; is = refl; some = some; small = small; wanted = wanted }) makes.fits;
}

more_taken : (so_far part : List ℕ) → 1 ≤ length part → took_more so_far part ≡ TakeOn (so_far ++ part)
more_taken so_far [] h = absurd (omega arith)
more_taken so_far (b ∷ part) h = refl

pub took_on : (so_far new : List ℕ) (answer : Answer) (a c : HostView) → Taking (heard_take so_far answer) a c → Brings (Ok More) answer so_far new → Taking (TakeOn new) a c
took_on so_far new answer a c h m =
    let at : heard_take so_far answer ≡ TakeOn new = ap (heard_take so_far) m.1 ∙ more_taken so_far m.0 m.2 ∙ ap TakeOn (sym m.3) in
    subst (λ x. Taking x a c) at h

done_taking : (at : TakeState) (end : TakeEnd) (a c : HostView) → Taking at a c → TakeDone at end → TakesAll end a c
done_taking at end a c h done = record { calls = h.calls; ran = h.ran; group = record { at = at; prefix = h.prefix; done = done } }

pub took_all : (so_far new : List ℕ) (answer : Answer) (a c : HostView) → Taking (heard_take so_far answer) a c → Brings (Ok End) answer so_far new → TakesAll (CameAll new) a c
took_all so_far new answer a c h m =
    let at : heard_take so_far answer ≡ TakeOver (CameAll new) = ap (heard_take so_far) m.0 ∙ ap (λ b. TakeOver (CameAll b)) (sym m.1) in
    done_taking (TakeOver (CameAll new)) (CameAll new) a c (subst (λ x. Taking x a c) at h) refl

pub took_fault : (so_far new : List ℕ) (answer : Answer) (a c : HostView) → Taking (heard_take so_far answer) a c → Brings (Ok Failed) answer so_far new → TakesAll CameFailed a c
took_fault so_far new answer a c h m =
    done_taking (TakeOver CameFailed) CameFailed a c (subst (λ x. Taking x a c) (ap (heard_take so_far) m.0) h) refl

pub child_not : (command : Command) (input : List ℕ) (want : Bool) (a b : HostView) → Makes (Start command want) (AnswerStart StartFailed) a b → RunsTo command input want (Some ReplyNotStarted) a b
child_not command input want a b makes = record {
  calls = logged (Start command want) (AnswerStart StartFailed) ∷ [];
  ran = ran_one (Start command want) (AnswerStart StartFailed) a b makes;
  group = not_started refl refl;
}

-- the calls of a child's run, one after the other
all_ran : (command : Command) (want : Bool) (feeds takes : List Logged) (finished : Finished) (a b c d e : HostView) → Makes (Start command want) (AnswerStart StartedOk) a b
    → Ran feeds b c → Ran takes c d → Makes Finish (AnswerFinish finished) d e → Ran (run_calls command want feeds takes finished) a e
all_ran command want feeds takes finished a b c d e starts fed took finishes =
    ran_join (logged (Start command want) (AnswerStart StartedOk) ∷ []) (feeds ++ (takes ++ logged Finish (AnswerFinish finished) ∷ [])) a b e
    (ran_one (Start command want) (AnswerStart StartedOk) a b starts)
    (ran_join feeds (takes ++ logged Finish (AnswerFinish finished) ∷ []) b c e fed (ran_then takes Finish (AnswerFinish finished) c d e took finishes))

pub asked_all : (b : Bool) (end : TakeEnd) (c d : HostView) → b ≡ true → TakesAll end c d → TakesWhere b end c d
asked_all b end c d e h = record { calls = h.calls; ran = h.ran; takes = subst (λ x. Takes x end h.calls) (sym e) h.group }

pub asked_none : (b : Bool) (c : HostView) → b ≡ false → TakesWhere b (CameAll []) c c
asked_none b c e = record { calls = []; ran = ran_none c; takes = subst (λ x. Takes x (CameAll []) []) (sym e) (refl, refl) }

pub asked_ok : (b : Bool) (c d : HostView) (r : Result TakeEnd WantOfMemory) → b ≡ true → IfOk r (λ end. TakesAll end c d) → IfOk r (λ end. TakesWhere b end c d)
asked_ok b c d (Ok end) e h = asked_all b end c d e h
asked_ok b c d (Err x) e h = tt

pub asked_err : (b : Bool) (c d : HostView) (r : Result TakeEnd WantOfMemory) → b ≡ true → OnErr r (LeavesTaking c d) → OnErr r ((b ≡ true) × LeavesTaking c d)
asked_err b c d (Ok end) e h = tt
asked_err b c d (Err x) e h = (e, h)

pub child_ran : (command : Command) (input : List ℕ) (want : Bool) (fed : FeedEnd) (came : TakeEnd) (finished : Finished) (reply : Option Reply) (a b c d e : HostView)
    → Makes (Start command want) (AnswerStart StartedOk) a b → Feeds input fed b c → TakesWhere (takes_output want fed) came c d → Makes Finish (AnswerFinish finished) d e
    → reply ≡ Some (run_reply (length input) fed came finished) → RunsTo command input want reply a e
child_ran command input want fed came finished reply a b c d e starts feeds took finishes reply_is =
    record {
      calls = run_calls command want feeds.calls took.calls finished;
      ran = all_ran command want feeds.calls took.calls finished a b c d e starts feeds.ran took.ran finishes;
      group = subst (λ r. EndsRun command input want r (run_calls command want feeds.calls took.calls finished)) (sym reply_is)
          (was_run (record { fed = fed; came = came; finished = finished; feeds = feeds.calls; takes = took.calls; feeding = feeds.group; taking = took.takes; reply_is = refl; calls_are = refl }));
    }

-- no output is taken where none is wanted
pub unasked : (fed : FeedEnd) → takes_output false fed ≡ false
unasked FedAll = refl
unasked (FedUpTo n) = refl
unasked (FedFailed n) = refl

wanted : (want : Bool) (fed : FeedEnd) → takes_output want fed ≡ true → want ≡ true
wanted want FedAll h = h
wanted want (FedUpTo n) h = h
wanted want (FedFailed n) h = absurd (cc)

pub child_left : (command : Command) (input : List ℕ) (want : Bool) (fed : FeedEnd) (finished : Finished) (a b c d e : HostView)
    → Makes (Start command want) (AnswerStart StartedOk) a b → Feeds input fed b c → takes_output want fed ≡ true → LeavesTaking c d → Makes Finish (AnswerFinish finished) d e
    → RunsTo command input want None a e
child_left command input want fed finished a b c d e starts feeds asks left finishes =
    let is : want ≡ true = wanted want fed asks in
    let asked_so : takes_output true fed ≡ true = subst (λ w. takes_output w fed ≡ true) is asks in
    record {
      calls = run_calls command want feeds.calls left.taking.calls finished;
      ran = all_ran command want feeds.calls left.taking.calls finished a b c d e starts feeds.ran left.taking.ran finishes;
      group = (
        is,
        record {
          fed = fed;
          at = left.at;
          finished = finished;
          feeds = feeds.calls;
          takes = left.taking.calls;
          feeding = feeds.group;
          asked = asked_so;
          taking = left.taking.prefix;
          calls_are = ap (λ w. run_calls command w feeds.calls left.taking.calls finished) is;
        },
      );
    }

pub fed_end : (input : List ℕ) (at : FeedState) (end : FeedEnd) (a b : HostView) → Feeding input at a b → FeedDone (length input) at end → Feeds input end a b
fed_end input at end a b h done = record { calls = h.calls; ran = h.ran; group = record { at = at; walk = h.walk; done = done } }

pub left_err : (r : Result TakeEnd WantOfMemory) (at : TakeState) (a b : HostView) → Taking at a b → OnErr r (LeavesTaking a b)
left_err (Ok end) at a b h = tt
left_err (Err e) at a b h = record { at = at; taking = h }
