-- What a child's run took and gave, which of its calls failed, and which replies it has.
use Rattle.std.proofs.Common.{◌≡◌, ◌≤◌, ◌⊎◌, ℕ, ◌+◌, Bool, true, false, List, [], ◌∷◌, ◌++◌, length, take, drop, refl, sym, ap, ◌∙◌, subst, inl, inr, arith, append_assoc, append-nil, length-take, length-drop}
use Rattle.std.proofs.lemmas.Grind.{common_steps}
use Rattle.std.proofs.lemmas.List.{take-take}
use Rattle.std.proofs.Math.Seq.{take-add}
use Rattle.pm_host.specs.World.{World, IsAnswerTo, IsFailed, put, longer, made_there, taken_away, after_change, after_changes, batch_of}
use Rattle.pm_host.specs.declared.nodes.Change.{Change}
use Rattle.pm_host.specs.declared.nodes.Change.TheVariants.{Append as ChangeAppend, Create as ChangeCreate, Remove as ChangeRemove}
use Rattle.pm_host.specs.Runs.{after_calls, Transitions, SomeFailed, logged}
use Rattle.pm_host.specs.declared.answers.Fed.TheVariants.{Took as FedSome, Closed as FedClosed, Failed as FedFault}
use Rattle.pm_host.specs.declared.answers.Finished.{Finished}
use Rattle.pm_host.specs.declared.answers.Finished.TheVariants.{Code, Signal, Failed as FinishFailed}
use Rattle.pm_host.specs.declared.command.Command.{Command}
use Rattle.pm_host.specs.declared.calls.Call.{Call}
use Rattle.pm_host.specs.declared.calls.Call.TheVariants.{Feed, Take, Finish}
use Rattle.pm_host.specs.declared.calls.Answer.{Answer}
use Rattle.pm_host.specs.declared.calls.Answer.TheVariants.{Feed as AnswerFeed, Take as AnswerTake, Finish as AnswerFinish, Failed as AnswerFailed}
use Rattle.pm_host.specs.declared.calls.Logged.{Logged}
use Rattle.pm_journal.specs.Appending.{IsFront}
use Rattle.pm_journal.specs.Entries.{IsFaulty}
use Rattle.pm_journal.specs.Replies.{IsRunReply}
use Rattle.pm_journal.specs.Children.{FeedState, FeedOn, FeedOver, FeedAsks, FeedDone, FeedGroup, feed_heard, heard_feed, TakeState, TakeOn, TakeOver, TakeAsks, TakeDone, take_heard, heard_take, Takes, takes_output, fed_count, fed_by, fed_bytes, taken_by, taken_bytes, run_calls, run_reply, came_reply, with_input, after_run, RunsChild, RunGroup, not_started, was_run}
use Rattle.pm_journal.specs.ChildLaws.{RanRight, ChangesAsOthers, ChildrenRunRight, ChildrenChangeNothing, ChildFaultsHaveCalls}
use Rattle.pm_journal.specs.declared.children.FeedEnd.{FeedEnd}
use Rattle.pm_journal.specs.declared.children.FeedEnd.TheVariants.{All as FedAll, Closed as FedUpTo, Failed as FedFailed}
use Rattle.pm_journal.specs.declared.children.TakeEnd.{TakeEnd}
use Rattle.pm_journal.specs.declared.children.TakeEnd.TheVariants.{All as CameAll, Failed as CameFailed, Long as CameLong}
use Rattle.pm_journal.specs.declared.acts.Reply.{Reply}
use Rattle.pm_journal.specs.declared.acts.Reply.TheVariants.{Ended, NotStarted, Broken, TooLong}
use Rattle.pm_journal.proofs.ChildEffect.{child_effect, idle_takes, fed_bytes-append}

-- the world is what the run makes of it
after_reply : (len : ℕ) (fed : FeedEnd) (came : TakeEnd) (finished : Finished) (command : Command) (calls : List Logged) (w : World)
    → after_run (Broken 0) command calls w ≡ after_run (run_reply len fed came finished) command calls w
after_reply len (FedFailed n) came finished command calls w = refl
after_reply len FedAll CameFailed finished command calls w = refl
after_reply len FedAll (CameAll out) (Code c) command calls w = refl
after_reply len FedAll (CameAll out) (Signal c) command calls w = refl
after_reply len FedAll (CameAll out) FinishFailed command calls w = refl
after_reply len FedAll (CameLong n) (Code c) command calls w = refl
after_reply len FedAll (CameLong n) (Signal c) command calls w = refl
after_reply len FedAll (CameLong n) FinishFailed command calls w = refl
after_reply len (FedUpTo k) CameFailed finished command calls w = refl
after_reply len (FedUpTo k) (CameAll out) (Code c) command calls w = refl
after_reply len (FedUpTo k) (CameAll out) (Signal c) command calls w = refl
after_reply len (FedUpTo k) (CameAll out) FinishFailed command calls w = refl
after_reply len (FedUpTo k) (CameLong n) (Code c) command calls w = refl
after_reply len (FedUpTo k) (CameLong n) (Signal c) command calls w = refl
after_reply len (FedUpTo k) (CameLong n) FinishFailed command calls w = refl

ran_effect : (w : World) (command : Command) (input : List ℕ) (want : Bool) (reply : Reply) (calls : List Logged) → RunsChild command input want reply calls
    → after_calls calls w ≡ after_run reply command calls w
ran_effect w command input want reply calls r =
    let there = run_calls command want r.feeds r.takes r.finished in
    subst (λ cs. after_calls cs w ≡ after_run reply command cs w) (sym r.calls_are)
    (subst (λ x. after_calls there w ≡ after_run x command there w) (sym r.reply_is)
    (child_effect w command input want r.feeds r.takes r.feeding.at r.finished r.feeding.walk (idle_takes (takes_output want r.fed) r.came r.takes r.taking)
    ∙ after_reply (length input) r.fed r.came r.finished command there w))

pub run_effect : (w : World) (command : Command) (input : List ℕ) (want : Bool) (reply : Reply) (calls : List Logged) → RunGroup command input want reply calls
    → after_calls calls w ≡ after_run reply command calls w
run_effect w command input want reply calls (not_started reply_is calls_are) =
    ap (λ cs. after_calls cs w) calls_are ∙ sym (ap (λ r. after_run r command calls w) reply_is)
run_effect w command input want reply calls (was_run r) = ran_effect w command input want reply calls r

-- a part of a join failed
failed_left : (cs ds : List Logged) → SomeFailed cs → SomeFailed (cs ++ ds)
failed_left [] ds h = absurd h
failed_left (c ∷ cs) ds (inl h) = inl h
failed_left (c ∷ cs) ds (inr h) = inr (failed_left cs ds h)

failed_right : (cs ds : List Logged) → SomeFailed ds → SomeFailed (cs ++ ds)
failed_right [] ds h = h
failed_right (c ∷ cs) ds h = inr (failed_right cs ds h)

-- a feed failed before
abbrev FeedingFailed : FeedState → Type 0
FeedingFailed (FeedOver (FedFailed n)) = Unit {0}
FeedingFailed other = ⊥

heard_failed_feed : (part : List ℕ) (taken : ℕ) (answer : Answer) → IsAnswerTo (Feed part) answer → FeedingFailed (heard_feed taken answer) → IsFailed answer
heard_failed_feed part taken (AnswerFeed FedFault) fits h = tt
heard_failed_feed part taken (AnswerFeed (FedSome n)) fits h = h
heard_failed_feed part taken (AnswerFeed FedClosed) fits h = h
heard_failed_feed part taken other fits h = absurd fits

feed_failed : (input : List ℕ) (calls : List Logged) (at last : FeedState) → Transitions (FeedAsks input) feed_heard at calls last → FeedingFailed last → FeedingFailed at ⊎ SomeFailed calls
feed_failed input [] at last walk h = inl (subst FeedingFailed walk h)
feed_failed input (c ∷ cs) (FeedOn taken) last walk h =
    elim (feed_failed input cs (heard_feed taken c.answer) last walk.2 h) [
      | inl f ↦ inr (inl (heard_failed_feed walk.0.part taken c.answer (subst (λ k. IsAnswerTo k c.answer) walk.0.is walk.1) f))
      | inr f ↦ inr (inr f)
    ]
feed_failed input (c ∷ cs) (FeedOver end) last walk h = absurd walk.0

fed_failed : (len n : ℕ) (at : FeedState) → FeedDone len at (FedFailed n) → FeedingFailed at
fed_failed len n (FeedOn taken) done = absurd (cc done.1)
fed_failed len n (FeedOver end) done = subst (λ e. FeedingFailed (FeedOver e)) done tt

-- a take failed before
abbrev TakingFailed : TakeState → Type 0
TakingFailed (TakeOver CameFailed) = Unit {0}
TakingFailed other = ⊥

heard_failed_take : (room : ℕ) (so_far : List ℕ) (answer : Answer) → IsAnswerTo (Take room) answer → TakingFailed (heard_take so_far answer) → IsFailed answer
heard_failed_take room so_far (AnswerTake []) fits h = h
heard_failed_take room so_far (AnswerTake (b ∷ bs)) fits h = h
heard_failed_take room so_far AnswerFailed fits h = tt
heard_failed_take room so_far other fits h = absurd fits

take_failed : (calls : List Logged) (at last : TakeState) → Transitions TakeAsks take_heard at calls last → TakingFailed last → TakingFailed at ⊎ SomeFailed calls
take_failed [] at last walk h = inl (subst TakingFailed walk h)
take_failed (c ∷ cs) (TakeOn so_far) last walk h =
    elim (take_failed cs (heard_take so_far c.answer) last walk.2 h) [
      | inl f ↦ inr (inl (heard_failed_take walk.0.room so_far c.answer (subst (λ k. IsAnswerTo k c.answer) walk.0.is walk.1) f))
      | inr f ↦ inr (inr f)
    ]
take_failed (c ∷ cs) (TakeOver end) last walk h = absurd walk.0

came_failed : (at : TakeState) → TakeDone at CameFailed → TakingFailed at
came_failed (TakeOn so_far) done = absurd (cc done.1)
came_failed (TakeOver end) done = subst (λ e. TakingFailed (TakeOver e)) done tt

-- where the fault of a reply comes from
abbrev IsFeedFault : FeedEnd → Type 0
IsFeedFault (FedFailed n) = Unit {0}
IsFeedFault other = ⊥

abbrev IsTakeFault : TakeEnd → Type 0
IsTakeFault CameFailed = Unit {0}
IsTakeFault other = ⊥

abbrev IsFinishFault : Finished → Type 0
IsFinishFault FinishFailed = Unit {0}
IsFinishFault other = ⊥

came_fault : (n : ℕ) (came : TakeEnd) (finished : Finished) → IsFaulty (came_reply n came finished) → IsTakeFault came ⊎ IsFinishFault finished
came_fault n CameFailed finished f = inl tt
came_fault n (CameAll out) (Code c) f = absurd f
came_fault n (CameAll out) (Signal c) f = absurd f
came_fault n (CameAll out) FinishFailed f = inr tt
came_fault n (CameLong k) (Code c) f = absurd f
came_fault n (CameLong k) (Signal c) f = absurd f
came_fault n (CameLong k) FinishFailed f = inr tt

reply_fault : (len : ℕ) (fed : FeedEnd) (came : TakeEnd) (finished : Finished) → IsFaulty (run_reply len fed came finished) → IsFeedFault fed ⊎ (IsTakeFault came ⊎ IsFinishFault finished)
reply_fault len (FedFailed n) came finished f = inl tt
reply_fault len FedAll came finished f = inr (came_fault len came finished f)
reply_fault len (FedUpTo n) came finished f = inr (came_fault n came finished f)

feeds_failed : (input : List ℕ) (fed : FeedEnd) (calls : List Logged) → FeedGroup input fed calls → IsFeedFault fed → SomeFailed calls
feeds_failed input (FedFailed n) calls g f = elim (feed_failed input calls (FeedOn 0) g.at g.walk (fed_failed (length input) n g.at g.done)) [ inl h ↦ absurd h | inr h ↦ h ]
feeds_failed input FedAll calls g f = absurd f
feeds_failed input (FedUpTo n) calls g f = absurd f

takes_failed : (b : Bool) (came : TakeEnd) (calls : List Logged) → Takes b came calls → IsTakeFault came → SomeFailed calls
takes_failed true CameFailed calls g f = elim (take_failed calls (TakeOn []) g.at g.prefix (came_failed g.at g.done)) [ inl h ↦ absurd h | inr h ↦ h ]
takes_failed false CameFailed calls g f = absurd (cc g.0)
takes_failed b (CameAll out) calls g f = absurd f
takes_failed b (CameLong n) calls g f = absurd f

finish_failed : (finished : Finished) → IsFinishFault finished → SomeFailed (logged Finish (AnswerFinish finished) ∷ [])
finish_failed FinishFailed f = inl tt
finish_failed (Code c) f = absurd f
finish_failed (Signal c) f = absurd f

ran_cause : (command : Command) (input : List ℕ) (want : Bool) (reply : Reply) (calls : List Logged) → RunsChild command input want reply calls → IsFaulty reply → SomeFailed calls
ran_cause command input want reply calls r f =
    let fin = logged Finish (AnswerFinish r.finished) ∷ [] in
    subst SomeFailed (sym r.calls_are) (inr (elim (reply_fault (length input) r.fed r.came r.finished (subst IsFaulty r.reply_is f)) [
      | inl a ↦ failed_left r.feeds (r.takes ++ fin) (feeds_failed input r.fed r.feeds r.feeding a)
      | inr b ↦ failed_right r.feeds (r.takes ++ fin) (elim b [
        | inl c ↦ failed_left r.takes fin (takes_failed (takes_output want r.fed) r.came r.takes r.taking c)
        | inr d ↦ failed_right r.takes fin (finish_failed r.finished d)
      ])
    ]))

-- a faulty run has a failed call
pub run_cause : (command : Command) (input : List ℕ) (want : Bool) (reply : Reply) (calls : List Logged) → RunGroup command input want reply calls → IsFaulty reply → SomeFailed calls
run_cause command input want reply calls (not_started reply_is calls_are) f = subst SomeFailed (sym calls_are) (inl tt)
run_cause command input want reply calls (was_run r) f = ran_cause command input want reply calls r f

came_replies : (n : ℕ) (came : TakeEnd) (finished : Finished) → IsRunReply (came_reply n came finished)
came_replies n CameFailed finished = tt
came_replies n (CameAll out) (Code c) = tt
came_replies n (CameAll out) (Signal c) = tt
came_replies n (CameAll out) FinishFailed = tt
came_replies n (CameLong k) (Code c) = tt
came_replies n (CameLong k) (Signal c) = tt
came_replies n (CameLong k) FinishFailed = tt

run_replies : (len : ℕ) (fed : FeedEnd) (came : TakeEnd) (finished : Finished) → IsRunReply (run_reply len fed came finished)
run_replies len (FedFailed n) came finished = tt
run_replies len FedAll came finished = came_replies len came finished
run_replies len (FedUpTo n) came finished = came_replies n came finished

pub run_reply_is : (command : Command) (input : List ℕ) (want : Bool) (reply : Reply) (calls : List Logged) → RunGroup command input want reply calls → IsRunReply reply
run_reply_is command input want reply calls (not_started reply_is calls_are) = subst IsRunReply (sym reply_is) tt
run_reply_is command input want reply calls (was_run r) = subst IsRunReply (sym r.reply_is) (run_replies (length input) r.fed r.came r.finished)

-- so many bytes were taken
abbrev fed_so_far : ℕ → FeedState → ℕ
fed_so_far len (FeedOn taken) = taken
fed_so_far len (FeedOver end) = fed_count len end

-- the feeds so far gave the first bytes of the input
pub record GaveFront (input : List ℕ) (start : ℕ) (bytes : List ℕ) (count : ℕ) : Type 0 where
  pub within : count ≤ length input
  pub front : take start input ++ bytes ≡ take count input

front_none : (input : List ℕ) (start : ℕ) → start ≤ length input → GaveFront input start [] start
front_none input start h = record { within = h; front = append-nil (take start input) }

one_front : (input part : List ℕ) (start n : ℕ) (bytes : List ℕ) (count : ℕ) → IsFront part (drop start input) → n ≤ length part → GaveFront input (start + n) bytes count → GaveFront input start (take n part ++ bytes) count
one_front input part start n bytes count front h g = record {
  within = g.within;
  front =
      let p : take n part ≡ take n (drop start input) = ap (take n) front ∙ take-take n (length part) (drop start input) h in
      ap (λ l. take start input ++ (l ++ bytes)) p ∙ sym (append_assoc (take start input) (take n (drop start input)) bytes)
      ∙ ap (λ l. l ++ bytes) (sym (take-add start n input)) ∙ g.front;
}

heard_front : (input part : List ℕ) (start : ℕ) (answer : Answer) → IsAnswerTo (Feed part) answer → IsFront part (drop start input) → start ≤ length input
    → (n : ℕ) (bytes : List ℕ) → ((at : FeedState) → at ≡ heard_feed start answer → fed_so_far (length input) at ≤ length input → GaveFront input (fed_so_far (length input) at) bytes n)
    → GaveFront input start (fed_by (Feed part) answer ++ bytes) n
heard_front input part start (AnswerFeed (FedSome k)) fits front h n bytes more =
    let size : length part ≤ length (drop start input) = omega (arith, ap length front, length-take (length part) (drop start input)) in
    let within : start + k ≤ length input = omega (arith, fits.1, length-drop start input) in
    one_front input part start k bytes n front fits.1 (more (FeedOn (start + k)) refl within)
heard_front input part start (AnswerFeed FedClosed) fits front h n bytes more = more (FeedOver (FedUpTo start)) refl h
heard_front input part start (AnswerFeed FedFault) fits front h n bytes more = more (FeedOver (FedFailed start)) refl h
heard_front input part start other fits front h n bytes more = absurd fits

feeds_front : (input : List ℕ) (calls : List Logged) (at last : FeedState) → Transitions (FeedAsks input) feed_heard at calls last → fed_so_far (length input) at ≤ length input
    → GaveFront input (fed_so_far (length input) at) (fed_bytes calls) (fed_so_far (length input) last)
feeds_front input [] at last walk h = subst (λ s. GaveFront input (fed_so_far (length input) at) [] (fed_so_far (length input) s)) (sym walk) (front_none input (fed_so_far (length input) at) h)
feeds_front input (c ∷ cs) (FeedOn start) last walk h =
    subst (λ k. GaveFront input start (fed_by k c.answer ++ fed_bytes cs) (fed_so_far (length input) last)) (sym walk.0.is)
    (heard_front input walk.0.part start c.answer (subst (λ k. IsAnswerTo k c.answer) walk.0.is walk.1) walk.0.front h (fed_so_far (length input) last) (fed_bytes cs)
    (λ at e within. feeds_front input cs at last (subst (λ s. Transitions (FeedAsks input) feed_heard s cs last) (sym e) walk.2) within))
feeds_front input (c ∷ cs) (FeedOver end) last walk h = absurd walk.0

done_count : (len : ℕ) (at : FeedState) (end : FeedEnd) → FeedDone len at end → fed_so_far len at ≡ fed_count len end
done_count len (FeedOn taken) end done = done.0 ∙ ap (fed_count len) (sym done.1)
done_count len (FeedOver e) end done = ap (fed_count len) (sym done)

-- the child took the first bytes of the input, as many as are counted
pub fed_front : (input : List ℕ) (end : FeedEnd) (calls : List Logged) → FeedGroup input end calls → GaveFront input 0 (fed_bytes calls) (fed_count (length input) end)
fed_front input end calls g =
    subst (λ n. GaveFront input 0 (fed_bytes calls) n) (done_count (length input) g.at end g.done) (feeds_front input calls (FeedOn 0) g.at g.walk (omega arith))

-- the bytes that came so far
abbrev HasCome : TakeState → List ℕ → Type 0
HasCome (TakeOn so_far) bytes = so_far ≡ bytes
HasCome (TakeOver (CameAll output)) bytes = output ≡ bytes
HasCome (TakeOver (CameLong count)) bytes = ⊥
HasCome other bytes = Unit {0}

over_ends : (end : TakeEnd) (calls : List Logged) (last : TakeState) → Transitions TakeAsks take_heard (TakeOver end) calls last → (calls ≡ []) × (last ≡ TakeOver end)
over_ends end [] last walk = (refl, walk)
over_ends end (c ∷ cs) last walk = absurd walk.0

after_all : (so_far : List ℕ) (calls : List Logged) (last : TakeState) → Transitions TakeAsks take_heard (TakeOver (CameAll so_far)) calls last → HasCome last (so_far ++ taken_bytes calls)
after_all so_far calls last walk =
    let ends = over_ends (CameAll so_far) calls last walk in
    subst (λ s. HasCome s (so_far ++ taken_bytes calls)) (sym ends.1) (subst (λ cs. so_far ≡ so_far ++ taken_bytes cs) (sym ends.0) (sym (append-nil so_far)))

after_failed : (calls : List Logged) (last : TakeState) (bytes : List ℕ) → Transitions TakeAsks take_heard (TakeOver CameFailed) calls last → HasCome last bytes
after_failed calls last bytes walk = subst (λ s. HasCome s bytes) (sym (over_ends CameFailed calls last walk).1) tt

heard_come : (room : ℕ) (so_far : List ℕ) (answer : Answer) (calls : List Logged) (last : TakeState) → IsAnswerTo (Take room) answer → Transitions TakeAsks take_heard (heard_take so_far answer) calls last
    → ((bytes : List ℕ) → Transitions TakeAsks take_heard (TakeOn bytes) calls last → HasCome last (bytes ++ taken_bytes calls))
    → HasCome last (so_far ++ (taken_by (Take room) answer ++ taken_bytes calls))
heard_come room so_far (AnswerTake []) calls last fits walk more = after_all so_far calls last walk
heard_come room so_far (AnswerTake (b ∷ bs)) calls last fits walk more = subst (HasCome last) (append_assoc so_far (b ∷ bs) (taken_bytes calls)) (more (so_far ++ b ∷ bs) walk)
heard_come room so_far AnswerFailed calls last fits walk more = after_failed calls last (so_far ++ taken_bytes calls) walk
heard_come room so_far other calls last fits walk more = absurd fits

takes_come : (calls : List Logged) (so_far : List ℕ) (last : TakeState) → Transitions TakeAsks take_heard (TakeOn so_far) calls last → HasCome last (so_far ++ taken_bytes calls)
takes_come [] so_far last walk = subst (λ s. HasCome s (so_far ++ [])) (sym walk) (sym (append-nil so_far))
takes_come (c ∷ cs) so_far last walk =
    subst (λ k. HasCome last (so_far ++ (taken_by k c.answer ++ taken_bytes cs))) (sym walk.0.is)
    (heard_come walk.0.room so_far c.answer cs last (subst (λ k. IsAnswerTo k c.answer) walk.0.is walk.1) walk.2 (λ bytes w. takes_come cs bytes last w))

taken_bytes-append : (cs ds : List Logged) → taken_bytes (cs ++ ds) ≡ taken_bytes cs ++ taken_bytes ds
taken_bytes-append [] ds = refl
taken_bytes-append (c ∷ cs) ds = ap (λ l. taken_by c.call c.answer ++ l) (taken_bytes-append cs ds) ∙ sym (append_assoc (taken_by c.call c.answer) (taken_bytes cs) (taken_bytes ds))

a_feed_takes_none : (input : List ℕ) (at : FeedState) (call : Call) (answer : Answer) → FeedAsks input at call → taken_by call answer ≡ []
a_feed_takes_none input (FeedOn taken) call answer asks = ap (λ c. taken_by c answer) asks.is
a_feed_takes_none input (FeedOver end) call answer asks = absurd asks

feeds_take_none : (input : List ℕ) (calls : List Logged) (at last : FeedState) → Transitions (FeedAsks input) feed_heard at calls last → taken_bytes calls ≡ []
feeds_take_none input [] at last walk = refl
feeds_take_none input (c ∷ cs) at last walk =
    ap (λ l. l ++ taken_bytes cs) (a_feed_takes_none input at c.call c.answer walk.0) ∙ feeds_take_none input cs (feed_heard at c.answer) last walk.2

-- the bytes that came are what the end says
abbrev CameSo : TakeEnd → List ℕ → Type 0
CameSo (CameAll output) bytes = output ≡ bytes
CameSo CameFailed bytes = Unit {0}
CameSo (CameLong count) bytes = (count ≡ length bytes) × (67108865 ≤ count)

come_done : (at : TakeState) (end : TakeEnd) (bytes : List ℕ) → TakeDone at end → HasCome at bytes → CameSo end bytes
come_done (TakeOn so_far) end bytes done h =
    subst (λ e. CameSo e bytes) (sym done.1) (ap length h, omega (arith, done.0))
come_done (TakeOver (CameAll output)) end bytes done h = subst (λ e. CameSo e bytes) (sym done) h
come_done (TakeOver CameFailed) end bytes done h = subst (λ e. CameSo e bytes) (sym done) tt
come_done (TakeOver (CameLong n)) end bytes done h = absurd h

takes_bytes : (b : Bool) (end : TakeEnd) (calls : List Logged) → Takes b end calls → CameSo end (taken_bytes calls)
takes_bytes true end calls g = come_done g.at end (taken_bytes calls) g.done (takes_come calls [] g.at g.prefix)
takes_bytes false end calls g = subst (λ e. CameSo e (taken_bytes calls)) (sym g.0) (ap taken_bytes (sym g.1))

-- how the bytes of a whole run split
run_fed : (command : Command) (input : List ℕ) (want : Bool) (reply : Reply) (calls : List Logged) (r : RunsChild command input want reply calls) → fed_bytes calls ≡ fed_bytes r.feeds
run_fed command input want reply calls r =
    let fin = logged Finish (AnswerFinish r.finished) ∷ [] in
    let idle = idle_takes (takes_output want r.fed) r.came r.takes r.taking in
    ap fed_bytes r.calls_are ∙ fed_bytes-append r.feeds (r.takes ++ fin)
    ∙ ap (λ l. fed_bytes r.feeds ++ l) (fed_bytes-append r.takes fin ∙ ap (λ l. l ++ []) idle.none) ∙ append-nil (fed_bytes r.feeds)

run_taken : (command : Command) (input : List ℕ) (want : Bool) (reply : Reply) (calls : List Logged) (r : RunsChild command input want reply calls) → taken_bytes calls ≡ taken_bytes r.takes
run_taken command input want reply calls r =
    let fin = logged Finish (AnswerFinish r.finished) ∷ [] in
    ap taken_bytes r.calls_are ∙ taken_bytes-append r.feeds (r.takes ++ fin)
    ∙ ap (λ l. l ++ taken_bytes (r.takes ++ fin)) (feeds_take_none input r.feeds (FeedOn 0) r.feeding.at r.feeding.walk)
    ∙ taken_bytes-append r.takes fin ∙ append-nil (taken_bytes r.takes)

front_of : (k : ℕ) (xs : List ℕ) → IsFront (take k xs) xs
front_of k xs = grind (arith, common_steps)

came_right : (input : List ℕ) (n : ℕ) (came : TakeEnd) (finished : Finished) (calls : List Logged) → n ≤ length input → fed_bytes calls ≡ take n input → CameSo came (taken_bytes calls)
    → RanRight input (came_reply n came finished) calls
came_right input n CameFailed finished calls h fed c = (h, fed)
came_right input n (CameAll output) (Code k) calls h fed c = (h, fed, sym c)
came_right input n (CameAll output) (Signal k) calls h fed c = (h, fed, sym c)
came_right input n (CameAll output) FinishFailed calls h fed c = (h, fed)
came_right input n (CameLong count) (Code k) calls h fed c = (sym c.0, c.1, subst (λ b. IsFront b input) (sym fed) (front_of n input))
came_right input n (CameLong count) (Signal k) calls h fed c = (sym c.0, c.1, subst (λ b. IsFront b input) (sym fed) (front_of n input))
came_right input n (CameLong count) FinishFailed calls h fed c = (h, fed)

reply_right : (input : List ℕ) (fed : FeedEnd) (came : TakeEnd) (finished : Finished) (calls : List Logged) → fed_count (length input) fed ≤ length input → fed_bytes calls ≡ take (fed_count (length input) fed) input
    → CameSo came (taken_bytes calls) → RanRight input (run_reply (length input) fed came finished) calls
reply_right input (FedFailed n) came finished calls h f c = (h, f)
reply_right input FedAll came finished calls h f c = came_right input (length input) came finished calls h f c
reply_right input (FedUpTo n) came finished calls h f c = came_right input n came finished calls h f c

-- the child took a front of the input, and gave the output
pub run_right : (command : Command) (input : List ℕ) (want : Bool) (reply : Reply) (calls : List Logged) → RunGroup command input want reply calls → RanRight input reply calls
run_right command input want reply calls (not_started reply_is calls_are) =
    subst (λ r. RanRight input r calls) (sym reply_is) (ap fed_bytes calls_are)
run_right command input want reply calls (was_run r) =
    let g = fed_front input r.fed r.feeds r.feeding in
    subst (λ x. RanRight input x calls) (sym r.reply_is)
    (reply_right input r.fed r.came r.finished calls g.within (run_fed command input want reply calls r ∙ g.front)
    (subst (CameSo r.came) (sym (run_taken command input want reply calls r)) (takes_bytes (takes_output want r.fed) r.came r.takes r.taking)))

-- two worlds with the same files at the same moment, in which others will do the same
pub record SameTree (a b : World) : Type 0 where
  pub nodes : a.nodes ≡ b.nodes
  pub moment : a.moment ≡ b.moment
  pub others : a.others ≡ b.others

same_change : (c : Change) (a b : World) → SameTree a b → SameTree (after_change c a) (after_change c b)
same_change (ChangeAppend name bytes) a b h = record { nodes = λ i. put (h.nodes i) name (longer (h.nodes i name) (h.moment i) bytes); moment = h.moment; others = h.others }
same_change (ChangeCreate name bytes) a b h = record { nodes = λ i. put (h.nodes i) name (made_there (h.nodes i name) (h.moment i) bytes); moment = h.moment; others = h.others }
same_change (ChangeRemove name) a b h = record { nodes = λ i. put (h.nodes i) name (taken_away (h.nodes i name)); moment = h.moment; others = h.others }

same_changes : (cs : List Change) (a b : World) → SameTree a b → SameTree (after_changes cs a) (after_changes cs b)
same_changes [] a b h = h
same_changes (c ∷ cs) a b h = same_changes cs (after_change c a) (after_change c b) (same_change c a b h)

same_batch : (batches : List (List Change)) (command : Command) (bytes : List ℕ) (w : World) → SameTree (batch_of batches (with_input command bytes w)) (batch_of batches w)
same_batch [] command bytes w = record { nodes = refl; moment = refl; others = refl }
same_batch (b ∷ bs) command bytes w = same_changes b _ _ (record { nodes = refl; moment = refl; others = refl })

changes : (reply : Reply) (command : Command) (calls : List Logged) (w : World) → IsRunReply reply → ChangesAsOthers reply w (after_run reply command calls w)
changes NotStarted command calls w fits = refl
changes (Ended code took output) command calls w fits = let h = same_batch w.others command (fed_bytes calls) w in (h.nodes, h.moment, h.others)
changes (Broken took) command calls w fits = let h = same_batch w.others command (fed_bytes calls) w in (h.nodes, h.moment, h.others)
changes (TooLong count) command calls w fits = let h = same_batch w.others command (fed_bytes calls) w in (h.nodes, h.moment, h.others)
changes other command calls w fits = absurd fits

-- a child changes the files by the others' next batch alone
pub run_changes : (command : Command) (input : List ℕ) (want : Bool) (reply : Reply) (calls : List Logged) (w : World) → RunGroup command input want reply calls → ChangesAsOthers reply w (after_run reply command calls w)
run_changes command input want reply calls w g = changes reply command calls w (run_reply_is command input want reply calls g)

pub children_run_right : ChildrenRunRight
children_run_right command input want reply calls g = run_right command input want reply calls g

pub children_change_nothing : ChildrenChangeNothing
children_change_nothing command input want reply calls w g =
    let same : after_calls calls w ≡ after_run reply command calls w = run_effect w command input want reply calls g in
    (same, subst (ChangesAsOthers reply w) (sym same) (run_changes command input want reply calls w g))

pub child_faults_have_calls : ChildFaultsHaveCalls
child_faults_have_calls command input want reply calls g = (run_reply_is command input want reply calls g, run_cause command input want reply calls g)
