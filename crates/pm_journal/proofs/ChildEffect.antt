-- What a child's run makes of the world.
use Rattle.std.proofs.Common.{◌≡◌, ℕ, Bool, true, false, List, [], ◌∷◌, ◌++◌, take, drop, refl, sym, ap, ◌∙◌, subst, append_assoc, append-nil}
use Rattle.pm_host.specs.World.{World, after_call, after_others, last_fed, IsAnswerTo}
use Rattle.pm_host.specs.Runs.{after_calls, Transitions, logged}
use Rattle.pm_host.proofs.RunsJoin.{after_calls-append}
use Rattle.pm_host.specs.declared.answers.Fed.TheVariants.{Took as FedSome, Closed as FedClosed, Failed as FedFault}
use Rattle.pm_host.specs.declared.answers.Finished.{Finished}
use Rattle.pm_host.specs.declared.command.Command.{Command}
use Rattle.pm_host.specs.declared.command.ChildInput.{ChildInput}
use Rattle.pm_host.specs.declared.calls.Call.{Call}
use Rattle.pm_host.specs.declared.calls.Call.TheVariants.{Feed, Finish}
use Rattle.pm_host.specs.declared.calls.Answer.{Answer}
use Rattle.pm_host.specs.declared.calls.Answer.TheVariants.{Feed as AnswerFeed, Finish as AnswerFinish}
use Rattle.pm_host.specs.declared.calls.Logged.{Logged}
use Rattle.pm_journal.specs.Children.{FeedState, FeedOn, FeedOver, FeedAsks, feed_heard, TakeState, TakeOn, TakeOver, TakeAsks, take_heard, Takes, fed_by, fed_bytes, with_input, run_calls, after_child_ran}
use Rattle.pm_journal.specs.declared.children.TakeEnd.{TakeEnd}

took : Command → List ℕ → ChildInput
took command bytes = record { command = command; bytes = bytes }

last_fed-end : (xs : List ChildInput) (command : Command) (bytes more : List ℕ)
    → last_fed (xs ++ record { command = command; bytes = bytes } ∷ []) more ≡ xs ++ record { command = command; bytes = bytes ++ more } ∷ []
last_fed-end [] command bytes more = refl
last_fed-end (x ∷ []) command bytes more = refl
last_fed-end (x ∷ (y ∷ ys)) command bytes more = ap (λ l. x ∷ l) (last_fed-end (y ∷ ys) command bytes more)

no_more : (w : World) (command : Command) (bytes : List ℕ) → with_input command bytes w ≡ with_input command (bytes ++ []) w
no_more w command bytes = ap (λ b. with_input command b w) (sym (append-nil bytes))

one_feed : (w : World) (command : Command) (bytes part : List ℕ) (answer : Answer) → IsAnswerTo (Feed part) answer
    → after_call (Feed part) answer (with_input command bytes w) ≡ with_input command (bytes ++ fed_by (Feed part) answer) w
one_feed w command bytes part (AnswerFeed (FedSome n)) fits =
    ap (λ i. record { nodes = w.nodes; moment = w.moment; others = w.others; children = drop 1 w.children; inputs = i }) (last_fed-end w.inputs command bytes (take n part))
one_feed w command bytes part (AnswerFeed FedClosed) fits = no_more w command bytes
one_feed w command bytes part (AnswerFeed FedFault) fits = no_more w command bytes
one_feed w command bytes part other fits = absurd fits

a_feed : (w : World) (command : Command) (input bytes : List ℕ) (at : FeedState) (call : Call) (answer : Answer) → FeedAsks input at call → IsAnswerTo call answer
    → after_call call answer (with_input command bytes w) ≡ with_input command (bytes ++ fed_by call answer) w
a_feed w command input bytes (FeedOn taken) call answer asks fits =
    subst (λ c. after_call c answer (with_input command bytes w) ≡ with_input command (bytes ++ fed_by c answer) w) (sym asks.is)
    (one_feed w command bytes asks.part answer (subst (λ c. IsAnswerTo c answer) asks.is fits))
a_feed w command input bytes (FeedOver end) call answer asks fits = absurd asks

-- the child took the bytes of the feeds
pub feeds_effect : (w : World) (command : Command) (input : List ℕ) (calls : List Logged) (bytes : List ℕ) (at last : FeedState) → Transitions (FeedAsks input) feed_heard at calls last
    → after_calls calls (with_input command bytes w) ≡ with_input command (bytes ++ fed_bytes calls) w
feeds_effect w command input [] bytes at last walk = no_more w command bytes
feeds_effect w command input (c ∷ cs) bytes at last walk =
    let more = fed_by c.call c.answer in
    ap (after_calls cs) (a_feed w command input bytes at c.call c.answer walk.0 walk.1)
    ∙ feeds_effect w command input cs (bytes ++ more) (feed_heard at c.answer) last walk.2
    ∙ ap (λ b. with_input command b w) (append_assoc bytes more (fed_bytes cs))

a_take : (w : World) (at : TakeState) (call : Call) (answer : Answer) → TakeAsks at call → after_call call answer w ≡ w
a_take w (TakeOn so_far) call answer asks = ap (λ c. after_call c answer w) asks.is
a_take w (TakeOver end) call answer asks = absurd asks

-- taking output changes nothing
takes_same : (w : World) (calls : List Logged) (at last : TakeState) → Transitions TakeAsks take_heard at calls last → after_calls calls w ≡ w
takes_same w [] at last walk = refl
takes_same w (c ∷ cs) at last walk = ap (after_calls cs) (a_take w at c.call c.answer walk.0) ∙ takes_same w cs (take_heard at c.answer) last walk.2

take_feeds_none : (at : TakeState) (call : Call) (answer : Answer) → TakeAsks at call → fed_by call answer ≡ []
take_feeds_none (TakeOn so_far) call answer asks = ap (λ c. fed_by c answer) asks.is
take_feeds_none (TakeOver end) call answer asks = absurd asks

takes_feed_none : (calls : List Logged) (at last : TakeState) → Transitions TakeAsks take_heard at calls last → fed_bytes calls ≡ []
takes_feed_none [] at last walk = refl
takes_feed_none (c ∷ cs) at last walk =
    ap (λ l. l ++ fed_bytes cs) (take_feeds_none at c.call c.answer walk.0) ∙ takes_feed_none cs (take_heard at c.answer) last walk.2

pub fed_bytes-append : (cs ds : List Logged) → fed_bytes (cs ++ ds) ≡ fed_bytes cs ++ fed_bytes ds
fed_bytes-append [] ds = refl
fed_bytes-append (c ∷ cs) ds = ap (λ l. fed_by c.call c.answer ++ l) (fed_bytes-append cs ds) ∙ sym (append_assoc (fed_by c.call c.answer) (fed_bytes cs) (fed_bytes ds))

-- calls that take output, or none: they change nothing, and feed nothing
pub record Idle (calls : List Logged) : Type 0 where
  pub same : (w : World) → after_calls calls w ≡ w
  pub none : fed_bytes calls ≡ []

pub idle_walk : (calls : List Logged) (at last : TakeState) → Transitions TakeAsks take_heard at calls last → Idle calls
idle_walk calls at last walk = record { same = λ w. takes_same w calls at last walk; none = takes_feed_none calls at last walk }

idle_none : (calls : List Logged) → calls ≡ [] → Idle calls
idle_none calls e = record { same = λ w. ap (λ c. after_calls c w) e; none = ap fed_bytes e }

pub idle_takes : (b : Bool) (end : TakeEnd) (calls : List Logged) → Takes b end calls → Idle calls
idle_takes true end calls g = idle_walk calls (TakeOn []) g.at g.prefix
idle_takes false end calls g = idle_none calls g.1

-- a child that was started, fed and waited for
pub child_effect : (w : World) (command : Command) (input : List ℕ) (want : Bool) (feeds takes : List Logged) (last : FeedState) (finished : Finished)
    → Transitions (FeedAsks input) feed_heard (FeedOn 0) feeds last → Idle takes
    → after_calls (run_calls command want feeds takes finished) w ≡ after_child_ran command (run_calls command want feeds takes finished) w
child_effect w command input want feeds takes last finished walk idle =
    let fin = logged Finish (AnswerFinish finished) ∷ [] in
    let there = with_input command (fed_bytes feeds) w in
    let bytes : fed_bytes (feeds ++ (takes ++ fin)) ≡ fed_bytes feeds =
    fed_bytes-append feeds (takes ++ fin) ∙ ap (λ l. fed_bytes feeds ++ l) (fed_bytes-append takes fin ∙ ap (λ l. l ++ []) idle.none) ∙ append-nil (fed_bytes feeds) in
    after_calls-append feeds (takes ++ fin) (with_input command [] w)
    ∙ ap (after_calls (takes ++ fin)) (feeds_effect w command input feeds [] (FeedOn 0) last walk)
    ∙ after_calls-append takes fin there
    ∙ ap (after_calls fin) (idle.same there)
    ∙ ap (λ b. after_others (with_input command b w)) (sym bytes)
