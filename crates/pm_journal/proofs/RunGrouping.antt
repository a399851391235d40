-- The calls that run a child are shared out in one way only.
use Rattle.std.proofs.Common.{◌≡◌, ◌≤◌, ◌<◌, ℕ, Bool, true, false, List, [], ◌∷◌, ◌++◌, length, take, drop, refl, sym, ap, ◌∙◌, subst, arith, length-take, length-drop}
use Rattle.pm_host.specs.Runs.{logged}
use Rattle.pm_host.specs.declared.answers.Started.TheVariants.{Started as StartedOk, Failed as StartFailed}
use Rattle.pm_host.specs.declared.answers.Finished.{Finished}
use Rattle.pm_host.specs.declared.command.Command.{Command}
use Rattle.pm_host.specs.declared.calls.Call.TheVariants.{Start, Finish}
use Rattle.pm_host.specs.declared.calls.Answer.TheVariants.{Start as AnswerStart, Finish as AnswerFinish}
use Rattle.pm_host.specs.declared.calls.Logged.{Logged}
use Rattle.pm_journal.specs.Children.{FeedState, FeedOn, FeedOver, FeedAsks, FeedDone, FeedGroup, feed_heard, TakeState, TakeOn, TakeOver, TakeAsks, TakeDone, take_heard, Takes, takes_output, run_calls, RunsChild, RunGroup, not_started, was_run}
use Rattle.pm_journal.specs.declared.children.FeedEnd.{FeedEnd}
use Rattle.pm_journal.specs.declared.children.TakeEnd.{TakeEnd}
use Rattle.pm_journal.specs.declared.acts.Reply.{Reply}
use Rattle.pm_journal.proofs.OneRun.{first_or, rest_of, Same, IsDone, one_run, one_end, same_none, same_call}
use Rattle.pm_journal.proofs.PlaceGrouping.{in_rows, same_as, parts_of}

none_left : (input part : List ℕ) (taken : ℕ) → taken ≡ length input → part ≡ take (length part) (drop taken input) → 1 ≤ length part → ⊥
none_left input part taken all front some = let e = ap length front in omega (arith, length-take (length part) (drop taken input), length-drop taken input, e, all, some)

fed_done : (input : List ℕ) (at : FeedState) (end : FeedEnd) → FeedDone (length input) at end → IsDone (FeedAsks input) at
fed_done input (FeedOn taken) end done call asks = none_left input asks.part taken done.0 asks.front asks.some
fed_done input (FeedOver e) end done call asks = asks

fed_same : (len : ℕ) (at : FeedState) (end other : FeedEnd) → FeedDone len at end → FeedDone len at other → end ≡ other
fed_same len (FeedOn taken) end other x y = x.1 ∙ sym y.1
fed_same len (FeedOver e) end other x y = x ∙ sym y

too_many : (n : ℕ) → 67108864 < n → n ≤ 67108864 → ⊥
too_many n more less = omega (arith, more, less)

took_done : (at : TakeState) (end : TakeEnd) → TakeDone at end → IsDone TakeAsks at
took_done (TakeOn so_far) end done call asks = too_many (length so_far) done.0 asks.wanted
took_done (TakeOver e) end done call asks = asks

same_takes : (b : Bool) (end other : TakeEnd) (g h r q : List Logged) → Takes b end g → Takes b other h → g ++ r ≡ h ++ q → Same g h r q
same_takes true end other g h r q x y same = one_run TakeAsks take_heard (TakeOn []) x.at y.at g h r q x.prefix y.prefix (took_done x.at end x.done) (took_done y.at other y.done) same
same_takes false end other g h r q x y same = same_none g h r q x.1 y.1 same

same_feeds : (input : List ℕ) (end other : FeedEnd) (g h r q : List Logged) → FeedGroup input end g → FeedGroup input other h → g ++ r ≡ h ++ q → Same g h r q
same_feeds input end other g h r q x y same =
    one_run (FeedAsks input) feed_heard (FeedOn 0) x.at y.at g h r q x.walk y.walk (fed_done input x.at end x.done) (fed_done input y.at other y.done) same

same_fed : (input : List ℕ) (end other : FeedEnd) (g h : List Logged) → FeedGroup input end g → FeedGroup input other h → g ≡ h → end ≡ other
same_fed input end other g h x y same =
    let at : x.at ≡ y.at = one_end (FeedAsks input) feed_heard (FeedOn 0) x.at y.at h (subst (λ l. FeedGroup input end l) same x).walk y.walk in
    fed_same (length input) y.at end other (subst (λ s. FeedDone (length input) s end) at x.done) y.done

-- after a failed start no child is fed
not_begun : (command : Command) (want : Bool) (feeds takes : List Logged) (finished : Finished) (g h r q : List Logged) → g ≡ logged (Start command want) (AnswerStart StartFailed) ∷ []
    → h ≡ run_calls command want feeds takes finished → g ++ r ≡ h ++ q → ⊥
not_begun command want feeds takes finished g h r q x y same =
    let failed = logged (Start command want) (AnswerStart StartFailed) in
    let both : failed ∷ r ≡ run_calls command want feeds takes finished ++ q = ap (λ l. l ++ r) (sym x) ∙ same ∙ ap (λ l. l ++ q) y in
    let one : AnswerStart StartFailed ≡ AnswerStart StartedOk = ap (λ l. (first_or failed l).answer) both in
    absurd (cc)

-- the same start, and then the rest
same_begun : (c : Logged) (a b r q : List Logged) → ((a ++ r ≡ b ++ q) → Same a b r q) → (c ∷ a) ++ r ≡ (c ∷ b) ++ q → Same (c ∷ a) (c ∷ b) r q
same_begun c a b r q go same = let s = go (ap rest_of same) in record { group = ap (λ l. c ∷ l) s.group; rest = s.rest }

same_ran : (command : Command) (input : List ℕ) (want : Bool) (reply : Reply) (g h r q : List Logged) → RunsChild command input want reply g → RunsChild command input want reply h → g ++ r ≡ h ++ q → Same g h r q
same_ran command input want reply g h r q x y same =
    let a = logged Finish (AnswerFinish x.finished) ∷ [] in
    let b = logged Finish (AnswerFinish y.finished) ∷ [] in
    same_as g h (run_calls command want x.feeds x.takes x.finished) (run_calls command want y.feeds y.takes y.finished) r q x.calls_are y.calls_are
    (same_begun (logged (Start command want) (AnswerStart StartedOk)) (x.feeds ++ (x.takes ++ a)) (y.feeds ++ (y.takes ++ b)) r q
    (λ k.
    let f = same_feeds input x.fed y.fed x.feeds y.feeds ((x.takes ++ a) ++ r) ((y.takes ++ b) ++ q) x.feeding y.feeding (parts_of x.feeds (x.takes ++ a) y.feeds (y.takes ++ b) r q k) in
    let fed : y.fed ≡ x.fed = sym (same_fed input x.fed y.fed x.feeds y.feeds x.feeding y.feeding f.group) in
    let t = same_takes (takes_output want x.fed) x.came y.came x.takes y.takes (a ++ r) (b ++ q) x.taking (subst (λ e. Takes (takes_output want e) y.came y.takes) fed y.taking) (parts_of x.takes a y.takes b r q f.rest) in
    in_rows x.feeds y.feeds (x.takes ++ a) (y.takes ++ b) r q f (in_rows x.takes y.takes a b r q t (same_call _ _ a b r q refl refl t.rest))))
    same

pub same_run : (command : Command) (input : List ℕ) (want : Bool) (reply : Reply) (g h r q : List Logged) → RunGroup command input want reply g → RunGroup command input want reply h → g ++ r ≡ h ++ q → Same g h r q
same_run command input want reply g h r q (not_started a x) (not_started b y) same = same_call _ _ g h r q x y same
same_run command input want reply g h r q (not_started a x) (was_run y) same = absurd (not_begun command want y.feeds y.takes y.finished g h r q x y.calls_are same)
same_run command input want reply g h r q (was_run x) (not_started b y) same = absurd (not_begun command want x.feeds x.takes x.finished h g q r y x.calls_are (sym same))
same_run command input want reply g h r q (was_run x) (was_run y) same = same_ran command input want reply g h r q x y same
