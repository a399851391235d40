-- What the worst of some children says of each.
use Rattle.std.proofs.Common.{◌≡◌, ◌⊎◌, ℕ, ◌==◌, ◌&&◌, false, List, [], ◌∷◌, ◌++◌, length, take, refl, sym, ap, ◌∙◌, subst, inl, inr, arith, if◌then◌else◌}
use Rattle.std.proofs.lemmas.Grind.{common_steps}
use Rattle.pm_host.specs.Runs.{SomeFailed}
use Rattle.pm_host.specs.declared.command.Command.{Command}
use Rattle.pm_host.specs.declared.calls.Logged.{Logged}
use Rattle.pm_journal.specs.Entries.{IsFaulty}
use Rattle.pm_journal.specs.Replies.{IsRunReply}
use Rattle.pm_journal.specs.Children.{RunGroup, Takes, takes_output, run_reply, not_started, was_run, fed_bytes}
use Rattle.pm_journal.specs.declared.children.FeedEnd.{FeedEnd}
use Rattle.pm_journal.specs.declared.children.FeedEnd.TheVariants.{All as FedAll, Closed as FedUpTo, Failed as FedFailed}
use Rattle.pm_journal.specs.declared.children.TakeEnd.TheVariants.{All as CameAll}
use Rattle.pm_host.specs.declared.answers.Finished.{Finished}
use Rattle.pm_host.specs.declared.answers.Finished.TheVariants.{Code, Signal, Failed as FinishFailed}
use Rattle.pm_journal.specs.ChildLaws.{RanRight, ChildrenRunRight, ChildFaultsHaveCalls}
use Rattle.pm_journal.specs.declared.acts.Reply.{Reply}
use Rattle.pm_journal.specs.declared.acts.Reply.TheVariants.{Ended, NotStarted, Broken, TooLong}
use Rattle.formail_split.specs.Feeding.{calls_of, came_to, worse, worst_of}
use Rattle.formail_split.specs.Laws.{FineTookAll, FailuresHaveCalls}
use Rattle.formail_split.specs.declared.feeding.Outcome.{Outcome}
use Rattle.formail_split.specs.declared.feeding.Outcome.TheVariants.{Fine, Amiss, Failed}

-- neither of two is worse than fine
both_fine : (a b : Outcome) → worse a b ≡ Fine → (a ≡ Fine) × (b ≡ Fine)
both_fine Fine b h = (refl, h)
both_fine Failed b h = absurd (cc)
both_fine Amiss Fine h = absurd (cc)
both_fine Amiss Failed h = absurd (cc)
both_fine Amiss Amiss h = absurd (cc)

one_failed : (a b : Outcome) → worse a b ≡ Failed → (a ≡ Failed) ⊎ (b ≡ Failed)
one_failed Fine b h = inr h
one_failed Failed b h = inl refl
one_failed Amiss Failed h = inr refl
one_failed Amiss Fine h = absurd (cc)
one_failed Amiss Amiss h = absurd (cc)

fine_code : (code took len : ℕ) → (if (code == 0) && (took == len) then Fine else Amiss) ≡ Fine → took ≡ len
fine_code code took len h = grind (arith, common_steps)

failed_never : (code took len : ℕ) → (if (code == 0) && (took == len) then Fine else Amiss) ≡ Failed → ⊥
failed_never code took len h = grind (arith, common_steps)

whole : (text : List ℕ) (took : ℕ) → took ≡ length text → take took text ≡ text
whole text took e = grind (arith, common_steps)

fine_took : (text : List ℕ) (reply : Reply) (calls : List Logged) → RanRight text reply calls → came_to (length text) reply ≡ Fine → fed_bytes calls ≡ text
fine_took text (Ended code took output) calls right h = right.1 ∙ whole text took (fine_code code took (length text) h)
fine_took text other calls right h = absurd (cc)

pub fine_took_all : ChildrenRunRight → FineTookAll
fine_took_all right command [] runs each h = tt
fine_took_all right command (t ∷ ts) [] each h = absurd each
fine_took_all right command (t ∷ ts) (r ∷ rs) each h =
    let fine = both_fine (came_to (length t) r.reply) (worst_of ts rs) h in
    (fine_took t r.reply r.calls (right command t false r.reply r.calls each.0) fine.0, fine_took_all right command ts rs each.1 fine.1)

failed_left : (cs ds : List Logged) → SomeFailed cs → SomeFailed (cs ++ ds)
failed_left [] ds h = absurd h
failed_left (c ∷ cs) ds (inl h) = inl h
failed_left (c ∷ cs) ds (inr h) = inr (failed_left cs ds h)

failed_right : (cs ds : List Logged) → SomeFailed ds → SomeFailed (cs ++ ds)
failed_right [] ds h = h
failed_right (c ∷ cs) ds h = inr (failed_right cs ds h)

-- where no output is wanted, it can't be too long
never_long : (len count : ℕ) (fed : FeedEnd) (finished : Finished) → TooLong count ≡ run_reply len fed (CameAll []) finished → ⊥
never_long len count (FedFailed n) finished h = cc
never_long len count FedAll (Code c) h = cc
never_long len count FedAll (Signal c) h = cc
never_long len count FedAll FinishFailed h = cc
never_long len count (FedUpTo n) (Code c) h = cc
never_long len count (FedUpTo n) (Signal c) h = cc
never_long len count (FedUpTo n) FinishFailed h = cc

unasked : (fed : FeedEnd) → takes_output false fed ≡ false
unasked FedAll = refl
unasked (FedUpTo n) = refl
unasked (FedFailed n) = refl

none_long : (command : Command) (text : List ℕ) (reply : Reply) (calls : List Logged) (count : ℕ) → RunGroup command text false reply calls → reply ≡ TooLong count → ⊥
none_long command text reply calls count (not_started reply_is calls_are) h = let e : TooLong count ≡ NotStarted = sym h ∙ reply_is in cc
none_long command text reply calls count (was_run r) h =
    let none = subst (λ b. Takes b r.came r.takes) (unasked r.fed) r.taking in
    never_long (length text) count r.fed r.finished (sym h ∙ r.reply_is ∙ ap (λ came. run_reply (length text) r.fed came r.finished) none.0)

failure_faulty : (len : ℕ) (reply : Reply) → IsRunReply reply → ((count : ℕ) → reply ≡ TooLong count → ⊥) → came_to len reply ≡ Failed → IsFaulty reply
failure_faulty len (Ended code took output) fits never h = absurd (failed_never code took len h)
failure_faulty len NotStarted fits never h = tt
failure_faulty len (Broken took) fits never h = tt
failure_faulty len (TooLong count) fits never h = absurd (never count refl)
failure_faulty len other fits never h = absurd fits

run_failed : ChildFaultsHaveCalls → (command : Command) (text : List ℕ) (reply : Reply) (calls : List Logged) → RunGroup command text false reply calls → came_to (length text) reply ≡ Failed → SomeFailed calls
run_failed causes command text reply calls g h =
    let law = causes command text false reply calls g in
    law.1 (failure_faulty (length text) reply law.0 (λ count e. none_long command text reply calls count g e) h)

pub failures_have_calls : ChildFaultsHaveCalls → FailuresHaveCalls
failures_have_calls causes command [] [] each h = absurd (cc)
failures_have_calls causes command [] (r ∷ rs) each h = absurd each
failures_have_calls causes command (t ∷ ts) [] each h = absurd each
failures_have_calls causes command (t ∷ ts) (r ∷ rs) each h =
    elim (one_failed (came_to (length t) r.reply) (worst_of ts rs) h) [
      | inl f ↦ failed_left r.calls (calls_of rs) (run_failed causes command t r.reply r.calls each.0 f)
      | inr f ↦ failed_right r.calls (calls_of rs) (failures_have_calls causes command ts rs each.1 f)
    ]
