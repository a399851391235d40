-- 74 comes only where a call failed.
use Rattle.std.proofs.Common.{◌≡◌, ◌≤◌, ◌⊎◌, ℕ, ℤ, Bool, true, false, List, Option, Some, None, refl, sym, subst, inl, inr, arith, if◌then◌else◌}
use Rattle.std.specs.List.{list_any}
use Rattle.pm_bytes.specs.declared.environment.Pair.{Pair}
use Rattle.pm_host.specs.Told.{HostView, Rose}
use Rattle.pm_host.specs.Streams.{StreamView}
use Rattle.pm_host.specs.declared.command.Command.{Command}
use Rattle.pm_streams.specs.Writing.{IsShort}
use Rattle.pm_streams.specs.declared.writing.WriteEnd.{WriteEnd}
use Rattle.pm_streams.specs.declared.writing.WriteEnd.TheVariants.{Wrote, Short}
use Rattle.formail_extra.proofs.Faults.{failed_rose, steps_later}
use Rattle.formail_extra.specs.Stepping.{cache_at}
use Rattle.formail_extra.specs.declared.stepping.CacheEnd.{CacheEnd}
use Rattle.formail_extra.specs.declared.stepping.CacheEnd.TheVariants.{Kept, Busy, IsFolder, Failed as CacheFailed, Memory, Raced}
use Rattle.formail_split.specs.Feeding.{FeedsEach}
use Rattle.formail_split.specs.Laws.{FailuresHaveCalls}
use Rattle.formail_split.specs.declared.feeding.Outcome.{Outcome}
use Rattle.formail_split.specs.declared.feeding.Outcome.TheVariants.{Fine, Amiss, Failed}
use Rattle.formail_top.specs.Laws.{SomeRose}
use Rattle.formail_top.specs.Outputs.{mails_of, wants_moment, each_output_of, ids_of, kept_of}
use Rattle.formail_top.specs.Run.{AsksIf, Seen, IsWriteStatus, Feeds, feed_status, command_for, Puts, PutsKept, AfterStep, StepsWith, Treats, Ended, unread, too_long, lost, memory, put}
use Rattle.formail_top.specs.declared.request.Request.{Request}
use Rattle.formail_top.specs.declared.settings.Cache.{Cache}

rose_after : (a b c : ℕ) → a ≤ b → Rose b c → Rose a c
rose_after a b c later rose = omega arith

asks_later : (wants : Bool) (moment : ℤ) (a b : HostView) → AsksIf wants moment a b → a.faults ≤ b.faults
asks_later true moment a b asks = asks.later
asks_later false moment a b asks = subst (λ h. a.faults ≤ h.faults) (sym asks) (omega arith)

fed_rose : FailuresHaveCalls → (command : Command) (texts : List (List ℕ)) (a b : HostView) → FeedsEach command texts Failed a b → Rose a.faults b.faults
fed_rose law command texts a b feeds = feeds.ran.failed (law command texts feeds.runs feeds.each (sym feeds.worst))

fed_failed : (outcome : Outcome) → 74 ≡ feed_status outcome → outcome ≡ Failed
fed_failed Fine e = absurd (omega (arith, e))
fed_failed Amiss e = absurd (omega (arith, e))
fed_failed Failed e = refl

is_short : (end : WriteEnd) → IsWriteStatus 74 end → IsShort end
is_short Wrote e = absurd (omega (arith, e))
is_short (Short n) e = tt

-- the host's count rose, or the sink's
abbrev EitherRose : HostView → HostView → StreamView → StreamView → Type 0
EitherRose a b x y = Rose a.faults b.faults ⊎ Rose x.faults y.faults

feeds_rose : FailuresHaveCalls → (command : Command) (request : Request) (mails : List (List ℕ)) (a b : HostView) → Feeds command request mails 74 a b → Rose a.faults b.faults
feeds_rose law command request mails a b feeds =
    let texts = each_output_of request feeds.moment mails in
    rose_after a.faults feeds.middle.faults b.faults (asks_later (wants_moment request mails) feeds.moment a feeds.middle feeds.asks)
    (fed_rose law command texts feeds.middle b (subst (λ o. FeedsEach command texts o feeds.middle b) (fed_failed feeds.outcome feeds.status_is) feeds.feeds))

puts_rose : FailuresHaveCalls → (program : Option (List ℕ)) (request : Request) (vars : List Pair) (mails : List (List ℕ)) (a b : HostView) (x y : StreamView)
    → Puts program request vars mails 74 a b x y → EitherRose a b x y
puts_rose law None request vars mails a b x y writes = inr (writes.written.written.failed (is_short writes.written.end writes.written.status_is))
puts_rose law (Some program) request vars mails a b x y feeds = inl (feeds_rose law (command_for vars program request.arguments) request mails a b feeds.0)

marked_small : (some : Bool) (status : ℕ) → status ≡ (if some then 1 else 0) → status ≤ 1
marked_small true status e = omega (arith, e)
marked_small false status e = omega (arith, e)

kept_rose : FailuresHaveCalls → (split : Bool) (kept : List Bool) (request : Request) (vars : List Pair) (mails : List (List ℕ)) (a b : HostView) (x y : StreamView)
    → PutsKept split kept request vars mails 74 a b x y → EitherRose a b x y
kept_rose law true kept request vars mails a b x y puts = puts_rose law request.program request vars (kept_of kept mails) a b x y puts
kept_rose law false kept request vars mails a b x y stops =
    let small = marked_small (list_any (λ keep. keep) kept) 74 stops.0 in absurd (omega (arith, small))

step_rose : FailuresHaveCalls → (cache : Cache) (request : Request) (vars : List Pair) (mails : List (List ℕ)) (end : CacheEnd) (a m b : HostView) (x y : StreamView)
    → StepsWith cache (ids_of request mails) end a m → AfterStep end request vars mails 74 m b x y → EitherRose a b x y
step_rose law cache request vars mails (Kept kept) a m b x y steps puts =
    elim (kept_rose law request.split kept request vars mails m b x y puts) [
      | inl host ↦ inl (rose_after a.faults m.faults b.faults (steps_later (cache_at cache.name cache.most) (ids_of request mails) (Kept kept) a m steps) host)
      | inr out ↦ inr out
    ]
step_rose law cache request vars mails Busy a m b x y steps stops = let e : 74 ≡ 73 = stops.0 in absurd (omega (arith, e))
step_rose law cache request vars mails IsFolder a m b x y steps stops = let e : 74 ≡ 73 = stops.0 in absurd (omega (arith, e))
step_rose law cache request vars mails Memory a m b x y steps none = absurd none
step_rose law cache request vars mails Raced a m b x y steps stops = let e : 74 ≡ 73 = stops.0 in absurd (omega (arith, e))
step_rose law cache request vars mails CacheFailed a m b x y steps stops =
    inl (subst (λ h. Rose a.faults h.faults) (sym stops.1) (failed_rose (cache_at cache.name cache.most) (ids_of request mails) a m steps))

treats_rose : FailuresHaveCalls → (cache : Option Cache) (request : Request) (vars : List Pair) (mails : List (List ℕ)) (a b : HostView) (x y : StreamView)
    → Treats cache request vars mails 74 a b x y → EitherRose a b x y
treats_rose law None request vars mails a b x y puts = puts_rose law request.program request vars mails a b x y puts
treats_rose law (Some cache) request vars mails a b x y remembers = step_rose law cache request vars mails remembers.end a remembers.middle b x y remembers.steps remembers.after

-- some count rose
pub ended_rose : FailuresHaveCalls → (words : List (List ℕ)) (vars : List Pair) (seen : Seen) → Ended words vars 74 seen → SomeRose seen
ended_rose law words vars seen (unread status words_unread source_same same) = absurd (omega (arith, status))
ended_rose law words vars seen (too_long status request asks past same) = absurd (omega (arith, status))
ended_rose law words vars seen (lost status request asks stops same) =
    inl (rose_after seen.source.faults stops.middle.faults seen.source'.faults stops.later (stops.failed.failed tt))
ended_rose law words vars seen (memory status unwritten) = absurd (omega (arith, status))
ended_rose law words vars seen (put request asks bytes drained treats) =
    inr (treats_rose law request.cache request vars (mails_of request bytes) seen.host seen.host' seen.out seen.out' treats)
