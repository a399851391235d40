-- The reading of a cache, call by call.
use Rattle.std.proofs.Common.{◌≡◌, ◌≤◌, ◌⊎◌, ℕ, ◌+◌, List, [], ◌∷◌, ◌++◌, length, refl, sym, ap, ◌∙◌, subst, inl, inr, arith, length-append}
use Rattle.pm_host.specs.Told.{HostView, Makes}
use Rattle.pm_host.specs.World.{World, IsAnswerTo, IsFailed, after_call}
use Rattle.pm_host.specs.Runs.{logged, after_calls, Transitions, SomeFailed}
use Rattle.pm_host.proofs.RunsJoin.{ran_none, ran_then, transitions_then}
use Rattle.pm_host.specs.declared.answers.Looked.{Looked}
use Rattle.pm_host.specs.declared.answers.Looked.TheVariants.{File as LookedFile, Folder as LookedFolder, Nothing, Failed as LookFailed}
use Rattle.pm_host.specs.declared.calls.Call.{Call}
use Rattle.pm_host.specs.declared.calls.Call.TheVariants.{Look, Read}
use Rattle.pm_host.specs.declared.calls.Answer.{Answer}
use Rattle.pm_host.specs.declared.calls.Answer.TheVariants.{Look as AnswerLook, Read as AnswerRead, Failed as AnswerFailed}
use Rattle.pm_host.specs.declared.calls.Logged.{Logged}
use Rattle.formail_extra.specs.Reading.{CacheState, CacheLooking, CacheOn, CacheEnded, CacheAsks, more_came, heard_first, heard_read, cache_heard, CacheDone, ReadsTo, ReadsCache, MakesRead, Brings}
use Rattle.formail_extra.specs.declared.reading.CacheRead.TheVariants.{Whole, Failed as ReadFailed}
use Rattle.formail_extra.specs.declared.reading.Came.{Came}
use Rattle.formail_extra.specs.declared.reading.Came.TheVariants.{More, End, Failed}

reads_none : (name : List ℕ) (s : HostView) → ReadsTo name CacheLooking s s
reads_none name s = record { calls = []; ran = ran_none s; walk = refl }

reads_then : (name : List ℕ) (at : CacheState) (call : Call) (answer : Answer) (a b c : HostView) → ReadsTo name at a b → CacheAsks name at call → Makes call answer b c
    → ReadsTo name (cache_heard at answer) a c
reads_then name at call answer a b c r asks makes = record {
  calls = r.calls ++ logged call answer ∷ [];
  ran = ran_then r.calls call answer a b c r.ran makes;
  walk = transitions_then (CacheAsks name) cache_heard CacheLooking r.calls at call answer r.walk asks makes.fits;
}

-- the first look
pub looked_at : (name text : List ℕ) (looked : Looked) (a b : HostView) → text ≡ name → Makes (Look text) (AnswerLook looked) a b → ReadsTo name (heard_first (AnswerLook looked)) a b
looked_at name text looked a b e makes =
    reads_then name CacheLooking (Look name) (AnswerLook looked) a a b (reads_none name a) refl (subst (λ t. Makes (Look t) (AnswerLook looked) a b) e makes)

-- a call more
pub read_at : (name text bytes : List ℕ) (room : ℕ) (came : Came) (new : List ℕ) (s a b : HostView) → text ≡ name
    → ReadsTo name (CacheOn bytes) s a → (m : MakesRead text room bytes came new a b) → 1 ≤ room → length bytes + room ≤ 2097152 → ReadsTo name (heard_read bytes m.answer) s b
read_at name text bytes room came new s a b e r m some fits =
    reads_then name (CacheOn bytes) (Read name (length bytes) room) m.answer s a b r (record { room = room; is = refl; some = some; bounded = fits })
    (subst (λ t. Makes (Read t (length bytes) room) m.answer a b) e m.makes)

more_read : (so_far part : List ℕ) → 1 ≤ length part → more_came so_far part ≡ CacheOn (so_far ++ part)
more_read so_far [] h = absurd (omega arith)
more_read so_far (b ∷ part) h = refl

pub goes_on : (name bytes : List ℕ) (new : List ℕ) (answer : Answer) (s b : HostView) → ReadsTo name (heard_read bytes answer) s b → Brings More answer bytes new → ReadsTo name (CacheOn new) s b
goes_on name bytes new answer s b r m =
    let at : heard_read bytes answer ≡ CacheOn new = ap (heard_read bytes) m.1 ∙ more_read bytes m.0 m.2 ∙ ap CacheOn (sym m.3) in
    subst (λ x. ReadsTo name x s b) at r

pub comes_to_end : (name bytes : List ℕ) (new : List ℕ) (answer : Answer) (s b : HostView) → ReadsTo name (heard_read bytes answer) s b → Brings End answer bytes new
    → ReadsCache name (Whole new) s b
comes_to_end name bytes new answer s b r m = record {
  at = CacheEnded (Whole bytes);
  reads = subst (λ x. ReadsTo name x s b) (ap (heard_read bytes) m.0) r;
  done = ap Whole m.1;
}

pub comes_to_fault : (name bytes : List ℕ) (new : List ℕ) (answer : Answer) (s b : HostView) → ReadsTo name (heard_read bytes answer) s b → Brings Failed answer bytes new
    → ReadsCache name ReadFailed s b
comes_to_fault name bytes new answer s b r m = record {
  at = heard_read bytes AnswerFailed;
  reads = subst (λ x. ReadsTo name x s b) (ap (heard_read bytes) m.0) r;
  done = refl;
}

-- no more came than there was room for
pub still_bounded : (text bytes : List ℕ) (room : ℕ) (new : List ℕ) (answer : Answer) (a b : HostView) → Makes (Read text (length bytes) room) answer a b → Brings More answer bytes new
    → length bytes + room ≤ 2097152 → length new ≤ 2097152
still_bounded text bytes room new answer a b makes m fits =
    let part : length m.0 ≤ room = subst (IsAnswerTo (Read text (length bytes) room)) m.1 makes.fits in
    let size : length new ≡ length bytes + length m.0 = ap length m.3 ∙ length-append bytes m.0 in
    omega arith

-- the reading has failed
abbrev HasFailed : CacheState → Type 0
HasFailed (CacheEnded ReadFailed) = Unit {0}
HasFailed other = ⊥

after_look : (name : List ℕ) (answer : Answer) → IsAnswerTo (Look name) answer → HasFailed (heard_first answer) → IsFailed answer
after_look name (AnswerLook LookFailed) fits h = tt
after_look name (AnswerLook (LookedFile len)) fits h = h
after_look name (AnswerLook LookedFolder) fits h = h
after_look name (AnswerLook Nothing) fits h = h
after_look name other fits h = absurd fits

after_read : (name so_far : List ℕ) (room : ℕ) (answer : Answer) → IsAnswerTo (Read name (length so_far) room) answer → HasFailed (heard_read so_far answer) → IsFailed answer
after_read name so_far room (AnswerRead []) fits h = h
after_read name so_far room (AnswerRead (b ∷ bs)) fits h = h
after_read name so_far room AnswerFailed fits h = tt
after_read name so_far room other fits h = absurd fits

one_call : (name : List ℕ) (at : CacheState) (call : Call) (answer : Answer) → CacheAsks name at call → IsAnswerTo call answer → HasFailed (cache_heard at answer) → IsFailed answer
one_call name CacheLooking call answer asks fits h = after_look name answer (subst (λ c. IsAnswerTo c answer) asks fits) h
one_call name (CacheOn so_far) call answer asks fits h = after_read name so_far asks.room answer (subst (λ c. IsAnswerTo c answer) asks.is fits) h
one_call name (CacheEnded end) call answer asks fits h = absurd asks

all_calls : (name : List ℕ) (calls : List Logged) (at last : CacheState) → Transitions (CacheAsks name) cache_heard at calls last → HasFailed last → HasFailed at ⊎ SomeFailed calls
all_calls name [] at last walk h = inl (subst HasFailed walk h)
all_calls name (c ∷ cs) at last walk h =
    elim (all_calls name cs (cache_heard at c.answer) last walk.2 h) [
      | inl f ↦ inr (inl (one_call name at c.call c.answer walk.0 walk.1 f))
      | inr f ↦ inr (inr f)
    ]

done_failed : (at : CacheState) → CacheDone at ReadFailed → HasFailed at
done_failed CacheLooking done = done
done_failed (CacheOn so_far) done = let e = done.1 in absurd (cc)
done_failed (CacheEnded end) done = subst (λ e. HasFailed (CacheEnded e)) done tt

-- a reading that failed has a failed call
pub read_cause : (name : List ℕ) (a b : HostView) → (file : ReadsCache name ReadFailed a b) → SomeFailed file.reads.calls
read_cause name a b file =
    elim (all_calls name file.reads.calls CacheLooking file.at file.reads.walk (done_failed file.at file.done)) [ inl h ↦ absurd h | inr h ↦ h ]

asked_same : (name : List ℕ) (at : CacheState) (call : Call) (answer : Answer) (w : World) → CacheAsks name at call → after_call call answer w ≡ w
asked_same name CacheLooking call answer w asks = ap (λ c. after_call c answer w) asks
asked_same name (CacheOn so_far) call answer w asks = ap (λ c. after_call c answer w) asks.is
asked_same name (CacheEnded end) call answer w asks = absurd asks

-- a reading changes nothing
pub reading_same : (name : List ℕ) (calls : List Logged) (at last : CacheState) (w : World) → Transitions (CacheAsks name) cache_heard at calls last → after_calls calls w ≡ w
reading_same name [] at last w walk = refl
reading_same name (c ∷ cs) at last w walk =
    ap (after_calls cs) (asked_same name at c.call c.answer w walk.0) ∙ reading_same name cs (cache_heard at c.answer) last w walk.2
