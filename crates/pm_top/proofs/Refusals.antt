-- What a run's source and status tell of how it went.
use Rattle.std.proofs.Common.{◌≡◌, ◌<◌, ◌⊎◌, inl, inr, ℕ, List, length, Option, Some, None, sym, ap, ◌∙◌, subst, arith}
use Rattle.pm_host.specs.Told.{Tells}
use Rattle.pm_top.specs.Words.{command_line}
use Rattle.pm_meaning.specs.declared.command_line.CommandLine.{CommandLine}
use Rattle.pm_streams.specs.Reading.{IsDrained, Drained, NoFault}
use Rattle.pm_host.specs.Streams.{StreamView}
use Rattle.pm_top.specs.Run.{Run}
use Rattle.pm_top.specs.Outcome.{BadWords, ReadFault, TooLong, NotBegun, HasMeaning, Outcome, bad_words, read_fault, too_long, not_begun, left_off, meant}
use Rattle.pm_top.specs.Promise.{IsRefused, IsStarved, Refuses}

pub meaning_of : (run : Run) → Outcome run → IsRefused run ⊎ (IsStarved run ⊎ HasMeaning run)
meaning_of run (bad_words h) = inl (inl h)
meaning_of run (read_fault h) = inl (inr (inl h))
meaning_of run (too_long h) = inl (inr (inr h))
meaning_of run (not_begun h) = inr (inl (inl h))
meaning_of run (left_off h) = inr (inl (inr h))
meaning_of run (meant h) = inr (inr h)

pub starved_of : (run : Run) → Outcome run → run.status ≡ 71 → IsStarved run ⊎ HasMeaning run
starved_of run (bad_words h) s = absurd (omega (arith, h.refused.status_is, s))
starved_of run (read_fault h) s = absurd (omega (arith, h.refused.status_is, s))
starved_of run (too_long h) s = absurd (omega (arith, h.refused.status_is, s))
starved_of run (not_begun h) s = inl (inl h)
starved_of run (left_off h) s = inl (inr h)
starved_of run (meant h) s = inr h

told_at : {T : Type 0} (R : T → T → Type 0) (a b : Option T) (x y : T) → a ≡ Some x → b ≡ Some y → Tells R a b → R x y
told_at R a b x y e f h = subst (λ o. Tells R (Some x) o) f (subst (λ o. Tells R o b) e h)

not_risen : (a b : StreamView) (x y : List ℕ) → a.bytes ≡ Some x → b.bytes ≡ Some y → a.faults < b.faults → NoFault a b → ⊥
not_risen a b x y e f lt h = let same : b.faults ≡ a.faults = told_at (λ u v. b.faults ≡ a.faults) a.bytes b.bytes x y e f h in absurd (omega (arith, same, lt))

faulted_of : (run : Run) → Outcome run → (x y : List ℕ) → run.source.bytes ≡ Some x → run.rest.bytes ≡ Some y → run.source.faults < run.rest.faults → ReadFault run ⊎ NotBegun run
faulted_of run (bad_words h) x y e f lt = absurd (omega (arith, ap (λ s. s.faults) h.source_same, lt))
faulted_of run (read_fault h) x y e f lt = inl h
faulted_of run (too_long h) x y e f lt = absurd (not_risen run.source run.rest x y e f lt h.past.steady)
faulted_of run (not_begun h) x y e f lt = inr h
faulted_of run (left_off h) x y e f lt = absurd (not_risen run.source run.rest x y e f lt h.drained.steady)
faulted_of run (meant h) x y e f lt = absurd (not_risen run.source run.rest x y e f lt h.drained.steady)

too_many : (mail x y : List ℕ) (a b : StreamView) → Drained mail a b → a.bytes ≡ Some x → b.bytes ≡ Some y → 67108864 < length x → ⊥
too_many mail x y a b d e f lt =
    let is = told_at (IsDrained mail) a.bytes b.bytes x y e f d.came in
    let len : length x ≡ length mail = ap length is.0 in
    absurd (omega (arith, len, d.within, lt))

over_of : (run : Run) → Outcome run → (x y : List ℕ) → run.source.bytes ≡ Some x → run.rest.bytes ≡ Some y → 67108864 < length x → IsRefused run ⊎ NotBegun run
over_of run (bad_words h) x y e f lt = inl (inl h)
over_of run (read_fault h) x y e f lt = inl (inr (inl h))
over_of run (too_long h) x y e f lt = inl (inr (inr h))
over_of run (not_begun h) x y e f lt = inr h
over_of run (left_off h) x y e f lt = absurd (too_many h.mail x y run.source run.rest h.drained e f lt)
over_of run (meant h) x y e f lt = absurd (too_many h.mail x y run.source run.rest h.drained e f lt)

apart_none : (run : Run) (line : CommandLine) → command_line run.words ≡ Some line → command_line run.words ≡ None → ⊥
apart_none run line s n = let e : Some line ≡ None = sym s ∙ n in cc

unread_of : (run : Run) → Outcome run → command_line run.words ≡ None → BadWords run
unread_of run (bad_words h) n = h
unread_of run (read_fault h) n = absurd (apart_none run h.line h.read n)
unread_of run (too_long h) n = absurd (apart_none run h.line h.read n)
unread_of run (not_begun h) n = absurd (apart_none run h.line h.read n)
unread_of run (left_off h) n = absurd (apart_none run h.line h.read n)
unread_of run (meant h) n = absurd (apart_none run h.line h.read n)

on_64_of : (run : Run) → Outcome run → run.status ≡ 64 → BadWords run ⊎ HasMeaning run
on_64_of run (bad_words h) s = inl h
on_64_of run (read_fault h) s = absurd (omega (arith, h.refused.status_is, s))
on_64_of run (too_long h) s = absurd (omega (arith, h.refused.status_is, s))
on_64_of run (not_begun h) s = absurd (omega (arith, h.refused.status_is, s))
on_64_of run (left_off h) s = absurd (omega (arith, h.status_is, s))
on_64_of run (meant h) s = inr h

on_65_of : (run : Run) → Outcome run → run.status ≡ 65 → TooLong run ⊎ HasMeaning run
on_65_of run (bad_words h) s = absurd (omega (arith, h.refused.status_is, s))
on_65_of run (read_fault h) s = absurd (omega (arith, h.refused.status_is, s))
on_65_of run (too_long h) s = inl h
on_65_of run (not_begun h) s = absurd (omega (arith, h.refused.status_is, s))
on_65_of run (left_off h) s = absurd (omega (arith, h.status_is, s))
on_65_of run (meant h) s = inr h

on_66_of : (run : Run) → Outcome run → run.status ≡ 66 → HasMeaning run
on_66_of run (bad_words h) s = absurd (omega (arith, h.refused.status_is, s))
on_66_of run (read_fault h) s = absurd (omega (arith, h.refused.status_is, s))
on_66_of run (too_long h) s = absurd (omega (arith, h.refused.status_is, s))
on_66_of run (not_begun h) s = absurd (omega (arith, h.refused.status_is, s))
on_66_of run (left_off h) s = absurd (omega (arith, h.status_is, s))
on_66_of run (meant h) s = h

on_74_of : (run : Run) → Outcome run → run.status ≡ 74 → ReadFault run ⊎ HasMeaning run
on_74_of run (bad_words h) s = absurd (omega (arith, h.refused.status_is, s))
on_74_of run (read_fault h) s = inl h
on_74_of run (too_long h) s = absurd (omega (arith, h.refused.status_is, s))
on_74_of run (not_begun h) s = absurd (omega (arith, h.refused.status_is, s))
on_74_of run (left_off h) s = absurd (omega (arith, h.status_is, s))
on_74_of run (meant h) s = inr h

pub refuses_of : (run : Run) → Outcome run → Refuses run
refuses_of run how = record {
  unread = unread_of run how;
  faulted = faulted_of run how;
  over = over_of run how;
  on_64 = on_64_of run how;
  on_65 = on_65_of run how;
  on_66 = on_66_of run how;
  on_74 = on_74_of run how;
}
