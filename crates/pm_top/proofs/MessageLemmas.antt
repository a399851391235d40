-- A message of a trial is short, and a run that read it did so to its end.
use Rattle.std.proofs.Common.{◌≡◌, ◌≤◌, ◌⊎◌, inl, inr, ℕ, zero, suc, ◌+◌, ◌-◌, ◌*◌, ◌^◌, ◌%◌, min, List, length, [], ◌∷◌, ◌++◌, codes, decimal, Some, None, true, false, refl, sym, ap, ◌∙◌, subst, arith, length-append}
use Rattle.std.specs.Prelude.{is_some}
use Rattle.std.specs.List.{repeat}
use Rattle.std.proofs.lemmas.Fmt.{length-decimal-le}
use Rattle.pm_host.specs.Told.{Tells}
use Rattle.pm_host.specs.Streams.{StreamView}
use Rattle.pm_top.specs.Words.{all_bytes, asked, no_words}
use Rattle.pm_top.specs.declared.place.Next.TheVariants.{Any}
use Rattle.pm_streams.specs.Reading.{IsDrained, IsTooMuch}
use Rattle.pm_top.specs.Run.{Run}
use Rattle.pm_top.specs.Outcome.{BadWords, ReadFault, TooLong, HasMeaning}
use Rattle.pm_top.specs.Promise.{IsRefused, IsStarved, Promise}
use Rattle.pm_top.specs.Messages.{message_of}
use Rattle.pm_top.specs.Sources.{telling}
use Rattle.pm_top.specs.Runs.{run_words, MeansMessage, IsRun}

length-lines : (n : ℕ) → length (repeat n (codes "line\n")) ≡ 5 * n
length-lines zero = refl
length-lines (suc n) = let e = length-lines n in omega arith

length-six : (a b c d e f : List ℕ) → length (a ++ b ++ c ++ d ++ e ++ f) ≡ length a + length b + length c + length d + length e + length f
length-six a b c d e f = simp length-append

-- no message comes near the limit
pub message_is_short : (k : ℕ) → k ≤ 2000 → length (message_of k) ≤ 200
message_is_short k small =
    let whole = length-six (codes "From t Thu Jan  1 00:00:00 1970\nTo: l") (decimal (k % 5)) (codes "@x\nSubject: ") (decimal k) (codes "\n\n") (repeat (k % 4) (codes "line\n")) in
    let to = length-decimal-le 20 (k % 5) (omega arith) (omega arith) (omega arith) in
    let subject = length-decimal-le 20 k (omega arith) (omega arith) (omega arith) in
    let body = length-lines (k % 4) in
    let four : k % 4 ≤ 3 = omega arith in
    omega arith

-- the words of a run are read
read_words : (run : Run) → all_bytes run.words ≡ run_words → BadWords run → ⊥
read_words run words bad = let e : true ≡ false = sym (ap (λ w. is_some (asked Any no_words w)) words) ∙ ap is_some bad.unread in cc

-- no read of a message fails
no_fault : (run : Run) (left : List ℕ) → run.rest ≡ telling left → ReadFault run → ⊥
no_fault run left rest fault =
    let rose : min (fault.stopped.middle.faults + 1) (2 ^ 64 - 1) ≤ run.rest.faults = fault.stopped.failed.failed tt in
    let none : run.rest.faults ≡ 0 = ap (λ (v : StreamView). v.faults) rest in
    omega arith

told_by : (R : List ℕ → List ℕ → Type 0) (old new : List ℕ) (before after : StreamView) → before ≡ telling old → after ≡ telling new → Tells R before.bytes after.bytes → R old new
told_by R old new before after b a h =
    subst (λ (v : StreamView). Tells R (Some old) v.bytes) a (subst (λ (v : StreamView). Tells R v.bytes after.bytes) b h)

not_long : (run : Run) (k : ℕ) (left : List ℕ) → k ≤ 2000 → run.source ≡ telling (message_of k) → run.rest ≡ telling left → TooLong run → ⊥
not_long run k left small source rest long =
    let much = told_by IsTooMuch (message_of k) left run.source run.rest source rest long.past.came in
    let whole : length (message_of k) ≡ length much.taken + length left = ap length much.off ∙ length-append much.taken left in
    let short = message_is_short k small in
    let past : length much.taken ≡ 67108865 = much.past in
    omega arith

not_refused : (run : Run) (k : ℕ) (left : List ℕ) → k ≤ 2000 → all_bytes run.words ≡ run_words → run.source ≡ telling (message_of k) → run.rest ≡ telling left → IsRefused run → ⊥
not_refused run k left small words source rest (inl bad) = read_words run words bad
not_refused run k left small words source rest (inr (inl fault)) = no_fault run left rest fault
not_refused run k left small words source rest (inr (inr long)) = not_long run k left small source rest long

means_it : (run : Run) (k : ℕ) (left : List ℕ) → run.source ≡ telling (message_of k) → run.rest ≡ telling left → HasMeaning run → MeansMessage k run
means_it run k left source rest h =
    let came = told_by (IsDrained h.mail) (message_of k) left run.source run.rest source rest h.drained.came in
    record { meaning = h; mail_is = sym came.0; all_read = rest ∙ ap telling came.1 }

went_so : (run : Run) (k : ℕ) (left : List ℕ) → k ≤ 2000 → all_bytes run.words ≡ run_words → run.source ≡ telling (message_of k) → run.rest ≡ telling left → IsRefused run ⊎ (IsStarved run ⊎ HasMeaning run) → IsStarved run ⊎ MeansMessage k run
went_so run k left small words source rest (inl h) = absurd (not_refused run k left small words source rest h)
went_so run k left small words source rest (inr (inl h)) = inl h
went_so run k left small words source rest (inr (inr h)) = inr (means_it run k left source rest h)

-- what is promised of a run over a message makes it a run of a trial
pub is_run : (run : Run) (k : ℕ) (left : List ℕ) → k ≤ 2000 → all_bytes run.words ≡ run_words → run.source ≡ telling (message_of k) → run.rest ≡ telling left → Promise run → IsRun run.env k run
is_run run k left small words source rest p = record {
  words_are = words;
  env_is = refl;
  source_is = source;
  promise = p;
  went = went_so run k left small words source rest p.meaning;
}
