-- A count goes on by one place, or by one match.
use Rattle.std.proofs.Common.{◌≡◌, ◌⊎◌, ℕ, zero, suc, ◌+◌, ◌<◌, ◌≤◌, Bool, List, [], ◌∷◌, ◌++◌, Some, None, length, refl, subst, ⊎_elim, arith}
use Rattle.pm_regex.specs.Re.{Re}
use Rattle.pm_match.specs.declared.build.Program.{Program}
use Rattle.pm_regex.specs.declared.found.Found.{Found}
use Rattle.pm_regex.specs.Matching.{At}
use Rattle.pm_match.specs.Search.{IsProgram}
use Rattle.pm_regex.specs.Found.{IsPlainMatch, IsRun, place_after}
use Rattle.pm_match.specs.Backward.{ReachesExit}
use Rattle.pm_match.specs.Forward.{IsLeastEnd}
use Rattle.std.specs.Prelude.{vec_len}
use Rattle.pm_match.specs.declared.cache.States.{States}
use Rattle.pm_match.specs.Checkpoints.{CountsTo}
use Rattle.pm_match.specs.Cache.{AreSets}
use Rattle.pm_match.proofs.BestLemmas.{reach_of, run_of}

-- where a match begins the exit is reached
pub match_out : (g : Program) (e : Re) (fold : Bool) (area : List ℕ) (s j : ℕ) → IsProgram g e fold → At fold e area s j → ReachesExit g.steps.items area g.exit g.entry s
match_out g e fold area s j is at =
    let r = reach_of fold g.steps.items area e g.entry g.exit is.built s j at in
    record { end = j; count = r.0; run = run_of fold g.steps.items area g.entry s r.0 g.exit j r.1 }

module _ (fold : Bool) (e : Re) (area : List ℕ) (from : ℕ) where
  module _ (none : (j : ℕ) → j ≤ length area → At fold e area from j → ⊥) where
    later_match : (s j : ℕ) → IsPlainMatch fold e area from s j → IsPlainMatch fold e area (from + 1) s j
    later_match s j m =
        let low = m.after in
        let choice : (s ≡ from) ⊎ (from + 1 ≤ s) = grind (arith, low) in
        ⊎_elim
        (λ same. absurd (none j m.end_in (subst (λ k. At fold e area k j) same m.at)))
        (λ later. record { after = later; start_in = m.start_in; end_in = m.end_in; at = m.at })
        choice

    earlier_match : (s j : ℕ) → IsPlainMatch fold e area (from + 1) s j → IsPlainMatch fold e area from s j
    earlier_match s j m = record { after = (let low = m.after in omega (arith, low)); start_in = m.start_in; end_in = m.end_in; at = m.at }

    -- where no match begins the matches are those from the next place on
    past_run : (rest : List Found) → IsRun fold e area (from + 1) rest → IsRun fold e area from rest
    past_run [] h = λ s j lt m. h s j lt (later_match s j m)
    past_run (m ∷ ms) h =
        let f = h.1 in
        (h.0, (f.0, earlier_match m.start m.end f.1, (λ s j n. f.2 s j (later_match s j n)), λ j n. f.3 j (later_match m.start j n)), h.2)

    pub past : (start count : ℕ) → CountsTo fold e area start count from → CountsTo fold e area start count (from + 1)
    past start count by = λ rest run. by rest (past_run rest run)

  pub one_more : (start count end : ℕ) → from < length area → IsLeastEnd fold e area from (Some end) → CountsTo fold e area start count from →
      CountsTo fold e area start (count + 1) (place_after from end)
  one_more start count end lt least by = λ rest run.
      let m : Found = record { start = from; cut = None; end = end } in
      let all = by (m ∷ rest) (
        lt,
        (
          refl,
          record { after = omega arith; start_in = omega (arith, lt); end_in = least.0; at = least.1 },
          (λ s j n. n.after),
          (λ j n. least.2 j n.at),
        ),
        run,
      ) in
      let size = all.2 in
      (all.0, all.1, omega (arith, size))

-- one set more
pub sets_push : (n : ℕ) (bs : List States) (b : States) → AreSets n bs → vec_len b.set ≡ n → AreSets n (bs ++ b ∷ [])
sets_push n [] b sets len zero x is = let same : b ≡ x = cc in subst (λ s. vec_len s.set ≡ n) same len
sets_push n [] b sets len (suc v) x is = cc
sets_push n (a ∷ bs) b sets len zero x is = sets zero x is
sets_push n (a ∷ bs) b sets len (suc v) x is = sets_push n bs b (λ w y h. sets (suc w) y h) len v x is

-- where no match follows a count is at the area's end
pub to_end : (fold : Bool) (e : Re) (area : List ℕ) (count place end : ℕ) → length area ≡ end → CountsTo fold e area 0 count place → IsRun fold e area place [] →
    CountsTo fold e area 0 count end
to_end fold e area count place end is by none [] run = by [] none
to_end fold e area count place end is by none (m ∷ ms) run = let low = ((run.1).1).after in absurd (omega (arith, low, run.0, is))
