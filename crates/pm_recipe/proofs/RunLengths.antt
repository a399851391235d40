-- A reader of names, blanks or lines comes as far as the run goes.
use Rattle.std.proofs.Common.{◌≡◌, ◌+◌, ℕ, suc, Bool, true, false, not, ◌&&◌, ◌||◌, cond, nat_eq, List, [], ◌∷◌, ◌++◌, refl, ap, sym, ◌∙◌, length, take, drop, arith, subst}
use Rattle.std.proofs.lemmas.List.{take-append-drop}
use Rattle.std.proofs.lemmas.Bool.Decides.{nat_tests}
use Rattle.pm_bytes.specs.Alphabet.{NEWLINE, BACKSLASH}
use Rattle.pm_recipe.specs.declared.runs.Run.{Run}
use Rattle.pm_recipe.specs.Bytes.{begins_with}
use Rattle.pm_recipe.specs.Places.{place_after, reach_of}
use Rattle.pm_recipe.specs.Runs.{in_run, run_places}
use Rattle.pm_recipe.specs.Words.{belongs, IsRun}

none-of : (a j k : Bool) → (not k && not j && not a) ≡ not (a || j || k)
none-of true true true = refl
none-of true true false = refl
none-of true false true = refl
none-of true false false = refl
none-of false true true = refl
none-of false true false = refl
none-of false false true = refl
none-of false false false = refl

pub once : (byte : ℕ) (x y : Bool) → ((nat_eq byte BACKSLASH && x) && not (y && nat_eq byte NEWLINE)) ≡ (nat_eq byte BACKSLASH && x)
once byte x y = grind (arith, nat_tests)

module _ (place : Run) where
  -- how far the reader comes after a byte
  abbrev pub far_after : ℕ → List ℕ → ℕ
  far_after before text = reach_of run_places (nat_eq before BACKSLASH && begins_with 10 text) place text

  stays-behind : (joined : Bool) (byte : ℕ) (bytes : List ℕ) → place_after run_places joined place byte bytes ≡ place
  stays-behind joined byte bytes = by (joined || (nat_eq byte BACKSLASH && begins_with 10 bytes))
    where
      by : (b : Bool) → cond b place place ≡ place
      by true = refl
      by false = refl

  step : (before byte : ℕ) (bytes : List ℕ)
      → far_after before (byte ∷ bytes) ≡ cond (not (belongs (in_run place) before byte bytes)) 0 (suc (far_after byte bytes))
  step before byte bytes =
      let joined = nat_eq before BACKSLASH && nat_eq byte NEWLINE in
      let joining = nat_eq byte BACKSLASH && begins_with 10 bytes in
      let more : reach_of run_places (joining && not joined) (place_after run_places joined place byte bytes) bytes + 1 ≡ suc (far_after byte bytes) =
      ap (λ p. reach_of run_places (joining && not joined) p bytes + 1) (stays-behind joined byte bytes)
      ∙ ap (λ j. reach_of run_places j place bytes + 1) (once byte (begins_with 10 bytes) (nat_eq before BACKSLASH))
      ∙ omega arith in
      ap (λ t. cond t 0 (reach_of run_places (joining && not joined) (place_after run_places joined place byte bytes) bytes + 1))
      (none-of (in_run place byte) joining joined)
      ∙ ap (λ n. cond (not (belongs (in_run place) before byte bytes)) 0 n) more

  pub go : (before byte : ℕ) (bytes : List ℕ) → belongs (in_run place) before byte bytes ≡ true → far_after before (byte ∷ bytes) ≡ suc (far_after byte bytes)
  go before byte bytes h = step before byte bytes ∙ ap (λ b. cond (not b) 0 (suc (far_after byte bytes))) h

  pub stop : (before byte : ℕ) (bytes : List ℕ) → belongs (in_run place) before byte bytes ≡ false → far_after before (byte ∷ bytes) ≡ 0
  stop before byte bytes h = step before byte bytes ∙ ap (λ b. cond (not b) 0 (suc (far_after byte bytes))) h

  -- what is read is a run
  pub run : (before : ℕ) (text : List ℕ) → IsRun (in_run place) before (take (far_after before text) text) (drop (far_after before text) text)
  run before [] = tt
  run before (byte ∷ bytes) = by (belongs (in_run place) before byte bytes) refl (run byte bytes)
    where
      by : (b : Bool) → belongs (in_run place) before byte bytes ≡ b
          → IsRun (in_run place) byte (take (far_after byte bytes) bytes) (drop (far_after byte bytes) bytes)
          → IsRun (in_run place) before (take (far_after before (byte ∷ bytes)) (byte ∷ bytes)) (drop (far_after before (byte ∷ bytes)) (byte ∷ bytes))
      by true h rest =
          let P : ℕ → Type 0 = λ n. IsRun (in_run place) before (take n (byte ∷ bytes)) (drop n (byte ∷ bytes)) in
          subst P (sym (go before byte bytes h))
          (ap (λ t. belongs (in_run place) before byte t) (take-append-drop (far_after byte bytes) bytes) ∙ h, rest)
      by false h rest =
          let P : ℕ → Type 0 = λ n. IsRun (in_run place) before (take n (byte ∷ bytes)) (drop n (byte ∷ bytes)) in
          subst P (sym (stop before byte bytes h)) h

  -- a run is what is read
  pub run-length : (before : ℕ) (text behind : List ℕ) → IsRun (in_run place) before text behind → far_after before (text ++ behind) ≡ length text
  run-length before [] [] h = refl
  run-length before [] (byte ∷ bytes) h = stop before byte bytes h
  run-length before (byte ∷ text) behind h =
      go before byte (text ++ behind) h.0 ∙ ap suc (run-length byte text behind h.1)
