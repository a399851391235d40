-- A machine goes on in one way only over the same calls.
use Rattle.std.proofs.Common.{◌≡◌, List, [], ◌∷◌, ◌++◌, refl, sym, ap, ◌∙◌, subst}
use Rattle.pm_host.specs.Runs.{Transitions}
use Rattle.pm_host.specs.declared.calls.Call.{Call}
use Rattle.pm_host.specs.declared.calls.Answer.{Answer}
use Rattle.pm_host.specs.declared.calls.Logged.{Logged}

abbrev pub first_or : Logged → List Logged → Logged
first_or c [] = c
first_or c (d ∷ ds) = d

abbrev pub rest_of : List Logged → List Logged
rest_of [] = []
rest_of (c ∷ cs) = cs

-- two calls' lists begin with the same group
pub record Same (g h r q : List Logged) : Type 0 where
  pub group : g ≡ h
  pub rest : r ≡ q

-- nothing is asked
abbrev pub IsDone : {S : Type 0} → (S → Call → Type 0) → S → Type 0
IsDone asks s = (call : Call) → asks s call → ⊥

-- a machine that has ended goes no further
pub one_run : {S : Type 0} (asks : S → Call → Type 0) (heard : S → Answer → S) (s t u : S) (g h r q : List Logged) → Transitions asks heard s g t → Transitions asks heard s h u
    → IsDone asks t → IsDone asks u → g ++ r ≡ h ++ q → Same g h r q
one_run asks heard s t u [] [] r q x y x_done y_done e = record { group = refl; rest = e }
one_run asks heard s t u [] (d ∷ ds) r q x y x_done y_done e = absurd (x_done d.call (subst (λ at. asks at d.call) (sym x) y.0))
one_run asks heard s t u (c ∷ cs) [] r q x y x_done y_done e = absurd (y_done c.call (subst (λ at. asks at c.call) (sym y) x.0))
one_run asks heard s t u (c ∷ cs) (d ∷ ds) r q x y x_done y_done e =
    let first : c ≡ d = ap (first_or c) e in
    let next = subst (λ k. Transitions asks heard (heard s k.answer) cs t) first x.2 in
    let more = one_run asks heard (heard s d.answer) t u cs ds r q next y.2 x_done y_done (ap rest_of e) in
    record { group = ap (λ k. k ∷ cs) first ∙ ap (λ l. d ∷ l) more.group; rest = more.rest }

-- groups of no call
pub same_none : (g h r q : List Logged) → g ≡ [] → h ≡ [] → g ++ r ≡ h ++ q → Same g h r q
same_none g h r q x y e = record { group = x ∙ sym y; rest = ap (λ l. l ++ r) (sym x) ∙ e ∙ ap (λ l. l ++ q) y }

-- groups of one call
pub same_call : (c d : Logged) (g h r q : List Logged) → g ≡ c ∷ [] → h ≡ d ∷ [] → g ++ r ≡ h ++ q → Same g h r q
same_call c d g h r q x y e =
    let both : c ∷ r ≡ d ∷ q = ap (λ l. l ++ r) (sym x) ∙ e ∙ ap (λ l. l ++ q) y in
    record { group = x ∙ ap (λ k. k ∷ []) (ap (first_or c) both) ∙ sym y; rest = ap rest_of both }

-- over the same calls a machine comes to the same state
pub one_end : {S : Type 0} (asks : S → Call → Type 0) (heard : S → Answer → S) (s t u : S) (calls : List Logged) → Transitions asks heard s calls t → Transitions asks heard s calls u → t ≡ u
one_end asks heard s t u [] x y = x ∙ sym y
one_end asks heard s t u (c ∷ cs) x y = one_end asks heard (heard s c.answer) t u cs x.2 y.2
