-- Stages of an action one behind the other, in plans.
use Rattle.std.proofs.Common.{◌≡◌, Result, Ok, Err, IsErrAnd, sym, subst}
use Rattle.pm_journal.specs.Plan.{Plan}
use Rattle.pm_meaning.specs.Minds.{Mind}
use Rattle.pm_meaning.specs.Turns.{ActEnd}
use Rattle.pm_perform.specs.Refusals.{Refuses, Continues}
use Rattle.pm_perform.specs.declared.refusing.Refusal.{Refusal}

-- a stage continues the plan of those before it
pub continues_on : {A : Type 0} (next : A → Plan ActEnd) (plan whole : Plan ActEnd) (p : Mind) (result : Result A Refusal) → plan ≡ whole → Continues next plan p result → Continues next whole p result
continues_on next plan whole p result e h = subst (λ q. Continues next q p result) e h

-- a stage behind others was refused
pub refuses_on : {A : Type 0} (next : A → Plan ActEnd) (plan whole : Plan ActEnd) (p : Mind) (refusal : Refusal) (result : Result A Refusal) → plan ≡ whole → Refuses plan p refusal
    → IsErrAnd result (λ r. r ≡ refusal) → Continues next whole p result
refuses_on next plan whole p refusal (Ok answer) e h is = absurd is
refuses_on next plan whole p refusal (Err other) e h is = subst (λ r. Refuses whole p r) (sym is) (subst (λ q. Refuses q p refusal) e h)
