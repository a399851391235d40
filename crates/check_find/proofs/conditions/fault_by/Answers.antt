use Rattle.std.proofs.Common.{◌≡◌, ℕ, List, Option, Some, Result, Ok, Err, IfOk, ap, sym, ◌∙◌}
use Rattle.pm_bytes.specs.declared.error.Memory.{Memory}
use Rattle.pm_meaning.specs.Leads.{Asking, asked, asking_of}
use Rattle.pm_meaning.specs.declared.question.Question.{Question}
use Rattle.check_find.specs.declared.codes.Fault.{Fault}
use Rattle.check_find.specs.Faults.{test_fault, fault_by}
use Rattle.check_find.proofs.conditions.fault_by.Goals as goal

asked-fault : (r : Result (Option Fault) Memory) (question : Option Question) (q : Question) (text : List ℕ) (asking : Asking) → question ≡ Some q
    → asked (asking_of text q) ≡ asking → IfOk r (λ fault. fault ≡ test_fault asking) → IfOk r (λ fault. fault ≡ fault_by question text)
asked-fault (Ok fault) question q text asking some is h = h ∙ ap test_fault (sym is) ∙ ap (λ o. fault_by o text) (sym some)
asked-fault (Err m) question q text asking some is h = tt

pub returns-in_ok-test-in-Some : goal.returns-in_ok-test-in-Some
returns-in_ok-test-in-Some c = asked-fault c.test_fault.result c.args.question c.in-Some.question c.args.text.now _ c.in-Some.is c.in_ok-test-in-Some.ensures c.test_fault.ensures
