use Rattle.std.proofs.Common.{◌≡◌, subst, refl, Some}
use Rattle.pm_memory.specs.Sink.{written_of}
use Rattle.pm_memory.specs.Source.{left_of}
use Rattle.explain_host.proofs.program.answer_of_formail.Goals as goal

pub returns : goal.returns
returns g c =
    let ended = rw (c.as_slice-3.ensures.value, c.in_ok-words.ensures, c.as_slice.ensures, c.in_ok-env.ensures) at c.formail-code.ensures.ended in
    record {
      seen = _;
      ended = ended;
      read = subst (λ x. Some (left_of c.in_ok-source.source) ≡ Some x) c.as_slice-2.ensures
          (subst (λ x. Some (left_of c.in_ok-source.source) ≡ Some x) c.in_ok-source.ensures.left refl);
      unwritten = subst (λ x. Some (written_of c.in_ok-out.out) ≡ Some x) c.in_ok-out.ensures.written refl;
      written = subst (λ x. Some x ≡ Some (left_of c.in_ok-left.left)) c.written.ensures
          (subst (λ x. Some x ≡ Some (left_of c.in_ok-left.left)) c.in_ok-left.ensures.left refl);
    }
