use Rattle.std.proofs.Common.{refl}
use Rattle.bstr.proofs.Computing.{computing}
use Rattle.memchr.specs.Find.{matches_from, rmatches_from, first_of}
use Rattle.test_text.proofs.laws.file_examples.Goals as goal

-- each by computing
pub returns : goal.returns
unfolding computing matches_from rmatches_from first_of
returns c = record {
  lines = record { empty = refl; comment = refl; rcfile = refl; no_rcfile = refl; other_word = refl; other_case = refl; mail = refl; several = refl; status_first = refl; status_alone = refl; no_status_word = refl; answers = refl; no_mail = refl; no_arrow = refl; no_destination = refl; two_commas = refl; above_255 = refl; no_number = refl; no_answer = refl };
  answers = record { code = refl; last_sign = refl; output = refl; above_255 = refl; no_code = refl; no_sign = refl };
  files = record { tests = refl; with_returns = refl; rcfile_last = refl; nothing = refl; no_rcfile = refl; no_test = refl; second = refl; first_fault = refl };
}
