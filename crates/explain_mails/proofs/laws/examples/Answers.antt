use Rattle.std.proofs.Common.{refl}
use Rattle.std.specs.Fmt.{digits}
use Rattle.test_text.specs.Bags.{is_over}
use Rattle.explain_mails.specs.Lines.{right}
use Rattle.explain_mails.specs.Subjects.{blanks_after}
use Rattle.explain_mails.specs.Words.{telling_words}
use Rattle.explain_mails.proofs.laws.examples.Goals as goal

-- each by computing
pub returns : goal.returns
unfolding digits is_over right blanks_after telling_words
returns c = record {
  subjects = record { plain = refl; first = refl; capitals = refl; folded = refl; begins_on_second_line = refl; control = refl; empty = refl; in_body = refl; other_name = refl; short = refl; fits = refl; long = refl; characters = refl; columns = refl; wide = refl };
  lines = record { seventh = refl; millions = refl; mailbox = refl; several = refl; nowhere = refl; odd_name = refl; names = refl; heading = refl; no_subject = refl };
  comparisons = record { elsewhere = refl; order = refl; status = refl; copy = refl; twice = refl; line = refl; other_status = refl; none = refl; no_mail = refl; one = refl; quiet = refl; two = refl };
  words = record { own = refl; here = refl; full = refl; full_beside_here = refl; last = refl; options = refl; date = refl; as_it_is = refl; same = refl; same_own = refl; same_options = refl };
}
