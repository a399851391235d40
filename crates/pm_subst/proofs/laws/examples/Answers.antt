use Rattle.std.proofs.Common.{refl}
use Rattle.std.specs.Fmt.{digits}
use Rattle.pm_subst.proofs.laws.examples.Goals as goal

-- each by computing
pub returns : goal.returns
unfolding digits
returns c = record {
  values = refl;
  read_once = refl;
  arguments = refl;
  numbers = refl;
  names = refl;
  dollars = refl;
  all_parameters = refl;
  last_dollar = refl;
  defaults = refl;
  alternatives = refl;
  nested = refl;
  open_form = refl;
  form_31 = refl;
  form_32 = refl;
  quotes_among_forms = refl;
  expression = refl;
  all_operators = refl;
  no_expression = refl;
  escapes = refl;
  quoted_escapes = refl;
  all_escaped = refl;
  joined_lines = refl;
  single_quotes = refl;
  open_quotes = refl;
  open_single_quote = refl;
  braces = refl;
  quoted_braces = refl;
  as_if_quoted = refl;
  words = refl;
  split_forms = refl;
  split_parameters = refl;
  one_word = refl;
  empty_words = refl;
  no_word = refl;
  one_empty_word = refl;
  comment = refl;
  no_comment_after = refl;
  no_comment = refl;
  commands = refl;
  last_backslash = refl;
  not_in_comments = refl;
  outputs = refl;
  split_outputs = refl;
  split_at_spaces = refl;
  blanks_stay = refl;
  no_output = refl;
  length = refl;
  length_of_words = refl;
  greatest_length = refl;
}
