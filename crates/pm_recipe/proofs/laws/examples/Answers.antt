use Rattle.std.proofs.Common.{refl}
use Rattle.pm_recipe.proofs.laws.examples.Goals as goal

-- each by computing
pub returns-clause-statements : goal.returns-clause-statements
returns-clause-statements c = record {
  blank = refl;
  newline = refl;
  joined = refl;
  comment = refl;
  assigned = refl;
  blanks_around = refl;
  no_value = refl;
  joined_name = refl;
  comment_after = refl;
  hash_in_word = refl;
  single_quotes = refl;
  double_quotes = refl;
  backquotes = refl;
  backquotes_in_quotes = refl;
  escaped_bytes = refl;
  open_single = refl;
  open_double = refl;
  open_backquote = refl;
  last_backslash = refl;
  unset_at_end = refl;
  unset_at_blank = refl;
  unset_at_newline = refl;
  brace_inside = refl;
  brace_outside = refl;
  colon_line = refl;
  joined_colon_line = refl;
  open_lock = refl;
  other_colon = refl;
  blank_after_colon = refl;
  no_name = refl;
  name_and_more = refl;
  name_and_hash = refl;
  ends_of_names = refl;
  gaps = refl;
  joined_defect = refl;
}

pub returns-clause-lines : goal.returns-clause-lines
returns-clause-lines c = record {
  empty_line = refl;
  comment_line = refl;
  star = refl;
  mailbox = refl;
  forward = refl;
  pipe = refl;
  output = refl;
  output_at_end = refl;
  capture = refl;
  named_mailbox = refl;
  mailboxes = refl;
  comment_for_program = refl;
  block = refl;
  block_at_newline = refl;
  braced_mailbox = refl;
  block_1000 = refl;
  block_1001 = refl;
  brace = refl;
  colon = refl;
}

pub returns-clause-colon_lines : goal.returns-clause-colon_lines
returns-clause-colon_lines c = record {
  letters = refl;
  no_letters = refl;
  no_lock = refl;
  automatic = refl;
  named = refl;
  quoted = refl;
  comment = refl;
  colon_in_comment = refl;
  quiet = refl;
  quiet_comment = refl;
  letter_x = refl;
  digit = refl;
  hash_in_letters = refl;
  two_locks = refl;
}

pub returns-clause-conditions : goal.returns-clause-conditions
returns-clause-conditions c = record {
  plain = refl;
  weighted = refl;
  signs = refl;
  weight_alone = refl;
  decimal = refl;
  greatest = refl;
  minus_zero = refl;
  too_great = refl;
  exponent_too_great = refl;
  exponent_below_zero = refl;
  fraction = refl;
  exponent_fraction = refl;
  no_blank = refl;
  no_first_number = refl;
  no_second_number = refl;
  dot_alone = refl;
  two_signs = refl;
  joined = refl;
  joined_twice = refl;
  joined_dollar = refl;
  joined_area = refl;
  dollar_in_expression = refl;
  one_mark = refl;
}

pub returns-clause-rcfiles : goal.returns-clause-rcfiles
returns-clause-rcfiles c = record {
  statements = refl;
  joined = refl;
  recipe = refl;
  mailbox = refl;
  pipe = refl;
  capture = refl;
  forward = refl;
  output = refl;
  block = refl;
  no_action = refl;
  no_action_at_end = refl;
  no_action_in_block = refl;
  junk = refl;
  lines = refl;
  missing_braces = refl;
  too_deep = refl;
  not_missing = refl;
  greatest_length = refl;
}
