use Rattle.std.proofs.Common.{refl}
use Rattle.check_moving.proofs.laws.examples.Goals as goal

pub returns-clause-variables : goal.returns-clause-variables
returns-clause-variables c = record {
  umask = refl;
  linebuf = refl;
  zero = refl;
  other = refl;
  on = refl;
  yes = refl;
  off = refl;
  bar = refl;
  lock = refl;
  no_lock = refl;
  unclosed = refl;
  range = refl;
  text = refl;
  output = refl;
}

pub returns-clause-expanded : goal.returns-clause-expanded
returns-clause-expanded c = record {
  arguments = refl;
  single = refl;
  underscore = refl;
  digit = refl;
  dollar = refl;
  length = refl;
  percent = refl;
  default = refl;
  command = refl;
  score = refl;
  weighted = refl;
}

pub returns-clause-conditions : goal.returns-clause-conditions
returns-clause-conditions c = record {
  late = refl;
  first = refl;
  variable = refl;
  braces = refl;
  whole = refl;
  power = refl;
  signal = refl;
  backslash = refl;
  quote = refl;
  no_dollar = refl;
  inverted = refl;
  twice = refl;
  end = refl;
  word_end = refl;
  group_end = refl;
  dollar_end = refl;
  begin = refl;
  edge = refl;
  line_end = refl;
  group = refl;
  alternative = refl;
  inner_alternative = refl;
  later = refl;
  text_start = refl;
  member = refl;
  joined = refl;
  not_set = refl;
  named = refl;
  in_braces = refl;
  other_name = refl;
  escaped_name = refl;
  no_variable = refl;
  counted = refl;
  anchors = refl;
  blanks = refl;
  in_a_set = refl;
  empty = refl;
  lines = refl;
  down = refl;
  negated = refl;
  once_more = refl;
  up = refl;
  one_byte = refl;
  last = refl;
  bracket = refl;
  escaped = refl;
  unclosed = refl;
  by_variable = refl;
  program = refl;
}

pub returns-clause-names : goal.returns-clause-names
returns-clause-names c = record {
  added = refl;
  single = refl;
  last = refl;
  by_another = refl;
  other_value = refl;
  no_quotes = refl;
  unset = refl;
  captured = refl;
  condition = refl;
}

pub returns-clause-recipes : goal.returns-clause-recipes
returns-clause-recipes c = record {
  several = refl;
  comment = refl;
  hash = refl;
  named = refl;
  quoted = refl;
  maildir = refl;
  told = refl;
  raw = refl;
  own = refl;
  folder = refl;
  chain = refl;
  no_chain = refl;
  after = refl;
  held = refl;
  lock = refl;
  automatic = refl;
  copy = refl;
  locked = refl;
  locked_itself = refl;
  not_locked = refl;
  waits = refl;
  waits_quietly = refl;
  filters = refl;
  copies = refl;
  after_lock = refl;
  error_after_lock = refl;
  else_after_lock = refl;
  copy_before = refl;
  forward_before = refl;
  capture_before = refl;
  waits_before = refl;
  delivery_before = refl;
  filter_before = refl;
  block_between = refl;
  value_between = refl;
}

pub returns-clause-calls : goal.returns-clause-calls
returns-clause-calls c = record {
  together = refl;
  apart = refl;
  two = refl;
  argument = refl;
  quoted = refl;
  digest = refl;
  length = refl;
  right = refl;
  options = refl;
  lock = refl;
  other = refl;
  output = refl;
  no_output = refl;
  appended = refl;
  keep = refl;
  trust = refl;
  empty = refl;
  removed = refl;
  kept_away = refl;
  added = refl;
  made = refl;
  partial = refl;
  old = refl;
}
