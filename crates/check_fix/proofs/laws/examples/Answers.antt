use Rattle.std.proofs.Common.{refl}
use Rattle.check_fix.proofs.laws.examples.Goals as goal

pub returns-clause-values : goal.returns-clause-values
returns-clause-values c = record {
  host = refl;
  idle = refl;
  program = refl;
  all = refl;
  none = refl;
  on = refl;
  off = refl;
}

pub returns-clause-braces : goal.returns-clause-braces
returns-clause-braces c = record {
  quoted = refl;
  bare = refl;
  more = refl;
  behind = refl;
  opens = refl;
  text = refl;
  closed = refl;
}

pub returns-clause-locks : goal.returns-clause-locks
returns-clause-locks c = record {
  name = refl;
  ext = refl;
  braces = refl;
  other = refl;
  plain = refl;
  used = refl;
  reply = refl;
  not_used = refl;
  no_call = refl;
}

pub returns-clause-counts : goal.returns-clause-counts
returns-clause-counts c = record {
  alone = refl;
  two = refl;
  nine = refl;
  zero_first = refl;
  many = refl;
  flags = refl;
  colon = refl;
  lock = refl;
  star = refl;
  word = refl;
}

pub returns-clause-colons : goal.returns-clause-colons
returns-clause-colons c = record {
  block = refl;
  flags = refl;
  comment = refl;
  own = refl;
  cache = refl;
  other = refl;
  filter = refl;
  waits = refl;
  mailbox = refl;
  name = refl;
  locked = refl;
  locked_flags = refl;
  lock_by_name = refl;
  not_locked = refl;
}

pub returns-clause-conditions : goal.returns-clause-conditions
returns-clause-conditions c = record {
  great = refl;
  negative = refl;
  greatest = refl;
  none = refl;
  fraction = refl;
  size = refl;
  inverted = refl;
  number = refl;
  late = refl;
  dollar = refl;
  broken = refl;
  supreme = refl;
  braces = refl;
  variable = refl;
  backslash = refl;
  named = refl;
  end = refl;
  other_end = refl;
  anchors = refl;
  continued = refl;
}

pub returns-clause-numbers : goal.returns-clause-numbers
returns-clause-numbers c = record {
  once = refl;
  again = refl;
  two_values = refl;
  later = refl;
  in_a_block = refl;
  other_name = refl;
  plain = refl;
  braces = refl;
  unclosed = refl;
  name = refl;
  name_in_braces = refl;
  digits = refl;
  fraction = refl;
  nothing = refl;
  before = refl;
  behind = refl;
  block = refl;
  value = refl;
  other = refl;
  same = refl;
  changed = refl;
  removed = refl;
  captured = refl;
}

pub returns-clause-copies : goal.returns-clause-copies
returns-clause-copies c = record {
  lock = refl;
  alone = refl;
  filter = refl;
  copy = refl;
  more = refl;
  other = refl;
  comment = refl;
  blank = refl;
  letter = refl;
  argument = refl;
  name = refl;
  always = refl;
  last = refl;
  block = refl;
  stop = refl;
  none = refl;
  both = refl;
  mailbox = refl;
  forward = refl;
  captures = refl;
  conditions = refl;
  other_line = refl;
  error_next = refl;
  else_next = refl;
  and_next = refl;
  closed = refl;
}

pub returns-clause-scores : goal.returns-clause-scores
returns-clause-scores c = record {
  score = refl;
  blank = refl;
  other = refl;
  greatest = refl;
  exponent = refl;
  small = refl;
  least = refl;
  plain = refl;
  variable = refl;
  late = refl;
  fraction = refl;
  weighted = refl;
  optional = refl;
  condition = refl;
  ends = refl;
  adds = refl;
  unknown = refl;
  adds_first = refl;
  goes_on = refl;
  chained = refl;
  otherwise = refl;
  something = refl;
  only_closed = refl;
  weights_follow = refl;
  other_follows = refl;
  other_score = refl;
  no_score = refl;
  empty_block = refl;
  block = refl;
  first = refl;
  whole = refl;
  not_free = refl;
  named = refl;
}

pub returns-clause-mailboxes : goal.returns-clause-mailboxes
returns-clause-mailboxes c = record {
  several = refl;
  quoted = refl;
  hash = refl;
  named = refl;
  words = refl;
}

pub returns-clause-calls : goal.returns-clause-calls
returns-clause-calls c = record {
  header = refl;
  body = refl;
  more = refl;
  body_alone = refl;
  both_fed = refl;
  last_colon = refl;
  later_colon = refl;
  value = refl;
  together = refl;
  blank = refl;
  apart = refl;
  renamed = refl;
  captured = refl;
  options = refl;
  path = refl;
  removed = refl;
  cache = refl;
  short = refl;
  appended = refl;
  loud = refl;
  quiet = refl;
  field = refl;
  trust = refl;
  alone = refl;
}

pub returns-clause-changes : goal.returns-clause-changes
returns-clause-changes c = record {
  overlap = refl;
  two = refl;
}
