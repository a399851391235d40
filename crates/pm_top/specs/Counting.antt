-- What is counted of the entries of a trial.
use Rattle.std.specs.Prelude.{ℕ, ◌+◌, Bool, true, false, List, length, count_by, sum_by}
use Rattle.pm_journal.specs.declared.acts.Act.{Act}
use Rattle.pm_journal.specs.declared.acts.Act.TheVariants.{Append, Lock}
use Rattle.pm_journal.specs.declared.acts.Entry.{Entry}
use Rattle.pm_top.specs.declared.totals.Totals.{Totals}

-- the act appends a piece to a file
abbrev pub is_append : Act → Bool
is_append (Append name piece) = true
is_append other = false

-- the act takes a lock file, or tries to
abbrev pub is_lock : Act → Bool
is_lock (Lock name sleep limit suspend tries) = true
is_lock other = false

-- the length of the piece that is appended
abbrev pub piece_length : Act → ℕ
piece_length (Append name piece) = length piece
piece_length other = 0

-- how many entries there are, of appends and of locks, and the sum of the lengths of the appended pieces
abbrev pub totals_of : List Entry → Totals
totals_of entries = record {
  entries = length entries;
  appends = count_by (λ e. is_append e.act) entries;
  locks = count_by (λ e. is_lock e.act) entries;
  bytes = sum_by (λ e. piece_length e.act) entries;
}

-- nothing was counted yet
abbrev pub none : Totals
none = record { entries = 0; appends = 0; locks = 0; bytes = 0 }

-- the counts of both
abbrev pub plus : Totals → Totals → Totals
plus a b = record {
  entries = a.entries + b.entries;
  appends = a.appends + b.appends;
  locks = a.locks + b.locks;
  bytes = a.bytes + b.bytes;
}
