-- Messages, words and counts, worked out.
use Rattle.std.proofs.Common.{◌≡◌, ℕ, pos, List, [], ◌∷◌, ◌++◌, length, codes, Some, None, refl}
use Rattle.std.specs.Fmt.{digits}
use Rattle.pm_journal.specs.declared.acts.Act.{Act}
use Rattle.pm_journal.specs.declared.acts.Act.TheVariants.{Append, Lock, Unlock, Moment}
use Rattle.pm_journal.specs.declared.acts.Reply.{Reply}
use Rattle.pm_journal.specs.declared.acts.Reply.TheVariants.{Done, Held, Removed, Now}
use Rattle.pm_journal.specs.declared.acts.Counts.{Counts}
use Rattle.pm_journal.specs.declared.acts.Entry.{Entry}
use Rattle.pm_top.specs.Messages.{message_of}
use Rattle.pm_top.specs.TrialWords.{trial_count}
use Rattle.pm_top.specs.Counting.{totals_of}
use Rattle.pm_top.specs.Report.{report_of}

-- the first message has no line
first : message_of 0 ≡ codes "From t Thu Jan  1 00:00:00 1970\nTo: l0@x\nSubject: 0\n\n"
unfolding digits
first = refl

-- the fourteenth has one, and goes to `l3@x`
fourteenth : message_of 13 ≡ codes "From t Thu Jan  1 00:00:00 1970\nTo: l3@x\nSubject: 13\n\nline\n"
unfolding digits
fourteenth = refl

-- the last one of the longest trial
last : message_of 1999 ≡ codes "From t Thu Jan  1 00:00:00 1970\nTo: l4@x\nSubject: 1999\n\nline\nline\nline\n"
unfolding digits
last = refl

-- With none to three lines a message has so many bytes. Its piece has one more where it has a line: the empty one after it.
lengths : length (message_of 0) ∷ length (message_of 1) ∷ length (message_of 2) ∷ length (message_of 3) ∷ [] ≡ 53 ∷ 58 ∷ 63 ∷ 68 ∷ []
unfolding digits
lengths = refl

ten : trial_count (codes "--trial" ∷ codes "10" ∷ []) ≡ Some 10
ten = refl

leading_zeros : trial_count (codes "--trial" ∷ codes "0010" ∷ []) ≡ Some 10
leading_zeros = refl

most : trial_count (codes "--trial" ∷ codes "2000" ∷ []) ≡ Some 2000
most = refl

too_many : trial_count (codes "--trial" ∷ codes "2001" ∷ []) ≡ None
too_many = refl

no_message : trial_count (codes "--trial" ∷ codes "0" ∷ []) ≡ None
no_message = refl

five_digits : trial_count (codes "--trial" ∷ codes "00010" ∷ []) ≡ None
five_digits = refl

signed : trial_count (codes "--trial" ∷ codes "+10" ∷ []) ≡ None
signed = refl

no_number : trial_count (codes "--trial" ∷ []) ≡ None
no_number = refl

another_word : trial_count (codes "--trial" ∷ codes "10" ∷ codes "rc" ∷ []) ≡ None
another_word = refl

other_option : trial_count (codes "-m" ∷ codes "10" ∷ []) ≡ None
other_option = refl

abbrev counts : Counts
counts = record { host = 0; out = 0; err = 0 }

abbrev noted : Act → Reply → Entry
noted act reply = record { act = act; reply = reply; before = counts; after = counts }

-- two deliveries, the first of them under a lock: its unlock and the moment count as entries alone
abbrev some_entries : List Entry
some_entries =
    noted (Lock (codes "l") 8 1024 16 1000) (Held 0 0) ∷ noted (Append (codes "a") (codes "abc")) Done ∷ noted (Unlock (codes "l")) Removed
    ∷ noted Moment (Now (pos 0)) ∷ noted (Append (codes "b") (codes "de")) Done ∷ []

counted : totals_of some_entries ≡ record { entries = 5; appends = 2; locks = 1; bytes = 5 }
counted = refl

reported : report_of 2 (totals_of some_entries) ≡ codes "messages 2\nentries 5\nappends 2\nlocks 1\nbytes 5\n"
unfolding digits
reported = refl
