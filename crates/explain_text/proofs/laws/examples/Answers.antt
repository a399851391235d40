use Rattle.std.proofs.Common.{refl}
use Rattle.std.specs.Fmt.{digits}
use Rattle.bstr.proofs.Computing.{computing}
use Rattle.explain_text.specs.Destinations.{addresses_in, sendmail_front}
use Rattle.explain_text.proofs.laws.examples.Goals as goal

-- each by computing
pub returns : goal.returns
unfolding digits addresses_in sendmail_front computing
returns c = record {
  lines = record { read = refl; unread = refl; append = refl; not_appended = refl; file = refl; lock = refl; unlock = refl; run = refl; filter = refl; log = refl; say = refl; write = refl };
  steps = record { read = refl; unread = refl; looked = refl; append = refl; not_appended = refl; file = refl; no_file = refl; lock = refl; busy = refl; unlock = refl; lost = refl; run = refl; filter = refl; log = refl; say = refl; write = refl; moment = refl; in_order = refl };
  results = record { nowhere = refl; mailbox = refl; last = refl; failed = refl; program = refl; failure = refl; filter = refl; output = refl; log = refl };
  destinations = record { mailbox = refl; not_written = refl; directory = refl; no_file = refl; output = refl; short = refl; copies = refl; program = refl; abstract_of_copy = refl; abstract_said = refl; condition = refl; condition_before_mailbox = refl; condition_before_directory = refl; condition_before_output = refl; other_text = refl; filter = refl; not_started = refl; nothing = refl; nothing_after_condition = refl; forward = refl; refused = refl; forward_told = refl; option = refl; no_address = refl; value = refl; no_value = refl };
}
