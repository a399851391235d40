use Rattle.std.proofs.Common.{refl}
use Rattle.bstr.specs.Trim.{kept_end}
use Rattle.bstr.specs.Utf8.{pieces_from, spans_from}
use Rattle.memchr.specs.Find.{places_from, last_of}
use Rattle.log_summary.proofs.laws.examples.Goals as goal

-- each by computing
pub returns : goal.returns
unfolding places_from last_of pieces_from spans_from kept_end
returns c = record {
  lines = record { delivery = refl; name_with_blanks = refl; blank_before_size = refl; no_size = refl; no_number = refl; other_front = refl; subject = refl; message = refl; no_message = refl; other_case = refl; kind_without_name = refl; kind_with_numbers = refl; kind_of_two_numbers = refl; kind_at_the_end = refl; kind_with_blanks = refl; kind_of_a_name = refl; a_file = refl; no_slash = refl; plain_directory = refl; no_plain_name = refl; no_plain_byte = refl; other_prefix = refl; maildir = refl; in_cur = refl; no_maildir_byte = refl; no_maildir_name = refl; no_new = refl; mh = refl; no_mh_number = refl; no_mh_name = refl };
  days = record { january = refl; february = refl; march = refl; april = refl; may = refl; june = refl; july = refl; august = refl; september = refl; october = refl; november = refl; december = refl; other_case = refl; no_day = refl; of_line = refl; of_long_sender = refl; no_sender = refl; too_short = refl; other_line = refl; no_moment = refl; written = refl; too_long = refl; first_sign = refl; second_sign = refl; no_number = refl; year = refl; later_year = refl; month = refl; later_month = refl; day_before = refl; same_day = refl; all_lines = refl; from_first = refl; no_line = refl; still_awaited = refl; has_come = refl; came_before = refl; without_a_day = refl };
  sums = record { folders = refl; after_others = refl; kinds = refl; begins = refl; grows = refl; stays = refl };
}
