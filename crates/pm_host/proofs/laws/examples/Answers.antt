use Rattle.std.proofs.Common.{refl, arith}
use Rattle.pm_host.proofs.laws.examples.Goals as goal

-- each by computing
pub returns-clause-calls : goal.returns-clause-calls
returns-clause-calls c = record {
  created = refl;
  not_created = refl;
  another_stays = refl;
  appended = refl;
  not_appended = refl;
  cut = refl;
  not_cut = refl;
  removed = refl;
  not_removed = refl;
  moved = refl;
  moved_away = refl;
  not_moved = refl;
  folder_made = refl;
  folder_not_made = refl;
  synced = refl;
  slept = refl;
  others_in_sleep = refl;
  others_in_finish = refl;
  no_others_in_look = refl;
  last_moment = refl;
  moment_before = refl;
  others_append = refl;
  others_append_new = refl;
  others_append_folder = refl;
  others_create = refl;
  others_create_again = refl;
  others_remove = refl;
  others_remove_folder = refl;
  fed = refl;
  taken = refl;
  finished = refl;
}

pub returns-clause-names : goal.returns-clause-names
returns-clause-names c = record {
  age = refl;
  new = refl;
  of_a_later_moment = refl;
  in_folder = refl;
  part = refl;
  two_parts = refl;
  less = refl;
  greater = refl;
  first_part = refl;
  longer = refl;
  same = refl;
}

pub returns-clause-answers : goal.returns-clause-answers
returns-clause-answers c = record {
  length_of_file = λ count is. is;
  file_is_there = λ is. is;
  file_is_no_folder = λ is. is;
  folder_is_no_file = λ is. is;
  nothing_is_no_file = λ is. is;
  bytes_read = λ bytes is. is.0;
  nothing_at_end = λ is. is.1 refl;
  none_from_folder = λ is. is;
  made_over_file = λ is. is;
  nothing_exists = λ is. is;
  appended_to_folder = λ is. is;
  appended_to_nothing = λ is. is;
  synced_nothing = λ is. is;
  cut_folder = λ is. is;
  removed_folder = λ is. is;
  file_is_absent = λ is. is;
  moved_onto_folder = λ is. is;
  moved_nothing = λ is. is;
  free_name_is_taken = λ is. is;
  folder_on_file = λ is. is;
  folder_again = λ is. is;
  age_of_file = λ seconds is. is;
  age_of_nothing = λ is. is;
  file_has_age = λ is. is;
  now = λ moment is. is;
  other_answer = λ is. is;
  some_taken = λ is. is.0;
  most_taken = λ count is. is.1;
  most_read = λ bytes is. is;
  failed = tt;
  not_failed = λ is. is;
  rose = λ count is. is;
  stays_at_most = omega arith;
}
