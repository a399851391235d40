-- Log lines, names in folders, and what calls come to, in short runs.
use Rattle.std.specs.Prelude.{ℕ, ◌+◌, ◌≤◌, ◌<◌, Bool, true, false, not, List, [], ◌∷◌, ◌≡◌, Some, None, length, fold, nat_eq, codes, neg_ℤ, pos}
use Rattle.std.specs.List.{filter, range_with_len}
use Rattle.pm_host.specs.declared.answers.Looked.TheVariants as looked
use Rattle.pm_host.specs.declared.answers.Took.TheVariants as took
use Rattle.pm_host.specs.declared.answers.Made.TheVariants as made
use Rattle.pm_host.specs.declared.answers.Synced.TheVariants as synced
use Rattle.pm_host.specs.declared.answers.Cut.TheVariants as cut
use Rattle.pm_host.specs.declared.answers.Removed.TheVariants as removed
use Rattle.pm_host.specs.declared.answers.Moved.TheVariants as moved
use Rattle.pm_host.specs.declared.answers.Aged.TheVariants as aged
use Rattle.pm_host.specs.declared.answers.Fed.TheVariants as fed
use Rattle.pm_host.specs.declared.answers.Finished.TheVariants as finished
use Rattle.pm_host.specs.declared.calls.Answer.{Answer}
use Rattle.pm_host.specs.declared.calls.Answer.TheVariants as answer
use Rattle.pm_host.specs.declared.calls.Call.{Call}
use Rattle.pm_journal.specs.LogText.{quoted, couldnt_read_line, too_many_rcfiles_line, host_mismatched_line, couldnt_write_line, bytes_left_line, no_free_name_line, no_delivery_line, skipped_line, value_too_long_line, unusable_name_line, defective_condition_line, couldnt_lock_line, forcing_lock_line, couldnt_unlock_line, no_lock_line, couldnt_start_line, lost_contact_line, output_too_long_line, couldnt_chdir_line, program_failure_line, input_closed_line, couldnt_write_out_line, too_many_clones_line}
use Rattle.pm_journal.specs.Naming.{Numbered, plain_candidate, maildir_candidate, mh_candidate, maildir_folders, first_number, unslashed}
use Rattle.pm_journal.specs.Appending.{append_step, append_heard, append_reply}
use Rattle.pm_journal.specs.Locking.{lock_rule, lock_step, lock_heard, lock_reply, no_tally}
use Rattle.pm_journal.specs.Placing.{FileState, Creating, Moving, Ended, file_heard, try_reply}
use Rattle.pm_journal.specs.Reading.{ReadState, ReadLooking, ReadOn, ReadEnded, ReadDone, IsNextRead, read_heard}
use Rattle.pm_journal.specs.Children.{FeedState, FeedOn, FeedOver, TakeState, TakeOn, TakeOver, TakeDone, IsNextTake, feed_heard, take_heard, takes_output, run_reply}
use Rattle.pm_journal.specs.declared.acts.Reply.{Reply}
use Rattle.pm_journal.specs.declared.acts.Reply.TheVariants as reply
use Rattle.pm_journal.specs.declared.appending.AppendEnd.TheVariants as append_end
use Rattle.pm_journal.specs.declared.appending.AppendStep.TheVariants as append_ask
use Rattle.pm_journal.specs.declared.appending.AppendState.{AppendState}
use Rattle.pm_journal.specs.declared.appending.AppendState.TheVariants as append_state
use Rattle.pm_journal.specs.declared.children.FeedEnd.TheVariants as feed_end
use Rattle.pm_journal.specs.declared.children.TakeEnd.{TakeEnd}
use Rattle.pm_journal.specs.declared.children.TakeEnd.TheVariants as take_end
use Rattle.pm_journal.specs.declared.locking.LockEnd.TheVariants as lock_end
use Rattle.pm_journal.specs.declared.locking.LockStep.TheVariants as lock_ask
use Rattle.pm_journal.specs.declared.locking.LockState.{LockState}
use Rattle.pm_journal.specs.declared.locking.LockState.TheVariants as lock_state
use Rattle.pm_journal.specs.declared.locking.Tally.{Tally}
use Rattle.pm_journal.specs.declared.placing.FileEnd.TheVariants as file_end
use Rattle.pm_journal.specs.declared.placing.Candidate.{Candidate}
use Rattle.pm_journal.specs.declared.placing.Stamp.{Stamp}

-- the third piece of the process 42, at this moment
abbrev pub stamp : Stamp
stamp = record { moment = pos 1000; pid = 42; serial = 3; host_name = codes "a/b" }

-- what is logged, and how files are named
pub record OfTexts : Type 0 where
  -- a line names the text between quotes, with a blank for each byte below 32
  pub couldnt_read : couldnt_read_line (codes "a\tb\n") ≡ codes "procmail: Couldn't read \"a b \"\n"
  pub shown : quoted (0 ∷ 13 ∷ 27 ∷ 31 ∷ 32 ∷ 33 ∷ 127 ∷ 128 ∷ 255 ∷ []) ≡ 32 ∷ 32 ∷ 32 ∷ 32 ∷ 32 ∷ 33 ∷ 127 ∷ 128 ∷ 255 ∷ []
  pub too_many_rcfiles : too_many_rcfiles_line (codes "rc") ≡ codes "procmail: Too many rcfiles, skipped \"rc\"\n"
  pub host_mismatched : host_mismatched_line (codes "b") ≡ codes "procmail: HOST mismatched \"b\"\n"
  pub couldnt_write : couldnt_write_line (codes "mbox") ≡ codes "procmail: Couldn't write to \"mbox\"\n"
  pub bytes_left : bytes_left_line 10 (codes "mbox") ≡ codes "procmail: 10 bytes left in \"mbox\"\n"
  pub no_free_name : no_free_name_line (codes "dir") ≡ codes "procmail: No free name in \"dir\"\n"
  pub no_delivery : no_delivery_line ≡ codes "procmail: No delivery was made\n"
  pub skipped : skipped_line (codes "a b") ≡ codes "procmail: Skipped \"a b\"\n"
  pub value_too_long : value_too_long_line 1048577 ≡ codes "procmail: Value of 1048577 bytes is too long\n"
  pub unusable_name : unusable_name_line (codes "$U") ≡ codes "procmail: Unusable name \"$U\"\n"
  pub defective_condition : defective_condition_line (codes "(") ≡ codes "procmail: Defective condition \"(\"\n"
  pub couldnt_lock : couldnt_lock_line (codes "l.lock") ≡ codes "procmail: Couldn't get lock \"l.lock\"\n"
  pub forcing_lock : forcing_lock_line (codes "l.lock") ≡ codes "procmail: Forcing lock on \"l.lock\"\n"
  pub couldnt_unlock : couldnt_unlock_line (codes "l.lock") ≡ codes "procmail: Couldn't remove lock \"l.lock\"\n"
  pub no_lock : no_lock_line (codes "cat") ≡ codes "procmail: Couldn't determine implicit lockfile from \"cat\"\n"
  pub couldnt_start : couldnt_start_line (codes "cat") ≡ codes "procmail: Couldn't start \"cat\"\n"
  pub lost_contact : lost_contact_line (codes "cat") ≡ codes "procmail: Lost contact with \"cat\"\n"
  pub output_too_long : output_too_long_line (codes "yes") ≡ codes "procmail: Output too long from \"yes\"\n"
  pub couldnt_chdir : couldnt_chdir_line (codes "no") ≡ codes "procmail: Couldn't chdir to \"no\"\n"
  pub program_failure : program_failure_line 255 (codes "exit") ≡ codes "procmail: Program failure (255) of \"exit\"\n"
  pub input_closed : input_closed_line (codes "true") ≡ codes "procmail: Input closed by \"true\"\n"
  pub couldnt_write_out : couldnt_write_out_line ≡ codes "procmail: Couldn't write to standard output\n"
  pub too_many_clones : too_many_clones_line ≡ codes "procmail: Too many clones\n"
  -- a file in a directory is named by the moment, the process and the serial number, with a mark from the second name on
  pub plain_name : plain_candidate (codes "d") (codes "msg.") stamp 0 ≡ record { at = codes "d/msg.1000.42_3"; to = None }
  pub next_plain_name : plain_candidate (codes "d") (codes "msg.") stamp 1 ≡ record { at = codes "d/msg.1000.42_3-1"; to = None }
  pub before_1970 : plain_candidate (codes "d") [] (record stamp { moment = neg_ℤ (pos 5) }) 0 ≡ record { at = codes "d/-5.42_3"; to = None }
  -- in a maildir it is made in `tmp` and goes to `new`; a slash in the host's name becomes `_`
  pub maildir_name : maildir_candidate (codes "d") stamp 0 ≡ record { at = codes "d/tmp/1000.42_3.a_b"; to = Some (codes "d/new/1000.42_3.a_b") }
  pub next_maildir_name : maildir_candidate (codes "d") stamp 12
      ≡ record { at = codes "d/tmp/1000.42_3-12.a_b"; to = Some (codes "d/new/1000.42_3-12.a_b") }
  pub maildir_parts : maildir_folders (codes "d") ≡ codes "d" ∷ codes "d/tmp" ∷ codes "d/new" ∷ codes "d/cur" ∷ []
  pub slash_alone : filter (λ b. not (nat_eq (unslashed b) b)) (range_with_len 0 256) ≡ codes "/"
  -- 100 names are tried
  pub names : (make : ℕ → Candidate) (all : List Candidate) → Numbered make all → length all ≡ 100
  -- in an MH folder it is numbered after the greatest number there, and other names don't count
  pub mh_name : mh_candidate (codes "d") 8 2 ≡ record { at = codes "d/10"; to = None }
  pub first_in_empty : first_number [] ≡ 1
  pub after_greatest : first_number (codes "9" ∷ codes "12" ∷ codes "3" ∷ []) ≡ 13
  pub nine_digits : first_number (codes "123456789" ∷ codes "8" ∷ []) ≡ 123456790
  pub other_names : first_number (codes "2" ∷ codes "014" ∷ codes ",7" ∷ codes "1234567890" ∷ codes "8a" ∷ []) ≡ 3

-- the answers of a run
abbrev pub size : ℕ → Answer
size length = answer.Look (looked.File length)

abbrev pub nothing : Answer
nothing = answer.Look looked.Nothing

abbrev pub folder : Answer
folder = answer.Look looked.Folder

abbrev pub is_made : Answer
is_made = answer.Create made.Made

abbrev pub exists : Answer
exists = answer.Create made.Exists

abbrev pub adds : ℕ → Answer
adds count = answer.Append (took.Took count)

abbrev pub append_failed : Answer
append_failed = answer.Append took.Failed

abbrev pub is_synced : Answer
is_synced = answer.Sync synced.Synced

abbrev pub sync_failed : Answer
sync_failed = answer.Sync synced.Failed

abbrev pub is_removed : Answer
is_removed = answer.Remove removed.Removed

abbrev pub absent : Answer
absent = answer.Remove removed.Absent

abbrev pub remove_failed : Answer
remove_failed = answer.Remove removed.Failed

abbrev pub age : ℕ → Answer
age seconds = answer.Age (aged.Age seconds)

-- what answers come to, from the beginning of an append, of a filing of five bytes, of a reading, of a child's input and output
abbrev pub appending : List Answer → AppendState
appending answers = fold append_heard append_state.Looking answers

abbrev pub filing : Bool → List Answer → FileState
filing moves answers = fold (file_heard moves 5) Creating answers

abbrev pub reading : List Answer → ReadState
reading answers = fold read_heard ReadLooking answers

abbrev pub feeding : List Answer → FeedState
feeding answers = fold feed_heard (FeedOn 0) answers

abbrev pub taking : List Answer → TakeState
taking answers = fold take_heard (TakeOn []) answers

-- and of the taking of a lock in three tries, with 8 seconds between them, by force after 1024 seconds and then with 16 seconds of rest
abbrev pub locking : List Answer → LockState
locking answers = fold (lock_heard (lock_rule 8 1024 16 3)) (lock_state.Trying no_tally) answers

-- so many lost tries, sleeps and removals by force
abbrev pub tally : ℕ → ℕ → ℕ → Tally
tally lost sleeps forced = record { lost = lost; sleeps = sleeps; forced = forced }

-- what appends and filings come to
pub record OfFiles : Type 0 where
  -- a mailbox gets the piece, and is synced to disk before that is done; a line of the log is done at once
  pub taken : appending (size 7 ∷ adds 3 ∷ adds 2 ∷ []) ≡ append_state.Writing false 7 5
  pub asks_the_rest : append_step 5 true (append_state.Writing false 7 3) ≡ append_ask.Append 3
  pub asks_sync : append_step 5 true (append_state.Writing false 7 5) ≡ append_ask.Sync
  pub line_is_done : append_step 5 false (append_state.Writing false 7 5) ≡ append_ask.Finish append_end.Done
  pub done : appending (size 7 ∷ adds 5 ∷ is_synced ∷ []) ≡ append_state.Ended append_end.Done
  -- where nothing stands the file is made; a directory, or a file that came in between, gets nothing
  pub is_made_new : appending (nothing ∷ is_made ∷ []) ≡ append_state.Writing true 0 0
  pub raced : appending (nothing ∷ exists ∷ []) ≡ append_state.Ended append_end.Raced
  pub is_folder : appending (folder ∷ []) ≡ append_state.Ended append_end.IsFolder
  pub not_looked : appending (answer.Look looked.Failed ∷ []) ≡ append_state.Ended append_end.Undone
  pub not_made : appending (nothing ∷ answer.Create made.Failed ∷ []) ≡ append_state.Ended append_end.Undone
  -- after a failure the file is cut back, or removed where it was made; what can't be undone is told
  pub nothing_taken : appending (size 7 ∷ append_failed ∷ []) ≡ append_state.Ended append_end.Undone
  pub part_taken : appending (size 7 ∷ adds 3 ∷ append_failed ∷ []) ≡ append_state.Cutting 7 3
  pub not_synced : appending (size 7 ∷ adds 5 ∷ sync_failed ∷ []) ≡ append_state.Cutting 7 5
  pub asks_cut : append_step 5 true (append_state.Cutting 7 3) ≡ append_ask.Cut 7
  pub cut_back : appending (size 7 ∷ adds 3 ∷ append_failed ∷ answer.Cut cut.Cut ∷ []) ≡ append_state.Ended append_end.Undone
  pub not_cut : appending (size 7 ∷ adds 3 ∷ append_failed ∷ answer.Cut cut.Failed ∷ []) ≡ append_state.Ended (append_end.Torn 3)
  pub new_file : appending (nothing ∷ is_made ∷ adds 3 ∷ append_failed ∷ []) ≡ append_state.Removing 3
  pub new_file_removed : appending (nothing ∷ is_made ∷ append_failed ∷ is_removed ∷ []) ≡ append_state.Ended append_end.Undone
  pub new_file_left : appending (nothing ∷ is_made ∷ adds 3 ∷ append_failed ∷ remove_failed ∷ []) ≡ append_state.Ended (append_end.Torn 3)
  pub reply_torn : append_reply (append_end.Torn 3) ≡ reply.Torn 3
  -- a file of its own in a plain directory or an MH folder, and one in a maildir, which is moved once it is in the store
  pub filed : filing false (is_made ∷ adds 5 ∷ is_synced ∷ []) ≡ Ended file_end.Filed
  pub moving : filing true (is_made ∷ adds 3 ∷ adds 2 ∷ is_synced ∷ []) ≡ Moving
  pub is_moved : filing true (is_made ∷ adds 5 ∷ is_synced ∷ answer.Rename moved.Moved ∷ []) ≡ Ended file_end.Filed
  pub name_taken : filing true (exists ∷ []) ≡ Ended file_end.Taken
  pub new_name_taken : filing true (is_made ∷ adds 5 ∷ is_synced ∷ answer.Rename moved.Taken ∷ is_removed ∷ []) ≡ Ended file_end.Taken
  pub taken_and_left : filing true (is_made ∷ adds 5 ∷ is_synced ∷ answer.Rename moved.Taken ∷ remove_failed ∷ []) ≡ Ended (file_end.Torn 5)
  pub not_moved : filing true (is_made ∷ adds 5 ∷ is_synced ∷ answer.Rename moved.Failed ∷ is_removed ∷ []) ≡ Ended file_end.Undone
  pub file_not_made : filing false (answer.Create made.Failed ∷ []) ≡ Ended file_end.Undone
  pub file_removed : filing false (is_made ∷ adds 3 ∷ append_failed ∷ absent ∷ []) ≡ Ended file_end.Undone
  pub file_left : filing false (is_made ∷ adds 5 ∷ sync_failed ∷ remove_failed ∷ []) ≡ Ended (file_end.Torn 5)
  pub placed_where_moved : try_reply (record { at = codes "d/tmp/a"; to = Some (codes "d/new/a") }) file_end.Filed ≡ reply.Placed (codes "d/new/a")
  pub placed_where_made : try_reply (record { at = codes "d/1"; to = None }) file_end.Filed ≡ reply.Placed (codes "d/1")
  pub torn_where_made : try_reply (record { at = codes "d/tmp/a"; to = Some (codes "d/new/a") }) (file_end.Torn 3) ≡ reply.TornAt (codes "d/tmp/a") 3
  -- a file is read until nothing more comes
  pub read_whole : reading (size 4 ∷ answer.Read (codes "ab") ∷ answer.Read (codes "cd") ∷ answer.Read [] ∷ []) ≡ ReadEnded (reply.Content (codes "abcd"))
  pub read_missing : reading (nothing ∷ []) ≡ ReadEnded reply.Missing
  pub read_folder : reading (folder ∷ []) ≡ ReadEnded reply.NotPlain
  pub read_failed : reading (size 4 ∷ answer.Read (codes "ab") ∷ answer.Failed ∷ []) ≡ ReadEnded reply.Faulted
  -- as far as 1,048,577 bytes, of which the last says that it is too long
  pub reads_on : (name so_far : List ℕ) (call : Call) (next : IsNextRead name so_far call)
      → length so_far + next.room ≤ 1048577
  pub read_long : (so_far : List ℕ) (reply : Reply) → ReadDone (ReadOn so_far) reply → 1048576 < length so_far

-- what lock files and programs come to
pub record OfLocksAndPrograms : Type 0 where
  -- the lock is got where nothing stood
  pub held : locking (is_made ∷ []) ≡ lock_state.Ended (lock_end.Held 0 0)
  pub not_tried : locking (answer.Create made.Failed ∷ []) ≡ lock_state.Ended lock_end.Failed
  -- a lock file is removed by force only if it is older than the limit and has at most 16 bytes
  pub asks_age : locking (exists ∷ []) ≡ lock_state.Aging no_tally
  pub young : locking (exists ∷ age 1024 ∷ []) ≡ lock_state.Pausing 8 (tally 1 0 0)
  pub old : locking (exists ∷ age 1025 ∷ []) ≡ lock_state.Looking no_tally
  pub gone : locking (exists ∷ answer.Age aged.Absent ∷ []) ≡ lock_state.Trying (tally 1 0 0)
  pub small : locking (exists ∷ age 1025 ∷ size 16 ∷ []) ≡ lock_state.Removing no_tally
  pub large : locking (exists ∷ age 1025 ∷ size 17 ∷ []) ≡ lock_state.Pausing 8 (tally 1 0 0)
  pub a_folder : locking (exists ∷ age 1025 ∷ folder ∷ []) ≡ lock_state.Pausing 8 (tally 1 0 0)
  pub forced : locking (exists ∷ age 1025 ∷ size 0 ∷ is_removed ∷ []) ≡ lock_state.Pausing 16 (tally 0 0 1)
  pub not_forced : locking (exists ∷ age 1025 ∷ size 0 ∷ remove_failed ∷ []) ≡ lock_state.Ended lock_end.Failed
  pub held_by_force : locking (exists ∷ age 1025 ∷ size 0 ∷ absent ∷ answer.Slept ∷ is_made ∷ []) ≡ lock_state.Ended (lock_end.Held 1 1)
  pub force_15 : lock_heard (lock_rule 8 1024 16 99) (lock_state.Trying (tally 0 0 15)) exists ≡ lock_state.Aging (tally 0 0 15)
  pub force_16 : lock_heard (lock_rule 8 1024 16 99) (lock_state.Trying (tally 0 0 16)) exists ≡ lock_state.Pausing 8 (tally 1 0 16)
  pub never_by_force : lock_heard (lock_rule 8 0 16 3) (lock_state.Trying no_tally) exists ≡ lock_state.Pausing 8 (tally 1 0 0)
  -- after the last try the lock is busy
  pub last_try : locking (exists ∷ age 0 ∷ answer.Slept ∷ exists ∷ age 9 ∷ answer.Slept ∷ exists ∷ age 18 ∷ []) ≡ lock_state.Ended lock_end.Busy
  pub sleeps : lock_step (lock_state.Pausing 8 no_tally) ≡ lock_ask.Sleep 8
  pub reply_held : lock_reply (lock_end.Held 2 1) ≡ reply.Held 2 1
  pub reply_busy : lock_reply lock_end.Busy ≡ reply.Busy
  pub reply_failed : lock_reply lock_end.Failed ≡ reply.Faulted
  -- a program takes its input, and its output is taken until nothing more comes
  pub all_fed : feeding (answer.Feed (fed.Took 3) ∷ answer.Feed (fed.Took 2) ∷ []) ≡ FeedOn 5
  pub closed : feeding (answer.Feed (fed.Took 3) ∷ answer.Feed fed.Closed ∷ []) ≡ FeedOver (feed_end.Closed 3)
  pub not_fed : feeding (answer.Feed (fed.Took 3) ∷ answer.Feed fed.Failed ∷ []) ≡ FeedOver (feed_end.Failed 3)
  pub output : taking (answer.Take (codes "ab") ∷ answer.Take (codes "c") ∷ answer.Take [] ∷ []) ≡ TakeOver (take_end.All (codes "abc"))
  pub output_failed : taking (answer.Take (codes "ab") ∷ answer.Failed ∷ []) ≡ TakeOver take_end.Failed
  -- an output of more than 67,108,864 bytes isn't taken to its end
  pub takes_on : (so_far : List ℕ) (call : Call) → IsNextTake so_far call → length so_far ≤ 67108864
  pub taken_long : (so_far : List ℕ) (end : TakeEnd) → TakeDone (TakeOn so_far) end → 67108864 < length so_far
  pub wants_output : takes_output true (feed_end.Closed 3) ≡ true
  pub wants_none_after_failure : takes_output true (feed_end.Failed 3) ≡ false
  -- its code, or 128 and the signal that ended it
  pub code : run_reply 5 feed_end.All (take_end.All (codes "a")) (finished.Code 2) ≡ reply.Ended 2 5 (codes "a")
  pub signal : run_reply 5 (feed_end.Closed 3) (take_end.All []) (finished.Signal 9) ≡ reply.Ended 137 3 []
  pub great_signal : run_reply 5 (feed_end.Closed 3) (take_end.All []) (finished.Signal 200) ≡ reply.Ended 255 3 []
  pub no_end : run_reply 5 feed_end.All (take_end.All []) finished.Failed ≡ reply.Broken 5
  pub broken : run_reply 5 (feed_end.Failed 3) (take_end.All []) (finished.Code 0) ≡ reply.Broken 3
  pub output_broken : run_reply 5 feed_end.All take_end.Failed (finished.Code 0) ≡ reply.Broken 5
  pub output_long : run_reply 5 feed_end.All (take_end.Long 67108865) (finished.Code 0) ≡ reply.TooLong 67108865
