-- Short command lines, what they ask for, and what is done then.
use Rattle.std.specs.Prelude.{◌≡◌, ◌++◌, ℕ, Bool, not, pos, negsuc, true, false, Option, Some, None, List, [], ◌∷◌, codes}
use Rattle.std.specs.List.{filter, range_with_len}
use Rattle.pm_bytes.specs.declared.environment.Environ.{Environ}
use Rattle.pm_bytes.specs.declared.environment.Pair.{Pair}
use Rattle.pm_journal.specs.Locking.{lock_rule, lock_act}
use Rattle.pm_journal.specs.Plan.{Plays}
use Rattle.pm_journal.specs.declared.acts.Act.{Act}
use Rattle.pm_journal.specs.declared.acts.Act.TheVariants.{Unlock, SayErr}
use Rattle.pm_journal.specs.declared.acts.Counts.{Counts}
use Rattle.pm_journal.specs.declared.acts.Entry.{Entry}
use Rattle.pm_journal.specs.declared.acts.Reply.{Reply}
use Rattle.pm_journal.specs.declared.acts.Reply.TheVariants.{Held, Busy, Faulted, Removed, Gone, Wrote}
use Rattle.pm_journal.specs.declared.locking.LockRule.{LockRule}
use Rattle.lockfile_top.specs.Doing.{without_name, with_name, do_tasks}
use Rattle.lockfile_top.specs.Ends.{made_after}
use Rattle.lockfile_top.specs.Lines.{forcing_line, sorry_line}
use Rattle.lockfile_top.specs.Status.{status_number, end_status}
use Rattle.lockfile_top.specs.Words.{first_rule, seconds_of, setting_of, tries_for, word_of, mailbox_lock, tasks_in, is_inverted, command_line}
use Rattle.lockfile_top.specs.declared.status.Status.TheVariants.{Success, Usage, SystemError, CannotCreate}
use Rattle.lockfile_top.specs.declared.tasks.Ending.TheVariants.{AllDone, GaveUp}
use Rattle.lockfile_top.specs.declared.tasks.Setting.{Setting}
use Rattle.lockfile_top.specs.declared.tasks.Setting.TheVariants.{Retries, Limit, Suspend}
use Rattle.lockfile_top.specs.declared.tasks.Task.{Task}
use Rattle.lockfile_top.specs.declared.tasks.Task.TheVariants.{Take, Give}
use Rattle.lockfile_top.specs.declared.words.Word.{Word}
use Rattle.lockfile_top.specs.declared.words.Word.TheVariants.{Sets, Awaits, Takes, TakesMailbox, GivesMailbox, Unread}

-- the environment of a user
abbrev pub user : List ℕ → Environ
user name = record { vars = record { name = codes "LOGNAME"; value = name } ∷ []; pid = 1; host_name = codes "h" }

-- the tasks of arguments, where the lock of the system mailbox is `m`
abbrev pub asked_by : List (List ℕ) → Option (List Task)
asked_by words = tasks_in (codes "m") first_rule None words

-- one argument and then the name `a`
abbrev pub before_a : List ℕ → Option (List Task)
before_a word = asked_by (word ∷ codes "a" ∷ [])

-- the lock file `a` is made by this rule
abbrev pub takes_a : LockRule → Option (List Task)
takes_a rule = Some (Take (codes "a") rule ∷ [])

-- what an argument says before any other
abbrev pub says : List ℕ → Word
says word = word_of first_rule word

-- an entry, whatever was counted
abbrev pub entry : Act → Reply → Entry
entry act reply =
    let counts : Counts = record { host = 0; out = 0; err = 0 } in
    record { act = act; reply = reply; before = counts; after = counts }

-- a lock with one try, and the entry of it
abbrev pub once : LockRule
once = lock_rule 8 0 16 1

abbrev pub tried : List ℕ → Reply → Entry
tried name reply = entry (lock_act name once) reply

abbrev pub given : List ℕ → Reply → Entry
given name reply = entry (Unlock name) reply

abbrev pub told : List ℕ → Entry
told line = entry (SayErr line) Wrote

-- `a`, `b` and `c`, each with one try
abbrev pub three : List Task
three = Take (codes "a") once ∷ Take (codes "b") once ∷ Take (codes "c") once ∷ []

-- the bytes that pass a test, and whether an argument is read, or names a lock file
abbrev pub those : (ℕ → Bool) → List ℕ
those test = filter test (range_with_len 0 256)

abbrev pub is_setting : Option Setting → Bool
is_setting None = false
is_setting (Some setting) = true

abbrev pub is_read : Word → Bool
is_read Unread = false
is_read word = true

abbrev pub is_name : Word → Bool
is_name Takes = true
is_name word = false

-- what holds of them
pub record Examples : Type 0 where
  -- a name alone: 1,000,000 tries, sleeps of 8 seconds, and no lock file is removed by force
  pub one_name : asked_by (codes "a" ∷ []) ≡ takes_a (lock_rule 8 0 16 1_000_000)
  -- `-N`, `-r`, `-l` and `-s`, each with its value in the same argument or in the next
  pub sleep : before_a (codes "-3") ≡ takes_a (lock_rule 3 0 16 1_000_000)
  pub no_sleep : before_a (codes "-0") ≡ takes_a (lock_rule 0 0 16 1_000_000)
  pub retries : before_a (codes "-r5") ≡ takes_a (lock_rule 8 0 16 6)
  pub limit : before_a (codes "-l1024") ≡ takes_a (lock_rule 8 1_024 16 1_000_000)
  pub suspend : before_a (codes "-s9") ≡ takes_a (lock_rule 8 0 9 1_000_000)
  pub next_argument :
      asked_by (codes "-r" ∷ codes "5" ∷ codes "-l" ∷ codes "60" ∷ codes "-s" ∷ codes "1" ∷ codes "a" ∷ [])
      ≡ takes_a (lock_rule 8 60 1 6)
  pub option_as_value : asked_by (codes "-l" ∷ codes "-r" ∷ codes "a" ∷ []) ≡ None
  -- one try, the most of them, and as many as for -1
  pub no_retries : before_a (codes "-r0") ≡ takes_a once
  pub plus_sign : before_a (codes "-r+1") ≡ takes_a (lock_rule 8 0 16 2)
  pub most_retries : before_a (codes "-r999999") ≡ takes_a (lock_rule 8 0 16 1_000_000)
  pub always_again : asked_by (codes "-r0" ∷ codes "-r-1" ∷ codes "a" ∷ []) ≡ takes_a (lock_rule 8 0 16 1_000_000)
  pub too_many_retries : before_a (codes "-r1000000") ≡ None
  pub too_few_retries : before_a (codes "-r-2") ≡ None
  pub no_number : before_a (codes "-rx") ≡ None
  pub retries_are_after_the_first : tries_for (pos 1) ≡ Some 2
  pub below_minus_one : tries_for (negsuc 1) ≡ None
  -- seconds have 1 to 9 digits
  pub nine_digits : seconds_of (codes "999999999") ≡ Some 999_999_999
  pub zeros_in_front : seconds_of (codes "000000007") ≡ Some 7
  pub ten_digits : seconds_of (codes "0000000007") ≡ None
  pub no_digits : seconds_of [] ≡ None
  pub signed : seconds_of (codes "+7") ≡ None
  pub other_bytes : seconds_of (codes "7s") ≡ None
  pub long_sleep : before_a (codes "-1234567890") ≡ None
  pub long_limit : before_a (codes "-l1234567890") ≡ None
  pub long_suspension : before_a (codes "-s1234567890") ≡ None
  -- a setting holds for the names after it
  pub settings_after : asked_by (codes "a" ∷ codes "-3" ∷ codes "b" ∷ codes "-r0" ∷ codes "c" ∷ [])
      ≡ Some (Take (codes "a") (lock_rule 8 0 16 1_000_000) ∷ Take (codes "b") (lock_rule 3 0 16 1_000_000)
      ∷ Take (codes "c") (lock_rule 3 0 16 1) ∷ [])
  pub last_counts : asked_by (codes "-3" ∷ codes "-4" ∷ codes "a" ∷ []) ≡ takes_a (lock_rule 4 0 16 1_000_000)
  -- the lock of the system mailbox
  pub mailbox : asked_by (codes "-r0" ∷ codes "-ml" ∷ codes "-mu" ∷ [])
      ≡ Some (Take (codes "m") once ∷ Give (codes "m") ∷ [])
  pub of_a_user : mailbox_lock (user (codes "joe")) ≡ codes "/var/mail/joe.lock"
  pub of_nobody : mailbox_lock (user []) ≡ codes "/var/mail/nobody.lock"
  -- what one argument says
  pub a_name : says (codes "a b") ≡ Takes
  pub a_plus : says (codes "+1") ≡ Takes
  pub a_number : says (codes "3") ≡ Takes
  pub inverts : says (codes "-!") ≡ Sets first_rule
  pub takes_mailbox : says (codes "-ml") ≡ TakesMailbox
  pub gives_mailbox : says (codes "-mu") ≡ GivesMailbox
  pub waits_for_retries : says (codes "-r") ≡ Awaits Retries
  pub waits_for_limit : says (codes "-l") ≡ Awaits Limit
  pub waits_for_suspension : says (codes "-s") ≡ Awaits Suspend
  pub other_letter : says (codes "-x") ≡ Unread
  pub letters_together : says (codes "-mlx") ≡ Unread
  pub letters_with_value : those (λ b. is_setting (setting_of b)) ≡ codes "lrs"
  pub letters_alone : those (λ b. is_read (says (45 ∷ b ∷ []))) ≡ codes "!0123456789lrs"
  pub of_the_mailbox : those (λ b. is_read (says (codes "-m" ++ b ∷ []))) ≡ codes "lu"
  pub no_names : those (λ b. not (is_name (says (b ∷ codes "a")))) ≡ 0 ∷ codes "-"
  pub bare_minus : says (codes "-") ≡ Unread
  pub empty_argument : says [] ≡ Unread
  pub byte_0 : says (97 ∷ 0 ∷ []) ≡ Unread
  -- arguments that aren't read
  pub unread_after_a_name : asked_by (codes "a" ∷ codes "-x" ∷ []) ≡ None
  pub no_value : asked_by (codes "a" ∷ codes "-l" ∷ []) ≡ None
  pub no_name : command_line (user []) (codes "-r0" ∷ codes "-!" ∷ []) ≡ None
  pub no_argument : command_line (user []) [] ≡ None
  -- `-!` may stand anywhere
  pub inverted_after : is_inverted (codes "a" ∷ codes "-!" ∷ []) ≡ true
  pub not_inverted : is_inverted (codes "a" ∷ codes "!" ∷ []) ≡ false
  pub line : command_line (user (codes "joe")) (codes "-!" ∷ codes "-mu" ∷ [])
      ≡ Some (record { tasks = Give (codes "/var/mail/joe.lock") ∷ []; inverted = true })
  pub line_without : command_line (user (codes "joe")) (codes "-r0" ∷ codes "a" ∷ [])
      ≡ Some (record { tasks = Take (codes "a") once ∷ []; inverted = false })
  -- the lock files that were made: one that is made again is the last
  pub made_again : with_name (codes "a") (codes "a" ∷ codes "b" ∷ []) ≡ codes "b" ∷ codes "a" ∷ []
  pub made_first : with_name (codes "a") [] ≡ codes "a" ∷ []
  pub given_back : without_name (codes "a") (codes "a" ∷ codes "b" ∷ []) ≡ codes "b" ∷ []
  pub after_entries :
      made_after [] (tried (codes "a") (Held 0 0) ∷ tried (codes "b") Busy ∷ tried (codes "c") (Held 1 1)
      ∷ told (codes "x") ∷ given (codes "a") Removed ∷ given (codes "c") Gone ∷ [])
      ≡ codes "c" ∷ []
  -- its lines
  pub forcing : forcing_line (codes "a") ≡ codes "lockfile: Forcing lock on \"a\"\n"
  pub sorry : sorry_line (codes "a") ≡ codes "lockfile: Sorry, giving up on \"a\"\n"
  -- all locks are got, or what was made is removed, the last one first, and the name is told
  pub all_got : Plays (do_tasks three [])
      (tried (codes "a") (Held 0 0) ∷ tried (codes "b") (Held 0 0) ∷ tried (codes "c") (Held 0 0) ∷ []) AllDone
  pub third_is_there : Plays (do_tasks three [])
      (tried (codes "a") (Held 0 0) ∷ tried (codes "b") (Held 0 0) ∷ tried (codes "c") Busy
      ∷ given (codes "b") Removed ∷ given (codes "a") Removed ∷ told (sorry_line (codes "c")) ∷ []) GaveUp
  pub removal_fails : Plays (do_tasks three [])
      (tried (codes "a") (Held 0 0) ∷ tried (codes "b") (Held 0 0) ∷ tried (codes "c") Faulted
      ∷ given (codes "b") Faulted ∷ given (codes "a") Gone ∷ told (sorry_line (codes "c")) ∷ []) GaveUp
  -- a lock that was forced is told
  pub forced : Plays (do_tasks (Take (codes "a") once ∷ Give (codes "a") ∷ []) [])
      (tried (codes "a") (Held 1 1) ∷ told (forcing_line (codes "a")) ∷ given (codes "a") Removed ∷ []) AllDone
  -- where nothing was there to be removed, the run stops too
  pub nothing_to_give : Plays (do_tasks (Take (codes "a") once ∷ Give (codes "m") ∷ []) [])
      (tried (codes "a") (Held 0 0) ∷ given (codes "m") Gone ∷ given (codes "a") Removed
      ∷ told (sorry_line (codes "m")) ∷ []) GaveUp
  -- the statuses, of which `-!` exchanges two
  pub success : status_number Success ≡ 0
  pub usage : status_number Usage ≡ 64
  pub system_error : status_number SystemError ≡ 71
  pub cannot_create : status_number CannotCreate ≡ 73
  pub all_done : end_status false AllDone ≡ Success
  pub gave_up : end_status false GaveUp ≡ CannotCreate
  pub all_done_inverted : end_status true AllDone ≡ CannotCreate
  pub gave_up_inverted : end_status true GaveUp ≡ Success
