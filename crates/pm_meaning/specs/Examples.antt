-- What recipes mean, part by part (procmailrc(5)).
use Rattle.std.specs.Prelude.{ℕ, Bool, List, [], ◌∷◌, ◌≡◌, Some, None, true, false, codes, pos}
use Rattle.pm_bytes.specs.declared.environment.Environ.{Environ}
use Rattle.pm_bytes.specs.declared.environment.Pair.{Pair}
use Rattle.pm_journal.specs.Locking.{lock_rule}
use Rattle.pm_journal.specs.LogText.{host_mismatched_line}
use Rattle.pm_journal.specs.Plan.{Ends, and_then, ask}
use Rattle.pm_journal.specs.declared.acts.Act.TheVariants.{Lock, Probe}
use Rattle.pm_journal.specs.declared.acts.Reply.TheVariants.{Faulted, Removed}
use Rattle.pm_journal.specs.declared.children.RunEnd.TheVariants as run
use Rattle.pm_journal.specs.declared.placing.FolderKind.TheVariants.{Maildir, Mh}
use Rattle.pm_message.specs.declared.pieces.Feed.TheVariants.{Both, Head, Body}
use Rattle.pm_recipe.specs.Colon.{flags_of}
use Rattle.pm_recipe.specs.declared.tree.Flags.{Flags}
use Rattle.pm_vars.specs.Variables.{Variable}
use Rattle.pm_meaning.specs.Abstracts.{abstract_of, logs_all, logs_last}
use Rattle.pm_meaning.specs.Assigning.{assigned, probed, unset}
use Rattle.pm_meaning.specs.Blocks.{enter_block}
use Rattle.pm_meaning.specs.Chains.{after, is_admitted, new_chain, with_success}
use Rattle.pm_meaning.specs.Changes.{with_arguments, with_variable, without_variable}
use Rattle.pm_meaning.specs.Acting.{acted_turn}
use Rattle.pm_meaning.specs.Delivering.{all_stored, feed_of}
use Rattle.pm_meaning.specs.Destinations.{are_file_texts, destination_of}
use Rattle.pm_meaning.specs.FirstValues.{file_values, login_name, home_folder, mailbox_values, place_values, program_values, search_path, time_zone, user_values}
use Rattle.pm_meaning.specs.Forwards.{addressed, blank_words, sendmail_words}
use Rattle.pm_meaning.specs.GlobalLock.{got_lock}
use Rattle.pm_meaning.specs.Locks.{automatic_lock, blamed_text, full_lock, is_taken, is_fault, any_held, lock_word, rule_of}
use Rattle.pm_meaning.specs.Logging.{log_file}
use Rattle.pm_meaning.specs.Minds.{Mind}
use Rattle.pm_meaning.specs.ProgramActions.{Delivers, Filters, Captures, appended_name, captured_in, code_outcome, feed_outcome, done_acted, named_lock, outcome_lines, pipe_purpose, pipe_task, refilled, unless_overflow, unless_too_long}
use Rattle.pm_meaning.specs.Programs.{code_of, line_of_words, needs_shell, shell_words}
use Rattle.pm_meaning.specs.Turns.{Clones, EndsFile, Enters, GoesOn, Halts, Includes, Switches, refuse_name, say_then}
use Rattle.pm_meaning.specs.declared.chain.Chain.{Chain}
use Rattle.pm_meaning.specs.declared.acted.Acted.TheVariants as acted
use Rattle.pm_meaning.specs.declared.acted.Cause.TheVariants as cause
use Rattle.pm_meaning.specs.declared.process.End.TheVariants.{Delivered, HostOff}
use Rattle.pm_meaning.specs.declared.process.Outcome.TheVariants as outcome
use Rattle.pm_meaning.specs.declared.process.ProgramLine.TheVariants.{NoWords, Runs, Unusable}

-- the flags of these letters
abbrev pub letters : List ℕ → Flags
letters text = flags_of text

-- what is remembered: whether the base of A and a matched, whether a recipe of E's chain was executed, and whether the last one
-- succeeded, or failed
abbrev pub chain : Bool → Bool → Bool → Bool → Chain
chain base ran ok failed = record { base = base; ran = ran; ok = ok; failed = failed }

-- a variable
abbrev pub variable : List ℕ → List ℕ → Variable
variable name value = record { name = name; value = value }

-- a process with these variables, which sees names from `Mail`, on the host `mx`, with the lock `Mail/l`
abbrev pub process_with : List Variable → Mind
process_with variables = record {
  filter = false;
  fails_softly = false;
  message = record { head = codes "From a Thu\nA: b\nsubject: \thi\n\n"; body = codes "x" };
  vars = record {
    variables = variables;
    arguments = codes "x" ∷ codes "y" ∷ codes "z" ∷ [];
    marks = record { pid = 4242; code = 0; score = pos 0; rcfile = [] };
  };
  base = codes "Mail";
  host_name = codes "mx";
  locks = codes "Mail/l" ∷ [];
  global = None;
  chain = new_chain;
  placed = 0;
  rcfile = codes "rc";
  openings = 1;
  is_clone = false;
  later = [];
  stored = record { folder = codes "mbox"; size = 12 };
}

abbrev pub process : Mind
process = process_with []

-- an environment with these variables
abbrev pub environ : List Pair → Environ
environ pairs = record { vars = pairs; pid = 4242; host_name = codes "mx" }

abbrev pub pair : List ℕ → List ℕ → Pair
pair name value = record { name = name; value = value }

-- the chains of the flags A, a, E and e
pub record OfChains : Type 0 where
  -- a recipe without these letters is always tried; one with a letter is where its chain says so
  pub free : is_admitted (letters (codes "BDc")) (chain false true false true) ≡ true
  pub with_A : is_admitted (letters (codes "A")) (chain true true false true) ≡ true
  pub with_A_no_match : is_admitted (letters (codes "A")) (chain false true true false) ≡ false
  pub with_a : is_admitted (letters (codes "a")) (chain true true true false) ≡ true
  pub with_a_failed : is_admitted (letters (codes "a")) (chain true true false true) ≡ false
  pub with_a_no_match : is_admitted (letters (codes "a")) (chain false true true false) ≡ false
  pub with_E : is_admitted (letters (codes "E")) (chain true false false false) ≡ true
  pub with_E_executed : is_admitted (letters (codes "E")) (chain false true false true) ≡ false
  pub with_e : is_admitted (letters (codes "e")) (chain false true false true) ≡ true
  pub with_e_succeeded : is_admitted (letters (codes "e")) (chain true true true false) ≡ false
  pub at_the_start : is_admitted (letters (codes "E")) new_chain ≡ true
  pub at_the_start_A : is_admitted (letters (codes "A")) new_chain ≡ false
  -- what a recipe leaves: one without A and a is the base of those that follow
  pub matched : after (letters []) (chain false true true false) true true true ≡ chain true true true false
  pub not_matched : after (letters []) (chain true true true false) false false false ≡ chain false false false false
  pub failed : after (letters []) new_chain true true false ≡ chain true true false true
  pub base_stays : after (letters (codes "A")) (chain true true true false) false false false ≡ chain true false false false
  pub base_stays_a : after (letters (codes "a")) (chain false true true false) true true true ≡ chain false true true false
  -- E remembers that a recipe of its chain was executed, though others came after it
  pub passed_by : after (letters (codes "E")) (chain true true true false) false false false ≡ chain false true false false
  pub success : with_success (chain true true false true) ≡ chain true true true false

-- the destinations of mail, and their lock files
pub record OfDestinations : Type 0 where
  -- the ending of a word says what is asked for
  pub file : destination_of (codes "a/mbox") ≡ record { kind = None; name = codes "a/mbox" }
  pub maildir : destination_of (codes "md/") ≡ record { kind = Some Maildir; name = codes "md" }
  pub mh : destination_of (codes "in/.") ≡ record { kind = Some Mh; name = codes "in" }
  pub dot : destination_of (codes "in.") ≡ record { kind = None; name = codes "in." }
  -- an action needs words, each with a name before its ending
  pub words : are_file_texts (codes "mbox" ∷ codes "md/" ∷ []) ≡ true
  pub no_words : are_file_texts [] ≡ false
  pub no_name : are_file_texts (codes "mbox" ∷ codes "/" ∷ []) ≡ false
  pub byte_0 : are_file_texts ((97 ∷ 0 ∷ []) ∷ []) ≡ false
  -- the automatic lock file is named by the first destination and LOCKEXT; `/dev/null` has none
  pub automatic : automatic_lock (codes "mbox" ∷ codes "b" ∷ []) process ≡ Some (codes "mbox.lock")
  pub of_maildir : automatic_lock (codes "md/" ∷ []) process ≡ Some (codes "md.lock")
  pub of_mh : automatic_lock (codes "in/." ∷ []) (process_with (variable (codes "LOCKEXT") (codes "-l") ∷ [])) ≡ Some (codes "in-l")
  pub of_null : automatic_lock (codes "/dev/null" ∷ []) process ≡ None
  pub of_none : automatic_lock [] process ≡ None
  pub no_lock : lock_word None [] (codes "mbox" ∷ []) process ≡ None
  pub second_colon : lock_word (Some []) [] (codes "mbox" ∷ []) process ≡ Some (codes "mbox.lock")
  pub named : lock_word (Some (codes "$L")) (codes "l2") (codes "mbox" ∷ []) process ≡ Some (codes "l2")
  -- a program's line names it by the file after `>>`
  pub appended : appended_name (codes "a >> b;c") ≡ codes "b"
  pub first_arrows : appended_name (codes "a>>b>>c") ≡ codes "b"
  pub one_arrow : appended_name (codes "a > b") ≡ []
  pub to_lock : named_lock (pipe_task (letters []) (Some []) (codes "a>>b")) (codes "b") process ≡ Some (codes "b.lock")
  pub nothing_to_lock : named_lock (pipe_task (letters []) (Some []) (codes "a")) [] process ≡ None
  pub named_for_program : named_lock (pipe_task (letters []) (Some (codes "l2")) (codes "a>>b")) (codes "l2") process ≡ Some (codes "l2")
  pub no_lock_for_program : named_lock (pipe_task (letters []) None (codes "a>>b")) [] process ≡ None
  -- names are seen from MAILDIR; a lock file can't be a destination, nor be taken twice
  pub full : full_lock (codes "Mail") (Some (codes "l2")) ≡ Some (codes "Mail/l2")
  pub full_from_root : full_lock (codes "Mail") (Some (codes "/l2")) ≡ Some (codes "/l2")
  pub free : is_taken (Some (codes "l2")) (codes "mbox" ∷ []) (codes "l" ∷ []) ≡ false
  pub lock_is_destination : is_taken (Some (codes "l2")) (codes "mbox" ∷ codes "l2" ∷ []) [] ≡ true
  pub lock_is_held : is_taken (Some (codes "l")) [] (codes "k" ∷ codes "l" ∷ []) ≡ true
  pub destination_is_held : any_held (codes "mbox" ∷ codes "l" ∷ []) (codes "l" ∷ []) ≡ true
  -- what is told of a lock file's name that can't be used: its text, or for the automatic one the action's
  pub blamed_lock : blamed_text (Some (codes "$L")) (codes "mbox") ≡ codes "$L"
  pub blamed_action : blamed_text (Some []) (codes "mbox") ≡ codes "mbox"
  -- 1,000 tries by LOCKSLEEP, LOCKTIMEOUT and SUSPEND, each its first value where it is no number
  pub first_rule : rule_of process.vars ≡ lock_rule 8 1024 16 1000
  pub rule : rule_of (process_with (variable (codes "LOCKTIMEOUT") (codes "0") ∷ variable (codes "LOCKSLEEP") (codes "x") ∷ variable (codes "SUSPEND") (codes "9") ∷ [])).vars ≡ lock_rule 8 0 9 1000
  pub fault : is_fault Faulted ≡ true
  pub no_fault : is_fault Removed ≡ false

-- the variables of a process
pub record OfValues : Type 0 where
  -- who runs the program, and where
  pub user : user_values (environ (pair (codes "HOME") (codes "/h") ∷ pair (codes "LOGNAME") (codes "joe") ∷ pair (codes "LOGNAME") (codes "ann") ∷ []))
      ≡ variable (codes "LOGNAME") (codes "joe") ∷ variable (codes "HOME") (codes "/h") ∷ variable (codes "SHELL") (codes "/bin/sh") ∷ variable (codes "PATH") (codes "/usr/bin:/bin") ∷ []
  pub nobody : login_name (environ []) ≡ codes "nobody"
  pub blank_login : login_name (environ (pair (codes "LOGNAME") (codes "a b") ∷ [])) ≡ codes "nobody"
  pub no_login : login_name (environ (pair (codes "LOGNAME") [] ∷ [])) ≡ codes "nobody"
  pub no_home : home_folder (environ (pair (codes "HOME") [] ∷ [])) ≡ codes "/"
  pub search : search_path (environ (pair (codes "PATH") (codes "/b") ∷ [])) ≡ codes "/b"
  pub zone : time_zone (environ (pair (codes "TZ") (codes "CET") ∷ [])) ≡ variable (codes "TZ") (codes "CET") ∷ []
  pub no_zone : time_zone (environ []) ≡ []
  pub place : place_values false (environ (pair (codes "HOME") (codes "/h") ∷ [])) ≡ variable (codes "HOST") (codes "mx") ∷ variable (codes "MAILDIR") (codes "/h") ∷ []
  pub mailbox : mailbox_values false (environ (pair (codes "LOGNAME") (codes "joe") ∷ []))
      ≡ variable (codes "ORGMAIL") (codes "/var/mail/joe") ∷ variable (codes "DEFAULT") (codes "/var/mail/joe") ∷ []
  -- a mail filter sees names from where it is run, and has no mailbox
  pub filter_place : place_values true (environ (pair (codes "HOME") (codes "/h") ∷ [])) ≡ variable (codes "HOST") (codes "mx") ∷ variable (codes "MAILDIR") (codes ".") ∷ []
  pub filter_mailbox : mailbox_values true (environ []) ≡ []
  -- the rest
  pub programs : program_values ≡ variable (codes "SENDMAIL") (codes "/usr/sbin/sendmail") ∷ variable (codes "SENDMAILFLAGS") (codes "-oi")
      ∷ variable (codes "SHELLMETAS") (codes "&|<>~;?*[") ∷ variable (codes "SHELLFLAGS") (codes "-c") ∷ []
  pub files : file_values ≡ variable (codes "MSGPREFIX") (codes "msg.") ∷ variable (codes "LOCKEXT") (codes ".lock") ∷ variable (codes "LOCKSLEEP") (codes "8")
      ∷ variable (codes "LOCKTIMEOUT") (codes "1024") ∷ variable (codes "SUSPEND") (codes "16") ∷ variable (codes "PROCMAIL_VERSION") (codes "3.22") ∷ []

-- assignments with an effect, and unsettings
pub record OfAssignments : Type 0 where
  pub plain : assigned (codes "A") (codes "b") process ≡ Ends (GoesOn (with_variable (codes "A") (codes "b") process))
  pub maildir : assigned (codes "MAILDIR") (codes "d") process
      ≡ (let q = with_variable (codes "MAILDIR") (codes "d") process in and_then (ask (Probe (codes "Mail/d"))) (probed (codes "Mail/d") q))
  pub included : assigned (codes "INCLUDERC") (codes "r") process ≡ Ends (Includes (codes "Mail/r") (with_variable (codes "INCLUDERC") (codes "r") process))
  pub included_none : assigned (codes "INCLUDERC") [] process ≡ Ends (GoesOn (with_variable (codes "INCLUDERC") [] process))
  pub switched : assigned (codes "SWITCHRC") (codes "r") process ≡ Ends (Switches (codes "Mail/r") (with_variable (codes "SWITCHRC") (codes "r") process))
  pub switched_none : assigned (codes "SWITCHRC") [] process ≡ Ends (EndsFile (with_variable (codes "SWITCHRC") [] process))
  pub same_host : assigned (codes "HOST") (codes "mx") process ≡ Ends (GoesOn (with_variable (codes "HOST") (codes "mx") process))
  pub other_host : assigned (codes "HOST") (codes "m") process
      ≡ (let q = with_variable (codes "HOST") (codes "m") process in say_then q (host_mismatched_line (codes "m")) (Halts HostOff q))
  pub lockfile : assigned (codes "LOCKFILE") (codes "k") process
      ≡ (let q = with_variable (codes "LOCKFILE") (codes "k") process in and_then (ask (Lock (codes "Mail/k") 8 1024 16 1000)) (got_lock (codes "Mail/k") q))
  pub lockfile_held : assigned (codes "LOCKFILE") (codes "l") process
      ≡ (let q = with_variable (codes "LOCKFILE") (codes "l") process in refuse_name (codes "l") q)
  pub no_lockfile : assigned (codes "LOCKFILE") [] process ≡ Ends (GoesOn (with_variable (codes "LOCKFILE") [] process))
  pub log : assigned (codes "LOG") (codes "t") process
      ≡ (let q = with_variable (codes "LOG") (codes "t") process in say_then q (codes "t") (GoesOn q))
  pub shift : assigned (codes "SHIFT") (codes "2") process ≡ Ends (GoesOn (with_arguments (codes "z" ∷ []) (with_variable (codes "SHIFT") (codes "2") process)))
  pub no_shift : assigned (codes "SHIFT") (codes "x") process ≡ Ends (GoesOn (with_variable (codes "SHIFT") (codes "x") process))
  pub unset_plain : unset (codes "A") process ≡ Ends (GoesOn (without_variable (codes "A") process))
  pub unset_switchrc : unset (codes "SWITCHRC") process ≡ Ends (EndsFile (without_variable (codes "SWITCHRC") process))
  -- lines are logged in LOGFILE's file, unless that is a lock file that is held
  pub to_err : log_file process ≡ None
  pub to_file : log_file (process_with (variable (codes "LOGFILE") (codes "f") ∷ [])) ≡ Some (codes "Mail/f")
  pub to_lock_file : log_file (process_with (variable (codes "LOGFILE") (codes "l") ∷ [])) ≡ None

-- programs that get the mail
pub record OfPrograms : Type 0 where
  -- a line with one of SHELLMETAS is left to the shell
  pub plain_line : needs_shell (codes "a -b \"c\" $d") process ≡ false
  pub shell_line : needs_shell (codes "a;b") process ≡ true
  pub other_metas : needs_shell (codes "a;b") (process_with (variable (codes "SHELLMETAS") (codes "!") ∷ [])) ≡ false
  pub shell : shell_words (codes "a;b") process.vars ≡ codes "/bin/sh" ∷ codes "-c" ∷ codes "a;b" ∷ []
  pub other_shell : shell_words (codes "a") (process_with (variable (codes "SHELL") (codes "sh") ∷ variable (codes "SHELLFLAGS") (codes "-e") ∷ [])).vars ≡ codes "sh" ∷ codes "-e" ∷ codes "a" ∷ []
  -- the first word is the program, which is run from MAILDIR with the variables
  pub command : line_of_words (codes "a" ∷ codes "b" ∷ []) (process_with (variable (codes "V") (codes "w") ∷ []))
      ≡ Runs (record { program = codes "a"; args = codes "b" ∷ []; env = pair (codes "V") (codes "w") ∷ []; folder = codes "Mail" })
  pub no_words : line_of_words [] process ≡ NoWords
  pub byte_0 : line_of_words (codes "a" ∷ (0 ∷ []) ∷ []) process ≡ Unusable
  -- a forward's words are those of SENDMAIL and SENDMAILFLAGS, and at least one address
  pub flags : blank_words (codes " -a\t -b 'c d'") ≡ codes "-a" ∷ codes "-b" ∷ codes "'c" ∷ codes "d'" ∷ []
  pub sendmail : sendmail_words (process_with (variable (codes "SENDMAIL") (codes "s m") ∷ variable (codes "SENDMAILFLAGS") (codes "-oi -f") ∷ [])).vars ≡ codes "s m" ∷ codes "-oi" ∷ codes "-f" ∷ []
  pub no_sendmail : sendmail_words process.vars ≡ codes "/usr/sbin/sendmail" ∷ []
  pub no_address : addressed [] process ≡ NoWords
  -- `$?` is the exit code, and 127 where there is none
  pub code : code_of (run.Ended 3 0) ≡ 3
  pub no_code : code_of run.NotStarted ≡ 127
  pub lost_code : code_of run.Broken ≡ 127
  -- only w and W heed the code, and i lets a program leave its input
  pub heeded : code_outcome (letters (codes "w")) 3 ≡ outcome.Code 3
  pub heeded_quietly : code_outcome (letters (codes "W")) 3 ≡ outcome.Code 3
  pub success : code_outcome (letters (codes "w")) 0 ≡ outcome.Done
  pub not_heeded : code_outcome (letters []) 3 ≡ outcome.Done
  pub left_input : feed_outcome (letters []) 9 (run.Ended 0 8) ≡ outcome.Closed
  pub may_leave_input : feed_outcome (letters (codes "i")) 9 (run.Ended 0 8) ≡ outcome.Done
  pub took_all : feed_outcome (letters (codes "w")) 9 (run.Ended 3 9) ≡ outcome.Code 3
  pub not_started : feed_outcome (letters (codes "i")) 9 run.NotStarted ≡ outcome.NotStarted
  pub lost : feed_outcome (letters (codes "i")) 9 run.Broken ≡ outcome.Lost
  pub too_long : feed_outcome (letters (codes "i")) 9 run.TooLong ≡ outcome.TooLong
  pub quiet_code : outcome_lines (letters (codes "W")) (codes "a") (outcome.Code 3) ≡ []
  -- the output's greatest lengths, as the mail and as a variable's value
  pub longest_mail : unless_too_long outcome.Done 67108864 ≡ outcome.Done
  pub longer_mail : unless_too_long outcome.Done 67108865 ≡ outcome.TooLong
  pub longest_value : unless_overflow outcome.Done 1048576 ≡ outcome.Done
  pub longer_value : unless_overflow outcome.Done 1048577 ≡ outcome.Overflow 1048577
  -- h and b feed a part of the mail, of which a filter's output takes the place
  pub head : feed_of (letters (codes "h")) ≡ Head
  pub body : feed_of (letters (codes "b")) ≡ Body
  pub both : feed_of (letters (codes "hb")) ≡ Both
  pub all : feed_of (letters []) ≡ Both
  pub new_head : refilled Head (codes "H\n\n") (record { head = codes "A\n\n"; body = codes "b" }) ≡ codes "H\n\nb"
  pub new_body : refilled Body (codes "B") (record { head = codes "A\n\n"; body = codes "b" }) ≡ codes "A\n\nB"
  pub new_mail : refilled Both (codes "M") (record { head = codes "A\n\n"; body = codes "b" }) ≡ codes "M"
  -- f makes a filter; a delivery that isn't a copy ends the run
  pub filter : pipe_purpose (letters (codes "fw")) (codes "a") ≡ Filters
  pub delivery : pipe_purpose (letters (codes "w")) (codes "a") ≡ Delivers (codes "a")
  pub last : done_acted (Delivers (codes "a")) (letters []) ≡ acted.Delivered
  pub copy : done_acted (Delivers (codes "a")) (letters (codes "c")) ≡ acted.CopyDone
  pub filtered : done_acted Filters (letters (codes "fc")) ≡ acted.Went
  pub output_captured : done_acted (Captures (codes "V")) (letters (codes "c")) ≡ acted.Went
  pub stored : all_stored (letters []) ≡ acted.Delivered
  pub copy_stored : all_stored (letters (codes "c")) ≡ acted.CopyDone
  -- only a delivery that is no copy ends the process
  pub ends : acted_turn acted.Delivered process ≡ Halts Delivered process
  pub copy_goes_on : acted_turn acted.CopyDone process ≡ GoesOn process
  pub filter_goes_on : acted_turn acted.Went process ≡ GoesOn process
  pub failure_goes_on : acted_turn (acted.Failed cause.Torn) process ≡ GoesOn process
  -- a captured output loses the newlines at its end
  pub captured : captured_in (codes "V") (codes "a\n\n") outcome.Done process ≡ with_variable (codes "V") (codes "a") process
  pub not_captured : captured_in (codes "V") (codes "a") (outcome.Code 1) process ≡ process
  -- a block under the flag c is for a copy
  pub block_copy : enter_block (record { flags = letters (codes "c"); lock = Some (codes "k"); conditions = [] }) process ≡ Ends (Clones process)
  pub block : enter_block (record { flags = letters []; lock = None; conditions = [] }) process ≡ Ends (Enters None process)
  -- the abstract of a delivery
  pub told_of_delivery : abstract_of process ≡ codes "From a Thu\n Subject: hi\n  Folder: mbox 12\n"
  pub no_log : logs_last process ≡ false
  pub log_of_last : logs_last (process_with (variable (codes "LOGFILE") (codes "f") ∷ [])) ≡ true
  pub log_of_none : logs_last (process_with (variable (codes "LOGFILE") (codes "f") ∷ variable (codes "LOGABSTRACT") (codes "no") ∷ [])) ≡ false
  pub log_of_copies : logs_all (process_with (variable (codes "LOGFILE") (codes "f") ∷ variable (codes "LOGABSTRACT") (codes "all") ∷ [])) ≡ true
  pub no_log_of_copies : logs_all (process_with (variable (codes "LOGFILE") (codes "f") ∷ [])) ≡ false
