-- Short command lines of formail and what they ask for, and what is written then.
use Rattle.std.specs.Prelude.{◌≡◌, ℕ, Bool, pos, true, false, Option, Some, None, List, [], ◌∷◌, ◌++◌, option_map, codes}
use Rattle.std.specs.List.{filter, range_with_len}
use Rattle.pm_host.specs.Streams.{StreamView}
use Rattle.pm_host.specs.Told.{HostView}
use Rattle.pm_streams.specs.Reading.{ReadPast, StopsFailed}
use Rattle.pm_streams.specs.declared.writing.WriteEnd.TheVariants.{Short}
use Rattle.formail_extra.specs.declared.stepping.CacheEnd.{CacheEnd}
use Rattle.formail_extra.specs.declared.stepping.CacheEnd.TheVariants.{Busy, IsFolder, Failed as CacheFailed, Raced}
use Rattle.pm_bytes.specs.declared.environment.Pair.{Pair}
use Rattle.formail_edit.specs.Examples.{plain, put, rename, unique, extract}
use Rattle.formail_edit.specs.declared.edits.PutKind.TheVariants.{Old, Replace, IfNone, Always}
use Rattle.formail_split.specs.Parts.{parts_of}
use Rattle.formail_split.specs.declared.feeding.Outcome.TheVariants.{Fine, Amiss, Failed}
use Rattle.formail_top.specs.Asked.{nothing, request_for}
use Rattle.formail_top.specs.Outputs.{mails_of, sender_of_output, wants_moment, ids_of, kept_of, outputs_of, each_output_of}
use Rattle.formail_top.specs.Run.{AfterStep, AsksFor, Ended, IsWriteStatus, Seen, Untouched, Unwritten, command_for, feed_status, kept_status}
use Rattle.formail_top.specs.Words.{cache_of, setting_for, setting_of, settings_of, takes_more, takes_text}
use Rattle.formail_top.specs.declared.request.Request.{Request}
use Rattle.formail_top.specs.declared.settings.Setting.{Setting}
use Rattle.formail_top.specs.declared.settings.Setting.TheVariants.{Join, Zap, KeepFrom, KeepBody, WithBody, Prefix, Take as TakeOf, Put as PutOf, Unique as UniqueOf, Rename as RenameOf, Reply, Trust, Skip, Total, Split, Program, Argument}

-- what one, two or three arguments say
abbrev pub one : List ℕ → Option (List Setting)
one word = settings_of (word ∷ [])

abbrev pub two : List ℕ → List ℕ → Option (List Setting)
two first second = settings_of (first ∷ second ∷ [])

abbrev pub three : List ℕ → List ℕ → List ℕ → Option (List Setting)
three first second third = settings_of (first ∷ second ∷ third ∷ [])

-- just this setting
abbrev pub only : Setting → Option (List Setting)
only setting = Some (setting ∷ [])

-- what is written of an input, where no output names the moment
abbrev pub written : List (List ℕ) → List ℕ → Option (List ℕ)
written words bytes = option_map (λ request. outputs_of request (pos 0) (mails_of request bytes)) (request_for words)

abbrev pub splitting : Request
splitting = record nothing { split = true }

abbrev pub replying : Request
replying = record nothing { reply = true }

abbrev pub a_and_b : List ℕ
a_and_b = codes "From a\nA: 1\n\nx\n\nFrom b\nB: 2\n\ny\n"

abbrev pub from_a : List ℕ
from_a = codes "From a\nA: 1\n\nx\n\n"

abbrev pub from_b : List ℕ
from_b = codes "From b\nB: 2\n\ny\n"

-- the bytes that pass a test, and whether something is asked for
abbrev pub those : (ℕ → Bool) → List ℕ
those test = filter test (range_with_len 0 256)

abbrev pub is_asked : Option Setting → Bool
is_asked None = false
is_asked (Some setting) = true

-- with this status it is told how a step with a cache ended
abbrev pub Tells : CacheEnd → ℕ → Type 0
Tells end number = (request : Request) (vars : List Pair) (mails : List (List ℕ)) (status : ℕ) (host host' : HostView)
    (out out' : StreamView) → AfterStep end request vars mails status host host' out out' → status ≡ number

-- what holds of them
pub record Examples : Type 0 where
  -- letters that stand alone
  pub alone : one (codes "-czfbkrt")
      ≡ Some (Join ∷ Zap ∷ KeepFrom ∷ KeepBody ∷ WithBody ∷ Reply ∷ Trust ∷ [])
  pub no_argument : settings_of [] ≡ Some []
  pub other_letter : one (codes "-q") ≡ None
  pub other_letter_later : one (codes "-fq") ≡ None
  pub no_letter : one (codes "-") ≡ None
  pub no_sign : one (codes "f") ≡ None
  pub empty : one [] ≡ None
  pub unread_to_the_end : two (codes "-q") (codes "-f") ≡ None
  pub letters_alone : those (λ b. is_asked (setting_of b)) ≡ codes "bcfkrtz"
  pub letters_with_text : those (λ b. is_asked (setting_for b (codes "A: x"))) ≡ codes "AIUXaipux"
  pub letters_with_two_texts : those takes_more ≡ codes "DR"
  pub letters_with_any : those takes_text ≡ codes "ADIRUXaipux"
  -- a letter takes the rest of its argument, or the next one
  pub prefix_here : one (codes "-p| ") ≡ only (Prefix (codes "| "))
  pub prefix_next : two (codes "-p") (codes "*") ≡ only (Prefix (codes "*"))
  pub prefix_is_empty : two (codes "-p") [] ≡ only (Prefix [])
  pub text_is_wanting : one (codes "-p") ≡ None
  pub rest_is_the_text : one (codes "-zpfb") ≡ Some (Zap ∷ Prefix (codes "fb") ∷ [])
  pub option_as_text : two (codes "-x") (codes "-f") ≡ only (TakeOf (extract false (codes "-f")))
  pub option_after_text : two (codes "-xTo") (codes "-f") ≡ Some (TakeOf (extract false (codes "To")) ∷ KeepFrom ∷ [])
  -- `-x` and `-X`, `-u` and `-U`: a name that isn't empty
  pub take : one (codes "-xTo:") ≡ only (TakeOf (extract false (codes "To:")))
  pub take_whole : one (codes "-XTo:") ≡ only (TakeOf (extract true (codes "To:")))
  pub first_stays : one (codes "-uTo:") ≡ only (UniqueOf (unique false (codes "To:")))
  pub last_stays : one (codes "-UTo:") ≡ only (UniqueOf (unique true (codes "To:")))
  pub take_nothing : two (codes "-x") [] ≡ None
  pub take_nothing_whole : two (codes "-X") [] ≡ None
  pub first_of_nothing : two (codes "-u") [] ≡ None
  pub last_of_nothing : two (codes "-U") [] ≡ None
  -- `-i`, `-I`, `-a` and `-A`: a field, or for the first two a bare name
  pub old : one (codes "-iA: x") ≡ only (PutOf (put Old (codes "A: x")))
  pub replaced : one (codes "-IA:x") ≡ only (PutOf (put Replace (codes "A:x")))
  pub if_none : one (codes "-aA: x") ≡ only (PutOf (put IfNone (codes "A: x")))
  pub always : one (codes "-AA: x") ≡ only (PutOf (put Always (codes "A: x")))
  pub bare_old : one (codes "-iA") ≡ only (PutOf (put Old (codes "A")))
  pub bare_replaced : one (codes "-IA~") ≡ only (PutOf (put Replace (codes "A~")))
  pub bare_if_none : one (codes "-aA") ≡ None
  pub bare_always : one (codes "-AA") ≡ None
  pub line_removed : one (codes "-IFrom ") ≡ only (PutOf (put Replace (codes "From ")))
  pub line_added : one (codes "-aFrom ") ≡ None
  pub blank_in_a_name : one (codes "-IA B") ≡ None
  pub byte_127_in_a_name : one (codes "-IA" ++ 127 ∷ []) ≡ None
  pub byte_127_in_a_field : one (codes "-AA" ++ 127 ∷ codes ": x") ≡ None
  pub no_name : one (codes "-i:x") ≡ None
  pub put_nothing : two (codes "-i") [] ≡ None
  pub folded : one (codes "-AA: x\n y\n\tz") ≡ only (PutOf (put Always (codes "A: x\n y\n\tz")))
  pub two_fields : one (codes "-AA: x\nB: y") ≡ None
  pub last_newline : one (codes "-AA: x\n") ≡ None
  -- `-R`: two texts
  pub renamed : two (codes "-RA:") (codes "B:") ≡ only (RenameOf (rename (codes "A:") (codes "B:")))
  pub renamed_next : three (codes "-R") (codes "A") (codes "B") ≡ only (RenameOf (rename (codes "A") (codes "B")))
  pub renamed_folded : two (codes "-RA:") (codes "B:\n ") ≡ only (RenameOf (rename (codes "A:") (codes "B:\n ")))
  pub new_name_is_wanting : two (codes "-R") (codes "A:") ≡ None
  pub old_name_is_empty : three (codes "-R") [] (codes "B:") ≡ None
  pub new_name_is_empty : two (codes "-RA:") [] ≡ None
  pub new_name_is_a_field : two (codes "-RA:") (codes "B: x\nC:") ≡ None
  -- `-D`: 1 to 1,048,576 in at most 7 digits, and a name
  pub cache_here : two (codes "-D8192") (codes "c") ≡ only (cache_of 8_192 (codes "c"))
  pub cache_next : three (codes "-D") (codes "1") (codes "c") ≡ only (cache_of 1 (codes "c"))
  pub largest_cache : two (codes "-D1048576") (codes "c") ≡ only (cache_of 1_048_576 (codes "c"))
  pub seven_digits : two (codes "-D0000007") (codes "c") ≡ only (cache_of 7 (codes "c"))
  pub eight_digits : two (codes "-D00000007") (codes "c") ≡ None
  pub no_room : two (codes "-D0") (codes "c") ≡ None
  pub too_much_room : two (codes "-D1048577") (codes "c") ≡ None
  pub no_number : two (codes "-Dx") (codes "c") ≡ None
  pub no_cache : two (codes "-D8") [] ≡ None
  pub byte_0_in_a_cache : two (codes "-D8") (99 ∷ 0 ∷ []) ≡ None
  pub cache_is_wanting : one (codes "-D8") ≡ None
  -- `+N` and `-N`: 1 to 9 digits
  pub skip_one : one (codes "+1") ≡ only (Skip 1)
  pub skip_most : one (codes "+123456789") ≡ only (Skip 123_456_789)
  pub skip_ten_digits : one (codes "+0123456789") ≡ None
  pub skip_nothing : one (codes "+") ≡ None
  pub skip_letters : one (codes "+1s") ≡ None
  pub total_of_none : one (codes "-0") ≡ only (Total 0)
  pub total_most : one (codes "-999999999") ≡ only (Total 999_999_999)
  pub total_ten_digits : one (codes "-0123456789") ≡ None
  pub total_letters : one (codes "-1s") ≡ None
  -- `-s` is the last letter of its argument, and all arguments after it are the program's
  pub split_alone : one (codes "-s") ≡ only Split
  pub split_last : one (codes "-fs") ≡ Some (KeepFrom ∷ Split ∷ [])
  pub split_not_last : one (codes "-sf") ≡ None
  pub program_after : settings_of (codes "-s" ∷ codes "p" ∷ codes "-x" ∷ [] ∷ codes "+1" ∷ [])
      ≡ Some (Split ∷ Program (codes "p") ∷ Argument (codes "-x") ∷ Argument [] ∷ Argument (codes "+1") ∷ [])
  pub no_program : two (codes "-s") [] ≡ None
  pub byte_0_in_a_program : two (codes "-s") (112 ∷ 0 ∷ []) ≡ None
  pub byte_0_in_an_argument : three (codes "-s") (codes "p") (0 ∷ []) ≡ None
  -- what they ask for together
  pub nothing_asked : request_for [] ≡ Some nothing
  pub plain_edits : nothing.edits ≡ plain
  pub letters_asked : request_for (codes "-czfbk" ∷ [])
      ≡ Some (record nothing {
        edits = record plain { join = true; zap = true; keep_from = true; keep_body = true; with_body = true };
      })
  pub last_prefix_counts : request_for (codes "-p1" ∷ codes "-p2" ∷ [])
      ≡ Some (record nothing { edits = record plain { prefix = codes "2" } })
  pub taken_in_order : request_for (codes "-xA" ∷ codes "-XB" ∷ [])
      ≡ Some (record nothing {
        edits = record plain { takes = extract false (codes "A") ∷ extract true (codes "B") ∷ [] };
      })
  pub put_in_order : request_for (codes "-AA: 1" ∷ codes "-IB:" ∷ [])
      ≡ Some (record nothing {
        edits = record plain { puts = put Always (codes "A: 1") ∷ put Replace (codes "B:") ∷ [] };
      })
  pub unique_in_order : request_for (codes "-uA" ∷ codes "-UB" ∷ [])
      ≡ Some (record nothing {
        edits = record plain { uniques = unique false (codes "A") ∷ unique true (codes "B") ∷ [] };
      })
  pub renamed_in_order : request_for (codes "-RA" ∷ codes "B" ∷ codes "-RC" ∷ codes "D" ∷ [])
      ≡ Some (record nothing {
        edits = record plain { renames = rename (codes "A") (codes "B") ∷ rename (codes "C") (codes "D") ∷ [] };
      })
  pub reply_asked : request_for (codes "-r" ∷ []) ≡ Some replying
  pub trust_asked : request_for (codes "-t" ∷ codes "-r" ∷ []) ≡ Some (record replying { trust = true })
  pub cache_asked : request_for (codes "-D8" ∷ codes "c" ∷ [])
      ≡ Some (record nothing { cache = Some (record { most = 8; name = codes "c" }) })
  pub range_asked : request_for (codes "+1" ∷ codes "-2" ∷ codes "-s" ∷ [])
      ≡ Some (record splitting { skip = 1; total = Some 2 })
  pub program_asked : request_for (codes "-s" ∷ codes "p" ∷ codes "a" ∷ codes "b" ∷ [])
      ≡ Some (record splitting { program = Some (codes "p"); arguments = codes "a" ∷ codes "b" ∷ [] })
  -- what can't be asked for together
  pub skip_without_split : request_for (codes "+1" ∷ []) ≡ None
  pub total_without_split : request_for (codes "-1" ∷ []) ≡ None
  pub two_skips : request_for (codes "+1" ∷ codes "+1" ∷ codes "-s" ∷ []) ≡ None
  pub two_totals : request_for (codes "-1" ∷ codes "-1" ∷ codes "-s" ∷ []) ≡ None
  pub trust_without_reply : request_for (codes "-t" ∷ []) ≡ None
  pub taken_from_a_reply : request_for (codes "-rxTo" ∷ []) ≡ None
  pub taken_whole_from_a_reply : request_for (codes "-rXTo" ∷ []) ≡ None
  pub renamed_in_a_reply : request_for (codes "-rRA" ∷ codes "B" ∷ []) ≡ None
  pub put_into_a_reply : request_for (codes "-rA" ∷ codes "A: 1" ∷ [])
      ≡ Some (record replying { edits = record plain { puts = put Always (codes "A: 1") ∷ [] } })
  pub beside_a_cache :
      request_for (codes "-rfbD8" ∷ codes "c" ∷ codes "+1" ∷ codes "-2" ∷ codes "-s" ∷ codes "p" ∷ codes "a" ∷ [])
      ≡ Some (record {
        edits = record plain { keep_from = true; keep_body = true };
        reply = true;
        trust = false;
        split = true;
        cache = Some (record { most = 8; name = codes "c" });
        skip = 1;
        total = Some 2;
        program = Some (codes "p");
        arguments = codes "a" ∷ [];
      })
  pub two_caches : request_for (codes "-D8" ∷ codes "c" ∷ codes "-D8" ∷ codes "c" ∷ []) ≡ None
  pub joined_cache : request_for (codes "-cD8" ∷ codes "c" ∷ []) ≡ None
  pub zapped_cache : request_for (codes "-zD8" ∷ codes "c" ∷ []) ≡ None
  pub cache_with_body : request_for (codes "-kD8" ∷ codes "c" ∷ []) ≡ None
  pub cache_with_prefix : request_for (codes "-p1" ∷ codes "-D8" ∷ codes "c" ∷ []) ≡ None
  pub taken_with_cache : request_for (codes "-xTo" ∷ codes "-D8" ∷ codes "c" ∷ []) ≡ None
  pub put_with_cache : request_for (codes "-IA" ∷ codes "-D8" ∷ codes "c" ∷ []) ≡ None
  pub unique_with_cache : request_for (codes "-uA" ∷ codes "-D8" ∷ codes "c" ∷ []) ≡ None
  pub renamed_with_cache : request_for (codes "-RA" ∷ codes "B" ∷ codes "-D8" ∷ codes "c" ∷ []) ≡ None
  pub trusted_with_cache : request_for (codes "-rtD8" ∷ codes "c" ∷ []) ≡ None
  -- the mails, and what is remembered of them
  pub one_mail : mails_of nothing a_and_b ≡ a_and_b ∷ []
  pub two_mails : mails_of splitting a_and_b ≡ from_a ∷ from_b ∷ []
  pub second_mail : mails_of (record splitting { skip = 1; total = Some 1 }) a_and_b ≡ from_b ∷ []
  pub no_mails : mails_of splitting [] ≡ []
  pub identifiers : ids_of nothing (codes "Message-ID: <1@x>\n\n" ∷ from_a ∷ []) ≡ Some (codes "<1@x>") ∷ None ∷ []
  pub senders : ids_of replying (codes "Message-ID: <1@x>\n\n" ∷ from_a ∷ []) ≡ None ∷ Some (codes "a") ∷ []
  pub doubles_left_out : kept_of (true ∷ false ∷ true ∷ []) (codes "a" ∷ codes "b" ∷ codes "c" ∷ [])
      ≡ codes "a" ∷ codes "c" ∷ []
  pub some_is_kept : kept_status (false ∷ true ∷ []) ≡ 1
  pub none_is_kept : kept_status (false ∷ false ∷ []) ≡ 0
  -- when the moment is asked for
  pub line_in_front : sender_of_output nothing (codes "A: 1\n\n") ≡ Some (codes "unknown")
  pub no_line_in_front : sender_of_output nothing from_a ≡ None
  pub no_line_before_a_reply : sender_of_output replying (codes "A: 1\n\n") ≡ None
  pub moment_for_the_second : wants_moment nothing (from_a ∷ codes "A: 1\n\n" ∷ []) ≡ true
  pub no_moment : wants_moment nothing (from_a ∷ from_b ∷ []) ≡ false
  -- what is written
  pub mail_written : written [] (codes "From a\nA: 1\n\nFrom b") ≡ Some (codes "From a\nA: 1\n\n>From b\n\n")
  pub reply_written : written (codes "-rt" ∷ []) (codes "From a@b\nReply-To: j@y\nSubject: hi\n\nb\n")
      ≡ Some (codes "To: j@y\nSubject: Re: hi\n\n")
  pub mailbox_written : written (codes "-s" ∷ []) a_and_b ≡ Some (codes "From a\nA: 1\n\nx\n\nFrom b\nB: 2\n\ny\n\n")
  pub taken_in_one_argument : written (codes "-zxA" ∷ []) from_a ≡ Some (codes "1\n")
  pub dated : outputs_of nothing (pos 86_405) (codes "A: 1\n\n" ∷ [])
      ≡ codes "From unknown Fri Jan  2 00:00:05 1970\nA: 1\n\n"
  pub nothing_forged : option_map parts_of (written (codes "-s" ∷ []) (codes "From a\n\nx\nFrom b\n\nFrom c\n"))
      ≡ Some (codes "From a\n\nx\n>From b\n\n" ∷ codes "From c\n\n" ∷ [])
  pub each_written : each_output_of splitting (pos 0) (from_a ∷ from_b ∷ [])
      ≡ from_a ∷ codes "From b\nB: 2\n\ny\n\n" ∷ []
  -- what a program is started with, and the status by what its children came to
  pub started : command_for (record { name = codes "A"; value = codes "1" } ∷ []) (codes "p") (codes "a" ∷ [])
      ≡ record {
        program = codes "p";
        args = codes "a" ∷ [];
        env = record { name = codes "A"; value = codes "1" } ∷ [];
        folder = codes ".";
      }
  pub fine_status : feed_status Fine ≡ 0
  pub amiss_status : feed_status Amiss ≡ 1
  pub failed_status : feed_status Failed ≡ 74
  -- the status by what came of a cache, of the input, of the arguments and of memory
  pub busy_status : Tells Busy 73
  pub folder_status : Tells IsFolder 73
  pub raced_status : Tells Raced 73
  pub cache_status : Tells CacheFailed 74
  pub short_status : (status count : ℕ) → IsWriteStatus status (Short count) → status ≡ 74
  pub unread_status : (words : List (List ℕ)) (vars : List Pair) (seen : Seen) → request_for words ≡ None
      → seen.source' ≡ seen.source → Untouched seen → Ended words vars 64 seen
  pub too_long_status : (words : List (List ℕ)) (vars : List Pair) (seen : Seen) (request : Request)
      → AsksFor words request → ReadPast seen.source seen.source' → Untouched seen → Ended words vars 65 seen
  pub lost_status : (words : List (List ℕ)) (vars : List Pair) (seen : Seen) (request : Request)
      → AsksFor words request → StopsFailed seen.source seen.source' → Untouched seen → Ended words vars 74 seen
  pub memory_status : (words : List (List ℕ)) (vars : List Pair) (seen : Seen) → Unwritten words seen
      → Ended words vars 71 seen
