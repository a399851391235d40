-- Short mails, what they are remembered by and whom a reply to them goes to, and short caches.
use Rattle.std.specs.Prelude.{◌≡◌, ℕ, true, false, Option, Some, None, List, [], ◌∷◌, ◌++◌, ◌*◌, codes}
use Rattle.std.specs.List.{filter, range_with_len}
use Rattle.pm_host.specs.declared.answers.Removed.TheVariants.{Removed as RemovedDone, Absent, Failed as RemoveFailed}
use Rattle.pm_journal.specs.declared.appending.AppendEnd.TheVariants.{Done as EndDone, Undone as EndUndone, Torn as EndTorn, IsFolder as EndFolder, Raced as EndRaced}
use Rattle.pm_message.specs.Split.{split_of}
use Rattle.formail_edit.specs.Examples.{plain, put}
use Rattle.formail_edit.specs.declared.edits.Edits.{Edits}
use Rattle.formail_edit.specs.declared.edits.PutKind.TheVariants.{Old, Replace, IfNone, Always}
use Rattle.formail_extra.specs.Adding.{written_of}
use Rattle.formail_extra.specs.Cache.{is_seen, longest_front, left_of, addition_to, next_of, is_kept, is_new, cache_after, marks_of}
use Rattle.formail_extra.specs.Reply.{ends_address, recipient, envelope_of, reply_of}
use Rattle.formail_extra.specs.Seen.{line_of, identifier_of, longest_id}
use Rattle.formail_extra.specs.Stepping.{cache_at, cache_rule, end_of, given_back, step_end}
use Rattle.formail_extra.specs.Tree.{part_of}
use Rattle.formail_extra.specs.declared.adding.Written.TheVariants.{Done, IsFolder, Raced, Failed}
use Rattle.formail_extra.specs.declared.stepping.CacheEnd.TheVariants.{Kept, Busy, IsFolder as StepFolder, Failed as StepFailed, Memory, Raced as StepRaced}

-- what a mail is remembered by
abbrev pub id : List ℕ → Option (List ℕ)
id mail = identifier_of (split_of mail)

-- the four sources of an address
abbrev pub line : List ℕ
line = codes "From e@x Thu Jan  1 00:00:00 1970\n"

abbrev pub path : List ℕ
path = codes "Return-Path: <r@x>\n"

abbrev pub answers : List ℕ
answers = codes "Reply-To: p@x\n"

abbrev pub author : List ℕ
author = codes "From: f@x\n"

-- whom a reply to a mail with these fields goes to, and under `-t`
abbrev pub to : List (List ℕ) → List ℕ
to fields = recipient fields false

abbrev pub trusted : List (List ℕ) → List ℕ
trusted fields = recipient fields true

-- the header of a reply
abbrev pub reply : Edits → List ℕ → List ℕ
reply edits mail = reply_of (split_of mail) false edits

abbrev pub mail : List ℕ
mail = codes "From: a@b\nSubject: hi\nMessage-ID: <1@x>\nReferences: <0@x>\nX-Loop: me\n\nFrom here\n"

-- the same fields with these at their end, and the newline that ends a header
abbrev pub ending : List ℕ → List ℕ
ending fields =
    codes "To: a@b\nSubject: Re: hi\nReferences: <0@x> <1@x>\nIn-Reply-To: <1@x>\nX-Loop: me\n" ++ fields ++ codes "\n"

-- an identifier, and a cache that has `<a@x>` alone
abbrev pub a : List ℕ
a = codes "<a@x>"

abbrev pub b : List ℕ
b = codes "<b@x>"

abbrev pub has_a : List ℕ
has_a = codes "<a@x>\n"

-- what holds of them
pub record Examples : Type 0 where
  -- a content in one line: a newline with the blank after it becomes a blank, and none stand at its ends
  pub folded : line_of (codes " a\n b\n\tc \t\n") ≡ codes "a b c"
  pub blanks_inside : line_of (codes "a  b\n  c\n") ≡ codes "a  b  c"
  pub without_newline : line_of (codes "\ta") ≡ codes "a"
  -- the identifier: the first `Message-ID:`, where it has content
  pub identifier : id (codes "A: 1\nMessage-Id:  <b@x>\n (old)\n\nhi\n") ≡ Some (codes "<b@x> (old)")
  pub first_identifier : id (codes "Message-ID: <b@x>\nMessage-ID: <a@x>\n\n") ≡ Some b
  pub first_is_empty : id (codes "Message-ID: \nMessage-ID: <a@x>\n\n") ≡ None
  pub longer_name : id (codes "X-Message-ID: <a@x>\nMessage-ID : <a@x>\n\n") ≡ None
  pub in_the_body : id (codes "A: 1\n\nMessage-ID: <a@x>\n") ≡ None
  -- of which 4,096 bytes count
  pub most_of_identifier : longest_id ≡ 4 * 1024
  -- whom a reply goes to: the first of these that is there, `Return-Path:`, the line `From `, `Reply-To:` and `From:`
  pub by_path : to (line ∷ author ∷ answers ∷ path ∷ []) ≡ codes "r@x"
  pub by_line : to (line ∷ author ∷ answers ∷ []) ≡ codes "e@x"
  pub by_answers : to (author ∷ answers ∷ []) ≡ codes "p@x"
  pub by_author : to (author ∷ []) ≡ codes "f@x"
  pub by_nobody : to (codes "Sender: s@x\n" ∷ []) ≡ codes "unknown"
  -- and under `-t` the first of `Reply-To:`, `From:`, `Return-Path:` and the line `From `
  pub trusted_answers : trusted (line ∷ path ∷ author ∷ answers ∷ []) ≡ codes "p@x"
  pub trusted_author : trusted (line ∷ path ∷ author ∷ []) ≡ codes "f@x"
  pub trusted_path : trusted (line ∷ path ∷ []) ≡ codes "r@x"
  pub trusted_line : trusted (line ∷ []) ≡ codes "e@x"
  pub trusted_nobody : trusted [] ≡ codes "unknown"
  -- one that has no address is passed over; of several of a name the first is asked alone
  pub empty_path : to (line ∷ codes "Return-Path: <>\n" ∷ []) ≡ codes "e@x"
  pub second_path : to (line ∷ codes "Return-Path: <>\n" ∷ path ∷ []) ≡ codes "e@x"
  pub blank_in_an_address : to (codes "Reply-To: <p x>\n" ∷ author ∷ []) ≡ codes "f@x"
  pub control_in_an_address : to ((codes "Reply-To: p" ++ 7 ∷ codes "\n") ∷ author ∷ []) ≡ codes "f@x"
  pub no_line_but_the_first : to (author ∷ line ∷ []) ≡ codes "f@x"
  -- an address stands in brackets, or ends at a blank, a newline or `(`
  pub in_brackets : to (codes "From: Joe <j@x> <k@x>\n" ∷ []) ≡ codes "j@x"
  pub open_brackets : to (codes "From: <j@x\n" ∷ []) ≡ codes "<j@x"
  pub comment : to (codes "From: j@x(Joe)\n" ∷ []) ≡ codes "j@x"
  pub comment_after_a_blank : to (codes "From:\tj@x (Joe)\n" ∷ []) ≡ codes "j@x"
  pub folded_address : to (codes "From: j@x\n (Joe)\n" ∷ []) ≡ codes "j@x"
  pub ends : filter ends_address (range_with_len 0 256) ≡ codes "\t\n ("
  pub other_bytes : to (codes "From: !j)@x,\n" ∷ []) ≡ codes "!j)@x,"
  pub comment_alone : to (codes "From: (Joe)\n" ∷ []) ≡ codes "unknown"
  -- of the line `From ` it is the word, whatever its bytes are
  pub brackets_in_the_line : to (codes "From  <e@x>(1) Thu\n" ∷ []) ≡ codes "<e@x>(1)"
  pub word_alone : to (codes "From e\n" ∷ []) ≡ codes "e"
  pub no_word : to (codes "From \n" ∷ author ∷ []) ≡ codes "f@x"
  -- the same without `unknown`
  pub envelope : envelope_of (split_of (codes "From e@x\nFrom: f@x\n\n")) ≡ Some (codes "e@x")
  pub envelope_is_wanting : envelope_of (split_of (codes "A: 1\n\n")) ≡ None
  -- the fields of a reply, each where it is due
  pub all_fields : reply plain mail ≡ ending []
  pub no_field : reply plain (codes "A: 1\n\n") ≡ codes "To: unknown\n\n"
  pub empty_mail : reply plain [] ≡ codes "To: unknown\n\n"
  pub empty_subject : reply plain (codes "Subject: \n\n") ≡ codes "To: unknown\n\n"
  pub folded_subject : reply plain (codes "Subject: a\n b\n\n") ≡ codes "To: unknown\nSubject: Re: a b\n\n"
  pub answers_already : reply plain (codes "Subject: rE:x\n\n") ≡ codes "To: unknown\nSubject: rE:x\n\n"
  pub re_without_colon : reply plain (codes "Subject: Re x\n\n") ≡ codes "To: unknown\nSubject: Re: Re x\n\n"
  pub re_after_a_blank : reply plain (codes "Subject: Re : x\n\n") ≡ codes "To: unknown\nSubject: Re: Re : x\n\n"
  pub numbered_re : reply plain (codes "Subject: Re[2]: x\n\n") ≡ codes "To: unknown\nSubject: Re: Re[2]: x\n\n"
  pub references_alone : reply plain (codes "References: <0@x>\n\n") ≡ codes "To: unknown\nReferences: <0@x>\n\n"
  pub identifier_alone : reply plain (codes "Message-ID: <1@x>\n\n")
      ≡ codes "To: unknown\nReferences: <1@x>\nIn-Reply-To: <1@x>\n\n"
  -- each `X-Loop:` stays, and what an `-i` without content means
  pub loops_stay : reply plain (codes "X-Loop: 1\nA: 2\nx-loop: 3\nX-Looped: 4\n\n")
      ≡ codes "To: unknown\nX-Loop: 1\nx-loop: 3\n\n"
  pub old_stays : reply (record plain { puts = put Old (codes "A") ∷ [] }) (codes "Ab: 1\nB: 2\na: 3\nX-Loop: 4\n\n")
      ≡ codes "To: unknown\nAb: 1\na: 3\nX-Loop: 4\n\n"
  pub old_stays_once : reply (record plain { puts = put Old (codes "A:") ∷ put Old (codes "a") ∷ [] }) (codes "A: 1\n\n")
      ≡ codes "To: unknown\nA: 1\n\n"
  -- the other edits act on the fields of the reply
  pub old_with_content : reply (record plain { puts = put Old (codes "Subject: x") ∷ [] }) mail
      ≡ codes "To: a@b\nOld-Subject: Re: hi\nReferences: <0@x> <1@x>\nIn-Reply-To: <1@x>\nX-Loop: me\nSubject: x\n\n"
  pub replaced : reply (record plain { puts = put Replace (codes "X-Loop:") ∷ [] }) mail
      ≡ codes "To: a@b\nSubject: Re: hi\nReferences: <0@x> <1@x>\nIn-Reply-To: <1@x>\n\n"
  pub added : reply (record plain { puts = put Always (codes "X-Loop: 2") ∷ [] }) mail ≡ ending (codes "X-Loop: 2\n")
  pub not_added : reply (record plain { puts = put IfNone (codes "X-Loop: 2") ∷ [] }) mail ≡ ending []
  pub unique : reply (record plain { uniques = record { last = true; name = codes "X-Loop:" } ∷ [] })
      (codes "X-Loop: 1\nX-Loop: 2\n\n")
      ≡ codes "To: unknown\nX-Loop: 2\n\n"
  pub joined_and_zapped : reply (record plain { join = true; zap = true }) (codes "X-Loop:1\n 2\nX-Loop: \n\n")
      ≡ codes "To: unknown\nX-Loop: 1 2\n\n"
  -- under `-k` the body follows
  pub body : reply (record plain { with_body = true }) mail ≡ ending [] ++ codes ">From here\n"
  pub body_as_it_is : reply (record plain { with_body = true; keep_body = true }) mail
      ≡ ending [] ++ codes "From here\n"
  -- an identifier was seen where it is a whole line of the cache, in its first 2,097,152 bytes
  pub seen : is_seen has_a a ≡ true
  pub seen_later : is_seen (codes "<b@x>\n<a@x>\n") a ≡ true
  pub seen_without_newline : is_seen a a ≡ false
  pub seen_in_part : is_seen (codes "<a@x> b\n a@x\n") a ≡ false
  pub other_case : is_seen (codes "<A@x>\n") a ≡ false
  pub most_of_cache : longest_front ≡ 2 * 1024 * 1024
  pub empty_cache : is_seen [] a ≡ false
  -- a mail without an identifier is kept, and isn't new
  pub new_is_kept : is_kept has_a (Some b) ≡ true
  pub known_is_left_out : is_kept has_a (Some a) ≡ false
  pub without_one_is_kept : is_kept has_a None ≡ true
  pub new_one : is_new has_a (Some b) ≡ true
  pub known_one : is_new has_a (Some a) ≡ false
  pub none_is_not_new : is_new has_a None ≡ false
  -- a cache that has so many bytes begins with nothing, and an open line is ended
  pub full : left_of 6 has_a ≡ []
  pub a_byte_less : left_of 7 has_a ≡ has_a
  pub first_addition : addition_to [] b ≡ codes "<b@x>\n"
  pub after_a_line : addition_to has_a b ≡ codes "<b@x>\n"
  pub after_an_open_line : addition_to (codes "<a@") b ≡ codes "\n<b@x>\n"
  pub next : next_of 8_192 has_a b ≡ codes "<a@x>\n<b@x>\n"
  pub next_of_a_full_one : next_of 3 (codes "<a@") b ≡ codes "<b@x>\n"
  pub known_adds_nothing : cache_after 6 has_a (Some a) ≡ has_a
  pub none_adds_nothing : cache_after 6 has_a None ≡ has_a
  pub new_is_added : cache_after 7 has_a (Some b) ≡ codes "<a@x>\n<b@x>\n"
  -- several mails, each held against those before it too
  pub seen_in_the_same_mailbox : marks_of 8_192 [] (Some a ∷ None ∷ Some a ∷ [])
      ≡ record { kept = true ∷ true ∷ false ∷ []; cache = has_a }
  pub begins_again_in_the_middle : marks_of 7 has_a (Some b ∷ Some (codes "<c@x>") ∷ Some b ∷ [])
      ≡ record { kept = true ∷ true ∷ true ∷ []; cache = codes "<c@x>\n<b@x>\n" }
  pub dropped_is_new_again : marks_of 6 has_a (Some b ∷ Some a ∷ [])
      ≡ record { kept = true ∷ true ∷ []; cache = has_a }
  -- an addition that is broken off
  pub broken_off : part_of 8_192 has_a b 3 ≡ codes "<a@x>\n<b@"
  pub broken_off_after_a_cut : part_of 6 has_a b 3 ≡ codes "<b@"
  pub cut_alone : part_of 6 has_a b 0 ≡ []
  pub broken_off_after_the_newline : part_of 8_192 (codes "x") b 1 ≡ codes "x\n"
  -- the lock of a cache
  pub lock : (cache_at (codes "c") 8_192).lock ≡ codes "c.lock"
  pub rule : cache_rule ≡ record { sleep = 8; limit = 1_024; suspend = 16; tries = 1_000 }
  -- how an addition ended, by its append, and the whole, by that and by the removal of the lock file
  pub synced : written_of EndDone ≡ Done
  pub taken_back : written_of EndUndone ≡ Failed
  pub left_in_part : written_of (EndTorn 3) ≡ Failed
  pub at_a_directory : written_of EndFolder ≡ IsFolder
  pub made_by_others : written_of EndRaced ≡ Raced
  pub all_added : end_of Done (true ∷ []) ≡ Kept (true ∷ [])
  pub not_added_to_a_directory : end_of IsFolder (true ∷ []) ≡ StepFolder
  pub not_added_by_others : end_of Raced (true ∷ []) ≡ StepRaced
  pub not_all_added : end_of Failed (true ∷ []) ≡ StepFailed
  pub lock_removed : given_back RemovedDone Busy ≡ Busy
  pub lock_was_gone : given_back Absent (Kept []) ≡ Kept []
  pub lock_is_left : given_back RemoveFailed (Kept []) ≡ StepFailed
  pub made : step_end Busy ≡ Some Busy
  pub not_made : step_end Memory ≡ None
