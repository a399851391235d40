-- A recipe delivers to mailboxes for good only where each of them got the mail.
use Rattle.std.proofs.Common.{◌≡◌, ℕ, Bool, true, false, not, List, [], ◌∷◌, ◌++◌, Option, Some, None, refl, sym, ap, ◌∙◌, append_assoc, subst}
use Rattle.std.specs.Prelude.{if◌then◌else◌, map}
use Rattle.pm_recipe.specs.declared.tree.Flags.{Flags}
use Rattle.pm_subst.specs.Commands.{commands_in}
use Rattle.pm_subst.specs.Words.{words_in}
use Rattle.pm_subst.specs.declared.kinds.Mode.TheVariants.{One, Many}
use Rattle.pm_journal.specs.declared.acts.Entry.{Entry}
use Rattle.pm_journal.specs.Held.{without}
use Rattle.pm_journal.specs.Locking.{lock_act}
use Rattle.pm_journal.specs.declared.locking.LockRule.{LockRule}
use Rattle.pm_journal.specs.declared.acts.Reply.{Reply}
use Rattle.pm_journal.specs.declared.acts.Reply.TheVariants.{Held}
use Rattle.pm_journal.specs.Plan.{Plan, Ends, Plays}
use Rattle.pm_meaning.specs.Abstracts.{copy_lines}
use Rattle.pm_meaning.specs.Minds.{Mind}
use Rattle.pm_meaning.specs.Turns.{ActEnd, is_for_good, for_good, refuse_act, is_too_long, skip_act}
use Rattle.pm_meaning.specs.Assigning.{value_in}
use Rattle.pm_meaning.specs.Locks.{is_fault, text_or, rule_of, lock_word, blamed_text, is_lock_word, full_lock, is_taken, any_held, with_lock}
use Rattle.pm_meaning.specs.Delivering.{mailbox_piece, folder_piece, Filing, file_all, Attempted, give_back, under_lock, attempt, attempt_lines, all_stored, filed_acted, attempt_acted, say_each, is_done, settled, after_attempt, file_and_say, deliver_at, deliver_named, is_without, deliver_to, deliver_text, Ready, deliver_with, make_ready, deliver}
use Rattle.pm_meaning.specs.Destinations.{destination_of, full_of, are_file_texts}
use Rattle.pm_meaning.specs.Laws.{AllHave}
use Rattle.pm_meaning.specs.RunLaws.{IsGot, IsGiven, AreLines, IsFiled}
use Rattle.pm_meaning.specs.declared.process.Destination.{Destination}
use Rattle.pm_meaning.specs.declared.process.Attempt.TheVariants.{Unlocked, Locked}
use Rattle.pm_meaning.specs.declared.process.Filed.{Filed}
use Rattle.pm_meaning.specs.declared.process.Filed.TheVariants.{Stored, Unwritten, Raced, Left, Crowded, Unnamed}
use Rattle.pm_meaning.specs.declared.acted.Cause.TheVariants as cause
use Rattle.pm_meaning.specs.declared.acted.Acted.TheVariants.{Delivered, CopyDone}
use Rattle.pm_journal.proofs.WalkJoin.{parts_of}
use Rattle.pm_meaning.proofs.StoredDone.{stored_is_done}
use Rattle.pm_meaning.proofs.Lines.{told_of, lines_join}
use Rattle.pm_meaning.proofs.NoDelivery.{never_failed, never_too_long}

-- what a delivery for good did, in its own entries
pub record DeliversHere (flags : Flags) (words : List (List ℕ)) (p : Mind) (es : List Entry) : Type 0 where
  pub final : flags.copy ≡ false
  pub usable : are_file_texts words ≡ true
  pub filed : IsFiled flags (map destination_of words) p es

-- the commands of the texts were run, and the mail was delivered with their outputs
pub record DeliversReady (flags : Flags) (lock : Option (List ℕ)) (text : List ℕ) (p : Mind) (es : List Entry) : Type 0 where
  pub ran : List Entry
  pub last : List Entry
  pub whole : es ≡ ran ++ last
  pub ready : Ready
  pub runs : Plays (make_ready (commands_in One (text_or [] lock)) (commands_in Many text) p) ran ready
  pub here : DeliversHere flags (words_in Many ready.mind.vars ready.outputs text) ready.mind last

final_copy : (b : Bool) → is_for_good (if b then CopyDone else Delivered) ≡ true → b ≡ false
final_copy true e = let f : false ≡ true = e in absurd (cc)
final_copy false e = refl

-- all destinations have the mail, for good
record IsFinal (flags : Flags) (filed : Filed) : Type 0 where
  stored : filed ≡ Stored
  final : flags.copy ≡ false

final_filed : (flags : Flags) (filed : Filed) → is_for_good (filed_acted flags filed) ≡ true → IsFinal flags filed
final_filed flags Stored e = record { stored = refl; final = final_copy flags.copy e }
final_filed flags Unnamed e = let f : false ≡ true = e in absurd (cc)
final_filed flags (Crowded name) e = let f : false ≡ true = e in absurd (cc)
final_filed flags (Unwritten name) e = let f : false ≡ true = e in absurd (cc)
final_filed flags (Raced name) e = let f : false ≡ true = e in absurd (cc)
final_filed flags (Left name count) e = let f : false ≡ true = e in absurd (cc)

-- lines are told, and nothing else is done
pub record IsSaid {R : Type 0} (next last : R) (es : List Entry) : Type 0 where
  pub lines : AreLines es
  pub same : last ≡ next

pub all_said : {R : Type 0} (p : Mind) (lines : List (List ℕ)) (next last : R) (es : List Entry) → Plays (say_each p lines next) es last → IsSaid next last es
all_said p [] next last [] h = record { lines = tt; same = h }
all_said p [] next last (e ∷ es) h = absurd h
all_said p (line ∷ lines) next last es h =
    let k = told_of line p (λ done. say_each p lines next) es last h in
    let l = all_said p lines next last k.rest k.plays in
    record { lines = subst AreLines (sym k.whole) (lines_join k.told k.rest k.are_lines l.lines); same = l.same }

-- what an attempt did that delivered for good
record Files (flags : Flags) (ds : List Destination) (p : Mind) (es : List Entry) : Type 0 where
  final : flags.copy ≡ false
  lock : Option (List ℕ)
  got : List Entry
  deliveries : List Entry
  given : List Entry
  whole : es ≡ got ++ (deliveries ++ given)
  is_got : IsGot lock got
  done : AllHave p.base (mailbox_piece flags p) (folder_piece flags p) ds deliveries
  is_given : IsGiven lock given

-- what an attempt came to
abbrev came_of : Flags → Attempted → ActEnd
came_of flags done = record { acted = attempt_acted flags done.attempt; mind = settled done.attempt done.mind }

unlocked_end : (flags : Flags) (ds : List Destination) (p : Mind) (es : List Entry) (done : Attempted) (filing : Filing) (front rest : List Entry) → es ≡ front ++ rest
    → Plays (file_all flags ds p) front filing → Plays (Ends (record { attempt = Unlocked filing.filed; mind = filing.mind })) rest done → for_good (came_of flags done) ≡ true → Files flags ds p es
unlocked_end flags ds p es done filing front [] whole h k passes =
    let final = final_filed flags filing.filed (sym (ap (λ d. for_good (came_of flags d)) k) ∙ passes) in
    record { final = final.final; lock = None; got = []; deliveries = front; given = []; whole = whole; is_got = refl; done = stored_is_done flags ds p front filing h final.stored; is_given = refl }
unlocked_end flags ds p es done filing front (e ∷ rest) whole h k passes = absurd k

unlocked_files : (flags : Flags) (ds : List Destination) (p : Mind) (es : List Entry) (done : Attempted) → Plays (attempt None flags ds p) es done → for_good (came_of flags done) ≡ true → Files flags ds p es
unlocked_files flags ds p es done h passes =
    let f : Filing → Plan Attempted = λ filing. Ends (record { attempt = Unlocked filing.filed; mind = filing.mind }) in
    let k = parts_of (file_all flags ds p) f es done h in
    unlocked_end flags ds p es done k.middle k.front k.rest k.whole k.plays_front k.plays_rest passes

-- the lock was given back, and nothing else was done
given_end : (flags : Flags) (name : List ℕ) (forced : ℕ) (filing : Filing) (es : List Entry) (done : Attempted) → Plays (give_back name forced filing) es done → for_good (came_of flags done) ≡ true
    → IsGiven (Some name) es × IsFinal flags filing.filed
given_end flags name forced filing [] done h passes = absurd h
given_end flags name forced filing (e ∷ []) done h passes =
    ((h.0, refl), final_filed flags filing.filed (sym (ap (λ d. for_good (came_of flags d)) h.2) ∙ passes))
given_end flags name forced filing (e ∷ f ∷ es) done h passes = absurd h.2

locked_end : (flags : Flags) (ds : List Destination) (p : Mind) (name : List ℕ) (rule : LockRule) (e : Entry) (es : List Entry) (done : Attempted) (reply : Reply) → e.act ≡ lock_act name rule → e.reply ≡ reply
    → Plays (under_lock name flags ds p reply) es done → for_good (came_of flags done) ≡ true → Files flags ds p (e ∷ es)
locked_end flags ds p name rule e es done (Held sleeps forced) act is h passes =
    let k = parts_of (file_all flags ds (with_lock name p)) (give_back name forced) es done h in
    let given = given_end flags name forced k.middle k.rest done k.plays_rest passes in
    record {
      final = given.1.final;
      lock = Some name;
      got = e ∷ [];
      deliveries = k.front;
      given = k.rest;
      whole = ap (λ l. e ∷ l) k.whole;
      is_got = (rule, sleeps, forced, act, is, refl);
      done = stored_is_done flags ds (with_lock name p) k.front k.middle k.plays_front given.1.stored;
      is_given = given.0;
    }
locked_end flags ds p name rule e [] done other act is h passes =
    let no : false ≡ true = sym (ap (λ d. for_good (came_of flags d)) h) ∙ passes in absurd (cc)
locked_end flags ds p name rule e (f ∷ es) done other act is h passes = absurd h

attempt_files : (lock : Option (List ℕ)) (flags : Flags) (ds : List Destination) (p : Mind) (es : List Entry) (done : Attempted) → Plays (attempt lock flags ds p) es done → for_good (came_of flags done) ≡ true
    → Files flags ds p es
attempt_files None flags ds p es done h passes = unlocked_files flags ds p es done h passes
attempt_files (Some name) flags ds p [] done h passes = absurd h
attempt_files (Some name) flags ds p (e ∷ es) done h passes = locked_end flags ds p name (rule_of p.vars) e es done e.reply h.0 refl h.2 passes

regroup : (es front rest got deliveries given : List Entry) → es ≡ front ++ rest → front ≡ got ++ (deliveries ++ given) → es ≡ got ++ (deliveries ++ (given ++ rest))
regroup es front rest got deliveries given whole parts =
    whole ∙ ap (λ l. l ++ rest) parts ∙ append_assoc got (deliveries ++ given) rest ∙ ap (λ l. got ++ l) (append_assoc deliveries given rest)

filed_and_said : (flags : Flags) (lock : Option (List ℕ)) (text : List ℕ) (words : List (List ℕ)) (p : Mind) (es : List Entry) (end : ActEnd) → are_file_texts words ≡ true
    → Plays (file_and_say flags lock text (map destination_of words) p) es end → for_good end ≡ true → DeliversHere flags words p es
filed_and_said flags lock text words p es end usable h passes =
    let ds = map destination_of words in
    let k = parts_of (attempt lock flags ds p) (after_attempt flags text) es end h in
    let q = settled k.middle.attempt k.middle.mind in
    let said = all_said q (attempt_lines text k.middle.attempt ++ copy_lines (is_done k.middle.attempt) flags q) (came_of flags k.middle) end k.rest k.plays_rest in
    let files = attempt_files lock flags ds p k.front k.middle k.plays_front (ap for_good (sym said.same) ∙ passes) in
    record {
      final = files.final;
      usable = usable;
      filed = record {
        lock = files.lock;
        got = files.got;
        deliveries = files.deliveries;
        given = files.given;
        lines = k.rest;
        whole = regroup es k.front k.rest files.got files.deliveries files.given k.whole files.whole;
        is_got = files.is_got;
        done = files.done;
        is_given = files.is_given;
        are_lines = said.lines;
      };
    }

-- a choice that came to an end
pub if_last : {R : Type 0} (P : Type 0) (b : Bool) (p q : Plan R) (es : List Entry) (end : R) → (Plays p es end → P) → (Plays q es end → P) → Plays (if b then p else q) es end → P
if_last P true p q es end h k l = h l
if_last P false p q es end h k l = k l

delivered_at : (flags : Flags) (lock : Option (List ℕ)) (blamed text : List ℕ) (words : List (List ℕ)) (p : Mind) (es : List Entry) (end : ActEnd) → are_file_texts words ≡ true
    → Plays (deliver_at flags lock blamed text (map destination_of words) p) es end → for_good end ≡ true → DeliversHere flags words p es
delivered_at flags lock blamed text words p es end usable h passes =
    let P = DeliversHere flags words p es in
    let ds = map destination_of words in
    let filing = file_and_say flags lock text ds p in
    let free : Plan ActEnd = if any_held (map (full_of p.base) ds) p.locks then refuse_act cause.NameIsLock text p else filing in
    if_last P (is_taken lock (map (full_of p.base) ds) p.locks) (refuse_act cause.NameIsLock blamed p) free es end (λ l. absurd (never_failed cause.NameIsLock blamed p es end l passes))
    (if_last P (any_held (map (full_of p.base) ds) p.locks) (refuse_act cause.NameIsLock text p) filing es end (λ l. absurd (never_failed cause.NameIsLock text p es end l passes))
    (λ l. filed_and_said flags lock text words p es end usable l passes)) h

delivered_named : (flags : Flags) (word : Option (List ℕ)) (blamed text : List ℕ) (words : List (List ℕ)) (p : Mind) (es : List Entry) (end : ActEnd) → Plays (deliver_named flags word blamed text words p) es end → for_good end ≡ true
    → DeliversHere flags words p es
delivered_named flags word blamed text words p es end h passes =
    let last = deliver_at flags (full_lock p.base word) blamed text (map destination_of words) p in
    elim (are_file_texts words) as (λ b. are_file_texts words ≡ b → Plays (if not b then refuse_act cause.BadName text p else last) es end → DeliversHere flags words p es) [
      | true ↦ λ usable l. delivered_at flags (full_lock p.base word) blamed text words p es end usable l passes
      | false ↦ λ usable l. absurd (never_failed cause.BadName text p es end l passes)
    ] refl h

pub delivered_to : (flags : Flags) (lock : Option (List ℕ)) (value text : List ℕ) (words : List (List ℕ)) (p : Mind) (es : List Entry) (end : ActEnd) → Plays (deliver_to flags lock value text words p) es end → for_good end ≡ true
    → DeliversHere flags words p es
delivered_to flags lock value text words p es end h passes =
    let P = DeliversHere flags words p es in
    let word = lock_word lock value words p in
    let blamed = blamed_text lock text in
    let last = deliver_named flags word blamed text words p in
    let locks : Plan ActEnd = if not (is_lock_word word) then refuse_act cause.BadName blamed p else last in
    if_last P (is_without words) (refuse_act cause.NoWords text p) locks es end (λ l. absurd (never_failed cause.NoWords text p es end l passes))
    (if_last P (not (is_lock_word word)) (refuse_act cause.BadName blamed p) last es end (λ l. absurd (never_failed cause.BadName blamed p es end l passes))
    (λ l. delivered_named flags word blamed text words p es end l passes)) h

delivered_with : (flags : Flags) (lock : Option (List ℕ)) (text : List ℕ) (r : Ready) (es : List Entry) (end : ActEnd) → Plays (deliver_with flags lock text r) es end → for_good end ≡ true
    → DeliversHere flags (words_in Many r.mind.vars r.outputs text) r.mind es
delivered_with flags lock text r es end h passes =
    let p = r.mind in
    let words = words_in Many p.vars r.outputs text in
    let P = DeliversHere flags words p es in
    let held = text_or [] lock in
    let value = value_in p.vars r.lock_outputs held in
    let last = deliver_to flags lock value text words p in
    let texts = deliver_text flags lock value text r.outputs p in
    if_last P (is_too_long One held p.vars r.lock_outputs) (skip_act One held r.lock_outputs p) texts es end (λ l. absurd (never_too_long One held r.lock_outputs p es end l passes))
    (if_last P (is_too_long Many text p.vars r.outputs) (skip_act Many text r.outputs p) last es end (λ l. absurd (never_too_long Many text r.outputs p es end l passes))
    (λ l. delivered_to flags lock value text words p es end l passes)) h

pub delivered_by : (flags : Flags) (lock : Option (List ℕ)) (text : List ℕ) (p : Mind) (es : List Entry) (end : ActEnd) → Plays (deliver flags lock text p) es end → for_good end ≡ true → DeliversReady flags lock text p es
delivered_by flags lock text p es end h passes =
    let k = parts_of (make_ready (commands_in One (text_or [] lock)) (commands_in Many text) p) (λ ready. deliver_with flags lock text ready) es end h in
    record {
      ran = k.front;
      last = k.rest;
      whole = k.whole;
      ready = k.middle;
      runs = k.plays_front;
      here = delivered_with flags lock text k.middle k.rest end k.plays_rest passes;
    }
