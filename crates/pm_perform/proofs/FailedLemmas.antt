-- A default mailbox that didn't get the mail: where nothing hinders, nothing was delivered.
use Rattle.std.proofs.Common.{◌≡◌, inl, inr, ℕ, true, false, List, [], ◌∷◌, ◌++◌, Option, Some, refl, sym, ap, ◌∙◌, append_assoc}
use Rattle.std.specs.Prelude.{map, not, nat_lt}
use Rattle.pm_journal.specs.JournalState.{JournalState}
use Rattle.pm_journal.specs.Entries.{View}
use Rattle.pm_journal.specs.Executed.{Executes}
use Rattle.pm_journal.specs.Plan.{Plays}
use Rattle.pm_journal.specs.declared.acts.Entry.{Entry}
use Rattle.pm_journal.proofs.WalkJoin.{parts_of}
use Rattle.pm_meaning.specs.Abstracts.{copy_lines}
use Rattle.pm_meaning.specs.Delivering.{is_without, is_done as is_attempt_done, settled, line_if, filed_lines, attempt_lines, filed_acted, attempt_acted, attempt, after_attempt, file_and_say, deliver_at, deliver_named, deliver_to, deliver_default, no_flags}
use Rattle.pm_meaning.specs.Destinations.{full_of, destination_of, are_file_texts}
use Rattle.pm_meaning.specs.Locks.{is_lock_word, lock_word, full_lock, is_taken, any_held, blamed_text}
use Rattle.pm_journal.specs.LogText.{forcing_lock_line, couldnt_unlock_line}
use Rattle.pm_meaning.specs.Minds.{Mind}
use Rattle.pm_meaning.specs.Turns.{ActEnd, is_for_good, refuse_act, failed}
use Rattle.pm_meaning.specs.declared.acted.Cause.{Cause}
use Rattle.pm_meaning.specs.declared.acted.Cause.TheVariants as cause
use Rattle.pm_meaning.specs.declared.process.Attempt.{Attempt}
use Rattle.pm_meaning.specs.declared.process.Attempt.TheVariants.{Unlocked, NotLocked, Locked}
use Rattle.pm_meaning.specs.declared.process.Destination.{Destination}
use Rattle.pm_meaning.specs.declared.process.Filed.{Filed}
use Rattle.pm_meaning.specs.declared.process.Filed.TheVariants.{Stored, Unwritten, Raced, Left, Crowded, Unnamed}
use Rattle.pm_meaning.proofs.MailboxDelivered.{all_said, if_last}
use Rattle.pm_perform.specs.Undelivered.{delivers, hinders, any_delivers, any_hinders, Undelivered}
use Rattle.pm_perform.proofs.CalmLemmas.{any_none, any_front, any_back, calm_plays, calm_said, calm_each}
use Rattle.pm_perform.proofs.SureLemmas.{attempt_quiet}

-- a line in the middle is a line
some_line : (line : List ℕ) (front back : List (List ℕ)) → (front ++ line ∷ []) ++ back ≡ [] → ⊥
some_line line [] back h = let f : false ≡ true = ap is_without h in cc
some_line line (first ∷ front) back h = let f : false ≡ true = ap is_without h in cc

-- a filing of which nothing is told is done
filed_silent : (text : List ℕ) (filed : Filed) (front back : List (List ℕ)) → (front ++ filed_lines text filed) ++ back ≡ [] → is_for_good (filed_acted no_flags filed) ≡ true
filed_silent text Stored front back h = refl
filed_silent text (Unwritten name) front back h = absurd (some_line _ front back h)
filed_silent text (Raced name) front back h = absurd (some_line _ front back h)
filed_silent text (Left name count) front back h = absurd (some_line _ front back h)
filed_silent text (Crowded name) front back h = absurd (some_line _ front back h)
filed_silent text Unnamed front back h = absurd (some_line _ front back h)

alone_silent : (text : List ℕ) (filed : Filed) → filed_lines text filed ≡ [] → is_for_good (filed_acted no_flags filed) ≡ true
alone_silent text Stored h = refl
alone_silent text (Unwritten name) h = absurd (some_line _ [] [] h)
alone_silent text (Raced name) h = absurd (some_line _ [] [] h)
alone_silent text (Left name count) h = absurd (some_line _ [] [] h)
alone_silent text (Crowded name) h = absurd (some_line _ [] [] h)
alone_silent text Unnamed h = absurd (some_line _ [] [] h)

attempt_silent : (text : List ℕ) (done : Attempt) → attempt_lines text done ≡ [] → is_for_good (attempt_acted no_flags done) ≡ true
attempt_silent text (Unlocked filed) h = alone_silent text filed h
attempt_silent text (NotLocked name cause) h = absurd (some_line _ [] [] h)
attempt_silent text (Locked name forced filed stuck) h = filed_silent text filed (line_if (nat_lt 0 forced) (forcing_lock_line name)) (line_if stuck (couldnt_unlock_line name)) h

filed_none : (lock : Option (List ℕ)) (text : List ℕ) (ds : List Destination) (p : Mind) (es : List Entry) (end : ActEnd) → is_for_good end.acted ≡ false → any_hinders es ≡ false
    → Plays (file_and_say no_flags lock text ds p) es end → any_delivers no_flags es ≡ false
filed_none lock text ds p es end other free h =
    let k = parts_of (attempt lock no_flags ds p) (after_attempt no_flags text) es end h in
    let done = k.middle.attempt in
    let q = settled done k.middle.mind in
    let lines = attempt_lines text done ++ copy_lines (is_attempt_done done) no_flags q in
    let next : ActEnd = record { acted = attempt_acted no_flags done; mind = q } in
    let last = all_said q lines next end k.rest k.plays_rest in
    let whole : any_hinders (k.front ++ k.rest) ≡ false = ap any_hinders (sym k.whole) ∙ free in
    let said : any_delivers no_flags k.rest ≡ false = calm_plays no_flags (after_attempt no_flags text k.middle) k.rest end (calm_each no_flags q lines next) k.plays_rest in
    let tried : any_delivers no_flags k.front ≡ false = elim (attempt_quiet no_flags text lock ds p k.front k.middle k.plays_front (any_front (λ e. hinders e.act e.reply) k.front k.rest whole)) [
      | inl none ↦ none
      | inr silent ↦ let f : true ≡ false = sym (attempt_silent text done silent) ∙ (ap (λ (e : ActEnd). is_for_good e.acted) (sym last.same) ∙ other) in absurd (cc)
    ] in
    ap (any_delivers no_flags) k.whole ∙ any_none (λ e. delivers no_flags e.act e.reply) k.front k.rest tried said

refused_none : (why : Cause) (text : List ℕ) (p : Mind) (es : List Entry) (end : ActEnd) → Plays (refuse_act why text p) es end → any_delivers no_flags es ≡ false
refused_none why text p es end h = calm_plays no_flags (refuse_act why text p) es end (calm_said no_flags p _ (failed why p)) h

at_none : (lock : Option (List ℕ)) (blamed text : List ℕ) (ds : List Destination) (p : Mind) (es : List Entry) (end : ActEnd) → is_for_good end.acted ≡ false → any_hinders es ≡ false
    → Plays (deliver_at no_flags lock blamed text ds p) es end → any_delivers no_flags es ≡ false
at_none lock blamed text ds p es end other free h =
    if_last (any_delivers no_flags es ≡ false) (is_taken lock (map (full_of p.base) ds) p.locks) _ _ es end (refused_none cause.NameIsLock blamed p es end)
    (if_last (any_delivers no_flags es ≡ false) (any_held (map (full_of p.base) ds) p.locks) _ _ es end (refused_none cause.NameIsLock text p es end) (filed_none lock text ds p es end other free)) h

named_none : (word : Option (List ℕ)) (blamed text : List ℕ) (words : List (List ℕ)) (p : Mind) (es : List Entry) (end : ActEnd) → is_for_good end.acted ≡ false → any_hinders es ≡ false
    → Plays (deliver_named no_flags word blamed text words p) es end → any_delivers no_flags es ≡ false
named_none word blamed text words p es end other free h =
    if_last (any_delivers no_flags es ≡ false) (not (are_file_texts words)) _ _ es end (refused_none cause.BadName text p es end)
    (at_none (full_lock p.base word) blamed text (map destination_of words) p es end other free) h

to_none : (lock : Option (List ℕ)) (value text : List ℕ) (words : List (List ℕ)) (p : Mind) (es : List Entry) (end : ActEnd) → is_for_good end.acted ≡ false → any_hinders es ≡ false
    → Plays (deliver_to no_flags lock value text words p) es end → any_delivers no_flags es ≡ false
to_none lock value text words p es end other free h =
    let word = lock_word lock value words p in
    if_last (any_delivers no_flags es ≡ false) (is_without words) _ _ es end (refused_none cause.NoWords text p es end)
    (if_last (any_delivers no_flags es ≡ false) (not (is_lock_word word)) _ _ es end (refused_none cause.BadName (blamed_text lock text) p es end)
    (named_none word (blamed_text lock text) text words p es end other free)) h

-- the acts of a delivery that failed
pub failed_sure : (mailbox : List ℕ) (p : Mind) (end : ActEnd) (x y : JournalState) (a b : View) → is_for_good end.acted ≡ false → Executes (deliver_default mailbox p) end x y a b → Undelivered no_flags x y
failed_sure mailbox p end x y a b other h = record {
  more = h.more;
  entries = h.entries;
  none = λ final free. to_none (Some []) [] mailbox (mailbox ∷ []) p h.more end other free h.plays;
}

-- nothing was delivered, and then nothing again
pub sure_on : (x y z : JournalState) → Undelivered no_flags x y → Undelivered no_flags y z → Undelivered no_flags x z
sure_on x y z h k = record {
  more = h.more ++ k.more;
  entries = k.entries ∙ (ap (λ l. l ++ k.more) h.entries ∙ append_assoc x.entries h.more k.more);
  none = λ final free. any_none (λ e. delivers no_flags e.act e.reply) h.more k.more (h.none final (any_front (λ e. hinders e.act e.reply) h.more k.more free))
      (k.none final (any_back (λ e. hinders e.act e.reply) h.more k.more free));
}
