-- A default mailbox that can take the mail gets it where each lock is got and each piece is taken.
use Rattle.std.proofs.Common.{◌≡◌, inl, inr, ℕ, Bool, true, false, not, List, [], ◌∷◌, ◌++◌, Option, Some, None, refl, sym, ap, ◌∙◌, subst}
use Rattle.std.specs.Prelude.{if◌then◌else◌, length}
use Rattle.pm_bytes.specs.Name.{is_usable}
use Rattle.pm_bytes.specs.Path.{full_name}
use Rattle.pm_recipe.specs.declared.tree.Flags.{Flags}
use Rattle.pm_journal.specs.Plan.{Plan, Ends, and_then, ask, Plays}
use Rattle.pm_journal.specs.Replies.{IsMomentReply}
use Rattle.pm_journal.specs.declared.acts.Act.{Act}
use Rattle.pm_journal.specs.declared.acts.Act.TheVariants.{Append}
use Rattle.pm_journal.specs.declared.acts.Entry.{Entry}
use Rattle.pm_journal.specs.declared.acts.Reply.{Reply}
use Rattle.pm_journal.specs.declared.acts.Reply.TheVariants.{Done, IsFolder, Placed, Held, Now}
use Rattle.pm_journal.specs.declared.placing.FolderKind.{FolderKind}
use Rattle.pm_journal.specs.declared.placing.FolderKind.TheVariants.{Plain}
use Rattle.pm_journal.proofs.WalkJoin.{parts_of}
use Rattle.pm_meaning.specs.Abstracts.{copy_lines}
use Rattle.pm_meaning.specs.Delivering.{folder_piece, mailbox_piece, Filing, placed_by, placed_at, in_folder, plain_prefix, appended_by, file_as, file_one, file_size, is_stored, file_all, Attempted, give_back, under_lock, attempt, attempt_lines, attempt_acted, is_done, settled, after_attempt, file_and_say, deliver_at, deliver_named, no_flags, deliver_default}
use Rattle.pm_meaning.specs.Changes.{counted, stored_in}
use Rattle.pm_meaning.specs.Destinations.{destination_of, full_of, are_file_texts}
use Rattle.pm_meaning.specs.Locks.{is_nothing, is_lock_word, full_lock, is_taken, any_held, with_lock}
use Rattle.pm_meaning.specs.Minds.{Mind}
use Rattle.pm_meaning.specs.Turns.{ActEnd, is_for_good, for_good, refuse_act}
use Rattle.pm_meaning.specs.declared.acted.Cause.TheVariants as cause
use Rattle.pm_meaning.specs.declared.process.Attempt.{Attempt}
use Rattle.pm_meaning.specs.declared.process.Attempt.TheVariants.{Unlocked, NotLocked, Locked}
use Rattle.pm_meaning.specs.declared.process.Destination.{Destination}
use Rattle.pm_meaning.specs.declared.process.Filed.{Filed}
use Rattle.pm_meaning.specs.declared.process.Filed.TheVariants.{Stored, Unwritten, Raced, Left, Crowded, Unnamed}
use Rattle.pm_meaning.specs.Completeness.{IsHeld, IsTaken, IsFiledAway, IsServed, AllServed, file_of, lock_of, CanTake, IsFolderAt, FoundFolder}
use Rattle.pm_meaning.proofs.MailboxDelivered.{all_said}

pub served_front : (front rest : List Entry) → AllServed (front ++ rest) → AllServed front
served_front [] rest h = tt
served_front (e ∷ front) rest h = (h.0, served_front front rest h.1)

pub served_rest : (front rest : List Entry) → AllServed (front ++ rest) → AllServed rest
served_rest [] rest h = h
served_rest (e ∷ front) rest h = served_rest front rest h.1

-- a file that was found to be a folder in these was found to be one in all
pub found_front : (file : List ℕ) (front rest : List Entry) → FoundFolder file front → FoundFolder file (front ++ rest)
found_front file [] rest h = absurd h
found_front file (e ∷ front) rest (inl here) = inl here
found_front file (e ∷ front) rest (inr later) = inr (found_front file front rest later)

pub found_rest : (file : List ℕ) (front rest : List Entry) → FoundFolder file rest → FoundFolder file (front ++ rest)
found_rest file [] rest h = h
found_rest file (e ∷ front) rest h = inr (found_rest file front rest h)

-- the entry of the append tells it
found_here : (file piece : List ℕ) (act : Act) (reply : Reply) → act ≡ Append file piece → reply ≡ IsFolder → IsFolderAt file act reply
found_here file piece act reply is found = subst (λ a. IsFolderAt file a reply) (sym is) (subst (λ r. IsFolderAt file (Append file piece) r) (sym found) refl)

-- where this file is found to be a folder, the names of its files can begin with MSGPREFIX
abbrev Prefixed : List ℕ → Mind → List Entry → Type 0
Prefixed file p es = FoundFolder file es → is_usable (plain_prefix p) ≡ true

prefixed_front : (file : List ℕ) (p : Mind) (es front rest : List Entry) → es ≡ front ++ rest → Prefixed file p es → Prefixed file p front
prefixed_front file p es front rest whole usable found = usable (subst (λ l. FoundFolder file l) (sym whole) (found_front file front rest found))

-- a choice that is known
chosen_false : {R : Type 0} (b : Bool) (p q : Plan R) (es : List Entry) (end : R) → b ≡ false → Plays (if b then p else q) es end → Plays q es end
chosen_false true p q es end e h = absurd (cc)
chosen_false false p q es end e h = h

chosen_true : {R : Type 0} (b : Bool) (p q : Plan R) (es : List Entry) (end : R) → b ≡ true → Plays (if b then p else q) es end → Plays p es end
chosen_true true p q es end e h = h
chosen_true false p q es end e h = absurd (cc)

not_not : (b : Bool) → b ≡ true → not b ≡ false
not_not b e = ap not e

stored_at_end : (filing last : Filing) (es : List Entry) → is_stored filing.filed ≡ true → Plays (Ends filing) es last → is_stored last.filed ≡ true
stored_at_end filing last [] fine h = ap (λ f. is_stored f.filed) h ∙ fine
stored_at_end filing last (e ∷ es) fine h = absurd h

-- the piece was filed
placed_fine : (folder : List ℕ) (size : ℕ) (p : Mind) (reply : Reply) → IsFiledAway reply → is_stored (placed_by folder size p reply).filed ≡ true
placed_fine folder size p (Placed name) h = refl
placed_fine folder size p other h = absurd h

filed_at : (kind : FolderKind) (folder prefix piece : List ℕ) (p : Mind) (reply : Reply) (es : List Entry) (filing : Filing) → IsMomentReply reply → AllServed es
    → Plays (placed_at kind folder prefix piece p reply) es filing → is_stored filing.filed ≡ true
filed_at kind folder prefix piece p (Now moment) [] filing told served h = absurd h
filed_at kind folder prefix piece p (Now moment) (e ∷ es) filing told served h =
    let away : IsFiledAway e.reply = subst (λ a. IsServed a e.reply) h.0 served.0 in
    stored_at_end (placed_by folder (length piece) (counted p) e.reply) filing es (placed_fine folder (length piece) (counted p) e.reply away) h.2
filed_at kind folder prefix piece p other es filing told served h = absurd told

filed_in : (kind : FolderKind) (folder prefix piece : List ℕ) (p : Mind) (es : List Entry) (filing : Filing) → AllServed es → Plays (in_folder kind folder prefix piece p) es filing → is_stored filing.filed ≡ true
filed_in kind folder prefix piece p [] filing served h = absurd h
filed_in kind folder prefix piece p (e ∷ es) filing served h = filed_at kind folder prefix piece p e.reply es filing h.1 served.1 h.2

appended : (flags : Flags) (name : List ℕ) (stored p : Mind) (reply : Reply) (es : List Entry) (filing : Filing) → (reply ≡ IsFolder → is_usable (plain_prefix p) ≡ true) → IsTaken reply → AllServed es
    → Plays (appended_by flags name stored p reply) es filing → is_stored filing.filed ≡ true
appended flags name stored p Done es filing usable taken served h = stored_at_end (record { filed = Stored; mind = stored }) filing es refl h
appended flags name stored p IsFolder es filing usable taken served h =
    let own = folder_piece flags p in
    filed_in Plain name (plain_prefix p) own p es filing served
    (chosen_true (is_usable (plain_prefix p)) (in_folder Plain name (plain_prefix p) own p) (Ends (record { filed = Unnamed; mind = p })) es filing (usable refl) h)
appended flags name stored p other es filing usable taken served h = absurd taken

in_file : (flags : Flags) (name piece : List ℕ) (stored p : Mind) (es : List Entry) (filing : Filing) → Prefixed name p es → AllServed es
    → Plays (and_then (ask (Append name piece)) (appended_by flags name stored p)) es filing → is_stored filing.filed ≡ true
in_file flags name piece stored p [] filing usable served h = absurd h
in_file flags name piece stored p (e ∷ es) filing usable served h =
    let taken : IsTaken e.reply = subst (λ a. IsServed a e.reply) h.0 served.0 in
    appended flags name stored p e.reply es filing (λ found. usable (inl (found_here name piece e.act e.reply h.0 found))) taken served.1 h.2

to_one : (b : Bool) (flags : Flags) (name piece : List ℕ) (stored p : Mind) (es : List Entry) (filing : Filing) → Prefixed name p es → AllServed es
    → Plays (if b then Ends (record { filed = Stored; mind = stored }) else and_then (ask (Append name piece)) (appended_by flags name stored p)) es filing → is_stored filing.filed ≡ true
to_one true flags name piece stored p es filing usable served h = stored_at_end (record { filed = Stored; mind = stored }) filing es refl h
to_one false flags name piece stored p es filing usable served h = in_file flags name piece stored p es filing usable served h

filed_as : (kind : Option FolderKind) (flags : Flags) (name : List ℕ) (p : Mind) (es : List Entry) (filing : Filing) → Prefixed (full_name p.base name) p es → AllServed es → Plays (file_as kind flags name p) es filing
    → is_stored filing.filed ≡ true
filed_as None flags name p es filing usable served h =
    let file = full_name p.base name in
    to_one (is_nothing file) flags file (mailbox_piece flags p) (stored_in name (file_size file flags p) p) p es filing usable served h
filed_as (Some kind) flags name p es filing usable served h = filed_in kind (full_name p.base name) [] (folder_piece flags p) p es filing served h

-- one destination got the mail
one_filed : (flags : Flags) (d : Destination) (p : Mind) (es : List Entry) (filing : Filing) → Prefixed (full_of p.base d) p es → AllServed es → Plays (file_all flags (d ∷ []) p) es filing
    → is_stored filing.filed ≡ true
one_filed flags d p es filing usable served h =
    let f : Filing → Plan Filing = λ first. if is_stored first.filed then file_all flags [] first.mind else Ends first in
    let k = parts_of (file_one flags d p) f es filing h in
    let fine = filed_as d.kind flags d.name p k.front k.middle (prefixed_front (full_of p.base d) p es k.front k.rest k.whole usable) (served_front k.front k.rest (subst AllServed k.whole served)) k.plays_front in
    stored_at_end (record { filed = Stored; mind = k.middle.mind }) filing k.rest refl
    (chosen_true (is_stored k.middle.filed) (file_all flags [] k.middle.mind) (Ends k.middle) k.rest filing fine k.plays_rest)

done_at_end : (attempted done : Attempted) (es : List Entry) → is_done attempted.attempt ≡ true → Plays (Ends attempted) es done → is_done done.attempt ≡ true
done_at_end attempted done [] fine h = ap (λ d. is_done d.attempt) h ∙ fine
done_at_end attempted done (e ∷ es) fine h = absurd h

given : (name : List ℕ) (forced : ℕ) (filing : Filing) (es : List Entry) (done : Attempted) → is_stored filing.filed ≡ true → Plays (give_back name forced filing) es done → is_done done.attempt ≡ true
given name forced filing [] done fine h = absurd h
given name forced filing (e ∷ []) done fine h = ap (λ d. is_done d.attempt) h.2 ∙ fine
given name forced filing (e ∷ f ∷ es) done fine h = absurd h.2

locked : (name : List ℕ) (flags : Flags) (d : Destination) (p : Mind) (reply : Reply) (es : List Entry) (done : Attempted) → Prefixed (full_of p.base d) p es → IsHeld reply → AllServed es
    → Plays (under_lock name flags (d ∷ []) p reply) es done → is_done done.attempt ≡ true
locked name flags d p (Held sleeps forced) es done usable held served h =
    let q = with_lock name p in
    let k = parts_of (file_all flags (d ∷ []) q) (give_back name forced) es done h in
    let fine = one_filed flags d q k.front k.middle (prefixed_front (full_of p.base d) p es k.front k.rest k.whole usable) (served_front k.front k.rest (subst AllServed k.whole served)) k.plays_front in
    given name forced k.middle k.rest done fine k.plays_rest
locked name flags d p other es done usable held served h = absurd held

attempted : (lock : Option (List ℕ)) (flags : Flags) (d : Destination) (p : Mind) (es : List Entry) (done : Attempted) → Prefixed (full_of p.base d) p es → AllServed es → Plays (attempt lock flags (d ∷ []) p) es done
    → is_done done.attempt ≡ true
attempted None flags d p es done usable served h =
    let f : Filing → Plan Attempted = λ filing. Ends (record { attempt = Unlocked filing.filed; mind = filing.mind }) in
    let k = parts_of (file_all flags (d ∷ []) p) f es done h in
    let fine = one_filed flags d p k.front k.middle (prefixed_front (full_of p.base d) p es k.front k.rest k.whole usable) (served_front k.front k.rest (subst AllServed k.whole served)) k.plays_front in
    done_at_end (record { attempt = Unlocked k.middle.filed; mind = k.middle.mind }) done k.rest fine k.plays_rest
attempted (Some name) flags d p [] done usable served h = absurd h
attempted (Some name) flags d p (e ∷ es) done usable served h =
    let held : IsHeld e.reply = subst (λ a. IsServed a e.reply) h.0 served.0 in
    locked name flags d p e.reply es done (λ found. usable (inr found)) held served.1 h.2

filed_ends : (filed : Filed) → is_stored filed ≡ true → is_for_good (attempt_acted no_flags (Unlocked filed)) ≡ true
filed_ends Stored h = refl
filed_ends Unnamed h = let e : false ≡ true = h in absurd (cc)
filed_ends (Crowded name) h = let e : false ≡ true = h in absurd (cc)
filed_ends (Unwritten name) h = let e : false ≡ true = h in absurd (cc)
filed_ends (Raced name) h = let e : false ≡ true = h in absurd (cc)
filed_ends (Left name count) h = let e : false ≡ true = h in absurd (cc)

done_ends : (attempt : Attempt) → is_done attempt ≡ true → is_for_good (attempt_acted no_flags attempt) ≡ true
done_ends (Unlocked filed) h = filed_ends filed h
done_ends (NotLocked name cause) h = let e : false ≡ true = h in absurd (cc)
done_ends (Locked name forced filed stuck) h = filed_ends filed h

said : (lock : Option (List ℕ)) (text : List ℕ) (d : Destination) (p : Mind) (es : List Entry) (end : ActEnd) → Prefixed (full_of p.base d) p es → AllServed es
    → Plays (file_and_say no_flags lock text (d ∷ []) p) es end → for_good end ≡ true
said lock text d p es end usable served h =
    let k = parts_of (attempt lock no_flags (d ∷ []) p) (after_attempt no_flags text) es end h in
    let done = k.middle in
    let q = settled done.attempt done.mind in
    let fine = attempted lock no_flags d p k.front done (prefixed_front (full_of p.base d) p es k.front k.rest k.whole usable) (served_front k.front k.rest (subst AllServed k.whole served)) k.plays_front in
    let told = all_said q (attempt_lines text done.attempt ++ copy_lines (is_done done.attempt) no_flags q) (record { acted = attempt_acted no_flags done.attempt; mind = q }) end k.rest k.plays_rest in
    ap for_good told.same ∙ done_ends done.attempt fine

-- a default mailbox that can take the mail gets it
pub default_delivers : (mailbox : List ℕ) (p : Mind) (es : List Entry) (end : ActEnd) → CanTake mailbox p
    → (FoundFolder (full_of p.base (destination_of mailbox)) es → is_usable (plain_prefix p) ≡ true) → AllServed es → Plays (deliver_default mailbox p) es end → for_good end ≡ true
default_delivers mailbox p es end can usable served h =
    let word = lock_of mailbox p in
    let lock = full_lock p.base word in
    let words = mailbox ∷ [] in
    let d = destination_of mailbox in
    let named = deliver_named no_flags word mailbox mailbox words p in
    let at = deliver_at no_flags lock mailbox mailbox (d ∷ []) p in
    let filing = file_and_say no_flags lock mailbox (d ∷ []) p in
    let free : Plan ActEnd = if any_held (file_of mailbox p) p.locks then refuse_act cause.NameIsLock mailbox p else filing in
    let a = chosen_false (not (is_lock_word word)) (refuse_act cause.BadName mailbox p) named es end (not_not (is_lock_word word) can.lock_named) h in
    let b = chosen_false (not (are_file_texts words)) (refuse_act cause.BadName mailbox p) at es end (not_not (are_file_texts words) can.named) a in
    let c = chosen_false (is_taken lock (file_of mailbox p) p.locks) (refuse_act cause.NameIsLock mailbox p) free es end can.lock_free b in
    let last = chosen_false (any_held (file_of mailbox p) p.locks) (refuse_act cause.NameIsLock mailbox p) filing es end can.no_lock c in
    said lock mailbox d p es end usable served last
