-- A piece is placed only where its file was synced to disk.
use Rattle.std.proofs.Common.{◌≡◌, ℕ, ◌+◌, Bool, true, false, List, [], ◌∷◌, ◌++◌, length, drop, Option, Some, None, is_some, nat_eq, refl, sym, ap, ◌∙◌, subst, inl, inr, append_assoc}
use Rattle.pm_host.specs.World.{IsAnswerTo}
use Rattle.pm_host.specs.Runs.{logged}
use Rattle.pm_host.specs.declared.answers.Took.TheVariants.{Took as TookSome, Failed as TookFailed}
use Rattle.pm_host.specs.declared.answers.Made.TheVariants.{Made as MadeNew, Exists, Failed as MadeFailed}
use Rattle.pm_host.specs.declared.answers.Synced.TheVariants.{Synced as SyncedDone, Failed as SyncFailed}
use Rattle.pm_host.specs.declared.answers.Removed.TheVariants.{Removed as RemovedDone, Absent, Failed as RemoveFailed}
use Rattle.pm_host.specs.declared.answers.Moved.TheVariants.{Moved as MovedDone, Taken as MoveTaken, Failed as MoveFailed}
use Rattle.pm_host.specs.declared.calls.Call.{Call}
use Rattle.pm_host.specs.declared.calls.Call.TheVariants.{Create, Append, Sync, Rename, Names}
use Rattle.pm_host.specs.declared.calls.Answer.{Answer}
use Rattle.pm_host.specs.declared.calls.Answer.TheVariants.{Create as AnswerCreate, Append as AnswerAppend, Sync as AnswerSync, Rename as AnswerRename, Remove as AnswerRemove, Names as AnswerNames, Failed as AnswerFailed}
use Rattle.pm_host.specs.declared.calls.Logged.{Logged}
use Rattle.pm_journal.specs.Filed.{StoredEnd, IsStored}
use Rattle.pm_journal.specs.Placing.{FileState, Creating, Writing, Moving, Clearing, Removing, Ended, WriteAsks, FileAsks, MoveAsks, heard_create, heard_write, heard_move, heard_remove, stored, file_heard, FileWalks, TryGroup, final_name, try_reply, Tries, NoFolder, AfterNames, PlaceGroup}
use Rattle.pm_journal.specs.declared.placing.FolderKind.{FolderKind}
use Rattle.pm_journal.specs.declared.placing.FolderKind.TheVariants.{Maildir, Mh, Plain}
use Rattle.pm_journal.specs.declared.placing.Stamp.{Stamp}
use Rattle.pm_journal.specs.declared.placing.Candidate.{Candidate}
use Rattle.pm_journal.specs.declared.placing.FileEnd.{FileEnd}
use Rattle.pm_journal.specs.declared.placing.FileEnd.TheVariants.{Filed, Taken, Undone as FileUndone, Torn as FileTorn}
use Rattle.pm_journal.specs.declared.acts.Reply.TheVariants.{Placed, NamesOut, Undone}

-- from here on the file isn't filed any more under this name
abbrev IsLost : FileState → Type 0
IsLost Clearing = Unit {0}
IsLost (Removing taken) = Unit {0}
IsLost (Ended Taken) = Unit {0}
IsLost (Ended FileUndone) = Unit {0}
IsLost (Ended (FileTorn taken)) = Unit {0}
IsLost other = ⊥

lost_remove : (gone left : FileEnd) (answer : Answer) → IsLost (Ended gone) → IsLost (Ended left) → IsLost (heard_remove gone left answer)
lost_remove gone left (AnswerRemove RemovedDone) g l = g
lost_remove gone left (AnswerRemove Absent) g l = g
lost_remove gone left (AnswerRemove RemoveFailed) g l = l
lost_remove gone left other g l = l

lost_step : (c : Candidate) (piece : List ℕ) (at : FileState) (call : Call) (answer : Answer) → IsLost at → FileAsks c piece at call → IsLost (file_heard (is_some c.to) (length piece) at answer)
lost_step c piece Creating call answer h asks = absurd h
lost_step c piece (Writing taken) call answer h asks = absurd h
lost_step c piece Moving call answer h asks = absurd h
lost_step c piece Clearing call answer h asks = lost_remove Taken (FileTorn (length piece)) answer tt tt
lost_step c piece (Removing taken) call answer h asks = lost_remove FileUndone (FileTorn taken) answer tt tt
lost_step c piece (Ended end) call answer h asks = absurd asks

lost_walk : (c : Candidate) (piece : List ℕ) (calls : List Logged) (at last : FileState) → IsLost at → FileWalks c piece at calls last → IsLost last
lost_walk c piece [] at last h walk = subst IsLost (sym walk) h
lost_walk c piece (k ∷ ks) at last h walk = lost_walk c piece ks (file_heard (is_some c.to) (length piece) at k.answer) last (lost_step c piece at k.call k.answer h walk.0) walk.2

never : (c : Candidate) (piece : List ℕ) (calls : List Logged) (at : FileState) → IsLost at → FileWalks c piece at calls (Ended Filed) → ⊥
never c piece calls at h walk = lost_walk c piece calls at (Ended Filed) h walk

over : (c : Candidate) (piece : List ℕ) (calls : List Logged) (end : FileEnd) (last : FileState) → FileWalks c piece (Ended end) calls last → calls ≡ []
over c piece [] end last walk = refl
over c piece (k ∷ ks) end last walk = absurd walk.0

move_answered : (c : Candidate) (piece : List ℕ) (at to : List ℕ) (answer : Answer) (later : List Logged) → IsAnswerTo (Rename at to) answer → FileWalks c piece (heard_move (length piece) answer) later (Ended Filed)
    → (answer ≡ AnswerRename MovedDone) × (later ≡ [])
move_answered c piece at to (AnswerRename MovedDone) later fits walk = (refl, over c piece later Filed (Ended Filed) walk)
move_answered c piece at to (AnswerRename MoveTaken) later fits walk = absurd (never c piece later Clearing tt walk)
move_answered c piece at to (AnswerRename MoveFailed) later fits walk = absurd (never c piece later (Removing (length piece)) tt walk)
move_answered c piece at to other later fits walk = absurd fits

-- the call that moves the whole file is the last
moving_end : (c : Candidate) (piece : List ℕ) (to : List ℕ) (calls : List Logged) → c.to ≡ Some to → FileWalks c piece Moving calls (Ended Filed) → calls ≡ logged (Rename c.at to) (AnswerRename MovedDone) ∷ []
moving_end c piece to [] there walk = absurd (cc)
moving_end c piece to (k ∷ ks) there walk =
    let asks : k.call ≡ Rename c.at to = subst (λ t. MoveAsks c.at t k.call) there walk.0 in
    let h = move_answered c piece c.at to k.answer ks (subst (λ x. IsAnswerTo x k.answer) asks walk.1) walk.2 in
    ap (λ x. logged x k.answer ∷ ks) asks ∙ ap (λ x. logged (Rename c.at to) x ∷ ks) h.0 ∙ ap (λ l. logged (Rename c.at to) (AnswerRename MovedDone) ∷ l) h.1

-- what follows the sync
stored_end : (c : Candidate) (piece : List ℕ) (to : Option (List ℕ)) (calls : List Logged) → c.to ≡ to → FileWalks c piece (stored (is_some to)) calls (Ended Filed) → StoredEnd c.at (final_name c.at to) calls
stored_end c piece (Some to) calls there walk = inr (moving_end c piece to calls there walk)
stored_end c piece None calls there walk = inl (over c piece calls Filed (Ended Filed) walk, refl)

-- these calls are stored with others before them
behind : (name : List ℕ) (first calls whole : List Logged) → whole ≡ first ++ calls → IsStored name calls → IsStored name whole
behind name first calls whole e s = record {
  at = s.at;
  front = first ++ s.front;
  back = s.back;
  is = e ∙ ap (λ l. first ++ l) s.is ∙ sym (append_assoc first s.front (logged (Sync s.at) (AnswerSync SyncedDone) ∷ s.back));
  ends = s.ends;
}

synced : (c : Candidate) (piece : List ℕ) (taken : ℕ) (answer : Answer) (later : List Logged) → IsAnswerTo (Sync c.at) answer → FileWalks c piece (heard_write (is_some c.to) taken answer) later (Ended Filed)
    → IsStored (final_name c.at c.to) (logged (Sync c.at) answer ∷ later)
synced c piece taken (AnswerSync SyncedDone) later fits walk = record { at = c.at; front = []; back = later; is = refl; ends = stored_end c piece c.to later refl walk }
synced c piece taken (AnswerSync SyncFailed) later fits walk = absurd (never c piece later (Removing taken) tt walk)
synced c piece taken other later fits walk = absurd fits

appended : (c : Candidate) (piece part : List ℕ) (taken : ℕ) (answer : Answer) (later : List Logged) → IsAnswerTo (Append c.at part) answer
    → ((n : ℕ) → FileWalks c piece (Writing n) later (Ended Filed) → IsStored (final_name c.at c.to) later) → FileWalks c piece (heard_write (is_some c.to) taken answer) later (Ended Filed)
    → IsStored (final_name c.at c.to) later
appended c piece part taken (AnswerAppend (TookSome n)) later fits go walk = go (taken + n) walk
appended c piece part taken (AnswerAppend TookFailed) later fits go walk = absurd (never c piece later (Removing taken) tt walk)
appended c piece part taken other later fits go walk = absurd fits

written : (c : Candidate) (piece : List ℕ) (taken : ℕ) (call : Call) (answer : Answer) (later : List Logged) (b : Bool) → WriteAsks b c.at (drop taken piece) call → IsAnswerTo call answer
    → ((n : ℕ) → FileWalks c piece (Writing n) later (Ended Filed) → IsStored (final_name c.at c.to) later) → FileWalks c piece (heard_write (is_some c.to) taken answer) later (Ended Filed)
    → IsStored (final_name c.at c.to) (logged call answer ∷ later)
written c piece taken call answer later true asks fits go walk =
    subst (λ k. IsStored (final_name c.at c.to) (logged k answer ∷ later)) (sym asks) (synced c piece taken answer later (subst (λ k. IsAnswerTo k answer) asks fits) walk)
written c piece taken call answer later false asks fits go walk =
    behind (final_name c.at c.to) (logged call answer ∷ []) later (logged call answer ∷ later) refl
    (appended c piece asks.part taken answer later (subst (λ k. IsAnswerTo k answer) asks.is fits) go walk)

writing : (c : Candidate) (piece : List ℕ) (calls : List Logged) (taken : ℕ) → FileWalks c piece (Writing taken) calls (Ended Filed) → IsStored (final_name c.at c.to) calls
writing c piece [] taken walk = absurd (cc)
writing c piece (k ∷ ks) taken walk = written c piece taken k.call k.answer ks (nat_eq taken (length piece)) walk.0 walk.1 (λ n w. writing c piece ks n w) walk.2

created : (c : Candidate) (piece : List ℕ) (answer : Answer) (later : List Logged) → IsAnswerTo (Create c.at) answer → FileWalks c piece (heard_create answer) later (Ended Filed) → IsStored (final_name c.at c.to) later
created c piece (AnswerCreate MadeNew) later fits walk = writing c piece later 0 walk
created c piece (AnswerCreate Exists) later fits walk = absurd (never c piece later (Ended Taken) tt walk)
created c piece (AnswerCreate MadeFailed) later fits walk = absurd (never c piece later (Ended FileUndone) tt walk)
created c piece other later fits walk = absurd fits

filed : (c : Candidate) (piece : List ℕ) (calls : List Logged) → TryGroup c piece Filed calls → IsStored (final_name c.at c.to) calls
filed c piece [] walk = absurd (cc)
filed c piece (k ∷ ks) walk =
    behind (final_name c.at c.to) (k ∷ []) ks (k ∷ ks) refl (created c piece k.answer ks (subst (λ x. IsAnswerTo x k.answer) walk.0 walk.1) walk.2)

last_try : (c : Candidate) (piece name : List ℕ) (end : FileEnd) (calls : List Logged) → Placed name ≡ try_reply c end → TryGroup c piece end calls → IsStored name calls
last_try c piece name Filed calls e walk = let same : name ≡ final_name c.at c.to = cc in subst (λ n. IsStored n calls) (sym same) (filed c piece calls walk)
last_try c piece name Taken calls e walk = absurd (cc)
last_try c piece name FileUndone calls e walk = absurd (cc)
last_try c piece name (FileTorn taken) calls e walk = absurd (cc)

tries_stored : (all : List Candidate) (piece name : List ℕ) (calls : List Logged) → Tries all piece (Placed name) calls → IsStored name calls
tries_stored [] piece name calls t = let e : Placed name ≡ NamesOut = t.0 in absurd (cc)
tries_stored (c ∷ cs) piece name calls (inl t) = last_try c piece name t.end calls t.reply_is t.group
tries_stored (c ∷ cs) piece name calls (inr t) = behind name t.0 t.1 calls t.2 (tries_stored cs piece name t.1 t.4)

no_folder : (folders : List (List ℕ)) (name : List ℕ) (calls : List Logged) → NoFolder folders (Placed name) calls → ⊥
no_folder folders name calls n = let e : Placed name ≡ Undone = n.reply_is in cc

names_stored : (folder piece name : List ℕ) (answer : Answer) (tries : List Logged) → AfterNames folder piece answer (Placed name) tries → IsStored name tries
names_stored folder piece name (AnswerNames parts) tries h = tries_stored h.all piece name tries h.tries
names_stored folder piece name AnswerFailed tries h = let e : Placed name ≡ Undone = h.0 in absurd (cc)
names_stored folder piece name other tries h = absurd h

pub placed_is_stored : (kind : FolderKind) (folder prefix piece : List ℕ) (stamp : Stamp) (name : List ℕ) (calls : List Logged) → PlaceGroup kind folder prefix piece stamp (Placed name) calls → IsStored name calls
placed_is_stored Maildir folder prefix piece stamp name calls (inl g) = absurd (no_folder _ name calls g)
placed_is_stored Maildir folder prefix piece stamp name calls (inr g) = behind name g.makes g.tries calls g.calls_are (tries_stored g.numbers.all piece name g.tries g.numbers.tries)
placed_is_stored Mh folder prefix piece stamp name calls (inl g) = absurd (no_folder _ name calls g)
placed_is_stored Mh folder prefix piece stamp name calls (inr g) =
    behind name g.makes (logged (Names folder) g.answer ∷ g.tries) calls g.calls_are
    (behind name (logged (Names folder) g.answer ∷ []) g.tries (logged (Names folder) g.answer ∷ g.tries) refl (names_stored folder piece name g.answer g.tries g.filed))
placed_is_stored Plain folder prefix piece stamp name calls g = tries_stored g.all piece name calls g.tries
