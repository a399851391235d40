-- Which calls of the filing of a piece in a folder failed, and which replies it has.
use Rattle.std.proofs.Common.{◌⊎◌, ℕ, Bool, true, false, List, [], ◌∷◌, ◌++◌, length, drop, Option, Some, None, is_some, nat_eq, sym, subst, inl, inr}
use Rattle.pm_host.specs.World.{IsAnswerTo, IsFailed}
use Rattle.pm_host.specs.Runs.{SomeFailed, logged}
use Rattle.pm_host.specs.declared.answers.Took.TheVariants.{Took as TookSome, Failed as TookFailed}
use Rattle.pm_host.specs.declared.answers.Made.TheVariants.{Made as MadeNew, Exists, Failed as MadeFailed}
use Rattle.pm_host.specs.declared.answers.Synced.TheVariants.{Synced as SyncedDone, Failed as SyncFailed}
use Rattle.pm_host.specs.declared.answers.Removed.TheVariants.{Removed as RemovedDone, Absent, Failed as RemoveFailed}
use Rattle.pm_host.specs.declared.answers.Moved.TheVariants.{Moved as MovedDone, Taken as MoveTaken, Failed as MoveFailed}
use Rattle.pm_host.specs.declared.calls.Call.{Call}
use Rattle.pm_host.specs.declared.calls.Call.TheVariants.{Create, Append, Sync, Rename, Remove, Names}
use Rattle.pm_host.specs.declared.calls.Answer.{Answer}
use Rattle.pm_host.specs.declared.calls.Answer.TheVariants.{Create as AnswerCreate, Append as AnswerAppend, Sync as AnswerSync, Rename as AnswerRename, Remove as AnswerRemove, MakeFolder as AnswerMakeFolder, Names as AnswerNames, Failed as AnswerFailed}
use Rattle.pm_host.specs.declared.calls.Logged.{Logged}
use Rattle.pm_journal.specs.Entries.{IsFaulty}
use Rattle.pm_journal.specs.Replies.{IsPlaceReply}
use Rattle.pm_journal.specs.Naming.{maildir_folders}
use Rattle.pm_journal.specs.Placing.{FileState, Creating, Writing, Moving, Clearing, Removing, Ended, WriteAsks, FileAsks, MoveAsks, heard_create, heard_write, heard_move, heard_remove, stored, file_heard, FileWalks, TryGroup, try_reply, Tries, AfterMaking, MakesFolders, AfterNames, PlaceGroup}
use Rattle.pm_journal.specs.declared.placing.FolderKind.{FolderKind}
use Rattle.pm_journal.specs.declared.placing.FolderKind.TheVariants.{Maildir, Mh, Plain}
use Rattle.pm_journal.specs.declared.placing.Stamp.{Stamp}
use Rattle.pm_journal.specs.declared.placing.Candidate.{Candidate}
use Rattle.pm_journal.specs.declared.placing.FileEnd.{FileEnd}
use Rattle.pm_journal.specs.declared.placing.FileEnd.TheVariants.{Filed, Taken, Undone as FileUndone, Torn as FileTorn}
use Rattle.pm_journal.specs.declared.acts.Reply.{Reply}

-- a call of the filing failed before
abbrev Failing : FileState → Type 0
Failing (Removing taken) = Unit {0}
Failing (Ended FileUndone) = Unit {0}
Failing (Ended (FileTorn taken)) = Unit {0}
Failing other = ⊥

create_failing : (at : List ℕ) (answer : Answer) → IsAnswerTo (Create at) answer → Failing (heard_create answer) → IsFailed answer
create_failing at (AnswerCreate MadeFailed) fits f = tt
create_failing at (AnswerCreate MadeNew) fits f = f
create_failing at (AnswerCreate Exists) fits f = f
create_failing at other fits f = absurd fits

append_failing : (at part : List ℕ) (moves : Bool) (taken : ℕ) (answer : Answer) → IsAnswerTo (Append at part) answer → Failing (heard_write moves taken answer) → IsFailed answer
append_failing at part moves taken (AnswerAppend TookFailed) fits f = tt
append_failing at part moves taken (AnswerAppend (TookSome n)) fits f = f
append_failing at part moves taken other fits f = absurd fits

stored_failing : (moves : Bool) → Failing (stored moves) → ⊥
stored_failing true f = f
stored_failing false f = f

sync_failing : (at : List ℕ) (moves : Bool) (taken : ℕ) (answer : Answer) → IsAnswerTo (Sync at) answer → Failing (heard_write moves taken answer) → IsFailed answer
sync_failing at moves taken (AnswerSync SyncFailed) fits f = tt
sync_failing at moves taken (AnswerSync SyncedDone) fits f = absurd (stored_failing moves f)
sync_failing at moves taken other fits f = absurd fits

rename_failing : (at to : List ℕ) (len : ℕ) (answer : Answer) → IsAnswerTo (Rename at to) answer → Failing (heard_move len answer) → IsFailed answer
rename_failing at to len (AnswerRename MoveFailed) fits f = tt
rename_failing at to len (AnswerRename MovedDone) fits f = f
rename_failing at to len (AnswerRename MoveTaken) fits f = f
rename_failing at to len other fits f = absurd fits

clear_failing : (at : List ℕ) (len : ℕ) (answer : Answer) → IsAnswerTo (Remove at) answer → Failing (heard_remove Taken (FileTorn len) answer) → IsFailed answer
clear_failing at len (AnswerRemove RemoveFailed) fits f = tt
clear_failing at len (AnswerRemove RemovedDone) fits f = f
clear_failing at len (AnswerRemove Absent) fits f = f
clear_failing at len other fits f = absurd fits

move_failing : (at : List ℕ) (to : Option (List ℕ)) (len : ℕ) (call : Call) (answer : Answer) → MoveAsks at to call → IsAnswerTo call answer → Failing (heard_move len answer) → IsFailed answer
move_failing at (Some to) len call answer asks fits f = rename_failing at to len answer (subst (λ k. IsAnswerTo k answer) asks fits) f
move_failing at None len call answer asks fits f = absurd asks

write_failing : (at left : List ℕ) (moves : Bool) (taken : ℕ) (call : Call) (answer : Answer) (b : Bool) → WriteAsks b at left call → IsAnswerTo call answer → Failing (heard_write moves taken answer) → IsFailed answer
write_failing at left moves taken call answer false asks fits f = append_failing at asks.part moves taken answer (subst (λ k. IsAnswerTo k answer) asks.is fits) f
write_failing at left moves taken call answer true asks fits f = sync_failing at moves taken answer (subst (λ k. IsAnswerTo k answer) asks fits) f

call_failing : (c : Candidate) (piece : List ℕ) (at : FileState) (call : Call) (answer : Answer) → FileAsks c piece at call → IsAnswerTo call answer → Failing (file_heard (is_some c.to) (length piece) at answer)
    → Failing at ⊎ IsFailed answer
call_failing c piece Creating call answer asks fits f = inr (create_failing c.at answer (subst (λ k. IsAnswerTo k answer) asks fits) f)
call_failing c piece (Writing taken) call answer asks fits f = inr (write_failing c.at (drop taken piece) (is_some c.to) taken call answer (nat_eq taken (length piece)) asks fits f)
call_failing c piece Moving call answer asks fits f = inr (move_failing c.at c.to (length piece) call answer asks fits f)
call_failing c piece Clearing call answer asks fits f = inr (clear_failing c.at (length piece) answer (subst (λ k. IsAnswerTo k answer) asks fits) f)
call_failing c piece (Removing taken) call answer asks fits f = inl tt
call_failing c piece (Ended end) call answer asks fits f = absurd asks

walk_failing : (c : Candidate) (piece : List ℕ) (calls : List Logged) (at last : FileState) → FileWalks c piece at calls last → Failing last → Failing at ⊎ SomeFailed calls
walk_failing c piece [] at last walk f = inl (subst Failing walk f)
walk_failing c piece (k ∷ ks) at last walk f =
    elim (walk_failing c piece ks (file_heard (is_some c.to) (length piece) at k.answer) last walk.2 f) [
      | inl g ↦ elim (call_failing c piece at k.call k.answer walk.0 walk.1 g) [ inl h ↦ inl h | inr h ↦ inr (inl h) ]
      | inr g ↦ inr (inr g)
    ]

try_cause : (c : Candidate) (piece : List ℕ) (end : FileEnd) (calls : List Logged) → TryGroup c piece end calls → Failing (Ended end) → SomeFailed calls
try_cause c piece end calls g f = elim (walk_failing c piece calls Creating (Ended end) g f) [ inl h ↦ absurd h | inr h ↦ h ]

faulty_try : (c : Candidate) (end : FileEnd) → IsFaulty (try_reply c end) → Failing (Ended end)
faulty_try c Filed f = f
faulty_try c Taken f = f
faulty_try c FileUndone f = tt
faulty_try c (FileTorn taken) f = tt

failed_left : (cs ds : List Logged) → SomeFailed cs → SomeFailed (cs ++ ds)
failed_left [] ds h = absurd h
failed_left (c ∷ cs) ds (inl h) = inl h
failed_left (c ∷ cs) ds (inr h) = inr (failed_left cs ds h)

failed_right : (cs ds : List Logged) → SomeFailed ds → SomeFailed (cs ++ ds)
failed_right [] ds h = h
failed_right (c ∷ cs) ds h = inr (failed_right cs ds h)

tries_cause : (all : List Candidate) (piece : List ℕ) (reply : Reply) (calls : List Logged) → Tries all piece reply calls → IsFaulty reply → SomeFailed calls
tries_cause [] piece reply calls t f = absurd (subst IsFaulty t.0 f)
tries_cause (c ∷ cs) piece reply calls (inl t) f = try_cause c piece t.end calls t.group (faulty_try c t.end (subst IsFaulty t.reply_is f))
tries_cause (c ∷ cs) piece reply calls (inr t) f = subst SomeFailed (sym t.2) (failed_right t.0 t.1 (tries_cause cs piece reply t.1 t.4 f))

making_failed : (answer : Answer) (later : List Logged) (more : Type 0) → AfterMaking answer false later more → (more → SomeFailed later) → IsFailed answer ⊎ SomeFailed later
making_failed (AnswerMakeFolder MadeNew) later more h go = inr (go h)
making_failed (AnswerMakeFolder Exists) later more h go = inr (go h)
making_failed (AnswerMakeFolder MadeFailed) later more h go = inl tt
making_failed other later more h go = absurd h

folders_cause : (folders : List (List ℕ)) (calls : List Logged) → MakesFolders folders false calls → SomeFailed calls
folders_cause [] calls m = absurd (cc (m.0))
folders_cause (n ∷ ns) [] m = absurd m
folders_cause (n ∷ ns) (c ∷ cs) m = making_failed c.answer cs (MakesFolders ns false cs) m.1 (λ r. folders_cause ns cs r)

names_cause : (folder piece : List ℕ) (answer : Answer) (reply : Reply) (tries : List Logged) → AfterNames folder piece answer reply tries → IsFaulty reply → SomeFailed (logged (Names folder) answer ∷ tries)
names_cause folder piece (AnswerNames parts) reply tries h f = inr (tries_cause h.all piece reply tries h.tries f)
names_cause folder piece AnswerFailed reply tries h f = inl tt
names_cause folder piece other reply tries h f = absurd h

-- a faulty filing has a failed call
pub place_cause : (kind : FolderKind) (folder prefix piece : List ℕ) (stamp : Stamp) (reply : Reply) (calls : List Logged) → PlaceGroup kind folder prefix piece stamp reply calls → IsFaulty reply → SomeFailed calls
place_cause Maildir folder prefix piece stamp reply calls (inl g) f = folders_cause (maildir_folders folder) calls g.makes
place_cause Maildir folder prefix piece stamp reply calls (inr g) f = subst SomeFailed (sym g.calls_are) (failed_right g.makes g.tries (tries_cause g.numbers.all piece reply g.tries g.numbers.tries f))
place_cause Mh folder prefix piece stamp reply calls (inl g) f = folders_cause (folder ∷ []) calls g.makes
place_cause Mh folder prefix piece stamp reply calls (inr g) f = subst SomeFailed (sym g.calls_are) (failed_right g.makes (logged (Names folder) g.answer ∷ g.tries) (names_cause folder piece g.answer reply g.tries g.filed f))
place_cause Plain folder prefix piece stamp reply calls g f = tries_cause g.all piece reply calls g.tries f

try_replies : (c : Candidate) (end : FileEnd) → IsPlaceReply (try_reply c end)
try_replies c Filed = tt
try_replies c Taken = tt
try_replies c FileUndone = tt
try_replies c (FileTorn taken) = tt

tries_reply : (all : List Candidate) (piece : List ℕ) (reply : Reply) (calls : List Logged) → Tries all piece reply calls → IsPlaceReply reply
tries_reply [] piece reply calls t = subst IsPlaceReply (sym t.0) tt
tries_reply (c ∷ cs) piece reply calls (inl t) = subst IsPlaceReply (sym t.reply_is) (try_replies c t.end)
tries_reply (c ∷ cs) piece reply calls (inr t) = tries_reply cs piece reply t.1 t.4

names_reply : (folder piece : List ℕ) (answer : Answer) (reply : Reply) (tries : List Logged) → AfterNames folder piece answer reply tries → IsPlaceReply reply
names_reply folder piece (AnswerNames parts) reply tries h = tries_reply h.all piece reply tries h.tries
names_reply folder piece AnswerFailed reply tries h = subst IsPlaceReply (sym h.0) tt
names_reply folder piece other reply tries h = absurd h

pub place_reply_is : (kind : FolderKind) (folder prefix piece : List ℕ) (stamp : Stamp) (reply : Reply) (calls : List Logged) → PlaceGroup kind folder prefix piece stamp reply calls → IsPlaceReply reply
place_reply_is Maildir folder prefix piece stamp reply calls (inl g) = subst IsPlaceReply (sym g.reply_is) tt
place_reply_is Maildir folder prefix piece stamp reply calls (inr g) = tries_reply g.numbers.all piece reply g.tries g.numbers.tries
place_reply_is Mh folder prefix piece stamp reply calls (inl g) = subst IsPlaceReply (sym g.reply_is) tt
place_reply_is Mh folder prefix piece stamp reply calls (inr g) = names_reply folder piece g.answer reply g.tries g.filed
place_reply_is Plain folder prefix piece stamp reply calls g = tries_reply g.all piece reply calls g.tries
