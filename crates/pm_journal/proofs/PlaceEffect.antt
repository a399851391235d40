-- What the filing of a piece in a folder makes of the world.
use Rattle.std.proofs.Common.{◌≡◌, ℕ, Bool, true, false, List, [], ◌∷◌, ◌++◌, length, drop, Option, Some, None, is_some, nat_eq, refl, sym, ap, ◌∙◌, subst, inl, inr}
use Rattle.pm_host.specs.World.{World, after_call}
use Rattle.pm_host.specs.Runs.{after_calls, AllRight, logged}
use Rattle.pm_host.proofs.RunsJoin.{after_calls-append}
use Rattle.pm_host.specs.declared.answers.Made.TheVariants.{Made as MadeNew, Exists, Failed as MadeFailed}
use Rattle.pm_host.specs.declared.calls.Call.{Call}
use Rattle.pm_host.specs.declared.calls.Call.TheVariants.{Names}
use Rattle.pm_host.specs.declared.calls.Answer.{Answer}
use Rattle.pm_host.specs.declared.calls.Answer.TheVariants.{MakeFolder as AnswerMakeFolder, Names as AnswerNames, Failed as AnswerFailed}
use Rattle.pm_host.specs.declared.calls.Logged.{Logged}
use Rattle.pm_journal.specs.Naming.{maildir_folders, mh_candidate, first_number}
use Rattle.pm_journal.specs.Placing.{FileState, Creating, Writing, Moving, Clearing, Removing, Ended, WriteAsks, FileAsks, MoveAsks, file_heard, FileWalks, try_reply, IsSettled, Tries, AfterMaking, MakesFolders, NoFolder, Numbers, AfterNames, PlaceGroup, folder_by, with_folders, after_placed, after_place, WasFree, FitsPiece}
use Rattle.pm_journal.specs.declared.placing.FolderKind.{FolderKind}
use Rattle.pm_journal.specs.declared.placing.FolderKind.TheVariants.{Maildir, Mh, Plain}
use Rattle.pm_journal.specs.declared.placing.Stamp.{Stamp}
use Rattle.pm_journal.specs.declared.placing.Candidate.{Candidate}
use Rattle.pm_journal.specs.declared.placing.FileEnd.{FileEnd}
use Rattle.pm_journal.specs.declared.placing.FileEnd.TheVariants.{Filed, Taken, Undone as FileUndone, Torn as FileTorn}
use Rattle.pm_journal.specs.declared.acts.Reply.{Reply}
use Rattle.pm_journal.proofs.TryEffect.{EndLeaves, try_leaves}

pub right_split : (cs ds : List Logged) (w : World) → AllRight (cs ++ ds) w → AllRight cs w × AllRight ds (after_calls cs w)
right_split [] ds w r = (tt, r)
right_split (c ∷ cs) ds w r = let s = right_split cs ds (after_call c.call c.answer w) r.1 in ((r.0, s.0), s.1)

-- the world is what the reply makes of it
pub record Files (reply : Reply) (piece : List ℕ) (old new : World) : Type 0 where
  pub is : new ≡ after_placed reply piece old
  pub free : WasFree reply old
  pub fits : FitsPiece reply piece

settled_files : (c : Candidate) (piece : List ℕ) (end : FileEnd) (old new : World) → IsSettled end → EndLeaves old new c.at c.to piece end → Files (try_reply c end) piece old new
settled_files c piece Filed old new s h = record { is = h.is; free = h.free; fits = tt }
settled_files c piece Taken old new s h = absurd s
settled_files c piece FileUndone old new s h = record { is = h; free = tt; fits = tt }
settled_files c piece (FileTorn taken) old new s h = record { is = h.new.is; free = h.new.free; fits = h.within }

tries_files : (all : List Candidate) (piece : List ℕ) (reply : Reply) (calls : List Logged) (w : World) → Tries all piece reply calls → AllRight calls w → Files reply piece w (after_calls calls w)
tries_files [] piece reply calls w t right =
    subst (λ r. Files r piece w (after_calls calls w)) (sym t.0) (record { is = ap (λ cs. after_calls cs w) t.1; free = tt; fits = tt })
tries_files (c ∷ cs) piece reply calls w (inl t) right =
    subst (λ r. Files r piece w (after_calls calls w)) (sym t.reply_is) (settled_files c piece t.end w (after_calls calls w) t.settled (try_leaves c piece t.end calls w t.group right))
tries_files (c ∷ cs) piece reply calls w (inr t) right =
    let parts = right_split t.0 t.1 w (subst (λ l. AllRight l w) t.2 right) in
    let same : after_calls t.0 w ≡ w = try_leaves c piece Taken t.0 w t.3 parts.0 in
    let rest = tries_files cs piece reply t.1 w t.4 (subst (AllRight t.1) same parts.1) in
    let joined : after_calls calls w ≡ after_calls t.1 w = ap (λ l. after_calls l w) t.2 ∙ after_calls-append t.0 t.1 w ∙ ap (after_calls t.1) same in
    record { is = joined ∙ rest.is; free = rest.free; fits = rest.fits }

pub with_folders-append : (cs ds : List Logged) (w : World) → with_folders (cs ++ ds) w ≡ with_folders ds (with_folders cs w)
with_folders-append [] ds w = refl
with_folders-append (c ∷ cs) ds w = with_folders-append cs ds (folder_by c.call c.answer w)

move_no_folder : (at : List ℕ) (to : Option (List ℕ)) (call : Call) (answer : Answer) (w : World) → MoveAsks at to call → folder_by call answer w ≡ w
move_no_folder at (Some to) call answer w asks = ap (λ k. folder_by k answer w) asks
move_no_folder at None call answer w asks = absurd asks

write_no_folder : (at left : List ℕ) (call : Call) (answer : Answer) (w : World) (b : Bool) → WriteAsks b at left call → folder_by call answer w ≡ w
write_no_folder at left call answer w false asks = ap (λ k. folder_by k answer w) asks.is
write_no_folder at left call answer w true asks = ap (λ k. folder_by k answer w) asks

call_no_folder : (c : Candidate) (piece : List ℕ) (at : FileState) (call : Call) (answer : Answer) (w : World) → FileAsks c piece at call → folder_by call answer w ≡ w
call_no_folder c piece Creating call answer w asks = ap (λ k. folder_by k answer w) asks
call_no_folder c piece (Writing taken) call answer w asks = write_no_folder c.at (drop taken piece) call answer w (nat_eq taken (length piece)) asks
call_no_folder c piece Moving call answer w asks = move_no_folder c.at c.to call answer w asks
call_no_folder c piece Clearing call answer w asks = ap (λ k. folder_by k answer w) asks
call_no_folder c piece (Removing taken) call answer w asks = ap (λ k. folder_by k answer w) asks
call_no_folder c piece (Ended end) call answer w asks = absurd asks

walk_no_folder : (c : Candidate) (piece : List ℕ) (calls : List Logged) (at last : FileState) (w : World) → FileWalks c piece at calls last → with_folders calls w ≡ w
walk_no_folder c piece [] at last w walk = refl
walk_no_folder c piece (k ∷ ks) at last w walk =
    ap (with_folders ks) (call_no_folder c piece at k.call k.answer w walk.0) ∙ walk_no_folder c piece ks (file_heard (is_some c.to) (length piece) at k.answer) last w walk.2

pub tries_no_folder : (all : List Candidate) (piece : List ℕ) (reply : Reply) (calls : List Logged) (w : World) → Tries all piece reply calls → with_folders calls w ≡ w
tries_no_folder [] piece reply calls w t = ap (λ cs. with_folders cs w) t.1
tries_no_folder (c ∷ cs) piece reply calls w (inl t) = walk_no_folder c piece calls Creating (Ended t.end) w t.group
tries_no_folder (c ∷ cs) piece reply calls w (inr t) =
    ap (λ l. with_folders l w) t.2 ∙ with_folders-append t.0 t.1 w ∙ ap (with_folders t.1) (walk_no_folder c piece t.0 Creating (Ended Taken) w t.3) ∙ tries_no_folder cs piece reply t.1 w t.4

after_making : {P Q : Type 0} (answer : Answer) (all : Bool) (later : List Logged) → AfterMaking answer all later P → (P → Q) → (later ≡ [] → Q) → Q
after_making (AnswerMakeFolder MadeNew) all later h more none = more h
after_making (AnswerMakeFolder Exists) all later h more none = more h
after_making (AnswerMakeFolder MadeFailed) all later h more none = none h.1
after_making other all later h more none = absurd h

pub makes_effect : (folders : List (List ℕ)) (all : Bool) (calls : List Logged) (w : World) → MakesFolders folders all calls → after_calls calls w ≡ with_folders calls w
makes_effect [] all calls w m = subst (λ cs. after_calls cs w ≡ with_folders cs w) (sym m.1) refl
makes_effect (n ∷ ns) all [] w m = absurd m
makes_effect (n ∷ ns) all (c ∷ cs) w m =
    let one : after_call c.call c.answer w ≡ folder_by c.call c.answer w = subst (λ k. after_call k c.answer w ≡ folder_by k c.answer w) (sym m.0) refl in
    let there = folder_by c.call c.answer w in
    ap (after_calls cs) one
    ∙ after_making {Q = after_calls cs there ≡ with_folders cs there} c.answer all cs m.1 (λ r. makes_effect ns all cs there r) (λ e. subst (λ l. after_calls l there ≡ with_folders l there) (sym e) refl)

-- the world is what the folders and the file make of it
pub record Places (reply : Reply) (piece : List ℕ) (calls : List Logged) (w : World) : Type 0 where
  pub is : after_calls calls w ≡ after_place reply piece calls w
  pub free : WasFree reply (with_folders calls w)
  pub fits : FitsPiece reply piece

numbers_place : (make : ℕ → Candidate) (piece : List ℕ) (reply : Reply) (calls : List Logged) (w : World) → Numbers make piece reply calls → AllRight calls w → Places reply piece calls w
numbers_place make piece reply calls w n right =
    let files = tries_files n.all piece reply calls w n.tries right in
    let none = tries_no_folder n.all piece reply calls w n.tries in
    record { is = files.is ∙ sym (ap (after_placed reply piece) none); free = subst (WasFree reply) (sym none) files.free; fits = files.fits }

no_folder_place : (folders : List (List ℕ)) (piece : List ℕ) (reply : Reply) (calls : List Logged) (w : World) → NoFolder folders reply calls → Places reply piece calls w
no_folder_place folders piece reply calls w n =
    subst (λ r. Places r piece calls w) (sym n.reply_is) (record { is = makes_effect folders false calls w n.makes; free = tt; fits = tt })

-- the file comes after the folders
then_place : (folders : List (List ℕ)) (makes later : List Logged) (piece : List ℕ) (reply : Reply) (calls : List Logged) (w : World) → calls ≡ makes ++ later → MakesFolders folders true makes → AllRight calls w
    → ((v : World) → AllRight later v → Places reply piece later v) → Places reply piece calls w
then_place folders makes later piece reply calls w e made right rest =
    let parts = right_split makes later w (subst (λ l. AllRight l w) e right) in
    let there = makes_effect folders true makes w made in
    let h = rest (with_folders makes w) (subst (AllRight later) there parts.1) in
    let folders_are : with_folders later (with_folders makes w) ≡ with_folders calls w = sym (ap (λ l. with_folders l w) e ∙ with_folders-append makes later w) in
    record {
      is = ap (λ l. after_calls l w) e ∙ after_calls-append makes later w ∙ ap (after_calls later) there ∙ h.is ∙ ap (after_placed reply piece) folders_are;
      free = subst (WasFree reply) folders_are h.free;
      fits = h.fits;
    }

names_place : (folder piece : List ℕ) (answer : Answer) (reply : Reply) (tries : List Logged) (w : World) → AfterNames folder piece answer reply tries → AllRight (logged (Names folder) answer ∷ tries) w
    → Places reply piece (logged (Names folder) answer ∷ tries) w
names_place folder piece (AnswerNames parts) reply tries w h right =
    let n = numbers_place (mh_candidate folder (first_number parts)) piece reply tries w h right.1 in record { is = n.is; free = n.free; fits = n.fits }
names_place folder piece AnswerFailed reply tries w h right =
    subst (λ r. Places r piece (logged (Names folder) AnswerFailed ∷ tries) w) (sym h.0)
    (record { is = subst (λ l. after_calls l w ≡ with_folders l w) (sym h.1) refl; free = tt; fits = tt })
names_place folder piece other reply tries w h right = absurd h

-- what the filing in a folder makes of the world
pub place_effect : (kind : FolderKind) (folder prefix piece : List ℕ) (stamp : Stamp) (reply : Reply) (calls : List Logged) (w : World) → PlaceGroup kind folder prefix piece stamp reply calls
    → AllRight calls w → Places reply piece calls w
place_effect Maildir folder prefix piece stamp reply calls w (inl g) right = no_folder_place (maildir_folders folder) piece reply calls w g
place_effect Maildir folder prefix piece stamp reply calls w (inr g) right =
    then_place (maildir_folders folder) g.makes g.tries piece reply calls w g.calls_are g.made right (λ v r. numbers_place _ piece reply g.tries v g.numbers r)
place_effect Mh folder prefix piece stamp reply calls w (inl g) right = no_folder_place (folder ∷ []) piece reply calls w g
place_effect Mh folder prefix piece stamp reply calls w (inr g) right =
    then_place (folder ∷ []) g.makes (logged (Names folder) g.answer ∷ g.tries) piece reply calls w g.calls_are g.made right (λ v r. names_place folder piece g.answer reply g.tries v g.filed r)
place_effect Plain folder prefix piece stamp reply calls w g right = numbers_place _ piece reply calls w g right
