-- The filing of a piece in a folder starts no child and ends none.
use Rattle.std.proofs.Common.{◌≡◌, ℕ, Bool, true, false, List, [], ◌∷◌, ◌++◌, length, drop, Option, Some, None, is_some, nat_eq, refl, ap, ◌∙◌, inl, inr}
use Rattle.pm_host.specs.World.{after_child}
use Rattle.pm_host.specs.Runs.{logged, child_after}
use Rattle.pm_host.specs.declared.answers.Child.{Child}
use Rattle.pm_host.specs.declared.answers.Made.TheVariants.{Made as MadeNew, Exists, Failed as MadeFailed}
use Rattle.pm_host.specs.declared.calls.Call.{Call}
use Rattle.pm_host.specs.declared.calls.Call.TheVariants.{Names}
use Rattle.pm_host.specs.declared.calls.Answer.{Answer}
use Rattle.pm_host.specs.declared.calls.Answer.TheVariants.{MakeFolder as AnswerMakeFolder, Names as AnswerNames, Failed as AnswerFailed}
use Rattle.pm_host.specs.declared.calls.Logged.{Logged}
use Rattle.pm_host.proofs.RunsJoin.{child_after-append}
use Rattle.pm_journal.specs.Naming.{maildir_folders}
use Rattle.pm_journal.specs.Placing.{FileState, Creating, Writing, Moving, Clearing, Removing, Ended, WriteAsks, FileAsks, MoveAsks, file_heard, FileWalks, Tries, AfterMaking, MakesFolders, AfterNames, PlaceGroup}
use Rattle.pm_journal.specs.declared.placing.FolderKind.{FolderKind}
use Rattle.pm_journal.specs.declared.placing.FolderKind.TheVariants.{Maildir, Mh, Plain}
use Rattle.pm_journal.specs.declared.placing.Stamp.{Stamp}
use Rattle.pm_journal.specs.declared.placing.Candidate.{Candidate}
use Rattle.pm_journal.specs.declared.placing.FileEnd.TheVariants.{Taken}
use Rattle.pm_journal.specs.declared.acts.Reply.{Reply}

write_child : (at left : List ℕ) (call : Call) (answer : Answer) (k : Child) (b : Bool) → WriteAsks b at left call → after_child call answer k ≡ k
write_child at left call answer k true asks = ap (λ c. after_child c answer k) asks
write_child at left call answer k false asks = ap (λ c. after_child c answer k) asks.is

move_child : (at : List ℕ) (to : Option (List ℕ)) (call : Call) (answer : Answer) (k : Child) → MoveAsks at to call → after_child call answer k ≡ k
move_child at (Some to) call answer k asks = ap (λ c. after_child c answer k) asks
move_child at None call answer k asks = absurd asks

file_child : (c : Candidate) (piece : List ℕ) (at : FileState) (call : Call) (answer : Answer) (k : Child) → FileAsks c piece at call → after_child call answer k ≡ k
file_child c piece Creating call answer k asks = ap (λ x. after_child x answer k) asks
file_child c piece (Writing taken) call answer k asks = write_child c.at (drop taken piece) call answer k (nat_eq taken (length piece)) asks
file_child c piece Moving call answer k asks = move_child c.at c.to call answer k asks
file_child c piece Clearing call answer k asks = ap (λ x. after_child x answer k) asks
file_child c piece (Removing taken) call answer k asks = ap (λ x. after_child x answer k) asks
file_child c piece (Ended end) call answer k asks = absurd asks

walk_child : (c : Candidate) (piece : List ℕ) (calls : List Logged) (at last : FileState) (k : Child) → FileWalks c piece at calls last → child_after calls k ≡ k
walk_child c piece [] at last k walk = refl
walk_child c piece (x ∷ xs) at last k walk =
    ap (child_after xs) (file_child c piece at x.call x.answer k walk.0) ∙ walk_child c piece xs (file_heard (is_some c.to) (length piece) at x.answer) last k walk.2

-- one part after another
both_child : (first rest calls : List Logged) (k : Child) → calls ≡ first ++ rest → child_after first k ≡ k → child_after rest k ≡ k → child_after calls k ≡ k
both_child first rest calls k e a b = ap (λ l. child_after l k) e ∙ child_after-append first rest k ∙ ap (child_after rest) a ∙ b

tries_child : (all : List Candidate) (piece : List ℕ) (reply : Reply) (calls : List Logged) (k : Child) → Tries all piece reply calls → child_after calls k ≡ k
tries_child [] piece reply calls k t = ap (λ l. child_after l k) t.1
tries_child (c ∷ cs) piece reply calls k (inl t) = walk_child c piece calls Creating (Ended t.end) k t.group
tries_child (c ∷ cs) piece reply calls k (inr t) =
    both_child t.0 t.1 calls k t.2 (walk_child c piece t.0 Creating (Ended Taken) k t.3) (tries_child cs piece reply t.1 k t.4)

making_child : (answer : Answer) (all : Bool) (later : List Logged) (k : Child) (more : Type 0) → AfterMaking answer all later more → (more → child_after later k ≡ k) → child_after later k ≡ k
making_child (AnswerMakeFolder MadeNew) all later k more h go = go h
making_child (AnswerMakeFolder Exists) all later k more h go = go h
making_child (AnswerMakeFolder MadeFailed) all later k more h go = ap (λ l. child_after l k) h.1
making_child other all later k more h go = absurd h

pub makes_child : (folders : List (List ℕ)) (all : Bool) (calls : List Logged) (k : Child) → MakesFolders folders all calls → child_after calls k ≡ k
makes_child [] all calls k m = ap (λ l. child_after l k) m.1
makes_child (n ∷ ns) all [] k m = absurd m
makes_child (n ∷ ns) all (c ∷ cs) k m =
    ap (child_after cs) (ap (λ x. after_child x c.answer k) m.0) ∙ making_child c.answer all cs k (MakesFolders ns all cs) m.1 (λ r. makes_child ns all cs k r)

names_child : (folder piece : List ℕ) (answer : Answer) (reply : Reply) (tries : List Logged) (k : Child) → AfterNames folder piece answer reply tries → child_after tries k ≡ k
names_child folder piece (AnswerNames parts) reply tries k h = tries_child h.all piece reply tries k h.tries
names_child folder piece AnswerFailed reply tries k h = ap (λ l. child_after l k) h.1
names_child folder piece other reply tries k h = absurd h

pub place_child : (kind : FolderKind) (folder prefix piece : List ℕ) (stamp : Stamp) (reply : Reply) (calls : List Logged) (k : Child) → PlaceGroup kind folder prefix piece stamp reply calls → child_after calls k ≡ k
place_child Maildir folder prefix piece stamp reply calls k (inl g) = makes_child (maildir_folders folder) false calls k g.makes
place_child Maildir folder prefix piece stamp reply calls k (inr g) =
    both_child g.makes g.tries calls k g.calls_are (makes_child (maildir_folders folder) true g.makes k g.made) (tries_child g.numbers.all piece reply g.tries k g.numbers.tries)
place_child Mh folder prefix piece stamp reply calls k (inl g) = makes_child (folder ∷ []) false calls k g.makes
place_child Mh folder prefix piece stamp reply calls k (inr g) =
    both_child g.makes (logged (Names folder) g.answer ∷ g.tries) calls k g.calls_are (makes_child (folder ∷ []) true g.makes k g.made) (names_child folder piece g.answer reply g.tries k g.filed)
place_child Plain folder prefix piece stamp reply calls k g = tries_child g.all piece reply calls k g.tries
