-- The filing of a piece, put together.
use Rattle.std.proofs.Common.{◌≡◌, ◌≤◌, ◌<◌, ℕ, true, false, List, [], ◌∷◌, ◌++◌, length, take, drop, Some, None, is_some, nat_eq, arith, refl, sym, ◌∙◌, subst}
use Rattle.std.proofs.lemmas.Grind.{common_steps}
use Rattle.std.proofs.lemmas.Bool.Decides.{Decides-eqb, nat_tests}
use Rattle.pm_host.specs.Told.{HostView, Makes}
use Rattle.pm_host.specs.Runs.{Transitions, logged}
use Rattle.pm_host.proofs.RunsJoin.{ran_none, ran_join, ran_then, transitions_then}
use Rattle.pm_host.specs.declared.calls.Call.{Call}
use Rattle.pm_host.specs.declared.calls.Call.TheVariants.{Create, Append, Sync, Rename, Remove}
use Rattle.pm_host.specs.declared.calls.Answer.{Answer}
use Rattle.pm_host.specs.declared.calls.Answer.TheVariants.{Remove as AnswerRemove}
use Rattle.pm_host.specs.declared.calls.Logged.{Logged}
use Rattle.pm_journal.specs.Appending.{IsFront}
use Rattle.pm_journal.specs.Placing.{FileState, Creating, Writing, Moving, Clearing, Removing, Ended, WriteAsks, FileAsks, MoveAsks, heard_create, heard_write, heard_move, heard_remove, stored, file_heard}
use Rattle.pm_journal.specs.declared.placing.Candidate.{Candidate}
use Rattle.pm_journal.specs.declared.placing.FileEnd.{FileEnd}
use Rattle.pm_journal.specs.declared.placing.FileEnd.TheVariants.{Filed, Taken, Undone as FileUndone, Torn as FileTorn}
use Rattle.pm_folders.specs.Filing.{Goes, Tried, RemovesMade}

pub goes_none : (c : Candidate) (piece : List ℕ) (s : FileState) (a : HostView) → Goes c piece s s a a
goes_none c piece s a = record { calls = []; ran = ran_none a; walk = refl }

-- one call more
pub goes_then : (c : Candidate) (piece : List ℕ) (s t : FileState) (call : Call) (answer : Answer) (a b d : HostView) → Goes c piece s t a b → FileAsks c piece t call → Makes call answer b d
    → Goes c piece s (file_heard (is_some c.to) (length piece) t answer) a d
goes_then c piece s t call answer a b d h asks makes = record {
  calls = h.calls ++ logged call answer ∷ [];
  ran = ran_then h.calls call answer a b d h.ran makes;
  walk = transitions_then (FileAsks c piece) (file_heard (is_some c.to) (length piece)) s h.calls t call answer h.walk asks makes.fits;
}

walk_join : {S : Type 0} (asks : S → Call → Type 0) (heard : S → Answer → S) (s t u : S) (cs ds : List Logged) → Transitions asks heard s cs t → Transitions asks heard t ds u → Transitions asks heard s (cs ++ ds) u
walk_join asks heard s t u [] ds h k = subst (λ x. Transitions asks heard x ds u) h k
walk_join asks heard s t u (c ∷ cs) ds h k = (h.0, h.1, walk_join asks heard (heard s c.answer) t u cs ds h.2 k)

pub goes_join : (c : Candidate) (piece : List ℕ) (s t u : FileState) (a b d : HostView) → Goes c piece s t a b → Goes c piece t u b d → Goes c piece s u a d
goes_join c piece s t u a b d h k = record {
  calls = h.calls ++ k.calls;
  ran = ran_join h.calls k.calls a b d h.ran k.ran;
  walk = walk_join (FileAsks c piece) (file_heard (is_some c.to) (length piece)) s t u h.calls k.calls h.walk k.walk;
}

pub ends_here : (c : Candidate) (piece : List ℕ) (end : FileEnd) (a b : HostView) → Goes c piece Creating (Ended end) a b → Tried c piece end a b
ends_here c piece end a b h = record { calls = h.calls; ran = h.ran; group = h.walk }

-- after the making of the file
pub made_so : (c : Candidate) (piece : List ℕ) (answer : Answer) (a b : HostView) → Makes (Create c.at) answer a b → Goes c piece Creating (heard_create answer) a b
made_so c piece answer a b makes = goes_then c piece Creating Creating (Create c.at) answer a a b (goes_none c piece Creating a) refl makes

take_front : (k : ℕ) (xs : List ℕ) → IsFront (take k xs) xs
take_front k xs = grind (arith, common_steps)

still_some : (taken len : ℕ) → taken < len → nat_eq taken len ≡ false
still_some taken len h = grind (arith, nat_tests)

whole : (n : ℕ) → nat_eq n n ≡ true
whole n = (Decides-eqb n n).1 refl

-- one append more, of the next k bytes at most
pub wrote_more : (c : Candidate) (piece : List ℕ) (k taken : ℕ) (answer : Answer) (a b d : HostView) → Goes c piece (Writing 0) (Writing taken) a b → Makes (Append c.at (take k (drop taken piece))) answer b d
    → 1 ≤ length (take k (drop taken piece)) → taken < length piece → Goes c piece (Writing 0) (heard_write (is_some c.to) taken answer) a d
wrote_more c piece k taken answer a b d h makes some left =
    let part = take k (drop taken piece) in
    let front : IsFront part (drop taken piece) = take_front k (drop taken piece) in
    let asks : FileAsks c piece (Writing taken) (Append c.at part) =
    subst (λ t. WriteAsks t c.at (drop taken piece) (Append c.at part)) (sym (still_some taken (length piece) left))
    (record { part = part; is = refl; front = front; some = some }) in
    goes_then c piece (Writing 0) (Writing taken) (Append c.at part) answer a b d h asks makes

pub wrote_all : (c : Candidate) (piece : List ℕ) (taken : ℕ) (a b : HostView) → Goes c piece (Writing 0) (Writing taken) a b → taken ≡ length piece → Goes c piece (Writing 0) (Writing (length piece)) a b
wrote_all c piece taken a b h e = subst (λ n. Goes c piece (Writing 0) (Writing n) a b) e h

-- after the sync of the whole file
pub synced_so : (c : Candidate) (piece : List ℕ) (answer : Answer) (a b d : HostView) → Goes c piece (Writing 0) (Writing (length piece)) a b → Makes (Sync c.at) answer b d
    → Goes c piece (Writing 0) (heard_write (is_some c.to) (length piece) answer) a d
synced_so c piece answer a b d h makes =
    let asks : FileAsks c piece (Writing (length piece)) (Sync c.at) =
    subst (λ t. WriteAsks t c.at (drop (length piece) piece) (Sync c.at)) (sym (whole (length piece))) refl in
    goes_then c piece (Writing 0) (Writing (length piece)) (Sync c.at) answer a b d h asks makes

-- the whole file is in the store, and stays at its name
pub filed_here : (c : Candidate) (piece : List ℕ) (a b : HostView) → Goes c piece Creating (stored (is_some c.to)) a b → c.to ≡ None → Tried c piece Filed a b
filed_here c piece a b h none = ends_here c piece Filed a b (subst (λ t. Goes c piece Creating (stored (is_some t)) a b) none h)

-- after the move
pub moved_so : (c : Candidate) (piece to : List ℕ) (answer : Answer) (a b d : HostView) → Goes c piece Creating (stored (is_some c.to)) a b → c.to ≡ Some to → Makes (Rename c.at to) answer b d
    → Goes c piece Creating (heard_move (length piece) answer) a d
moved_so c piece to answer a b d h there makes =
    let moving : Goes c piece Creating Moving a b = subst (λ t. Goes c piece Creating (stored (is_some t)) a b) there h in
    let asks : FileAsks c piece Moving (Rename c.at to) = subst (λ t. MoveAsks c.at t (Rename c.at to)) (sym there) refl in
    goes_then c piece Creating Moving (Rename c.at to) answer a b d moving asks makes

-- after the removal of the file
pub removed_so : (c : Candidate) (piece : List ℕ) (s : FileState) (gone left end : FileEnd) (a b d : HostView) → Goes c piece Creating s a b
    → ((call : Call) → call ≡ Remove c.at → FileAsks c piece s call) → ((answer : Answer) → file_heard (is_some c.to) (length piece) s answer ≡ heard_remove gone left answer) → RemovesMade c gone left end b d → Tried c piece end a d
removed_so c piece s gone left end a b d h asks heard r =
    ends_here c piece end a d
    (subst (λ t. Goes c piece Creating t a d) (heard (AnswerRemove r.removed) ∙ r.leads)
    (goes_then c piece Creating s (Remove c.at) (AnswerRemove r.removed) a b d h (asks (Remove c.at) refl) r.makes))

pub taken_back : (c : Candidate) (piece : List ℕ) (taken : ℕ) (end : FileEnd) (a b d : HostView) → Goes c piece Creating (Removing taken) a b → RemovesMade c FileUndone (FileTorn taken) end b d → Tried c piece end a d
taken_back c piece taken end a b d h r = removed_so c piece (Removing taken) FileUndone (FileTorn taken) end a b d h (λ call e. e) (λ answer. refl) r

pub cleared : (c : Candidate) (piece : List ℕ) (end : FileEnd) (a b d : HostView) → Goes c piece Creating Clearing a b → RemovesMade c Taken (FileTorn (length piece)) end b d → Tried c piece end a d
cleared c piece end a b d h r = removed_so c piece Clearing Taken (FileTorn (length piece)) end a b d h (λ call e. e) (λ answer. refl) r
