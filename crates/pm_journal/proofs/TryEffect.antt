-- What the filing of a piece under one name makes of the world.
use Rattle.std.proofs.Common.{◌≡◌, ◌≤◌, ℕ, Bool, true, false, cond, List, [], ◌∷◌, ◌++◌, length, take, drop, Option, Some, None, is_some, nat_eq, bytes_eq, refl, sym, ap, ◌∙◌, subst, arith}
use Rattle.std.proofs.Math.Seq.{take-length}
use Rattle.std.proofs.lemmas.Slice.Eq.{bytes_eq-Decides}
use Rattle.std.proofs.lemmas.Bool.Decides.{Decides-eqb}
use Rattle.pm_host.specs.World.{World, world_with, grown, after_call, IsAnswerTo, IsRight, MakesRight, RenamesRight, RemovesRight}
use Rattle.pm_host.specs.Runs.{after_calls, AllRight}
use Rattle.pm_host.proofs.Put.{get-put, put_put, put_same}
use Rattle.pm_host.specs.declared.nodes.Node.{Node}
use Rattle.pm_host.specs.declared.nodes.Node.TheVariants.{File as AFile}
use Rattle.pm_host.specs.declared.answers.Took.TheVariants.{Took as TookSome, Failed as TookFailed}
use Rattle.pm_host.specs.declared.answers.Made.TheVariants.{Made as MadeNew, Exists, Failed as MadeFailed}
use Rattle.pm_host.specs.declared.answers.Synced.TheVariants.{Synced as SyncedDone, Failed as SyncFailed}
use Rattle.pm_host.specs.declared.answers.Removed.TheVariants.{Removed as RemovedDone, Absent, Failed as RemoveFailed}
use Rattle.pm_host.specs.declared.answers.Moved.TheVariants.{Moved as MovedDone, Taken as MoveTaken, Failed as MoveFailed}
use Rattle.pm_host.specs.declared.calls.Call.{Call}
use Rattle.pm_host.specs.declared.calls.Call.TheVariants.{Create, Append, Sync, Rename, Remove}
use Rattle.pm_host.specs.declared.calls.Answer.{Answer}
use Rattle.pm_host.specs.declared.calls.Answer.TheVariants.{Create as AnswerCreate, Append as AnswerAppend, Sync as AnswerSync, Rename as AnswerRename, Remove as AnswerRemove}
use Rattle.pm_host.specs.declared.calls.Logged.{Logged}
use Rattle.pm_journal.specs.Appending.{IsFront}
use Rattle.pm_journal.proofs.AppendEffect.{front_fits, taken_more}
use Rattle.pm_journal.specs.Placing.{FileState, Creating, Writing, Moving, Clearing, Removing, Ended, WriteAsks, FileAsks, MoveAsks, heard_create, heard_write, heard_move, heard_remove, stored, file_heard, FileWalks, TryGroup, final_name, with_new}
use Rattle.pm_journal.specs.declared.placing.Candidate.{Candidate}
use Rattle.pm_journal.specs.declared.placing.FileEnd.{FileEnd}
use Rattle.pm_journal.specs.declared.placing.FileEnd.TheVariants.{Filed, Taken, Undone as FileUndone, Torn as FileTorn}

-- the world has this new file more, where nothing stood
pub record HasNew (w₀ w : World) (name bytes : List ℕ) : Type 0 where
  pub is : w ≡ with_new w₀ name bytes
  pub free : w₀.nodes name ≡ None

-- the front of the piece was filed at the name
pub record HasFront (w₀ w : World) (name piece : List ℕ) (taken : ℕ) : Type 0 where
  pub new : HasNew w₀ w name (take taken piece)
  pub within : taken ≤ length piece

-- what an end of the filing leaves
abbrev pub EndLeaves : World → World → List ℕ → Option (List ℕ) → List ℕ → FileEnd → Type 0
EndLeaves w₀ w at to piece Filed = HasNew w₀ w (final_name at to) piece
EndLeaves w₀ w at to piece Taken = w ≡ w₀
EndLeaves w₀ w at to piece FileUndone = w ≡ w₀
EndLeaves w₀ w at to piece (FileTorn taken) = HasFront w₀ w at piece taken

-- how the world stands at a state of the filing
abbrev Stands : World → List ℕ → Option (List ℕ) → List ℕ → FileState → World → Type 0
Stands w₀ at to piece Creating w = w ≡ w₀
Stands w₀ at to piece (Writing taken) w = HasFront w₀ w at piece taken
Stands w₀ at to piece Moving w = HasFront w₀ w at piece (length piece)
Stands w₀ at to piece Clearing w = HasFront w₀ w at piece (length piece)
Stands w₀ at to piece (Removing taken) w = HasFront w₀ w at piece taken
Stands w₀ at to piece (Ended end) w = EndLeaves w₀ w at to piece end

none_there : (x : Option Node) → MakesRight x MadeNew → x ≡ None
none_there (Some n) h = absurd h
none_there None h = refl

create_stands : (w₀ w : World) (at : List ℕ) (to : Option (List ℕ)) (piece : List ℕ) (answer : Answer) → IsAnswerTo (Create at) answer → IsRight (Create at) answer w → w ≡ w₀
    → Stands w₀ at to piece (heard_create answer) (after_call (Create at) answer w)
create_stands w₀ w at to piece (AnswerCreate MadeNew) fits right e = record {
  new = record { is = ap (λ v. with_new v at []) e; free = none_there (w₀.nodes at) (subst (λ v. MakesRight (v.nodes at) MadeNew) e right) };
  within = omega arith;
}
create_stands w₀ w at to piece (AnswerCreate Exists) fits right e = e
create_stands w₀ w at to piece (AnswerCreate MadeFailed) fits right e = e
create_stands w₀ w at to piece other fits right e = absurd fits

-- the file is longer
grown_new : (w₀ w : World) (name bytes more : List ℕ) → w ≡ with_new w₀ name bytes → world_with w name (grown (w.nodes name) more) ≡ with_new w₀ name (bytes ++ more)
grown_new w₀ w name bytes more e =
    let file = Some (AFile (record { bytes = bytes; made = w₀.moment })) in
    ap (λ x. world_with x name (grown (x.nodes name) more)) e
    ∙ ap (λ x. world_with (world_with w₀ name file) name (grown x more)) (get-put w₀ name file)
    ∙ put_put w₀ name file (grown file more)

append_stands : (w₀ w : World) (at : List ℕ) (to : Option (List ℕ)) (piece part : List ℕ) (taken : ℕ) (answer : Answer) → IsAnswerTo (Append at part) answer → IsFront part (drop taken piece)
    → HasFront w₀ w at piece taken → Stands w₀ at to piece (heard_write (is_some to) taken answer) (after_call (Append at part) answer w)
append_stands w₀ w at to piece part taken (AnswerAppend (TookSome n)) fits front h = record {
  new = record {
    is = grown_new w₀ w at (take taken piece) (take n part) h.new.is ∙ ap (with_new w₀ at) (taken_more piece part taken n front fits.1);
    free = h.new.free;
  };
  within = front_fits piece part taken n front fits.1 h.within;
}
append_stands w₀ w at to piece part taken (AnswerAppend TookFailed) fits front h = h
append_stands w₀ w at to piece part taken other fits front h = absurd fits

-- the whole file was synced to disk
stored_stands : (w₀ w : World) (at : List ℕ) (to : Option (List ℕ)) (piece : List ℕ) → HasFront w₀ w at piece (length piece) → Stands w₀ at to piece (stored (is_some to)) w
stored_stands w₀ w at (Some to) piece h = h
stored_stands w₀ w at None piece h = record { is = h.new.is ∙ ap (with_new w₀ at) (take-length piece); free = h.new.free }

sync_stands : (w₀ w : World) (at : List ℕ) (to : Option (List ℕ)) (piece : List ℕ) (taken : ℕ) (answer : Answer) → IsAnswerTo (Sync at) answer → taken ≡ length piece → HasFront w₀ w at piece taken
    → Stands w₀ at to piece (heard_write (is_some to) taken answer) (after_call (Sync at) answer w)
sync_stands w₀ w at to piece taken (AnswerSync SyncedDone) fits e h = stored_stands w₀ w at to piece (subst (HasFront w₀ w at piece) e h)
sync_stands w₀ w at to piece taken (AnswerSync SyncFailed) fits e h = h
sync_stands w₀ w at to piece taken other fits e h = absurd fits

-- something else is at the other name, and nothing stood there
pub record Apart (w₀ : World) (at to : List ℕ) : Type 0 where
  pub differs : bytes_eq at to ≡ false
  pub free : w₀.nodes to ≡ None

apart : (b : Bool) (f x : Option Node) → cond b f x ≡ None → (f ≡ None → ⊥) → (b ≡ false) × (x ≡ None)
apart true f x e some = absurd (some e)
apart false f x e some = (refl, e)

none_moved : (x y : Option Node) → RenamesRight x y MovedDone → y ≡ None
none_moved x None h = refl
none_moved x (Some n) h = absurd h

moved_apart : (w₀ w : World) (at to bytes : List ℕ) → w ≡ with_new w₀ at bytes → IsRight (Rename at to) (AnswerRename MovedDone) w → Apart w₀ at to
moved_apart w₀ w at to bytes e right =
    let file = Some (AFile (record { bytes = bytes; made = w₀.moment })) in
    let none : cond (bytes_eq at to) file (w₀.nodes to) ≡ None = none_moved _ _ (subst (λ v. RenamesRight (v.nodes at) (v.nodes to) MovedDone) e right) in
    let h = apart (bytes_eq at to) file (w₀.nodes to) none (λ q. cc) in
    record { differs = h.0; free = h.1 }

-- at each name: the file went from the one to the other
moved_at : (a b : Bool) (f x : Option Node) → (a ≡ true → x ≡ None) → (a ≡ true → b ≡ true → ⊥) → cond a None (cond b f (cond a f x)) ≡ cond b f x
moved_at true true f x none both = absurd (both refl refl)
moved_at true false f x none both = sym (none refl)
moved_at false true f x none both = refl
moved_at false false f x none both = refl

moved_node : (w₀ : World) (at to : List ℕ) (f : Option Node) → Apart w₀ at to → w₀.nodes at ≡ None → (q : List ℕ)
    → cond (bytes_eq at q) None (cond (bytes_eq to q) f (cond (bytes_eq at q) f (w₀.nodes q))) ≡ cond (bytes_eq to q) f (w₀.nodes q)
moved_node w₀ at to f h free q =
    moved_at (bytes_eq at q) (bytes_eq to q) f (w₀.nodes q)
    (λ a. ap w₀.nodes (sym ((bytes_eq-Decides at q).0 a)) ∙ free)
    (λ a b. let same : at ≡ to = (bytes_eq-Decides at q).0 a ∙ sym ((bytes_eq-Decides to q).0 b) in
    let t : bytes_eq at to ≡ true = (bytes_eq-Decides at to).1 same in
    cc (h.differs))

moved_new : (w₀ : World) (at to bytes : List ℕ) → Apart w₀ at to → w₀.nodes at ≡ None
    → world_with (world_with (with_new w₀ at bytes) to ((with_new w₀ at bytes).nodes at)) at None ≡ with_new w₀ to bytes
moved_new w₀ at to bytes h free =
    let file = Some (AFile (record { bytes = bytes; made = w₀.moment })) in
    let each = moved_node w₀ at to file h free in
    ap (λ x. world_with (world_with (world_with w₀ at file) to x) at None) (get-put w₀ at file)
    ∙ (λ i. record { nodes = λ q. each q i; moment = w₀.moment; others = w₀.others; children = w₀.children; inputs = w₀.inputs })

move_stands : (w₀ w : World) (at to piece : List ℕ) (answer : Answer) → IsAnswerTo (Rename at to) answer → IsRight (Rename at to) answer w → HasFront w₀ w at piece (length piece)
    → Stands w₀ at (Some to) piece (heard_move (length piece) answer) (after_call (Rename at to) answer w)
move_stands w₀ w at to piece (AnswerRename MovedDone) fits right h =
    let whole : w ≡ with_new w₀ at piece = h.new.is ∙ ap (with_new w₀ at) (take-length piece) in
    let far = moved_apart w₀ w at to piece whole right in
    record { is = ap (λ v. world_with (world_with v to (v.nodes at)) at None) whole ∙ moved_new w₀ at to piece far h.new.free; free = far.free }
move_stands w₀ w at to piece (AnswerRename MoveTaken) fits right h = h
move_stands w₀ w at to piece (AnswerRename MoveFailed) fits right h = h
move_stands w₀ w at to piece other fits right h = absurd fits

some_there : (x : Option Node) → RemovesRight x Absent → x ≡ None
some_there (Some n) h = absurd h
some_there None h = refl

-- the file is gone
removed_new : (w₀ w : World) (name bytes : List ℕ) → HasNew w₀ w name bytes → world_with w name None ≡ w₀
removed_new w₀ w name bytes h =
    let file = Some (AFile (record { bytes = bytes; made = w₀.moment })) in
    ap (λ v. world_with v name None) h.is ∙ put_put w₀ name file None ∙ put_same w₀ name None h.free

never_absent : (w₀ w : World) (name bytes : List ℕ) → HasNew w₀ w name bytes → RemovesRight (w.nodes name) Absent → ⊥
never_absent w₀ w name bytes h right =
    let file = Some (AFile (record { bytes = bytes; made = w₀.moment })) in
    let there : w.nodes name ≡ file = ap (λ v. v.nodes name) h.is ∙ get-put w₀ name file in
    let none : w.nodes name ≡ None = some_there (w.nodes name) right in
    cc

remove_stands : (w₀ w : World) (at : List ℕ) (to : Option (List ℕ)) (piece : List ℕ) (taken : ℕ) (gone : FileEnd) (answer : Answer) → IsAnswerTo (Remove at) answer → IsRight (Remove at) answer w
    → ((v : World) → v ≡ w₀ → EndLeaves w₀ v at to piece gone) → HasFront w₀ w at piece taken
    → Stands w₀ at to piece (heard_remove gone (FileTorn taken) answer) (after_call (Remove at) answer w)
remove_stands w₀ w at to piece taken gone (AnswerRemove RemovedDone) fits right as_before h = as_before _ (removed_new w₀ w at (take taken piece) h.new)
remove_stands w₀ w at to piece taken gone (AnswerRemove Absent) fits right as_before h = absurd (never_absent w₀ w at (take taken piece) h.new right)
remove_stands w₀ w at to piece taken gone (AnswerRemove RemoveFailed) fits right as_before h = h
remove_stands w₀ w at to piece taken gone other fits right as_before h = absurd fits

move_any : (w₀ w : World) (at : List ℕ) (to : Option (List ℕ)) (piece : List ℕ) (call : Call) (answer : Answer) → MoveAsks at to call → IsAnswerTo call answer → IsRight call answer w
    → HasFront w₀ w at piece (length piece) → Stands w₀ at to piece (heard_move (length piece) answer) (after_call call answer w)
move_any w₀ w at (Some to) piece call answer asks fits right h =
    subst (λ k. Stands w₀ at (Some to) piece (heard_move (length piece) answer) (after_call k answer w)) (sym asks)
    (move_stands w₀ w at to piece answer (subst (λ k. IsAnswerTo k answer) asks fits) (subst (λ k. IsRight k answer w) asks right) h)
move_any w₀ w at None piece call answer asks fits right h = absurd asks

write_stands : (w₀ w : World) (at : List ℕ) (to : Option (List ℕ)) (piece : List ℕ) (taken : ℕ) (call : Call) (answer : Answer) (b : Bool) → nat_eq taken (length piece) ≡ b
    → WriteAsks b at (drop taken piece) call → IsAnswerTo call answer → HasFront w₀ w at piece taken → Stands w₀ at to piece (heard_write (is_some to) taken answer) (after_call call answer w)
write_stands w₀ w at to piece taken call answer false e asks fits h =
    subst (λ k. Stands w₀ at to piece (heard_write (is_some to) taken answer) (after_call k answer w)) (sym asks.is)
    (append_stands w₀ w at to piece asks.part taken answer (subst (λ k. IsAnswerTo k answer) asks.is fits) asks.front h)
write_stands w₀ w at to piece taken call answer true e asks fits h =
    subst (λ k. Stands w₀ at to piece (heard_write (is_some to) taken answer) (after_call k answer w)) (sym asks)
    (sync_stands w₀ w at to piece taken answer (subst (λ k. IsAnswerTo k answer) asks fits) ((Decides-eqb taken (length piece)).0 e) h)

step_stands : (w₀ w : World) (c : Candidate) (piece : List ℕ) (at : FileState) (call : Call) (answer : Answer) → FileAsks c piece at call → IsAnswerTo call answer → IsRight call answer w
    → Stands w₀ c.at c.to piece at w → Stands w₀ c.at c.to piece (file_heard (is_some c.to) (length piece) at answer) (after_call call answer w)
step_stands w₀ w c piece Creating call answer asks fits right h =
    subst (λ k. Stands w₀ c.at c.to piece (heard_create answer) (after_call k answer w)) (sym asks)
    (create_stands w₀ w c.at c.to piece answer (subst (λ k. IsAnswerTo k answer) asks fits) (subst (λ k. IsRight k answer w) asks right) h)
step_stands w₀ w c piece (Writing taken) call answer asks fits right h =
    write_stands w₀ w c.at c.to piece taken call answer (nat_eq taken (length piece)) refl asks fits h
step_stands w₀ w c piece Moving call answer asks fits right h = move_any w₀ w c.at c.to piece call answer asks fits right h
step_stands w₀ w c piece Clearing call answer asks fits right h =
    subst (λ k. Stands w₀ c.at c.to piece (heard_remove Taken (FileTorn (length piece)) answer) (after_call k answer w)) (sym asks)
    (remove_stands w₀ w c.at c.to piece (length piece) Taken answer (subst (λ k. IsAnswerTo k answer) asks fits) (subst (λ k. IsRight k answer w) asks right) (λ v e. e) h)
step_stands w₀ w c piece (Removing taken) call answer asks fits right h =
    subst (λ k. Stands w₀ c.at c.to piece (heard_remove FileUndone (FileTorn taken) answer) (after_call k answer w)) (sym asks)
    (remove_stands w₀ w c.at c.to piece taken FileUndone answer (subst (λ k. IsAnswerTo k answer) asks fits) (subst (λ k. IsRight k answer w) asks right) (λ v e. e) h)
step_stands w₀ w c piece (Ended end) call answer asks fits right h = absurd asks

all_stand : (w₀ : World) (c : Candidate) (piece : List ℕ) (calls : List Logged) (at last : FileState) (w : World) → FileWalks c piece at calls last → AllRight calls w → Stands w₀ c.at c.to piece at w
    → Stands w₀ c.at c.to piece last (after_calls calls w)
all_stand w₀ c piece [] at last w walk right h = subst (λ s. Stands w₀ c.at c.to piece s w) (sym walk) h
all_stand w₀ c piece (k ∷ ks) at last w walk right h =
    all_stand w₀ c piece ks (file_heard (is_some c.to) (length piece) at k.answer) last (after_call k.call k.answer w) walk.2 right.1
    (step_stands w₀ w c piece at k.call k.answer walk.0 walk.1 right.0 h)

-- what the filing under one name leaves
pub try_leaves : (c : Candidate) (piece : List ℕ) (end : FileEnd) (calls : List Logged) (w : World) → TryGroup c piece end calls → AllRight calls w
    → EndLeaves w (after_calls calls w) c.at c.to piece end
try_leaves c piece end calls w g right = all_stand w c piece calls Creating (Ended end) w g right refl
