-- The calls of the tree, from the changes that they are made of.
use Rattle.std.proofs.Common.{◌≡◌, ℕ, ℤ, List, [], ◌++◌, length, take, Option, Some, None, is_some, false, true≢false, ◌⊎◌, inl, inr, refl, sym, ap, ◌∙◌, subst, arith}
use Rattle.std.proofs.lemmas.List.{same_lists, places, take_all}
use Rattle.std.specs.BTreeMap.{get_by_text}
use Rattle.pm_host.proofs.Put.{put_same}
use Rattle.pm_host.specs.World.{Step, LooksRight, IsFile, RenamesRight, grown, kept, world_with}
use Rattle.pm_host.specs.declared.answers.Cut.TheVariants.{Cut as CutDone, Failed as CutFailed}
use Rattle.pm_host.specs.declared.answers.Looked.{Looked}
use Rattle.pm_host.specs.declared.answers.Looked.TheVariants.{File as LookedFile, Folder as LookedFolder, Nothing}
use Rattle.pm_host.specs.declared.answers.Moved.TheVariants.{Moved as MovedDone, Taken, Failed as MoveFailed}
use Rattle.pm_host.specs.declared.answers.Took.TheVariants.{Took as TookSome, Failed as TookFailed}
use Rattle.pm_host.specs.declared.calls.Answer.TheVariants.{Look as AnswerLook, Append as AnswerAppend, Cut as AnswerCut, Rename as AnswerRename}
use Rattle.pm_host.specs.declared.calls.Call.TheVariants.{Look, Append, Cut as CutTo, Rename}
use Rattle.pm_host.specs.declared.nodes.Node.{Node}
use Rattle.pm_host.specs.declared.nodes.Node.TheVariants.{File as AFile, Folder as AFolder}
use Rattle.pm_overlay.specs.Changes.{made_at, changed, unchanged, front_with, stands, over, IsGrownFrom}
use Rattle.pm_overlay.specs.Steps.{Layer, Alters, IsStep, IsSame, Has, HoldsFile, Becomes, Grows, Copies, IsFree, IsFileAt}
use Rattle.pm_overlay.specs.declared.changed.Changed.{Changed}
use Rattle.pm_overlay.specs.declared.changed.Changed.TheVariants.{Gone}
use Rattle.pm_overlay.proofs.Alters.{both, alters_by, alters_with, holds_by, holds_always}

-- ---- looks

nothing_there : (n : Option Node) → LooksRight n Nothing → n ≡ None
nothing_there (Some (AFile f)) h = absurd h
nothing_there (Some AFolder) h = absurd h
nothing_there None h = refl

is_file : (n : Option Node) (len : ℕ) → LooksRight n (LookedFile len) → IsFile n
is_file (Some (AFile f)) len h = tt
is_file (Some AFolder) len h = absurd h
is_file None len h = absurd h

pub free_after : (a b : Layer) (name : List ℕ) → IsStep (Look name) (AnswerLook Nothing) a b → IsFree name b
free_after a b name s =
    holds_by (λ w. Step (Look name) (AnswerLook Nothing) (over a.changes a.slept w) (over b.changes b.slept w)) (λ w. (over b.changes b.slept w).nodes name ≡ None) b.base s.does
    (λ w h. ap (λ v. v.nodes name) h.made ∙ nothing_there ((over a.changes a.slept w).nodes name) h.right)

pub file_after : (a b : Layer) (name : List ℕ) (len : ℕ) → IsStep (Look name) (AnswerLook (LookedFile len)) a b → IsFileAt name len b
file_after a b name len s =
    holds_by (λ w. Step (Look name) (AnswerLook (LookedFile len)) (over a.changes a.slept w) (over b.changes b.slept w)) (λ w. LooksRight ((over b.changes b.slept w).nodes name) (LookedFile len)) b.base s.does
    (λ w h. subst (λ v. LooksRight (v.nodes name) (LookedFile len)) (sym h.made) h.right)

pub look_same : (a b : Layer) (name : List ℕ) (looked : Looked) → IsStep (Look name) (AnswerLook looked) a b → IsSame a b
look_same a b name looked s = alters_by (λ base v w. Step (Look name) (AnswerLook looked) v w) (λ base v w. w ≡ v) a b s (λ base v w h. h.made)

pub still_file : (a b : Layer) (name : List ℕ) (len : ℕ) → IsFileAt name len a → IsSame a b → IsFileAt name len b
still_file a b name len h s =
    (alters_with (λ base v w. w ≡ v) (λ base v. LooksRight (v.nodes name) (LookedFile len)) (λ base v w. LooksRight (w.nodes name) (LookedFile len)) a b s h
    (λ base v w l e. subst (λ u. LooksRight (u.nodes name) (LookedFile len)) (sym e) l)).does

-- ---- a file of the base among the changes

whole : (n : Option Node) (m : ℤ) (len : ℕ) → LooksRight (unchanged n m) (LookedFile len) → unchanged n m ≡ front_with n m len []
whole (Some (AFile f)) m len h = ap (λ bytes. Some (AFile (record { bytes = bytes; made = made_at m f.made }))) (same_lists f.bytes (take len f.bytes ++ []) (grind (arith, places)) (λ i d l. grind (arith, places)))
whole (Some AFolder) m len h = absurd h
whole None m len h = absurd h

pub held : (a b : Layer) (name : List ℕ) (len : ℕ) (this : Changed) → get_by_text a.changes name ≡ None → IsGrownFrom name len this → Has name this a b → HoldsFile name len a b
held a b name len this none g s =
    alters_with (λ base v w. w ≡ world_with v name (changed this base)) (λ base v. v.nodes name ≡ unchanged (base.nodes name) base.moment) (λ base v w. LooksRight (v.nodes name) (LookedFile len) → w ≡ v) a b s
    (holds_always (λ w. (over a.changes a.slept w).nodes name ≡ unchanged (w.nodes name) w.moment) a.base (λ w. ap (λ c. stands c w name) none))
    (λ base v w q p looks. p ∙ put_same v name (changed this base) (q ∙ whole (base.nodes name) base.moment len (subst (λ n. LooksRight n (LookedFile len)) q looks) ∙ sym (g base)))

-- ---- appends

pub grows : (a b c : Layer) (name : List ℕ) (len : ℕ) (piece : List ℕ) → HoldsFile name len a b → Becomes name (λ here. grown here piece) b c → Grows name len piece a c
grows a b c name len piece s t =
    both (λ base v w. LooksRight (v.nodes name) (LookedFile len) → w ≡ v) (λ base v w. w ≡ world_with v name (grown (v.nodes name) piece))
    (λ base v w. LooksRight (v.nodes name) (LookedFile len) → w ≡ world_with v name (grown (v.nodes name) piece)) a b c s t
    (λ base v w x k e looks. e ∙ ap (λ u. world_with u name (grown (u.nodes name) piece)) (k looks))

pub appended : (a b c : Layer) (name : List ℕ) (len n : ℕ) (piece : List ℕ) → length piece ≡ n → IsStep (Look name) (AnswerLook (LookedFile len)) a b → Grows name len piece b c
    → IsStep (Append name piece) (AnswerAppend (TookSome n)) a c
appended a b c name len n piece size s t =
    both (λ base v w. Step (Look name) (AnswerLook (LookedFile len)) v w) (λ base v w. LooksRight (v.nodes name) (LookedFile len) → w ≡ world_with v name (grown (v.nodes name) piece))
    (λ base v w. Step (Append name piece) (AnswerAppend (TookSome n)) v w) a b c s t
    (λ base v w x h k. record {
      right = is_file (v.nodes name) len h.right;
      made =
          k (subst (λ u. LooksRight (u.nodes name) (LookedFile len)) (sym h.made) h.right) ∙ ap (λ u. world_with u name (grown (u.nodes name) piece)) h.made
          ∙ ap (λ p. world_with v name (grown (v.nodes name) p)) (sym (take_all n piece (omega (arith, size))));
    })

pub not_appended : (a b c : Layer) (name : List ℕ) (len : ℕ) (piece : List ℕ) → IsStep (Look name) (AnswerLook (LookedFile len)) a b → HoldsFile name len b c → IsStep (Append name piece) (AnswerAppend TookFailed) a c
not_appended a b c name len piece s t =
    both (λ base v w. Step (Look name) (AnswerLook (LookedFile len)) v w) (λ base v w. LooksRight (v.nodes name) (LookedFile len) → w ≡ v) (λ base v w. Step (Append name piece) (AnswerAppend TookFailed) v w) a b c s t
    (λ base v w x h k. record { right = tt; made = k (subst (λ u. LooksRight (u.nodes name) (LookedFile len)) (sym h.made) h.right) ∙ h.made })

-- ---- cuts

pub looked_held : (a b c : Layer) (name : List ℕ) (len : ℕ) → IsStep (Look name) (AnswerLook (LookedFile len)) a b → HoldsFile name len b c → Alters (λ base v w. IsFile (v.nodes name) × (w ≡ v)) a c
looked_held a b c name len s t =
    both (λ base v w. Step (Look name) (AnswerLook (LookedFile len)) v w) (λ base v w. LooksRight (v.nodes name) (LookedFile len) → w ≡ v) (λ base v w. IsFile (v.nodes name) × (w ≡ v)) a b c s t
    (λ base v w x h k. (is_file (v.nodes name) len h.right, k (subst (λ u. LooksRight (u.nodes name) (LookedFile len)) (sym h.made) h.right) ∙ h.made))

pub was_cut : (a b c : Layer) (name : List ℕ) (len : ℕ) → Alters (λ base v w. IsFile (v.nodes name) × (w ≡ v)) a b → Becomes name (λ here. kept here len) b c → IsStep (CutTo name len) (AnswerCut CutDone) a c
was_cut a b c name len s t =
    both (λ base v w. IsFile (v.nodes name) × (w ≡ v)) (λ base v w. w ≡ world_with v name (kept (v.nodes name) len)) (λ base v w. Step (CutTo name len) (AnswerCut CutDone) v w) a b c s t
    (λ base v w x h e. record { right = h.0; made = e ∙ ap (λ u. world_with u name (kept (u.nodes name) len)) h.1 })

pub not_cut : (a b c : Layer) (name : List ℕ) (len : ℕ) → Alters (λ base v w. IsFile (v.nodes name) × (w ≡ v)) a b → IsSame b c → IsStep (CutTo name len) (AnswerCut CutFailed) a c
not_cut a b c name len s t =
    both (λ base v w. IsFile (v.nodes name) × (w ≡ v)) (λ base v w. w ≡ v) (λ base v w. Step (CutTo name len) (AnswerCut CutFailed) v w) a b c s t (λ base v w x h e. record { right = tt; made = e ∙ h.1 })

-- ---- renames

pub same_held : (a b c : Layer) (name : List ℕ) (len : ℕ) → IsFileAt name len a → IsSame a b → HoldsFile name len b c → IsSame a c
same_held a b c name len h s t =
    alters_with (λ base v w. LooksRight (v.nodes name) (LookedFile len) → w ≡ v) (λ base v. LooksRight (v.nodes name) (LookedFile len)) (λ base v w. w ≡ v) a c
    (both (λ base v w. w ≡ v) (λ base v w. LooksRight (v.nodes name) (LookedFile len) → w ≡ v) (λ base v w. LooksRight (v.nodes name) (LookedFile len) → w ≡ v) a b c s t
    (λ base v w x e k looks. k (subst (λ u. LooksRight (u.nodes name) (LookedFile len)) (sym e) looks) ∙ e)) h (λ base v w looks k. k looks)

may_move : (here there : Option Node) (len : ℕ) → LooksRight here (LookedFile len) → there ≡ None → RenamesRight here there MovedDone
may_move here there len h e = subst (λ t. RenamesRight here t MovedDone) (sym e) (is_file here len h)

pub was_moved : (a b c d : Layer) (from to : List ℕ) (len : ℕ) → IsFileAt from len a → IsFree to a → IsSame a b → Copies from to b c → Has from Gone c d → IsStep (Rename from to) (AnswerRename MovedDone) a d
was_moved a b c d from to len file free s t u =
    let gone = both (λ base v w. w ≡ v) (λ base v w. w ≡ world_with v to (v.nodes from)) (λ base v w. w ≡ world_with v to (v.nodes from)) a b c s t (λ base v w x e k. k ∙ ap (λ z. world_with z to (z.nodes from)) e) in
    let done = both (λ base v w. w ≡ world_with v to (v.nodes from)) (λ base v w. w ≡ world_with v from None) (λ base v w. w ≡ world_with (world_with v to (v.nodes from)) from None) a c d gone u (λ base v w x e k. k ∙ ap (λ z. world_with z from None) e) in
    let with_file = alters_with (λ base v w. w ≡ world_with (world_with v to (v.nodes from)) from None) (λ base v. LooksRight (v.nodes from) (LookedFile len))
    (λ base v w. LooksRight (v.nodes from) (LookedFile len) × (w ≡ world_with (world_with v to (v.nodes from)) from None)) a d done file (λ base v w l e. (l, e)) in
    alters_with (λ base v w. LooksRight (v.nodes from) (LookedFile len) × (w ≡ world_with (world_with v to (v.nodes from)) from None)) (λ base v. v.nodes to ≡ None)
    (λ base v w. Step (Rename from to) (AnswerRename MovedDone) v w) a d with_file free (λ base v w none h. record { right = may_move (v.nodes from) (v.nodes to) len h.0 none; made = h.1 })

failed : (here there : Option Node) → RenamesRight here there MoveFailed
failed here None = tt
failed here (Some n) = tt

stands_there : (here there : Option Node) (looked : Looked) → LooksRight there looked → (((len : ℕ) × (looked ≡ LookedFile len)) ⊎ (looked ≡ LookedFolder)) → RenamesRight here there Taken
stands_there here (Some n) looked h is = tt
stands_there here None looked h (inl is) = absurd (subst (LooksRight None) is.1 h)
stands_there here None looked h (inr is) = absurd (subst (LooksRight None) is h)

pub is_taken : (a b c : Layer) (from to : List ℕ) (first second : Looked) → IsStep (Look from) (AnswerLook first) a b → IsStep (Look to) (AnswerLook second) b c
    → (((len : ℕ) × (second ≡ LookedFile len)) ⊎ (second ≡ LookedFolder)) → IsStep (Rename from to) (AnswerRename Taken) a c
is_taken a b c from to first second s t is =
    both (λ base v w. Step (Look from) (AnswerLook first) v w) (λ base v w. Step (Look to) (AnswerLook second) v w) (λ base v w. Step (Rename from to) (AnswerRename Taken) v w) a b c s t
    (λ base v w x h k. record { right = stands_there (v.nodes from) (v.nodes to) second (subst (λ u. LooksRight (u.nodes to) second) h.made k.right) is; made = k.made ∙ h.made })

pub none_of : {T : Type 0} (x : Option T) → is_some x ≡ false → x ≡ None
none_of (Some y) e = absurd (true≢false e)
none_of None e = refl

pub not_moved : (a b c : Layer) (from to : List ℕ) → IsSame a b → IsSame b c → IsStep (Rename from to) (AnswerRename MoveFailed) a c
not_moved a b c from to s t =
    both (λ base v w. w ≡ v) (λ base v w. w ≡ v) (λ base v w. Step (Rename from to) (AnswerRename MoveFailed) v w) a b c s t (λ base v w x e k. record { right = failed (v.nodes from) (v.nodes to); made = k ∙ e })
