-- A copy has the items of the process that it was made from, with no lock.
use Rattle.std.proofs.Common.{◌≡◌, ◌∙◌, ◌+◌, ◌-◌, ℕ, true, false, List, [], ◌∷◌, ◌++◌, Option, Some, None, map, drop, refl, sym, ap}
use Rattle.pm_recipe.specs.Tree.{Trees, nil, cons}
use Rattle.pm_code.specs.Flat.{flats_of}
use Rattle.pm_code.specs.Ahead.{first, others, lists_of}
use Rattle.pm_meaning.specs.declared.chain.Chain.{Chain}
use Rattle.pm_meaning.specs.Running.{Item, Do, BlockEnd, FileEnd, ahead, unlocked, inside}
use Rattle.pm_run.specs.Frames.{weave, end_of, outer_items, items_of, steps_of}
use Rattle.pm_run.specs.Nested.{Frame, are_nested, goes_back, back_then, frame_waiting, frames_in, items_in, name_first, outer_frames}
use Rattle.pm_run.specs.Copies.{block_at, copied_frames, unlocked_block, unlocked_frame}
use Rattle.pm_run.specs.declared.frames.Open.{Open}
use Rattle.pm_run.specs.declared.frames.Waiting.{Waiting}
use Rattle.pm_run.specs.declared.frames.Frames.{Frames}

unlocked_ahead : (trees : Trees) (rest : List Item) → unlocked (ahead trees rest) ≡ ahead trees (unlocked rest)
unlocked_ahead nil rest = refl
unlocked_ahead (cons tree trees) rest = ap (λ l. Do tree ∷ l) (unlocked_ahead trees rest)

unlocked_woven : (lists : List Trees) (blocks : List Open) (rest : List Item) → unlocked (weave lists blocks rest) ≡ weave lists (map unlocked_block blocks) (unlocked rest)
unlocked_woven lists [] rest = unlocked_ahead (first lists) rest
unlocked_woven lists (block ∷ blocks) rest =
    unlocked_ahead (first lists) (end_of block ∷ weave (others lists) blocks rest)
    ∙ ap (λ l. ahead (first lists) (BlockEnd block.saved None ∷ l)) (unlocked_woven (others lists) blocks rest)

-- those that wait, as frames
pub outer_as_frames : (ws : List Waiting) → back_then (name_first ws) (items_in (outer_frames ws)) ≡ outer_items ws
outer_as_frames [] = refl
outer_as_frames (w ∷ ws) = ap (λ l. FileEnd w.name ∷ weave (lists_of (drop w.place (flats_of w.code.steps.items))) w.blocks.items l) (outer_as_frames ws)

-- all of a process that runs
pub items_as_frames : (f : Frames) → items_in (frames_in f) ≡ items_of f
items_as_frames f = ap (weave (lists_of (drop f.place (steps_of f))) f.blocks.items) (outer_as_frames f.outer.items)

-- the same in a copy
unlocked_outside : (ws : List Waiting) → back_then (name_first ws) (items_in (map unlocked_frame (outer_frames ws))) ≡ unlocked (outer_items ws)
unlocked_outside [] = refl
unlocked_outside (w ∷ ws) =
    let lists = lists_of (drop w.place (flats_of w.code.steps.items)) in
    ap (λ l. FileEnd w.name ∷ weave lists (map unlocked_block w.blocks.items) l) (unlocked_outside ws)
    ∙ sym (ap (λ l. FileEnd w.name ∷ l) (unlocked_woven lists w.blocks.items (outer_items ws)))

-- a block without a lock is entered, and after it stands what is left
block_copied : (there here : List Trees) (enter : ℕ) (chain : Chain) (blocks : List Open) (rest : List Item) → weave (others there) blocks rest ≡ weave here blocks rest
    → weave there (record { enter = enter; saved = chain; lock = None } ∷ map unlocked_block blocks) (unlocked rest) ≡ unlocked (inside (first there) chain None (weave here blocks rest))
block_copied there here enter chain blocks rest behind =
    ap (λ l. ahead (first there) (BlockEnd chain None ∷ l)) (sym (unlocked_woven (others there) blocks rest) ∙ ap unlocked behind)
    ∙ sym (unlocked_ahead (first there) (BlockEnd chain None ∷ weave here blocks rest))

-- the frames of a copy are what its process does in the block and after it
pub frames_copied : (place : ℕ) (chain : Chain) (f : Frames)
    → ((blocks : List Open) (rest : List Item) → weave (others (lists_of (drop place (steps_of f)))) blocks rest ≡ weave (lists_of (drop f.place (steps_of f))) blocks rest)
    → items_in (copied_frames place chain (frames_in f)) ≡ unlocked (inside (block_at place f) chain None (items_of f))
frames_copied place chain f behind =
    let there = lists_of (drop place (steps_of f)) in
    let here = lists_of (drop f.place (steps_of f)) in
    let blocks : List Open = record { enter = place - 1; saved = chain; lock = None } ∷ map unlocked_block f.blocks.items in
    ap (weave there blocks) (unlocked_outside f.outer.items)
    ∙ block_copied there here (place - 1) chain f.blocks.items (outer_items f.outer.items) (behind f.blocks.items (outer_items f.outer.items))

-- the rcfiles of a process that runs are nested, and so are those of a copy
outer_nested : (ws : List Waiting) → goes_back (name_first ws) (outer_frames ws) ≡ true
outer_nested [] = refl
outer_nested (w ∷ ws) = outer_nested ws

unlocked_nested : (back : Option (List ℕ)) (fs : List Frame) → goes_back back (map unlocked_frame fs) ≡ goes_back back fs
unlocked_nested None [] = refl
unlocked_nested None (f ∷ fs) = refl
unlocked_nested (Some name) [] = refl
unlocked_nested (Some name) (f ∷ fs) = unlocked_nested f.back fs

pub copied_nested : (place : ℕ) (chain : Chain) (f : Frames) → are_nested (copied_frames place chain (frames_in f)) ≡ true
copied_nested place chain f = unlocked_nested (name_first f.outer.items) (outer_frames f.outer.items) ∙ outer_nested f.outer.items

-- the last of nested frames goes back to those after it
goes_last : (back : Option (List ℕ)) (fs : List Frame) (f : Frame) (gs : List Frame) → goes_back back (fs ++ f ∷ gs) ≡ true → goes_back f.back gs ≡ true
goes_last None [] f gs h = let e : false ≡ true = h in absurd (cc)
goes_last None (d ∷ fs) f gs h = let e : false ≡ true = h in absurd (cc)
goes_last (Some name) [] f gs h = h
goes_last (Some name) (d ∷ fs) f gs h = goes_last d.back fs f gs h

pub nested_last : (fs : List Frame) (f : Frame) (gs : List Frame) → are_nested (fs ++ f ∷ gs) ≡ true → goes_back f.back gs ≡ true
nested_last [] f gs h = h
nested_last (e ∷ fs) f gs h = goes_last e.back fs f gs h

-- with the first frame put before it, what waits grows
pub waits_before : (i : ℕ) (w : Waiting) (ws : List Waiting) → drop i ws ≡ w ∷ drop (i + 1) ws → outer_frames (drop i ws) ≡ frame_waiting w (name_first (drop (i + 1) ws)) ∷ outer_frames (drop (i + 1) ws)
waits_before i w ws e = ap outer_frames e
