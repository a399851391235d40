-- The lines of the pieces from a place of the text on, beside what the code has ahead there.
use Rattle.std.proofs.Common.{◌≡◌, ◌≤◌, ℕ, zero, suc, ◌+◌, Bool, true, false, not, ◌&&◌, ◌||◌, if◌then◌else◌, List, [], ◌∷◌, ◌++◌, map, drop, length, slice_get, Option, Some, None, refl, ap, sym, ◌∙◌, subst, append_assoc}
use Rattle.std.proofs.lemmas.Bool.{le-ltb}
use Rattle.pm_code.specs.Flat.{written}
use Rattle.pm_bytes.specs.Alphabet.{CLOSE_BRACE, COLON}
use Rattle.pm_recipe.specs.Bytes.{begins_with}
use Rattle.pm_recipe.specs.Build.{Ahead, Ending, Rest, Acts, Breaks, first, others, put, ended, recipe_of, with_junk, with_condition, before, ahead_of, top_of as head_top}
use Rattle.pm_recipe.specs.Colon.{has_junk, flags_of, flags_part, lock_of}
use Rattle.pm_recipe.specs.Ends.{closings, ends, missed, no_blocks, blocks_behind}
use Rattle.pm_recipe.specs.Item.{Item}
use Rattle.pm_recipe.specs.Joins.{unjoined}
use Rattle.pm_recipe.specs.Listed.{pieces_of, rc_of}
use Rattle.pm_recipe.specs.Reads.{item_of, items_of, head_of}
use Rattle.pm_recipe.specs.Refusal.{most_length}
use Rattle.pm_recipe.specs.Spans.{newlines, situation_after, start}
use Rattle.pm_recipe.specs.Spells.{Piece, IsCut, Spells, goes_on, end_of, spans_of}
use Rattle.pm_recipe.specs.Tree.{Top, Trees, nil, Tree, Assign, Unset, Recipe, Defect, Act, Mailbox, Pipe, Capture, Forward, WriteOut, Block}
use Rattle.pm_recipe.specs.Weights.{condition_of}
use Rattle.pm_recipe.specs.declared.building.Head.{Head}
use Rattle.pm_recipe.specs.declared.fronts.Kind.{Kind}
use Rattle.pm_recipe.specs.declared.fronts.Kind.TheVariants as kind
use Rattle.pm_recipe.specs.declared.fronts.Situation.{Situation}
use Rattle.pm_recipe.specs.declared.tree.Condition.{Condition}
use Rattle.pm_recipe.proofs.Pieces.{cut-text}
use Rattle.explain_notes.specs.RcLaws.{condition_in, top_at, AreLinesOf, HasLines, RecipesHaveLines}
use Rattle.explain_notes.specs.RcLines.{Lines}
use Rattle.explain_notes.specs.Steps.{line_of, conditions_before, conditions_in, steps_made, steps_of, lines_of, recipe_at, flat}
use Rattle.explain_notes.specs.declared.recipe.Line.{Line}
use Rattle.explain_notes.proofs.Fitting.{FitsOne, Fits, fits-none, fits-front, fits-at, fits-put, tops_of, tree_tops, tops-written, stack_tops}

-- the steps behind an action: those of its block, and those of the open blocks
abbrev act_tops : Act → List Trees → List (Option Top)
act_tops (Block trees) lists = tops_of trees ++ None ∷ stack_tops lists
act_tops act lists = stack_tops lists

abbrev ending_tops : Ending → List Trees → List (Option Top)
ending_tops (Acts act) lists = act_tops act lists
ending_tops (Breaks line text) lists = stack_tops lists

-- the steps behind a colon line whose recipe ends so
abbrev tops_after : Option Rest → List Trees → List (Option Top)
tops_after None lists = stack_tops lists
tops_after (Some rest) lists = ending_tops rest.ending lists

-- the lines are those of the conditions that are still to come
abbrev AreJudged : Option Rest → List Line → Type 0
AreJudged None lines = Unit {0}
AreJudged (Some rest) lines = rest.conditions ≡ map condition_in lines

-- what is ahead of the code, the lines of the conditions that come next, and those of the steps
record Stands (ahead : Ahead) (begun : Bool) (lines : List Line) (steps : List (Option Lines)) : Type 0 where
  fits : Fits (tops_after ahead.recipe ahead.lists) steps
  judged : AreJudged ahead.recipe lines
  none : begun ≡ false → ahead.recipe ≡ None

true_false : true ≡ false → ⊥
true_false e = cc

-- a recipe has begun
not_begun : {A : Type 0} (begun : Bool) → begun ≡ true → begun ≡ false → A
not_begun begun is isnt = absurd (true_false (sym is ∙ isnt))

and_left : (a b : Bool) → (a && b) ≡ true → a ≡ true
and_left true b e = refl
and_left false b e = e

-- where a line of a recipe goes on, one has begun
goes_on-begun : (situation : Situation) (text : List ℕ) → goes_on situation text ≡ true → situation.in_recipe ≡ true
goes_on-begun situation text e = and_left situation.in_recipe (not (begins_with CLOSE_BRACE text || begins_with COLON text)) e

-- no recipe has begun here
settled : (ahead : Ahead) (steps : List (Option Lines)) → ahead.recipe ≡ None → Fits (tops_after ahead.recipe ahead.lists) steps → Fits (stack_tops ahead.lists) steps
settled ahead steps e h = subst (λ (r : Option Rest). Fits (tops_after r ahead.lists) steps) e h

condition-tops : (condition : Condition) (recipe : Option Rest) (lists : List Trees) → tops_after (with_condition condition recipe) lists ≡ tops_after recipe lists
condition-tops condition None lists = refl
condition-tops condition (Some rest) lists = refl

condition-judged : (condition : Condition) (recipe : Option Rest) (line : Line) (lines : List Line) → condition ≡ condition_in line → AreJudged recipe lines
    → AreJudged (with_condition condition recipe) (line ∷ lines)
condition-judged condition None line lines e h = tt
condition-judged condition (Some rest) line lines e h =
    ap (λ (c : Condition). c ∷ rest.conditions) e ∙ ap (λ (cs : List Condition). condition_in line ∷ cs) h

-- a recipe before its steps
act-fits : (act : Act) (top : Top) (lists : List Trees) (lines : Lines) (steps : List (Option Lines)) → AreLinesOf lines top → Fits (act_tops act lists) steps
    → Fits (tree_tops (Recipe top act) ++ stack_tops lists) (Some lines ∷ steps)
act-fits (Mailbox text) top lists lines steps own h = (own, h)
act-fits (Pipe line) top lists lines steps own h = (own, h)
act-fits (Capture name line) top lists lines steps own h = (own, h)
act-fits (Forward text) top lists lines steps own h = (own, h)
act-fits WriteOut top lists lines steps own h = (own, h)
act-fits (Block trees) top lists lines steps own h =
    (own, subst (λ (ts : List (Option Top)). Fits ts steps) (sym (append_assoc (tops_of trees) (None ∷ []) (stack_tops lists))) h)

ended-fits : (ending : Ending) (head : Head) (conditions : List Condition) (lists : List Trees) (lines : Lines) (steps : List (Option Lines))
    → AreLinesOf lines (head_top head conditions) → Fits (ending_tops ending lists) steps
    → Fits (tree_tops (ended head conditions ending) ++ stack_tops lists) (Some lines ∷ steps)
ended-fits (Acts act) head conditions lists lines steps own h = act-fits act (head_top head conditions) lists lines steps own h
ended-fits (Breaks line text) head conditions lists lines steps own h = (tt, h)

-- the flags and the lock of a colon line
record IsHeadOf (head : Head) (line : Line) : Type 0 where
  flags : head.flags ≡ flags_of (flags_part line.text)
  lock : head.lock ≡ lock_of line.text

recipe-fits : (recipe : Option Rest) (head : Head) (lists : List Trees) (colon : Line) (lines : List Line) (steps : List (Option Lines))
    → IsHeadOf head colon → AreJudged recipe lines → Fits (tops_after recipe lists) steps
    → Fits (tree_tops (recipe_of head [] recipe) ++ stack_tops lists) (Some (record { colon = colon; conditions = lines }) ∷ steps)
recipe-fits None head lists colon lines steps is judged h = (tt, h)
recipe-fits (Some rest) head lists colon lines steps is judged h =
    ended-fits rest.ending head rest.conditions lists (record { colon = colon; conditions = lines }) steps
    (record { flags = is.flags; lock = is.lock; conditions = judged }) h

-- with what is logged of it in front
junk-fits : (junk : Bool) (head : Head) (tree : Tree) (lists : List Trees) (one : Option Lines) (steps : List (Option Lines))
    → Fits (stack_tops (put tree lists)) (one ∷ steps)
    → Fits (stack_tops (with_junk head junk (put tree lists))) (((if junk then None ∷ [] else []) ++ one ∷ []) ++ steps)
junk-fits true head tree lists one steps h = (tt, h)
junk-fits false head tree lists one steps h = h

open-fits : (lists : List Trees) (steps : List (Option Lines)) → Fits (stack_tops lists) steps
    → Fits (tops_of (first lists) ++ None ∷ stack_tops (others lists)) steps
open-fits [] steps h = fits-none [] steps h
open-fits (trees ∷ lists) steps h = h

-- what stands from a piece on
step : (sort : Kind) (situation : Situation) (piece : Piece) (pieces : List Piece) (ahead : Ahead) (behind : List ℕ)
    → Spells situation sort piece.span.name piece.span.text piece.bytes behind
    → Stands ahead (situation_after sort situation).in_recipe (conditions_in pieces) (steps_of pieces)
    → Stands (before (item_of piece.span sort) ahead) situation.in_recipe (conditions_before sort (line_of piece) (conditions_in pieces))
    (steps_made sort piece pieces ++ steps_of pieces)
step kind.Gap situation piece pieces ahead behind s h = record { fits = h.fits; judged = h.judged; none = h.none }
step kind.Colon situation piece pieces ahead behind s h = record {
  fits =
      let head = head_of piece.span.line piece.span.text in
      junk-fits (has_junk piece.span.text) head (recipe_of head [] ahead.recipe) ahead.lists (Some (record { colon = line_of piece; conditions = conditions_in pieces })) (steps_of pieces)
      (fits-put (recipe_of head [] ahead.recipe) ahead.lists (Some (record { colon = line_of piece; conditions = conditions_in pieces }) ∷ steps_of pieces)
      (recipe-fits ahead.recipe head ahead.lists (line_of piece) (conditions_in pieces) (steps_of pieces)
      (record { flags = ap (λ (t : List ℕ). flags_of (flags_part t)) (sym s.1); lock = ap lock_of (sym s.1) }) h.judged h.fits));
  judged = tt;
  none = λ isnt. refl;
}
step kind.Condition situation piece pieces ahead behind s h = record {
  fits = subst (λ (ts : List (Option Top)). Fits ts (steps_of pieces)) (sym (condition-tops (condition_of piece.span.text) ahead.recipe ahead.lists)) h.fits;
  judged = condition-judged (condition_of piece.span.text) ahead.recipe (line_of piece) (conditions_in pieces)
      (ap (λ (t : List ℕ). condition_of (drop 1 t)) (sym s.2.bytes_are)) h.judged;
  none = λ isnt. not_begun situation.in_recipe s.0 isnt;
}
step kind.Mailbox situation piece pieces ahead behind s h = record {
  fits = settled ahead (steps_of pieces) (h.none refl) h.fits;
  judged = refl;
  none = λ isnt. not_begun situation.in_recipe (goes_on-begun situation piece.bytes s.0.0) isnt;
}
step kind.Pipe situation piece pieces ahead behind s h = record {
  fits = settled ahead (steps_of pieces) (h.none refl) h.fits;
  judged = refl;
  none = λ isnt. not_begun situation.in_recipe s.0 isnt;
}
step kind.WriteOut situation piece pieces ahead behind s h = record {
  fits = settled ahead (steps_of pieces) (h.none refl) h.fits;
  judged = refl;
  none = λ isnt. not_begun situation.in_recipe s.0 isnt;
}
step kind.Capture situation piece pieces ahead behind s h = record {
  fits = settled ahead (steps_of pieces) (h.none refl) h.fits;
  judged = refl;
  none = λ isnt. not_begun situation.in_recipe s.0 isnt;
}
step kind.Forward situation piece pieces ahead behind s h = record {
  fits = settled ahead (steps_of pieces) (h.none refl) h.fits;
  judged = refl;
  none = λ isnt. not_begun situation.in_recipe s.0 isnt;
}
step kind.Open situation piece pieces ahead behind s h = record {
  fits = open-fits ahead.lists (steps_of pieces) (settled ahead (steps_of pieces) (h.none refl) h.fits);
  judged = refl;
  none = λ isnt. not_begun situation.in_recipe s.0 isnt;
}
step kind.TooDeep situation piece pieces ahead behind s h = record {
  fits = settled ahead (steps_of pieces) (h.none refl) h.fits;
  judged = refl;
  none = λ isnt. not_begun situation.in_recipe s.0 isnt;
}
step kind.Close situation piece pieces ahead behind s h = record {
  fits = (tt, settled ahead (steps_of pieces) (h.none refl) h.fits);
  judged = tt;
  none = λ isnt. refl;
}
step kind.Assign situation piece pieces ahead behind s h = record {
  fits = fits-put (Assign (unjoined piece.span.name) piece.span.text) ahead.lists (None ∷ steps_of pieces) (tt, settled ahead (steps_of pieces) (h.none refl) h.fits);
  judged = tt;
  none = λ isnt. refl;
}
step kind.Unset situation piece pieces ahead behind s h = record {
  fits = fits-put (Unset (unjoined piece.span.name)) ahead.lists (None ∷ steps_of pieces) (tt, settled ahead (steps_of pieces) (h.none refl) h.fits);
  judged = tt;
  none = λ isnt. refl;
}
step kind.Skipped situation piece pieces ahead behind s h = record {
  fits = fits-put (Defect piece.span.line piece.span.text) ahead.lists (None ∷ steps_of pieces) (tt, settled ahead (steps_of pieces) (h.none refl) h.fits);
  judged = tt;
  none = λ isnt. refl;
}

-- nothing but ends of blocks and what is logged of them
record IsQuiet (ahead : Ahead) : Type 0 where
  recipe : ahead.recipe ≡ None
  fits : Fits (stack_tops ahead.lists) []

quiet-missed : (lines : List ℕ) (stopped : Bool) → IsQuiet (ahead_of (missed lines stopped))
quiet-missed [] stopped = record { recipe = refl; fits = tt }
quiet-missed (line ∷ lines) true = record { recipe = refl; fits = tt }
quiet-missed (line ∷ lines) false = record { recipe = refl; fits = (tt, (tt, tt)) }

quiet-ends : (depth : ℕ) (items : List Item) → IsQuiet (ahead_of items) → IsQuiet (ahead_of (ends depth ++ items))
quiet-ends zero items q = q
quiet-ends (suc depth) items q = record { recipe = refl; fits = (tt, (quiet-ends depth items q).fits) }

quiet-stands : (ahead : Ahead) (begun : Bool) → IsQuiet ahead → Stands ahead begun [] []
quiet-stands ahead begun q = record {
  fits = subst (λ (r : Option Rest). Fits (tops_after r ahead.lists) []) (sym q.recipe) q.fits;
  judged = subst (λ (r : Option Rest). AreJudged r []) (sym q.recipe) tt;
  none = λ isnt. q.recipe;
}

stands : (line : ℕ) (situation : Situation) (pieces : List Piece) (text : List ℕ) (behind : List Item) → IsQuiet (ahead_of behind) → IsCut line situation pieces text
    → Stands (ahead_of (items_of (spans_of pieces) ++ behind)) situation.in_recipe (conditions_in pieces) (steps_of pieces)
stands line situation [] text behind q c = quiet-stands (ahead_of behind) situation.in_recipe q
stands line situation (piece ∷ pieces) text behind q c =
    step piece.span.kind situation piece pieces (ahead_of (items_of (spans_of pieces) ++ behind)) c.0 c.4
    (stands (line + newlines piece.bytes) (situation_after piece.span.kind situation) pieces c.0 behind q c.5)

first-fits : (lists : List Trees) (steps : List (Option Lines)) → Fits (stack_tops lists) steps → Fits (tops_of (first lists)) steps
first-fits [] steps h = tt
first-fits (trees ∷ lists) steps h = fits-front (tops_of trees) (None ∷ stack_tops lists) steps h

whole-fits : (text : List ℕ) → Fits (tops_of (rc_of text)) (steps_of (pieces_of text))
whole-fits text =
    let pieces = pieces_of text in
    let depth = (end_of start pieces).depth in
    let blocks = blocks_behind no_blocks (spans_of pieces) in
    let behind = closings depth blocks in
    let ahead = ahead_of (items_of (spans_of pieces) ++ behind) in
    let h = stands 1 start pieces text behind (quiet-ends depth (missed blocks.lines blocks.stopped) (quiet-missed blocks.lines blocks.stopped)) (cut-text text) in
    first-fits ahead.lists (steps_of pieces) (settled ahead (steps_of pieces) (h.none refl) h.fits)

read-lines : (text : List ℕ) → length text ≤ most_length → steps_of (pieces_of text) ≡ lines_of text
read-lines text few = rw (le-ltb most_length (length text) few)

pub recipes-have-lines : RecipesHaveLines
recipes-have-lines = λ text place top few e.
    subst (λ (ls : List (Option Lines)). HasLines (recipe_at place ls) top) (read-lines text few)
    (fits-at (tops_of (rc_of text)) (steps_of (pieces_of text)) place top (whole-fits text)
    (ap (λ (ts : List (Option Top)). flat (slice_get ts place)) (sym (tops-written 0 (rc_of text))) ∙ e))
