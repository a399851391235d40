-- The conditions of statements can be read where those of the text's spans can.
use Rattle.std.proofs.Common.{◌≡◌, ℕ, zero, suc, Bool, true, false, List, [], ◌∷◌, ◌++◌, Option, Some, None}
use Rattle.pm_recipe.specs.declared.tree.Condition.{Condition}
use Rattle.pm_recipe.specs.declared.building.Head.{Head}
use Rattle.pm_recipe.specs.declared.fronts.Kind.{Kind}
use Rattle.pm_recipe.specs.declared.fronts.Kind.TheVariants as kind
use Rattle.pm_recipe.specs.Item.{Item}
use Rattle.pm_recipe.specs.Item.Item.{Nothing, Begins, Judges, Does, Opens, Fails, Closes, States}
use Rattle.pm_recipe.specs.Tree.{Trees, Tree, Defect}
use Rattle.pm_recipe.specs.Build.{Ending, Rest, Ahead, first, others, put, ended, recipe_of, with_junk, with_condition, before, ahead_of}
use Rattle.pm_recipe.specs.Build.Ending.{Acts, Breaks}
use Rattle.pm_recipe.specs.Spans.{Span, start}
use Rattle.pm_recipe.specs.Spells.{Piece, spans_of, end_of}
use Rattle.pm_recipe.specs.Reads.{item_of, items_of}
use Rattle.pm_recipe.specs.Ends.{Blocks, no_blocks, blocks_behind, ends, missed, closings}
use Rattle.pm_recipe.specs.Listed.{pieces_of, rc_of}
use Rattle.check_find.specs.Faults.{fault_of}
use Rattle.check_find.specs.Statements.{AllRead, AreRead, IsRead, ActIsRead}
use Rattle.check_find.specs.Reports.{fault_at}

-- the conditions that an item says, and those of items
abbrev ItemReads : Item → Type 0
ItemReads (Judges condition) = fault_of condition ≡ None
ItemReads (Does act) = ActIsRead act
ItemReads (States tree) = IsRead tree
ItemReads _ = Unit {0}

abbrev ItemsRead : List Item → Type 0
ItemsRead [] = Unit {0}
ItemsRead (item ∷ items) = ItemReads item × ItemsRead items

-- those of what stands ahead of an item
abbrev EndReads : Ending → Type 0
EndReads (Acts act) = ActIsRead act
EndReads (Breaks line text) = Unit {0}

abbrev RestReads : Option Rest → Type 0
RestReads None = Unit {0}
RestReads (Some rest) = AllRead rest.conditions × EndReads rest.ending

abbrev ListsRead : List Trees → Type 0
ListsRead [] = Unit {0}
ListsRead (trees ∷ lists) = AreRead trees × ListsRead lists

record AheadReads (ahead : Ahead) : Type 0 where
  recipe : RestReads ahead.recipe
  lists : ListsRead ahead.lists

first-read : (lists : List Trees) → ListsRead lists → AreRead (first lists)
first-read [] r = tt
first-read (trees ∷ lists) r = r.0

others-read : (lists : List Trees) → ListsRead lists → ListsRead (others lists)
others-read [] r = tt
others-read (trees ∷ lists) r = r.1

put-read : (tree : Tree) (lists : List Trees) → IsRead tree → ListsRead lists → ListsRead (put tree lists)
put-read tree lists t r = ((t, first-read lists r), others-read lists r)

ended-read : (head : Head) (conditions : List Condition) (ending : Ending) → AllRead conditions → EndReads ending → IsRead (ended head conditions ending)
ended-read head conditions (Acts act) cs e = (cs, e)
ended-read head conditions (Breaks line text) cs e = tt

recipe-read : (head : Head) (rest : Option Rest) → RestReads rest → IsRead (recipe_of head [] rest)
recipe-read head None r = tt
recipe-read head (Some rest) r = ended-read head rest.conditions rest.ending r.0 r.1

junk-read : (head : Head) (junk : Bool) (lists : List Trees) → ListsRead lists → ListsRead (with_junk head junk lists)
junk-read head true lists r = put-read (Defect head.line head.text) lists tt r
junk-read head false lists r = r

judged-read : (condition : Condition) (rest : Option Rest) → fault_of condition ≡ None → RestReads rest → RestReads (with_condition condition rest)
judged-read condition None is r = tt
judged-read condition (Some rest) is r = ((is, r.0), r.1)

before-read : (item : Item) (ahead : Ahead) → ItemReads item → AheadReads ahead → AheadReads (before item ahead)
before-read Nothing ahead i a = a
before-read (Begins head junk) ahead i a = record {
  recipe = tt;
  lists = junk-read head junk (put (recipe_of head [] ahead.recipe) ahead.lists)
      (put-read (recipe_of head [] ahead.recipe) ahead.lists (recipe-read head ahead.recipe a.recipe) a.lists);
}
before-read (Judges condition) ahead i a = record { recipe = judged-read condition ahead.recipe i a.recipe; lists = a.lists }
before-read (Does act) ahead i a = record { recipe = (tt, i); lists = a.lists }
before-read Opens ahead i a = record { recipe = (tt, first-read ahead.lists a.lists); lists = others-read ahead.lists a.lists }
before-read (Fails line text) ahead i a = record { recipe = (tt, tt); lists = a.lists }
before-read Closes ahead i a = record { recipe = tt; lists = (tt, a.lists) }
before-read (States tree) ahead i a = record { recipe = tt; lists = put-read tree ahead.lists i a.lists }

ahead-read : (items : List Item) → ItemsRead items → AheadReads (ahead_of items)
ahead-read [] r = record { recipe = tt; lists = tt }
ahead-read (item ∷ items) r = before-read item (ahead_of items) r.0 (ahead-read items r.1)

items-append : (xs ys : List Item) → ItemsRead xs → ItemsRead ys → ItemsRead (xs ++ ys)
items-append [] ys a b = b
items-append (x ∷ xs) ys a b = (a.0, items-append xs ys a.1 b)

-- the conditions of a text's pieces can be read
abbrev pub PiecesRead : List Piece → Type 0
PiecesRead [] = Unit {0}
PiecesRead (piece ∷ pieces) = (fault_at piece.span.kind piece.span.text ≡ None) × PiecesRead pieces

said-read : (span : Span) (sort : Kind) → fault_at sort span.text ≡ None → ItemReads (item_of span sort)
said-read span kind.Condition is = is
said-read span kind.Gap is = tt
said-read span kind.Colon is = tt
said-read span kind.Mailbox is = tt
said-read span kind.Pipe is = tt
said-read span kind.WriteOut is = tt
said-read span kind.Capture is = tt
said-read span kind.Forward is = tt
said-read span kind.Open is = tt
said-read span kind.TooDeep is = tt
said-read span kind.Close is = tt
said-read span kind.Assign is = tt
said-read span kind.Unset is = tt
said-read span kind.Skipped is = tt

pieces-read : (pieces : List Piece) → PiecesRead pieces → ItemsRead (items_of (spans_of pieces))
pieces-read [] r = tt
pieces-read (piece ∷ pieces) r = (said-read piece.span piece.span.kind r.0, pieces-read pieces r.1)

ends-read : (depth : ℕ) → ItemsRead (ends depth)
ends-read zero = tt
ends-read (suc depth) = (tt, ends-read depth)

missed-read : (lines : List ℕ) (stopped : Bool) → ItemsRead (missed lines stopped)
missed-read [] stopped = tt
missed-read (line ∷ lines) true = tt
missed-read (line ∷ lines) false = (tt, tt)

closings-read : (depth : ℕ) (blocks : Blocks) → ItemsRead (closings depth blocks)
closings-read depth blocks = items-append (ends depth) (missed blocks.lines blocks.stopped) (ends-read depth) (missed-read blocks.lines blocks.stopped)

-- then those of its statements can
pub rc-read : (bytes : List ℕ) → PiecesRead (pieces_of bytes) → AreRead (rc_of bytes)
rc-read bytes r =
    let spans = spans_of (pieces_of bytes) in
    let depth = (end_of start (pieces_of bytes)).depth in
    let blocks = blocks_behind no_blocks spans in
    let items = items_of spans ++ closings depth blocks in
    first-read (ahead_of items).lists
    (ahead-read items (items-append (items_of spans) (closings depth blocks) (pieces-read (pieces_of bytes) r) (closings-read depth blocks))).lists
