-- The items of a cut have a reading by the grammar.
use Rattle.std.proofs.Common.{◌≡◌, ◌+◌, ◌-◌, ◌<◌, ◌||◌, not, ℕ, zero, suc, List, [], ◌∷◌, ◌++◌, Bool, true, false, refl, ap, sym, ◌∙◌, subst, append_assoc, arith}
use Rattle.pm_recipe.specs.declared.tree.Condition.{Condition}
use Rattle.pm_recipe.specs.declared.building.Head.{Head}
use Rattle.pm_recipe.specs.declared.fronts.Situation.{Situation}
use Rattle.pm_recipe.specs.declared.fronts.Kind.{Kind}
use Rattle.pm_recipe.specs.declared.fronts.Kind.TheVariants as kind
use Rattle.pm_recipe.specs.Item.{Item}
use Rattle.pm_recipe.specs.Item.Item.{Nothing, Begins, Judges, Does, Opens, Fails, Closes, States}
use Rattle.pm_recipe.specs.Tree.{Trees, Act, nil, cons, Block, Defect}
use Rattle.pm_recipe.specs.Build.{tree_of_items}
use Rattle.pm_recipe.specs.Reads.{item_of}
use Rattle.pm_recipe.specs.Spans.{Span, newlines, situation_after, start}
use Rattle.pm_recipe.specs.Spells.{Spells, Piece, IsCut}
use Rattle.pm_recipe.specs.Ends.{Blocks, no_blocks, blocks_after, missed, closings}
use Rattle.pm_recipe.specs.Listed.{items_from}
use Rattle.pm_recipe.specs.Lists.{Conditions, Lists, Acts, told, recipe}
use Rattle.pm_recipe.specs.Lists.Conditions.{Last, Between, One}
use Rattle.pm_recipe.specs.Lists.Lists.{End, Gap, Statement, Ruled, Wanting, Deep}
use Rattle.pm_recipe.specs.Lists.Acts.{Plain, Braces}
use Rattle.pm_bytes.specs.Alphabet.{CLOSE_BRACE, COLON}
use Rattle.pm_recipe.specs.Bytes.{begins_with}
use Rattle.pm_recipe.proofs.Forms.{and-left}
use Rattle.pm_recipe.proofs.Listing.{lists-tree}

-- items that can follow where so many blocks are open, and a recipe has begun or not
abbrev Fits : List Item → ℕ → Bool → Type 0
Fits [] depth begun = depth ≡ 0
Fits (Nothing ∷ items) depth begun = Fits items depth begun
Fits (Begins head junk ∷ items) depth begun = Fits items depth true
Fits (Judges condition ∷ items) depth begun = (begun ≡ true) × Fits items depth true
Fits (Does act ∷ items) depth begun = (begun ≡ true) × Fits items depth false
Fits (Opens ∷ items) depth begun = (begun ≡ true) × Fits items (suc depth) false
Fits (Fails line text ∷ items) depth begun = (begun ≡ true) × Fits items depth false
Fits (Closes ∷ items) depth begun = (less : ℕ) × (depth ≡ suc less) × Fits items less false
Fits (States tree ∷ items) depth begun = Fits items depth false

-- items that are statements
record AreListed (items : List Item) : Type 0 where
  trees : Trees
  lists : Lists items trees

-- statements in a block, its brace, and what stands after it
record InBlock (Outer : List Item → Type 0) (items : List Item) : Type 0 where
  inner : List Item
  rest : List Item
  trees : Trees
  items_are : items ≡ inner ++ (Closes ∷ rest)
  lists : Lists inner trees
  outer : Outer rest

-- statements, and after each block that is open its brace and more statements
abbrev Parsed : ℕ → List Item → Type 0
Parsed zero items = AreListed items
Parsed (suc depth) items = InBlock (λ rest. Parsed depth rest) items

-- what ends a recipe, and statements after it
data IsTail (depth : ℕ) (items : List Item) : Type 0 where
  Acted : (action more : List Item) (act : Act) → items ≡ action ++ more → Acts action act → Parsed depth more → IsTail depth items
  Broken : (line : ℕ) (text : List ℕ) (more : List Item) → items ≡ Fails line text ∷ more → Parsed depth more → IsTail depth items
  None : Parsed depth items → IsTail depth items

-- conditions, and what ends their recipe
record IsBegun (depth : ℕ) (items : List Item) : Type 0 where
  conditions : List Item
  rest : List Item
  judged : List Condition
  items_are : items ≡ conditions ++ rest
  judges : Conditions conditions judged
  tail : IsTail depth rest

abbrev State : Bool → ℕ → List Item → Type 0
State true depth items = IsBegun depth items
State false depth items = Parsed depth items

prefix : (front : List Item) → ((items : List Item) (trees : Trees) → Lists items trees → AreListed (front ++ items)) → (depth : ℕ) (items : List Item)
    → Parsed depth items → Parsed depth (front ++ items)
prefix front build zero items p = build items p.trees p.lists
prefix front build (suc depth) items p =
    let made = build p.inner p.trees p.lists in
    record {
      inner = front ++ p.inner;
      rest = p.rest;
      trees = made.trees;
      items_are = ap (λ xs. front ++ xs) p.items_are ∙ sym (append_assoc front p.inner (Closes ∷ p.rest));
      lists = made.lists;
      outer = p.outer;
    }

stated : (begun : Bool) (depth : ℕ) (items : List Item) → Parsed depth items → State begun depth items
stated true depth items p = record { conditions = []; rest = items; judged = []; items_are = refl; judges = Last; tail = None p }
stated false depth items p = p

nothing : (begun : Bool) (depth : ℕ) (items : List Item) → State begun depth items → State begun depth (Nothing ∷ items)
nothing true depth items b = record {
  conditions = Nothing ∷ b.conditions;
  rest = b.rest;
  judged = b.judged;
  items_are = ap (λ xs. Nothing ∷ xs) b.items_are;
  judges = Between b.conditions b.judged b.judges;
  tail = b.tail;
}
nothing false depth items p = prefix (Nothing ∷ []) (λ inner trees l. record { trees = trees; lists = Gap inner trees l }) depth items p

judge : (condition : Condition) (depth : ℕ) (items : List Item) → IsBegun depth items → IsBegun depth (Judges condition ∷ items)
judge condition depth items b = record {
  conditions = Judges condition ∷ b.conditions;
  rest = b.rest;
  judged = condition ∷ b.judged;
  items_are = ap (λ xs. Judges condition ∷ xs) b.items_are;
  judges = One condition b.conditions b.judged b.judges;
  tail = b.tail;
}

-- a recipe from its colon line on
begin : (head : Head) (junk : Bool) (depth : ℕ) (items : List Item) → IsBegun depth items → Parsed depth (Begins head junk ∷ items)
begin head junk depth items b =
    subst (λ xs. Parsed depth (Begins head junk ∷ xs)) (sym b.items_are) (by b.rest b.tail)
  where
    by : (rest : List Item) → IsTail depth rest → Parsed depth (Begins head junk ∷ (b.conditions ++ rest))
    by rest (Acted action more act is a p) =
        let all_is : (b.conditions ++ action) ++ more ≡ b.conditions ++ rest =
        append_assoc b.conditions action more ∙ ap (λ xs. b.conditions ++ xs) (sym is) in
        subst (λ xs. Parsed depth (Begins head junk ∷ xs)) all_is
        (prefix (Begins head junk ∷ (b.conditions ++ action)) (λ inner trees l. record {
          trees = told junk head (cons (recipe head b.judged act) trees);
          lists = subst (λ xs. Lists (Begins head junk ∷ xs) (told junk head (cons (recipe head b.judged act) trees))) (sym (append_assoc b.conditions action inner))
              (Ruled head junk b.conditions action inner b.judged act trees b.judges a l);
        }) depth more p)
    by rest (Broken line text more is p) =
        let all_is : (b.conditions ++ (Fails line text ∷ [])) ++ more ≡ b.conditions ++ rest =
        append_assoc b.conditions (Fails line text ∷ []) more ∙ ap (λ xs. b.conditions ++ xs) (sym is) in
        subst (λ xs. Parsed depth (Begins head junk ∷ xs)) all_is
        (prefix (Begins head junk ∷ (b.conditions ++ (Fails line text ∷ []))) (λ inner trees l. record {
          trees = told junk head (cons (Defect line text) trees);
          lists = subst (λ xs. Lists (Begins head junk ∷ xs) (told junk head (cons (Defect line text) trees))) (sym (append_assoc b.conditions (Fails line text ∷ []) inner))
              (Deep head junk b.conditions inner b.judged line text trees b.judges l);
        }) depth more p)
    by rest (None p) =
        prefix (Begins head junk ∷ b.conditions) (λ inner trees l. record {
          trees = told junk head (cons (Defect head.line head.text) trees);
          lists = Wanting head junk b.conditions inner b.judged trees b.judges l;
        }) depth rest p

acting : (action more : List Item) (act : Act) (depth : ℕ) → Acts action act → Parsed depth more → IsBegun depth (action ++ more)
acting action more act depth a p = record {
  conditions = [];
  rest = action ++ more;
  judged = [];
  items_are = refl;
  judges = Last;
  tail = Acted action more act refl a p;
}

opening : (items : List Item) (depth : ℕ) → InBlock (λ rest. Parsed depth rest) items → IsBegun depth (Opens ∷ items)
opening items depth b =
    let all_is : (Opens ∷ (b.inner ++ (Closes ∷ []))) ++ b.rest ≡ Opens ∷ items =
    ap (λ xs. Opens ∷ xs) (append_assoc b.inner (Closes ∷ []) b.rest ∙ sym b.items_are) in
    subst (λ xs. IsBegun depth xs) all_is (acting (Opens ∷ (b.inner ++ (Closes ∷ []))) b.rest (Block b.trees) depth (Braces b.inner b.trees b.lists) b.outer)

failing : (line : ℕ) (text : List ℕ) (items : List Item) (depth : ℕ) → Parsed depth items → IsBegun depth (Fails line text ∷ items)
failing line text items depth p = record {
  conditions = [];
  rest = Fails line text ∷ items;
  judged = [];
  items_are = refl;
  judges = Last;
  tail = Broken line text items refl p;
}

parse : (items : List Item) (depth : ℕ) (begun : Bool) → Fits items depth begun → State begun depth items
parse [] depth begun f = stated begun depth [] (subst (λ d. Parsed d []) (sym f) (record { trees = nil; lists = End }))
parse (Nothing ∷ items) depth begun f = nothing begun depth items (parse items depth begun f)
parse (Begins head junk ∷ items) depth begun f = stated begun depth (Begins head junk ∷ items) (begin head junk depth items (parse items depth true f))
parse (Judges condition ∷ items) depth begun f =
    subst (λ b. State b depth (Judges condition ∷ items)) (sym f.0) (judge condition depth items (parse items depth true f.1))
parse (Does act ∷ items) depth begun f =
    subst (λ b. State b depth (Does act ∷ items)) (sym f.0) (acting (Does act ∷ []) items act depth (Plain act) (parse items depth false f.1))
parse (Opens ∷ items) depth begun f =
    subst (λ b. State b depth (Opens ∷ items)) (sym f.0) (opening items depth (parse items (suc depth) false f.1))
parse (Fails line text ∷ items) depth begun f =
    subst (λ b. State b depth (Fails line text ∷ items)) (sym f.0) (failing line text items depth (parse items depth false f.1))
parse (Closes ∷ items) depth begun f =
    stated begun depth (Closes ∷ items) (subst (λ d. Parsed d (Closes ∷ items)) (sym f.1)
    (record { inner = []; rest = items; trees = nil; items_are = refl; lists = End; outer = parse items f.0 false f.2 }))
parse (States tree ∷ items) depth begun f =
    stated begun depth (States tree ∷ items)
    (prefix (States tree ∷ []) (λ inner trees l. record { trees = cons tree trees; lists = Statement tree inner trees l }) depth items (parse items depth false f))

-- the items of a cut fit
fits-one : (situation : Situation) (span : Span) (sort : Kind) (bytes last : List ℕ) (items : List Item) → Spells situation sort span.name span.text bytes last
    → Fits items (situation_after sort situation).depth (situation_after sort situation).in_recipe
    → Fits (item_of span sort ∷ items) situation.depth situation.in_recipe
fits-one situation span kind.Gap bytes last items s f = f
fits-one situation span kind.Colon bytes last items s f = f
fits-one situation span kind.Condition bytes last items s f = (s.0, subst (λ b. Fits items situation.depth b) s.0 f)
fits-one situation span kind.Mailbox bytes last items s f =
    (and-left situation.in_recipe (not (begins_with CLOSE_BRACE bytes || begins_with COLON bytes)) s.0.0, f)
fits-one situation span kind.Pipe bytes last items s f = (s.0, f)
fits-one situation span kind.WriteOut bytes last items s f = (s.0, f)
fits-one situation span kind.Capture bytes last items s f = (s.0, f)
fits-one situation span kind.Forward bytes last items s f = (s.0, f)
fits-one situation span kind.Open bytes last items s f =
    let more : situation.depth + 1 ≡ suc situation.depth = omega arith in (s.0, subst (λ d. Fits items d false) more f)
fits-one situation span kind.TooDeep bytes last items s f = (s.0, f)
fits-one situation span kind.Close bytes last items s f =
    let some : 0 < situation.depth = s.0 in
    let less : situation.depth ≡ suc (situation.depth - 1) = omega (arith, some) in (situation.depth - 1, less, f)
fits-one situation span kind.Assign bytes last items s f = f
fits-one situation span kind.Unset bytes last items s f = f
fits-one situation span kind.Skipped bytes last items s f = f

fits-missed : (lines : List ℕ) (stopped begun : Bool) → Fits (missed lines stopped) zero begun
fits-missed [] stopped begun = refl
fits-missed (line ∷ lines) true begun = refl
fits-missed (line ∷ lines) false begun = refl

fits-closings : (depth : ℕ) (blocks : Blocks) (begun : Bool) → Fits (closings depth blocks) depth begun
fits-closings zero blocks begun = fits-missed blocks.lines blocks.stopped begun
fits-closings (suc depth) blocks begun = (depth, refl, fits-closings depth blocks false)

fits : (line : ℕ) (situation : Situation) (blocks : Blocks) (pieces : List Piece) (text : List ℕ) → IsCut line situation pieces text
    → Fits (items_from situation blocks pieces) situation.depth situation.in_recipe
fits line situation blocks [] text c = fits-closings situation.depth blocks situation.in_recipe
fits line situation blocks (piece ∷ pieces) text c =
    let after = situation_after piece.span.kind situation in
    let more = blocks_after piece.span.kind piece.span.line blocks in
    fits-one situation piece.span piece.span.kind piece.bytes c.0 (items_from after more pieces) c.4
    (fits (line + newlines piece.bytes) after more pieces c.0 c.5)

pub listed-cut : (pieces : List Piece) (text : List ℕ) → IsCut 1 start pieces text
    → Lists (items_from start no_blocks pieces) (tree_of_items (items_from start no_blocks pieces))
listed-cut pieces text c =
    let items = items_from start no_blocks pieces in
    let p : AreListed items = parse items zero false (fits 1 start no_blocks pieces text c) in
    subst (λ t. Lists items t) (lists-tree items p.trees p.lists) p.lists
