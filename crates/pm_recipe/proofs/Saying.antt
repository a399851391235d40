-- A span says one thing.
use Rattle.std.proofs.Common.{◌≡◌, ℕ, ◌+◌, List, [], ◌∷◌, ◌++◌, refl, ap, sym, ◌∙◌, take, Bool, Option, subst}
use Rattle.std.proofs.lemmas.List.{drop_at, take-append-drop}
use Rattle.pm_recipe.specs.declared.fronts.Kind.{Kind}
use Rattle.pm_recipe.specs.declared.fronts.Kind.TheVariants as kind
use Rattle.pm_recipe.specs.declared.fronts.Situation.{Situation}
use Rattle.pm_recipe.specs.Places.{far, text_after}
use Rattle.pm_recipe.specs.declared.runs.Run.TheVariants as Run
use Rattle.pm_recipe.specs.Runs.{run_places}
use Rattle.pm_recipe.specs.Colon.{flags_part, flags_of, lock_of, has_junk}
use Rattle.pm_recipe.specs.Joins.{unjoined}
use Rattle.pm_recipe.specs.Weights.{condition_of}
use Rattle.pm_recipe.specs.Reads.{program_line, item_of, items_of}
use Rattle.pm_recipe.specs.Item.{Item}
use Rattle.pm_recipe.specs.Item.Item.{Begins, Judges, Does}
use Rattle.pm_recipe.specs.Tree as tree
use Rattle.pm_recipe.specs.Tree.{Act}
use Rattle.pm_recipe.specs.Spans.{Span, newlines, situation_after}
use Rattle.pm_recipe.specs.Spells.{Spells, Piece, IsCut, IsColonLine, spans_of}
use Rattle.pm_recipe.specs.Says.{IsBeginning, IsProgram, IsRunning, Says, AllSay}
use Rattle.pm_recipe.proofs.Forms.{blanks-run}
use Rattle.pm_recipe.proofs.Taking.{blanks-far}
use Rattle.pm_recipe.proofs.ColonText.{read-once, colon-some}
use Rattle.pm_recipe.proofs.ConditionForms.{condition-once, condition-some}

-- a program's line
program-once : (text line : List ℕ) → IsProgram text line → line ≡ program_line text
program-once text line p = sym (ap (text_after run_places Run.Blanks) p.text_is ∙ drop_at p.blanks line _ (sym (blanks-far p.blanks line p.apart)))

program-some : (text : List ℕ) → IsProgram text (program_line text)
program-some text = record {
  blanks = take (far run_places Run.Blanks (unjoined text)) (unjoined text);
  text_is = sym (take-append-drop (far run_places Run.Blanks (unjoined text)) (unjoined text));
  apart = blanks-run (unjoined text);
}

running-once : (act : List ℕ → Act) (text : List ℕ) (item : Item) → IsRunning act text item → item ≡ Does (act (program_line text))
running-once act text item r = r.item_is ∙ ap (λ line. Does (act line)) (program-once text r.line r.program)

running-some : (act : List ℕ → Act) (text : List ℕ) → IsRunning act text (Does (act (program_line text)))
running-some act text = record { line = program_line text; program = program-some text; item_is = refl }

-- a colon line
abbrev begins : Span → List ℕ → Option (List ℕ) → Bool → Item
begins span flags lock junk = Begins (record { line = span.line; text = span.text; flags = flags_of flags; lock = lock }) junk

beginning-once : (span : Span) (item : Item) → IsBeginning span item → item ≡ item_of span kind.Colon
beginning-once span item b =
    let r = read-once span.text b.flags b.lock b.junk b.form in
    b.item_is ∙ ap (λ flags. begins span flags b.lock b.junk) r.flags_are
    ∙ ap (λ lock. begins span (flags_part span.text) lock b.junk) r.lock_is
    ∙ ap (λ junk. begins span (flags_part span.text) (lock_of span.text) junk) r.junk_is

-- a span of any kind
pub says-once : (span : Span) (sort : Kind) (item : Item) → Says span sort item → item ≡ item_of span sort
says-once span kind.Gap item s = s
says-once span kind.Colon item s = beginning-once span item s
says-once span kind.Condition item s = s.item_is ∙ ap Judges (condition-once span.text s.condition s.form)
says-once span kind.Mailbox item s = s
says-once span kind.Pipe item s = running-once tree.Pipe span.text item s
says-once span kind.WriteOut item s = s
says-once span kind.Capture item s = running-once (tree.Capture (unjoined span.name)) span.text item s
says-once span kind.Forward item s = s
says-once span kind.Open item s = s
says-once span kind.TooDeep item s = s
says-once span kind.Close item s = s
says-once span kind.Assign item s = s
says-once span kind.Unset item s = s
says-once span kind.Skipped item s = s

says-some : (situation : Situation) (span : Span) (sort : Kind) (bytes last : List ℕ) → Spells situation sort span.name span.text bytes last
    → Says span sort (item_of span sort)
says-some situation span kind.Gap bytes last s = refl
says-some situation span kind.Colon bytes last s = record {
  flags = flags_part span.text;
  lock = lock_of span.text;
  junk = has_junk span.text;
  form = colon-some span.text last (subst (λ xs. IsColonLine (xs ++ last) last) s.1 s.2);
  item_is = refl;
}
says-some situation span kind.Condition bytes last s = record { condition = condition_of span.text; form = condition-some span.text; item_is = refl }
says-some situation span kind.Mailbox bytes last s = refl
says-some situation span kind.Pipe bytes last s = running-some tree.Pipe span.text
says-some situation span kind.WriteOut bytes last s = refl
says-some situation span kind.Capture bytes last s = running-some (tree.Capture (unjoined span.name)) span.text
says-some situation span kind.Forward bytes last s = refl
says-some situation span kind.Open bytes last s = refl
says-some situation span kind.TooDeep bytes last s = refl
says-some situation span kind.Close bytes last s = refl
says-some situation span kind.Assign bytes last s = refl
says-some situation span kind.Unset bytes last s = refl
says-some situation span kind.Skipped bytes last s = refl

-- spans say one list of items
pub all-once : (spans : List Span) (items : List Item) → AllSay spans items → items ≡ items_of spans
all-once [] [] s = refl
all-once [] (item ∷ items) s = absurd s
all-once (span ∷ spans) [] s = absurd s
all-once (span ∷ spans) (item ∷ items) s =
    ap (λ i. i ∷ items) (says-once span span.kind item s.0) ∙ ap (λ is. item_of span span.kind ∷ is) (all-once spans items s.1)

pub all-some : (line : ℕ) (situation : Situation) (pieces : List Piece) (text : List ℕ) → IsCut line situation pieces text
    → AllSay (spans_of pieces) (items_of (spans_of pieces))
all-some line situation [] text c = tt
all-some line situation (piece ∷ pieces) text c = (
  says-some situation piece.span piece.span.kind piece.bytes c.0 c.4,
  all-some (line + newlines piece.bytes) (situation_after piece.span.kind situation) pieces c.0 c.5,
)
