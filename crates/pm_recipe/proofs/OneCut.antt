-- A text has one cut.
use Rattle.std.proofs.Common.{◌≡◌, ◌+◌, ◌<◌, ℕ, zero, suc, false, List, [], ◌∷◌, ◌++◌, refl, ap, sym, ◌∙◌, length, take, drop, arith, subst}
use Rattle.std.proofs.lemmas.List.{take_at, drop_at}
use Rattle.pm_recipe.specs.declared.fronts.Situation.{Situation}
use Rattle.pm_recipe.specs.declared.fronts.Kind.{Kind}
use Rattle.pm_recipe.specs.declared.fronts.Kind.TheVariants as kind
use Rattle.pm_recipe.specs.Places.{far}
use Rattle.pm_recipe.specs.declared.runs.Run.TheVariants as Run
use Rattle.pm_recipe.specs.declared.runs.UpTo.TheVariants as UpTo
use Rattle.pm_recipe.specs.declared.line_words.InTail.TheVariants as InTail
use Rattle.pm_recipe.specs.Runs.{run_places, up_to_places}
use Rattle.pm_recipe.specs.LineWords.{tail_places}
use Rattle.pm_recipe.specs.Front.{Front, front_of, before, piece}
use Rattle.pm_recipe.specs.Spans.{newlines, span_of, situation_after, start}
use Rattle.pm_recipe.specs.Words.{IsLine}
use Rattle.pm_recipe.specs.Spells.{HasNone, IsBroken, IsSkipped, IsMailbox, IsJunk, goes_on, Spells, Piece, IsCut}
use Rattle.pm_recipe.specs.Spells.IsSkipped.{Broken, Other}
use Rattle.pm_recipe.proofs.WordRuns.{rest-length, tail-length, true-false}
use Rattle.pm_recipe.proofs.Taking.{same-piece, taken, line-far}
use Rattle.pm_recipe.proofs.Left.{left-more, before-left, before-at, some-before}
use Rattle.pm_recipe.proofs.Shapes.{front-stands, front-spells}
use Rattle.pm_recipe.specs.Listed.{pieces, pieces_of}
use Rattle.pm_recipe.proofs.Pieces.{pieces-turn}

-- two ways to part a text at one place
pub same-first : (xs ys zs ws : List ℕ) → xs ++ ys ≡ zs ++ ws → length xs ≡ length zs → xs ≡ zs
same-first xs ys zs ws e n = sym (take_at xs ys (length zs) n) ∙ ap (take (length zs)) e ∙ take_at zs ws (length zs) refl

same-last : (xs ys zs ws : List ℕ) → xs ++ ys ≡ zs ++ ws → length xs ≡ length zs → ys ≡ ws
same-last xs ys zs ws e n = sym (drop_at xs ys (length zs) n) ∙ ap (drop (length zs)) e ∙ drop_at zs ws (length zs) refl

-- what a text begins with, by its part in front
goes-on : (situation : Situation) (bytes last : List ℕ) → 0 < length bytes → goes_on situation (bytes ++ last) ≡ goes_on situation bytes
goes-on situation [] last some = absurd (omega arith)
goes-on situation (byte ∷ bytes) last some = refl

-- both without a form
mailbox-same : (whole text last text' last' : List ℕ) → whole ≡ text ++ last → whole ≡ text' ++ last' → IsLine 0 text last → IsLine 0 text' last'
    → length text ≡ length text'
mailbox-same whole text last text' last' e f h i = sym (line-far text last h) ∙ ap (far run_places Run.Line) (sym e ∙ f) ∙ line-far text' last' i

skipped-same : (whole text last text' last' : List ℕ) → whole ≡ text ++ last → whole ≡ text' ++ last' → IsSkipped text last → IsSkipped text' last'
    → length text ≡ length text'
skipped-same whole text last text' last' e f (Broken first rest is r b) (Broken first' rest' is' r' b') =
    let tails : rest ++ last ≡ rest' ++ last' = ap (drop 1) (ap (λ xs. xs ++ last) (sym is) ∙ sym e ∙ f ∙ ap (λ xs. xs ++ last') is') in
    ap length is ∙ ap suc (sym (rest-length rest last r) ∙ ap (far up_to_places UpTo.Newline) tails ∙ rest-length rest' last' r') ∙ sym (ap length is')
skipped-same whole text last text' last' e f (Broken first rest is r b) (Other first' rest' is' t' sound) = absurd (sound (subst IsBroken (sym e ∙ f) b))
skipped-same whole text last text' last' e f (Other first rest is t sound) (Broken first' rest' is' r' b') = absurd (sound (subst IsBroken (sym f ∙ e) b'))
skipped-same whole text last text' last' e f (Other first rest is t sound) (Other first' rest' is' t' sound') =
    let tails : rest ++ last ≡ rest' ++ last' = ap (drop 1) (ap (λ xs. xs ++ last) (sym is) ∙ sym e ∙ f ∙ ap (λ xs. xs ++ last') is') in
    ap length is ∙ ap suc (sym (tail-length false 0 rest last t) ∙ ap (far tail_places InTail.Word) tails ∙ tail-length false 0 rest' last' t') ∙ sym (ap length is')

-- of what is spelled, and what stands at the front
module _ (situation : Situation) (front : Front) (name text bytes last : List ℕ) (some : 0 < length bytes)
    (parts : bytes ++ last ≡ before (bytes ++ last) front.behind ++ front.behind) (some-before : 0 < length (before (bytes ++ last) front.behind)) where
  abbrev pub spelled : Kind → Type 0
  spelled sort = Spells situation sort front.name front.text (before (bytes ++ last) front.behind) front.behind

  went-on : goes_on situation (before (bytes ++ last) front.behind) ≡ goes_on situation bytes
  went-on = sym (goes-on situation _ front.behind some-before) ∙ ap (goes_on situation) (sym parts) ∙ goes-on situation bytes last some

  -- a span that is as long, and whose text is all of it
  as-long : (sort : Kind) → front.kind ≡ sort → front.name ≡ [] → before (bytes ++ last) front.behind ≡ front.text → name ≡ [] → bytes ≡ text
      → length (before (bytes ++ last) front.behind) ≡ length bytes → front ≡ piece sort name text last
  as-long sort kind_is none front_is none' text_is size =
      ap (λ k. piece k front.name front.text front.behind) kind_is
      ∙ same-piece sort _ name _ text _ last (none ∙ sym none') (sym front_is ∙ same-first _ _ bytes last (sym parts) size ∙ text_is)
      (same-last _ _ bytes last (sym parts) size)

  mailbox-front : (sort : Kind) → front.kind ≡ sort → spelled sort → IsMailbox situation name text bytes last → HasNone situation (bytes ++ last)
      → front ≡ piece kind.Mailbox name text last
  mailbox-front kind.Mailbox e s m none =
      as-long kind.Mailbox e s.0.1 s.0.2 m.1 m.2
      (mailbox-same (bytes ++ last) _ front.behind bytes last parts refl
      (subst (λ xs. IsLine 0 xs front.behind) (sym s.0.2) s.0.3) (subst (λ xs. IsLine 0 xs last) (sym m.2) m.3))
  mailbox-front kind.Skipped e s m none = true-false (sym m.0 ∙ sym went-on ∙ s.0.0)
  mailbox-front kind.Gap e s m none = absurd (none kind.Gap _ _ _ _ parts s)
  mailbox-front kind.Colon e s m none = absurd (none kind.Colon _ _ _ _ parts s)
  mailbox-front kind.Condition e s m none = absurd (none kind.Condition _ _ _ _ parts s)
  mailbox-front kind.Pipe e s m none = absurd (none kind.Pipe _ _ _ _ parts s)
  mailbox-front kind.WriteOut e s m none = absurd (none kind.WriteOut _ _ _ _ parts s)
  mailbox-front kind.Capture e s m none = absurd (none kind.Capture _ _ _ _ parts s)
  mailbox-front kind.Forward e s m none = absurd (none kind.Forward _ _ _ _ parts s)
  mailbox-front kind.Open e s m none = absurd (none kind.Open _ _ _ _ parts s)
  mailbox-front kind.TooDeep e s m none = absurd (none kind.TooDeep _ _ _ _ parts s)
  mailbox-front kind.Close e s m none = absurd (none kind.Close _ _ _ _ parts s)
  mailbox-front kind.Assign e s m none = absurd (none kind.Assign _ _ _ _ parts s)
  mailbox-front kind.Unset e s m none = absurd (none kind.Unset _ _ _ _ parts s)

  skipped-front : (sort : Kind) → front.kind ≡ sort → spelled sort → IsJunk situation name text bytes last → HasNone situation (bytes ++ last)
      → front ≡ piece kind.Skipped name text last
  skipped-front kind.Skipped e s m none =
      as-long kind.Skipped e s.0.1 s.0.2 m.1 m.2
      (skipped-same (bytes ++ last) _ front.behind bytes last parts refl
      (subst (λ xs. IsSkipped xs front.behind) (sym s.0.2) s.0.3) (subst (λ xs. IsSkipped xs last) (sym m.2) m.3))
  skipped-front kind.Mailbox e s m none = true-false (sym s.0.0 ∙ went-on ∙ m.0)
  skipped-front kind.Gap e s m none = absurd (none kind.Gap _ _ _ _ parts s)
  skipped-front kind.Colon e s m none = absurd (none kind.Colon _ _ _ _ parts s)
  skipped-front kind.Condition e s m none = absurd (none kind.Condition _ _ _ _ parts s)
  skipped-front kind.Pipe e s m none = absurd (none kind.Pipe _ _ _ _ parts s)
  skipped-front kind.WriteOut e s m none = absurd (none kind.WriteOut _ _ _ _ parts s)
  skipped-front kind.Capture e s m none = absurd (none kind.Capture _ _ _ _ parts s)
  skipped-front kind.Forward e s m none = absurd (none kind.Forward _ _ _ _ parts s)
  skipped-front kind.Open e s m none = absurd (none kind.Open _ _ _ _ parts s)
  skipped-front kind.TooDeep e s m none = absurd (none kind.TooDeep _ _ _ _ parts s)
  skipped-front kind.Close e s m none = absurd (none kind.Close _ _ _ _ parts s)
  skipped-front kind.Assign e s m none = absurd (none kind.Assign _ _ _ _ parts s)
  skipped-front kind.Unset e s m none = absurd (none kind.Unset _ _ _ _ parts s)

-- a text that isn't empty, and its front
fronts : (situation : Situation) (whole : List ℕ) → 0 < length whole → (let front = front_of situation whole in
    (whole ≡ before whole front.behind ++ front.behind) × (0 < length (before whole front.behind))
    × Spells situation front.kind front.name front.text (before whole front.behind) front.behind)
fronts situation [] some = absurd (omega arith)
fronts situation (byte ∷ bytes) some =
    let front = front_of situation (byte ∷ bytes) in
    let left = (front-stands situation byte bytes).0 in
    (sym (before-left front.behind _ (left-more front.behind byte bytes left)), some-before front.behind byte bytes left, front-spells situation byte bytes)

longer : (bytes last : List ℕ) → 0 < length bytes → 0 < length (bytes ++ last)
longer [] last h = absurd (omega arith)
longer (byte ∷ bytes) last h = omega arith

-- what is spelled is what stands at the front
front-is : (situation : Situation) (sort : Kind) (name text bytes last : List ℕ) → 0 < length bytes → Spells situation sort name text bytes last
    → front_of situation (bytes ++ last) ≡ piece sort name text last
front-is situation kind.Mailbox name text bytes last some s =
    let f = fronts situation (bytes ++ last) (longer bytes last some) in
    mailbox-front situation (front_of situation (bytes ++ last)) name text bytes last some f.0 f.1 (front_of situation (bytes ++ last)).kind refl f.2 s.0 s.1
front-is situation kind.Skipped name text bytes last some s =
    let f = fronts situation (bytes ++ last) (longer bytes last some) in
    skipped-front situation (front_of situation (bytes ++ last)) name text bytes last some f.0 f.1 (front_of situation (bytes ++ last)).kind refl f.2 s.0 s.1
front-is situation kind.Gap name text bytes last some s = taken situation kind.Gap name text bytes last s
front-is situation kind.Colon name text bytes last some s = taken situation kind.Colon name text bytes last s
front-is situation kind.Condition name text bytes last some s = taken situation kind.Condition name text bytes last s
front-is situation kind.Pipe name text bytes last some s = taken situation kind.Pipe name text bytes last s
front-is situation kind.WriteOut name text bytes last some s = taken situation kind.WriteOut name text bytes last s
front-is situation kind.Capture name text bytes last some s = taken situation kind.Capture name text bytes last s
front-is situation kind.Forward name text bytes last some s = taken situation kind.Forward name text bytes last s
front-is situation kind.Open name text bytes last some s = taken situation kind.Open name text bytes last s
front-is situation kind.TooDeep name text bytes last some s = taken situation kind.TooDeep name text bytes last s
front-is situation kind.Close name text bytes last some s = taken situation kind.Close name text bytes last s
front-is situation kind.Assign name text bytes last some s = taken situation kind.Assign name text bytes last s
front-is situation kind.Unset name text bytes last some s = taken situation kind.Unset name text bytes last s

-- each cut is the one that the pieces of the text are
pub one-cut : (line : ℕ) (situation : Situation) (ps : List Piece) (text : List ℕ) → IsCut line situation ps text → ps ≡ pieces zero line situation text
one-cut line situation [] text c = ap (λ xs. pieces zero line situation xs) (sym c)
one-cut line situation (p ∷ ps) text c = by c.0 c.1 c.2 c.3 c.4 (one-cut (line + newlines p.bytes) (situation_after p.span.kind situation) ps c.0 c.5)
  where
    by : (last : List ℕ) → text ≡ p.bytes ++ last → p.span.line ≡ line → 0 < length p.bytes → Spells situation p.span.kind p.span.name p.span.text p.bytes last
        → ps ≡ pieces zero (line + newlines p.bytes) (situation_after p.span.kind situation) last → p ∷ ps ≡ pieces zero line situation text
    by last is line_is some s rest =
        let whole = p.bytes ++ last in
        let after = situation_after p.span.kind situation in
        let front = piece p.span.kind p.span.name p.span.text last in
        let turn : Front → List Piece = λ f. (record { span = span_of f line; bytes = before whole f.behind })
        ∷ pieces zero (line + newlines (before whole f.behind)) (situation_after f.kind situation) f.behind in
        sym (ap (λ xs. pieces zero line situation xs) is ∙ pieces-turn line situation whole (longer p.bytes last some)
        ∙ ap turn (front-is situation p.span.kind p.span.name p.span.text p.bytes last some s)
        ∙ ap (λ xs. (record { span = span_of front line; bytes = xs }) ∷ pieces zero (line + newlines xs) after last) (before-at p.bytes last)
        ∙ ap (λ n. (record { span = span_of front n; bytes = p.bytes }) ∷ pieces zero (line + newlines p.bytes) after last) (sym line_is)
        ∙ ap (λ qs. p ∷ qs) (sym rest))

pub one-cut-text : (text : List ℕ) (ps : List Piece) → IsCut 1 start ps text → ps ≡ pieces_of text
one-cut-text text ps c = one-cut 1 start ps text c
