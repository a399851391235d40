-- Where a statement ends a process as delivered, it is a recipe that delivers.
use Rattle.std.proofs.Common.{◌≡◌, ℕ, Bool, true, false, not, List, [], ◌∷◌, ◌++◌, refl, sym, ap, ◌∙◌, subst, append_assoc, append-nil}
use Rattle.std.specs.Prelude.{if◌then◌else◌}
use Rattle.pm_recipe.specs.Tree.{Top, Act as Action, Mailbox, Pipe, Capture, Forward, WriteOut, Block, Tree, Assign, Unset, Recipe, Defect}
use Rattle.pm_recipe.specs.declared.tree.Condition.{Condition}
use Rattle.pm_recipe.specs.declared.tree.Flags.{Flags}
use Rattle.pm_subst.specs.Commands.{commands_in}
use Rattle.pm_subst.specs.Words.{words_in}
use Rattle.pm_subst.specs.declared.kinds.Mode.TheVariants.{One, Many}
use Rattle.pm_meaning.specs.declared.question.Judgement.TheVariants.{Matched, Unmatched, Defective, TooLong}
use Rattle.pm_journal.specs.LogText.{skipped_line, defective_condition_line, value_too_long_line}
use Rattle.pm_journal.specs.declared.acts.Entry.{Entry}
use Rattle.pm_journal.specs.Plan.{Plan, Ends, and_then, Plays}
use Rattle.pm_journal.proofs.WalkJoin.{parts_of}
use Rattle.pm_meaning.specs.Acting.{act_on, acted_turn, turn_after}
use Rattle.pm_meaning.specs.Blocks.{carry_out}
use Rattle.pm_meaning.specs.Chains.{is_admitted, passed, executed}
use Rattle.pm_meaning.specs.Changes.{overflowed}
use Rattle.pm_meaning.specs.Forwards.{forward_reading}
use Rattle.pm_meaning.specs.Judging.{Judged, judge, judged_with, Held, held_with, told_judgement, after_judgement, holding, after_conditions, judge_first}
use Rattle.pm_meaning.specs.Locks.{text_or}
use Rattle.pm_meaning.specs.Minds.{Mind}
use Rattle.pm_meaning.specs.ProgramActions.{lock_commands, pipe_task, forward_task, write_task}
use Rattle.pm_meaning.specs.Programs.{line_reading}
use Rattle.pm_meaning.specs.Turns.{Turn, GoesOn, ActEnd, is_for_good, for_good}
use Rattle.pm_meaning.specs.declared.acted.Acted.{Acted}
use Rattle.pm_meaning.specs.declared.acted.Acted.TheVariants.{Delivered, Went}
use Rattle.pm_meaning.specs.declared.process.ProgramLine.TheVariants.{Runs}
use Rattle.pm_meaning.specs.RunLaws.{DeliversAt, PipesAt, WritesAt, IsMade, in_files, by_program, by_output}
use Rattle.pm_meaning.specs.Running.{State, Running, Item, Do, statement}
use Rattle.pm_meaning.proofs.MailboxDelivered.{DeliversReady, delivered_by}
use Rattle.pm_meaning.proofs.ProgramDelivered.{PipeMade, pipe_made, never_captured, ForwardMade, forward_made, OutputMade, output_made}
use Rattle.pm_meaning.proofs.RecipeReady.{IsExecuted, ready_of, read_of}
use Rattle.pm_meaning.proofs.Lines.{then_end}
use Rattle.pm_meaning.proofs.NoDelivery.{delivers, no_delivery, never_ends, never_goes, never_entered, never_said, never_told, never_assign, never_unset}

-- the action of a recipe delivered so, after its conditions
pub data DeliversBy (top : Top) (act : Action) (p : Mind) (es : List Entry) : Type 0 where
  to_mailboxes : (text : List ℕ) → act ≡ Mailbox text → DeliversReady top.flags top.lock text p es → DeliversBy top act p es
  to_program : (line : List ℕ) → act ≡ Pipe line → PipeMade top.flags top.lock line p es → DeliversBy top act p es
  to_sendmail : (text : List ℕ) → act ≡ Forward text → ForwardMade top.flags top.lock text p es → DeliversBy top act p es
  to_output : act ≡ WriteOut → OutputMade top.flags top.lock p es → DeliversBy top act p es

pub record DeliversTree (tree : Tree) (p : Mind) (es : List Entry) : Type 0 where
  pub top : Top
  pub act : Action
  pub is : tree ≡ Recipe top act
  pub judged : List Entry
  pub last : List Entry
  pub whole : es ≡ judged ++ last
  pub mind : Mind
  pub executed_is : IsExecuted top p judged mind
  pub by : DeliversBy top act mind last

pub record DeliversState (s : State) (es : List Entry) : Type 0 where
  pub flags : Flags
  pub mind : Mind
  pub asked : List Entry
  pub last : List Entry
  pub whole : es ≡ asked ++ last
  pub final : flags.copy ≡ false
  pub made : IsMade s asked flags mind last

delivered_act : (acted : Acted) (p : Mind) → delivers (acted_turn acted p) ≡ true → is_for_good acted ≡ true
delivered_act Delivered p h = refl
delivered_act other p h = h

-- the action that was done before its turn
acted_for : (P : Type 0) (plan : Plan ActEnd) (es : List Entry) (turn : Turn) → Plays (and_then plan (λ came. Ends (turn_after came))) es turn → delivers turn ≡ true
    → ((came : ActEnd) → Plays plan es came → for_good came ≡ true → P) → P
acted_for P plan es turn h passes go =
    let k = then_end plan turn_after es turn h in
    go k.0 k.1 (delivered_act k.0.acted k.0.mind (sym (ap delivers k.2) ∙ passes))

by_action : (top : Top) (act : Action) (p : Mind) (es : List Entry) (came : ActEnd) → Plays (act_on top act p) es came → for_good came ≡ true → DeliversBy top act p es
by_action top (Mailbox text) p es came h passes = to_mailboxes text refl (delivered_by top.flags top.lock text p es came h passes)
by_action top (Pipe line) p es came h passes = to_program line refl (pipe_made top.flags top.lock line p es came h passes)
by_action top (Capture name line) p es came h passes = absurd (never_captured top.flags top.lock name line p es came h passes)
by_action top (Forward text) p es came h passes = to_sendmail text refl (forward_made top.flags top.lock text p es came h passes)
by_action top WriteOut p es came h passes = to_output refl (output_made top.flags top.lock p es came h passes)
by_action top (Block trees) p es came h passes = absurd (never_ends for_good (record { acted = Went; mind = p }) refl es came h passes)

by_act : (top : Top) (act : Action) (p : Mind) (es : List Entry) (turn : Turn) → Plays (carry_out top act p) es turn → delivers turn ≡ true → DeliversBy top act p es
by_act top (Block trees) p es turn h passes = absurd (never_entered delivers no_delivery top p es turn h passes)
by_act top act p es turn h passes = acted_for (DeliversBy top act p es) (act_on top act p) es turn h passes (by_action top act p es)

-- a test of whether conditions hold
abbrev are_met : Held → Bool
are_met held = held.holds

matched_judged : (conditions : List Condition) (flags : Flags) (p : Mind) (es : List Entry) (held : Held) (judged : Judged) (front rest : List Entry) → judged.verdict ≡ Matched → es ≡ front ++ rest
    → Plays (judge conditions flags p) front judged → Plays (Ends (held_with true judged.mind)) rest held → Plays (judge conditions flags p) es (judged_with Matched held.mind)
matched_judged conditions flags p es held judged front [] is whole h l =
    let same : es ≡ front = whole ∙ append-nil front in
    subst (λ l. Plays (judge conditions flags p) l (judged_with Matched held.mind)) (sym same)
    (subst (λ q. Plays (judge conditions flags p) front (judged_with Matched q)) (ap (λ x. x.mind) (sym l)) (subst (λ v. Plays (judge conditions flags p) front (judged_with v judged.mind)) is h))
matched_judged conditions flags p es held judged front (e ∷ rest) is whole h l = absurd l

-- conditions that hold were judged so
held_judged : (conditions : List Condition) (flags : Flags) (p : Mind) (es : List Entry) (held : Held) → Plays (holding conditions flags p) es held → held.holds ≡ true
    → Plays (judge conditions flags p) es (judged_with Matched held.mind)
held_judged conditions flags p es held h met =
    let k = parts_of (judge conditions flags p) after_judgement es held h in
    let q = k.middle.mind in
    elim k.middle.verdict as (λ v. k.middle.verdict ≡ v → Plays (told_judgement v q) k.rest held → Plays (judge conditions flags p) es (judged_with Matched held.mind)) [
      | Matched ↦ λ is l. matched_judged conditions flags p es held k.middle k.front k.rest is k.whole k.plays_front l
      | Unmatched ↦ λ is l. absurd (never_ends are_met (held_with false q) refl k.rest held l met)
      | Defective text ↦ λ is l. absurd (never_said are_met q (defective_condition_line text) (held_with false q) refl k.rest held l met)
      | TooLong size ↦ λ is l. absurd (never_said are_met q (value_too_long_line size) (held_with false (overflowed q)) refl k.rest held l met)
    ] refl k.plays_rest

-- the conditions hold, and then the action delivered so
with_conditions : (top : Top) (act : Action) (p : Mind) (held : Held) (front rest es : List Entry) → is_admitted top.flags p.chain ≡ true → held.holds ≡ true → es ≡ front ++ rest
    → Plays (holding top.conditions top.flags p) front held → DeliversBy top act (executed top.flags held.mind) rest → DeliversTree (Recipe top act) p es
with_conditions top act p held front rest es admitted met whole h d = record {
  top = top;
  act = act;
  is = refl;
  judged = front;
  last = rest;
  whole = whole;
  mind = executed top.flags held.mind;
  executed_is = record {
    admitted = admitted;
    judged = held.mind;
    holds = held_judged top.conditions top.flags p front held h met;
    mind_is = refl;
  };
  by = d;
}

by_judgement : (top : Top) (act : Action) (p : Mind) (es : List Entry) (turn : Turn) → is_admitted top.flags p.chain ≡ true
    → Plays (and_then (holding top.conditions top.flags p) (λ held. after_conditions top.flags (λ q. carry_out top act q) held)) es turn → delivers turn ≡ true → DeliversTree (Recipe top act) p es
by_judgement top act p es turn admitted h passes =
    let k = parts_of (holding top.conditions top.flags p) (λ held. after_conditions top.flags (λ q. carry_out top act q) held) es turn h in
    let q = passed top.flags k.middle.mind in
    let r = executed top.flags k.middle.mind in
    elim k.middle.holds as (λ b. k.middle.holds ≡ b → Plays (if b then carry_out top act r else Ends (GoesOn q)) k.rest turn → DeliversTree (Recipe top act) p es) [
      | true ↦ λ holds l. with_conditions top act p k.middle k.front k.rest es admitted holds k.whole k.plays_front (by_act top act r k.rest turn l passes)
      | false ↦ λ holds l. absurd (never_goes delivers no_delivery q k.rest turn l passes)
    ] refl k.plays_rest

by_conditions : (top : Top) (act : Action) (p : Mind) (es : List Entry) (turn : Turn) → Plays (judge_first top (λ q. carry_out top act q) p) es turn → delivers turn ≡ true → DeliversTree (Recipe top act) p es
by_conditions top act p es turn h passes =
    let judged = and_then (holding top.conditions top.flags p) (λ held. after_conditions top.flags (λ q. carry_out top act q) held) in
    elim (is_admitted top.flags p.chain) as (λ b. is_admitted top.flags p.chain ≡ b → Plays (if not b then Ends (GoesOn (passed top.flags p)) else judged) es turn → DeliversTree (Recipe top act) p es) [
      | true ↦ λ admitted k. by_judgement top act p es turn admitted k passes
      | false ↦ λ admitted k. absurd (never_goes delivers no_delivery (passed top.flags p) es turn k passes)
    ] refl h

pub by_statement : (tree : Tree) (p : Mind) (es : List Entry) (turn : Turn) → Plays (statement tree p) es turn → delivers turn ≡ true → DeliversTree tree p es
by_statement (Assign name text) p es turn h passes = absurd (never_assign delivers no_delivery name text p es turn h passes)
by_statement (Unset name) p es turn h passes = absurd (never_unset delivers no_delivery name p es turn h passes)
by_statement (Recipe top act) p es turn h passes = by_conditions top act p es turn h passes
by_statement (Defect line text) p es turn h passes = absurd (never_told delivers no_delivery p (skipped_line text) es turn h passes)

by_recipe : (top : Top) (act : Action) (rest : List Item) (p q : Mind) (judged last es : List Entry) → es ≡ judged ++ last → IsExecuted top p judged q → DeliversBy top act q last
    → DeliversState (Running (Do (Recipe top act) ∷ rest) p) es
by_recipe top act rest p q judged last es whole e (to_mailboxes text is here) =
    let words = words_in Many here.ready.mind.vars here.ready.outputs text in
    let is_ready = ready_of top (commands_in One (text_or [] top.lock)) (λ m. commands_in Many text) p q judged here.ran here.ready e here.runs in
    record {
      flags = top.flags;
      mind = here.ready.mind;
      asked = judged ++ here.ran;
      last = here.last;
      whole = whole ∙ ap (λ l. judged ++ l) here.whole ∙ sym (append_assoc judged here.ran here.last);
      final = here.here.final;
      made = in_files words (subst (λ a. DeliversAt (Running (Do (Recipe top a) ∷ rest) p) (judged ++ here.ran) top.flags words here.ready.mind) (sym is) (here.ready, is_ready, refl, refl, refl)) here.here.usable here.here.filed;
    }
by_recipe top act rest p q judged last es whole e (to_program line is here) =
    let m = here.made in
    let is_read = read_of top (pipe_task top.flags top.lock line) (line_reading line) p q judged m.ran m.ready (Runs m.command) e m.runs m.read in
    record {
      flags = top.flags;
      mind = m.ready.mind;
      asked = judged ++ m.ran;
      last = m.last;
      whole = whole ∙ ap (λ l. judged ++ l) m.whole ∙ sym (append_assoc judged m.ran m.last);
      final = here.final;
      made = by_program m.command (subst (λ a. PipesAt (Running (Do (Recipe top a) ∷ rest) p) (judged ++ m.ran) top.flags m.command m.ready.mind) (sym is) (m.ready, is_read, here.piped, refl, refl)) here.one;
    }
by_recipe top act rest p q judged last es whole e (to_sendmail text is here) =
    let m = here.made in
    let is_read = read_of top (forward_task top.flags top.lock text) (λ s. forward_reading text) p q judged m.ran m.ready (Runs m.command) e m.runs m.read in
    record {
      flags = top.flags;
      mind = m.ready.mind;
      asked = judged ++ m.ran;
      last = m.last;
      whole = whole ∙ ap (λ l. judged ++ l) m.whole ∙ sym (append_assoc judged m.ran m.last);
      final = here.final;
      made = by_program m.command (subst (λ a. PipesAt (Running (Do (Recipe top a) ∷ rest) p) (judged ++ m.ran) top.flags m.command m.ready.mind) (sym is) (m.ready, is_read, refl, refl)) m.one;
    }
by_recipe top act rest p q judged last es whole e (to_output is here) =
    let is_ready = ready_of top (lock_commands (write_task top.flags top.lock)) (λ m. []) p q judged here.ran here.ready e here.runs in
    record {
      flags = top.flags;
      mind = here.ready.mind;
      asked = judged ++ here.ran;
      last = here.last;
      whole = whole ∙ ap (λ l. judged ++ l) here.whole ∙ sym (append_assoc judged here.ran here.last);
      final = here.final;
      made = by_output (subst (λ a. WritesAt (Running (Do (Recipe top a) ∷ rest) p) (judged ++ here.ran) top.flags here.ready.mind) (sym is) (here.ready, is_ready, refl, refl)) here.one;
    }

pub by_tree : (tree : Tree) (rest : List Item) (p : Mind) (es : List Entry) → DeliversTree tree p es → DeliversState (Running (Do tree ∷ rest) p) es
by_tree tree rest p es d =
    subst (λ t. DeliversState (Running (Do t ∷ rest) p) es) (sym d.is) (by_recipe d.top d.act rest p d.mind d.judged d.last es d.whole d.executed_is d.by)
