-- No statement ends a process but as delivered, or on another host.
use Rattle.std.proofs.Common.{◌≡◌, ℕ, Bool, true, false, not, List, Option, refl}
use Rattle.std.specs.Prelude.{if◌then◌else◌}
use Rattle.pm_recipe.specs.Tree.{Tree, Top, Act, Assign, Unset, Recipe, Defect, Block}
use Rattle.pm_journal.specs.LogText.{skipped_line}
use Rattle.pm_journal.specs.Plan.{Plan, Ends, and_then}
use Rattle.pm_meaning.specs.Acting.{act_on, acted_turn, turn_after}
use Rattle.pm_meaning.specs.Blocks.{carry_out}
use Rattle.pm_meaning.specs.Chains.{is_admitted, passed, executed}
use Rattle.pm_meaning.specs.Judging.{holding, after_conditions, judge_first}
use Rattle.pm_meaning.specs.Minds.{Mind}
use Rattle.pm_meaning.specs.Turns.{Turn, GoesOn, Halts, ActEnd}
use Rattle.pm_meaning.specs.declared.acted.Acted.{Acted}
use Rattle.pm_meaning.specs.declared.acted.Acted.TheVariants.{Delivered as ForGood}
use Rattle.pm_meaning.specs.declared.process.End.{End}
use Rattle.pm_meaning.specs.declared.process.End.TheVariants.{Delivered, HostOff}
use Rattle.pm_meaning.specs.Running.{statement}
use Rattle.pm_meaning.proofs.NoDelivery.{Never, never_ends, never_then, never_if, FailsElsewhere, never_goes, never_told, never_entered, never_assign, never_unset}

-- the process ends neither as delivered nor on another host
abbrev pub is_stray_end : End → Bool
is_stray_end Delivered = false
is_stray_end HostOff = false
is_stray_end other = true

-- a turn that ends it so
abbrev pub strays : Turn → Bool
strays (Halts end p) = is_stray_end end
strays other = false

pub no_stray : FailsElsewhere strays
no_stray = record {
  goes = λ p. refl;
  elsewhere = λ p. refl;
  enters = λ lock p. refl;
  includes = λ name p. refl;
  switches = λ name p. refl;
  ends_file = λ p. refl;
  clones = λ p. refl;
}

-- an action goes on, or the process ends as delivered
acted_fine : (acted : Acted) (p : Mind) → strays (acted_turn acted p) ≡ false
acted_fine ForGood p = refl
acted_fine other p = refl

never_acting : (plan : Plan ActEnd) → Never strays (and_then plan (λ came. Ends (turn_after came)))
never_acting plan = never_then strays plan (λ came. Ends (turn_after came)) (λ came. never_ends strays (turn_after came) (acted_fine came.acted came.mind))

never_acted : (top : Top) (act : Act) (p : Mind) → Never strays (carry_out top act p)
never_acted top (Block trees) p = never_entered strays no_stray top p
never_acted top act p = never_acting (act_on top act p)

never_recipe : (top : Top) (act : Act) (p : Mind) → Never strays (judge_first top (λ q. carry_out top act q) p)
never_recipe top act p =
    let acts : Mind → Plan Turn = λ q. carry_out top act q in
    let judged : Plan Turn = and_then (holding top.conditions top.flags p) (λ held. after_conditions top.flags acts held) in
    never_if strays (not (is_admitted top.flags p.chain)) (Ends (GoesOn (passed top.flags p))) judged (never_goes strays no_stray (passed top.flags p))
    (never_then strays (holding top.conditions top.flags p) (λ held. after_conditions top.flags acts held)
    (λ held. never_if strays held.holds (acts (executed top.flags held.mind)) (Ends (GoesOn (passed top.flags held.mind))) (never_acted top act (executed top.flags held.mind))
    (never_goes strays no_stray (passed top.flags held.mind))))

pub never_statement : (tree : Tree) (p : Mind) → Never strays (statement tree p)
never_statement (Assign name text) p = never_assign strays no_stray name text p
never_statement (Unset name) p = never_unset strays no_stray name p
never_statement (Recipe top act) p = never_recipe top act p
never_statement (Defect line text) p = never_told strays no_stray p (skipped_line text)
