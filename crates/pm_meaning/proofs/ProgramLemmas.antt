-- Lines of programs: the variables as pairs of an environment, and commands without backquotes.
use Rattle.std.proofs.Common.{◌≡◌, ℕ, Bool, true, false, not, ◌&&◌, ◌||◌, List, [], ◌∷◌, length, map, refl, sym, ap, ◌∙◌}
use Rattle.std.specs.Prelude.{filter, ◌==◌, if◌then◌else◌}
use Rattle.std.specs.List.{list_all, list_any}
use Rattle.pm_bytes.specs.Alphabet.{BACKQUOTE}
use Rattle.pm_bytes.specs.declared.environment.Pair.{Pair}
use Rattle.pm_vars.specs.Table.{Table}
use Rattle.pm_vars.specs.Variables.{variable_of, is_exported}
use Rattle.pm_subst.specs.Commands.{commands_in}
use Rattle.pm_subst.specs.declared.kinds.Mode.TheVariants.{Many}
use Rattle.pm_subst.proofs.NoCommand.{no-command}
use Rattle.pm_meaning.specs.Minds.{Mind}
use Rattle.pm_meaning.specs.Programs.{pair_of, environment, has_backquote, needs_shell, line_commands}

pairs_again : (pairs : List Pair) → map pair_of (map variable_of pairs) ≡ pairs
pairs_again [] = refl
pairs_again (pair ∷ pairs) = ap (λ l. pair ∷ l) (pairs_again pairs)

-- the pairs that the variables give are the environment
pub exported : (pairs : List Pair) (vars : Table) → map variable_of pairs ≡ filter is_exported vars.variables → pairs ≡ environment vars
exported pairs vars e = sym (pairs_again pairs) ∙ ap (map pair_of) e

-- a text in which no byte passes the test
none_passes : {A : Type 0} (passes : A → Bool) (items : List A) → list_any passes items ≡ false → list_all (λ item. not (passes item)) items ≡ true
none_passes passes [] e = refl
none_passes passes (item ∷ items) e =
    elim (passes item) as (λ b. (b || list_any passes items) ≡ false → (not b && list_all (λ i. not (passes i)) items) ≡ true) [
      | true ↦ λ h. let f : true ≡ false = h in absurd (cc)
      | false ↦ λ h. none_passes passes items h
    ] e

-- a line without a backquote has no command that is run before it
pub none_inside : (text : List ℕ) (p : Mind) → has_backquote text ≡ false → 0 ≡ length (line_commands text p)
none_inside text p e =
    elim (needs_shell text p) as (λ b. 0 ≡ length (if b then [] else commands_in Many text)) [
      | true ↦ refl
      | false ↦ sym (ap length (no-command Many text (none_passes (λ byte. byte == BACKQUOTE) text e)))
    ]
