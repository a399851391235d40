-- The first variables of a process, set one list after the other.
use Rattle.std.proofs.Common.{◌≡◌, ℕ, Bool, List, [], ◌∷◌, ◌++◌, refl, sym, ap, ◌∙◌}
use Rattle.std.specs.Prelude.{pos}
use Rattle.pm_bytes.specs.declared.environment.Environ.{Environ}
use Rattle.pm_vars.specs.Table.{Table}
use Rattle.pm_vars.specs.Variables.{Variable, with_value}
use Rattle.pm_meaning.specs.FirstValues.{all_set, first_table, user_values, time_zone, place_values, mailbox_values, program_values, file_values}

-- of two lists the first is set first
all_set_both : (front back variables : List Variable) → all_set (front ++ back) variables ≡ all_set back (all_set front variables)
all_set_both [] back variables = refl
all_set_both (v ∷ more) back variables = all_set_both more back (with_value v.name v.value variables)

-- of six lists
all_set_six : (a b c d e f variables : List Variable) →
    all_set (a ++ b ++ c ++ d ++ e ++ f) variables ≡ all_set f (all_set e (all_set d (all_set c (all_set b (all_set a variables)))))
all_set_six a b c d e f variables =
    all_set_both (a ++ b ++ c ++ d ++ e) f variables
    ∙ ap (all_set f) (all_set_both (a ++ b ++ c ++ d) e variables
    ∙ ap (all_set e) (all_set_both (a ++ b ++ c) d variables
    ∙ ap (all_set d) (all_set_both (a ++ b) c variables
    ∙ ap (all_set c) (all_set_both a b variables))))

-- these are more variables, set over those of the table
abbrev pub filled : List Variable → Table → Table
filled values table = record table { variables = all_set values table.variables }

-- the first table, list by list
pub table_filled : (filter : Bool) (arguments : List (List ℕ)) (env : Environ) (new added user zone place mailbox programs files : Table)
    → new ≡ record { variables = []; arguments = []; marks = record { pid = env.pid; code = 0; score = pos 0; rcfile = [] } }
    → added ≡ record new { arguments = new.arguments ++ arguments } → user ≡ filled (user_values env) added → zone ≡ filled (time_zone env) user
    → place ≡ filled (place_values filter env) zone → mailbox ≡ filled (mailbox_values filter env) place → programs ≡ filled program_values mailbox
    → files ≡ filled file_values programs → files ≡ first_table filter arguments env
table_filled filter arguments env new added user zone place mailbox programs files is_new is_added is_user is_zone is_place is_mailbox is_programs is_files =
    let argued : Table → Table = λ table. record table { arguments = table.arguments ++ arguments } in
    let table_of : List Variable → Table = λ variables.
    record { variables = variables; arguments = arguments; marks = record { pid = env.pid; code = 0; score = pos 0; rcfile = [] } } in
    is_files ∙ ap (filled file_values) (is_programs ∙ ap (filled program_values) (is_mailbox ∙ ap (filled (mailbox_values filter env)) (is_place
    ∙ ap (filled (place_values filter env)) (is_zone ∙ ap (filled (time_zone env)) (is_user ∙ ap (filled (user_values env)) (is_added ∙ ap argued is_new))))))
    ∙ ap table_of (sym (all_set_six (user_values env) (time_zone env) (place_values filter env) (mailbox_values filter env) program_values file_values []))
