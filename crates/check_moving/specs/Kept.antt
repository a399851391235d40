-- Forms by the reasons for them.
use Rattle.std.specs.Prelude.{Bool, List, [], ◌∷◌, if◌then◌else◌}
use Rattle.check_moving.specs.declared.form.Form.{Form}

-- the forms for which there is a reason
abbrev pub kept : List (Bool × Form) → List Form
kept [] = []
kept (one ∷ rest) = if one.0 then one.1 ∷ kept rest else kept rest
