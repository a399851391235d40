-- The variables, the arguments and the marks in one table.
use Rattle.pm_vars.specs.Table.{Table}
use Rattle.pm_vars.specs.declared.vars.Vars.TheInside.{Inside}

-- what contracts see of the code's variables
abbrev pub table_of : Inside → Table
table_of inside = record { variables = inside.variables; arguments = inside.arguments.items; marks = inside.marks }
