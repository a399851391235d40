use Rattle.std.proofs.Common.{rules}
use Rattle.pm_meaning.specs.Minds.{mind_of}
use Rattle.pm_meaning.proofs.ProgramLemmas.{none_inside}
use Rattle.pm_meaning.proofs.programs.command_line.Goals as goal

pub program_line-requires : goal.program_line-requires
program_line-requires c = none_inside c.args.text.now (mind_of c.args.process.now) (search rules)
