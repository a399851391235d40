use Rattle.std.proofs.Common.{refl}
use Rattle.explain_host.proofs.program.Program.take.Goals as goal

pub returns-clause-ok : goal.returns-clause-ok
returns-clause-ok g c = record {
  output = c.in_ok-output.output;
  right = c.in_ok-output.ensures.ok;
  rest = record { code = c.in_ok-output.output.code; left = c.read-got.new.self };
  kept = refl;
  gives = c.read-got.ensures.gives;
  code = refl;
  same = record {
    tool = c.in_ok-output.ensures.same.tool;
    command = c.in_ok-output.ensures.same.command;
    input = c.in_ok-output.ensures.same.input;
  };
}
