use Rattle.std.proofs.Common.{ap, ◌∙◌}
use Rattle.pm_memory.specs.Host.{world_of}
use Rattle.pm_memory.specs.Tree.{with_others}
use Rattle.pm_memory.proofs.Children.{on_ok_map}
use Rattle.pm_memory.proofs.Updates.{on_err_then}
use Rattle.pm_memory.proofs.host.MemoryHost.batch.Goals as goal

pub returns-clause-ok : goal.returns-clause-ok
returns-clause-ok c = on_ok_map c.add_batch.result c.add_batch.ensures.ok (λ e. c.add_batch.ensures.rest ∙ ap (λ o. with_others o (world_of c.args.self.now)) e)

pub returns-clause-err : goal.returns-clause-err
returns-clause-err c = on_err_then c.add_batch.result c.add_batch.ensures.err (λ e. c.add_batch.ensures.rest ∙ ap (λ o. with_others o (world_of c.args.self.now)) e)
