use Rattle.std.proofs.Common.{subst}
use Rattle.pm_overlay.proofs.Updates.{UpdatesAt, has, puts, same_entries, on_err_always}
use Rattle.pm_overlay.proofs.tree.Tree.put.Goals as goal

pub returns-clause-puts : goal.returns-clause-puts
returns-clause-puts g c =
    puts c.args.self.now.changes c.insert.new.self c.args.name.now c.args.this
    (subst (λ bs. UpdatesAt bs c.args.self.now.changes c.insert.new.self c.args.this) c.in_ok-key.ensures.ok c.in_ok-insert.ensures.updates)

pub returns-clause-ok : goal.returns-clause-ok
returns-clause-ok g c =
    has (g.B.Base.told c.args.self.now.base) c.args.self.now.changes c.insert.new.self c.args.self.now.slept c.args.name.now c.args.this
    (puts c.args.self.now.changes c.insert.new.self c.args.name.now c.args.this
    (subst (λ bs. UpdatesAt bs c.args.self.now.changes c.insert.new.self c.args.this) c.in_ok-key.ensures.ok c.in_ok-insert.ensures.updates))

pub returns-in_err-insert-clause-err : goal.returns-in_err-insert-clause-err
returns-in_err-insert-clause-err g c =
    on_err_always c.from_residual-in_err-insert.result
    (same_entries (g.B.Base.told c.args.self.now.base) c.args.self.now.changes c.insert.new.self c.args.self.now.slept c.in_err-insert.ensures.err)
