use Rattle.std.proofs.Common.{◌≡◌, true, false, codes, sym, ◌∙◌}
use Rattle.std.specs.Str.{bytes_eq}
use Rattle.std.proofs.lemmas.Slice.Eq.{bytes_eq-Decides}
use Rattle.pm_vars.specs.Held.{live}
use Rattle.pm_vars.proofs.Last.{value_of-set, value_of-last}
use Rattle.pm_vars.proofs.values.Values.get.Goals as goal

pub returns-then-eq : goal.returns-then-eq
returns-then-eq c =
    let same : bytes_eq c.args.name.now (codes "LASTFOLDER") ≡ true = sym c.eq.ensures ∙ c.if-eq.true in
    let named : c.args.name.now ≡ codes "LASTFOLDER" = (bytes_eq-Decides c.args.name.now (codes "LASTFOLDER")).0 same in
    rw (← c.self.view_is, c.in-Some.is, named) (sym (value_of-set (codes "LASTFOLDER") c.in-Some.value (live c.self.inside.held.entries)))

pub returns-else-eq : goal.returns-else-eq
returns-else-eq c =
    let apart : bytes_eq c.args.name.now (codes "LASTFOLDER") ≡ false = sym c.eq.ensures ∙ c.if-eq.false in
    rw (← c.self.view_is)
    (c.find-else-eq.ensures ∙ sym (value_of-last c.self.inside.last_folder c.args.name.now (live c.self.inside.held.entries) apart))
