use Rattle.std.proofs.Common.{◌≡◌, true, false, codes, sym, ◌∙◌}
use Rattle.std.specs.Str.{bytes_eq}
use Rattle.std.proofs.lemmas.Bool.{not-true, not-false}
use Rattle.std.proofs.lemmas.Slice.Eq.{bytes_eq-Decides}
use Rattle.pm_vars.proofs.Last.{without-last, without-last-itself}
use Rattle.pm_vars.proofs.values.forget.Goals as goal

pub returns-then-ne : goal.returns-then-ne
returns-then-ne c =
    let apart : bytes_eq c.args.name.now (codes "LASTFOLDER") ≡ false = not-true _ (sym c.ne.ensures ∙ c.if-ne.true) in
    λ vs. sym (without-last c.args.last_folder.now c.args.name.now vs apart)

pub returns : goal.returns
returns c =
    let same : bytes_eq c.args.name.now (codes "LASTFOLDER") ≡ true = not-false _ (sym c.ne.ensures ∙ c.if-ne.false) in
    let named : c.args.name.now ≡ codes "LASTFOLDER" = (bytes_eq-Decides c.args.name.now (codes "LASTFOLDER")).0 same in
    λ vs. rw named (sym (without-last-itself c.args.last_folder.now vs))
