use Rattle.std.proofs.Common.{◌≡◌, ◌∙◌, ap, cond, [], length, map, false}
use Rattle.std.proofs.lemmas.Bool.{le-ltb}
use Rattle.pm_recipe.proofs.OneCut.{one-cut-text}
use Rattle.pm_recipe.specs.Cuts.{piece_of}
use Rattle.pm_recipe.specs.Refusal.{most_length}
use Rattle.pm_recipe.specs.Listed.{pieces_of}
use Rattle.explain_notes.specs.Steps.{steps_of, lines_of}
use Rattle.explain_notes.proofs.rcfile.RcLines.read.Goals as goal

-- the spans are the pieces of the text, since there is one cut
pub returns-in_ok-steps-in-Ok : goal.returns-in_ok-steps-in-Ok
returns-in_ok-steps-in-Ok c =
    let text = c.args.text.now in
    c.in_ok-steps-in-Ok.ensures
    ∙ ap (λ spans. steps_of (map piece_of spans)) c.as_slice.ensures.value
    ∙ ap steps_of (one-cut-text text (map piece_of c.in-Ok.spans.items) c.in-Ok.ensures.spans.cut)
    ∙ rw (le-ltb most_length (length text) c.in-Ok.ensures.fits)
