use Rattle.std.proofs.Common.{◌≡◌, ◌∙◌, ◌∷◌, [], ◌++◌, map, sym, ap}
use Rattle.std.proofs.lemmas.List.{append_assoc, map-append}
use Rattle.pm_run.specs.Nested.{are_nested, frame_of, frames_if}
use Rattle.pm_run.proofs.CopyLemmas.{nested_last}
use Rattle.pm_run.proofs.resuming.resume.Goals as goal

pub within-requires : goal.within-requires
within-requires c =
    let rest = map frame_of c.pop.new.self.items in
    let frame = frame_of c.in-Some.frame in
    let outer = frames_if c.loop-frame.running in
    let all : map frame_of c.args.frames.items ≡ rest ++ frame ∷ outer =
    c.loop-frame.invariant ∙ ap (λ l. map frame_of l ++ outer) c.in-Some.ensures.items ∙ ap (λ l. l ++ outer) (map-append frame_of c.pop.new.self.items (c.in-Some.frame ∷ [])) ∙ append_assoc rest (frame ∷ []) outer in
    nested_last rest frame outer (sym (ap are_nested all) ∙ c.requires.nested)
