use Rattle.std.proofs.Common.{◌≡◌, ◌++◌, drop, map}
use Rattle.formail_split.specs.Children.{edited_at}
use Rattle.formail_split.proofs.children.edited_parts.Given as goal

abbrev pub invariant-loop-part : goal.invariant-loop-part
invariant-loop-part l =
    l.texts.items ++ map (edited_at l.moment l.edits) (drop l.part-index l.parts)
    ≡ map (edited_at l.moment l.edits) l.parts
