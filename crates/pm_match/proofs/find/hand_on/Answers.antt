use Rattle.std.proofs.Common.{◌∙◌}
use Rattle.pm_match.specs.Finding.{LeftSeed, RightSeed}
use Rattle.pm_match.proofs.FindLemmas.{arrived_through}
use Rattle.pm_match.proofs.find.hand_on.Goals as goal

pub returns-clause-room : goal.returns-clause-room
returns-clause-room c = record {
  left = c.go_to_next.ensures.len ∙ c.requires.room.left;
  left_next = c.go_to_next.ensures.len_next ∙ c.requires.room.left_next;
  right = c.go_to_next-2.ensures.len ∙ c.requires.room.right;
  right_next = c.go_to_next-2.ensures.len_next ∙ c.requires.room.right_next;
}

pub returns-clause-left : goal.returns-clause-left
returns-clause-left c = λ from held.
    let g = c.args.automata.now.left in
    let p = g.steps.items in
    let area = c.args.area.now in
    arrived_through p c.deref.result.now area g.entry c.args.place (LeftSeed p area g.entry g.exit from)
    c.args.room.now.left.of.items c.go_to_next.new.labels.of.items c.deref.ensures.value
    held c.go_to_next.ensures.sound c.go_to_next.ensures.reached c.go_to_next.ensures.closed

pub returns-clause-right : goal.returns-clause-right
returns-clause-right c = λ from held.
    let g = c.args.automata.now.left in
    let p = g.steps.items in
    let h = c.args.automata.now.right in
    let q = h.steps.items in
    let area = c.args.area.now in
    arrived_through q c.deref-2.result.now area h.entry c.args.place (RightSeed p area g.entry g.exit from)
    c.args.room.now.right.of.items c.go_to_next-2.new.labels.of.items c.deref-2.ensures.value
    held c.go_to_next-2.ensures.sound c.go_to_next-2.ensures.reached c.go_to_next-2.ensures.closed
