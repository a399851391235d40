use Rattle.std.proofs.Common.{rules, ◌≡◌, ◌≤◌, ◌+◌, length, sym, subst}
use Rattle.pm_journal.specs.Appending.{append_step}
use Rattle.pm_append.specs.Machine.{IsStepWithin, appending_heard}
use Rattle.pm_turns.specs.Turning.{append_answer, append_place as append_place_is}
use Rattle.pm_turns.specs.Room.{left_in, left_at, came}
use Rattle.pm_turns.proofs.Room.{room_kept}
use Rattle.pm_turns.proofs.turn.append_turn.Goals as goal

pub returns-clause-room : goal.returns-clause-room
returns-clause-room c =
    let a = c.args.core in let piece = c.args.piece.now in let box = c.args.mailbox.now in
    let place : c.append_place.result ≡ append_place_is (appending_heard a (append_answer (append_step a.len a.sync a.at) (length piece) box.text c.args.will)) = search rules in
    let within : IsStepWithin a.len (append_step a.len a.sync a.at) = search rules in
    let used : c.answer_append-answer.new.mailbox.used ≤ box.used + came (append_answer (append_step a.len a.sync a.at) (length piece) box.text c.args.will) = search rules in
    subst (λ p. c.answer_append-answer.new.mailbox.used + left_in piece p ≤ box.used + left_at (length piece) a.at) (sym place)
    (room_kept piece a box.text c.args.will box.used c.answer_append-answer.new.mailbox.used c.requires.sound.0 within used)
