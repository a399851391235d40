use Rattle.std.proofs.Common.{◌≡◌, ◌∙◌, ◌++◌, length, refl, ap, arith}
use Rattle.pm_match.specs.declared.build.Program.{Program}
use Rattle.pm_match.proofs.AnywhereLemmas.{four, embeds4, sound4}
use Rattle.pm_match.proofs.anywhere.with_any_bytes.Goals as goal

pub returns-clause-embeds : goal.returns-clause-embeds
returns-clause-embeds c =
    let program = c.args.program.now in
    let len : c.len-entry.result ≡ length program.steps.items = omega (arith, c.len-entry.ensures, program.steps.ok.0) in
    let copied = c.in_ok-extend_from_slice.ensures.items ∙ ap (λ x. x ++ c.deref.result.now) c.new-steps.ensures.items ∙ c.deref.ensures.value in
    let longer : Program = record { steps = c.push-4.new.self; entry = c.len-entry.result; exit = program.exit } in
    embeds4 program longer (four program.steps.items _ _ _ _ _ program.entry _ copied len
    c.in_ok-push.ensures.items c.in_ok-push-2.ensures.items c.in_ok-push-3.ensures.items c.in_ok-push-4.ensures.items) len refl c.requires

pub returns-clause-sound : goal.returns-clause-sound
returns-clause-sound c =
    let program = c.args.program.now in
    let len : c.len-entry.result ≡ length program.steps.items = omega (arith, c.len-entry.ensures, program.steps.ok.0) in
    let copied = c.in_ok-extend_from_slice.ensures.items ∙ ap (λ x. x ++ c.deref.result.now) c.new-steps.ensures.items ∙ c.deref.ensures.value in
    sound4 program _ (four program.steps.items _ _ _ _ _ program.entry _ copied len
    c.in_ok-push.ensures.items c.in_ok-push-2.ensures.items c.in_ok-push-3.ensures.items c.in_ok-push-4.ensures.items) len refl c.requires
