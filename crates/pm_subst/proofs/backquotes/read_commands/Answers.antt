use Rattle.std.proofs.Common.{◌≡◌, ◌+◌, ◌++◌, ℕ, zero, List, sym, ap, ◌∙◌, length, drop, arith, length-drop, slice_range, append_assoc}
use Rattle.pm_subst.specs.Commands.{commands_of, command_of}
use Rattle.pm_subst.specs.Tokens.{Token, token_of, tokens}
use Rattle.pm_subst.proofs.Turn.{commands-turned, range-to_end}
use Rattle.pm_subst.proofs.backquotes.read_commands.Goals as goal

pub loop-at-preserved : goal.loop-at-preserved
loop-at-preserved c =
    let text = c.args.text.now in
    let here : List ℕ = slice_range text c.loop-at.at (length text) in
    let here_is : drop c.loop-at.at text ≡ here = sym (range-to_end text c.loop-at.at) in
    let token : Token = token_of c.turn_at-front.result c.rule-rule.result.quoted here in
    let rest : List Token = tokens c.args.mode zero c.pass.new.self c.fresh_behind-fresh.result (drop (c.loop-at.at + c.turn_at-front.result.taken) text) in
    let within = c.turn_at-front.ensures.within in
    record {
      within = omega (arith, length-drop c.loop-at.at text, within.taken);
      goes_on = c.loop-at.invariant.goes_on
          ∙ ap (λ cs. c.loop-at.commands.items ++ cs)
          (commands-turned c.args.mode c.loop-at.frames c.loop-at.fresh text c.loop-at.at here c.rule-rule.result c.turn_at-front.result _ _
          c.loop-at-test.true here_is c.rule-rule.ensures c.turn_at-front.ensures.turn within.some c.in_ok-pass.ensures c.fresh_behind-fresh.ensures)
          ∙ sym (append_assoc c.loop-at.commands.items (command_of token.kind token.text) (commands_of rest))
          ∙ ap (λ done. done ++ commands_of rest) (sym c.in_ok-push_command.ensures);
    }
