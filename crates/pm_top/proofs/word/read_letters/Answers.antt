use Rattle.std.proofs.Common.{◌≡◌, ◌<◌, ◌+◌, Some, None, length, get_or, drop, arith, refl, sym, ap, ◌∙◌}
use Rattle.std.proofs.lemmas.Grind.{common_steps}
use Rattle.std.proofs.lemmas.Str.{IsCharBoundary-after_ascii}
use Rattle.pm_meaning.specs.declared.command_line.CommandLine.{CommandLine}
use Rattle.pm_top.specs.Words.{awaited, with_letter, rest_or_next}
use Rattle.pm_top.specs.Reading.{at}
use Rattle.pm_top.proofs.WordLemmas.{letter_awaits, letter_alone}
use Rattle.pm_top.proofs.word.read_letters.Goals as goal

pub range_from-requires : goal.range_from-requires
range_from-requires c =
    let word = c.args.word.now in
    let k = c.loop-k.k in
    let more : k < length word = omega arith in
    let small : get_or word k 0 < 128 = grind (arith, common_steps, c.in-Some.ensures.ascii) in
    λ _. IsCharBoundary-after_ascii word k c.utf8.word more small

pub returns-in-Some-clause-says : goal.returns-in-Some-clause-says
returns-in-Some-clause-says c =
    let word = c.args.word.now in
    let k = c.loop-k.k in
    let more : k < length word = omega arith in
    let takes : Some c.in-Some.next ≡ awaited (get_or word k 0) = grind (arith, common_steps, c.in-Some.ensures.is) in
    let behind : c.range_from.result.now ≡ drop (k + 1) word = grind (arith, common_steps) in
    λ line named.
    sym (c.loop-k.invariant.reads line)
    ∙ letter_awaits word k (get_or word k 0) c.in-Some.next (at c.loop-k.now line) more refl takes
    ∙ ap (λ rest. rest_or_next c.in-Some.next rest (at c.loop-k.now line)) (sym behind)
    ∙ c.rest_or_next.ensures.says line (named ∙ sym c.loop-k.invariant.named)

pub returns-in_default-with_letter-clause-says : goal.returns-in_default-with_letter-clause-says
returns-in_default-with_letter-clause-says c =
    let word = c.args.word.now in
    let k = c.loop-k.k in
    let more : k < length word = omega arith in
    let takes : None ≡ awaited (get_or word k 0) = grind (arith, common_steps) in
    let alone : (line : CommandLine) → with_letter (get_or word k 0) (at c.loop-k.now line) ≡ None = λ line. grind (arith, common_steps, c.with_letter.ensures.says line) in
    λ line named.
    sym (c.loop-k.invariant.reads line)
    ∙ letter_alone word k (get_or word k 0) (at c.loop-k.now line) None more refl takes (alone line)
