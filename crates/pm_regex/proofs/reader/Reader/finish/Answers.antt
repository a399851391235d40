use Rattle.std.proofs.Common.{◌≡◌, length, sym, ap, arith}
use Rattle.std.proofs.lemmas.Bool.{eqb-true}
use Rattle.pm_regex.specs.Postfix.{is_single}
use Rattle.pm_regex.proofs.ReaderLemmas.{none_around, ends_alone}
use Rattle.pm_regex.proofs.reader.Reader.finish.Goals as goal

pub new-requires-clause-right_spelling : goal.new-requires-clause-right_spelling
new-requires-clause-right_spelling c =
    let old = c.args.self in
    let st = c.requires.0 in
    let is = c.requires.1 in
    let empty = eqb-true _ 0 (sym c.if-not-is_empty.ensures) in
    let none : length old.around.items ≡ 0 = omega (arith, empty, old.around.ok.0) in
    let outer = none_around old.around.items st.outer none is.around in
    ap is_single (ends_alone c.end_branch.new.ops.items _ st.outer outer (c.in_ok-end_branch.ensures st.inner st.outer is.shows))
