use Rattle.std.proofs.Common.{◌<◌, length, arith}
use Rattle.pm_regex.proofs.ReaderLemmas.{groups_length, too_deep, opens}
use Rattle.pm_regex.proofs.reader.Reader.open.Goals as goal

pub returns-then-len-ge-MAX_DEPTH-clause-defect : goal.returns-then-len-ge-MAX_DEPTH-clause-defect
returns-then-len-ge-MAX_DEPTH-clause-defect c = λ same st is.
    let n = groups_length c.args.self.now.around.items st.outer is.around in
    too_deep st (omega (arith, n, c.args.self.now.around.ok.0))

pub returns-clause-ok : goal.returns-clause-ok
returns-clause-ok c = λ st is.
    let n = groups_length c.args.self.now.around.items st.outer is.around in
    let room : length st.outer < 200 = omega (arith, n, c.args.self.now.around.ok.0) in (
      _,
      opens st room,
      record {
        left = is.left;
        shows = c.in_ok-inner.ensures st.inner st.outer is.shows;
        around = (c.args.self.now.around.items, c.args.self.now.group, c.in_ok-push.ensures.items, (is.shows).group, is.around);
      },
    )
