use Rattle.std.proofs.Common.{refl}
use Rattle.pm_regex.proofs.ReaderLemmas.{stack_set}
use Rattle.pm_regex.proofs.reader.Reader.set.Goals as goal

pub returns-clause-ok : goal.returns-clause-ok
returns-clause-ok c =
    let r = c.in_ok-length.ensures.ok in
    record {
      token = _;
      some = r.some;
      within = r.within;
      first = r.token;
      takes = λ st is. (
        _,
        refl,
        record {
          left = is.left;
          shows = record {
            stack = stack_set _ _ r.negated r.ranges _ r.ops (c.in_ok-join_last.ensures st.inner st.outer is.shows);
            group = (((is.shows).group).0, refl, ((is.shows).group).2);
          };
          around = is.around;
        },
      );
    }
