use Rattle.std.proofs.Common.{refl}
use Rattle.pm_regex.proofs.reader.Reader.edge.Goals as goal

pub returns : goal.returns
returns c = λ st is. (
  _,
  refl,
  record {
    left = is.left;
    shows = rw (← c.edge-atom.ensures st.inner (is.shows).group) (c.in_ok-self.ensures st.inner st.outer is.shows);
    around = is.around;
  },
)
