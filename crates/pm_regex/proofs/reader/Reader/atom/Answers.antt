use Rattle.std.proofs.Common.{refl}
use Rattle.pm_regex.proofs.reader.Reader.atom.Goals as goal

pub returns : goal.returns
returns c = λ st is. (_, refl, record { left = is.left; shows = c.in_ok-self.ensures st.inner st.outer is.shows; around = is.around })
