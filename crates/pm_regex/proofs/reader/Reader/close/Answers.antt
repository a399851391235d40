use Rattle.std.proofs.Common.{subst, ap}
use Rattle.pm_regex.specs.Machine.{close_group}
use Rattle.pm_regex.specs.Groups.{Shows}
use Rattle.pm_regex.proofs.ReaderLemmas.{innermost}
use Rattle.pm_regex.proofs.reader.Reader.close.Goals as goal

pub returns-clause-ok : goal.returns-clause-ok
returns-clause-ok c = λ st is.
    let old = c.args.self.now in
    let i = innermost old.around.items c.pop.new.self.items c.in-Some.around st.outer c.in-Some.ensures.items is.around in (
      _,
      ap (λ fs. close_group st fs) i.are,
      record {
        left = is.left;
        shows = c.in_ok-self.ensures st.inner i.frame i.frames (subst (λ fs. Shows old.ops.items old.group st.inner fs) i.are is.shows) i.group;
        around = i.around;
      },
    )
