use Rattle.std.proofs.Common.{ℕ, arith, length-take, length-drop}
use Rattle.pm_folders.proofs.FileLemmas.{wrote_more}
use Rattle.pm_folders.proofs.file.write_all.Goals as goal

pub loop-taken-preserved : goal.loop-taken-preserved
loop-taken-preserved g c =
    let m = rw c.at.ensures at c.in-Took.ensures in
    record {
      within = omega (arith, c.in-Took.ensures.fits.1, length-take {A = ℕ}, length-drop {A = ℕ});
      goes = wrote_more _ _ _ _ _ _ _ _ c.loop-taken.invariant.goes m (omega (arith, c.in-Took.ensures.fits.0, c.in-Took.ensures.fits.1)) c.loop-taken-test.true;
    }

pub returns-in-Failed : goal.returns-in-Failed
returns-in-Failed g c =
    let m = rw c.at.ensures at c.in-Failed.ensures in
    wrote_more _ _ _ _ _ _ _ _ c.loop-taken.invariant.goes m (omega (arith, c.min-end.ensures, c.saturating_add.ensures, c.loop-taken-test.true, length-take {A = ℕ}, length-drop {A = ℕ})) c.loop-taken-test.true
