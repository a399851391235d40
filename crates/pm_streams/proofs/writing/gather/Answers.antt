use Rattle.pm_streams.proofs.WriteLemmas.{takes_on, wrote_takes, wrote_all, short_stops, stops_on, short_all}
use Rattle.pm_streams.proofs.writing.gather.Goals as goal

pub returns-in_default-clause-none : goal.returns-in_default-clause-none
returns-in_default-clause-none g c = λ _. short_stops _ _ _ _ _ c.in_default.ensures

pub returns-in_default-write_text-clause-none : goal.returns-in_default-write_text-clause-none
returns-in_default-write_text-clause-none g c =
    λ _. stops_on _ _ _ _ _ (wrote_takes _ c.args.text.now _ _ c.in-Wrote.ensures) (short_all _ _ _ _ c.in_default-write_text.ensures)

pub returns-clause-some : goal.returns-clause-some
returns-clause-some g c =
    takes_on _ _ _ _ _ _ (wrote_takes _ c.args.text.now _ _ c.in-Wrote.ensures) (wrote_all _ _ _ c.in-Wrote-write_text.ensures)
