use Rattle.std.proofs.Common.{◌≤◌, ◌++◌, length, take, drop}
use Rattle.std.specs.List.{concat}
use Rattle.pm_streams.specs.Writing.{TakesUpTo}
use Rattle.pm_streams.proofs.writing.write_texts.Given as goal

abbrev pub invariant-loop-text : goal.invariant-loop-text
invariant-loop-text g l = record {
  within : l.held ≤ length l.room;
  takes : TakesUpTo (take l.held l.room ++ concat (drop l.text-index l.texts)) (concat l.texts)
      (g.E.Sink.told l.fn.sink) (g.E.Sink.told l.sink);
}
