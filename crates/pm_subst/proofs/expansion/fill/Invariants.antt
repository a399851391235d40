use Rattle.std.proofs.Common.{◌≡◌, ◌≤◌, ◌-◌, length, drop, zero}
use Rattle.pm_subst.specs.Buffer.{Holds}
use Rattle.pm_subst.specs.Fields.{Fields, gathered}
use Rattle.pm_subst.specs.Tokens.{is_many, tokens}
use Rattle.pm_subst.specs.Words.{fields_in, elements}
use Rattle.pm_subst.proofs.expansion.fill.Given as goal

abbrev pub invariant-loop-at : goal.invariant-loop-at
invariant-loop-at l = record {
  within : l.at ≤ length l.text;
  unused : l.unused ≤ l.at;
  splits : l.buffer.splits ≡ is_many l.mode;
  goes_on : (fields : Fields) × Holds l.buffer fields
      × (fields_in l.mode l.vars l.fn.outputs l.text ≡ gathered (is_many l.mode) fields (elements l.vars l.outputs l.unused (tokens l.mode zero l.frames l.fresh (drop l.at l.text))));
}

abbrev pub decreases-loop-at : goal.decreases-loop-at
decreases-loop-at l = length l.text - l.at
