use Rattle.explain_notes.proofs.Weaving.{woven-steps, woven-told}
use Rattle.explain_notes.proofs.laws.woven_law.Goals as goal

pub returns : goal.returns
returns c = record { steps = λ entries all. woven-steps 0 entries all; notes = λ entries all. woven-told 0 entries all }
