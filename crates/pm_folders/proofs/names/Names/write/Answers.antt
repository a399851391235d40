use Rattle.std.proofs.Common.{rules, refl}
use Rattle.pm_folders.proofs.Digits.{no_zero}
use Rattle.pm_folders.proofs.names.Names.write.Goals as goal

pub write_with-requires-in-Again-2-clause-plain : goal.write_with-requires-in-Again-2-clause-plain
write_with-requires-in-Again-2-clause-plain c = (refl, rw c.format.ensures.text (no_zero c.args.k (search rules)))

pub write_with-requires-in-Number-clause-plain : goal.write_with-requires-in-Number-clause-plain
write_with-requires-in-Number-clause-plain c = (refl, rw c.format-in-Number.ensures.text (no_zero _ (search rules)))
