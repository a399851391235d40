use Rattle.std.proofs.Common.{◌∷◌, [], Some, None}
use Rattle.std.proofs.lemmas.Bool.Decides.{Decides-eqb}
use Rattle.std.proofs.lemmas.Slice.Eq.{strip_prefix_is}
use Rattle.pm_memory.proofs.Parts.{no_front, no_part, a_part}
use Rattle.pm_memory.proofs.folders.part_in.Goals as goal

pub returns-in_default : goal.returns-in_default
returns-in_default c = no_front c.args.folder.now c.args.name.now (strip_prefix_is Decides-eqb c.args.name.now c.args.folder.now None c.in_default.ensures.cases)

pub returns-then-contains : goal.returns-then-contains
returns-then-contains c =
    no_part c.args.folder.now c.args.name.now c.in-Some.rest.now c.in-Some-strip_prefix.part.now (strip_prefix_is Decides-eqb c.args.name.now c.args.folder.now (Some c.in-Some.rest) c.in-Some.ensures.cases)
    (strip_prefix_is Decides-eqb c.in-Some.rest.now (47 ∷ []) (Some c.in-Some-strip_prefix.part) c.in-Some-strip_prefix.ensures.cases) c.if-contains.ensures.value

pub returns-else-contains : goal.returns-else-contains
returns-else-contains c =
    a_part c.args.folder.now c.args.name.now c.in-Some.rest.now c.in-Some-strip_prefix.part.now (strip_prefix_is Decides-eqb c.args.name.now c.args.folder.now (Some c.in-Some.rest) c.in-Some.ensures.cases)
    (strip_prefix_is Decides-eqb c.in-Some.rest.now (47 ∷ []) (Some c.in-Some-strip_prefix.part) c.in-Some-strip_prefix.ensures.cases) c.if-contains.ensures.value
