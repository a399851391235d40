use Rattle.pm_recipe.proofs.JoinLaws.{joined, plain, unindents, unindents-plain}
use Rattle.pm_recipe.proofs.laws.joins_law.Goals as goal

pub returns-clause-joined : goal.returns-clause-joined
returns-clause-joined c = λ front rest h. joined front rest h

pub returns-clause-plain : goal.returns-clause-plain
returns-clause-plain c = λ text h. plain text h

pub returns-clause-unindented : goal.returns-clause-unindented
returns-clause-unindented c = λ front blanks byte rest h b i. unindents front blanks byte rest h b i

pub returns-clause-unindented_plain : goal.returns-clause-unindented_plain
returns-clause-unindented_plain c = λ text h. unindents-plain text h
