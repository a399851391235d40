-- What a call of a host answered, as it is logged.
use Rattle.std.specs.Prelude.{◌≤◌, ℕ, List, take}
use Rattle.pm_host.specs.declared.answers.Got.{Got}
use Rattle.pm_host.specs.declared.answers.Got.TheVariants.{Got as GotSome, Failed as GotFailed}
use Rattle.pm_host.specs.declared.calls.Answer.{Answer}
use Rattle.pm_host.specs.declared.answers.Listed.{Listed}
use Rattle.pm_host.specs.declared.answers.Listed.TheVariants.{Names as ListedNames, Failed as ListFailed, Memory as ListMemory}
use Rattle.pm_host.specs.declared.calls.Answer.TheVariants.{Read as AnswerRead, Take as AnswerTake, Names as AnswerNames, Failed as AnswerFailed, Memory as AnswerMemory}

-- the bytes that came, which stand at the front of the room
abbrev pub read_answer : Got → List ℕ → Answer
read_answer (GotSome n) room = AnswerRead (take n room)
read_answer GotFailed room = AnswerFailed

-- the same of a child's output
abbrev pub take_answer : Got → List ℕ → Answer
take_answer (GotSome n) room = AnswerTake (take n room)
take_answer GotFailed room = AnswerFailed

-- the names that were listed
abbrev pub names_answer : Listed → Answer
names_answer (ListedNames names) = AnswerNames names
names_answer ListFailed = AnswerFailed
names_answer ListMemory = AnswerMemory

-- no more came than the room holds
abbrev pub IsWithin : Got → ℕ → Type 0
IsWithin (GotSome n) room = n ≤ room
IsWithin GotFailed room = Unit {0}
