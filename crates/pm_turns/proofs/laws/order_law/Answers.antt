use Rattle.pm_turns.specs.Turning.{run, text}
use Rattle.pm_turns.specs.Laws.{opened}
use Rattle.pm_turns.proofs.Keeps.{always, sound_clean}
use Rattle.pm_turns.proofs.CallLemmas.{each_delivers}
use Rattle.pm_turns.proofs.Delivers.{delivers_all}
use Rattle.pm_turns.proofs.Grows.{order_grows}
use Rattle.pm_turns.proofs.KeptLaws.{at_rest, in_order, one_between}
use Rattle.pm_turns.proofs.TreeLemmas.{stands_in_tree}
use Rattle.pm_turns.proofs.laws.order_law.Goals as goal

pub returns-clause-whole_where_free : goal.returns-clause-whole_where_free
returns-clause-whole_where_free c = λ o es e. at_rest (text o.mailbox) o.locked (run es (opened o)) (always o.mailbox o.locked o.writers es e)

pub returns-clause-in_order : goal.returns-clause-in_order
returns-clause-in_order c = λ o es e. in_order (text o.mailbox) o.locked (run es (opened o)) (always o.mailbox o.locked o.writers es e)

pub returns-clause-one_at_a_time : goal.returns-clause-one_at_a_time
returns-clause-one_at_a_time c = λ o es e v a p w b q. one_between (text o.mailbox) o.locked (run es (opened o)) v w a b (always o.mailbox o.locked o.writers es e) p q

pub returns-clause-clean : goal.returns-clause-clean
returns-clause-clean c = λ o es e w a s. sound_clean a.place ((always o.mailbox o.locked o.writers es e).sound w a s)

pub returns-clause-lock : goal.returns-clause-lock
returns-clause-lock c = λ o es e. (always o.mailbox o.locked o.writers es e).there

pub returns-clause-order : goal.returns-clause-order
returns-clause-order c = λ o es e. ((always o.mailbox o.locked o.writers es e).once, (always o.mailbox o.locked o.writers es e).listed)

pub returns-clause-grows : goal.returns-clause-grows
returns-clause-grows c = λ s es. order_grows es s

pub returns-clause-delivers : goal.returns-clause-delivers
returns-clause-delivers c = λ o free. delivers_all o free

pub returns-clause-calls : goal.returns-clause-calls
returns-clause-calls c = each_delivers

pub returns-clause-tree : goal.returns-clause-tree
returns-clause-tree c = stands_in_tree
