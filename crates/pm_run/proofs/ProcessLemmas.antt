-- The steps of a process, one after the other.
use Rattle.std.proofs.Common.{◌++◌, sym, ap, ◌∙◌, subst, append_assoc}
use Rattle.pm_journal.specs.JournalState.{JournalState}
use Rattle.pm_journal.specs.Entries.{View}
use Rattle.pm_journal.specs.Walking.{Means, IsUnfinished, Reaches}
use Rattle.pm_journal.proofs.AccountsJoin.{accounts_join}
use Rattle.pm_journal.proofs.WalkJoin.{arrives_on}
use Rattle.pm_meaning.specs.Running.{State, Event, step}

-- from one state to another, and on to a third
pub reaches_reached : (s t u : State) (x y z : JournalState) (a b c : View) → Reaches {X = Event} step s t x y a b → Reaches {X = Event} step t u y z b c → Reaches {X = Event} step s u x z a c
reaches_reached s t u x y z a b c h k = record {
  more = h.more ++ k.more;
  entries = k.entries ∙ ap (λ l. l ++ k.more) h.entries ∙ append_assoc x.entries h.more k.more;
  arrives = arrives_on step h.arrives.steps s t u h.more k.more h.arrives.plays k.arrives;
  means = λ later end m. subst (λ l. Means step s l end) (sym (append_assoc h.more k.more later)) (h.means (k.more ++ later) end (k.means later end m));
  unfinished = λ later calls m. subst (λ l. IsUnfinished step s l calls) (sym (append_assoc h.more k.more later)) (h.unfinished (k.more ++ later) calls (k.unfinished later calls m));
  accounts = accounts_join h.more k.more a b c h.accounts k.accounts;
}
