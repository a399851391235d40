-- An act as a plan, and plans one after another.
use Rattle.std.proofs.Common.{[], ◌∷◌, ◌++◌, sym, ap, ◌∙◌, subst, append_assoc}
use Rattle.pm_journal.specs.Entries.{View}
use Rattle.pm_journal.specs.Noted.{NotesAct}
use Rattle.pm_journal.specs.JournalState.{JournalState}
use Rattle.pm_journal.specs.Replies.{IsReplyTo}
use Rattle.pm_journal.proofs.AccountsJoin.{accounts_join}
use Rattle.pm_journal.proofs.OneAct.{noted_reply}
use Rattle.pm_journal.specs.declared.acts.Act.{Act}
use Rattle.pm_journal.specs.declared.acts.Reply.{Reply}
use Rattle.pm_journal.specs.Plan.{Plan, and_then, ask}
use Rattle.pm_journal.specs.Executed.{Executes}
use Rattle.pm_journal.proofs.PlanJoin.{plays_then}

-- an act is a plan of its own
pub act_executes : (act : Act) (reply : Reply) (old new : JournalState) (a b : View) → NotesAct act reply old new a b → Executes (ask act) reply old new a b
act_executes act reply old new a b n = record {
  more = n.entry ∷ [];
  entries = n.entries;
  plays = (n.act_is, subst (λ a. IsReplyTo a n.entry.reply) n.act_is (noted_reply n.entry a b n.accounts), sym n.reply_is);
  accounts = n.accounts;
}

-- a plan that was carried out, and then the next
pub executes_then : {R S : Type 0} (p : Plan R) (f : R → Plan S) (r : R) (s : S) (x y z : JournalState) (a b c : View)
    → Executes p r x y a b → Executes (f r) s y z b c → Executes (and_then p f) s x z a c
executes_then p f r s x y z a b c h k = record {
  more = h.more ++ k.more;
  entries = k.entries ∙ ap (λ l. l ++ k.more) h.entries ∙ append_assoc x.entries h.more k.more;
  plays = plays_then p f h.more k.more r s h.plays k.plays;
  accounts = accounts_join h.more k.more a b c h.accounts k.accounts;
}
