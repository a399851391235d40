-- Objects that are lent to a process come back, and what was done doesn't depend on the references that held them.
use Rattle.std.proofs.Common.{◌≡◌, ◌∙◌}
use Rattle.pm_journal.specs.JournalState.{JournalState}
use Rattle.pm_journal.specs.Entries.{View}
use Rattle.pm_journal.specs.Walking.{Completes}
use Rattle.pm_meaning.specs.Courses.{Course, advance}
use Rattle.pm_meaning.specs.declared.ending.Ending.{Ending}
use Rattle.pm_meaning.proofs.Beside.{plain, accounts_plain, takes_plain}
use Rattle.pm_run.specs.RunningOut.{GaveUp}

pub completes_plain : (c : Course) (end : Ending) (x y : JournalState) (a b : View) → Completes advance c end x y a b → Completes advance c end x y (plain a) (plain b)
completes_plain s end x y a b h = record { more = h.more; entries = h.entries; means = h.means; accounts = accounts_plain h.more a b h.accounts }

pub gave_up_plain : (c : Course) (x y : JournalState) (a b : View) → GaveUp c x y a b → GaveUp c x y (plain a) (plain b)
gave_up_plain s x y a b k = let h = k.abandoned in record {
  abandoned = record {
    done = h.done;
    given = h.given;
    entries = h.entries;
    middle = plain h.middle;
    accounts = accounts_plain h.done a h.middle h.accounts;
    left_off = h.left_off;
    unfinished = h.unfinished;
    later = plain h.later;
    took = takes_plain h.left_off h.middle h.later h.took;
    held = h.held;
    kept = h.kept;
    unlocks = h.unlocks;
    back = accounts_plain h.given h.later b h.back;
  };
  place = k.place;
}

-- the references after a process that ended, and after one that was left off, are those before it
pub lent_back : (c : Course) (end : Ending) (x y : JournalState) (a b : View) → Completes advance c end x y a b → b.references ≡ a.references
lent_back c end x y a b h = h.accounts.same

pub given_back : (c : Course) (x y : JournalState) (a b : View) → GaveUp c x y a b → b.references ≡ a.references
given_back c x y a b h = let k = h.abandoned in k.back.same ∙ (k.took.same ∙ k.accounts.same)
