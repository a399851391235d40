-- A process that no statement ended, and its default mailboxes.
use Rattle.std.proofs.Common.{◌≡◌, Bool, true, false, List, ℕ, [], ◌∷◌, sym, refl, subst}
use Rattle.std.specs.Prelude.{if◌then◌else◌}
use Rattle.pm_journal.specs.JournalState.{JournalState}
use Rattle.pm_journal.specs.Entries.{View}
use Rattle.pm_journal.specs.Plan.{Ends}
use Rattle.pm_journal.specs.Executed.{Executes, OutOfMemory}
use Rattle.pm_journal.specs.Walking.{Next, Go, Reaches}
use Rattle.pm_meaning.specs.Delivering.{deliver_default, no_flags}
use Rattle.pm_meaning.specs.Minds.{Mind}
use Rattle.pm_meaning.specs.Turns.{ActEnd, is_for_good}
use Rattle.pm_meaning.specs.Apart.{acted_with}
use Rattle.pm_meaning.specs.declared.acted.Acted.{Acted}
use Rattle.pm_meaning.specs.declared.process.End.{End}
use Rattle.pm_meaning.specs.declared.process.End.TheVariants.{Delivered}
use Rattle.pm_meaning.specs.Running.{State, Event, Running, FallingOff, Over, step, default_mailboxes, next_default}
use Rattle.pm_journal.proofs.ActPlans.{executes_then}
use Rattle.pm_journal.proofs.WantsMemory.{executes_nothing, out_front}
use Rattle.pm_journal.proofs.WalkJoin.{reaches_then}
use Rattle.pm_run.specs.RunningOut.{NoDelivery, MayRunOut, RunsOut, OfNew}
use Rattle.pm_run.proofs.RunOutLemmas.{ran_out_then}

abbrev Onward : Type 0
Onward = Next State Event

-- a process that no statement ended comes to its default mailboxes
pub falls : (p : Mind) (mailboxes : List (List ℕ)) (x : JournalState) (s : View) → mailboxes ≡ default_mailboxes p.vars → Executes {R = Onward} (step (Running [] p)) (Go (FallingOff mailboxes p)) x x s s
falls p mailboxes x s e = subst (λ l. Executes {R = Onward} (step (Running [] p)) (Go (FallingOff l p)) x x s s) (sym e) (executes_nothing (Go (FallingOff (default_mailboxes p.vars) p)) x x s refl)

first_mailbox : (mailbox : List ℕ) (rest : List (List ℕ)) (p : Mind) (came : ActEnd) (x y : JournalState) (a b : View) → Executes (deliver_default mailbox p) came x y a b
    → Executes (step (FallingOff (mailbox ∷ rest) p)) (next_default rest came) x y a b
first_mailbox mailbox rest p came x y a b h =
    executes_then (deliver_default mailbox p) (λ t. Ends (next_default rest t)) came (next_default rest came) x y y a b b h (executes_nothing (next_default rest came) y y b refl)

-- what comes after a mailbox, by whether the mail was delivered
abbrev chosen : (good : Bool) (rest : List (List ℕ)) (q : Mind) → Onward
chosen good rest q = if good then Go (Over Delivered q) else Go (FallingOff rest q)

pub mailbox_on : (s : State) (items rest : List (List ℕ)) (mailbox : List ℕ) (p q : Mind) (acted : Acted) (x y z : JournalState) (a b c : View) → items ≡ mailbox ∷ rest → Reaches {X = Event} step s (FallingOff items p) x y a b
    → is_for_good acted ≡ false → Executes (deliver_default mailbox p) (acted_with acted q) y z b c → Reaches {X = Event} step s (FallingOff rest q) x z a c
mailbox_on s items rest mailbox p q acted x y z a b c e h other k =
    reaches_then step s (FallingOff (mailbox ∷ rest) p) (FallingOff rest q) x y z a b c
    (subst (λ l. Reaches {X = Event} step s (FallingOff l p) x y a b) e h)
    (subst (λ g. Executes (step (FallingOff (mailbox ∷ rest) p)) (chosen g rest q) y z b c) other (first_mailbox mailbox rest p (acted_with acted q) y z b c k))

pub mailbox_ends : (s : State) (items rest : List (List ℕ)) (mailbox : List ℕ) (p q : Mind) (acted : Acted) (x y z : JournalState) (a b c : View) → items ≡ mailbox ∷ rest → Reaches {X = Event} step s (FallingOff items p) x y a b
    → is_for_good acted ≡ true → Executes (deliver_default mailbox p) (acted_with acted q) y z b c → Reaches {X = Event} step s (Over Delivered q) x z a c
mailbox_ends s items rest mailbox p q acted x y z a b c e h good k =
    reaches_then step s (FallingOff (mailbox ∷ rest) p) (Over Delivered q) x y z a b c
    (subst (λ l. Reaches {X = Event} step s (FallingOff l p) x y a b) e h)
    (subst (λ g. Executes (step (FallingOff (mailbox ∷ rest) p)) (chosen g rest q) y z b c) good (first_mailbox mailbox rest p (acted_with acted q) y z b c k))

pub mailbox_wants : (s : State) (items rest : List (List ℕ)) (mailbox : List ℕ) (p : Mind) (x y z : JournalState) (a b c : View) → items ≡ mailbox ∷ rest → Reaches {X = Event} step s (FallingOff items p) x y a b
    → OutOfMemory (deliver_default mailbox p) y z b c → OfNew (NoDelivery no_flags) y z → RunsOut {X = Event} step MayRunOut s x z a c
mailbox_wants s items rest mailbox p x y z a b c e h k none =
    ran_out_then step MayRunOut s (FallingOff (mailbox ∷ rest) p) x y z a b c
    (subst (λ l. Reaches {X = Event} step s (FallingOff l p) x y a b) e h) (out_front (deliver_default mailbox p) (λ t. Ends (next_default rest t)) y z b c k) none

-- no default mailbox is left
pub none_on : (s : State) (items : List (List ℕ)) (p q : Mind) (end : End) (x y z : JournalState) (a b c : View) → items ≡ [] → Reaches {X = Event} step s (FallingOff items p) x y a b
    → Executes {R = Onward} (step (FallingOff [] p)) (Go (Over end q)) y z b c → Reaches {X = Event} step s (Over end q) x z a c
none_on s items p q end x y z a b c e h k = reaches_then step s (FallingOff [] p) (Over end q) x y z a b c (subst (λ l. Reaches {X = Event} step s (FallingOff l p) x y a b) e h) k

pub none_wants : (s : State) (items : List (List ℕ)) (p : Mind) (x y z : JournalState) (a b c : View) → items ≡ [] → Reaches {X = Event} step s (FallingOff items p) x y a b
    → OutOfMemory {R = Onward} (step (FallingOff [] p)) y z b c → RunsOut {X = Event} step MayRunOut s x z a c
none_wants s items p x y z a b c e h k = ran_out_then step MayRunOut s (FallingOff [] p) x y z a b c (subst (λ l. Reaches {X = Event} step s (FallingOff l p) x y a b) e h) k (λ more e. tt)
