-- Default mailboxes that are tried in order, in plans.
use Rattle.std.proofs.Common.{◌≡◌, Bool, true, false, List, ℕ, [], ◌∷◌, refl, subst}
use Rattle.std.specs.Prelude.{if◌then◌else◌}
use Rattle.pm_journal.specs.JournalState.{JournalState}
use Rattle.pm_journal.specs.Entries.{View}
use Rattle.pm_journal.specs.Plan.{Plan, Ends}
use Rattle.pm_journal.specs.Executed.{Executes, OutOfMemory, LeadsTo}
use Rattle.pm_journal.proofs.PlanLeads.{leads_on, leads_to_end, leads_to_want}
use Rattle.pm_journal.proofs.WantsMemory.{executes_nothing, out_front}
use Rattle.pm_meaning.specs.Apart.{acted_with}
use Rattle.pm_meaning.specs.Delivering.{deliver_default, try_each}
use Rattle.pm_meaning.specs.Minds.{Mind}
use Rattle.pm_meaning.specs.Turns.{ActEnd, is_for_good}
use Rattle.pm_meaning.specs.declared.acted.Acted.{Acted}

-- what comes after a mailbox, by whether the mail was delivered for good
abbrev chosen : Bool → List (List ℕ) → ActEnd → Plan ActEnd
chosen good rest came = if good then Ends came else try_each rest came.acted came.mind

abbrev behind : List (List ℕ) → ActEnd → Plan ActEnd
behind rest came = chosen (is_for_good came.acted) rest came

-- the rest begins with this mailbox
begun : (whole : Plan ActEnd) (items rest : List (List ℕ)) (mailbox : List ℕ) (last : Acted) (p : Mind) (x y : JournalState) (a b : View) → items ≡ mailbox ∷ rest
    → LeadsTo whole (try_each items last p) x y a b → LeadsTo whole (try_each (mailbox ∷ rest) last p) x y a b
begun whole items rest mailbox last p x y a b e h = subst (λ l. LeadsTo whole (try_each l last p) x y a b) e h

-- the mailbox didn't get the mail, and the next one comes
pub mailbox_failed : (whole : Plan ActEnd) (items rest : List (List ℕ)) (mailbox : List ℕ) (last acted : Acted) (p q : Mind) (x y z : JournalState) (a b c : View) → items ≡ mailbox ∷ rest
    → LeadsTo whole (try_each items last p) x y a b → is_for_good acted ≡ false → Executes (deliver_default mailbox p) (acted_with acted q) y z b c → LeadsTo whole (try_each rest acted q) x z a c
mailbox_failed whole items rest mailbox last acted p q x y z a b c e h other k =
    subst (λ g. LeadsTo whole (chosen g rest (acted_with acted q)) x z a c) other
    (leads_on whole (deliver_default mailbox p) (behind rest) (acted_with acted q) x y z a b c (begun whole items rest mailbox last p x y a b e h) k)

-- the mailbox got it
pub mailbox_taken : (whole : Plan ActEnd) (items rest : List (List ℕ)) (mailbox : List ℕ) (last acted : Acted) (p q : Mind) (x y z : JournalState) (a b c : View) → items ≡ mailbox ∷ rest
    → LeadsTo whole (try_each items last p) x y a b → is_for_good acted ≡ true → Executes (deliver_default mailbox p) (acted_with acted q) y z b c → Executes whole (acted_with acted q) x z a c
mailbox_taken whole items rest mailbox last acted p q x y z a b c e h good k =
    let came = acted_with acted q in
    let led = leads_on whole (deliver_default mailbox p) (behind rest) came x y z a b c (begun whole items rest mailbox last p x y a b e h) k in
    leads_to_end whole (Ends came) came x z z a c c (subst (λ g. LeadsTo whole (chosen g rest came) x z a c) good led) (executes_nothing came z z c refl)

-- memory was wanting at the mailbox
pub mailbox_wants : (whole : Plan ActEnd) (items rest : List (List ℕ)) (mailbox : List ℕ) (last : Acted) (p : Mind) (x y z : JournalState) (a b c : View) → items ≡ mailbox ∷ rest
    → LeadsTo whole (try_each items last p) x y a b → OutOfMemory (deliver_default mailbox p) y z b c → OutOfMemory whole x z a c
mailbox_wants whole items rest mailbox last p x y z a b c e h k =
    leads_to_want whole (try_each (mailbox ∷ rest) last p) x y z a b c (begun whole items rest mailbox last p x y a b e h) (out_front (deliver_default mailbox p) (behind rest) y z b c k)

-- no mailbox is left
pub mailboxes_over : (whole : Plan ActEnd) (items : List (List ℕ)) (last : Acted) (p : Mind) (x y : JournalState) (a b : View) → items ≡ [] → LeadsTo whole (try_each items last p) x y a b → Executes whole (acted_with last p) x y a b
mailboxes_over whole items last p x y a b e h =
    leads_to_end whole (Ends (acted_with last p)) (acted_with last p) x y y a b b (subst (λ l. LeadsTo whole (try_each l last p) x y a b) e h) (executes_nothing (acted_with last p) y y b refl)
