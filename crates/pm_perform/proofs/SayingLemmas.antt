-- Lines that are said one after the other, in plans.
use Rattle.std.proofs.Common.{◌≡◌, true, false, List, ℕ, [], ◌∷◌, refl, sym, ap, ◌∙◌, subst}
use Rattle.pm_journal.specs.JournalState.{JournalState}
use Rattle.pm_journal.specs.Entries.{View}
use Rattle.pm_journal.specs.Plan.{Plan, Ends}
use Rattle.pm_journal.specs.Executed.{Executes, OutOfMemory, LeadsTo}
use Rattle.pm_journal.proofs.PlanLeads.{leads_on, leads_to_end, leads_to_want}
use Rattle.pm_journal.proofs.WantsMemory.{executes_nothing, out_front}
use Rattle.pm_meaning.specs.Delivering.{say_each, is_without}
use Rattle.pm_meaning.specs.Logging.{log, logged}
use Rattle.pm_meaning.specs.Minds.{Mind}
use Rattle.pm_meaning.specs.Turns.{ActEnd}

-- a line was said, and the next comes
pub line_on : (whole : Plan ActEnd) (p : Mind) (items rest : List (List ℕ)) (line : List ℕ) (came : ActEnd) (x y z : JournalState) (a b c : View) → LeadsTo whole (say_each p items came) x y a b → items ≡ line ∷ rest
    → Executes (log line p) logged y z b c → LeadsTo whole (say_each p rest came) x z a c
line_on whole p items rest line came x y z a b c h e k =
    leads_on whole (log line p) (λ done. say_each p rest came) logged x y z a b c (subst (λ l. LeadsTo whole (say_each p l came) x y a b) e h) k

-- memory was wanting at a line
pub line_wants : (whole : Plan ActEnd) (p : Mind) (items rest : List (List ℕ)) (line : List ℕ) (came : ActEnd) (x y z : JournalState) (a b c : View) → LeadsTo whole (say_each p items came) x y a b → items ≡ line ∷ rest
    → OutOfMemory (log line p) y z b c → OutOfMemory whole x z a c
line_wants whole p items rest line came x y z a b c h e k =
    leads_to_want whole (say_each p (line ∷ rest) came) x y z a b c (subst (λ l. LeadsTo whole (say_each p l came) x y a b) e h)
    (out_front (log line p) (λ done. say_each p rest came) y z b c k)

-- all lines were said
pub lines_over : (whole : Plan ActEnd) (p : Mind) (items : List (List ℕ)) (came : ActEnd) (x y : JournalState) (a b : View) → LeadsTo whole (say_each p items came) x y a b → items ≡ [] → Executes whole came x y a b
lines_over whole p items came x y a b h e =
    leads_to_end whole (Ends came) came x y y a b b (subst (λ l. LeadsTo whole (say_each p l came) x y a b) e h) (executes_nothing came y y b refl)

-- where a line is left, there was one
pub lines_were : (all lines rest : List (List ℕ)) (line : List ℕ) → (is_without all ≡ true → is_without lines ≡ true) → lines ≡ line ∷ rest → is_without all ≡ false
lines_were [] lines rest line keeps is = let f : true ≡ false = sym (keeps refl) ∙ ap is_without is in absurd (cc)
lines_were (first ∷ others) lines rest line keeps is = refl

pub lines_left : (all lines rest : List (List ℕ)) (line : List ℕ) → (is_without all ≡ true → is_without lines ≡ true) → lines ≡ line ∷ rest → is_without all ≡ true → is_without rest ≡ true
lines_left all lines rest line keeps is none = let f : true ≡ false = sym (keeps none) ∙ ap is_without is in absurd (cc)
