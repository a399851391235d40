-- Plans one after another.
use Rattle.std.proofs.Common.{◌≡◌, List, [], ◌∷◌, ◌++◌, sym, subst, ◌∙◌}
use Rattle.pm_journal.specs.declared.acts.Act.{Act}
use Rattle.pm_journal.specs.declared.acts.Entry.{Entry}
use Rattle.pm_journal.specs.Plan.{Plan, Ends, Asks, and_then, Plays, Wants}

pub plays_then : {R S : Type 0} (p : Plan R) (f : R → Plan S) (es fs : List Entry) (r : R) (s : S) → Plays p es r → Plays (f r) fs s → Plays (and_then p f) (es ++ fs) s
plays_then (Ends x) f [] fs r s h k = subst (λ y. Plays (f y) fs s) h k
plays_then (Ends x) f (e ∷ es) fs r s h k = absurd h
plays_then (Asks act go_on) f [] fs r s h k = absurd h
plays_then (Asks act go_on) f (e ∷ es) fs r s h k = (h.0, h.1, plays_then (go_on e.reply) f es fs r s h.2 k)

pub wants_then : {R S : Type 0} (p : Plan R) (f : R → Plan S) (es fs : List Entry) (r : R) (act : Act) → Plays p es r → Wants (f r) fs act → Wants (and_then p f) (es ++ fs) act
wants_then (Ends x) f [] fs r s h k = subst (λ y. Wants (f y) fs s) h k
wants_then (Ends x) f (e ∷ es) fs r s h k = absurd h
wants_then (Asks act go_on) f [] fs r s h k = absurd h
wants_then (Asks act go_on) f (e ∷ es) fs r s h k = (h.0, h.1, wants_then (go_on e.reply) f es fs r s h.2 k)

-- a plan ends in one way
pub plays_once : {R : Type 0} (p : Plan R) (es : List Entry) (r s : R) → Plays p es r → Plays p es s → r ≡ s
plays_once (Ends x) [] r s h k = h ∙ sym k
plays_once (Ends x) (e ∷ es) r s h k = absurd h
plays_once (Asks act go_on) [] r s h k = absurd h
plays_once (Asks act go_on) (e ∷ es) r s h k = plays_once (go_on e.reply) es r s h.2 k.2
