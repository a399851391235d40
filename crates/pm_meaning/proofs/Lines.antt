-- Logging a text is done by lines alone.
use Rattle.std.proofs.Common.{◌≡◌, ℕ, Bool, true, false, List, [], ◌∷◌, ◌++◌, Option, Some, None, refl, sym, ap, ◌∙◌, subst, append-nil}
use Rattle.std.specs.Prelude.{if◌then◌else◌}
use Rattle.pm_journal.specs.Plan.{Plan, Ends, and_then, ask, Plays}
use Rattle.pm_journal.specs.declared.acts.Act.TheVariants.{SayFile}
use Rattle.pm_journal.specs.declared.acts.Entry.{Entry}
use Rattle.pm_journal.proofs.WalkJoin.{parts_of}
use Rattle.pm_meaning.specs.Locks.{is_nothing}
use Rattle.pm_meaning.specs.Logging.{log_file, log_to, log, logged}
use Rattle.pm_meaning.specs.Minds.{Mind}
use Rattle.pm_meaning.specs.RunLaws.{IsLine, AreLines}

-- an end asks for nothing
pub record IsAtEnd {R : Type 0} (next : R) (es : List Entry) (end : R) : Type 0 where
  pub none : es ≡ []
  pub same : end ≡ next

pub at_end : {R : Type 0} (next : R) (es : List Entry) (end : R) → Plays (Ends next) es end → IsAtEnd next es end
at_end next [] end h = record { none = refl; same = h }
at_end next (e ∷ es) end h = absurd h

-- a plan and then an end
pub then_end : {R S : Type 0} (p : Plan R) (g : R → S) (es : List Entry) (end : S) → Plays (and_then p (λ r. Ends (g r))) es end → (r : R) × Plays p es r × (end ≡ g r)
then_end p g es end h =
    let k = parts_of p (λ r. Ends (g r)) es end h in
    let a = at_end (g k.middle) k.rest end k.plays_rest in
    (k.middle, subst (λ l. Plays p l k.middle) (sym (k.whole ∙ ap (λ l. k.front ++ l) a.none ∙ append-nil k.front)) k.plays_front, a.same)

in_file : (b : Bool) (name text : List ℕ) (es : List Entry) (done : Unit {0}) → Plays (if b then Ends logged else and_then (ask (SayFile name text)) (λ reply. Ends logged)) es done → AreLines es
in_file true name text [] done h = tt
in_file true name text (e ∷ es) done h = absurd h
in_file false name text [] done h = absurd h
in_file false name text (e ∷ []) done h = (subst IsLine (sym h.0) tt, tt)
in_file false name text (e ∷ f ∷ es) done h = absurd h.2

logged_to : (file : Option (List ℕ)) (text : List ℕ) (es : List Entry) (done : Unit {0}) → Plays (log_to file text) es done → AreLines es
logged_to None text [] done h = absurd h
logged_to None text (e ∷ []) done h = (subst IsLine (sym h.0) tt, tt)
logged_to None text (e ∷ f ∷ es) done h = absurd h.2
logged_to (Some name) text es done h = in_file (is_nothing name) name text es done h

pub are_logged : (text : List ℕ) (p : Mind) (es : List Entry) (done : Unit {0}) → Plays (log text p) es done → AreLines es
are_logged text p es done h = logged_to (log_file p) text es done h

-- lines, and then what comes after them
pub record Told {R : Type 0} (f : Unit {0} → Plan R) (es : List Entry) (end : R) : Type 0 where
  pub told : List Entry
  pub rest : List Entry
  pub whole : es ≡ told ++ rest
  pub are_lines : AreLines told
  pub done : Unit {0}
  pub plays : Plays (f done) rest end

pub told_of : {R : Type 0} (text : List ℕ) (p : Mind) (f : Unit {0} → Plan R) (es : List Entry) (end : R) → Plays (and_then (log text p) f) es end → Told f es end
told_of text p f es end h =
    let k = parts_of (log text p) f es end h in
    record { told = k.front; rest = k.rest; whole = k.whole; are_lines = are_logged text p k.front k.middle k.plays_front; done = k.middle; plays = k.plays_rest }

pub lines_join : (es fs : List Entry) → AreLines es → AreLines fs → AreLines (es ++ fs)
lines_join [] fs h k = k
lines_join (e ∷ es) fs h k = (h.0, lines_join es fs h.1 k)
