-- What is carried out over lent objects doesn't depend on the references that held them, and what asks nothing of the standard
-- output is the same beside any view of it with this count.
use Rattle.pm_host.specs.declared.calls.Logged.{Logged}
use Rattle.std.proofs.Common.{◌≡◌, ◌⊎◌, inl, inr, ℕ, List, [], ◌∷◌, ◌++◌, Result, Ok, Err, refl, sym, ap, ◌∙◌, subst, append-nil}
use Rattle.pm_bytes.specs.declared.error.Memory.{Memory}
use Rattle.pm_host.specs.Told.{Tells, Adds}
use Rattle.pm_host.specs.Streams.{StreamView}
use Rattle.pm_host.proofs.RunsJoin.{tells_at}
use Rattle.pm_journal.specs.JournalState.{JournalState}
use Rattle.pm_journal.specs.Entries.{View, view_of, counts_of, written_by, all_written, Accounts, Frame}
use Rattle.pm_journal.specs.Executed.{Carries, WantsAct, HasEnded, TakesCalls}
use Rattle.pm_journal.specs.Plan.{Plan, Ends, Asks, and_then, Plays, Wants}
use Rattle.pm_journal.specs.declared.acts.Act.{Act}
use Rattle.pm_journal.specs.declared.acts.Act.TheVariants.{ReadFile, Probe, Append, Place, Lock, Unlock, Run, SayFile, SayErr, WriteOut, Moment}
use Rattle.pm_journal.specs.declared.acts.Counts.{Counts}
use Rattle.pm_journal.specs.declared.acts.Entry.{Entry}
use Rattle.pm_journal.specs.declared.acts.Reply.{Reply}

-- the act writes nothing to the standard output
abbrev pub IsQuiet : Act → Type 0
IsQuiet (WriteOut piece) = ⊥
IsQuiet other = Unit {0}

-- no act of the plan does
abbrev pub WritesNothing : {R : Type 0} → Plan R → Type 0
WritesNothing (Ends r) = Unit {0}
WritesNothing (Asks act go_on) = IsQuiet act × ((reply : Reply) → WritesNothing (go_on reply))

pub nothing_then : {R S : Type 0} (p : Plan R) (f : R → Plan S) → WritesNothing p → ((r : R) → WritesNothing (f r)) → WritesNothing (and_then p f)
nothing_then (Ends r) f h k = k r
nothing_then (Asks act go_on) f h k = (h.0, λ reply. nothing_then (go_on reply) f (h.1 reply) k)

quiet_is : (act : Act) (reply : Reply) → IsQuiet act → written_by act reply ≡ []
quiet_is (ReadFile name) reply h = refl
quiet_is (Probe name) reply h = refl
quiet_is (Append name piece) reply h = refl
quiet_is (Place kind folder prefix piece stamp) reply h = refl
quiet_is (Lock name sleep limit suspend tries) reply h = refl
quiet_is (Unlock name) reply h = refl
quiet_is (Run command input want) reply h = refl
quiet_is (SayFile name text) reply h = refl
quiet_is (SayErr text) reply h = refl
quiet_is (WriteOut piece) reply h = absurd h
quiet_is Moment reply h = refl

quiet_first : (act : Act) (e : Entry) (es : List Entry) → e.act ≡ act → IsQuiet act → all_written es ≡ [] → all_written (e ∷ es) ≡ []
quiet_first act e es is h k = ap (λ l. l ++ all_written es) (quiet_is e.act e.reply (subst IsQuiet (sym is) h)) ∙ k

pub played_quiet : {R : Type 0} (p : Plan R) (es : List Entry) (end : R) → WritesNothing p → Plays p es end → all_written es ≡ []
played_quiet (Ends r) [] end h k = refl
played_quiet (Ends r) (e ∷ es) end h k = absurd k
played_quiet (Asks act go_on) [] end h k = absurd k
played_quiet (Asks act go_on) (e ∷ es) end h k = quiet_first act e es k.0 h.0 (played_quiet (go_on e.reply) es end (h.1 e.reply) k.2)

pub wanted_quiet : {R : Type 0} (p : Plan R) (es : List Entry) (act : Act) → WritesNothing p → Wants p es act → all_written es ≡ []
wanted_quiet (Ends r) es act h k = absurd k
wanted_quiet (Asks wanted go_on) [] act h k = refl
wanted_quiet (Asks wanted go_on) (e ∷ es) act h k = quiet_first wanted e es k.0 h.0 (wanted_quiet (go_on e.reply) es act (h.1 e.reply) k.2)

left_quiet : {R : Type 0} (plan : Plan R) (es : List Entry) (calls : List Logged) → WritesNothing plan → WantsAct plan es calls ⊎ HasEnded plan es calls → all_written es ≡ []
left_quiet plan es calls quiet (inl w) = wanted_quiet plan es w.wanted quiet w.wants
left_quiet plan es calls quiet (inr e) = played_quiet plan es e.end quiet e.plays

-- the view with another view of the standard output
abbrev pub beside : StreamView → View → View
beside out v = view_of v.host out v.err

-- the counts of faults, part by part
abbrev the_counts : ℕ → ℕ → ℕ → Counts
the_counts host out err = record { host = host; out = out; err = err }

counts_same : (out : StreamView) (v : View) → v.out.faults ≡ out.faults → counts_of v ≡ counts_of (beside out v)
counts_same out v e = ap (λ n. the_counts v.host.faults n v.err.faults) e

accounts_beside : (out : StreamView) (es : List Entry) (a b : View) → a.out.faults ≡ out.faults → b.out.faults ≡ out.faults → all_written es ≡ [] → Accounts es a b → Accounts es (beside out a) (beside out b)
accounts_beside out es a b ea eb none h = record {
  groups = h.groups;
  honest = h.honest;
  ran = h.ran;
  said = h.said;
  written = subst (λ l. Tells (Adds l) out.bytes out.bytes) (sym none) (tells_at (Adds []) (λ l. sym (append-nil l)) out.bytes);
  framed = subst (λ k. Frame es k (counts_of (beside out b))) (counts_same out a ea) (subst (λ k. Frame es (counts_of a) k) (counts_same out b eb) h.framed);
  covered = h.covered;
  same = refl;
}

pub carries_beside : {R A : Type 0} (out : StreamView) (plan : Plan R) (end : A → R) (result : Result A Memory) (x y : JournalState) (a b : View) → WritesNothing plan
    → a.out.faults ≡ out.faults → b.out.faults ≡ out.faults → Carries plan end result x y a b → Carries plan end result x y (beside out a) (beside out b)
carries_beside out plan end (Ok r) x y a b quiet ea eb h = (
  record {
    more = h.0.more;
    entries = h.0.entries;
    plays = h.0.plays;
    accounts = accounts_beside out h.0.more a b ea eb (played_quiet plan h.0.more (end r) quiet h.0.plays) h.0.accounts;
  },
  tt,
)
carries_beside out plan end (Err m) x y a b quiet ea eb h = (
  tt,
  record {
    more = h.1.more;
    entries = h.1.entries;
    middle = beside out h.1.middle;
    accounts = accounts_beside out h.1.more a h.1.middle ea (ap (λ s. s.faults) (sym h.1.took.out_same) ∙ eb) (left_quiet plan h.1.more h.1.left_off quiet h.1.where_off) h.1.accounts;
    left_off = h.1.left_off;
    where_off = h.1.where_off;
    took = record { ran = h.1.took.ran; out_same = refl; err_same = h.1.took.err_same; same = refl };
  },
)

-- the view without its references
abbrev pub plain : View → View
plain v = view_of v.host v.out v.err

pub accounts_plain : (es : List Entry) (a b : View) → Accounts es a b → Accounts es (plain a) (plain b)
accounts_plain es a b h = record {
  groups = h.groups;
  honest = h.honest;
  ran = h.ran;
  said = h.said;
  written = h.written;
  framed = h.framed;
  covered = h.covered;
  same = refl;
}

pub takes_plain : (calls : List Logged) (a b : View) → TakesCalls calls a b → TakesCalls calls (plain a) (plain b)
takes_plain calls a b h = record { ran = h.ran; out_same = h.out_same; err_same = h.err_same; same = refl }

pub carries_plain : {R A : Type 0} (plan : Plan R) (end : A → R) (result : Result A Memory) (x y : JournalState) (a b : View) → Carries plan end result x y a b → Carries plan end result x y (plain a) (plain b)
carries_plain plan end (Ok r) x y a b h = (record { more = h.0.more; entries = h.0.entries; plays = h.0.plays; accounts = accounts_plain h.0.more a b h.0.accounts }, tt)
carries_plain plan end (Err m) x y a b h = (
  tt,
  record {
    more = h.1.more;
    entries = h.1.entries;
    middle = plain h.1.middle;
    accounts = accounts_plain h.1.more a h.1.middle h.1.accounts;
    left_off = h.1.left_off;
    where_off = h.1.where_off;
    took = takes_plain h.1.left_off h.1.middle b h.1.took;
  },
)

-- whoever lent the objects gets the same ones back
pub carries_back : {R A : Type 0} (plan : Plan R) (end : A → R) (result : Result A Memory) (x y : JournalState) (a b : View)
    → Carries plan end result x y a b → b.references ≡ a.references
carries_back plan end (Ok r) x y a b h = h.0.accounts.same
carries_back plan end (Err m) x y a b h = h.1.took.same ∙ h.1.accounts.same

abbrev first_of : List ℕ → ℕ
first_of [] = 0
first_of (x ∷ xs) = x

abbrev second_of : List ℕ → ℕ
second_of [] = 0
second_of (x ∷ xs) = first_of xs

abbrev third_of : List ℕ → ℕ
third_of [] = 0
third_of (x ∷ xs) = second_of xs

pub first_same : (x y z a b c : ℕ) → (x ∷ y ∷ z ∷ []) ≡ (a ∷ b ∷ c ∷ []) → x ≡ a
first_same x y z a b c e = ap first_of e

pub second_same : (x y z a b c : ℕ) → (x ∷ y ∷ z ∷ []) ≡ (a ∷ b ∷ c ∷ []) → y ≡ b
second_same x y z a b c e = ap second_of e

pub third_same : (x y z a b c : ℕ) → (x ∷ y ∷ z ∷ []) ≡ (a ∷ b ∷ c ∷ []) → z ≡ c
third_same x y z a b c e = ap third_of e
