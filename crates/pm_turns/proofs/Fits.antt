-- The holder of the lock and the mailbox.
use Rattle.std.proofs.Common.{◌≡◌, ◌≤◌, ℕ, ◌+◌, ◌-◌, Bool, true, false, cond, List, [], ◌++◌, length, take, drop, Option, Some, None, refl, sym, ap, ◌∙◌, subst, arith, append_assoc, append-nil, nat_eq, take-add, take_all, take_at}
use Rattle.std.proofs.lemmas.Bool.Decides.{Decides-eqb}
use Rattle.pm_journal.specs.Appending.{append_step, append_heard, to_undo, taken_step}
use Rattle.pm_journal.specs.declared.appending.AppendEnd.{AppendEnd}
use Rattle.pm_journal.specs.declared.appending.AppendEnd.TheVariants.{Done as EndDone, Undone as EndUndone}
use Rattle.pm_journal.specs.declared.appending.AppendStep.TheVariants.{Append as AskAppend}
use Rattle.pm_journal.specs.declared.appending.AppendState.{AppendState}
use Rattle.pm_journal.specs.declared.appending.AppendState.TheVariants.{Looking, Creating, Writing, Cutting, Removing, Ended}
use Rattle.pm_append.specs.Machine.{Machine as Append, appending_heard}
use Rattle.pm_turns.specs.declared.writers.Place.{Place}
use Rattle.pm_turns.specs.declared.writers.Place.TheVariants.{Locking, Appending, Giving, Gone, Away}
use Rattle.pm_turns.specs.declared.writers.Will.{Will}
use Rattle.pm_turns.specs.declared.writers.Will.TheVariants.{Serve, Fail}
use Rattle.pm_turns.specs.Turning.{text, part_of, append_answer, mailbox_after, append_place, at_step}
use Rattle.pm_turns.specs.Order.{by_end, IsCleanEnd}

-- a file with the base and so many bytes of the piece
pub record FitsFile (base piece : List ℕ) (made : Bool) (old taken : ℕ) (mailbox : Option (List ℕ)) : Type 0 where
  pub stood : old ≡ length base
  pub within : taken ≤ length piece
  pub is : mailbox ≡ Some (base ++ take taken piece)
  pub new : made ≡ true → base ≡ []

abbrev pub FitsAt : List ℕ → List ℕ → AppendState → Option (List ℕ) → Type 0
FitsAt base piece Looking mailbox = text mailbox ≡ base
FitsAt base piece Creating mailbox = (mailbox ≡ None) × (base ≡ [])
FitsAt base piece (Writing made old taken) mailbox = FitsFile base piece made old taken mailbox
FitsAt base piece (Cutting old taken) mailbox = FitsFile base piece false old taken mailbox
FitsAt base piece (Removing taken) mailbox = FitsFile base piece true 0 taken mailbox
FitsAt base piece (Ended end) mailbox = ⊥

pub record FitsEnd (base piece : List ℕ) (end : AppendEnd) (mailbox : Option (List ℕ)) : Type 0 where
  pub clean : IsCleanEnd end
  pub is : text mailbox ≡ base ++ by_end piece end

pub record FitsAppend (base piece : List ℕ) (a : Append) (mailbox : Option (List ℕ)) : Type 0 where
  pub len : a.len ≡ length piece
  pub at : FitsAt base piece a.at mailbox

abbrev pub FitsPlace : List ℕ → List ℕ → Place → Option (List ℕ) → Type 0
FitsPlace base piece (Locking t) mailbox = ⊥
FitsPlace base piece (Appending a) mailbox = FitsAppend base piece a mailbox
FitsPlace base piece (Giving end) mailbox = FitsEnd base piece end mailbox
FitsPlace base piece (Gone end answer) mailbox = ⊥
FitsPlace base piece (Away end) mailbox = ⊥

abbrev under : ℕ → Bool → AppendState → Append
under len sync at = record { len = len; sync = sync; at = at }

undone : (base piece : List ℕ) (mailbox : Option (List ℕ)) → text mailbox ≡ base → FitsEnd base piece EndUndone mailbox
undone base piece mailbox e = record { clean = tt; is = e ∙ sym (append-nil base) }

-- the bytes of a file that has them
its_text : (base piece : List ℕ) (made : Bool) (old taken : ℕ) (mailbox : Option (List ℕ)) → FitsFile base piece made old taken mailbox → text mailbox ≡ base ++ take taken piece
its_text base piece made old taken mailbox f = ap text f.is

all_in : (piece : List ℕ) (taken : ℕ) → nat_eq taken (length piece) ≡ true → take taken piece ≡ piece
all_in piece taken e = let n : taken ≡ length piece = (Decides-eqb taken (length piece)).0 e in ap (λ k. take k piece) n ∙ take_all (length piece) piece (omega arith)

done : (base piece : List ℕ) (made : Bool) (old taken : ℕ) (mailbox : Option (List ℕ)) → nat_eq taken (length piece) ≡ true → FitsFile base piece made old taken mailbox → FitsEnd base piece EndDone mailbox
done base piece made old taken mailbox e f = record { clean = tt; is = its_text base piece made old taken mailbox f ∙ ap (λ x. base ++ x) (all_in piece taken e) }

-- a writing goes on, or is at its end
writes : (base piece : List ℕ) (sync made : Bool) (old taken : ℕ) (mailbox : Option (List ℕ)) → FitsFile base piece made old taken mailbox
    → FitsPlace base piece (append_place (under (length piece) sync (Writing made old taken))) mailbox
writes base piece sync made old taken mailbox f =
    elim (nat_eq taken (length piece)) as (λ b. nat_eq taken (length piece) ≡ b → FitsPlace base piece (at_step (under (length piece) sync (Writing made old taken)) (cond b (taken_step sync) (AskAppend taken))) mailbox) [
      | true ↦ λ e. elim sync as (λ s. FitsPlace base piece (at_step (under (length piece) s (Writing made old taken)) (taken_step s)) mailbox) [
        | true ↦ record { len = refl; at = f }
        | false ↦ done base piece made old taken mailbox e f
      ]
      | false ↦ λ e. record { len = refl; at = f }
    ] refl

undoes_old : (base piece : List ℕ) (sync : Bool) (old taken : ℕ) (mailbox : Option (List ℕ)) → FitsFile base piece false old taken mailbox
    → FitsPlace base piece (append_place (under (length piece) sync (to_undo false old taken))) mailbox
undoes_old base piece sync old taken mailbox f =
    elim (nat_eq taken 0) as (λ b. nat_eq taken 0 ≡ b → FitsPlace base piece (append_place (under (length piece) sync (cond b (Ended EndUndone) (Cutting old taken)))) mailbox) [
      | true ↦ λ e. let n : taken ≡ 0 = (Decides-eqb taken 0).0 e in
          undone base piece mailbox (its_text base piece false old taken mailbox f ∙ ap (λ k. base ++ take k piece) n ∙ append-nil base)
      | false ↦ λ e. record { len = refl; at = f }
    ] refl

-- after a failed call of a writing
undoes : (base piece : List ℕ) (sync made : Bool) (old taken : ℕ) (mailbox : Option (List ℕ)) → FitsFile base piece made old taken mailbox
    → FitsPlace base piece (append_place (under (length piece) sync (to_undo made old taken))) mailbox
undoes base piece sync true old taken mailbox f = record { len = refl; at = record { stood = sym (ap length (f.new refl)); within = f.within; is = f.is; new = f.new } }
undoes base piece sync false old taken mailbox f = undoes_old base piece sync old taken mailbox f

-- what a call of the append that stands at `at` leaves
abbrev Leaves : List ℕ → List ℕ → Bool → AppendState → Option (List ℕ) → Will → Type 0
Leaves base piece sync at mailbox will =
    FitsPlace base piece (append_place (under (length piece) sync (append_heard at (append_answer (append_step (length piece) sync at) (length piece) mailbox will))))
    (mailbox_after (append_step (length piece) sync at) (append_answer (append_step (length piece) sync at) (length piece) mailbox will) piece mailbox)

looks : (base piece : List ℕ) (sync : Bool) (mailbox : Option (List ℕ)) (will : Will) → text mailbox ≡ base → Leaves base piece sync Looking mailbox will
looks base piece sync mailbox Fail e = undone base piece mailbox e
looks base piece sync None (Serve n) e = record { len = refl; at = (refl, sym e) }
looks base piece sync (Some bytes) (Serve n) e =
    writes base piece sync false (length bytes) 0 (Some bytes) (record { stood = ap length e; within = omega arith; is = ap (λ b. Some b) (e ∙ sym (append-nil base)); new = λ t. absurd (cc) })

creates : (base piece : List ℕ) (sync : Bool) (mailbox : Option (List ℕ)) (will : Will) → (mailbox ≡ None) × (base ≡ []) → Leaves base piece sync Creating mailbox will
creates base piece sync (Some bytes) will f = absurd (cc)
creates base piece sync None Fail f = undone base piece None (sym f.1)
creates base piece sync None (Serve n) f =
    writes base piece sync true 0 0 (Some []) (record { stood = sym (ap length f.1); within = omega arith; is = ap (λ b. Some b) (sym f.1 ∙ sym (append-nil base)); new = λ t. f.1 })

takes_more : (base piece : List ℕ) (taken k : ℕ) (mailbox : Option (List ℕ)) → mailbox ≡ Some (base ++ take taken piece)
    → Some (text mailbox ++ take k (drop taken piece)) ≡ Some (base ++ take (taken + k) piece)
takes_more base piece taken k mailbox e =
    ap (λ b. Some (b ++ take k (drop taken piece))) (ap text e)
    ∙ ap (λ b. Some b) (append_assoc base (take taken piece) (take k (drop taken piece)) ∙ ap (λ x. base ++ x) (sym (take-add taken k piece)))

pub part_within : (taken len n : ℕ) → taken ≤ len → (taken ≡ len → ⊥) → taken + part_of (len - taken) n ≤ len
part_within taken len n le ne = omega arith

-- with all that comes next in `b` and the sync
writing : (base piece : List ℕ) (sync made : Bool) (old taken : ℕ) (mailbox : Option (List ℕ)) (will : Will) → FitsFile base piece made old taken mailbox → Leaves base piece sync (Writing made old taken) mailbox will
writing base piece sync made old taken None will f = absurd (let e : None ≡ Some (base ++ take taken piece) = f.is in cc)
writing base piece sync made old taken (Some bytes) will f =
    elim (nat_eq taken (length piece)) as (λ b. nat_eq taken (length piece) ≡ b →
    FitsPlace base piece (append_place (under (length piece) sync (append_heard (Writing made old taken) (append_answer (cond b (taken_step sync) (AskAppend taken)) (length piece) (Some bytes) will))))
    (mailbox_after (cond b (taken_step sync) (AskAppend taken)) (append_answer (cond b (taken_step sync) (AskAppend taken)) (length piece) (Some bytes) will) piece (Some bytes))) [
      | true ↦ λ e. full sync will e
      | false ↦ λ e. part will e
    ] refl where
      full : (s : Bool) (will : Will) → nat_eq taken (length piece) ≡ true →
          FitsPlace base piece (append_place (under (length piece) sync (append_heard (Writing made old taken) (append_answer (taken_step s) (length piece) (Some bytes) will))))
          (mailbox_after (taken_step s) (append_answer (taken_step s) (length piece) (Some bytes) will) piece (Some bytes))
      full true (Serve n) e = done base piece made old taken (Some bytes) e f
      full true Fail e = undoes base piece sync made old taken (Some bytes) f
      full false (Serve n) e = undoes base piece sync made old taken (Some bytes) f
      full false Fail e = undoes base piece sync made old taken (Some bytes) f

      part : (will : Will) → nat_eq taken (length piece) ≡ false →
          FitsPlace base piece (append_place (under (length piece) sync (append_heard (Writing made old taken) (append_answer (AskAppend taken) (length piece) (Some bytes) will))))
          (mailbox_after (AskAppend taken) (append_answer (AskAppend taken) (length piece) (Some bytes) will) piece (Some bytes))
      part Fail e = undoes base piece sync made old taken (Some bytes) f
      part (Serve n) e =
          let ne : taken ≡ length piece → ⊥ = λ h. let bad : true ≡ false = sym ((Decides-eqb taken (length piece)).1 h) ∙ e in absurd (cc) in
          let k = part_of (length piece - taken) n in
          writes base piece sync made old (taken + k) (Some (bytes ++ take k (drop taken piece)))
          (record { stood = f.stood; within = part_within taken (length piece) n f.within ne; is = takes_more base piece taken k (Some bytes) f.is; new = f.new })

cuts : (base piece : List ℕ) (sync : Bool) (old taken : ℕ) (mailbox : Option (List ℕ)) (will : Will) → FitsFile base piece false old taken mailbox → Leaves base piece sync (Cutting old taken) mailbox will
cuts base piece sync old taken None will f = absurd (let e : None ≡ Some (base ++ take taken piece) = f.is in cc)
cuts base piece sync old taken (Some bytes) Fail f = record { clean = tt; is = ap text f.is }
cuts base piece sync old taken (Some bytes) (Serve n) f =
    undone base piece (Some (take old bytes)) (ap (take old) (ap text f.is) ∙ take_at base (take taken piece) old (sym f.stood))

removes : (base piece : List ℕ) (sync : Bool) (taken : ℕ) (mailbox : Option (List ℕ)) (will : Will) → FitsFile base piece true 0 taken mailbox → Leaves base piece sync (Removing taken) mailbox will
removes base piece sync taken None will f = absurd (let e : None ≡ Some (base ++ take taken piece) = f.is in cc)
removes base piece sync taken (Some bytes) Fail f = record { clean = tt; is = ap text f.is }
removes base piece sync taken (Some bytes) (Serve n) f = undone base piece None (sym (f.new refl))

leaves : (base piece : List ℕ) (sync : Bool) (at : AppendState) (mailbox : Option (List ℕ)) (will : Will) → FitsAt base piece at mailbox → Leaves base piece sync at mailbox will
leaves base piece sync Looking mailbox will f = looks base piece sync mailbox will f
leaves base piece sync Creating mailbox will f = creates base piece sync mailbox will f
leaves base piece sync (Writing made old taken) mailbox will f = writing base piece sync made old taken mailbox will f
leaves base piece sync (Cutting old taken) mailbox will f = cuts base piece sync old taken mailbox will f
leaves base piece sync (Removing taken) mailbox will f = removes base piece sync taken mailbox will f
leaves base piece sync (Ended end) mailbox will f = absurd f

-- a call of the holder keeps it so
pub append_fits : (base piece : List ℕ) (a : Append) (mailbox : Option (List ℕ)) (will : Will) → FitsAppend base piece a mailbox
    → FitsPlace base piece (append_place (appending_heard a (append_answer (append_step a.len a.sync a.at) (length piece) mailbox will)))
    (mailbox_after (append_step a.len a.sync a.at) (append_answer (append_step a.len a.sync a.at) (length piece) mailbox will) piece mailbox)
append_fits base piece a mailbox will f =
    subst (λ n. FitsPlace base piece (append_place (under n a.sync (append_heard a.at (append_answer (append_step n a.sync a.at) (length piece) mailbox will))))
    (mailbox_after (append_step n a.sync a.at) (append_answer (append_step n a.sync a.at) (length piece) mailbox will) piece mailbox)) (sym f.len) (leaves base piece a.sync a.at mailbox will f.at)
