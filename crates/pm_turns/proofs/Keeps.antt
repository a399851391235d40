-- Each event keeps what holds of the writers, the lock and the mailbox.
use Rattle.std.proofs.Common.{◌≡◌, ◌⊎◌, ℕ, ◌+◌, Bool, true, false, ◌||◌, cond, List, [], ◌∷◌, ◌++◌, length, map, Option, Some, None, refl, sym, ap, ◌∙◌, subst, inl, inr, append_assoc, append-nil, slice_get, slice_set, nat_eq, nat_le, nat_lt}
use Rattle.std.proofs.lemmas.Bool.{cases_eq}
use Rattle.pm_host.specs.declared.answers.Made.TheVariants.{Made as MadeNew}
use Rattle.pm_host.specs.declared.answers.Removed.{Removed}
use Rattle.pm_host.specs.declared.answers.Removed.TheVariants.{Removed as RemovedDone, Absent, Failed as RemoveFailed}
use Rattle.pm_host.specs.declared.calls.Answer.{Answer}
use Rattle.pm_host.specs.declared.calls.Answer.TheVariants.{Create as AnswerCreate}
use Rattle.pm_journal.specs.Appending.{append_step}
use Rattle.pm_journal.specs.Locking.{lock_step, lock_heard, lose, one_lost}
use Rattle.pm_journal.specs.declared.appending.AppendEnd.{AppendEnd}
use Rattle.pm_journal.specs.declared.appending.AppendStep.{AppendStep}
use Rattle.pm_journal.specs.declared.locking.LockEnd.TheVariants.{Held, Busy, Failed as LockFailed}
use Rattle.pm_journal.specs.declared.locking.LockRule.{LockRule}
use Rattle.pm_journal.specs.declared.locking.LockState.{LockState}
use Rattle.pm_journal.specs.declared.locking.LockState.TheVariants.{Trying, Aging, Looking, Removing, Pausing, Ended}
use Rattle.pm_journal.specs.declared.locking.Tally.{Tally}
use Rattle.pm_append.specs.Machine.{Machine as Append, appending, appending_heard}
use Rattle.pm_locks.specs.Machine.{Machine as Taking, taking_heard}
use Rattle.pm_turns.specs.declared.writers.Outcome.{Outcome}
use Rattle.pm_turns.specs.declared.writers.Will.{Will}
use Rattle.pm_turns.specs.declared.writers.Will.TheVariants.{Serve, Fail}
use Rattle.pm_turns.specs.declared.writers.Place.{Place}
use Rattle.pm_turns.specs.declared.writers.Place.TheVariants.{Locking, Appending, Giving, Gone, Away}
use Rattle.pm_turns.specs.declared.writers.Delivery.{Delivery}
use Rattle.pm_turns.specs.declared.writers.Writer.{Writer}
use Rattle.pm_turns.specs.Turning.{Turning, Event, lock_answer, give_answer, lock_outcome, give_outcome, unchanged, append_answer, mailbox_after, text, at_lock_step, lock_place, append_place, delivery, put, place_turn, turn, happens, run, opens, begun}
use Rattle.pm_turns.specs.Order.{by_place, by_writer, added, IsBetween, IsGone, HasGone, AllGone, IsCleanEnd, IsClean, keeps_lock, some_keeps, got_lock, is_among, IsOnce}
use Rattle.pm_turns.proofs.Deliveries.{get_set_same, get_set_other, get_begun, gone_kept, added_kept, gone_more, added_more}
use Rattle.pm_turns.proofs.Listed.{or_true, or_false, or_left, or_right, some_set, some_in, none_keeps, none_of, among_new, among_old, once_more}
use Rattle.pm_turns.proofs.Fits.{FitsPlace, append_fits}

abbrev lock_went : Turning → ℕ → List ℕ → Taking → Answer → Outcome → Turning
lock_went s w piece t answer outcome = put s w piece (lock_place (length piece) (taking_heard t answer)) s.mailbox outcome

abbrev append_went : Turning → ℕ → List ℕ → Append → AppendStep → Answer → Turning
append_went s w piece a step answer = put s w piece (append_place (appending_heard a answer)) (mailbox_after step answer piece s.mailbox) (unchanged s.locked)

abbrev gave : Turning → ℕ → List ℕ → AppendEnd → Removed → Turning
gave s w piece end answer = put s w piece (Gone end answer) s.mailbox (give_outcome answer s.locked)

-- something is still to be asked
abbrev pub IsOpenState : LockState → Type 0
IsOpenState (Ended end) = ⊥
IsOpenState other = Unit {0}

abbrev pub IsSound : Place → Type 0
IsSound (Locking t) = IsOpenState t.at
IsSound (Appending a) = Unit {0}
IsSound (Giving end) = IsCleanEnd end
IsSound (Gone end answer) = IsCleanEnd end
IsSound (Away end) = Unit {0}

-- it hasn't got the lock
abbrev pub IsAside : Place → Type 0
IsAside (Locking t) = Unit {0}
IsAside (Appending a) = ⊥
IsAside (Giving end) = ⊥
IsAside (Gone end answer) = ⊥
IsAside (Away end) = Unit {0}

aside_not_gone : (p : Place) → IsAside p → IsGone p → ⊥
aside_not_gone (Locking t) a g = g
aside_not_gone (Appending x) a g = g
aside_not_gone (Giving end) a g = g
aside_not_gone (Gone end answer) a g = a
aside_not_gone (Away end) a g = g

aside_not_between : (p : Place) → IsAside p → IsBetween p → ⊥
aside_not_between (Locking t) a g = g
aside_not_between (Appending x) a g = a
aside_not_between (Giving end) a g = a
aside_not_between (Gone end answer) a g = g
aside_not_between (Away end) a g = g

between_not_gone : (p : Place) → IsBetween p → IsGone p → ⊥
between_not_gone (Locking t) a g = g
between_not_gone (Appending x) a g = g
between_not_gone (Giving end) a g = g
between_not_gone (Gone end answer) a g = a
between_not_gone (Away end) a g = g

aside_keep : (p : Place) → IsAside p → keeps_lock p ≡ false
aside_keep (Locking t) a = refl
aside_keep (Appending x) a = absurd a
aside_keep (Giving end) a = absurd a
aside_keep (Gone end answer) a = absurd a
aside_keep (Away end) a = refl

aside_got : (p : Place) → IsAside p → got_lock p ≡ false
aside_got (Locking t) a = refl
aside_got (Appending x) a = absurd a
aside_got (Giving end) a = absurd a
aside_got (Gone end answer) a = absurd a
aside_got (Away end) a = refl

between_keep : (p : Place) → IsBetween p → keeps_lock p ≡ true
between_keep (Locking t) b = absurd b
between_keep (Appending x) b = refl
between_keep (Giving end) b = refl
between_keep (Gone end answer) b = absurd b
between_keep (Away end) b = absurd b

between_got : (p : Place) → IsBetween p → got_lock p ≡ true
between_got (Locking t) b = absurd b
between_got (Appending x) b = refl
between_got (Giving end) b = refl
between_got (Gone end answer) b = absurd b
between_got (Away end) b = absurd b

fits_between : (base piece : List ℕ) (p : Place) (m : Option (List ℕ)) → FitsPlace base piece p m → IsBetween p
fits_between base piece (Locking t) m f = f
fits_between base piece (Appending a) m f = tt
fits_between base piece (Giving end) m f = tt
fits_between base piece (Gone end answer) m f = f
fits_between base piece (Away end) m f = f

fits_sound : (base piece : List ℕ) (p : Place) (m : Option (List ℕ)) → FitsPlace base piece p m → IsSound p
fits_sound base piece (Locking t) m f = absurd f
fits_sound base piece (Appending a) m f = tt
fits_sound base piece (Giving end) m f = f.clean
fits_sound base piece (Gone end answer) m f = absurd f
fits_sound base piece (Away end) m f = absurd f

pub sound_clean : (p : Place) → IsSound p → IsClean p
sound_clean (Locking t) s = tt
sound_clean (Appending a) s = tt
sound_clean (Giving end) s = s
sound_clean (Gone end answer) s = s
sound_clean (Away end) s = tt

-- nobody has the lock and is at work
pub record Free (opening : List ℕ) (held : Bool) (s : Turning) : Type 0 where
  pub gone : AllGone s.writers s.order
  pub none : (i : ℕ) (x : Delivery) → slice_get s.writers i ≡ Some x → IsBetween x.place → ⊥
  pub is : text s.mailbox ≡ opening ++ added s.writers s.order

-- one has the lock, the last that got it
pub record Busied (opening : List ℕ) (held : Bool) (s : Turning) : Type 0 where
  pub before : List ℕ
  pub writer : ℕ
  pub piece : List ℕ
  pub place : Place
  pub order : s.order ≡ before ++ writer ∷ []
  pub sits : slice_get s.writers writer ≡ Some (delivery piece place)
  pub locked : s.locked ≡ true
  pub gone : AllGone s.writers before
  pub alone : (i : ℕ) (x : Delivery) → slice_get s.writers i ≡ Some x → (i ≡ writer → ⊥) → keeps_lock x.place ≡ false
  pub opened : held ≡ false
  pub fits : FitsPlace (opening ++ added s.writers before) piece place s.mailbox

pub record Kept (opening : List ℕ) (held : Bool) (s : Turning) : Type 0 where
  pub sound : (i : ℕ) (x : Delivery) → slice_get s.writers i ≡ Some x → IsSound x.place
  pub state : Free opening held s ⊎ Busied opening held s
  pub there : s.locked ≡ (held || some_keeps s.writers)
  pub listed : (i : ℕ) (x : Delivery) → slice_get s.writers i ≡ Some x → is_among s.order i ≡ got_lock x.place
  pub once : IsOnce s.order

-- no other is at work
pub others_of : (p : Place) → keeps_lock p ≡ false → IsBetween p → ⊥
others_of p e b = let bad : true ≡ false = sym (between_keep p b) ∙ e in absurd (cc)

-- a fact on each writer, after one changed
each_set : (xs : List Delivery) (w : ℕ) (old new : Delivery) (P : ℕ → Delivery → Type 0) → slice_get xs w ≡ Some old → P w new
    → ((i : ℕ) (x : Delivery) → slice_get xs i ≡ Some x → (i ≡ w → ⊥) → P i x) → (i : ℕ) (x : Delivery) → slice_get (slice_set xs w new) i ≡ Some x → P i x
each_set xs w old new P sits p h i x e = elim (cases_eq i w) [
  | inl same ↦ let f : Some new ≡ Some x = sym (get_set_same xs w old new sits) ∙ ap (slice_get (slice_set xs w new)) (sym same) ∙ e in
      let g : new ≡ x = cc in subst (λ j. P j x) (sym same) (subst (P w) g p)
  | inr other ↦ h i x (sym (get_set_other xs w i new other) ∙ e) other
]

seats_differ : (xs : List Delivery) (i j : ℕ) (x y : Delivery) (P : Delivery → Type 0) → slice_get xs i ≡ Some x → slice_get xs j ≡ Some y → P x → (P y → ⊥) → i ≡ j → ⊥
seats_differ xs i j x y P a b p q same = let f : Some x ≡ Some y = sym a ∙ ap (slice_get xs) same ∙ b in let g : x ≡ y = cc in q (subst P g p)

-- one that hasn't the lock goes on, and nothing else changes
abbrev pub moved : Turning → ℕ → Delivery → Turning
moved s w new = record { mailbox = s.mailbox; locked = s.locked; writers = slice_set s.writers w new; order = s.order; forced = false }

aside_free : (opening : List ℕ) (held : Bool) (s : Turning) (w : ℕ) (old new : Delivery) → slice_get s.writers w ≡ Some old → IsAside old.place → IsAside new.place
    → Free opening held s → Free opening held (moved s w new)
aside_free opening held s w old new sits a b f = record {
  gone = gone_kept s.writers s.order w old new sits (aside_not_gone old.place a) f.gone;
  none = each_set s.writers w old new (λ i x. IsBetween x.place → ⊥) sits (aside_not_between new.place b) (λ i x e ne. f.none i x e);
  is = f.is ∙ ap (λ t. opening ++ t) (sym (added_kept s.writers s.order w old new sits (aside_not_gone old.place a) f.gone));
}

aside_busied : (opening : List ℕ) (held : Bool) (s : Turning) (w : ℕ) (old new : Delivery) → slice_get s.writers w ≡ Some old → IsAside old.place → IsAside new.place
    → Busied opening held s → Busied opening held (moved s w new)
aside_busied opening held s w old new sits a b h =
    let ne : h.writer ≡ w → ⊥ = seats_differ s.writers h.writer w (delivery h.piece h.place) old (λ x. IsBetween x.place) h.sits sits
    (fits_between (opening ++ added s.writers h.before) h.piece h.place s.mailbox h.fits) (aside_not_between old.place a) in record {
      before = h.before;
      writer = h.writer;
      piece = h.piece;
      place = h.place;
      order = h.order;
      locked = h.locked;
      sits = get_set_other s.writers w h.writer new ne ∙ h.sits;
      gone = gone_kept s.writers h.before w old new sits (aside_not_gone old.place a) h.gone;
      opened = h.opened;
      alone = each_set s.writers w old new (λ i x. (i ≡ h.writer → ⊥) → keeps_lock x.place ≡ false) sits (λ nw. aside_keep new.place b) (λ i x e nw. h.alone i x e);
      fits = subst (λ t. FitsPlace (opening ++ t) h.piece h.place s.mailbox) (sym (added_kept s.writers h.before w old new sits (aside_not_gone old.place a) h.gone)) h.fits;
    }

aside_keeps : (opening : List ℕ) (held : Bool) (s : Turning) (w : ℕ) (old new : Delivery) → slice_get s.writers w ≡ Some old → IsAside old.place → IsAside new.place → IsSound new.place
    → Kept opening held s → Kept opening held (moved s w new)
aside_keeps opening held s w old new sits a b sound k = record {
  sound = each_set s.writers w old new (λ i x. IsSound x.place) sits sound (λ i x e ne. k.sound i x e);
  state = elim k.state [
    | inl f ↦ inl (aside_free opening held s w old new sits a b f)
    | inr h ↦ inr (aside_busied opening held s w old new sits a b h)
  ];
  there = k.there ∙ ap (λ t. held || t) (sym (some_set s.writers w old new sits (aside_keep new.place b ∙ sym (aside_keep old.place a))));
  listed = each_set s.writers w old new (λ i x. is_among s.order i ≡ got_lock x.place) sits (k.listed w old sits ∙ aside_got old.place a ∙ sym (aside_got new.place b)) (λ i x e ne. k.listed i x e);
  once = k.once;
}

-- The lock

abbrev IsNotHeld : LockState → Type 0
IsNotHeld (Ended (Held sleeps forced)) = ⊥
IsNotHeld other = Unit {0}

record AsideSoundly (p : Place) : Type 0 where
  aside : IsAside p
  sound : IsSound p

at_lock_aside : (len : ℕ) (t : Taking) (at : LockState) → t.at ≡ at → IsNotHeld at → AsideSoundly (at_lock_step len t (lock_step at))
at_lock_aside len t (Ended (Held sleeps forced)) e n = absurd n
at_lock_aside len t (Ended Busy) e n = record { aside = tt; sound = tt }
at_lock_aside len t (Ended LockFailed) e n = record { aside = tt; sound = tt }
at_lock_aside len t (Trying x) e n = record { aside = tt; sound = subst IsOpenState (sym e) tt }
at_lock_aside len t (Aging x) e n = record { aside = tt; sound = subst IsOpenState (sym e) tt }
at_lock_aside len t (Looking x) e n = record { aside = tt; sound = subst IsOpenState (sym e) tt }
at_lock_aside len t (Removing x) e n = record { aside = tt; sound = subst IsOpenState (sym e) tt }
at_lock_aside len t (Pausing seconds x) e n = record { aside = tt; sound = subst IsOpenState (sym e) tt }

either : (b : Bool) (x y : LockState) → IsNotHeld x → IsNotHeld y → IsNotHeld (cond b x y)
either true x y h k = h
either false x y h k = k

loses : (rule : LockRule) (pausing : Bool) (t : Tally) → IsNotHeld (lose rule pausing t)
loses rule pausing t = either (nat_le rule.tries (t.lost + 1)) (Ended Busy) (cond pausing (Pausing rule.sleep (one_lost t)) (Trying (one_lost t))) tt
    (either pausing (Pausing rule.sleep (one_lost t)) (Trying (one_lost t)) tt tt)

-- no lock comes or goes by this answer
record Quiet (rule : LockRule) (at : LockState) (locked : Bool) (answer : Answer) : Type 0 where
  outcome : lock_outcome answer locked ≡ unchanged locked
  aside : IsNotHeld (lock_heard rule at answer)

-- the lock is made
record Gets (at : LockState) (locked : Bool) (answer : Answer) : Type 0 where
  tally : Tally
  trying : at ≡ Trying tally
  free : locked ≡ false
  made : answer ≡ AnswerCreate MadeNew

abbrev Went : LockRule → LockState → Bool → Answer → Type 0
Went rule at locked answer = Quiet rule at locked answer ⊎ Gets at locked answer ⊎ ((lock_outcome answer locked).forced ≡ true)

-- what an answer to a step of the taking can be
went : (rule : LockRule) (at : LockState) (locked : Bool) (will : Will) → IsOpenState at → Went rule at locked (lock_answer (lock_step at) locked will)
went rule (Trying t) true (Serve n) o = inl (record {
  outcome = refl;
  aside =
      either (nat_eq rule.limit 0) (lose rule true t) (cond (nat_le 16 t.forced) (lose rule true t) (Aging t)) (loses rule true t)
      (either (nat_le 16 t.forced) (lose rule true t) (Aging t) (loses rule true t) tt);
})
went rule (Trying t) false (Serve n) o = inr (inl (record { tally = t; trying = refl; free = refl; made = refl }))
went rule (Trying t) locked Fail o = inl (record { outcome = refl; aside = tt })
went rule (Aging t) true (Serve n) o = inl (record { outcome = refl; aside = either (nat_lt rule.limit n) (Looking t) (lose rule true t) tt (loses rule true t) })
went rule (Aging t) false (Serve n) o = inl (record { outcome = refl; aside = loses rule false t })
went rule (Aging t) locked Fail o = inl (record { outcome = refl; aside = tt })
went rule (Looking t) true (Serve n) o = inl (record { outcome = refl; aside = tt })
went rule (Looking t) false (Serve n) o = inl (record { outcome = refl; aside = loses rule false t })
went rule (Looking t) locked Fail o = inl (record { outcome = refl; aside = tt })
went rule (Removing t) true (Serve n) o = inr (inr refl)
went rule (Removing t) false (Serve n) o = inl (record { outcome = refl; aside = tt })
went rule (Removing t) locked Fail o = inl (record { outcome = refl; aside = tt })
went rule (Pausing seconds t) locked will o = inl (record { outcome = refl; aside = tt })
went rule (Ended end) locked will o = absurd o

lock_quiet : (opening : List ℕ) (held : Bool) (s : Turning) (w : ℕ) (piece : List ℕ) (t : Taking) (answer : Answer) → slice_get s.writers w ≡ Some (delivery piece (Locking t)) → Quiet t.rule t.at s.locked answer
    → Kept opening held s → Kept opening held (lock_went s w piece t answer (lock_outcome answer s.locked))
lock_quiet opening held s w piece t answer sits quiet k =
    let there = at_lock_aside (length piece) (taking_heard t answer) (lock_heard t.rule t.at answer) refl quiet.aside in
    subst (λ x. Kept opening held (lock_went s w piece t answer x)) (sym quiet.outcome)
    (aside_keeps opening held s w (delivery piece (Locking t)) (delivery piece (lock_place (length piece) (taking_heard t answer))) sits tt there.aside there.sound k)

got_place : (len : ℕ) (rule : LockRule) (at : LockState) (t : Tally) → at ≡ Trying t
    → lock_place len (record { rule = rule; at = lock_heard rule at (AnswerCreate MadeNew) }) ≡ Appending (appending len true)
got_place len rule (Trying x) t e = refl
got_place len rule (Aging x) t e = absurd (cc)
got_place len rule (Looking x) t e = absurd (cc)
got_place len rule (Removing x) t e = absurd (cc)
got_place len rule (Pausing seconds x) t e = absurd (cc)
got_place len rule (Ended end) t e = absurd (cc)

abbrev pub got : Turning → ℕ → Delivery → Turning
got s w new = record { mailbox = s.mailbox; locked = true; writers = slice_set s.writers w new; order = s.order ++ w ∷ []; forced = false }

got_free : (opening : List ℕ) (held : Bool) (s : Turning) (w : ℕ) (piece : List ℕ) (t : Taking) → slice_get s.writers w ≡ Some (delivery piece (Locking t))
    → (held || some_keeps s.writers) ≡ false → Free opening held s → Busied opening held (got s w (delivery piece (Appending (appending (length piece) true))))
got_free opening held s w piece t sits unkept f = let new = delivery piece (Appending (appending (length piece) true)) in let old = delivery piece (Locking t) in record {
  before = s.order;
  writer = w;
  piece = piece;
  place = Appending (appending (length piece) true);
  order = refl;
  locked = refl;
  sits = get_set_same s.writers w old new sits;
  gone = gone_kept s.writers s.order w old new sits (λ g. g) f.gone;
  opened = or_left held (some_keeps s.writers) unkept;
  alone = each_set s.writers w old new (λ i x. (i ≡ w → ⊥) → keeps_lock x.place ≡ false) sits (λ ne. absurd (ne refl)) (λ i x e ne nw. none_of s.writers i x (or_right held (some_keeps s.writers) unkept) e);
  fits = record { len = refl; at = f.is ∙ ap (λ x. opening ++ x) (sym (added_kept s.writers s.order w old new sits (λ g. g) f.gone)) };
}

lock_got : (opening : List ℕ) (held : Bool) (s : Turning) (w : ℕ) (piece : List ℕ) (t : Taking) (tally : Tally) → slice_get s.writers w ≡ Some (delivery piece (Locking t)) → t.at ≡ Trying tally → s.locked ≡ false
    → Kept opening held s → Kept opening held (lock_went s w piece t (AnswerCreate MadeNew) (lock_outcome (AnswerCreate MadeNew) s.locked))
lock_got opening held s w piece t tally sits trying free k =
    let old = delivery piece (Locking t) in let new = delivery piece (Appending (appending (length piece) true)) in
    subst (λ p. Kept opening held (got s w (delivery piece p))) (sym (got_place (length piece) t.rule t.at tally trying)) (record {
      sound = each_set s.writers w old new (λ i x. IsSound x.place) sits tt (λ i x e ne. k.sound i x e);
      state = elim k.state [
        | inl f ↦ inr (got_free opening held s w piece t sits (sym k.there ∙ free) f)
        | inr h ↦ absurd (let bad : true ≡ false = sym h.locked ∙ free in cc)
      ];
      there = sym (ap (λ b. held || b) (some_in (slice_set s.writers w new) w new (get_set_same s.writers w old new sits) refl) ∙ or_true held);
      listed = each_set s.writers w old new (λ i x. is_among (s.order ++ w ∷ []) i ≡ got_lock x.place) sits (among_new s.order w) (λ i x e ne. among_old s.order w i ne ∙ k.listed i x e);
      once = once_more s.order w k.once (k.listed w old sits);
    })

lock_keeps : (opening : List ℕ) (held : Bool) (s : Turning) (w : ℕ) (piece : List ℕ) (t : Taking) (answer : Answer) → slice_get s.writers w ≡ Some (delivery piece (Locking t))
    → Went t.rule t.at s.locked answer → (lock_outcome answer s.locked).forced ≡ false → Kept opening held s → Kept opening held (lock_went s w piece t answer (lock_outcome answer s.locked))
lock_keeps opening held s w piece t answer sits case r k = elim case [
  | inl quiet ↦ lock_quiet opening held s w piece t answer sits quiet k
  | inr other ↦ elim other [
    | inl g ↦ subst (λ a. Kept opening held (lock_went s w piece t a (lock_outcome a s.locked))) (sym g.made) (lock_got opening held s w piece t g.tally sits g.trying g.free k)
    | inr f ↦ absurd (let bad : true ≡ false = sym f ∙ r in cc)
  ]
]

-- The one that has the lock

record Mine (opening : List ℕ) (held : Bool) (s : Turning) (w : ℕ) (piece : List ℕ) (place : Place) : Type 0 where
  before : List ℕ
  order : s.order ≡ before ++ w ∷ []
  locked : s.locked ≡ true
  gone : AllGone s.writers before
  alone : (i : ℕ) (x : Delivery) → slice_get s.writers i ≡ Some x → (i ≡ w → ⊥) → keeps_lock x.place ≡ false
  opened : held ≡ false
  fits : FitsPlace (opening ++ added s.writers before) piece place s.mailbox

mine_of : (opening : List ℕ) (held : Bool) (s : Turning) (w : ℕ) (piece : List ℕ) (place : Place) → slice_get s.writers w ≡ Some (delivery piece place) → (h : Busied opening held s) → w ≡ h.writer → Mine opening held s w piece place
mine_of opening held s w piece place sits h same =
    let e : Some (delivery h.piece h.place) ≡ Some (delivery piece place) = sym h.sits ∙ ap (slice_get s.writers) (sym same) ∙ sits in
    let g : delivery h.piece h.place ≡ delivery piece place = cc in record {
      before = h.before;
      locked = h.locked;
      gone = h.gone;
      order = subst (λ v. s.order ≡ h.before ++ v ∷ []) (sym same) h.order;
      opened = h.opened;
      alone = subst (λ v. (i : ℕ) (x : Delivery) → slice_get s.writers i ≡ Some x → (i ≡ v → ⊥) → keeps_lock x.place ≡ false) (sym same) h.alone;
      fits = subst (λ x. FitsPlace (opening ++ added s.writers h.before) x.piece x.place s.mailbox) g h.fits;
    }

mine : (opening : List ℕ) (held : Bool) (s : Turning) (w : ℕ) (piece : List ℕ) (place : Place) → slice_get s.writers w ≡ Some (delivery piece place) → IsBetween place → Kept opening held s → Mine opening held s w piece place
mine opening held s w piece place sits b k = elim k.state [
  | inl f ↦ absurd (f.none w (delivery piece place) sits b)
  | inr h ↦ elim (cases_eq w h.writer) [
    | inl same ↦ mine_of opening held s w piece place sits h same
    | inr other ↦ absurd (others_of place (h.alone w (delivery piece place) sits other) b)
  ]
]

abbrev pub worked : Turning → ℕ → Option (List ℕ) → Delivery → Turning
worked s w mailbox new = record { mailbox = mailbox; locked = s.locked; writers = slice_set s.writers w new; order = s.order; forced = false }

works : (opening : List ℕ) (held : Bool) (s : Turning) (w : ℕ) (piece : List ℕ) (place place' : Place) (mailbox : Option (List ℕ)) → slice_get s.writers w ≡ Some (delivery piece place) → IsBetween place
    → Kept opening held s → (m : Mine opening held s w piece place) → FitsPlace (opening ++ added s.writers m.before) piece place' mailbox → Kept opening held (worked s w mailbox (delivery piece place'))
works opening held s w piece place place' mailbox sits b k m fits =
    let old = delivery piece place in let new = delivery piece place' in let base = opening ++ added s.writers m.before in record {
      sound = each_set s.writers w old new (λ i x. IsSound x.place) sits (fits_sound base piece place' mailbox fits) (λ i x e ne. k.sound i x e);
      state = inr (record {
        before = m.before;
        writer = w;
        piece = piece;
        place = place';
        order = m.order;
        locked = m.locked;
        sits = get_set_same s.writers w old new sits;
        gone = gone_kept s.writers m.before w old new sits (between_not_gone place b) m.gone;
        opened = m.opened;
        alone = each_set s.writers w old new (λ i x. (i ≡ w → ⊥) → keeps_lock x.place ≡ false) sits (λ ne. absurd (ne refl)) (λ i x e ne nw. m.alone i x e nw);
        fits = subst (λ t. FitsPlace (opening ++ t) piece place' mailbox) (sym (added_kept s.writers m.before w old new sits (between_not_gone place b) m.gone)) fits;
      });
      there = k.there ∙ ap (λ t. held || t) (sym (some_set s.writers w old new sits (between_keep place' (fits_between base piece place' mailbox fits) ∙ sym (between_keep place b))));
      listed = each_set s.writers w old new (λ i x. is_among s.order i ≡ got_lock x.place) sits (k.listed w old sits ∙ between_got place b ∙ sym (between_got place' (fits_between base piece place' mailbox fits))) (λ i x e ne. k.listed i x e);
      once = k.once;
    }

append_keeps : (opening : List ℕ) (held : Bool) (s : Turning) (w : ℕ) (piece : List ℕ) (a : Append) (will : Will) → slice_get s.writers w ≡ Some (delivery piece (Appending a)) → Kept opening held s
    → Kept opening held (append_went s w piece a (append_step a.len a.sync a.at) (append_answer (append_step a.len a.sync a.at) (length piece) s.mailbox will))
append_keeps opening held s w piece a will sits k =
    let m = mine opening held s w piece (Appending a) sits tt k in
    works opening held s w piece (Appending a) (append_place (appending_heard a (append_answer (append_step a.len a.sync a.at) (length piece) s.mailbox will)))
    (mailbox_after (append_step a.len a.sync a.at) (append_answer (append_step a.len a.sync a.at) (length piece) s.mailbox will) piece s.mailbox)
    sits tt k m (append_fits (opening ++ added s.writers m.before) piece a s.mailbox will m.fits)

-- whether the lock is there after its holder's own removal
give_there : (opening : List ℕ) (held : Bool) (s : Turning) (w : ℕ) (piece : List ℕ) (end : AppendEnd) (answer : Removed) (will : Will) → slice_get s.writers w ≡ Some (delivery piece (Giving end))
    → Mine opening held s w piece (Giving end) → answer ≡ give_answer true will
    → (give_outcome answer s.locked).locked ≡ (held || some_keeps (slice_set s.writers w (delivery piece (Gone end answer))))
give_there opening held s w piece end RemovedDone will sits m e =
    let old = delivery piece (Giving end) in let new = delivery piece (Gone end RemovedDone) in
    sym (ap (λ b. b || some_keeps (slice_set s.writers w new)) m.opened
    ∙ none_keeps (slice_set s.writers w new) (each_set s.writers w old new (λ i x. keeps_lock x.place ≡ false) sits refl (λ i x f ne. m.alone i x f ne)))
give_there opening held s w piece end Absent (Serve n) sits m e = absurd (cc)
give_there opening held s w piece end Absent Fail sits m e = absurd (cc)
give_there opening held s w piece end RemoveFailed will sits m e =
    let old = delivery piece (Giving end) in let new = delivery piece (Gone end RemoveFailed) in
    m.locked ∙ sym (ap (λ b. held || b) (some_in (slice_set s.writers w new) w new (get_set_same s.writers w old new sits) refl) ∙ or_true held)

give_keeps : (opening : List ℕ) (held : Bool) (s : Turning) (w : ℕ) (piece : List ℕ) (end : AppendEnd) (will : Will) → slice_get s.writers w ≡ Some (delivery piece (Giving end)) → Kept opening held s
    → Kept opening held (gave s w piece end (give_answer s.locked will))
give_keeps opening held s w piece end will sits k =
    let m = mine opening held s w piece (Giving end) sits tt k in let answer = give_answer s.locked will in
    let old = delivery piece (Giving end) in let new = delivery piece (Gone end answer) in let after = slice_set s.writers w new in
    let here : slice_get after w ≡ Some new = get_set_same s.writers w old new sits in record {
      sound = each_set s.writers w old new (λ i x. IsSound x.place) sits m.fits.clean (λ i x e ne. k.sound i x e);
      state = inl (record {
        gone = subst (AllGone after) (sym m.order) (gone_more after m.before w (gone_kept s.writers m.before w old new sits (λ g. g) m.gone) (subst HasGone (sym here) tt));
        none = each_set s.writers w old new (λ i x. IsBetween x.place → ⊥) sits (λ b. b) (λ i x e ne. others_of x.place (m.alone i x e ne));
        is = m.fits.is ∙ append_assoc opening (added s.writers m.before) (by_place piece (Gone end answer))
            ∙ ap (λ t. opening ++ t) (ap (λ t. t ++ by_place piece (Gone end answer)) (sym (added_kept s.writers m.before w old new sits (λ g. g) m.gone))
            ∙ ap (λ o. added after m.before ++ by_writer o) (sym here) ∙ sym (added_more after m.before w) ∙ ap (added after) (sym m.order));
      });
      there = give_there opening held s w piece end answer will sits m (ap (λ b. give_answer b will) m.locked);
      listed = each_set s.writers w old new (λ i x. is_among s.order i ≡ got_lock x.place) sits (k.listed w old sits) (λ i x e ne. k.listed i x e);
      once = k.once;
    }

place_keeps : (opening : List ℕ) (held : Bool) (s : Turning) (w : ℕ) (piece : List ℕ) (place : Place) (will : Will) → slice_get s.writers w ≡ Some (delivery piece place) → Kept opening held s
    → (place_turn s w piece place will).forced ≡ false → Kept opening held (place_turn s w piece place will)
place_keeps opening held s w piece (Locking t) will sits k r =
    lock_keeps opening held s w piece t (lock_answer (lock_step t.at) s.locked will) sits (went t.rule t.at s.locked will (k.sound w (delivery piece (Locking t)) sits)) r k
place_keeps opening held s w piece (Appending a) will sits k r = append_keeps opening held s w piece a will sits k
place_keeps opening held s w piece (Giving end) will sits k r = give_keeps opening held s w piece end will sits k
place_keeps opening held s w piece (Gone end answer) will sits k r = k
place_keeps opening held s w piece (Away end) will sits k r = k

turn_keeps : (opening : List ℕ) (held : Bool) (s : Turning) (w : ℕ) (d : Option Delivery) (will : Will) → slice_get s.writers w ≡ d → Kept opening held s
    → (turn s w d will).forced ≡ false → Kept opening held (turn s w d will)
turn_keeps opening held s w None will e k r = k
turn_keeps opening held s w (Some d) will e k r = place_keeps opening held s w d.piece d.place will e k r

pub happens_keeps : (opening : List ℕ) (held : Bool) (s : Turning) (e : Event) → (s.forced ≡ false → Kept opening held s) → (happens s e).forced ≡ false → Kept opening held (happens s e)
happens_keeps opening held s e k =
    elim s.forced as (λ b. s.forced ≡ b → (cond b s (turn s e.writer (slice_get s.writers e.writer) e.will)).forced ≡ false
    → Kept opening held (cond b s (turn s e.writer (slice_get s.writers e.writer) e.will))) [
      | true ↦ λ f. k
      | false ↦ λ f. turn_keeps opening held s e.writer (slice_get s.writers e.writer) e.will refl (k f)
    ] refl

pub run_keeps : (opening : List ℕ) (held : Bool) (es : List Event) (s : Turning) → (s.forced ≡ false → Kept opening held s) → (run es s).forced ≡ false → Kept opening held (run es s)
run_keeps opening held [] s k = k
run_keeps opening held (e ∷ es) s k = run_keeps opening held es (happens s e) (happens_keeps opening held s e k)

pub opens_keeps : (mailbox : Option (List ℕ)) (locked : Bool) (writers : List Writer) → Kept (text mailbox) locked (opens mailbox locked writers)
opens_keeps mailbox locked writers = record {
  sound = λ i x. get_begun writers i x (λ y. IsSound y.place) (λ w. tt);
  state = inl (record { gone = tt; none = λ i x e b. get_begun writers i x (λ y. IsBetween y.place → ⊥) (λ w h. h) e b; is = sym (append-nil (text mailbox)) });
  there = sym (ap (λ b. locked || b) (none_keeps (map begun writers) (λ i x. get_begun writers i x (λ y. keeps_lock y.place ≡ false) (λ w. refl))) ∙ or_false locked);
  listed = λ i x. get_begun writers i x (λ y. false ≡ got_lock y.place) (λ w. refl);
  once = tt;
}

-- over every opening and schedule
pub always : (mailbox : Option (List ℕ)) (locked : Bool) (writers : List Writer) (events : List Event) → (run events (opens mailbox locked writers)).forced ≡ false
    → Kept (text mailbox) locked (run events (opens mailbox locked writers))
always mailbox locked writers events = run_keeps (text mailbox) locked events (opens mailbox locked writers) (λ f. opens_keeps mailbox locked writers)
