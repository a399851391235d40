-- What is kept, in the words of the law.
use Rattle.std.proofs.Common.{◌≡◌, ℕ, Bool, true, false, List, [], ◌++◌, take, drop, Option, Some, refl, sym, ap, ◌∙◌, inl, inr, append_assoc, append-nil, slice_get}
use Rattle.std.proofs.lemmas.Bool.{cases_eq}
use Rattle.std.proofs.lemmas.List.{take-append-drop}
use Rattle.pm_journal.specs.declared.appending.AppendState.{AppendState}
use Rattle.pm_journal.specs.declared.appending.AppendState.TheVariants.{Looking, Creating, Writing, Cutting, Removing, Ended}
use Rattle.pm_turns.specs.declared.writers.Place.{Place}
use Rattle.pm_turns.specs.declared.writers.Place.TheVariants.{Locking, Appending, Giving, Gone, Away}
use Rattle.pm_turns.specs.declared.writers.Delivery.{Delivery}
use Rattle.pm_turns.specs.Turning.{Turning, text, delivery}
use Rattle.pm_turns.specs.Order.{by_place, by_writer, added, IsBetween, IsPrefixOf, InOrder, AtRest}
use Rattle.pm_turns.proofs.Deliveries.{added_more}
use Rattle.pm_turns.proofs.Fits.{FitsAt, FitsPlace}
use Rattle.pm_turns.proofs.Keeps.{Kept, Busied, others_of}

pub at_rest : (opening : List ℕ) (held : Bool) (s : Turning) → Kept opening held s → s.locked ≡ false → AtRest opening s
at_rest opening held s k e = elim k.state [
  | inl f ↦ record { gone = f.gone; is = f.is }
  | inr h ↦ absurd (let bad : true ≡ false = sym h.locked ∙ e in cc)
]

record SoFar (base piece : List ℕ) (mailbox : Option (List ℕ)) : Type 0 where
  more : List ℕ
  is : text mailbox ≡ base ++ more
  prefix : IsPrefixOf more piece

so_far : (base piece : List ℕ) (at : AppendState) (mailbox : Option (List ℕ)) → FitsAt base piece at mailbox → SoFar base piece mailbox
so_far base piece Looking mailbox f = record { more = []; is = f ∙ sym (append-nil base); prefix = (piece, refl) }
so_far base piece Creating mailbox f = record { more = []; is = ap text f.0 ∙ sym f.1 ∙ sym (append-nil base); prefix = (piece, refl) }
so_far base piece (Writing made old taken) mailbox f = record { more = take taken piece; is = ap text f.is; prefix = (drop taken piece, take-append-drop taken piece) }
so_far base piece (Cutting old taken) mailbox f = record { more = take taken piece; is = ap text f.is; prefix = (drop taken piece, take-append-drop taken piece) }
so_far base piece (Removing taken) mailbox f = record { more = take taken piece; is = ap text f.is; prefix = (drop taken piece, take-append-drop taken piece) }
so_far base piece (Ended end) mailbox f = absurd f

-- all that was added, with what the holder's ended append added
added_all : (opening : List ℕ) (held : Bool) (s : Turning) (h : Busied opening held s) → added s.writers s.order ≡ added s.writers h.before ++ by_place h.piece h.place
added_all opening held s h = ap (added s.writers) h.order ∙ added_more s.writers h.before h.writer ∙ ap (λ o. added s.writers h.before ++ by_writer o) h.sits

in_place : (opening : List ℕ) (held : Bool) (s : Turning) (writer : ℕ) (before piece : List ℕ) (place : Place) → slice_get s.writers writer ≡ Some (delivery piece place)
    → added s.writers s.order ≡ added s.writers before ++ by_place piece place → FitsPlace (opening ++ added s.writers before) piece place s.mailbox → InOrder opening s
in_place opening held s writer before piece (Locking t) sits e f = absurd f
in_place opening held s writer before piece (Gone end answer) sits e f = absurd f
in_place opening held s writer before piece (Away end) sits e f = absurd f
in_place opening held s writer before piece (Giving end) sits e f = record {
  more = [];
  whose = inl refl;
  is = f.is ∙ append_assoc opening (added s.writers before) (by_place piece (Giving end)) ∙ ap (λ t. opening ++ t) (sym e ∙ sym (append-nil (added s.writers s.order)));
}
in_place opening held s writer before piece (Appending a) sits e f =
    let p = so_far (opening ++ added s.writers before) piece a.at s.mailbox f.at in record {
      more = p.more;
      whose = inr (record { writer = writer; piece = piece; append = a; stands = sits; prefix = p.prefix });
      is = p.is ∙ append_assoc opening (added s.writers before) p.more ∙ ap (λ t. opening ++ (t ++ p.more)) (sym (append-nil (added s.writers before)) ∙ sym e);
    }

pub in_order : (opening : List ℕ) (held : Bool) (s : Turning) → Kept opening held s → InOrder opening s
in_order opening held s k = elim k.state [
  | inl f ↦ record { more = []; whose = inl refl; is = f.is ∙ ap (λ t. opening ++ t) (sym (append-nil (added s.writers s.order))) }
  | inr h ↦ in_place opening held s h.writer h.before h.piece h.place h.sits (added_all opening held s h) h.fits
]

pub one_between : (opening : List ℕ) (held : Bool) (s : Turning) (i j : ℕ) (a b : Delivery) → Kept opening held s → slice_get s.writers i ≡ Some a → slice_get s.writers j ≡ Some b → IsBetween a.place → IsBetween b.place → i ≡ j
one_between opening held s i j a b k e f p q = elim k.state [
  | inl r ↦ absurd (r.none i a e p)
  | inr h ↦ is_it h i a e p ∙ sym (is_it h j b f q)
] where
  is_it : (h : Busied opening held s) (i : ℕ) (a : Delivery) → slice_get s.writers i ≡ Some a → IsBetween a.place → i ≡ h.writer
  is_it h i a e p = elim (cases_eq i h.writer) [ inl same ↦ same | inr other ↦ absurd (others_of a.place (h.alone i a e other) p) ]
