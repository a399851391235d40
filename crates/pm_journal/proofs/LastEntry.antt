-- The last of some entries, and what its reply says.
use Rattle.std.proofs.Common.{◌≡◌, ◌-◌, suc, false, List, [], ◌∷◌, ◌++◌, length, Some, None, refl, ap, subst, arith, slice_get}
use Rattle.pm_journal.specs.Outcomes.{last_reply, output_in, last_output, file_in, last_file, is_missing, last_missing}
use Rattle.pm_journal.specs.declared.acts.Entry.{Entry}
use Rattle.pm_journal.specs.declared.acts.Reply.{Reply}

some_is : (x e : Entry) → Some x ≡ Some e → e ≡ x
some_is x e h = cc

one_further : (x y : Entry) (ys : List Entry) (e : Entry) → slice_get (x ∷ (y ∷ ys)) (length (x ∷ (y ∷ ys)) - 1) ≡ Some e → slice_get (y ∷ ys) (length (y ∷ ys) - 1) ≡ Some e
one_further x y ys e h =
    let n : length (x ∷ (y ∷ ys)) - 1 ≡ suc (length (y ∷ ys) - 1) = omega arith in
    subst (λ k. slice_get (x ∷ (y ∷ ys)) k ≡ Some e) n h

pub reply_of_last : (es : List Entry) (e : Entry) → slice_get es (length es - 1) ≡ Some e → Some e.reply ≡ last_reply es
reply_of_last [] e h = absurd (cc)
reply_of_last (x ∷ []) e h = ap (λ k. Some k.reply) (some_is x e h)
reply_of_last (x ∷ (y ∷ ys)) e h = reply_of_last (y ∷ ys) e (one_further x y ys e h)

pub none_last : (es : List Entry) → slice_get es (length es - 1) ≡ None → None ≡ last_reply es
none_last [] h = refl
none_last (x ∷ []) h = absurd (cc)
none_last (x ∷ (y ∷ ys)) h =
    let n : length (x ∷ (y ∷ ys)) - 1 ≡ suc (length (y ∷ ys) - 1) = omega arith in
    none_last (y ∷ ys) (subst (λ k. slice_get (x ∷ (y ∷ ys)) k ≡ None) n h)

pub reply_noted : (es : List Entry) (e : Entry) → Some e.reply ≡ last_reply (es ++ e ∷ [])
reply_noted [] e = refl
reply_noted (x ∷ []) e = refl
reply_noted (x ∷ (y ∷ ys)) e = reply_noted (y ∷ ys) e

pub output_of_last : (es : List Entry) (r : Reply) → Some r ≡ last_reply es → output_in r ≡ last_output es
output_of_last [] r h = absurd (cc)
output_of_last (x ∷ []) r h = let e : r ≡ x.reply = cc in ap output_in e
output_of_last (x ∷ (y ∷ ys)) r h = output_of_last (y ∷ ys) r h

pub no_output : (es : List Entry) → None ≡ last_reply es → None ≡ last_output es
no_output [] h = refl
no_output (x ∷ []) h = absurd (cc)
no_output (x ∷ (y ∷ ys)) h = no_output (y ∷ ys) h

pub file_of_last : (es : List Entry) (r : Reply) → Some r ≡ last_reply es → file_in r ≡ last_file es
file_of_last [] r h = absurd (cc)
file_of_last (x ∷ []) r h = let e : r ≡ x.reply = cc in ap file_in e
file_of_last (x ∷ (y ∷ ys)) r h = file_of_last (y ∷ ys) r h

pub no_file : (es : List Entry) → None ≡ last_reply es → None ≡ last_file es
no_file [] h = refl
no_file (x ∷ []) h = absurd (cc)
no_file (x ∷ (y ∷ ys)) h = no_file (y ∷ ys) h

pub missing_of_last : (es : List Entry) (r : Reply) → Some r ≡ last_reply es → is_missing r ≡ last_missing es
missing_of_last [] r h = absurd (cc)
missing_of_last (x ∷ []) r h = let e : r ≡ x.reply = cc in ap is_missing e
missing_of_last (x ∷ (y ∷ ys)) r h = missing_of_last (y ∷ ys) r h

pub not_missing : (es : List Entry) → None ≡ last_reply es → false ≡ last_missing es
not_missing [] h = refl
not_missing (x ∷ []) h = absurd (cc)
not_missing (x ∷ (y ∷ ys)) h = not_missing (y ∷ ys) h
