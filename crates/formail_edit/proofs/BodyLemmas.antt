-- A body that can stay as it is.
use Rattle.std.proofs.Common.{◌≡◌, ◌≤◌, inl, inr, ℕ, ◌+◌, ◌-◌, Bool, true, false, Option, take, List, [], ◌∷◌, ◌++◌, length, nat_eq, codes, refl, sym, ap, ◌∙◌, ⊎_elim, arith, length-append, append_assoc, if◌then◌else◌}
use Rattle.std.proofs.lemmas.Bool.{cases_Bool}
use Rattle.std.proofs.lemmas.Bool.Decides.{Decides-eqb}
use Rattle.std.proofs.lemmas.Slice.Eq.{ends_is}
use Rattle.std.specs.List.{flat_map, concat, starts_with, ends_with}
use Rattle.memchr.specs.Find.{OccursAt, Nowhere}
use Rattle.pm_message.specs.Lines.{lines}
use Rattle.pm_message.specs.Piece.{escaped_line, escaped, ended}
use Rattle.pm_message.proofs.EscapeLemmas.{sign, needle, escaped_end, escaped_begun_plain}
use Rattle.pm_message.proofs.LineLemmas.{concat-lines}
use Rattle.formail_edit.specs.Output.{prefixed_line, body_for, Stays, front_of, mail_of}
use Rattle.formail_edit.specs.declared.edits.Edits.{Edits}

-- lines that are escaped are no shorter
longer : (ls : List (List ℕ)) → length (concat ls) ≤ length (flat_map escaped_line ls)
longer [] = omega arith
longer (l ∷ ls) =
    let rest = longer ls in
    ⊎_elim
    (λ h. rw h (omega (arith, rest, length-append l (concat ls), length-append (codes ">" ++ l) (flat_map escaped_line ls))))
    (λ h. rw h (omega (arith, rest, length-append l (concat ls), length-append l (flat_map escaped_line ls))))
    (cases_Bool (starts_with nat_eq l sign))

-- and where they are as long, none of them begins a mail
none_begins : (prefix : List ℕ) (ls : List (List ℕ)) → length (flat_map escaped_line ls) ≡ length (concat ls) → flat_map (prefixed_line prefix) ls ≡ concat ls
none_begins prefix [] e = refl
none_begins prefix (l ∷ ls) e = ⊎_elim
    (λ h. absurd (let long : length ((codes ">" ++ l) ++ flat_map escaped_line ls) ≡ length (l ++ concat ls) = rw h at e in
    omega (arith, long, longer ls, length-append l (concat ls), length-append (codes ">" ++ l) (flat_map escaped_line ls))))
    (λ h. (let same : length (l ++ flat_map escaped_line ls) ≡ length (l ++ concat ls) = rw h at e in
    let rest : length (flat_map escaped_line ls) ≡ length (concat ls) = omega (arith, same, length-append l (concat ls), length-append l (flat_map escaped_line ls)) in
    rw h (ap (λ t. l ++ t) (none_begins prefix ls rest))))
    (cases_Bool (starts_with nat_eq l sign))

-- a body in which no line begins a mail comes as it is
pub plain_body : (body : List ℕ) → starts_with nat_eq body sign ≡ false → Nowhere (OccursAt body needle) 0 (length body + 1) → (prefix : List ℕ) → flat_map (prefixed_line prefix) (lines body) ≡ body
plain_body body other none prefix =
    let same : body ≡ escaped body = escaped_end (escaped body) [] body (escaped_begun_plain [] body other) none in
    none_begins prefix (lines body) (ap length (sym same ∙ sym (concat-lines body))) ∙ concat-lines body

-- a text ends as the one after it does
pub ends_after : (front text tail : List ℕ) → ends_with nat_eq text tail ≡ true → (whole : List ℕ) → whole ≡ front ++ text → ends_with nat_eq whole tail ≡ true
ends_after front text tail ends whole is =
    let cut = (ends_is Decides-eqb text tail (ends_with nat_eq text tail) refl).0 ends in
    (ends_is Decides-eqb whole tail (ends_with nat_eq whole tail) refl).1 (front ++ take (length text - length tail) text)
    (is ∙ ap (λ t. front ++ t) cut ∙ sym (append_assoc front (take (length text - length tail) text) tail))

-- two newlines end with one
one_of_two : (text : List ℕ) → ends_with nat_eq text (codes "\n\n") ≡ true → ends_with nat_eq text (codes "\n") ≡ true
one_of_two text ends =
    let front = take (length text - 2) text in
    let cut : text ≡ front ++ codes "\n\n" = (ends_is Decides-eqb text (codes "\n\n") (ends_with nat_eq text (codes "\n\n")) refl).0 ends in
    (ends_is Decides-eqb text (codes "\n") (ends_with nat_eq text (codes "\n")) refl).1 (front ++ codes "\n")
    (cut ∙ sym (append_assoc front (codes "\n") (codes "\n")))

-- a text with two newlines at its end stays so
ended_same : (text : List ℕ) → ends_with nat_eq text (codes "\n\n") ≡ true → ended text ≡ text
ended_same text ends = rw (one_of_two text ends, ends) refl

-- the mail is its head with such a body
pub mail_stays : (edits : Edits) (texts : List (List ℕ)) (body : List ℕ) (from : Option (List ℕ)) → Stays edits body
    → (front_of from ++ concat texts ++ codes "\n") ++ body ≡ mail_of edits texts body from
mail_stays edits texts body from stays =
    let head = front_of from ++ concat texts ++ codes "\n" in
    let whole : List ℕ = head ++ body_for edits body in
    let is : head ++ body ≡ whole = ap (λ t. head ++ t) (sym stays.plain) in
    elim stays.closed as (λ _. head ++ body ≡ mail_of edits texts body from) [
      | inl keeps ↦ is ∙ sym (kept edits.keep_from whole keeps)
      | inr ends ↦ is ∙ sym (closed edits.keep_from whole (ends_after head body (codes "\n\n") ends whole (sym is)))
    ]
  where
    kept : (keep : Bool) (text : List ℕ) → keep ≡ true → (if keep then text else ended text) ≡ text
    kept keep text e = rw e refl

    closed : (keep : Bool) (text : List ℕ) → ends_with nat_eq text (codes "\n\n") ≡ true → (if keep then text else ended text) ≡ text
    closed true text ends = refl
    closed false text ends = ended_same text ends
