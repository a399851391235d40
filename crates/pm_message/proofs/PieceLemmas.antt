-- What a mailbox gets is the mail itself, with newlines behind it.
use Rattle.std.proofs.Common.{◌≡◌, ◌≤◌, ℕ, true, false, List, [], ◌++◌, length, take, refl, sym, ◌∙◌, ap, ⊎_elim, arith, codes, nat_eq, append_assoc, append-nil, length-append}
use Rattle.std.proofs.lemmas.Bool.{cases_Bool}
use Rattle.std.proofs.lemmas.List.{take_at}
use Rattle.std.specs.List.{ends_with}
use Rattle.pm_message.specs.Piece.{with_newline, ended, ended_unless, escaped, piece_of}
use Rattle.pm_message.specs.Split.{whole_of}
use Rattle.pm_message.specs.declared.head.Message.{Message}
use Rattle.pm_message.specs.declared.pieces.Feed.TheVariants.{Both}
use Rattle.pm_message.specs.declared.pieces.Kind.TheVariants.{MailboxFile}

-- the text with more behind it
abbrev Longer : List ℕ → List ℕ → Type 0
Longer text whole = (more : List ℕ) × (whole ≡ text ++ more)

newline_longer : (text : List ℕ) → Longer text (with_newline text)
newline_longer text = ⊎_elim
    (λ h. ([], rw h (sym (append-nil text))))
    (λ h. (codes "\n", rw h refl))
    (cases_Bool (ends_with nat_eq text (codes "\n")))

longer : (text : List ℕ) → Longer text (ended text)
longer text =
    let one = newline_longer text in
    ⊎_elim
    (λ h. (one.0, rw h one.1))
    (λ h. (one.0 ++ codes "\n", rw h (ap (λ t. t ++ codes "\n") one.1 ∙ append_assoc text one.0 (codes "\n"))))
    (cases_Bool (ends_with nat_eq (with_newline text) (codes "\n\n")))

pub ended_front : (text : List ℕ) → take (length text) (ended text) ≡ text
ended_front text = let whole = longer text in ap (take (length text)) whole.1 ∙ take_at text whole.0 (length text) refl

pub ended_longer : (text : List ℕ) → length text ≤ length (ended text)
ended_longer text = let whole = longer text in omega (arith, ap length whole.1, length-append text whole.0)

-- under the flag `r`, and without it
pub own_raw : (message : Message) (text : List ℕ) → escaped message.body ≡ message.body → text ≡ whole_of message → text ≡ piece_of message Both MailboxFile true
own_raw message text plain e = e ∙ ap (λ body. message.head ++ body) (sym plain)

pub own_ended : (message : Message) (text : List ℕ) → escaped message.body ≡ message.body → text ≡ ended_unless false (whole_of message) → text ≡ piece_of message Both MailboxFile false
own_ended message text plain e = e ∙ ap (λ body. ended_unless false (message.head ++ body)) (sym plain)
