-- A mail that is written as it stands.
use Rattle.std.proofs.Common.{◌≡◌, ◌⊎◌, inl, inr, ℕ, ℤ, Bool, true, false, Some, None, option_map, List, [], ◌∷◌, ◌++◌, ◌==◌, length, drop, map, nat_eq, codes, refl, sym, ap, subst, ◌∙◌, ⊎_elim, arith, append_assoc, append-nil, if◌then◌else◌}
use Rattle.std.proofs.lemmas.Bool.{cases_Bool, cases_eq, ne_eqb, eqb-true, false≢true}
use Rattle.std.proofs.lemmas.Bool.Decides.{Decides-eqb}
use Rattle.std.proofs.lemmas.Slice.Eq.{starts_is, bytes_eq-Decides}
use Rattle.std.specs.List.{concat, starts_with, ends_with}
use Rattle.std.specs.Prelude.{bytes_eq}
use Rattle.pm_message.specs.Lines.{onto, lines}
use Rattle.pm_message.specs.Split.{head_lines, body_lines, head_of, body_of, split_of}
use Rattle.pm_message.specs.Field.{field_lines, begins_with_blank, with_line, folded, texts_of}
use Rattle.pm_message.specs.Piece.{with_newline}
use Rattle.pm_message.specs.declared.head.Message.{Message}
use Rattle.pm_message.proofs.LineLemmas.{lines-break, lines-on}
use Rattle.pm_message.proofs.SplitLemmas.{split_of-is_split}
use Rattle.pm_message.specs.Date.{from_line_of}
use Rattle.formail_edit.specs.Sender.{begins_from, line_at, sender_for, sender_in}
use Rattle.formail_edit.specs.Step.{edited_fields}
use Rattle.formail_edit.specs.Output.{Stays, mail_of, edited, is_taking}
use Rattle.formail_edit.specs.declared.edits.Take.{Take}
use Rattle.formail_edit.specs.declared.edits.Edits.{Edits}
use Rattle.formail_edit.proofs.BodyLemmas.{ends_after, mail_stays}

-- the text ends with a newline
abbrev Ends : List ℕ → Type 0
Ends text = ends_with nat_eq text (codes "\n") ≡ true

-- each line but the last one does
abbrev Lined : List (List ℕ) → Type 0
Lined [] = Unit {0}
Lined (line ∷ []) = Unit {0}
Lined (line ∷ next ∷ rest) = Ends line × Lined (next ∷ rest)

abbrev AllEnd : List (List ℕ) → Type 0
AllEnd [] = Unit {0}
AllEnd (line ∷ rest) = Ends line × AllEnd rest

lined-onto : (b : ℕ) (ls : List (List ℕ)) → Lined ls → Lined (onto b ls)
lined-onto b [] l = tt
lined-onto b (line ∷ []) l = tt
lined-onto b (line ∷ next ∷ rest) l = (ends_after (b ∷ []) line (codes "\n") l.0 (b ∷ line) refl, l.1)

lined-break : (b : ℕ) (ls : List (List ℕ)) → b ≡ 10 → Lined ls → Lined ((b ∷ []) ∷ ls)
lined-break b [] e l = tt
lined-break b (line ∷ rest) e l = (subst (λ x. Ends (x ∷ [])) (sym e) refl, l)

lined : (bs : List ℕ) → Lined (lines bs)
lined [] = tt
lined (b ∷ bs) = ⊎_elim
    (λ e. subst Lined (sym (lines-break b bs e)) (lined-break b (lines bs) e (lined bs)))
    (λ ne. subst Lined (sym (lines-on b bs ne)) (lined-onto b (lines bs) (lined bs)))
    (cases_eq b 10)

-- no line is empty, or the first empty one ends the head after the fields' lines, all of which end
abbrev IsCut : List (List ℕ) → Type 0
IsCut ls =
    (body_lines ls ≡ []) ⊎ ((concat (head_lines ls) ≡ concat (field_lines ls) ++ codes "\n") × AllEnd (field_lines ls))

cut-here : (line : List ℕ) (rest : List (List ℕ)) → bytes_eq line (codes "\n") ≡ true → IsCut (line ∷ rest)
cut-here line rest empty =
    let is : line ≡ codes "\n" = (bytes_eq-Decides line (codes "\n")).0 empty in
    inr (rw empty (append-nil line ∙ is), rw empty tt)

cut-later : (line : List ℕ) (rest : List (List ℕ)) → bytes_eq line (codes "\n") ≡ false → Lined (line ∷ rest) → IsCut rest → IsCut (line ∷ rest)
cut-later line [] full l later = inl (rw full refl)
cut-later line (next ∷ rest) full l later = ⊎_elim
    (λ none. inl (rw full none))
    (λ w. inr (
      rw full (ap (λ t. line ++ t) w.0 ∙ sym (append_assoc line (concat (field_lines (next ∷ rest))) (codes "\n"))),
      rw full (l.0, w.1),
    ))
    later

rest_lined : (line : List ℕ) (rest : List (List ℕ)) → Lined (line ∷ rest) → Lined rest
rest_lined line [] l = tt
rest_lined line (next ∷ rest) l = l.1

cut : (ls : List (List ℕ)) → Lined ls → IsCut ls
cut [] l = inl refl
cut (line ∷ rest) l = ⊎_elim
    (λ empty. cut-here line rest empty)
    (λ full. cut-later line rest full l (cut rest (rest_lined line rest l)))
    (cases_Bool (bytes_eq line (codes "\n")))

-- folding joins lines, and neither adds nor takes a byte
with_line-concat : (line : List ℕ) (texts : List (List ℕ)) → concat (with_line line texts) ≡ line ++ concat texts
with_line-concat line [] = refl
with_line-concat line (text ∷ texts) = ⊎_elim
    (λ blank. rw blank (append_assoc line text (concat texts)))
    (λ other. rw other refl)
    (cases_Bool (begins_with_blank text))

folded-concat : (ls : List (List ℕ)) → concat (folded ls) ≡ concat ls
folded-concat [] = refl
folded-concat (line ∷ rest) = with_line-concat line (folded rest) ∙ ap (λ t. line ++ t) (folded-concat rest)

with_line-ends : (line : List ℕ) (texts : List (List ℕ)) → Ends line → AllEnd texts → AllEnd (with_line line texts)
with_line-ends line [] e all = (e, tt)
with_line-ends line (text ∷ texts) e all = ⊎_elim
    (λ blank. rw blank (ends_after line text (codes "\n") all.0 (line ++ text) refl, all.1))
    (λ other. rw other (e, all))
    (cases_Bool (begins_with_blank text))

folded-ends : (ls : List (List ℕ)) → AllEnd ls → AllEnd (folded ls)
folded-ends [] all = tt
folded-ends (line ∷ rest) all = with_line-ends line (folded rest) all.0 (folded-ends rest all.1)

newlines-there : (texts : List (List ℕ)) → AllEnd texts → map with_newline texts ≡ texts
newlines-there [] all = refl
newlines-there (text ∷ texts) all = rw (all.0) (ap (λ t. text ∷ t) (newlines-there texts all.1))

-- the head's lines are those of the mail up to the first empty one, where the text may begin within a line
abbrev rest_lines : Bool → List (List ℕ) → List (List ℕ)
rest_lines true ls = head_lines ls
rest_lines false [] = []
rest_lines false (l ∷ ls) = l ∷ head_lines ls

long_line : (b : ℕ) (l : List ℕ) → (b ≡ 10 → ⊥) → bytes_eq (b ∷ l) (codes "\n") ≡ false
long_line b l ne = rw (ne_eqb b 10 ne) refl

rest_lines-on : (fresh : Bool) (b : ℕ) (ls : List (List ℕ)) → (b ≡ 10 → ⊥) → rest_lines fresh (onto b ls) ≡ onto b (rest_lines false ls)
rest_lines-on true b [] ne = rw (long_line b [] ne) refl
rest_lines-on true b (l ∷ ls) ne = rw (long_line b l ne) refl
rest_lines-on false b [] ne = refl
rest_lines-on false b (l ∷ ls) ne = refl

concat-onto : (b : ℕ) (ls : List (List ℕ)) → concat (onto b ls) ≡ b ∷ concat ls
concat-onto b [] = refl
concat-onto b (l ∷ ls) = refl

rest_lines-break : (fresh : Bool) (ls : List (List ℕ)) → lines (concat (rest_lines true ls)) ≡ rest_lines true ls → lines (concat (rest_lines fresh ((10 ∷ []) ∷ ls))) ≡ rest_lines fresh ((10 ∷ []) ∷ ls)
rest_lines-break true ls again = refl
rest_lines-break false ls again = ap (λ t. (10 ∷ []) ∷ t) again

rest_lines-again : (fresh : Bool) (bs : List ℕ) → lines (concat (rest_lines fresh (lines bs))) ≡ rest_lines fresh (lines bs)
rest_lines-again true [] = refl
rest_lines-again false [] = refl
rest_lines-again fresh (b ∷ bs) = ⊎_elim
    (λ e. subst (λ x. lines (concat (rest_lines fresh (lines (x ∷ bs)))) ≡ rest_lines fresh (lines (x ∷ bs))) (sym e)
    (rest_lines-break fresh (lines bs) (rest_lines-again true bs)))
    (λ ne. rw (lines-on b bs ne, rest_lines-on fresh b (lines bs) ne, concat-onto b (rest_lines false (lines bs)))
    (lines-on b (concat (rest_lines false (lines bs))) ne ∙ ap (onto b) (rest_lines-again false bs)))
    (cases_eq b 10)

field_lines-head : (ls : List (List ℕ)) → field_lines (head_lines ls) ≡ field_lines ls
field_lines-head [] = refl
field_lines-head (line ∷ rest) = ⊎_elim
    (λ empty. (let head : head_lines (line ∷ rest) ≡ line ∷ [] = rw empty refl in
    let one : field_lines (line ∷ []) ≡ [] = rw empty refl in
    let none : field_lines (line ∷ rest) ≡ [] = rw empty refl in
    ap field_lines head ∙ one ∙ sym none))
    (λ full. (let head : head_lines (line ∷ rest) ≡ line ∷ head_lines rest = rw full refl in
    let first : field_lines (line ∷ head_lines rest) ≡ line ∷ field_lines (head_lines rest) = rw full refl in
    let both : field_lines (line ∷ rest) ≡ line ∷ field_lines rest = rw full refl in
    ap field_lines head ∙ first ∙ ap (λ t. line ∷ t) (field_lines-head rest) ∙ sym both))
    (cases_Bool (bytes_eq line (codes "\n")))

-- the fields of a head that an empty line ends make up the head with that line
pub head_again : (mail : List ℕ) → (body_of mail ≡ [] → ⊥) → concat (texts_of (head_of mail)) ++ codes "\n" ≡ head_of mail
head_again mail some = ⊎_elim
    (λ none. absurd (some (ap concat none)))
    (λ w. (let own = field_lines (lines mail) in
    let same : field_lines (lines (head_of mail)) ≡ own = ap field_lines (rest_lines-again true mail) ∙ field_lines-head (lines mail) in
    let texts : texts_of (head_of mail) ≡ folded own = ap (λ ls. map with_newline (folded ls)) same ∙ newlines-there (folded own) (folded-ends own w.1) in
    ap (λ ts. concat ts ++ codes "\n") texts ∙ ap (λ t. t ++ codes "\n") (folded-concat own) ∙ sym w.0))
    (cut (lines mail) (lined mail))

-- a line `From ` at the front of a head is its first field
from_newline : (rest : List ℕ) (texts : List (List ℕ)) → begins_from (with_newline (codes "From " ++ rest) ∷ texts) ≡ true
from_newline rest texts = ⊎_elim
    (λ ends. rw ends refl)
    (λ other. rw other refl)
    (cases_Bool (ends_with nat_eq (codes "From " ++ rest) (codes "\n")))

from_folded : (rest : List ℕ) (texts : List (List ℕ)) → begins_from (map with_newline (with_line (codes "From " ++ rest) texts)) ≡ true
from_folded rest [] = from_newline rest []
from_folded rest (text ∷ texts) = ⊎_elim
    (λ blank. rw blank (from_newline (rest ++ text) (map with_newline texts)))
    (λ other. rw other (from_newline rest (map with_newline (text ∷ texts))))
    (cases_Bool (begins_with_blank text))

from_lines : (ls : List (List ℕ)) → begins_from (map with_newline (folded (field_lines (onto 70 (onto 114 (onto 111 (onto 109 (onto 32 ls)))))))) ≡ true
from_lines [] = refl
from_lines (line ∷ rest) = from_folded line (folded (field_lines rest))

pub from_first : (head : List ℕ) → starts_with nat_eq head (codes "From ") ≡ true → begins_from (texts_of head) ≡ true
from_first head starts =
    let is = (starts_is Decides-eqb head (codes "From ") (starts_with nat_eq head (codes "From ")) refl).0 starts in
    subst (λ t. begins_from (texts_of t) ≡ true) (sym is) (from_lines (lines (drop 5 head)))

-- no line is put before a mail that has one
pub no_line : (edits : Edits) (message : Message) → begins_from (edited_fields edits (texts_of message.head)) ≡ true → sender_for message edits ≡ None
no_line edits message begins = elim edits.keep_from as (λ b. (if b then None else if is_taking edits then None else if begins_from (edited_fields edits (texts_of message.head)) then None else Some (sender_in (texts_of message.head))) ≡ None) [
  | true ↦ refl
  | false ↦ elim (is_taking edits) as (λ b. (if b then None else if begins_from (edited_fields edits (texts_of message.head)) then None else Some (sender_in (texts_of message.head))) ≡ None) [
    | true ↦ refl
    | false ↦ rw begins refl
  ]
]

-- a mail that keeps its fields and its body is written as it stands
pub mail_unchanged : (edits : Edits) (message : Message) (mail : List ℕ) → message ≡ split_of mail → (message.body ≡ [] → ⊥) → edits.takes ≡ []
    → edited_fields edits (texts_of message.head) ≡ texts_of message.head → begins_from (texts_of message.head) ≡ true → Stays edits message.body
    → (moment : ℤ) → edited message edits (line_at moment message edits) ≡ mail
mail_unchanged edits message mail is some takes same begins stays moment =
    let texts = texts_of message.head in
    let none : line_at moment message edits ≡ None = ap (option_map (λ who. from_line_of who moment)) (no_line edits message (rw same begins)) in
    let head : concat texts ++ codes "\n" ≡ message.head = subst (λ m. (m.body ≡ [] → ⊥) → concat (texts_of m.head) ++ codes "\n" ≡ m.head) (sym is) (head_again mail) some in
    let whole : message.head ++ message.body ≡ mail = subst (λ m. m.head ++ m.body ≡ mail) (sym is) ((split_of-is_split mail).whole) in
    let kept : mail_of edits texts message.body None ≡ mail = sym (mail_stays edits texts message.body None stays) ∙ ap (λ t. t ++ message.body) head ∙ whole in
    let written : edited message edits None ≡ mail_of edits texts message.body None = rw (takes, same) refl in
    ap (edited message edits) none ∙ written ∙ kept

pub no_takes : (takes : List Take) → (length takes == 0) ≡ true → takes ≡ []
no_takes [] e = refl
no_takes (wanted ∷ takes) e = absurd (omega (arith, eqb-true (length (wanted ∷ takes)) 0 e))

pub some_body : (body : List ℕ) → (length body == 0) ≡ false → body ≡ [] → ⊥
some_body [] e is = absurd (false≢true (sym e))
some_body (b ∷ bs) e is = cc
