-- What stands alone in a mailbox, and how mailboxes are joined.
use Rattle.std.proofs.Common.{◌≡◌, ◌⊎◌, inl, inr, ℕ, suc, ◌<◌, Bool, true, false, ◌==◌, ◌&&◌, nat_eq, List, [], ◌∷◌, ◌++◌, length, take, drop, refl, sym, ◌∙◌, ap, subst, ⊎_elim, arith, codes, append_assoc, append-nil, not, if◌then◌else◌}
use Rattle.std.proofs.lemmas.Bool.{cases_eq, ne_eqb, false≢true}
use Rattle.std.proofs.lemmas.Bool.Decides.{Decides-eqb}
use Rattle.std.proofs.lemmas.Slice.Eq.{starts_is}
use Rattle.std.specs.List.{starts_with, concat}
use Rattle.std.specs.Prelude.{bytes_eq, All}
use Rattle.pm_message.specs.Lines.{onto, lines}
use Rattle.pm_message.specs.FromLine.{has_from_line, without_line}
use Rattle.pm_message.specs.Date.{date_of, moved}
use Rattle.pm_message.specs.declared.renewal.Renew.TheVariants.{Keep, AddMissing, Sender, Date}
use Rattle.pm_message.specs.Piece.{escaped, escaped_chosen, ended, piece_of}
use Rattle.pm_message.specs.Split.{head_of, body_of, split_of, EndsEmpty}
use Rattle.pm_message.specs.declared.pieces.Feed.{Feed}
use Rattle.pm_message.specs.declared.pieces.Feed.TheVariants.{Both, Head, Body}
use Rattle.pm_message.specs.declared.pieces.Kind.TheVariants.{MailboxFile}
use Rattle.pm_message.proofs.LineLemmas.{lines-break, lines-on}
use Rattle.pm_message.proofs.HeadLemmas.{head_len, head_len-first, head_len-break, head_len-on, head_at, body_at}
use Rattle.formail_edit.proofs.EmptyLines.{Filled}
use Rattle.formail_split.specs.Parts.{comes_from_line, in_first, parts_of_lines, parts_of}
use Rattle.formail_split.specs.Mailboxes.{IsBetween, StandsAlone, IsDelivered, PiecesStandAlone, DeliveriesAddOne, DeliveriesAreMails, ReadyMailsHaveLines}
use Rattle.formail_split.proofs.PartLemmas.{from_line-text}
use Rattle.formail_split.proofs.Quiet.{sign, Quiet, Calm, one_part, quiet-calm, quiet-filled, quiet-tail, is_ended, IsEnded, Shields, calm-shielded}

-- lines that an empty one ends, and others after it
onto-append : (b : ℕ) (xs ys : List (List ℕ)) → (xs ≡ [] → ⊥) → onto b (xs ++ ys) ≡ onto b xs ++ ys
onto-append b [] ys some = absurd (some refl)
onto-append b (x ∷ xs) ys some = refl

onto_some : (b : ℕ) (ls : List (List ℕ)) → onto b ls ≡ [] → ⊥
onto_some b [] e = cc
onto_some b (l ∷ ls) e = cc

lines_some : (b : ℕ) (bs : List ℕ) → lines (b ∷ bs) ≡ [] → ⊥
lines_some b bs none = ⊎_elim
    (λ e. (let h : (b ∷ []) ∷ lines bs ≡ [] = sym (lines-break b bs e) ∙ none in cc))
    (λ ne. onto_some b (lines bs) (sym (lines-on b bs ne) ∙ none))
    (cases_eq b 10)

closed_some : (before : List ℕ) → lines (before ++ codes "\n") ≡ [] → ⊥
closed_some [] = lines_some 10 []
closed_some (b ∷ before) = lines_some b (before ++ codes "\n")

lines-append : (before more : List ℕ) → lines ((before ++ codes "\n") ++ more) ≡ lines (before ++ codes "\n") ++ lines more
lines-append [] more = refl
lines-append (b ∷ before) more =
    let later = lines-append before more in
    let text : List ℕ = before ++ codes "\n" in
    ⊎_elim
    (λ e. lines-break b (text ++ more) e ∙ ap (λ ls. (b ∷ []) ∷ ls) later ∙ sym (ap (λ ls. ls ++ lines more) (lines-break b text e)))
    (λ ne. lines-on b (text ++ more) ne ∙ ap (onto b) later ∙ onto-append b (lines text) (lines more) (closed_some before)
    ∙ sym (ap (λ ls. ls ++ lines more) (lines-on b text ne)))
    (cases_eq b 10)

-- a mail begins after an empty line where a line `From ` follows

in_first-append : (line : List ℕ) (xs ys : List (List ℕ)) → (xs ≡ [] → ⊥) → in_first line (xs ++ ys) ≡ in_first line xs ++ ys
in_first-append line [] ys some = absurd (some refl)
in_first-append line (x ∷ xs) ys some = refl

choose-append : (cut : Bool) (line : List ℕ) (xs ys : List (List ℕ)) → (xs ≡ [] → ⊥) → (if cut then line ∷ (xs ++ ys) else in_first line (xs ++ ys)) ≡ (if cut then line ∷ xs else in_first line xs) ++ ys
choose-append true line xs ys some = refl
choose-append false line xs ys some = in_first-append line xs ys some

choose_some : (cut : Bool) (line : List ℕ) (xs : List (List ℕ)) → (if cut then line ∷ xs else in_first line xs) ≡ [] → ⊥
choose_some true line xs e = cc
choose_some false line [] e = cc
choose_some false line (x ∷ xs) e = cc

parts_some : (ls : List (List ℕ)) → parts_of_lines (ls ++ codes "\n" ∷ []) ≡ [] → ⊥
parts_some [] e = cc
parts_some (l ∷ ls) e =
    choose_some (bytes_eq l (codes "\n") && comes_from_line (ls ++ codes "\n" ∷ [])) l (parts_of_lines (ls ++ codes "\n" ∷ [])) e

comes_same : (ls ms : List (List ℕ)) → comes_from_line (ls ++ codes "\n" ∷ ms) ≡ comes_from_line (ls ++ codes "\n" ∷ [])
comes_same [] ms = refl
comes_same (l ∷ ls) ms = refl

parts-append : (ls ms : List (List ℕ)) → comes_from_line ms ≡ true → parts_of_lines (ls ++ codes "\n" ∷ ms) ≡ parts_of_lines (ls ++ codes "\n" ∷ []) ++ parts_of_lines ms
parts-append [] ms from = ap (λ b. if b then codes "\n" ∷ parts_of_lines ms else in_first (codes "\n") (parts_of_lines ms)) from
parts-append (l ∷ ls) ms from =
    let here : List (List ℕ) = ls ++ codes "\n" ∷ [] in
    ap (λ b. if bytes_eq l (codes "\n") && b then l ∷ parts_of_lines (ls ++ codes "\n" ∷ ms) else in_first l (parts_of_lines (ls ++ codes "\n" ∷ ms))) (comes_same ls ms)
    ∙ ap (λ ps. if bytes_eq l (codes "\n") && comes_from_line here then l ∷ ps else in_first l ps) (parts-append ls ms from)
    ∙ choose-append (bytes_eq l (codes "\n") && comes_from_line here) l (parts_of_lines here) (parts_of_lines ms) (parts_some ls)

two_lines : (before more : List ℕ) → lines ((before ++ codes "\n\n") ++ more) ≡ lines (before ++ codes "\n") ++ codes "\n" ∷ lines more
two_lines before more =
    ap (λ t. lines (t ++ more)) (sym (append_assoc before (codes "\n") (codes "\n")))
    ∙ ap lines (append_assoc (before ++ codes "\n") (codes "\n") more)
    ∙ lines-append before (codes "\n" ++ more)

-- what begins with a line `From ` after an empty line begins a mail
pub joined_parts : (box more : List ℕ) → IsBetween box → has_from_line more ≡ true → parts_of (box ++ more) ≡ parts_of box ++ parts_of more
joined_parts box more between from =
    let comes : comes_from_line (lines more) ≡ true = from_line-text more ∙ from in
    ⊎_elim
    (λ none. subst (λ b. parts_of (b ++ more) ≡ parts_of b ++ parts_of more) (sym none) refl)
    (λ empty. ⊎_elim
    (λ is. subst (λ b. parts_of (b ++ more) ≡ parts_of b ++ parts_of more) (sym is) (parts-append [] (lines more) comes))
    (λ w. (let ls : List (List ℕ) = lines (w.0 ++ codes "\n") in
    let alone : lines (w.0 ++ codes "\n\n") ≡ ls ++ codes "\n" ∷ [] = ap lines (sym (append-nil (w.0 ++ codes "\n\n"))) ∙ two_lines w.0 [] in
    subst (λ b. parts_of (b ++ more) ≡ parts_of b ++ parts_of more) (sym w.1)
    (ap parts_of_lines (two_lines w.0 more) ∙ parts-append ls (lines more) comes ∙ sym (ap (λ t. parts_of_lines t ++ parts_of more) alone))))
    empty)
    between

ends_after : (box text : List ℕ) → IsBetween box → EndsEmpty text → IsBetween (box ++ text)
ends_after box text between ends = ⊎_elim
    (λ is. ⊎_elim
    (λ none. inr (inl (ap (λ b. b ++ text) none ∙ is)))
    (λ empty. inr (inr (⊎_elim
    (λ one. ([], ap (λ b. b ++ text) one ∙ ap (λ t. codes "\n" ++ t) is))
    (λ w. (w.0 ++ codes "\n", ap (λ b. b ++ text) w.1 ∙ ap (λ t. (w.0 ++ codes "\n\n") ++ t) is ∙ append_assoc w.0 (codes "\n\n") (codes "\n") ∙ sym (append_assoc w.0 (codes "\n") (codes "\n\n"))))
    empty)))
    between)
    (λ w. inr (inr (box ++ w.0, ap (λ t. box ++ t) w.1 ∙ sym (append_assoc box w.0 (codes "\n\n")))))
    ends

pub one_more : (box text : List ℕ) → IsBetween box → StandsAlone text → (parts_of (box ++ text) ≡ parts_of box ++ text ∷ []) × IsBetween (box ++ text)
one_more box text between alone = (
  joined_parts box text between alone.begins ∙ ap (λ ps. parts_of box ++ ps) alone.one,
  ends_after box text between alone.ends,
)

all_first : (P : List ℕ → Type 0) (text : List ℕ) (texts : List (List ℕ)) → All P (text ∷ texts) → P text
all_first P text texts all = all 0 text (omega arith)

all_rest : (P : List ℕ → Type 0) (text : List ℕ) (texts : List (List ℕ)) → All P (text ∷ texts) → All P texts
all_rest P text texts all = λ k d less. all (suc k) d (omega (arith, less))

-- each text of this kind is one mail more
abbrev pub AddsOne : (List ℕ → Type 0) → Type 0
AddsOne P = (box text : List ℕ) → IsBetween box → P text → (parts_of (box ++ text) ≡ parts_of box ++ text ∷ []) × IsBetween (box ++ text)

-- so several of them are the mails of what they make up
pub texts_are_mails : (P : List ℕ → Type 0) → AddsOne P → (box : List ℕ) (texts : List (List ℕ)) → IsBetween box → All P texts → parts_of (box ++ concat texts) ≡ parts_of box ++ texts
texts_are_mails P adds box [] between all = ap parts_of (append-nil box) ∙ sym (append-nil (parts_of box))
texts_are_mails P adds box (text ∷ texts) between all =
    let more = adds box text between (all_first P text texts all) in
    ap parts_of (sym (append_assoc box text (concat texts)))
    ∙ texts_are_mails P adds (box ++ text) texts more.1 (all_rest P text texts all)
    ∙ ap (λ ps. ps ++ texts) more.0
    ∙ append_assoc (parts_of box) (text ∷ []) texts

-- a head has no empty line but the one that ends it
record HasHead (fresh : Bool) (bs : List ℕ) : Type 0 where
  pub front : List ℕ
  pub filled : Filled fresh front
  pub ends : ((take (head_len fresh bs) bs ≡ front) × (drop (head_len fresh bs) bs ≡ [])) ⊎ (take (head_len fresh bs) bs ≡ front ++ codes "\n")

head_on : (fresh next : Bool) (b : ℕ) (bs : List ℕ) → head_len fresh (b ∷ bs) ≡ suc (head_len next bs) → (fresh ≡ true → b ≡ 10 → ⊥) → (b == 10) ≡ next → HasHead next bs → HasHead fresh (b ∷ bs)
head_on fresh next b bs len first is later = record {
  front = b ∷ later.front;
  filled = (first, subst (λ x. Filled x later.front) (sym is) later.filled);
  ends = subst (λ (n : ℕ). ((take n (b ∷ bs) ≡ b ∷ later.front) × (drop n (b ∷ bs) ≡ [])) ⊎ (take n (b ∷ bs) ≡ (b ∷ later.front) ++ codes "\n")) (sym len)
      (⊎_elim (λ w. inl (ap (λ t. b ∷ t) w.0, w.1)) (λ w. inr (ap (λ t. b ∷ t) w)) later.ends);
}

head_first : (b : ℕ) (bs : List ℕ) → b ≡ 10 → HasHead true (b ∷ bs)
head_first b bs e = record {
  front = [];
  filled = tt;
  ends = subst (λ (n : ℕ). ((take n (b ∷ bs) ≡ []) × (drop n (b ∷ bs) ≡ [])) ⊎ (take n (b ∷ bs) ≡ [] ++ codes "\n")) (sym (head_len-first b bs e)) (inr (ap (λ x. x ∷ []) e));
}

has_head : (fresh : Bool) (bs : List ℕ) → HasHead fresh bs
has_head true [] = record { front = []; filled = tt; ends = inl (refl, refl) }
has_head false [] = record { front = []; filled = tt; ends = inl (refl, refl) }
has_head true (b ∷ bs) = ⊎_elim
    (λ e. head_first b bs e)
    (λ ne. head_on true false b bs (head_len-on true b bs ne) (λ _. ne) (ne_eqb b 10 ne) (has_head false bs))
    (cases_eq b 10)
has_head false (b ∷ bs) = ⊎_elim
    (λ e. head_on false true b bs (head_len-break b bs e) (λ t. absurd (false≢true t)) (ap (λ x. x == 10) e) (has_head true bs))
    (λ ne. head_on false false b bs (head_len-on false b bs ne) (λ _. ne) (ne_eqb b 10 ne) (has_head false bs))
    (cases_eq b 10)

-- what procmail puts before a line of a body
escape_shields : Shields (codes ">")
escape_shields = record { lacks = ((λ e. cc), tt); keeps = refl }

calm_escaped : (body : List ℕ) → Calm true (escaped body)
calm_escaped body = calm-shielded (codes ">") body escape_shields

-- no mail begins within what is wanted of a mail, once it is escaped
quiet_escaped : (mail : List ℕ) (feed : Feed) → Quiet true (escaped_chosen (split_of mail) feed)
quiet_escaped mail Body = quiet-calm true true (escaped (body_of mail)) (calm_escaped (body_of mail))
quiet_escaped mail Head =
    let head : HasHead true mail = has_head true mail in
    let is : take (head_len true mail) mail ≡ head_of mail = head_at mail (head_len true mail) refl in
    subst (Quiet true) is (⊎_elim
    (λ w. subst (Quiet true) (append-nil head.front ∙ sym w.0) (quiet-filled true head.front [] head.filled tt))
    (λ w. subst (Quiet true) (sym w) (quiet-filled true head.front (codes "\n") head.filled ((λ _. refl), tt)))
    head.ends)
quiet_escaped mail Both =
    let head : HasHead true mail = has_head true mail in
    let is : take (head_len true mail) mail ≡ head_of mail = head_at mail (head_len true mail) refl in
    let rest : drop (head_len true mail) mail ≡ body_of mail = body_at mail (head_len true mail) refl in
    subst (λ h. Quiet true (h ++ escaped (body_of mail))) is (⊎_elim
    (λ w. (let none : escaped (body_of mail) ≡ [] = ap escaped (sym rest ∙ w.1) in
    subst (λ e. Quiet true (take (head_len true mail) mail ++ e)) (sym none)
    (subst (λ h. Quiet true (h ++ [])) (sym w.0) (quiet-filled true head.front [] head.filled tt))))
    (λ w. subst (λ h. Quiet true (h ++ escaped (body_of mail))) (sym w)
    (subst (Quiet true) (sym (append_assoc head.front (codes "\n") (escaped (body_of mail))))
    (quiet-filled true head.front (codes "\n" ++ escaped (body_of mail)) head.filled ((λ _. refl), calm_escaped (body_of mail)))))
    head.ends)

-- a text that begins with a line `From `, in which no mail begins, stands alone once it is ended
some_text : (text : List ℕ) → has_from_line text ≡ true → 0 < length text
some_text [] from = absurd (false≢true from)
some_text (b ∷ text) from = omega arith

pub from_more : (text tail : List ℕ) → has_from_line text ≡ true → has_from_line (text ++ tail) ≡ true
from_more text tail from =
    let is = (starts_is Decides-eqb text sign (starts_with nat_eq text sign) refl).0 from in
    ap (λ t. has_from_line (t ++ tail)) is

pub ended_alone : (text : List ℕ) → has_from_line text ≡ true → Quiet true text → StandsAlone (ended text)
ended_alone text from quiet =
    let e : IsEnded text = is_ended text in
    let begun : has_from_line (ended text) ≡ true = ap has_from_line e.whole ∙ from_more text e.tail from in
    record {
      begins = begun;
      one = one_part (ended text) (some_text (ended text) begun) (subst (Quiet true) (sym e.whole) (quiet-tail true text e.tail quiet e.newlines));
      ends = inr (e.before, e.ends);
    }

-- the head of a mail begins as it does
head_begins : (mail : List ℕ) → has_from_line mail ≡ true → has_from_line (head_of mail) ≡ true
head_begins mail from =
    let is = (starts_is Decides-eqb mail sign (starts_with nat_eq mail sign) refl).0 from in
    let at : take (head_len true mail) mail ≡ head_of mail = head_at mail (head_len true mail) refl in
    sym (ap has_from_line at) ∙ ap (λ t. has_from_line (take (head_len true t) t)) is

chosen_begins : (mail : List ℕ) (feed : Feed) → (feed ≡ Body → ⊥) → has_from_line mail ≡ true → has_from_line (escaped_chosen (split_of mail) feed) ≡ true
chosen_begins mail Both headed from = from_more (head_of mail) (escaped (body_of mail)) (head_begins mail from)
chosen_begins mail Head headed from = head_begins mail from
chosen_begins mail Body headed from = absurd (headed refl)

not_empty : (text : List ℕ) → has_from_line text ≡ true → bytes_eq text [] ≡ false
not_empty [] from = absurd (false≢true from)
not_empty (b ∷ text) from = refl

pub pieces_stand_alone : PiecesStandAlone
pieces_stand_alone piece delivered =
    let text : List ℕ = escaped_chosen (split_of delivered.mail) delivered.feed in
    let begun : has_from_line text ≡ true = chosen_begins delivered.mail delivered.feed delivered.headed delivered.begins in
    let is : piece_of (split_of delivered.mail) delivered.feed MailboxFile false ≡ ended text = ap (λ b. if b then text else ended text) (not_empty text begun) in
    subst StandsAlone (sym (delivered.appended ∙ is)) (ended_alone text begun (quiet_escaped delivered.mail delivered.feed))

pub deliveries_add_one : PiecesStandAlone → DeliveriesAddOne
deliveries_add_one alone box piece between delivered = one_more box piece between (alone piece delivered)

pub deliveries_are_mails : DeliveriesAddOne → DeliveriesAreMails
deliveries_are_mails adds box pieces between delivered = texts_are_mails IsDelivered adds box pieces between delivered

-- a new line begins so
pub ready_mails_have_lines : ReadyMailsHaveLines
ready_mails_have_lines bytes logname Keep moment changed = absurd (changed refl)
ready_mails_have_lines bytes logname (Sender who) moment changed = refl
ready_mails_have_lines bytes logname Date moment changed = refl
ready_mails_have_lines bytes logname AddMissing moment changed = added bytes (logname ++ codes " " ++ date_of (moved moment) ++ codes "\n") (has_from_line bytes) refl
  where
    added : (bytes line : List ℕ) (from : Bool) → has_from_line bytes ≡ from → has_from_line (if not from then (codes "From " ++ line) ++ without_line bytes else bytes) ≡ true
    added bytes line true is = is
    added bytes line false is = refl
