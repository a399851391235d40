-- What is seen in a cache with more bytes at its end, and what is marked then.
use Rattle.std.proofs.Common.{◌≡◌, ◌≤◌, ◌==◌, ◌-◌, ℕ, Bool, true, false, ◌||◌, Option, Some, None, option_map, List, [], ◌∷◌, ◌++◌, length, length-append, take, drop, take_all, take-append-drop, codes, slice_index, refl, sym, ap, subst, ◌∙◌, inl, inr, arith, le_refl, if◌then◌else◌}
use Rattle.std.specs.Prelude.{nat_eq}
use Rattle.std.specs.List.{ends_with, list_any}
use Rattle.std.proofs.Math.Seq.{take-nil, take-append_seam}
use Rattle.std.proofs.lemmas.Bool.{eqb-true}
use Rattle.std.proofs.lemmas.Bool.Decides.{Decides-eqb}
use Rattle.std.proofs.lemmas.List.Folds.{list_any-append}
use Rattle.std.proofs.lemmas.Slice.Eq.{ends_is}
use Rattle.bstr.proofs.lemmas.LineLemmas.{EndsLine, lines-append}
use Rattle.bstr.specs.Text.{lines_of}
use Rattle.pm_message.specs.Lines.{lines}
use Rattle.pm_message.proofs.LineLemmas.{lines_of-lines}
use Rattle.formail_extra.specs.Cache.{is_line_of, is_seen, line_end_of, longest_front}
use Rattle.formail_extra.specs.Marks.{mark_on, IsClear, MarksSeen}
use Rattle.formail_extra.specs.declared.marks.Marks.{Marks}

at_seam : (front : List ℕ) → slice_index (front ++ codes "\n") (length front) ≡ 10
at_seam [] = refl
at_seam (b ∷ front) = at_seam front

at_end : (front : List ℕ) → slice_index (front ++ codes "\n") (length (front ++ codes "\n") - 1) ≡ 10
at_end front =
    let place : length (front ++ codes "\n") - 1 ≡ length front = omega (arith, length-append front (codes "\n")) in
    ap (slice_index (front ++ codes "\n")) place ∙ at_seam front

closed : (ended : Bool) → (if ended then [] else codes "\n") ≡ [] → ended ≡ true
closed true e = refl
closed false e = cc

-- bytes whose last line is ended
ends_line : (before : List ℕ) → line_end_of before ≡ [] → EndsLine before
ends_line [] e = inl refl
ends_line (b ∷ rest) e =
    let bytes = b ∷ rest in
    let cut : bytes ≡ take (length bytes - length (codes "\n")) bytes ++ codes "\n" =
    (ends_is Decides-eqb bytes (codes "\n") (ends_with nat_eq bytes (codes "\n")) refl).0 (closed (ends_with nat_eq bytes (codes "\n")) e) in
    inr (subst (λ l. slice_index l (length l - 1) ≡ 10) (sym cut) (at_end (take (length bytes - length (codes "\n")) bytes)))

lines_after : (before added : List ℕ) → line_end_of before ≡ [] → lines (before ++ added) ≡ lines before ++ lines_of added
lines_after before added e =
    sym (lines_of-lines (before ++ added))
    ∙ lines-append (length before) before added (le_refl (length before)) (ends_line before e)
    ∙ ap (λ l. l ++ lines_of added) (lines_of-lines before)

-- what is added to lines that are ended is seen as well
seen_after : (before added id : List ℕ) → line_end_of before ≡ [] → length (before ++ added) ≤ longest_front
    → is_seen (before ++ added) id ≡ (is_seen before id || list_any (is_line_of id) (lines_of added))
seen_after before added id e few =
    let short : length before ≤ longest_front = omega (arith, length-append before added, few) in
    ap (λ l. list_any (is_line_of id) (lines l)) (take_all longest_front (before ++ added) few)
    ∙ ap (list_any (is_line_of id)) (lines_after before added e)
    ∙ list_any-append (is_line_of id) (lines before) (lines_of added)
    ∙ ap (λ l. list_any (is_line_of id) (lines l) || list_any (is_line_of id) (lines_of added)) (sym (take_all longest_front before short))

-- one mark, once more lines were marked
still_marked : (old new : Option Bool) (seen more : Bool) → new ≡ option_map (λ was. was || more) old → ((was : Bool) → old ≡ Some was → was ≡ seen)
    → (is : Bool) → new ≡ Some is → is ≡ (seen || more)
still_marked None new seen more e h is n = cc
still_marked (Some was) new seen more e h is n =
    let same : is ≡ (was || more) = cc in same ∙ ap (λ b. b || more) (h was refl)

none_of : (bytes : List ℕ) → (length bytes == 0) ≡ true → bytes ≡ []
none_of [] e = refl
none_of (b ∷ bytes) e = absurd (omega (arith, eqb-true (length (b ∷ bytes)) 0 e))

marks_both : (old new : Marks) (before added : List ℕ) → line_end_of before ≡ [] → length (before ++ added) ≤ longest_front → MarksSeen old before
    → ((id : List ℕ) → mark_on new id ≡ option_map (λ was. was || list_any (is_line_of id) (lines_of added)) (mark_on old id)) → MarksSeen new (before ++ added)
marks_both old new before added e few right more = record {
  each = λ id is n.
      still_marked (mark_on old id) (mark_on new id) (is_seen before id) (list_any (is_line_of id) (lines_of added)) (more id) (right.each id) is n
      ∙ sym (seen_after before added id e few);
}

-- marks by the front of some bytes, whose last line is ended, are marks by all of them once the lines behind are marked
pub marks_after : (old new : Marks) (bytes before added end : List ℕ) (at : ℕ) → before ≡ take at bytes → added ≡ drop at bytes
    → end ≡ line_end_of before → (length end == 0) ≡ true → length bytes ≤ longest_front → MarksSeen old (take at bytes)
    → ((id : List ℕ) → mark_on new id ≡ option_map (λ was. was || list_any (is_line_of id) (lines_of added)) (mark_on old id)) → MarksSeen new bytes
marks_after old new bytes before added end at front back is none few right more =
    let whole : before ++ added ≡ bytes = ap (λ l. l ++ added) front ∙ ap (λ l. take at bytes ++ l) back ∙ take-append-drop at bytes in
    subst (MarksSeen new) whole
    (marks_both old new before added (sym is ∙ none_of end none) (subst (λ l. length l ≤ longest_front) (sym whole) few) (subst (MarksSeen old) (sym front) right) more)

-- marks that are put anew are by the bytes whose lines were marked
pub marks_anew : (old new : Marks) (bytes front : List ℕ) → front ≡ take longest_front bytes → IsClear old
    → ((id : List ℕ) → mark_on new id ≡ option_map (λ was. was || list_any (is_line_of id) (lines_of front)) (mark_on old id)) → MarksSeen new bytes
marks_anew old new bytes front is clear more = record {
  each = λ id marks n.
      still_marked (mark_on old id) (mark_on new id) false (list_any (is_line_of id) (lines_of front)) (more id) (clear id) marks n
      ∙ ap (list_any (is_line_of id)) (lines_of-lines front ∙ ap lines is);
}

-- nothing is seen in no bytes
pub marks_none : (marks : Marks) (bytes : List ℕ) → bytes ≡ [] → IsClear marks → MarksSeen marks bytes
marks_none marks bytes none clear = record {
  each = λ id was is.
      clear id was is
      ∙ sym (ap (λ l. list_any (is_line_of id) (lines l)) (take-nil longest_front))
      ∙ sym (ap (λ l. is_seen l id) none);
}

-- marks by bytes that are the front of others
pub marks_front : (marks : Marks) (old new added : List ℕ) (at : ℕ) → new ≡ old ++ added → at ≡ length old → MarksSeen marks old → MarksSeen marks (take at new)
marks_front marks old new added at is place right =
    subst (MarksSeen marks) (sym (ap (take at) is ∙ ap (λ n. take n (old ++ added)) place ∙ take-append_seam old added)) right

-- a mark says what was seen
pub mark_right : (marks : Marks) (bytes id : List ℕ) (was : Bool) → MarksSeen marks bytes → Some was ≡ mark_on marks id → was ≡ is_seen bytes id
mark_right marks bytes id was right is = right.each id was (sym is)
