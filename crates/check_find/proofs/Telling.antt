-- What findings tell, one after the other.
use Rattle.std.proofs.Common.{◌≡◌, ℕ, ◌+◌, ◌<◌, Bool, true, false, if◌then◌else◌, List, [], ◌∷◌, ◌++◌, Option, Some, None, refl, ap, sym, ◌∙◌, length, take, get_or, append_assoc}
use Rattle.std.proofs.lemmas.List.{take_more}
use Rattle.pm_recipe.specs.declared.spans.Span.{Span}
use Rattle.check_find.specs.declared.codes.Code.TheVariants as code
use Rattle.check_find.specs.declared.codes.Fault.{Fault}
use Rattle.check_find.specs.declared.finding.Finding.{Finding}
use Rattle.check_find.specs.Reports.{is_defect, lines_of, Unread, put_unread, told_fault, unread_in, fault_at, unread_of}

pub lines_of-append : (xs ys : List Finding) → lines_of (xs ++ ys) ≡ lines_of xs ++ lines_of ys
lines_of-append [] ys = refl
lines_of-append (x ∷ xs) ys = by (is_defect x.code) (lines_of-append xs ys)
  where
    by : (b : Bool) → lines_of (xs ++ ys) ≡ lines_of xs ++ lines_of ys
        → (if b then x.line ∷ lines_of (xs ++ ys) else lines_of (xs ++ ys)) ≡ (if b then x.line ∷ lines_of xs else lines_of xs) ++ lines_of ys
    by true e = ap (λ l. x.line ∷ l) e
    by false e = e

put-append : (line first : ℕ) (fault : Option Fault) (xs ys : List Unread) → put_unread line first fault (xs ++ ys) ≡ put_unread line first fault xs ++ ys
put-append line first None xs ys = refl
put-append line first (Some fault) xs ys = refl

pub unread_in-append : (xs ys : List Finding) → unread_in (xs ++ ys) ≡ unread_in xs ++ unread_in ys
unread_in-append [] ys = refl
unread_in-append (x ∷ xs) ys =
    ap (put_unread x.line x.first (told_fault x.code)) (unread_in-append xs ys) ∙ put-append x.line x.first (told_fault x.code) (unread_in xs) (unread_in ys)

pub unread_of-append : (xs ys : List Span) → unread_of (xs ++ ys) ≡ unread_of xs ++ unread_of ys
unread_of-append [] ys = refl
unread_of-append (x ∷ xs) ys =
    ap (put_unread x.line x.first (fault_at x.kind x.text.now)) (unread_of-append xs ys)
    ∙ put-append x.line x.first (fault_at x.kind x.text.now) (unread_of xs) (unread_of ys)

-- one span more
pub unread_of-more : (old now new : List Unread) (spans : List Span) (i : ℕ) (d : Span) → i < length spans → now ≡ old ++ unread_of (take i spans)
    → new ≡ now ++ unread_of (get_or spans i d ∷ []) → new ≡ old ++ unread_of (take (i + 1) spans)
unread_of-more old now new spans i d h e k =
    let one = unread_of (get_or spans i d ∷ []) in
    k ∙ ap (λ l. l ++ one) e ∙ append_assoc old (unread_of (take i spans)) one
    ∙ ap (λ l. old ++ l) (sym (ap unread_of (take_more spans i d h) ∙ unread_of-append (take i spans) (get_or spans i d ∷ [])))
