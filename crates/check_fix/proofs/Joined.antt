-- Edits that calls put one after the other.
use Rattle.std.proofs.Common.{ℕ, List, ◌++◌, ◌≡◌, ap, codes, ◌∙◌, append_assoc}
use Rattle.check_fix.specs.Calls.{call_edits, header_edits, replied_by, reply_edits}
use Rattle.check_fix.specs.declared.edits.Edit.{Edit}

-- after two calls
two_put : (before first all one other : List Edit) → first ≡ before ++ one → all ≡ first ++ other
    → all ≡ before ++ (one ++ other)
two_put before first all one other e f =
    f ∙ (ap (λ (done : List Edit). done ++ other) e ∙ append_assoc before one other)

-- after the four calls for a header
pub header_put : (first : ℕ) (text : List ℕ) (before one two three all : List Edit)
    → one ≡ before ++ call_edits first text (codes " formail -X \"\"") (codes " sed -e '/^$/q'")
    → two ≡ one ++ call_edits first text (codes " formail -X ''") (codes " sed -e '/^$/q'")
    → three ≡ two ++ call_edits first text (codes " $FORMAIL -X \"\"") (codes " sed -e '/^$/q'")
    → all ≡ three ++ call_edits first text (codes " $FORMAIL -X ''") (codes " sed -e '/^$/q'")
    → all ≡ before ++ header_edits first text
header_put first text before one two three all e f g h =
    two_put before one all _ _ e (two_put one two all _ _ f (two_put two three all _ _ g h))

-- after the three calls for a reply
pub reply_put : (first : ℕ) (text : List ℕ) (before one two all : List Edit)
    → one ≡ before ++ replied_by first text (codes "formail")
    → two ≡ one ++ replied_by first text (codes "$FORMAIL")
    → all ≡ two ++ replied_by first text (codes "${FORMAIL}")
    → all ≡ before ++ reply_edits first text
reply_put first text before one two all e f g = two_put before one all _ _ e (two_put one two all _ _ f g)
