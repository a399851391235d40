-- Conditions, part by part (procmailrc(5), procmailsc(5)).
use Rattle.std.specs.Prelude.{ℕ, Bool, List, [], ◌∷◌, ◌≡◌, Option, Some, None, true, false, codes, pos, neg_ℤ}
use Rattle.pm_regex.proofs.CountOf.{count_of}
use Rattle.pm_regex.proofs.FoundOrNot.{found_of}
use Rattle.pm_regex.specs.declared.found.Found.{Found}
use Rattle.pm_message.specs.declared.areas.Place.TheVariants.{H, B, Hb}
use Rattle.pm_message.specs.declared.head.Message.{Message}
use Rattle.pm_recipe.specs.Letters.{no_flags}
use Rattle.pm_recipe.specs.declared.tree.Flags.{Flags}
use Rattle.pm_recipe.specs.declared.tree.Weight.TheVariants as weight
use Rattle.pm_regex.specs.Re.{Whole}
use Rattle.pm_vars.specs.Table.{Table}
use Rattle.pm_vars.specs.Variables.{Variable}
use Rattle.pm_meaning.specs.Evaluating.{course_of, exited, is_expanded, is_program, is_weighted, judged_one, number_between, question_by, test_outcome, with_score}
use Rattle.pm_meaning.specs.Leads.{Asking, asked, unasked}
use Rattle.pm_meaning.specs.Searching.{Sight, area_in, expression_of, found_outcome, input_in, match_in, match_text, search_outcome, sight_of}
use Rattle.pm_meaning.specs.Weighing.{count_in, counted_outcome, end_at, end_of_all, weighed_search}
use Rattle.pm_meaning.specs.declared.question.Factors.{Factors}
use Rattle.pm_meaning.specs.declared.question.Outcome.{Outcome}
use Rattle.pm_meaning.specs.declared.question.Outcome.TheVariants.{Compared, Counted, Defective, Exited, Fails, Holds, Matched, TooLong}
use Rattle.pm_meaning.specs.declared.question.Question.{Question}
use Rattle.pm_meaning.specs.declared.question.Scope.{Scope}
use Rattle.pm_meaning.specs.declared.question.Scope.TheVariants.{Flags as ByFlags, Mail, Variable as Value}
use Rattle.pm_meaning.specs.declared.question.Judgement.TheVariants as verdict

-- a mail with a folded field
abbrev pub a_mail : Message
a_mail = record { head = codes "A: b\n c\n\n"; body = codes "hi\n" }

-- variables
abbrev pub table : List Variable → Table
table variables = record { variables = variables; arguments = []; marks = record { pid = 1; code = 0; score = pos 0; rcfile = [] } }

abbrev pub a_variable : Variable
a_variable = record { name = codes "V"; value = codes "xyz" }

abbrev pub match_variable : Variable
match_variable = record { name = codes "MATCH"; value = codes "m" }

abbrev pub vars : Table
vars = table (a_variable ∷ [])

abbrev pub with_m : Table
with_m = table (a_variable ∷ match_variable ∷ [])

-- what a condition sees under these flags
abbrev pub seen : Flags → Sight
seen flags = sight_of flags a_mail vars

abbrev pub body_flag : Flags
body_flag = record no_flags { search_body = true }

abbrev pub both_flags : Flags
both_flags = record no_flags { search_head = true; search_body = true }

-- a question without a weight
abbrev pub question : Bool → Scope → Question
question inverted scope = record { weight = None; inverted = inverted; scope = scope }

-- what is asked by a text
abbrev pub asking : Bool → Scope → List ℕ → Asking
asking inverted scope text = record { text = text; question = question inverted scope }

abbrev pub asks : List ℕ → Asking
asks text = asked (unasked None text)

-- what comes of a text without flags, and of one with the weight 3^2
abbrev pub comes : List ℕ → Outcome
comes text = test_outcome (asks text) (seen no_flags)

abbrev pub factors : Factors
factors = record { w = pos 3; x = 2 }

abbrev pub weighed : List ℕ → Outcome
weighed text = test_outcome (asked (unasked (Some factors) text)) (seen no_flags)

-- a match from the place 1 to the place 4, without a `\/` and with one
abbrev pub found : Option ℕ → Found
found cut = record { start = 1; cut = cut; end = 4 }

-- what stands before the test, and where is looked
pub record OfLeads : Type 0 where
  pub plain : asks (codes "^x") ≡ asking false ByFlags (codes "^x")
  -- `!` inverts, and a second one too
  pub bang : asks (codes "! ^x") ≡ asking true ByFlags (codes "^x")
  pub two_bangs : asks (codes "!! x") ≡ asking false ByFlags (codes "x")
  -- a name and `??`: a part of the mail by its letter, or a variable
  pub head : asks (codes "H ?? x") ≡ asking false (Mail H) (codes "x")
  pub body : asks (codes "B??x") ≡ asking false (Mail B) (codes "x")
  pub both : asks (codes "HB ??x") ≡ asking false (Mail Hb) (codes "x")
  pub both_turned : asks (codes "BH ?? x") ≡ asking false (Mail Hb) (codes "x")
  pub value : asks (codes "V_1 \t??  !x") ≡ asking true (Value (codes "V_1")) (codes "x")
  pub small_letter : asks (codes "h ?? x") ≡ asking false (Value (codes "h")) (codes "x")
  pub last_name : asks (codes "!B ?? V ?? x") ≡ asking true (Value (codes "V")) (codes "x")
  -- one question mark and a name alone are parts of an expression
  pub one_mark : asks (codes "B ? x") ≡ asking false ByFlags (codes "B ? x")
  pub no_name : asks (codes "1 ?? x") ≡ asking false ByFlags (codes "1 ?? x")
  -- `$` expands what follows, and `?` runs it
  pub dollar : is_expanded (codes "$x") ≡ true
  pub no_dollar : is_expanded (codes "x$") ≡ false
  pub mark : is_program (codes "? x") ≡ true
  pub no_mark : is_program (codes "x?") ≡ false
  -- the head is searched unless the flags say otherwise; a folded field is one line, and the empty line isn't searched
  pub by_no_flag : area_in ByFlags (seen no_flags) ≡ codes "A: b c\n"
  pub by_b : area_in ByFlags (seen body_flag) ≡ codes "hi\n"
  pub by_h_and_b : area_in ByFlags (seen both_flags) ≡ codes "A: b c\n\nhi\n"
  pub by_name : area_in (Mail B) (seen no_flags) ≡ codes "hi\n"
  pub by_value : area_in (Value (codes "V")) (seen no_flags) ≡ codes "xyz"
  pub by_unset : area_in (Value (codes "U")) (seen no_flags) ≡ []
  -- a program gets these bytes as they stand
  pub for_program : input_in ByFlags (seen no_flags) ≡ codes "A: b\n c\n\n"
  pub body_for_program : input_in (Mail B) (seen no_flags) ≡ codes "hi\n"
  pub mail_for_program : input_in ByFlags (seen both_flags) ≡ codes "A: b\n c\n\nhi\n"
  pub value_for_program : input_in (Value (codes "V")) (seen no_flags) ≡ codes "xyz"

-- the test: a size, a program or an expression
pub record OfTests : Type 0 where
  -- the mail has 12 bytes, and a size at the number is neither above it nor below it
  pub above_12 : comes (codes "> 12") ≡ Fails
  pub above_11 : comes (codes "> 11") ≡ Holds
  pub below_12 : comes (codes "< 12") ≡ Fails
  pub below_13 : comes (codes "<13\t") ≡ Holds
  pub not_above_12 : comes (codes "! > 12") ≡ Holds
  pub head_above_6 : comes (codes "H ?? > 6") ≡ Holds
  pub head_above_7 : comes (codes "H ?? > 7") ≡ Fails
  pub body_below_4 : comes (codes "B ?? < 4") ≡ Holds
  pub value_below_4 : comes (codes "V ?? < 4") ≡ Holds
  pub unset_below_1 : comes (codes "U ?? < 1") ≡ Holds
  -- digits and nothing else write a number, in tens
  pub decimal : number_between (codes " 010 ") ≡ Some 10
  pub two_numbers : comes (codes "> 1 2") ≡ Defective
  pub thousands : comes (codes "> 10k") ≡ Defective
  pub plus : comes (codes "! > +1") ≡ Defective
  pub none_at_all : comes (codes "<") ≡ Defective
  -- with a weight a size is compared later, and can't be inverted
  pub weighed_size : weighed (codes "> 5") ≡ Compared factors true 12 5
  pub weighed_below : weighed (codes "< 5") ≡ Compared factors false 12 5
  pub weighed_inverted : weighed (codes "! > 5") ≡ Defective
  pub weighed_defect : weighed (codes "> x") ≡ Defective
  -- a program holds by the code 0
  pub code_0 : exited (question false ByFlags) 0 ≡ Holds
  pub code_1 : exited (question false ByFlags) 1 ≡ Fails
  pub not_code_0 : exited (question true ByFlags) 0 ≡ Fails
  pub not_code_1 : exited (question true ByFlags) 1 ≡ Holds
  pub weighed_code : exited (record { weight = Some factors; inverted = true; scope = ByFlags }) 7 ≡ Exited factors true 7
  -- anything else is an expression; a backslash before its first byte stays
  pub expression : comes (codes "x") ≡ search_outcome false false (codes "A: b c\n") (expression_of (codes "x"))
  pub word_start : comes (codes "!B ?? \\<x") ≡ search_outcome true false (codes "hi\n") (expression_of (codes "\\<x"))
  pub weighed_expression : weighed (codes "x") ≡ weighed_search factors false false (codes "A: b c\n") (expression_of (codes "x"))
  -- under the flag D capitals aren't small letters
  pub distinguished : test_outcome (asks (codes "x")) (seen (record no_flags { distinguish = true })) ≡ search_outcome false true (codes "A: b c\n") (expression_of (codes "x"))
  pub same_case : (e : Whole) (area : List ℕ) → match_in true e area ≡ (found_of false e area).0
  pub both_cases : (e : Whole) (area : List ℕ) → match_in false e area ≡ (found_of true e area).0
  pub same_case_counted : (e : Whole) (area : List ℕ) → count_in true e area ≡ (count_of false e area).0
  pub both_cases_counted : (e : Whole) (area : List ℕ) → count_in false e area ≡ (count_of true e area).0
  -- a text that is no expression is a defect, whatever is inverted
  pub defect : search_outcome true false (codes "a") None ≡ Defective
  pub weighed_no_expression : weighed_search factors true false (codes "a") None ≡ Defective
  -- what was found of it, or not
  pub not_found : found_outcome false (codes "abcde") None ≡ Fails
  pub inverted_not_found : found_outcome true (codes "abcde") None ≡ Holds
  pub is_found : found_outcome false (codes "abcde") (Some (found None)) ≡ Holds
  pub inverted_found : found_outcome true (codes "abcde") (Some (found (Some 2))) ≡ Fails
  -- MATCH gets what stands after the `\/`, without one newline at its front and one at its end
  pub found_with_cut : found_outcome false (codes "abcde") (Some (found (Some 2))) ≡ Matched (codes "cd")
  pub two_newlines : match_text (codes "\n\na\n\n") 0 5 ≡ codes "\na\n"
  pub newline_alone : match_text (codes "a\nb") 1 2 ≡ []
  -- with a weight the matches count; an inverted condition has one where nothing is found
  pub counted : counted_outcome factors false (codes "abcde") (Some (found None)) 7 ≡ Counted factors 7 None
  pub counted_once : counted_outcome factors false (codes "abcde") (Some (found (Some 2))) 0 ≡ Counted factors 1 (Some (codes "cd"))
  pub counted_none : counted_outcome factors false (codes "abcde") None 0 ≡ Counted factors 0 None
  pub inverted_counted : counted_outcome factors true (codes "abcde") (Some (found (Some 2))) 7 ≡ Counted factors 0 None
  pub inverted_counted_none : counted_outcome factors true (codes "abcde") None 0 ≡ Counted factors 1 None

-- what comes of all conditions of a recipe, of which one has the text `c`, and the score was 5
pub record OfJudging : Type 0 where
  -- the question by a condition's weight; one out of its range makes a defect
  pub no_weight : question_by weight.None ≡ Some (question false ByFlags)
  pub some_weight : question_by (weight.Some (pos 3) (pos 2)) ≡ Some (record { weight = Some factors; inverted = false; scope = ByFlags })
  pub bad_weight : question_by weight.Bad ≡ None
  pub exponent_below_zero : question_by (weight.Some (pos 3) (neg_ℤ (pos 2))) ≡ None
  pub weights : is_weighted (record { weight = weight.None; text = codes "c" }) ≡ false
  pub weights_some : is_weighted (record { weight = weight.Some (pos 0) (pos 0); text = codes "c" }) ≡ true
  pub weights_bad : is_weighted (record { weight = weight.Bad; text = codes "c" }) ≡ true
  -- without a weight each condition must hold
  pub holds : judged_one (codes "c") Holds (pos 5) vars ≡ course_of None (pos 5) vars
  pub fails : judged_one (codes "c") Fails (pos 5) vars ≡ course_of (Some verdict.Unmatched) (pos 5) vars
  pub sets_match : judged_one (codes "c") (Matched (codes "m")) (pos 5) vars ≡ course_of None (pos 5) with_m
  -- a defect, and a value that is too long, end the judging
  pub defect : judged_one (codes "c") Defective (pos 5) vars ≡ course_of (Some (verdict.Defective (codes "c"))) (pos 5) vars
  pub too_long : judged_one (codes "c") (TooLong 7) (pos 5) vars ≡ course_of (Some (verdict.TooLong 7)) (pos 5) vars
  -- with the weight 3^2 the first match counts 3, and the second 6
  pub no_match : judged_one (codes "c") (Counted factors 0 None) (pos 5) vars ≡ course_of None (pos 5) vars
  pub one_match : judged_one (codes "c") (Counted factors 1 (Some (codes "m"))) (pos 5) vars ≡ course_of None (pos 8) with_m
  pub two_matches : judged_one (codes "c") (Counted factors 2 None) (pos 5) vars ≡ course_of None (pos 14) vars
  -- a program: 3 for the code 0, and 2 for any other; inverted its code counts as matches
  pub success : judged_one (codes "c") (Exited factors false 0) (pos 5) vars ≡ course_of None (pos 8) vars
  pub failure : judged_one (codes "c") (Exited factors false 9) (pos 5) vars ≡ course_of None (pos 7) vars
  pub inverted_code : judged_one (codes "c") (Exited factors true 2) (pos 5) vars ≡ course_of None (pos 14) vars
  -- a size counts by its share of the number, here twice over and half as long; a number 0 is a defect
  pub twice_as_long : judged_one (codes "c") (Compared factors true 8 4) (pos 5) vars ≡ course_of None (pos 17) vars
  pub half_as_long : judged_one (codes "c") (Compared factors false 4 8) (pos 5) vars ≡ course_of None (pos 17) vars
  pub by_nothing : judged_one (codes "c") (Compared factors true 8 0) (pos 5) vars ≡ course_of (Some (verdict.Defective (codes "c"))) (pos 5) vars
  -- at an end of its range the score ends the judging
  pub upper_end : judged_one (codes "c") (Counted factors 99 None) (pos 5) vars ≡ course_of (Some verdict.Matched) (pos 2147483647) vars
  pub below_upper_end : end_at (pos 2147483646) ≡ None
  pub lower_end : end_at (neg_ℤ (pos 2147483647)) ≡ Some verdict.Unmatched
  pub above_lower_end : end_at (neg_ℤ (pos 2147483646)) ≡ None
  -- after the last condition a score above 0 matches; without weights the recipe does
  pub score_1 : end_of_all true (pos 1) ≡ verdict.Matched
  pub score_0 : end_of_all true (pos 0) ≡ verdict.Unmatched
  pub score_below_0 : end_of_all true (neg_ℤ (pos 1)) ≡ verdict.Unmatched
  pub no_weights : end_of_all false (pos 0) ≡ verdict.Matched
  -- `$=` is the score, if there are weights
  pub score_is_kept : (with_score true (pos 9) vars).marks.score ≡ pos 9
  pub no_score_is_kept : with_score false (pos 9) vars ≡ vars
