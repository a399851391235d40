-- Rcfiles and their lines, form by form (procmailrc(5), procmailsc(5)).
use Rattle.std.specs.Prelude.{ℕ, Bool, List, [], ◌∷◌, ◌≡◌, Some, None, true, false, not, codes, pos, neg_ℤ}
use Rattle.std.specs.List.{filter, range_with_len}
use Rattle.pm_recipe.specs.declared.building.Head.{Head}
use Rattle.pm_recipe.specs.declared.fronts.Kind.{Kind}
use Rattle.pm_recipe.specs.declared.fronts.Kind.TheVariants as kind
use Rattle.pm_recipe.specs.declared.fronts.Situation.{Situation}
use Rattle.pm_recipe.specs.declared.tree.Condition.{Condition}
use Rattle.pm_recipe.specs.declared.tree.Weight.{Weight}
use Rattle.pm_recipe.specs.declared.tree.Weight.TheVariants as weight
use Rattle.pm_recipe.specs.Build.{tree_of_items}
use Rattle.pm_recipe.specs.Colon.{flags_of, flags_part, has_junk, lock_of}
use Rattle.pm_recipe.specs.Ends.{missed}
use Rattle.pm_recipe.specs.Front.{ends_name, front_of, gap, piece}
use Rattle.pm_recipe.specs.Item.Item.{Begins, Fails}
use Rattle.pm_recipe.specs.Letters.{no_flags}
use Rattle.pm_recipe.specs.Listed.{rc_of}
use Rattle.pm_recipe.specs.Refusal.{most_length}
use Rattle.pm_recipe.specs.Spans.{in_statements}
use Rattle.pm_recipe.specs.Tree.{Act, Assign, Block, Capture, Defect, Forward, Mailbox, Pipe, Recipe, Tree, Trees, Unset, WriteOut, cons, nil}
use Rattle.pm_recipe.specs.Weights.{condition_of}

-- where a statement can begin: outside blocks, and in one
abbrev pub outside : Situation
outside = in_statements 0

abbrev pub inside : Situation
inside = in_statements 1

-- where a line of a recipe can begin, in so many blocks
abbrev pub after_colon : ℕ → Situation
after_colon depth = record { depth = depth; in_recipe = true }

-- a condition with this weight and this text
abbrev pub condition : Weight → List ℕ → Condition
condition w text = record { weight = w; text = text }

-- a recipe of an action alone
abbrev pub bare : Act → Tree
bare act = Recipe (record { flags = no_flags; lock = None; conditions = [] }) act

-- these statements
abbrev pub these : List Tree → Trees
these [] = nil
these (tree ∷ trees) = cons tree (these trees)

-- a colon line without letters
abbrev pub plain_head : Head
plain_head = record { line = 1; text = codes ":0"; flags = no_flags; lock = None }

-- the bytes that pass a test, and two kinds of what they begin
abbrev pub those : (ℕ → Bool) → List ℕ
those test = filter test (range_with_len 0 256)

abbrev pub is_gap : Kind → Bool
is_gap kind.Gap = true
is_gap other = false

abbrev pub is_mailbox : Kind → Bool
is_mailbox kind.Mailbox = true
is_mailbox other = false

-- what stands at the front of a text where a statement can begin
pub record OfStatements : Type 0 where
  -- blanks, newlines, joined lines and comments are passed over; a comment isn't joined to the next line
  pub blank : front_of outside (codes " A") ≡ gap (codes "A")
  pub newline : front_of outside (codes "\nA") ≡ gap (codes "A")
  pub joined : front_of outside (codes "\\\nA") ≡ gap (codes "A")
  pub comment : front_of outside (codes "#x\\\nA") ≡ gap (codes "\nA")
  -- a name, an `=` and one word are an assignment, and statements may follow on the same line
  pub assigned : front_of outside (codes "A=b c") ≡ piece kind.Assign (codes "A") (codes "b") (codes " c")
  pub blanks_around : front_of outside (codes "_a1 \t= b") ≡ piece kind.Assign (codes "_a1") (codes "b") []
  pub no_value : front_of outside (codes "A=\nB") ≡ piece kind.Assign (codes "A") [] (codes "\nB")
  pub joined_name : front_of outside (codes "A\\\nB=c") ≡ piece kind.Assign (codes "A\\\nB") (codes "c") []
  -- a word that begins with `#` is a comment
  pub comment_after : front_of outside (codes "A= #b") ≡ piece kind.Assign (codes "A") [] (codes "#b")
  pub hash_in_word : front_of outside (codes "A=b#c") ≡ piece kind.Assign (codes "A") (codes "b#c") []
  -- quotes keep blanks and newlines in a word; each kind is a byte as any other in the others, but for backquotes in double ones
  pub single_quotes : front_of outside (codes "A='b\\\" \n`'c d") ≡ piece kind.Assign (codes "A") (codes "'b\\\" \n`'c") (codes " d")
  pub double_quotes : front_of outside (codes "A=\"b' \\\"\n\" c") ≡ piece kind.Assign (codes "A") (codes "\"b' \\\"\n\"") (codes " c")
  pub backquotes : front_of outside (codes "A=`b '\\`\"` c") ≡ piece kind.Assign (codes "A") (codes "`b '\\`\"`") (codes " c")
  pub backquotes_in_quotes : front_of outside (codes "A=\"`b \" \\` `\" c") ≡ piece kind.Assign (codes "A") (codes "\"`b \" \\` `\"") (codes " c")
  pub escaped_bytes : front_of outside (codes "A=b\\ \\'\\\nc d") ≡ piece kind.Assign (codes "A") (codes "b\\ \\'\\\nc") (codes " d")
  -- a quote that isn't closed makes a defect of the first line
  pub open_single : front_of outside (codes "A='b\nc") ≡ piece kind.Skipped [] (codes "A='b") (codes "\nc")
  pub open_double : front_of outside (codes "A=\"\\\"\nc") ≡ piece kind.Skipped [] (codes "A=\"\\\"") (codes "\nc")
  pub open_backquote : front_of outside (codes "A=\"`\"\nc") ≡ piece kind.Skipped [] (codes "A=\"`\"") (codes "\nc")
  pub last_backslash : front_of outside (codes "A=b\\") ≡ piece kind.Assign (codes "A") (codes "b\\") []
  -- a name alone is unset
  pub unset_at_end : front_of outside (codes "A") ≡ piece kind.Unset (codes "A") [] []
  pub unset_at_blank : front_of outside (codes "A b") ≡ piece kind.Unset (codes "A") [] (codes " b")
  pub unset_at_newline : front_of outside (codes "A\n=") ≡ piece kind.Unset (codes "A") [] (codes "\n=")
  -- a closing brace ends a block where one is open
  pub brace_inside : front_of inside (codes "}A") ≡ piece kind.Close [] (codes "}") (codes "A")
  pub brace_outside : front_of outside (codes "}A") ≡ piece kind.Skipped [] (codes "}A") []
  -- a colon and a zero begin a recipe; the line may be joined
  pub colon_line : front_of outside (codes ":0 c: l # x\n*") ≡ piece kind.Colon [] (codes ":0 c: l # x") (codes "\n*")
  pub joined_colon_line : front_of outside (codes ":\\\n0 \\\nc\n*") ≡ piece kind.Colon [] (codes ":\\\n0 \\\nc") (codes "\n*")
  pub open_lock : front_of outside (codes ":0:'l\n*") ≡ piece kind.Skipped [] (codes ":0:'l") (codes "\n*")
  -- anything else is a defect up to the end of its line; lines may be joined, but not in a comment
  pub other_colon : front_of outside (codes ":1\nA") ≡ piece kind.Skipped [] (codes ":1") (codes "\nA")
  pub blank_after_colon : front_of outside (codes ": 0\nA") ≡ piece kind.Skipped [] (codes ": 0") (codes "\nA")
  pub no_name : front_of outside (codes "1=b") ≡ piece kind.Skipped [] (codes "1=b") []
  pub name_and_more : front_of outside (codes "A;\nB") ≡ piece kind.Skipped [] (codes "A;") (codes "\nB")
  pub name_and_hash : front_of outside (codes "A#b") ≡ piece kind.Skipped [] (codes "A#b") []
  pub ends_of_names : those (λ b. ends_name (b ∷ [])) ≡ codes "\t\n "
  pub gaps : those (λ b. is_gap (front_of outside (b ∷ codes "A")).kind) ≡ codes "\t\n #"
  pub joined_defect : front_of outside (codes "?a\\\nb #c\\\nA") ≡ piece kind.Skipped [] (codes "?a\\\nb #c\\") (codes "\nA")

-- what stands at the front of a text after a colon line
pub record OfLines : Type 0 where
  -- blank lines and comments are passed over
  pub empty_line : front_of (after_colon 0) (codes "\n*") ≡ gap (codes "*")
  pub comment_line : front_of (after_colon 0) (codes "#x\n*") ≡ gap (codes "\n*")
  -- a condition; it has no comments
  pub star : front_of (after_colon 0) (codes "* a #b\nm") ≡ piece kind.Condition [] (codes " a #b") (codes "\nm")
  -- each action, by its first byte
  pub mailbox : front_of (after_colon 0) (codes "m #b\nA") ≡ piece kind.Mailbox [] (codes "m #b") (codes "\nA")
  pub forward : front_of (after_colon 0) (codes "! a, b\nA") ≡ piece kind.Forward [] (codes " a, b") (codes "\nA")
  pub pipe : front_of (after_colon 0) (codes "| p\\\nq\nA") ≡ piece kind.Pipe [] (codes " p\\\nq") (codes "\nA")
  pub output : front_of (after_colon 0) (codes "| \nA") ≡ piece kind.WriteOut [] (codes " ") (codes "\nA")
  pub output_at_end : front_of (after_colon 0) (codes "|") ≡ piece kind.WriteOut [] [] []
  pub capture : front_of (after_colon 0) (codes "A = | p\nB") ≡ piece kind.Capture (codes "A") (codes " p") (codes "\nB")
  pub named_mailbox : front_of (after_colon 0) (codes "A=b") ≡ piece kind.Mailbox [] (codes "A=b") []
  pub mailboxes : those (λ b. not (is_mailbox (front_of (after_colon 0) (b ∷ codes "x")).kind)) ≡ codes "\t\n !#*:|}"
  pub comment_for_program : front_of (after_colon 0) (codes "| #p\nA") ≡ piece kind.Pipe [] (codes " #p") (codes "\nA")
  -- a brace begins a block before a blank, a newline or the end
  pub block : front_of (after_colon 0) (codes "{ A") ≡ piece kind.Open [] (codes "{") (codes " A")
  pub block_at_newline : front_of (after_colon 0) (codes "{\n") ≡ piece kind.Open [] (codes "{") (codes "\n")
  pub braced_mailbox : front_of (after_colon 0) (codes "{A") ≡ piece kind.Mailbox [] (codes "{A") []
  -- 1,000 blocks may be nested; a deeper one ends the reading
  pub block_1000 : front_of (after_colon 999) (codes "{ A") ≡ piece kind.Open [] (codes "{") (codes " A")
  pub block_1001 : front_of (after_colon 1000) (codes "{ A") ≡ piece kind.TooDeep [] (codes "{") []
  -- these begin no action: the recipe has none
  pub brace : front_of (after_colon 1) (codes "}A") ≡ piece kind.Close [] (codes "}") (codes "A")
  pub colon : front_of (after_colon 0) (codes ":0\nm") ≡ piece kind.Colon [] (codes ":0") (codes "\nm")

-- what is read out of a colon line
pub record OfColonLines : Type 0 where
  -- letters and blanks in any order, up to the second colon or a comment
  pub letters : flags_of (flags_part (codes ":0 Bc:D")) ≡ record no_flags { search_body = true; copy = true }
  pub no_letters : flags_of (flags_part (codes ":0 # B")) ≡ no_flags
  -- the lock's text is one word, which may be empty
  pub no_lock : lock_of (codes ":0 c") ≡ None
  pub automatic : lock_of (codes ":0:") ≡ Some []
  pub named : lock_of (codes ":0 c: l m") ≡ Some (codes "l")
  pub quoted : lock_of (codes ":0:\"a b\"c") ≡ Some (codes "\"a b\"c")
  pub comment : lock_of (codes ":0: #l") ≡ Some []
  pub colon_in_comment : lock_of (codes ":0 #:l") ≡ None
  -- another byte among the letters, or another text after the lock, isn't understood
  pub quiet : has_junk (codes ":0 H B\t: l # x") ≡ false
  pub quiet_comment : has_junk (codes ":0 c #x") ≡ false
  pub letter_x : has_junk (codes ":0 Bx") ≡ true
  pub digit : has_junk (codes ":0 1:l") ≡ true
  pub hash_in_letters : has_junk (codes ":0 c#x") ≡ true
  pub two_locks : has_junk (codes ":0: l m") ≡ true

-- what is read out of a line that begins with a star
pub record OfConditions : Type 0 where
  -- the blanks at both ends are gone
  pub plain : condition_of (codes " ^A: b\t") ≡ condition weight.None (codes "^A: b")
  -- a weight: two numbers with a caret between them, before a blank or the end
  pub weighted : condition_of (codes "1^0 a") ≡ condition (weight.Some (pos 1) (pos 0)) (codes "a")
  pub signs : condition_of (codes " -5^+1\t a") ≡ condition (weight.Some (neg_ℤ (pos 5)) (pos 1)) (codes "a")
  pub weight_alone : condition_of (codes "+7^1") ≡ condition (weight.Some (pos 7) (pos 1)) []
  pub decimal : condition_of (codes "010^08 a") ≡ condition (weight.Some (pos 10) (pos 8)) (codes "a")
  pub greatest : condition_of (codes "-2147483647^2147483647 a") ≡ condition (weight.Some (neg_ℤ (pos 2147483647)) (pos 2147483647)) (codes "a")
  pub minus_zero : condition_of (codes "1^-0 a") ≡ condition (weight.Some (pos 1) (pos 0)) (codes "a")
  -- a number out of its range, or with a dot
  pub too_great : condition_of (codes "2147483648^0 a") ≡ condition weight.Bad (codes "a")
  pub exponent_too_great : condition_of (codes "1^2147483648 a") ≡ condition weight.Bad (codes "a")
  pub exponent_below_zero : condition_of (codes "1^-1 a") ≡ condition weight.Bad (codes "a")
  pub fraction : condition_of (codes "1.5^0 a") ≡ condition weight.Bad (codes "a")
  pub exponent_fraction : condition_of (codes "1^.5 a") ≡ condition weight.Bad (codes "a")
  -- no weight at all
  pub no_blank : condition_of (codes "1^1a") ≡ condition weight.None (codes "1^1a")
  pub no_first_number : condition_of (codes "^1 a") ≡ condition weight.None (codes "^1 a")
  pub no_second_number : condition_of (codes "1^ a") ≡ condition weight.None (codes "1^ a")
  pub dot_alone : condition_of (codes ".^1 a") ≡ condition weight.None (codes ".^1 a")
  pub two_signs : condition_of (codes "+-1^1 a") ≡ condition weight.None (codes "+-1^1 a")
  -- where lines are joined, the blanks of the later ones go too, but not after a `$` that is to be expanded
  pub joined : condition_of (codes " a \\\n \tb") ≡ condition weight.None (codes "a b")
  pub joined_twice : condition_of (codes "a\\\n \\\n b") ≡ condition weight.None (codes "ab")
  pub joined_dollar : condition_of (codes "\\\n $a\\\n b") ≡ condition weight.None (codes "$a b")
  pub joined_area : condition_of (codes "1^0 !B ?? $a\\\n b") ≡ condition (weight.Some (pos 1) (pos 0)) (codes "!B ?? $a b")
  pub dollar_in_expression : condition_of (codes "a$\\\n b") ≡ condition weight.None (codes "a$b")
  pub one_mark : condition_of (codes "B ? $a\\\n b") ≡ condition weight.None (codes "B ? $ab")

-- the statements of an rcfile
pub record OfRcfiles : Type 0 where
  pub statements : rc_of (codes "A='b'\nB") ≡ these (Assign (codes "A") (codes "'b'") ∷ Unset (codes "B") ∷ [])
  pub joined : rc_of (codes "A\\\nB=c\\\nd") ≡ these (Assign (codes "AB") (codes "c\\\nd") ∷ [])
  -- a recipe: its flags, its lock, its conditions and its action
  pub recipe : rc_of (codes ":0B:l\n*a\n#\n* 1^0 b\nm") ≡ these (Recipe (record {
    flags = record no_flags { search_body = true };
    lock = Some (codes "l");
    conditions = condition weight.None (codes "a") ∷ condition (weight.Some (pos 1) (pos 0)) (codes "b") ∷ [];
  }) (Mailbox (codes "m")) ∷ [])
  -- each action, of joined lines; before a program's line blanks mean nothing
  pub mailbox : rc_of (codes ":0\nm\\\n n") ≡ these (bare (Mailbox (codes "m n")) ∷ [])
  pub pipe : rc_of (codes ":0\n| p\\\n q") ≡ these (bare (Pipe (codes "p q")) ∷ [])
  pub capture : rc_of (codes ":0\nA\\\nB=| p\\\n q") ≡ these (bare (Capture (codes "AB") (codes "p q")) ∷ [])
  pub forward : rc_of (codes ":0\n! a\\\nb") ≡ these (bare (Forward (codes " ab")) ∷ [])
  pub output : rc_of (codes ":0\n|") ≡ these (bare WriteOut ∷ [])
  pub block : rc_of (codes ":0\n{ A }\nB") ≡ these (bare (Block (these (Unset (codes "A") ∷ []))) ∷ Unset (codes "B") ∷ [])
  -- a recipe without an action is a defect; what stands in the action's place is read as a statement
  pub no_action : rc_of (codes ":0\n:0\nm") ≡ these (Defect 1 (codes ":0") ∷ bare (Mailbox (codes "m")) ∷ [])
  pub no_action_at_end : rc_of (codes ":0c\n*a\n") ≡ these (Defect 1 (codes ":0c") ∷ [])
  pub no_action_in_block : rc_of (codes ":0\n{\n:0\n}") ≡ these (bare (Block (these (Defect 3 (codes ":0") ∷ []))) ∷ [])
  -- a colon line that isn't understood whole is told before its recipe
  pub junk : rc_of (codes ":0x\nm") ≡ these (Defect 1 (codes ":0x") ∷ bare (Mailbox (codes "m")) ∷ [])
  -- a defect has the number of its first line
  pub lines : rc_of (codes "A='\n'\n;\\\n;") ≡ these (Assign (codes "A") (codes "'\n'") ∷ Defect 3 (codes ";\\\n;") ∷ [])
  -- blocks end at the end of the file, which is told on the outermost level, with the line of the outermost recipe
  pub missing_braces : rc_of (codes ":0\n{\n:0\n{ A") ≡ these
      (bare (Block (these (bare (Block (these (Unset (codes "A") ∷ []))) ∷ []))) ∷ Defect 1 (codes "missing }") ∷ [])
  -- a block that is nested too deep stands in its recipe's place, and then no brace is missing
  pub too_deep : tree_of_items (Begins plain_head false ∷ Fails 2 (codes "{") ∷ []) ≡ these (Defect 2 (codes "{") ∷ [])
  pub not_missing : missed (1 ∷ []) true ≡ []
  pub greatest_length : most_length ≡ 1048576
