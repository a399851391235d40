-- What old forms are brought over by, as docs/MOVING.md says.
use Rattle.std.specs.Prelude.{◌≡◌, ℕ, Bool, true, false, List, [], ◌∷◌, ◌++◌, length, codes}
use Rattle.pm_recipe.specs.Colon.{lock_of}
use Rattle.pm_recipe.specs.declared.fronts.Kind.{Kind}
use Rattle.pm_recipe.specs.declared.fronts.Kind.TheVariants.{Assign, Capture, Close, Colon, Condition, Forward}
use Rattle.pm_recipe.specs.declared.fronts.Kind.TheVariants.{Gap, Mailbox, Open, Pipe, Unset}
use Rattle.pm_recipe.specs.declared.spans.Span.{Span}
use Rattle.check_fix.specs.Braces.{is_quoted, opens_brace, close_edits}
use Rattle.check_fix.specs.Calls.{empty_edits, reply_edits, removed_edits, length_edits, appended_edits, quiet_edits, trust_edits}
use Rattle.check_fix.specs.Changes.{chosen, rewritten}
use Rattle.check_fix.specs.Colons.{automatic_edits, own_lock_edits, cache_lock_edits, lock_wait_edits, wait_edits}
use Rattle.check_fix.specs.Conditions.{great_edits, size_edits, late_edits, supreme_edits, backslash_edits, end_edits, anchor_edits, continued_edits}
use Rattle.check_fix.specs.Copies.{colon_after, copy_edits, copy_name, gives_copy, is_looked_at, stop_edits}
use Rattle.check_fix.specs.Counts.{counted, is_bare, zero_edits}
use Rattle.check_fix.specs.Locks.{cache_of, without_braces, uses_cache}
use Rattle.check_fix.specs.Edits.{edit_at}
use Rattle.check_fix.specs.Fed.{gets_body}
use Rattle.check_fix.specs.Mailboxes.{several_edits, hash_edits, match_edits}
use Rattle.check_fix.specs.Numbers.{from_variable, variable_name, is_number, is_past, is_value_of, keeps_value, value_edits, number_edits}
use Rattle.check_fix.specs.Scores.{is_empty_block, is_greatest, is_plain, is_score, is_weighted}
use Rattle.check_fix.specs.Scores.{greatest_of, name_edits, no_score, score_after}
use Rattle.check_fix.specs.Spans.{edits_of}
use Rattle.check_fix.specs.Values.{host_edits, idle_edits, log_edits, delivered_edits}
use Rattle.check_fix.specs.declared.edits.Edit.{Edit}
use Rattle.check_fix.specs.declared.scores.Score.{Score}

-- a text with these edits
abbrev pub edited : List Edit → List ℕ → List ℕ
edited edits text = rewritten (chosen 0 (length text) edits) text

-- assignments and names alone
pub record OfValues : Type 0 where
  pub host : edited (host_edits 0 (codes "HOST") []) (codes "HOST") ≡ codes "HOST="
  pub idle : edited (idle_edits 0 (codes "LINEBUF=65536")) (codes "LINEBUF=65536") ≡ []
  pub program : edited (idle_edits 0 (codes "COMSAT=`x`")) (codes "COMSAT=`x`") ≡ codes "COMSAT=`x`"
  pub all : edited (log_edits 0 (codes "LOGABSTRACT=yes") (codes "yes")) (codes "LOGABSTRACT=yes") ≡ codes "LOGABSTRACT=all"
  pub none : edited (log_edits 0 (codes "LOGABSTRACT=off") (codes "off")) (codes "LOGABSTRACT=off") ≡ codes "LOGABSTRACT=no"
  pub on : edited (delivered_edits 0 (codes "DELIVERED=on") (codes "on")) (codes "DELIVERED=on") ≡ codes "DELIVERED=yes"
  -- 3.22 reads this one as no
  pub off : edited (delivered_edits 0 (codes "DELIVERED=off") (codes "off")) (codes "DELIVERED=off") ≡ codes "DELIVERED=off"

-- what is behind a blank within `${`
pub record OfBraces : Type 0 where
  pub quoted : is_quoted (codes "\"y z\"} # x") ≡ true
  pub bare : is_quoted (codes "y z}") ≡ false
  pub more : is_quoted (codes "\"y\"z\"}") ≡ false
  pub behind : is_quoted (codes "\"y\"}z") ≡ false
  pub opens : opens_brace (codes "${Y:-") ≡ true
  pub text : opens_brace (codes "a${Y:-") ≡ false
  pub closed : edited (close_edits 0 (codes "\"y z\"} # x")) (codes "\"y z\"} # x") ≡ codes "y z}\" # x"

-- lock files of caches
pub record OfLocks : Type 0 where
  pub name : cache_of (codes "${C}.lock") ≡ codes "${C}"
  pub ext : cache_of (codes "c$LOCKEXT") ≡ codes "c"
  pub braces : cache_of (codes "$C${LOCKEXT}") ≡ codes "$C"
  pub other : cache_of (codes "my.lck") ≡ []
  pub plain : without_braces (codes "? $F -D 8 ${C}") ≡ codes "? $F -D 8 $C"
  pub used : uses_cache (codes "$C") (codes "? $FORMAIL -D 8192 $C") ≡ true
  pub reply : uses_cache (codes "$C") (codes "? formail -rD 8192 $C") ≡ true
  pub not_used : uses_cache (codes "$D") (codes "? formail -D 8192 $C") ≡ false
  pub no_call : uses_cache (codes "$C") (codes "? test -s $C") ≡ false

-- counts of conditions
pub record OfCounts : Type 0 where
  pub alone : counted (codes ":") ≡ 1
  pub two : counted (codes ":2 c:") ≡ 2
  pub nine : counted (codes ":9") ≡ 9
  pub zero_first : counted (codes ":0:") ≡ 0
  pub many : counted (codes ":10:") ≡ 0
  pub flags : counted (codes ":c") ≡ 0
  pub colon : edited (zero_edits 0 (codes ":")) (codes ":") ≡ codes ":0"
  pub lock : edited (zero_edits 0 (codes ":2 c:")) (codes ":2 c:") ≡ codes ":0 c:"
  pub star : is_bare (codes "* ^X: y") ≡ false
  pub word : is_bare (codes "^X: y") ≡ true

-- by the place of a colon line and its text
abbrev pub line : (ℕ → List ℕ → List Edit) → List ℕ → List ℕ
line edits text = edited (edits 0 text) text

-- colon lines
pub record OfColons : Type 0 where
  pub block : line automatic_edits (codes ":0:") ≡ codes ":0"
  pub flags : line automatic_edits (codes ":0 c: # x") ≡ codes ":0 c # x"
  pub comment : line automatic_edits (codes ":0 # x: y") ≡ codes ":0 # x: y"
  pub own : line (λ first text. own_lock_edits first text (lock_of text)) (codes ":0: found") ≡ codes ":0: "
  pub cache : line (λ first text. cache_lock_edits first text (lock_of text)) (codes ":0 Wh: c.lock # x") ≡ codes ":0 Wh # x"
  pub other : line (λ first text. cache_lock_edits first text (lock_of text)) (codes ":0 Wh") ≡ codes ":0 Wh"
  pub filter : line (λ first text. wait_edits first text Pipe) (codes ":0 fbh") ≡ codes ":0 fwbh"
  pub waits : line (λ first text. wait_edits first text Pipe) (codes ":0 fW") ≡ codes ":0 fW"
  pub mailbox : line (λ first text. wait_edits first text Mailbox) (codes ":0 f:") ≡ codes ":0 f:"
  pub name : line (λ first text. wait_edits first text Pipe) (codes ":0 ${foo:+c}") ≡ codes ":0 ${foo:+c}"
  pub locked : line lock_wait_edits (codes ":0:prog.lock") ≡ codes ":0 w:prog.lock"
  pub locked_flags : line lock_wait_edits (codes ":0 h: # x") ≡ codes ":0 hw: # x"
  pub lock_by_name : line lock_wait_edits (codes ":0 ${foo:+c}:l") ≡ codes ":0 ${foo:+c}:l"
  pub not_locked : line lock_wait_edits (codes ":0 # x: y") ≡ codes ":0 # x: y"

-- conditions
pub record OfConditions : Type 0 where
  pub great : line great_edits (codes "* 9876543210^0 x") ≡ codes "* 2147483647^0 x"
  pub negative : line great_edits (codes "*  -9876543210^1") ≡ codes "*  -2147483647^1"
  pub greatest : line great_edits (codes "* 2147483647^0 x") ≡ codes "* 2147483647^0 x"
  -- no weight, and a fraction
  pub none : line great_edits (codes "* 9876543210^x") ≡ codes "* 9876543210^x"
  pub fraction : line great_edits (codes "* 9876543210.5^0 x") ≡ codes "* 9876543210.5^0 x"
  pub size : line size_edits (codes "* < $SIZE") ≡ codes "* $ < $SIZE"
  pub inverted : line size_edits (codes "* ! > $LIM") ≡ codes "* $ ! > $LIM"
  pub number : line size_edits (codes "* > 100") ≡ codes "* > 100"
  pub late : line late_edits (codes "* B ?? 1^1 x") ≡ codes "* 1^1 B ?? x"
  pub dollar : line late_edits (codes "*$ 5^0 ! x") ≡ codes "* 5^0 $ ! x"
  pub broken : line late_edits (codes "* B ?? 1.5^1 x") ≡ codes "* B ?? 1.5^1 x"
  pub supreme : line supreme_edits (codes "*$ -$SUPREME^0 x") ≡ codes "*$ -2147483647^0 x"
  pub braces : line supreme_edits (codes "*$ ${SUPREME}^1 x") ≡ codes "*$ 2147483647^1 x"
  pub variable : line supreme_edits (codes "*$ $X^0 x") ≡ codes "*$ $X^0 x"
  pub backslash : line backslash_edits (codes "* \\<joe") ≡ codes "* ()\\<joe"
  pub named : line backslash_edits (codes "* B ?? \\.exe") ≡ codes "* B ?? ()\\.exe"
  pub end : line end_edits (codes "* ^X: \\/.*$") ≡ codes "* ^X: \\/.*"
  pub other_end : line end_edits (codes "* ^X: \\/y$") ≡ codes "* ^X: \\/y$"
  pub anchors : line anchor_edits (codes "* ^X:.*$^Cc:") ≡ codes "* ^X:.*$Cc:"
  pub continued : line continued_edits (codes "*$ ^X:\\\n  y\\\n\t z\\\nu") ≡ codes "*$ ^X:\\\ny\\\nz\\\nu"

-- a weight by the variable of this value
abbrev pub numbered : List ℕ → List ℕ → List ℕ
numbered value text = line (λ first text. value_edits first text (from_variable text) value) text

-- a span of this kind and place, with a variable's name and this text
abbrev pub span_of : Kind → ℕ → List ℕ → List ℕ → Span
span_of kind first name text = record {
  kind = kind;
  line = 1;
  first = first;
  name = record { ref_ptr = (0, 0); now = name };
  text = record { ref_ptr = (0, 0); now = text };
  bytes = record { ref_ptr = (0, 0); now = text };
}

-- an assignment to X
abbrev pub given : ℕ → List ℕ → Span
given first value = span_of Assign first (codes "X") value

-- the changes of a condition at the place 20 with such a weight
abbrev pub weighed : List Span → List Edit
weighed spans = number_edits 20 (codes "* $ $X^0 y") spans

-- numbers of variables
pub record OfNumbers : Type 0 where
  pub once : weighed (given 0 (codes "10") ∷ []) ≡ edit_at 20 (codes "* $ $X^0 y") (codes "$X^0 y") 2 (codes "10")
  pub again : weighed (given 0 (codes "10") ∷ given 40 (codes "10") ∷ []) ≡ weighed (given 0 (codes "10") ∷ [])
  pub two_values : weighed (given 0 (codes "10") ∷ given 40 (codes "20") ∷ []) ≡ []
  pub later : weighed (given 40 (codes "10") ∷ []) ≡ []
  pub in_a_block : weighed (span_of Open 0 [] [] ∷ given 5 (codes "10") ∷ []) ≡ []
  pub other_name : weighed (span_of Assign 0 (codes "Y") (codes "10") ∷ []) ≡ []
  pub plain : numbered (codes "10") (codes "* $ $X^0 y") ≡ codes "* $ 10^0 y"
  pub braces : numbered (codes "\"10\"") (codes "*$ B ?? -${X}^1 $Y") ≡ codes "*$ B ?? -10^1 $Y"
  pub unclosed : numbered (codes "10") (codes "* $ ${X-^0 y") ≡ codes "* $ ${X-^0 y"
  pub name : variable_name (codes "$X_1^0 y") ≡ codes "X_1"
  pub name_in_braces : variable_name (codes "${X}^0 y") ≡ codes "X"
  pub digits : is_number (codes "10") ≡ true
  pub fraction : is_number (codes "1.5") ≡ false
  pub nothing : is_number [] ≡ false
  -- a value counts before the place of the weight and before all blocks
  pub before : is_past 9 Assign 3 ≡ false
  pub behind : is_past 9 Assign 9 ≡ true
  pub block : is_past 9 Open 3 ≡ true
  pub value : is_value_of (codes "X") Assign (codes "X") ≡ true
  pub other : is_value_of (codes "X") Assign (codes "Y") ≡ false
  pub same : keeps_value (codes "X") (codes "10") Assign (codes "X") (codes "10") ≡ true
  pub changed : keeps_value (codes "X") (codes "10") Assign (codes "X") (codes "20") ≡ false
  pub removed : keeps_value (codes "X") (codes "10") Unset (codes "X") [] ≡ false
  pub captured : keeps_value (codes "X") (codes "10") Capture (codes "X") (codes "10") ≡ false

-- a span with no name
abbrev pub bare : Kind → ℕ → List ℕ → Span
bare kind first text = span_of kind first [] text

-- a newline
abbrev pub gap : ℕ → Span
gap first = bare Gap first (codes "\n")

-- a colon line at the place 0, an action at 30, and a newline at 40
abbrev pub recipe : List ℕ → List Span
recipe colon = bare Colon 0 colon ∷ bare Pipe 30 (codes "| cat") ∷ bare Gap 40 (codes "\n") ∷ []

-- behind that action
abbrev pub stopped : List ℕ → List Edit
stopped colon = stop_edits (bare Pipe 30 (codes "| cat")) (gap 40 ∷ []) colon

-- the colon line whose conditions or action comes behind these spans
abbrev pub colon_behind : List ℕ → List Span → List ℕ
colon_behind text [] = text
colon_behind text (span ∷ spans) = colon_behind (colon_after span text) spans

-- behind the action at the place 30 of a recipe with such a variable, and these spans between
abbrev pub after_copy : List Span → Span → List Edit
after_copy between action =
    stop_edits action (gap 40 ∷ []) (colon_behind [] (bare Colon 0 (codes ":0 ${CC:+c}") ∷ between))

-- with no such span, and with one before a program
abbrev pub stops : Span → List Edit
stops action = after_copy [] action

abbrev pub under : Span → List Edit
under span = after_copy (span ∷ []) (bare Pipe 30 (codes "| cat"))

-- copies that a variable decides on
pub record OfCopies : Type 0 where
  pub lock : gives_copy (codes ":0 W ${CC:+c}:my.lock") ≡ true
  pub alone : gives_copy (codes ":0 ${CC:+c}") ≡ true
  pub filter : gives_copy (codes ":0 fw ${CC:+c}") ≡ false
  pub copy : gives_copy (codes ":0 c ${CC:+c}") ≡ false
  pub more : gives_copy (codes ":0 ${CC:+cw}") ≡ false
  pub other : gives_copy (codes ":0 ${CC:-c}") ≡ false
  pub comment : gives_copy (codes ":0 # ${CC:+c}") ≡ false
  pub blank : gives_copy (codes ":0 ${CC:+c} # x") ≡ true
  pub letter : gives_copy (codes ":0 ${CC:+c}w") ≡ false
  pub argument : gives_copy (codes ":0 ${1:+c}") ≡ false
  pub name : copy_name (codes ":0 W ${CC:+c}:my.lock") ≡ codes "CC"
  pub always : line (λ first text. copy_edits first text Pipe (bare Gap 9 (codes "\n") ∷ [])) (codes ":0 W ${CC:+c}:my.lock") ≡ codes ":0 W c:my.lock"
  pub last : line (λ first text. copy_edits first text Pipe []) (codes ":0 ${CC:+c}") ≡ codes ":0 ${CC:+c}"
  pub block : line (λ first text. copy_edits first text Open (bare Gap 9 (codes "\n") ∷ [])) (codes ":0 ${CC:+c}") ≡ codes ":0 ${CC:+c}"
  pub stop : stopped (codes ":0 ${CC:+c}") ≡ edit_at 40 (codes "\n") (codes "\n") 0 (codes "\n:0 a\n{\n  :0\n  * ! CC ?? .\n  /dev/null\n}")
  pub none : stopped (codes ":0 c") ≡ []
  -- all edits of such a recipe
  pub both : edits_of (recipe (codes ":0 ${CC:+c}")) []
      ≡ copy_edits 0 (codes ":0 ${CC:+c}") Pipe (gap 40 ∷ []) ++ stopped (codes ":0 ${CC:+c}")
  -- a mailbox and a forward end the delivery too, and what comes after an assignment is no action of the recipe
  pub mailbox : stops (bare Mailbox 30 (codes "m")) ≡ stops (bare Pipe 30 (codes "| cat"))
  pub forward : stops (bare Forward 30 (codes "! joe")) ≡ stops (bare Pipe 30 (codes "| cat"))
  pub captures : stops (bare Capture 30 (codes "X=| cat")) ≡ []
  pub conditions : under (bare Condition 20 (codes "* x")) ≡ stops (bare Pipe 30 (codes "| cat"))
  pub other_line : under (bare Assign 20 (codes "X=y")) ≡ []
  pub error_next : is_looked_at (bare Colon 10 (codes ":0 e") ∷ []) ≡ true
  pub else_next : is_looked_at (bare Gap 9 (codes "\n") ∷ bare Colon 10 (codes ":0 E") ∷ []) ≡ true
  pub and_next : is_looked_at (bare Colon 10 (codes ":0 a") ∷ bare Colon 20 (codes ":0 E") ∷ []) ≡ false
  pub closed : is_looked_at (bare Close 10 (codes "}") ∷ bare Colon 20 (codes ":0 E") ∷ []) ≡ false

-- a recipe with one condition and an empty block
abbrev pub empty_recipe : List ℕ → List Span
empty_recipe condition =
    bare Colon 0 (codes ":0") ∷ bare Condition 4 condition ∷ bare Open 30 (codes "{") ∷ bare Gap 31 (codes " ")
    ∷ bare Close 32 (codes "}") ∷ []

-- the score behind these spans
abbrev pub score_behind : Score → List Span → Score
score_behind score [] = score
score_behind score (span ∷ spans) = score_behind (score_after span score) spans

-- whether that of the recipe is 0 or 2147483647
abbrev pub ended : List ℕ → Bool
ended condition = (score_behind no_score (empty_recipe condition)).this

-- before all spans
abbrev pub ended_before : Bool
ended_before = no_score.this

-- the same after these spans of a recipe
abbrev pub ended_after : Bool → List Span → Bool
ended_after last spans = (score_behind (record { last = last; this = true; begun = false }) spans).this

-- a recipe with this condition and the next, after one with that condition and an empty block
abbrev pub conditions : List ℕ → List ℕ → List Span
conditions condition next = bare Condition 44 condition ∷ bare Condition 50 next ∷ bare Mailbox 60 (codes "m") ∷ []

abbrev pub scored : List ℕ → List ℕ → List ℕ → List Edit
scored before condition next = name_edits (bare Colon 40 (codes ":0")) (conditions condition next) [] (ended before)

-- all edits of both recipes, with this span before them
abbrev pub scored_after : Span → List Edit
scored_after span =
    edits_of (span ∷ (empty_recipe (codes "* 2147483647^0")
    ++ (bare Colon 40 (codes ":0") ∷ conditions (codes "* $ $=^0") (codes "* 1^0 x")))) []

-- the score as a variable, at the place 40
abbrev pub named_there : List Edit
named_there = edit_at 40 (codes ":0") (codes ":0") 0 (codes "LASTSCORE=$=\n")

-- weights by the score of the last recipe
pub record OfScores : Type 0 where
  pub score : is_score (codes "* $$=^0") ≡ true
  pub blank : is_score (codes "*$ $=^0") ≡ true
  pub other : is_score (codes "* $ $=^1") ≡ false
  pub greatest : is_greatest (codes "9876543210^0 x") ≡ true
  pub exponent : is_greatest (codes "9876543210^0.5 x") ≡ false
  pub small : is_greatest (codes "2147483646^0") ≡ false
  pub least : is_greatest (codes "2147483647^0") ≡ true
  pub plain : is_plain (codes "* ! B ?? ^x.*$") ≡ true
  pub variable : is_plain (codes "* ! $ $X") ≡ false
  pub late : is_plain (codes "* B ?? 5^0 x") ≡ false
  pub fraction : is_plain (codes "* .5^0 x") ≡ false
  pub weighted : is_weighted (codes "* -25^0 x") ≡ true
  pub optional : is_weighted (codes "* $${X:+5^0 x}") ≡ true
  pub condition : is_weighted (codes "* $${X:+5 x}") ≡ false
  pub ends : ended (codes "* 9876543210^0") ≡ true
  pub adds : ended (codes "* 5^0") ≡ false
  pub unknown : ended (codes "* $ $=^0") ≡ false
  pub adds_first : ended_after false (bare Condition 4 (codes "* 5^0") ∷ bare Condition 9 (codes "* x") ∷ []) ≡ false
  -- the score of the recipe before that
  pub goes_on : ended_after true (bare Condition 4 (codes "* $ $=^0") ∷ []) ≡ true
  -- a recipe that isn't always executed, and a block that does something
  pub chained : ended_after true (bare Colon 0 (codes ":0 A") ∷ []) ≡ false
  pub otherwise : ended_after true (bare Colon 0 (codes ":0 e") ∷ []) ≡ false
  pub something : ended_after true (bare Open 4 (codes "{") ∷ bare Assign 9 [] ∷ bare Close 32 (codes "}") ∷ []) ≡ false
  pub only_closed : ended_after true (bare Close 32 (codes "}") ∷ []) ≡ false
  -- the recipe with the condition
  pub weights_follow : scored (codes "* 9876543210^0") (codes "* $ $=^0") (codes "* 1^0 x") ≡ named_there
  pub other_follows : scored (codes "* 9876543210^0") (codes "* $ $=^0") (codes "* x") ≡ []
  pub other_score : scored (codes "* 5^0") (codes "* $ $=^0") (codes "* 1^0 x") ≡ []
  pub no_score : scored (codes "* 9876543210^0") (codes "* x") (codes "* 1^0 x") ≡ []
  pub empty_block : is_empty_block (bare Open 50 (codes "{") ∷ gap 51 ∷ bare Close 52 (codes "}") ∷ []) ≡ true
  pub block : is_empty_block (bare Open 50 (codes "{") ∷ bare Colon 51 (codes ":0") ∷ []) ≡ false
  pub first : ended_before ≡ false
  pub whole : scored_after (gap 0) ≡ named_there ++ greatest_of (bare Condition 44 (codes "* $ $=^0") ∷ [])
  pub not_free : scored_after (span_of Assign 0 (codes "LASTSCORE") (codes "1")) ≡ []
  pub named : line (λ first text. greatest_of (bare Condition first text ∷ [])) (codes "* $$=^0") ≡ codes "* 2147483647^0 LASTSCORE ?? ^^2147483647^^"

-- mailboxes
pub record OfMailboxes : Type 0 where
  pub several : line several_edits (codes "my mail") ≡ codes "my"
  pub quoted : line several_edits (codes "\"my mail\" x") ≡ codes "\"my mail\" x"
  pub hash : line hash_edits (codes "mbox#1") ≡ codes "mbox #1"
  pub named : line match_edits (codes "l-$MATCH") ≡ codes "\"l-$MATCH\""
  pub words : line match_edits (codes "l-$MATCH x") ≡ codes "l-$MATCH x"

-- calls of formail
pub record OfCalls : Type 0 where
  pub header : line empty_edits (codes "| formail -X \"\"") ≡ codes "| sed -e '/^$/q'"
  pub body : line empty_edits (codes "| $FORMAIL -I ''") ≡ codes "| sed -n -e '/^$/,$p'"
  pub more : line empty_edits (codes "| formail -X \"\" -A x") ≡ codes "| formail -X \"\" -A x"
  pub body_alone : gets_body (bare Pipe 6 (codes "| x")) (bare Colon 0 (codes ":0 bw\n") ∷ bare Pipe 6 (codes "| x") ∷ []) ≡ true
  pub both_fed : gets_body (bare Pipe 6 (codes "| x")) (bare Colon 0 (codes ":0 hb\n") ∷ bare Pipe 6 (codes "| x") ∷ []) ≡ false
  pub last_colon : gets_body (bare Pipe 12 (codes "| x")) (bare Colon 0 (codes ":0 b\n") ∷ bare Colon 6 (codes ":0 w\n") ∷ []) ≡ false
  pub later_colon : gets_body (bare Pipe 6 (codes "| x")) (bare Colon 0 (codes ":0 w\n") ∷ bare Colon 9 (codes ":0 b\n") ∷ []) ≡ false
  pub value : gets_body (bare Assign 6 (codes "X=`x`")) (bare Colon 0 (codes ":0 b\n") ∷ []) ≡ false
  pub together : line reply_edits (codes "T=`formail -rtzxTo:`") ≡ codes "T=`formail -rt | formail -zxTo:`"
  pub blank : line reply_edits (codes "| formail -rtzx To:") ≡ codes "| formail -rt | formail -zx To:"
  pub apart : line reply_edits (codes "| $FORMAIL -rt -xTo:") ≡ codes "| $FORMAIL -rt | $FORMAIL -xTo:"
  pub renamed : line reply_edits (codes "| formail -rt -R a b >>o") ≡ codes "| formail -f -R a b  | formail -rt | formail -f -R a b >>o"
  pub captured : line reply_edits (codes "T=`formail -r -R a b`") ≡ codes "T=`formail -f -R a b | formail -r | formail -f -R a b`"
  pub options : line reply_edits (codes "| formail -rt -R a b -A c") ≡ codes "| formail -rt -R a b -A c"
  pub path : line reply_edits (codes "| /usr/bin/formail -rxTo:") ≡ codes "| /usr/bin/formail -rxTo:"
  pub removed : line removed_edits (codes "| formail -I 'From '") ≡ codes "| formail -f -I 'From '"
  pub cache : line length_edits (codes "| formail -D 2000000 c") ≡ codes "| formail -D 1048576 c"
  pub short : line length_edits (codes "| formail -D 8192 c") ≡ codes "| formail -D 8192 c"
  pub appended : line appended_edits (codes "| formail -f >>o") ≡ codes "| formail >>o"
  pub loud : line quiet_edits (codes "| formail -q- -D 8 c") ≡ codes "| formail -D 8 c"
  pub quiet : line quiet_edits (codes "? formail -q -D 8 c") ≡ codes "? formail -D 8 c"
  pub field : line quiet_edits (codes "| formail -I -q") ≡ codes "| formail -I -q"
  pub trust : line trust_edits (codes "| formail -txTo:") ≡ codes "| formail -xTo:"
  pub alone : line trust_edits (codes "| formail -t") ≡ codes "| formail"

-- changes of a text
pub record OfChanges : Type 0 where
  -- the second begins before the first ends, and the last is outside of the text
  pub overlap : edited ((record { first = 0; place = 1; count = 2; bytes = codes "x" })
      ∷ (record { first = 2; place = 0; count = 1; bytes = codes "y" }) ∷ (record { first = 4; place = 1; count = 2; bytes = [] }) ∷ [])
      (codes "abcdef") ≡ codes "axdef"
  pub two : edited ((record { first = 0; place = 1; count = 2; bytes = codes "x" })
      ∷ (record { first = 3; place = 0; count = 0; bytes = codes "yz" }) ∷ []) (codes "abcdef") ≡ codes "axyzdef"
