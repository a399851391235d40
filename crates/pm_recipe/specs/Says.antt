-- What a span of an rcfile says, by its kind, in the words of the language (procmailrc(5)).
use Rattle.std.specs.Prelude.{ℕ, List, [], ◌∷◌, ◌++◌, ◌≡◌, Bool, true, false, ◌||◌, Option, Some, None}
use Rattle.pm_bytes.specs.Alphabet.{COLON}
use Rattle.pm_bytes.specs.Letter.{is_blank_byte}
use Rattle.pm_recipe.specs.declared.fronts.Kind.{Kind}
use Rattle.pm_recipe.specs.declared.fronts.Kind.TheVariants.{Gap, Colon, Condition, Mailbox, Pipe, WriteOut, Capture, Forward, Open, TooDeep, Close, Assign, Unset, Skipped}
use Rattle.pm_recipe.specs.Bytes.{begins_with, is_flag_letter}
use Rattle.pm_recipe.specs.Joins.{unjoined}
use Rattle.pm_recipe.specs.Words.{IsRun, AreBlanks}
use Rattle.pm_recipe.specs.Quotes.{IsValue}
use Rattle.pm_recipe.specs.Colon.{ends_statement, flags_of}
use Rattle.pm_recipe.specs.declared.tree.Condition.{Condition as Judged}
use Rattle.pm_recipe.specs.Conditions.{IsCondition}
use Rattle.pm_recipe.specs.Spells.{IsHead, IsLockHead}
use Rattle.pm_recipe.specs.Spans.{Span}
use Rattle.pm_recipe.specs.Tree as tree
use Rattle.pm_recipe.specs.Tree.{Act}
use Rattle.pm_recipe.specs.Item.{Item}
use Rattle.pm_recipe.specs.Item.Item.{Nothing, Begins, Judges, Does, Opens, Fails, Closes, States}

-- a letter of a flag or a blank
abbrev pub is_flag_or_blank : ℕ → Bool
is_flag_or_blank byte = is_blank_byte byte || is_flag_letter byte

-- letters of flags, blanks and joins alone
abbrev pub AreFlags : List ℕ → Type 0
AreFlags flags = IsRun is_flag_or_blank 0 flags []

-- after a lock's text there are blanks, and then a newline, a comment or the end
pub record IsQuiet (tail : List ℕ) : Type 0 where
  pub blanks : List ℕ
  pub rest : List ℕ
  pub tail_is : tail ≡ blanks ++ rest
  pub apart : AreBlanks 0 blanks rest
  pub ends : ends_statement rest ≡ true

-- a test that says no exactly where a fact holds
abbrev pub Denies : Bool → Type 0 → Type 0
Denies true Fact = Fact → ⊥
Denies false Fact = Fact

-- a colon line with these flags and this lock, and whether something on it isn't understood
pub data IsColonText (text : List ℕ) (flags : List ℕ) (lock : Option (List ℕ)) (junk : Bool) : Type 0 where
  Plain : (after : List ℕ) (head : IsHead text after) → begins_with COLON after ≡ false → flags ≡ head.flags → lock ≡ None → Denies junk (AreFlags flags)
      → IsColonText text flags lock junk
  Locked : (word tail : List ℕ) (head : IsLockHead text (word ++ tail)) → IsValue word tail → flags ≡ head.head.flags → lock ≡ Some word
      → Denies junk (AreFlags flags × IsQuiet tail) → IsColonText text flags lock junk

-- a recipe begins
pub record IsBeginning (span : Span) (item : Item) : Type 0 where
  pub flags : List ℕ
  pub lock : Option (List ℕ)
  pub junk : Bool
  pub form : IsColonText span.text flags lock junk
  pub item_is : item ≡ Begins (record { line = span.line; text = span.text; flags = flags_of flags; lock = lock }) junk

-- a condition
pub record IsJudging (text : List ℕ) (item : Item) : Type 0 where
  pub condition : Judged
  pub form : IsCondition text condition
  pub item_is : item ≡ Judges condition

-- a program's line: what follows the blanks
pub record IsProgram (text : List ℕ) (line : List ℕ) : Type 0 where
  pub blanks : List ℕ
  pub text_is : unjoined text ≡ blanks ++ line
  pub apart : AreBlanks 0 blanks line

-- a program's line is an action
pub record IsRunning (act : List ℕ → Act) (text : List ℕ) (item : Item) : Type 0 where
  pub line : List ℕ
  pub program : IsProgram text line
  pub item_is : item ≡ Does (act line)

-- what a span of a kind says
abbrev pub Says : Span → Kind → Item → Type 0
Says span Gap item = item ≡ Nothing
Says span Colon item = IsBeginning span item
Says span Condition item = IsJudging span.text item
Says span Mailbox item = item ≡ Does (tree.Mailbox (unjoined span.text))
Says span Pipe item = IsRunning tree.Pipe span.text item
Says span Capture item = IsRunning (tree.Capture (unjoined span.name)) span.text item
Says span Forward item = item ≡ Does (tree.Forward (unjoined span.text))
Says span WriteOut item = item ≡ Does tree.WriteOut
Says span Open item = item ≡ Opens
Says span TooDeep item = item ≡ Fails span.line span.text
Says span Close item = item ≡ Closes
Says span Assign item = item ≡ States (tree.Assign (unjoined span.name) span.text)
Says span Unset item = item ≡ States (tree.Unset (unjoined span.name))
Says span Skipped item = item ≡ States (tree.Defect span.line span.text)

-- what spans say, each in its place
abbrev pub AllSay : List Span → List Item → Type 0
AllSay [] [] = Unit {0}
AllSay [] (item ∷ items) = ⊥
AllSay (span ∷ spans) [] = ⊥
AllSay (span ∷ spans) (item ∷ items) = Says span span.kind item × AllSay spans items
