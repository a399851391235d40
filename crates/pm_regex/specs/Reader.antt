-- How far the reader is.
use Rattle.std.specs.Prelude.{◌≡◌, ℕ, ◌<◌, ◌≤◌, List, length, drop, Option, Some, None, option_map}
use Rattle.pm_regex.specs.declared.op.Op.{Op}
use Rattle.pm_regex.specs.declared.reader.Reader.{Reader}
use Rattle.pm_regex.specs.Re.{Re}
use Rattle.pm_regex.specs.Tokens.{Token, First}
use Rattle.pm_regex.specs.Machine.{State, step}
use Rattle.pm_regex.specs.Postfix.{Spells}
use Rattle.pm_regex.specs.Groups.{GroupsAre, Shows}

-- the operators spell what stands left of the cut
abbrev pub LeftIs : Option (List Op) → Option Re → Type 0
LeftIs None None = Unit {0}
LeftIs None (Some e) = ⊥
LeftIs (Some os) None = ⊥
LeftIs (Some os) (Some e) = Spells os e

-- the reader has read what leads to this state
pub record ReaderIs (r : Reader) (st : State) : Type 0 where
  pub left : LeftIs (option_map (λ v. v.items) r.left) st.left
  pub shows : Shows r.ops.items r.group st.inner st.outer
  pub around : GroupsAre r.around.items st.outer

-- the token leads from what the one reader has read to what the other has
abbrev pub Takes : Token → Reader → Reader → Type 0
Takes t old new = (st : State) → ReaderIs old st → (next : State) × (step st t ≡ Some next) × ReaderIs new next

-- the token can't stand here
abbrev pub Refuses : Token → Reader → Type 0
Refuses t r = (st : State) → ReaderIs r st → step st t ≡ None

-- the first token of the text, of n bytes, is taken
pub record TakesFirst (text : List ℕ) (old new : Reader) (n : ℕ) : Type 0 where
  pub token : Token
  pub some : 0 < n
  pub within : n ≤ length text
  pub first : First text token (drop n text)
  pub takes : Takes token old new

-- whatever token stands first can't stand here
abbrev pub RefusesFirst : List ℕ → Reader → Type 0
RefusesFirst text r = (t : Token) (rest : List ℕ) → First text t rest → Refuses t r
