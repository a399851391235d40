-- What is known where a span stands, by the spans before it.
use Rattle.std.specs.Prelude.{ℕ, Bool, true, false, not, ◌||◌, ◌&&◌, List, [], codes, if◌then◌else◌}
use Rattle.std.specs.List.{list_any}
use Rattle.std.specs.Str.{bytes_eq}
use Rattle.pm_recipe.specs.Colon.{flags_of, flags_part}
use Rattle.pm_recipe.specs.Weights.{condition_of}
use Rattle.pm_recipe.specs.declared.fronts.Kind.{Kind}
use Rattle.pm_recipe.specs.declared.fronts.Kind.TheVariants as kind
use Rattle.pm_recipe.specs.declared.spans.Span.{Span}
use Rattle.pm_recipe.specs.declared.tree.Flags.{Flags}
use Rattle.pm_recipe.specs.declared.tree.Weight.{Weight}
use Rattle.check_moving.specs.Conditions.{is_weight, is_greatest}
use Rattle.check_moving.specs.Mailboxes.{is_maildir}
use Rattle.check_moving.specs.Recipes.{is_unwatched}
use Rattle.check_moving.specs.Text.{has_part, without_quotes}
use Rattle.check_moving.specs.Variables.{is_mailbox}
use Rattle.check_moving.specs.declared.standing.Standing.{Standing}

-- a program that removes the line `From `
abbrev pub strips : List ℕ → Bool
strips text = has_part (codes "formail") text && has_part (codes "-I") text && has_part (codes "From ") text

-- of a span
abbrev pub is_stripped : Span → Bool
is_stripped span = strips span.text.now

-- before all spans: a maildir isn't told of where a program removes that line
abbrev pub begin : List Span → Standing
begin spans = record {
  colon = [];
  held = [];
  weighted = false;
  greatest = false;
  fresh = false;
  closed = false;
  unwatched = false;
  told = list_any is_stripped spans;
}

-- after a colon line
abbrev pub after_colon : List ℕ → Standing → Standing
after_colon text standing = record {
  colon = text;
  held = standing.held;
  weighted = false;
  greatest = false;
  fresh = false;
  closed = false;
  unwatched = false;
  told = standing.told;
}

-- after a condition with this weight
abbrev pub after_weight : Weight → Standing → Standing
after_weight worth standing = record {
  colon = standing.colon;
  held = standing.held;
  weighted = standing.weighted || is_weight worth;
  greatest = standing.greatest || is_greatest worth;
  fresh = standing.fresh;
  closed = standing.closed;
  unwatched = standing.unwatched;
  told = standing.told;
}

-- after a brace that opens a block, or closes one
abbrev pub after_brace : Bool → Standing → Standing
after_brace opens standing = record {
  colon = standing.colon;
  held = standing.held;
  weighted = standing.weighted;
  greatest = standing.greatest;
  fresh = opens;
  closed = not opens;
  unwatched = false;
  told = standing.told;
}

-- with this lock file, if it is LOCKFILE that has the value
abbrev pub held_after : List ℕ → List ℕ → List ℕ → List ℕ
held_after name value held = if bytes_eq name (codes "LOCKFILE") then without_quotes value else held

-- DEFAULT or ORGMAIL is a maildir
abbrev pub names_maildir : List ℕ → List ℕ → Bool
names_maildir name value = is_mailbox name && is_maildir value

-- after a value, or none
abbrev pub after_value : List ℕ → List ℕ → Standing → Standing
after_value name value standing = record {
  colon = standing.colon;
  held = held_after name value standing.held;
  weighted = standing.weighted;
  greatest = standing.greatest;
  fresh = standing.fresh;
  closed = standing.closed;
  unwatched = standing.unwatched;
  told = standing.told || names_maildir name value;
}

-- after a mailbox
abbrev pub after_mailbox : List ℕ → Standing → Standing
after_mailbox text standing = record {
  colon = standing.colon;
  held = standing.held;
  weighted = standing.weighted;
  greatest = standing.greatest;
  fresh = standing.fresh;
  closed = standing.closed;
  unwatched = standing.unwatched;
  told = standing.told || is_maildir text;
}

-- after a program that gets the mail, where the recipes after it get it too, or not
abbrev pub after_program : Bool → Standing → Standing
after_program goes_on standing = record {
  colon = standing.colon;
  held = standing.held;
  weighted = standing.weighted;
  greatest = standing.greatest;
  fresh = standing.fresh;
  closed = standing.closed;
  unwatched = goes_on && is_unwatched standing.colon;
  told = standing.told;
}

-- a copy that is no filter
abbrev pub is_copy : Flags → Bool
is_copy flags = flags.copy && not flags.filter

-- after a span of this kind
abbrev pub after_kind : Kind → List ℕ → List ℕ → Standing → Standing
after_kind kind.Colon name text standing = after_colon text standing
after_kind kind.Condition name text standing = after_weight (condition_of text).weight standing
after_kind kind.Open name text standing = after_brace true standing
after_kind kind.Close name text standing = after_brace false standing
after_kind kind.Assign name text standing = after_value name text standing
after_kind kind.Unset name text standing = after_value name [] standing
after_kind kind.Mailbox name text standing = after_mailbox text standing
after_kind kind.Pipe name text standing = after_program (is_copy (flags_of (flags_part standing.colon))) standing
after_kind kind.Forward name text standing = after_program (is_copy (flags_of (flags_part standing.colon))) standing
after_kind kind.Capture name text standing = after_program true standing
after_kind _ name text standing = standing

-- after a span
abbrev pub after : Span → Standing → Standing
after span standing = after_kind span.kind span.name.now span.text.now standing
