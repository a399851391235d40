-- Which recipes a chain admits, and how it goes on.
use Rattle.std.specs.Prelude.{◌≡◌, Bool, true, false, not, ◌&&◌, ◌||◌, if◌then◌else◌}
use Rattle.pm_recipe.specs.declared.tree.Flags.{Flags}
use Rattle.pm_meaning.specs.declared.chain.Chain.{Chain}
use Rattle.pm_meaning.specs.Minds.{Mind}

-- with A or a, the last recipe without these flags matched; with a, the last one succeeded too; with E, none of its chain was
-- executed; with e, the last one failed
abbrev pub is_admitted : Flags → Chain → Bool
is_admitted flags chain =
    (not (flags.and_chain || flags.and_ok) || chain.base) && (not flags.and_ok || chain.ok) && (not flags.or_else || not chain.ran)
    && (not flags.on_error || chain.failed)

-- what is remembered of a recipe: whether it matched, was executed, and succeeded
abbrev pub after : Flags → Chain → Bool → Bool → Bool → Chain
after flags chain matched executed succeeded = record {
  base = if flags.and_chain || flags.and_ok then chain.base else matched;
  ran = executed || (flags.or_else && chain.ran);
  ok = executed && succeeded;
  failed = executed && not succeeded;
}

-- nothing came before
abbrev pub new_chain : Chain
new_chain = record { base = false; ran = false; ok = false; failed = false }

-- the last recipe, which was executed, has succeeded
abbrev pub with_success : Chain → Chain
with_success chain = record chain { ok = true; failed = false }

-- the process with this chain
abbrev pub with_chain : Chain → Mind → Mind
with_chain chain p = record p { chain = chain }

-- the recipe wasn't admitted, or didn't match
abbrev pub passed : Flags → Mind → Mind
passed flags p = with_chain (after flags p.chain false false false) p

-- the recipe is executed: it has failed unless its action succeeds
abbrev pub executed : Flags → Mind → Mind
executed flags p = with_chain (after flags p.chain true true false) p

-- the action succeeded
abbrev pub succeeded : Mind → Mind
succeeded p = with_chain (with_success p.chain) p

-- a recipe that is executed and then succeeds is one that matched, was executed and succeeded
abbrev pub SuccessIsLast : Type 0
SuccessIsLast = (flags : Flags) (chain : Chain) → with_success (after flags chain true true false) ≡ after flags chain true true true
