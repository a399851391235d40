-- What is asked for an action, or for a delivery to a default mailbox, of a process that is given apart.
use Rattle.pm_recipe.specs.View.{act_of, top_of}
use Rattle.pm_recipe.specs.declared.tree.Flags.{Flags}
use Rattle.pm_recipe.specs.declared.tree.Recipe.{Recipe}
use Rattle.pm_journal.specs.Plan.{Plan, Ends, and_then}
use Rattle.pm_meaning.specs.Acting.{act_on}
use Rattle.pm_meaning.specs.Apart.{bare_end}
use Rattle.pm_meaning.specs.Delivering.{no_flags}
use Rattle.pm_meaning.specs.Minds.{Mind}
use Rattle.pm_meaning.specs.Running.{fall_back}
use Rattle.pm_meaning.specs.Turns.{ActEnd}
use Rattle.pm_actions.specs.declared.work.Work.{Work}
use Rattle.pm_actions.specs.declared.work.Work.TheVariants as work

-- the action of a recipe
abbrev pub action_of : Recipe → Mind → Plan ActEnd
action_of recipe p = act_on (top_of recipe) (act_of recipe.action) p

-- what is asked for, whose end is seen without what no recipe looks at
abbrev pub alone : (Mind → Plan ActEnd) → Mind → Plan ActEnd
alone plan p = and_then (plan p) (λ came. Ends (bare_end came))

-- the same of a recipe's action
abbrev pub action_alone : Recipe → Mind → Plan ActEnd
action_alone recipe p = alone (action_of recipe) p

-- the same of the default mailboxes
abbrev pub fallback_alone : Mind → Plan ActEnd
fallback_alone p = alone fall_back p

-- what a work asks for
abbrev pub work_of : Work → Mind → Plan ActEnd
work_of (work.Action recipe) p = action_of recipe.now p
work_of work.Fallback p = fall_back p

-- by which flags it delivers; a default mailbox gets the mail as by a recipe without letters
abbrev pub flags_of : Work → Flags
flags_of (work.Action recipe) = recipe.now.flags
flags_of work.Fallback = no_flags
