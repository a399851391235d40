-- What a form that was found is brought over by.
use Rattle.std.specs.Prelude.{Bool, true, false, List, [], ◌∷◌, ◌++◌, if◌then◌else◌}
use Rattle.pm_recipe.specs.Colon.{lock_of}
use Rattle.pm_recipe.specs.declared.spans.Span.{Span}
use Rattle.check_moving.specs.declared.form.Form.{Form}
use Rattle.check_moving.specs.declared.form.Form.TheVariants as any
use Rattle.check_moving.specs.declared.form.VariableForm.{VariableForm}
use Rattle.check_moving.specs.declared.form.VariableForm.TheVariants as variable
use Rattle.check_moving.specs.declared.form.RecipeForm.{RecipeForm}
use Rattle.check_moving.specs.declared.form.RecipeForm.TheVariants as recipe
use Rattle.check_moving.specs.declared.form.ConditionForm.{ConditionForm}
use Rattle.check_moving.specs.declared.form.ConditionForm.TheVariants as condition
use Rattle.check_moving.specs.declared.form.SearchForm.{SearchForm}
use Rattle.check_moving.specs.declared.form.SearchForm.TheVariants as search
use Rattle.check_moving.specs.declared.form.MailboxForm.{MailboxForm}
use Rattle.check_moving.specs.declared.form.MailboxForm.TheVariants as mailbox
use Rattle.check_moving.specs.declared.form.ProgramForm.{ProgramForm}
use Rattle.check_moving.specs.declared.form.ProgramForm.TheVariants as program
use Rattle.check_moving.specs.declared.form.ReplyForm.{ReplyForm}
use Rattle.check_moving.specs.declared.form.ReplyForm.TheVariants as reply
use Rattle.check_fix.specs.Braces.{brace_edits}
use Rattle.check_fix.specs.Calls.{empty_edits, reply_edits, removed_edits, length_edits, appended_edits, quiet_edits, trust_edits}
use Rattle.check_fix.specs.Colons.{automatic_edits, own_lock_edits, cache_lock_edits, lock_wait_edits}
use Rattle.check_fix.specs.Conditions.{late_edits, supreme_edits, backslash_edits, end_edits, anchor_edits, continued_edits}
use Rattle.check_fix.specs.Fed.{gets_body}
use Rattle.check_fix.specs.Locks.{held_edits}
use Rattle.check_fix.specs.Mailboxes.{several_edits, hash_edits, match_edits}
use Rattle.check_fix.specs.Numbers.{number_edits}
use Rattle.check_fix.specs.Values.{host_edits, idle_edits, log_edits, delivered_edits}
use Rattle.check_fix.specs.declared.edits.Edit.{Edit}

-- a form of an assignment or of a name alone, with the spans after it
abbrev pub variable_edits : VariableForm → Span → List Span → List Edit
variable_edits variable.Host span spans = host_edits span.first span.bytes.now spans
variable_edits variable.NoEffect span spans = idle_edits span.first span.bytes.now
variable_edits variable.LogAbstract span spans = log_edits span.first span.bytes.now span.text.now
variable_edits variable.Delivered span spans = delivered_edits span.first span.bytes.now span.text.now
variable_edits variable.LockFile span spans = held_edits span.first span.bytes.now span.text.now spans
variable_edits variable.OpenBrace span spans = brace_edits span.first span.bytes.now span.text.now spans
variable_edits _ span spans = []

-- a weight by a variable, where all spans of the text are these
abbrev pub weight_edits : Span → List Span → List Edit
weight_edits span all = supreme_edits span.first span.bytes.now ++ number_edits span.first span.bytes.now all

-- a form of a condition
abbrev pub condition_edits : ConditionForm → Span → List Span → List Edit
condition_edits condition.LateWeight span all = late_edits span.first span.bytes.now
condition_edits condition.VariableWeight span all = weight_edits span all
condition_edits condition.Continued span all = continued_edits span.first span.bytes.now
condition_edits _ span all = []

-- a form of an expression
abbrev pub search_edits : SearchForm → Span → List Edit
search_edits search.Backslash span = backslash_edits span.first span.bytes.now
search_edits search.MatchEnd span = end_edits span.first span.bytes.now
search_edits search.TwoAnchors span = anchor_edits span.first span.bytes.now
search_edits _ span = []

-- a form of a mailbox's line
abbrev pub mailbox_edits : MailboxForm → Span → List Edit
mailbox_edits mailbox.Several span = several_edits span.first span.bytes.now
mailbox_edits mailbox.Hash span = hash_edits span.first span.bytes.now
mailbox_edits mailbox.MatchName span = match_edits span.first span.bytes.now
mailbox_edits _ span = []

-- a form of a program's line
abbrev pub program_edits : ProgramForm → Span → List Edit
program_edits program.CacheLength span = length_edits span.first span.bytes.now
program_edits program.FromAppended span = appended_edits span.first span.bytes.now
program_edits program.OldOption span = quiet_edits span.first span.bytes.now
program_edits _ span = []

-- what a call of formail does with fields; sed, which takes the text up to the first empty line for the header, is for a program that
-- gets one
abbrev pub field_edits : ReplyForm → Span → List Span → List Edit
field_edits reply.ReplyField span all = reply_edits span.first span.bytes.now
field_edits reply.TrustAlone span all = trust_edits span.first span.bytes.now
field_edits reply.EmptyField span all = if gets_body span all then [] else empty_edits span.first span.bytes.now
field_edits reply.FromRemoved span all = removed_edits span.first span.bytes.now
field_edits _ span all = []

-- a form, in the span where it was found, with the spans after it and all spans
abbrev pub form_edits : Form → Span → List Span → List Span → List Edit
form_edits (any.Variable form) span spans all = variable_edits form span spans
form_edits (any.Condition form) span spans all = condition_edits form span all
form_edits (any.Search form) span spans all = search_edits form span
form_edits (any.Mailbox form) span spans all = mailbox_edits form span
form_edits (any.Program form) span spans all = program_edits form span
form_edits (any.Reply form) span spans all = field_edits form span all
form_edits _ span spans all = []

-- an automatic lock file of a block
abbrev pub block_edits : RecipeForm → Span → List Edit
block_edits recipe.BlockAutoLock span = automatic_edits span.first span.bytes.now
block_edits _ span = []

-- a lock file of a mailbox
abbrev pub mailbox_lock_edits : MailboxForm → Span → List Edit
mailbox_lock_edits mailbox.FolderLock span = automatic_edits span.first span.bytes.now
mailbox_lock_edits mailbox.OwnLock span = own_lock_edits span.first span.bytes.now (lock_of span.bytes.now)
mailbox_lock_edits _ span = []

-- a lock file of a program
abbrev pub program_lock_edits : ProgramForm → Span → List Edit
program_lock_edits program.CacheLock span = cache_lock_edits span.first span.bytes.now (lock_of span.bytes.now)
program_lock_edits program.LockWait span = lock_wait_edits span.first span.bytes.now
program_lock_edits _ span = []

-- a form of an action, in the colon line of its recipe
abbrev pub lock_edits : Form → Span → List Edit
lock_edits (any.Recipe form) span = block_edits form span
lock_edits (any.Mailbox form) span = mailbox_lock_edits form span
lock_edits (any.Program form) span = program_lock_edits form span
lock_edits _ span = []

-- forms, in the span where they were found
abbrev pub all_form_edits : List Form → Span → List Span → List Span → List Edit
all_form_edits [] span spans all = []
all_form_edits (form ∷ forms) span spans all = form_edits form span spans all ++ all_form_edits forms span spans all

-- forms of an action, in the colon line
abbrev pub all_lock_edits : List Form → Span → List Edit
all_lock_edits [] span = []
all_lock_edits (form ∷ forms) span = lock_edits form span ++ all_lock_edits forms span

-- the kinds that are brought over
abbrev pub moves_variable : VariableForm → Bool
moves_variable variable.Host = true
moves_variable variable.NoEffect = true
moves_variable variable.LogAbstract = true
moves_variable variable.Delivered = true
moves_variable variable.OpenBrace = true
moves_variable _ = false

abbrev pub moves_recipe : RecipeForm → Bool
moves_recipe recipe.BlockAutoLock = true
moves_recipe _ = false

abbrev pub moves_condition : ConditionForm → Bool
moves_condition condition.LateWeight = true
moves_condition condition.VariableWeight = true
moves_condition condition.Continued = true
moves_condition _ = false

abbrev pub moves_search : SearchForm → Bool
moves_search search.Backslash = true
moves_search search.MatchEnd = true
moves_search search.TwoAnchors = true
moves_search _ = false

abbrev pub moves_mailbox : MailboxForm → Bool
moves_mailbox mailbox.Several = true
moves_mailbox mailbox.Hash = true
moves_mailbox mailbox.MatchName = true
moves_mailbox mailbox.OwnLock = true
moves_mailbox mailbox.FolderLock = true
moves_mailbox _ = false

abbrev pub moves_program : ProgramForm → Bool
moves_program program.CacheLock = true
moves_program program.CacheLength = true
moves_program program.FromAppended = true
moves_program program.LockWait = true
moves_program _ = false

abbrev pub moves_field : ReplyForm → Bool
moves_field reply.ReplyField = true
moves_field reply.TrustAlone = true
moves_field reply.EmptyField = true
moves_field reply.FromRemoved = true
moves_field _ = false

abbrev pub moves : Form → Bool
moves (any.Variable form) = moves_variable form
moves (any.Expanded form) = false
moves (any.Recipe form) = moves_recipe form
moves (any.Condition form) = moves_condition form
moves (any.Search form) = moves_search form
moves (any.Mailbox form) = moves_mailbox form
moves (any.Program form) = moves_program form
moves (any.Reply form) = moves_field form
