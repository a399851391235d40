-- The codes of forms, and what is said of each (procmail-check(1), "Moving from 3.22").
use Rattle.std.specs.Prelude.{ℕ, List, codes}
use Rattle.check_moving.specs.declared.form.Form.{Form}
use Rattle.check_moving.specs.declared.form.Form.TheVariants as any
use Rattle.check_moving.specs.declared.form.VariableForm.{VariableForm}
use Rattle.check_moving.specs.declared.form.VariableForm.TheVariants as variable
use Rattle.check_moving.specs.declared.form.ExpandedForm.{ExpandedForm}
use Rattle.check_moving.specs.declared.form.ExpandedForm.TheVariants as expanded
use Rattle.check_moving.specs.declared.form.RecipeForm.{RecipeForm}
use Rattle.check_moving.specs.declared.form.RecipeForm.TheVariants as recipe
use Rattle.check_moving.specs.declared.form.ConditionForm.{ConditionForm}
use Rattle.check_moving.specs.declared.form.ConditionForm.TheVariants as condition
use Rattle.check_moving.specs.declared.form.SearchForm.{SearchForm}
use Rattle.check_moving.specs.declared.form.SearchForm.TheVariants as search
use Rattle.check_moving.specs.declared.form.MailboxForm.{MailboxForm}
use Rattle.check_moving.specs.declared.form.MailboxForm.TheVariants as mailbox
use Rattle.check_moving.specs.declared.form.ProgramForm.{ProgramForm}
use Rattle.check_moving.specs.declared.form.ProgramForm.TheVariants as program
use Rattle.check_moving.specs.declared.form.ReplyForm.{ReplyForm}
use Rattle.check_moving.specs.declared.form.ReplyForm.TheVariants as reply

-- codes of forms of this kind
abbrev pub variable_code : VariableForm → List ℕ
variable_code variable.Umask = codes "umask"
variable_code variable.Verbose = codes "verbose"
variable_code variable.Timeout = codes "timeout"
variable_code variable.NoEffect = codes "no-effect"
variable_code variable.Host = codes "host"
variable_code variable.ExitCode = codes "exitcode"
variable_code variable.Delivered = codes "delivered"
variable_code variable.LogAbstract = codes "logabstract"
variable_code variable.DefaultProgram = codes "default-program"
variable_code variable.LockFile = codes "lockfile"
variable_code variable.OpenBrace = codes "open-brace"

-- codes of forms of this kind
abbrev pub expanded_code : ExpandedForm → List ℕ
expanded_code expanded.Arguments = codes "arguments"
expanded_code expanded.Underscore = codes "underscore"
expanded_code expanded.Brace = codes "brace-form"
expanded_code expanded.Command = codes "brace-command"
expanded_code expanded.Score = codes "score"

-- codes of forms of this kind
abbrev pub recipe_code : RecipeForm → List ℕ
recipe_code recipe.FirstChain = codes "first-chain"
recipe_code recipe.AfterBlock = codes "after-block"
recipe_code recipe.HeldLock = codes "held-lock"
recipe_code recipe.BlockLock = codes "block-lock"
recipe_code recipe.BlockAutoLock = codes "block-auto-lock"
recipe_code recipe.BlockCopy = codes "block-copy"
recipe_code recipe.AfterLock = codes "after-lock"

-- codes of forms of this kind
abbrev pub condition_code : ConditionForm → List ℕ
condition_code condition.LateWeight = codes "late-weight"
condition_code condition.VariableWeight = codes "variable-weight"
condition_code condition.VariableCondition = codes "variable-condition"
condition_code condition.AfterGreatest = codes "after-greatest"
condition_code condition.SizeWeight = codes "size-weight"
condition_code condition.Continued = codes "continued"
condition_code condition.SignalCode = codes "signal-code"

-- codes of forms of this kind
abbrev pub search_code : SearchForm → List ℕ
search_code search.Backslash = codes "first-backslash"
search_code search.Quote = codes "condition-quote"
search_code search.InvertedMatch = codes "inverted-match"
search_code search.MatchEnd = codes "match-end"
search_code search.MatchBegin = codes "match-begin"
search_code search.WeightedMatch = codes "weighted-match"
search_code search.TwoAnchors = codes "two-anchors"
search_code search.TwoBlanks = codes "two-blanks"
search_code search.EmptyMatch = codes "empty-match"
search_code search.LineCount = codes "line-count"
search_code search.Range = codes "range"

-- codes of forms of this kind
abbrev pub mailbox_code : MailboxForm → List ℕ
mailbox_code mailbox.Several = codes "mailboxes"
mailbox_code mailbox.Hash = codes "hash"
mailbox_code mailbox.MatchName = codes "match-name"
mailbox_code mailbox.FromLine = codes "from-line"
mailbox_code mailbox.Raw = codes "raw"
mailbox_code mailbox.OwnLock = codes "own-lock"
mailbox_code mailbox.FolderLock = codes "folder-lock"

-- codes of forms of this kind
abbrev pub program_code : ProgramForm → List ℕ
program_code program.StandardError = codes "standard-error"
program_code program.CacheLock = codes "cache-lock"
program_code program.CacheOptions = codes "cache-options"
program_code program.CacheLength = codes "cache-length"
program_code program.Digest = codes "digest"
program_code program.OldOption = codes "old-option"
program_code program.SplitOutput = codes "split-output"
program_code program.FromAppended = codes "from-appended"
program_code program.LockWait = codes "lock-w"

-- codes of forms of this kind
abbrev pub reply_code : ReplyForm → List ℕ
reply_code reply.ReplyField = codes "reply-field"
reply_code reply.ReplyKeep = codes "reply-keep"
reply_code reply.TrustAlone = codes "trust-alone"
reply_code reply.EmptyField = codes "empty-field"
reply_code reply.FromRemoved = codes "from-removed"
reply_code reply.FromAdded = codes "from-added"
reply_code reply.MadeField = codes "made-field"
reply_code reply.PartialName = codes "partial-name"

-- of any kind
abbrev pub form_code : Form → List ℕ
form_code (any.Variable form) = variable_code form
form_code (any.Expanded form) = expanded_code form
form_code (any.Recipe form) = recipe_code form
form_code (any.Condition form) = condition_code form
form_code (any.Search form) = search_code form
form_code (any.Mailbox form) = mailbox_code form
form_code (any.Program form) = program_code form
form_code (any.Reply form) = reply_code form

-- what is said of forms of this kind
abbrev pub variable_text : VariableForm → List ℕ
variable_text variable.Umask = codes "UMASK has no effect: a new mailbox has the mode 600"
variable_text variable.Verbose = codes "VERBOSE has no effect: set LOGABSTRACT to all, and log values by LOG"
variable_text variable.Timeout = codes "TIMEOUT has no effect: procmail waits for a program without limit"
variable_text variable.NoEffect = codes "this variable has no effect"
variable_text variable.Host = codes "HOST alone does not end the rcfile: write HOST="
variable_text variable.ExitCode = codes "EXITCODE=0 counts as unset: write DELIVERED=yes"
variable_text variable.Delivered = codes "DELIVERED counts only with the value yes"
variable_text variable.LogAbstract = codes "LOGABSTRACT is all or no, and any other value counts as unset"
variable_text variable.DefaultProgram = codes "DEFAULT and ORGMAIL are names of files: write a last recipe with this action"
variable_text variable.LockFile = codes "after 1000 tries the run goes on without the lock of LOCKFILE: lock the recipe or a block"
variable_text variable.OpenBrace = codes "the value ends at the blank within ${: write double quotes around the whole value"

-- what is said of forms of this kind
abbrev pub expanded_text : ExpandedForm → List ℕ
expanded_text expanded.Arguments = codes "$@ stands for itself: write $1 and so on"
expanded_text expanded.Underscore = codes "$_ before a letter is another variable: write it in double quotes"
expanded_text expanded.Brace = codes "this form of ${ stands for itself"
expanded_text expanded.Command = codes "this command is executed even if ${ does not use it"
expanded_text expanded.Score = codes "$= is the score of the last recipe with weights, not 0"

-- what is said of forms of this kind
abbrev pub recipe_text : RecipeForm → List ℕ
recipe_text recipe.FirstChain = codes "A, a or e on the first recipe of a block makes procmail skip that recipe"
recipe_text recipe.AfterBlock = codes "a block that was entered counts as succeeded: a is executed after it, and e is not"
recipe_text recipe.HeldLock = codes "this lock file is already held by LOCKFILE: the recipe fails"
recipe_text recipe.BlockLock = codes "this lock file is held to the end of the block"
recipe_text recipe.BlockAutoLock = codes "a block has no automatic lock file: remove the second colon"
recipe_text recipe.BlockCopy = codes "the clone of this block is executed after the whole process, and not beside it"
recipe_text recipe.AfterLock = codes "the recipe before has a lock file and no w: its exit status is not looked at"

-- what is said of forms of this kind
abbrev pub condition_text : ConditionForm → List ℕ
condition_text condition.LateWeight = codes "a weight after $ or ?? is a part of the expression: write it first"
condition_text condition.VariableWeight = codes "a variable gives no weight: write the number itself, first"
condition_text condition.VariableCondition = codes "a weight or a backslash at the beginning of this value belongs to the expression"
condition_text condition.AfterGreatest = codes "the weight 2147483647 matches at once, and this condition is not looked at"
condition_text condition.SizeWeight = codes "the exponent of a size is at most 3"
condition_text condition.Continued = codes "the blanks at the beginning of the second line are a part of the expression"
condition_text condition.SignalCode = codes "a program that a signal ended has the code 128 and the signal: 137 for -9"

-- what is said of forms of this kind
abbrev pub search_text : SearchForm → List ℕ
search_text search.Backslash = codes "the backslash at the beginning counts: write () before it for the meaning of 3.22"
search_text search.Quote = codes "the double quotes belong to the expression: remove them"
search_text search.InvertedMatch = codes "a condition with ! sets no MATCH"
search_text search.MatchEnd = codes "MATCH does not end with a newline"
search_text search.MatchBegin = codes "MATCH does not begin with a newline"
search_text search.WeightedMatch = codes "MATCH is what the first match gave, not the last"
search_text search.TwoAnchors = codes "$ and ^ need one newline together, and not one each"
search_text search.TwoBlanks = codes "a newline in a folded field and the blank after it match one blank"
search_text search.EmptyMatch = codes "a match of no bytes counts once at each byte, and not 2147483647"
search_text search.LineCount = codes "the lines are counted, and not one more"
search_text search.Range = codes "a range goes up to a greater byte, and a - right after it is a byte like others"

-- what is said of forms of this kind
abbrev pub mailbox_text : MailboxForm → List ℕ
mailbox_text mailbox.Several = codes "each of these words is a mailbox, and not the first alone"
mailbox_text mailbox.Hash = codes "a # within a name belongs to the name"
mailbox_text mailbox.MatchName = codes "the words of MATCH can be several mailboxes: write double quotes around the name"
mailbox_text mailbox.FromLine = codes "the mail keeps its line From in a maildir: remove it by formail -f -I 'From '"
mailbox_text mailbox.Raw = codes "the flag r does not keep lines of the body from getting a >"
mailbox_text mailbox.OwnLock = codes "the lock file has the name of the mailbox: the recipe fails"
mailbox_text mailbox.FolderLock = codes "the lock file of this directory is beside it, and not in it"

-- what is said of forms of this kind
abbrev pub program_text : ProgramForm → List ℕ
program_text program.StandardError = codes "standard error goes to the server, and not to LOGFILE"
program_text program.CacheLock = codes "formail takes this lock file itself, and waits for the recipe that holds it"
program_text program.CacheOptions = codes "formail -D takes none of these options: nothing is written, with the status 64"
program_text program.CacheLength = codes "the length of a cache is from 1 to 1048576"
program_text program.Digest = codes "formail has no -d: nothing is written, with the status 64"
program_text program.OldOption = codes "formail has not all of these options: nothing is written, with the status 64"
program_text program.SplitOutput = codes "the output of the programs that formail -s starts is lost"
program_text program.FromAppended = codes "formail -f adds no empty line at the end of the mail"
program_text program.LockWait = codes "if this fails, the mail is lost in spite of the lock file: add the flag w"

-- what is said of forms of this kind
abbrev pub reply_text : ReplyForm → List ℕ
reply_text reply.ReplyField = codes "formail -r with x, X or R is refused: write formail -rt | formail -zxTo:"
reply_text reply.ReplyKeep = codes "formail -r with k writes the body as it is, without >"
reply_text reply.TrustAlone = codes "formail -t without -r is refused: remove the t"
reply_text reply.EmptyField = codes "an empty name of a field is refused: use sed"
reply_text reply.FromRemoved = codes "formail -I 'From ' without -f makes a new line From"
reply_text reply.FromAdded = codes "formail -a 'From ' is refused"
reply_text reply.MadeField = codes "formail -a adds nothing without a text"
reply_text reply.PartialName = codes "-u and -U take all fields whose names begin so: write the name with its colon"

-- of any kind
abbrev pub form_text : Form → List ℕ
form_text (any.Variable form) = variable_text form
form_text (any.Expanded form) = expanded_text form
form_text (any.Recipe form) = recipe_text form
form_text (any.Condition form) = condition_text form
form_text (any.Search form) = search_text form
form_text (any.Mailbox form) = mailbox_text form
form_text (any.Program form) = program_text form
form_text (any.Reply form) = reply_text form
