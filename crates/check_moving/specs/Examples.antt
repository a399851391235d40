-- Which forms short texts have, as procmailrc(5), procmailsc(5) and formail(1) tell them apart.
use Rattle.std.specs.Prelude.{◌≡◌, ℕ, Bool, true, false, List, [], ◌∷◌, ◌++◌, codes}
use Rattle.pm_recipe.specs.Weights.{condition_of}
use Rattle.pm_recipe.specs.declared.fronts.Kind.{Kind}
use Rattle.pm_recipe.specs.declared.fronts.Kind.TheVariants.{Assign, Capture, Close, Condition, Forward, Pipe, Unset}
use Rattle.pm_recipe.specs.declared.spans.Span.{Span}
use Rattle.check_moving.specs.Calls.{calls_in}
use Rattle.check_moving.specs.Conditions.{conditioned}
use Rattle.check_moving.specs.Expanded.{expanded}
use Rattle.check_moving.specs.Kept.{kept}
use Rattle.check_moving.specs.Leads.{front_of}
use Rattle.check_moving.specs.Mailboxes.{filed_by}
use Rattle.check_moving.specs.Names.{names_by}
use Rattle.check_moving.specs.Recipes.{begun, opened, sent}
use Rattle.check_moving.specs.Searches.{searched_by}
use Rattle.check_moving.specs.Standing.{after, after_colon, begin}
use Rattle.check_moving.specs.Variables.{assigned, valued}
use Rattle.check_moving.specs.Words.{words_of}
use Rattle.check_moving.specs.declared.form.Form.{Form}
use Rattle.check_moving.specs.declared.form.Form.TheVariants as any
use Rattle.check_moving.specs.declared.form.VariableForm.TheVariants as variable
use Rattle.check_moving.specs.declared.form.ExpandedForm.TheVariants as expanded_form
use Rattle.check_moving.specs.declared.form.RecipeForm.TheVariants as recipe
use Rattle.check_moving.specs.declared.form.ConditionForm.TheVariants as condition
use Rattle.check_moving.specs.declared.form.SearchForm.TheVariants as search
use Rattle.check_moving.specs.declared.form.MailboxForm.TheVariants as mailbox
use Rattle.check_moving.specs.declared.form.ProgramForm.TheVariants as program
use Rattle.check_moving.specs.declared.form.ReplyForm.TheVariants as reply
use Rattle.check_moving.specs.declared.standing.Standing.{Standing}

-- the forms of an assignment
abbrev pub of_value : List ℕ → List ℕ → List Form
of_value name value = kept (assigned name value) ++ kept (valued name value)

-- the forms of a text that is expanded, after a recipe without weights
abbrev pub of_text : List ℕ → List Form
of_text text = kept (expanded false text)

-- the forms of what stands before an expression, after a star
abbrev pub of_condition : List ℕ → List Form
of_condition text = kept (conditioned false text (condition_of text).weight (front_of (condition_of text).text))

-- the forms of an expression, after a star
abbrev pub of_search : List ℕ → List Form
of_search text = searched_by [] (condition_of text).weight (front_of (condition_of text).text)

-- the same where the variable X begins with an anchor
abbrev pub of_search_with_x : List ℕ → List Form
of_search_with_x text = searched_by (codes "X" ∷ []) (condition_of text).weight (front_of (condition_of text).text)

-- the forms of the calls in a line, without a lock file
abbrev pub of_line : List ℕ → List Form
of_line text = calls_in [] (words_of text)

-- assignments
pub record OfVariables : Type 0 where
  pub umask : of_value (codes "UMASK") (codes "007") ≡ any.Variable variable.Umask ∷ []
  pub linebuf : of_value (codes "LINEBUF") (codes "65536") ≡ any.Variable variable.NoEffect ∷ []
  pub zero : of_value (codes "EXITCODE") (codes "0") ≡ any.Variable variable.ExitCode ∷ []
  pub other : of_value (codes "EXITCODE") (codes "75") ≡ []
  pub on : of_value (codes "DELIVERED") (codes "\"on\"") ≡ any.Variable variable.Delivered ∷ []
  pub yes : of_value (codes "DELIVERED") (codes "yes") ≡ []
  pub off : of_value (codes "LOGABSTRACT") (codes "off") ≡ any.Variable variable.LogAbstract ∷ []
  pub bar : of_value (codes "DEFAULT") (codes "\"|cat\"") ≡ any.Variable variable.DefaultProgram ∷ []
  pub lock : of_value (codes "LOCKFILE") (codes "l") ≡ any.Variable variable.LockFile ∷ []
  pub no_lock : of_value (codes "LOCKFILE") [] ≡ []
  -- a blank ends the value
  pub unclosed : of_value (codes "X") (codes "${Y:-") ≡ any.Variable variable.OpenBrace ∷ []
  pub range : of_value (codes "S") (codes "'[/-,. ]+'") ≡ any.Search search.Range ∷ []
  pub text : of_value (codes "LOG") (codes "\"[z-a]\"") ≡ []
  pub output : of_value (codes "X") (codes "`tr '[z-a]' x`") ≡ []

-- what is expanded
pub record OfExpanded : Type 0 where
  pub arguments : of_text (codes "\"$@\"") ≡ any.Expanded expanded_form.Arguments ∷ []
  -- not in single quotes, and not after a backslash
  pub single : of_text (codes "'$@' \\$@") ≡ []
  pub underscore : of_text (codes "$_x") ≡ any.Expanded expanded_form.Underscore ∷ []
  pub digit : of_text (codes "${1}") ≡ any.Expanded expanded_form.Brace ∷ []
  pub dollar : of_text (codes "${$A:-x}") ≡ any.Expanded expanded_form.Brace ∷ []
  pub length : of_text (codes "${#A}") ≡ any.Expanded expanded_form.Brace ∷ []
  pub percent : of_text (codes "${A%x}") ≡ any.Expanded expanded_form.Brace ∷ []
  pub default : of_text (codes "${A:-x}${B:+y}${C}") ≡ []
  pub command : of_text (codes "${A:-`date`}") ≡ any.Expanded expanded_form.Command ∷ []
  pub score : of_text (codes "$=") ≡ any.Expanded expanded_form.Score ∷ []
  pub weighted : kept (expanded true (codes "$=")) ≡ []

-- conditions
pub record OfConditions : Type 0 where
  pub late : of_condition (codes " B ?? 1^1 x") ≡ any.Condition condition.LateWeight ∷ []
  pub first : of_condition (codes " 1^1 B ?? x") ≡ []
  pub variable : of_condition (codes " $ $X^0 x") ≡ any.Condition condition.VariableWeight ∷ []
  pub braces : of_condition (codes " $ -${X}^1 x") ≡ any.Condition condition.VariableWeight ∷ []
  pub whole : of_condition (codes " $ $COND") ≡ any.Condition condition.VariableCondition ∷ []
  pub power : of_condition (codes " 1^4 > 10") ≡ any.Condition condition.SizeWeight ∷ []
  pub signal : of_condition (codes " X ?? ^^-9^^") ≡ any.Condition condition.SignalCode ∷ []
  -- expressions
  pub backslash : of_search (codes " \\<x") ≡ any.Search search.Backslash ∷ []
  pub quote : of_search (codes " $ ^X: \"y\"") ≡ any.Search search.Quote ∷ []
  pub no_dollar : of_search (codes " ^X: \"y\"") ≡ []
  pub inverted : of_search (codes " ! ^X: \\/y") ≡ any.Search search.InvertedMatch ∷ []
  pub twice : of_search (codes " !! ^X: \\/y") ≡ []
  pub end : of_search (codes " ^X: \\/.*$") ≡ any.Search search.MatchEnd ∷ []
  pub word_end : of_search (codes " ^X: \\/y\\>") ≡ any.Search search.MatchEnd ∷ []
  pub group_end : of_search (codes " ^X: \\/(.*$)+") ≡ any.Search search.MatchEnd ∷ []
  pub dollar_end : of_search (codes " ^X: \\/(y\\$)") ≡ []
  pub begin : of_search (codes " ()\\/^X:") ≡ any.Search search.MatchBegin ∷ []
  pub edge : of_search (codes " x\\/\\>") ≡ any.Search search.MatchEnd ∷ any.Search search.MatchBegin ∷ []
  pub line_end : of_search (codes " x\\/$y") ≡ any.Search search.MatchBegin ∷ []
  pub group : of_search (codes " x\\/((\\<y|z)u)") ≡ any.Search search.MatchBegin ∷ []
  pub alternative : of_search (codes " x\\/([|0-9]|y(z|u)|\\<v)") ≡ any.Search search.MatchBegin ∷ []
  pub inner_alternative : of_search (codes " x\\/(y(z|\\<u)|v)") ≡ []
  pub later : of_search (codes " ^X: \\/y\\<z") ≡ []
  pub text_start : of_search (codes " x\\/^^y") ≡ []
  pub member : of_search (codes " x\\/[|^]y") ≡ []
  pub joined : of_search (codes " x\\/(\\\n\\<y)") ≡ any.Search search.MatchBegin ∷ []
  pub not_set : of_search (codes " ! x\\/^y") ≡ any.Search search.InvertedMatch ∷ []
  -- by a variable
  pub named : of_search_with_x (codes " $ B ?? ()\\/$X.*") ≡ any.Search search.MatchBegin ∷ []
  pub in_braces : of_search_with_x (codes " $ B ?? ()\\/(${X}|y)") ≡ any.Search search.MatchBegin ∷ []
  pub other_name : of_search_with_x (codes " $ B ?? ()\\/$XY") ≡ []
  pub escaped_name : of_search_with_x (codes " $ B ?? ()\\/$\\X") ≡ []
  pub no_variable : of_search_with_x (codes " B ?? ()\\/[$X]") ≡ []
  pub counted : of_search (codes " 1^1 x\\/y") ≡ any.Search search.WeightedMatch ∷ []
  pub anchors : of_search (codes " ^X:.*$^Y:") ≡ any.Search search.TwoAnchors ∷ []
  pub blanks : of_search (codes " ^X: a  b") ≡ any.Search search.TwoBlanks ∷ []
  pub in_a_set : of_search (codes " ^X: a[  ]b") ≡ []
  pub empty : of_search (codes " 1^1 x*") ≡ any.Search search.EmptyMatch ∷ []
  pub lines : of_search (codes " 1^1 B ?? ^.*$") ≡ any.Search search.LineCount ∷ []
  pub down : of_search (codes " ^X: [z-a]") ≡ any.Search search.Range ∷ []
  pub negated : of_search (codes " $ ^X: [^/-,. ]$Y") ≡ any.Search search.Range ∷ []
  pub once_more : of_search (codes " ^X: [a-c-e]") ≡ any.Search search.Range ∷ []
  pub up : of_search (codes " ^X: [a-cx-z0-9]") ≡ []
  pub one_byte : of_search (codes " ^X: [a-a]") ≡ []
  pub last : of_search (codes " ^X: [a-c-][z-]") ≡ []
  pub bracket : of_search (codes " ^X: []-a][]-A]") ≡ any.Search search.Range ∷ []
  pub escaped : of_search (codes " ^X: \\[z-a\\]") ≡ []
  pub unclosed : of_search (codes " ^X: [z-a") ≡ []
  pub by_variable : of_search (codes " $ ^X: [$A-$B]") ≡ []
  -- a program's line and a size are none
  pub program : of_search (codes " ? test  \\$^") ≡ []

-- the variables whose values begin with an anchor
pub record OfNames : Type 0 where
  pub added : names_by Assign (codes "X") (codes "\"(a|\\<b)\"") [] ≡ codes "X" ∷ []
  pub single : names_by Assign (codes "X") (codes "'$'") [] ≡ codes "X" ∷ []
  pub last : names_by Assign (codes "Y") (codes "^a") (codes "Y" ∷ codes "X" ∷ []) ≡ codes "X" ∷ codes "Y" ∷ []
  pub by_another : names_by Assign (codes "Y") (codes "\"$X\"") (codes "X" ∷ []) ≡ codes "X" ∷ codes "Y" ∷ []
  pub other_value : names_by Assign (codes "X") (codes "\"a^\"") (codes "X" ∷ []) ≡ []
  -- the backslash isn't in the value
  pub no_quotes : names_by Assign (codes "X") (codes "\\<a") [] ≡ []
  pub unset : names_by Unset (codes "X") [] (codes "X" ∷ codes "Y" ∷ []) ≡ codes "Y" ∷ []
  pub captured : names_by Capture (codes "X") (codes "cat") (codes "X" ∷ []) ≡ []
  pub condition : names_by Condition [] (codes " x") (codes "X" ∷ []) ≡ codes "X" ∷ []

-- a span of this kind without a text
abbrev pub bare : Kind → Span
bare kind = record {
  kind = kind;
  line = 1;
  first = 0;
  name = record { ref_ptr = (0, 0); now = [] };
  text = record { ref_ptr = (0, 0); now = [] };
  bytes = record { ref_ptr = (0, 0); now = [] };
}

-- whether a recipe's exit status isn't looked at, after spans of these kinds
abbrev pub unwatched_from : Standing → List Kind → Bool
unwatched_from standing [] = standing.unwatched
unwatched_from standing (kind ∷ kinds) = unwatched_from (after (bare kind) standing) kinds

-- below this colon line
abbrev pub unwatched_by : List ℕ → List Kind → Bool
unwatched_by colon kinds = unwatched_from (after_colon colon (begin [])) kinds

-- mailboxes, colon lines and blocks
pub record OfRecipes : Type 0 where
  pub several : kept (filed_by (codes ":0:") false (codes "my mail")) ≡ any.Mailbox mailbox.Several ∷ []
  pub comment : kept (filed_by (codes ":0:") false (codes "mbox # x")) ≡ []
  pub hash : kept (filed_by (codes ":0:") false (codes "mbox#1")) ≡ any.Mailbox mailbox.Hash ∷ []
  pub named : kept (filed_by (codes ":0:") false (codes "l-$MATCH")) ≡ any.Mailbox mailbox.MatchName ∷ []
  pub quoted : kept (filed_by (codes ":0:") false (codes "\"l-$MATCH\"")) ≡ []
  pub maildir : kept (filed_by (codes ":0") false (codes "md/")) ≡ any.Mailbox mailbox.FromLine ∷ []
  pub told : kept (filed_by (codes ":0") true (codes "md/")) ≡ []
  pub raw : kept (filed_by (codes ":0 r:") false (codes "mbox")) ≡ any.Mailbox mailbox.Raw ∷ []
  pub own : kept (filed_by (codes ":0:mbox") false (codes "mbox")) ≡ any.Mailbox mailbox.OwnLock ∷ []
  pub folder : kept (filed_by (codes ":0:") true (codes "md/")) ≡ any.Mailbox mailbox.FolderLock ∷ []
  pub chain : kept (begun true false false [] (codes ":0 A")) ≡ any.Recipe recipe.FirstChain ∷ []
  pub no_chain : kept (begun false false false [] (codes ":0 A")) ≡ []
  pub after : kept (begun false true false [] (codes ":0 e")) ≡ any.Recipe recipe.AfterBlock ∷ []
  pub held : kept (begun false false false (codes "g") (codes ":0:g")) ≡ any.Recipe recipe.HeldLock ∷ []
  pub lock : kept (opened (codes ":0:b.lock")) ≡ any.Recipe recipe.BlockLock ∷ []
  pub automatic : kept (opened (codes ":0:")) ≡ any.Recipe recipe.BlockAutoLock ∷ []
  pub copy : kept (opened (codes ":0 c")) ≡ any.Recipe recipe.BlockCopy ∷ []
  -- an exit status that 3.22 looks at
  pub locked : kept (sent (codes ":0:p.lock")) ≡ any.Program program.LockWait ∷ []
  pub locked_itself : kept (sent (codes ":0 h:")) ≡ any.Program program.LockWait ∷ []
  pub not_locked : kept (sent (codes ":0 h # x: y")) ≡ []
  pub waits : kept (sent (codes ":0 w:p.lock")) ≡ []
  pub waits_quietly : kept (sent (codes ":0 W:p.lock")) ≡ []
  pub filters : kept (sent (codes ":0 f:p.lock")) ≡ []
  pub copies : kept (sent (codes ":0 c:p.lock")) ≡ []
  pub after_lock : kept (begun false false true [] (codes ":0 a")) ≡ any.Recipe recipe.AfterLock ∷ []
  pub error_after_lock : kept (begun false false true [] (codes ":0 e")) ≡ any.Recipe recipe.AfterLock ∷ []
  pub else_after_lock : kept (begun false false true [] (codes ":0 E")) ≡ []
  pub copy_before : unwatched_by (codes ":0 c:p.lock") (Pipe ∷ []) ≡ true
  pub forward_before : unwatched_by (codes ":0 c:") (Forward ∷ []) ≡ true
  pub capture_before : unwatched_by (codes ":0:p.lock") (Capture ∷ []) ≡ true
  pub waits_before : unwatched_by (codes ":0 w:p.lock") (Capture ∷ []) ≡ false
  pub delivery_before : unwatched_by (codes ":0:p.lock") (Pipe ∷ []) ≡ false
  pub filter_before : unwatched_by (codes ":0 fc:p.lock") (Pipe ∷ []) ≡ false
  pub block_between : unwatched_by (codes ":0 c:p.lock") (Pipe ∷ Close ∷ []) ≡ false
  pub value_between : unwatched_by (codes ":0 c:p.lock") (Pipe ∷ Assign ∷ []) ≡ true

-- calls of formail
pub record OfCalls : Type 0 where
  pub together : of_line (codes " formail -rtzxTo:") ≡ any.Reply reply.ReplyField ∷ []
  pub apart : of_line (codes "\"`formail -x To: -rt`\"") ≡ any.Reply reply.ReplyField ∷ []
  -- two calls, and the letters of an argument
  pub two : of_line (codes " formail -rt | formail -zxTo:") ≡ []
  pub argument : of_line (codes " formail -A \"X: -rx\" -I -rtx:") ≡ []
  pub quoted : of_line (codes " formail -rt -A \"X: a | formail -x To:\"") ≡ []
  pub digest : of_line (codes " formail +1 -ds >>d") ≡ any.Program program.Digest ∷ []
  pub length : of_line (codes " formail -D 2000000 c") ≡ any.Program program.CacheLength ∷ []
  pub right : of_line (codes " $FORMAIL -D 8192 c") ≡ []
  pub options : of_line (codes " formail -D 8192 c -xTo:") ≡ any.Program program.CacheOptions ∷ []
  pub lock : calls_in (codes "c$LOCKEXT") (words_of (codes " formail -D 8192 c")) ≡ any.Program program.CacheLock ∷ []
  pub other : calls_in (codes "d$LOCKEXT") (words_of (codes " formail -D 8192 c")) ≡ []
  pub output : of_line (codes " formail -s cat >>o") ≡ any.Program program.SplitOutput ∷ []
  -- the options of the program aren't those of formail
  pub no_output : of_line (codes " formail -s procmail -d") ≡ []
  pub appended : of_line (codes " formail -f >>o") ≡ any.Program program.FromAppended ∷ []
  pub keep : of_line (codes " formail -rk") ≡ any.Reply reply.ReplyKeep ∷ []
  pub trust : of_line (codes " formail -t") ≡ any.Reply reply.TrustAlone ∷ []
  pub empty : of_line (codes " formail -I\"\"") ≡ any.Reply reply.EmptyField ∷ []
  pub removed : of_line (codes " formail -I 'From '") ≡ any.Reply reply.FromRemoved ∷ []
  pub kept_away : of_line (codes " formail -f -I 'From '") ≡ []
  pub added : of_line (codes " formail -a \"From \"") ≡ any.Reply reply.FromAdded ∷ []
  pub made : of_line (codes " formail -a Date:") ≡ any.Reply reply.MadeField ∷ []
  pub partial : of_line (codes " formail -u S") ≡ any.Reply reply.PartialName ∷ []
  pub old : of_line (codes " formail -B") ≡ any.Program program.OldOption ∷ []
