-- What is said of each code, without the part of the rcfile that it is about.
use Rattle.std.specs.Prelude.{ℕ, List, codes}
use Rattle.check_find.specs.declared.codes.Code.{Code}
use Rattle.check_find.specs.declared.codes.Code.TheVariants as any
use Rattle.check_find.specs.declared.codes.Fault.{Fault}
use Rattle.check_find.specs.declared.codes.Fault.TheVariants.{Weight, Size, Expression}
use Rattle.check_find.specs.declared.codes.Hint.{Hint}
use Rattle.check_find.specs.declared.codes.Hint.TheVariants as hint
use Rattle.check_find.specs.declared.codes.Mistake.{Mistake}
use Rattle.check_find.specs.declared.codes.Mistake.TheVariants as mistake
use Rattle.check_find.specs.declared.rules.DiskMistake.{DiskMistake}
use Rattle.check_find.specs.declared.rules.DiskMistake.TheVariants as disk

-- why a line is skipped
abbrev pub hint_text : Hint → List ℕ
hint_text hint.Other = codes "this line is not understood and is skipped"
hint_text hint.Junk = codes "a flag, or what is after the flags, is not understood"
hint_text hint.NoAction = codes "this recipe has no action line and does nothing"
hint_text hint.TooDeep = codes "blocks are nested over 1000 deep"
hint_text hint.MissingBrace = codes "the block that begins here has no } at its end"
hint_text hint.OpenQuote = codes "a quote is not closed"
hint_text hint.NoRecipe = codes "no recipe has begun here: write a line :0 before it"
hint_text hint.NoColon = codes "a recipe begins with :0"
hint_text hint.OldCount = codes "a count of conditions, as in procmail 2: write :0, and a * before each condition"
hint_text hint.ByteOrderMark = codes "the file begins with a byte order mark: save it without one"
hint_text hint.CarriageReturn = codes "the line ends with a carriage return: save the file with Unix line ends"

-- why a condition can't be evaluated
abbrev pub fault_text : Fault → List ℕ
fault_text Weight = codes "the weight is not valid: write whole numbers from -2147483647 to 2147483647, as in 10^1"
fault_text Size = codes "the size is not valid: write < or > and a number of bytes"
fault_text Expression = codes "the regular expression is not valid"

-- what is likely not meant
abbrev pub mistake_text : Mistake → List ℕ
mistake_text mistake.NoStar = codes "this condition has no * and is read as an action"
mistake_text mistake.ColonVariable = codes "variables are not expanded on the colon line: write the flags themselves"
mistake_text mistake.NoLock = codes "a mailbox file is written to without a lock file: write :0:"
mistake_text mistake.Words = codes "each of these words is a mailbox of its own: quote a name with blanks"
mistake_text mistake.Dot = codes "a dot matches any character: write \\. for a dot"
mistake_text mistake.Unanchored =
    codes "this also matches in the middle of any field: begin it with ^ and the name of a field"
mistake_text mistake.Plus = codes "a plus repeats the character before it: write \\+ for a plus"
mistake_text mistake.Tag = codes "brackets match one of the characters in them: write \\[ and \\]"
mistake_text mistake.Pcre = codes "procmail has no such operator, and these characters match themselves"
mistake_text mistake.Comment = codes "the comment is a part of the condition: write it on a line of its own"
mistake_text mistake.FilterW = codes "if this filter fails, its output replaces the mail: add the flag w"
mistake_text mistake.PipeF = codes "the output of formail is lost: add the flag f"
mistake_text mistake.Loop =
    codes "two such forwards can send a mail to each other forever: test and add an X-Loop field"
mistake_text mistake.LostPart = codes "the flag h or b alone drops a part of the mail that is delivered here"
mistake_text mistake.FormailLock =
    codes "formail takes the lock file of its cache itself, and waits for this one: give it another name"
mistake_text mistake.Tilde = codes "a tilde is not expanded here: write $HOME"
mistake_text mistake.BareWord = codes "a name alone on a line unsets this variable: is it a second action"
mistake_text mistake.Dev = codes "no mail can be delivered to this file in /dev: write /dev/null to discard the mail"
mistake_text mistake.Unreachable =
    codes "a recipe before this one delivers every mail, and this one is never executed"

-- what is found in a text
abbrev pub message_text : Code → List ℕ
message_text (any.Defect hint) = hint_text hint
message_text (any.Condition fault) = fault_text fault
message_text (any.Mistake mistake) = mistake_text mistake

-- what the disk shows
abbrev pub disk_text : DiskMistake → List ℕ
disk_text disk.TooLong = codes "the file has over 1048576 bytes and is not read"
disk_text disk.NoDirectory = codes "MAILDIR names a directory that is missing"
disk_text disk.Unreadable = codes "this rcfile can not be read"
disk_text disk.Writable = codes "other users can write to this rcfile"
disk_text disk.Recursion = codes "this rcfile includes itself"
disk_text disk.NoProgram = codes "this program is in no directory of PATH"
