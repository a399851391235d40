-- What of a mail is written to a mailbox or fed to a program.
use Rattle.std.specs.Prelude.{ℕ, List, [], ◌++◌, Bool, ◌||◌, nat_eq, codes, bytes_eq, if◌then◌else◌}
use Rattle.std.specs.List.{flat_map, starts_with, ends_with}
use Rattle.pm_message.specs.Lines.{lines}
use Rattle.pm_message.specs.declared.head.Message.{Message}
use Rattle.pm_message.specs.declared.pieces.Feed.{Feed}
use Rattle.pm_message.specs.declared.pieces.Feed.TheVariants.{Both, Head, Body}
use Rattle.pm_message.specs.declared.pieces.Kind.{Kind}
use Rattle.pm_message.specs.declared.pieces.Kind.TheVariants.{MailboxFile, Other}

-- a line that starts with `From ` gets `>` before it
abbrev pub escaped_line : List ℕ → List ℕ
escaped_line line = if starts_with nat_eq line (codes "From ") then codes ">" ++ line else line

-- the text with each of its lines escaped
abbrev pub escaped : List ℕ → List ℕ
escaped text = flat_map escaped_line (lines text)

-- the parts that are wanted
abbrev pub chosen : Message → Feed → List ℕ
chosen message Both = message.head ++ message.body
chosen message Head = message.head
chosen message Body = message.body

-- the chosen parts of a mail, with each `From ` line of the body escaped
abbrev pub escaped_chosen : Message → Feed → List ℕ
escaped_chosen message feed = chosen (record message { body = escaped message.body }) feed

-- the text with a newline at its end
abbrev pub with_newline : List ℕ → List ℕ
with_newline text = if ends_with nat_eq text (codes "\n") then text else text ++ codes "\n"

-- the text with a newline at its end, and then one more unless it ends with two
abbrev pub ended : List ℕ → List ℕ
ended text =
    if ends_with nat_eq (with_newline text) (codes "\n\n") then with_newline text
    else with_newline text ++ codes "\n"

-- an empty text stays so, and so does any text under the flag `r`
abbrev pub ended_unless : Bool → List ℕ → List ℕ
ended_unless raw text = if raw || bytes_eq text [] then text else ended text

-- a mailbox file gets the wanted parts escaped and ended, and anything else as they are
abbrev pub piece_of : Message → Feed → Kind → Bool → List ℕ
piece_of message feed Other raw = chosen message feed
piece_of message feed MailboxFile raw = ended_unless raw (escaped_chosen message feed)
