-- What formail writes for its input.
use Rattle.std.specs.Prelude.{ℕ, ℤ, Bool, true, false, Option, Some, None, option_map, List, [], ◌∷◌, map, take, if◌then◌else◌}
use Rattle.std.specs.List.{list_any, flat_map}
use Rattle.pm_message.specs.Split.{split_of}
use Rattle.formail_edit.specs.Output.{edited}
use Rattle.formail_edit.specs.Sender.{sender_for, line_at}
use Rattle.formail_extra.specs.Reply.{reply_of, envelope_of}
use Rattle.formail_extra.specs.Seen.{identifier_of}
use Rattle.formail_split.specs.Parts.{parts_of, selected}
use Rattle.formail_top.specs.declared.request.Request.{Request}

-- the mails of the input: under `-s` those of the mailbox that `+N` and `-N` leave, else the input is one mail
abbrev pub mails_of : Request → List ℕ → List (List ℕ)
mails_of request bytes =
    if request.split then selected request.skip request.total (parts_of bytes) else bytes ∷ []

-- the sender of the line `From ` that is put in front of a mail's output; a reply has none
abbrev pub sender_of_output : Request → List ℕ → Option (List ℕ)
sender_of_output request mail = if request.reply then None else sender_for (split_of mail) request.edits

-- such a line is put there
abbrev pub is_line_due : Option (List ℕ) → Bool
is_line_due None = false
is_line_due (Some who) = true

-- the output of some mail begins with a line that names the moment
abbrev pub wants_moment : Request → List (List ℕ) → Bool
wants_moment request mails = list_any (λ mail. is_line_due (sender_of_output request mail)) mails

-- what a mail is remembered by: its identifier, or under `-r` the first 4,096 bytes of its sender
abbrev pub id_of : Request → List ℕ → Option (List ℕ)
id_of request mail =
    if request.reply then option_map (take 4_096) (envelope_of (split_of mail)) else identifier_of (split_of mail)

-- the identifiers of mails, in order
abbrev pub ids_of : Request → List (List ℕ) → List (Option (List ℕ))
ids_of request mails = map (id_of request) mails

-- those of some mails that are kept
abbrev pub kept_of : List Bool → List (List ℕ) → List (List ℕ)
kept_of [] mails = []
kept_of kept [] = []
kept_of (true ∷ kept) (mail ∷ mails) = mail ∷ kept_of kept mails
kept_of (false ∷ kept) (mail ∷ mails) = kept_of kept mails

-- the output of one mail
abbrev pub output_of : Request → ℤ → List ℕ → List ℕ
output_of request moment mail =
    if request.reply then reply_of (split_of mail) request.trust request.edits
    else edited (split_of mail) request.edits (line_at moment (split_of mail) request.edits)

-- the outputs of some mails, one after the other
abbrev pub outputs_of : Request → ℤ → List (List ℕ) → List ℕ
outputs_of request moment mails = flat_map (output_of request moment) mails

-- the outputs of some mails, each for itself
abbrev pub each_output_of : Request → ℤ → List (List ℕ) → List (List ℕ)
each_output_of request moment mails = map (output_of request moment) mails
