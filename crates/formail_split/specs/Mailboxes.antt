-- Mailboxes that deliveries made, and what is cut out of them.
use Rattle.std.specs.Prelude.{◌≡◌, ◌⊎◌, ℕ, ℤ, true, false, List, [], ◌∷◌, ◌++◌, All}
use Rattle.std.specs.List.{concat}
use Rattle.pm_message.specs.FromLine.{has_from_line, renewed_of}
use Rattle.pm_message.specs.Piece.{piece_of}
use Rattle.pm_message.specs.Split.{split_of, EndsEmpty}
use Rattle.pm_message.specs.declared.pieces.Feed.{Feed}
use Rattle.pm_message.specs.declared.pieces.Feed.TheVariants.{Body}
use Rattle.pm_message.specs.declared.pieces.Kind.TheVariants.{MailboxFile}
use Rattle.pm_message.specs.declared.renewal.Renew.{Renew}
use Rattle.pm_message.specs.declared.renewal.Renew.TheVariants.{Keep}
use Rattle.formail_split.specs.Parts.{parts_of}

-- a mail can follow here: the mailbox is empty, or its last line is
abbrev pub IsBetween : List ℕ → Type 0
IsBetween box = (box ≡ []) ⊎ EndsEmpty box

-- a text that stands alone in a mailbox: it begins with its line `From `, is one mail, and its last line is empty
pub record StandsAlone (text : List ℕ) : Type 0 where
  pub begins : has_from_line text ≡ true
  pub one : parts_of text ≡ text ∷ []
  pub ends : EndsEmpty text

-- what a delivery appends to a mailbox without the flag `r`, where the mail has its line `From ` and its head is wanted
pub record IsDelivered (piece : List ℕ) : Type 0 where
  pub mail : List ℕ
  pub feed : Feed
  pub begins : has_from_line mail ≡ true
  pub headed : feed ≡ Body → ⊥
  pub appended : piece ≡ piece_of (split_of mail) feed MailboxFile false

-- such a piece stands alone, whatever the mail's body says
abbrev pub PiecesStandAlone : Type 0
PiecesStandAlone = (piece : List ℕ) → IsDelivered piece → StandsAlone piece

-- one such delivery more is one mail more, just what was appended, and another can follow
abbrev pub DeliveriesAddOne : Type 0
DeliveriesAddOne = (box piece : List ℕ) → IsBetween box → IsDelivered piece
    → (parts_of (box ++ piece) ≡ parts_of box ++ piece ∷ []) × IsBetween (box ++ piece)

-- the mails of a mailbox after some deliveries are those of before and the pieces, in their order
abbrev pub DeliveriesAreMails : Type 0
DeliveriesAreMails = (box : List ℕ) (pieces : List (List ℕ)) → IsBetween box → All IsDelivered pieces
    → parts_of (box ++ concat pieces) ≡ parts_of box ++ pieces

-- a mail that procmail makes ready has its line `From `, unless it is kept as it came (procmail(1), option -m)
abbrev pub ReadyMailsHaveLines : Type 0
ReadyMailsHaveLines = (bytes logname : List ℕ) (renew : Renew) (moment : ℤ) → (renew ≡ Keep → ⊥)
    → has_from_line (renewed_of bytes renew logname moment) ≡ true
