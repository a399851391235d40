-- What a mail keeps of what was made of it.
use Rattle.std.specs.Prelude.{◌≡◌, IfSome, false}
use Rattle.pm_message.specs.Area.{area_of}
use Rattle.pm_message.specs.Piece.{piece_of, ended_unless}
use Rattle.pm_message.specs.Split.{whole_of}
use Rattle.pm_message.specs.declared.areas.Place.TheVariants.{H, Hb}
use Rattle.pm_message.specs.declared.mail.Mail.TheInside.{Inside}
use Rattle.pm_message.specs.declared.pieces.Kind.TheVariants.{MailboxFile}

-- the one piece is its own, also with the newlines that end it, and so is each area that it keeps, and what a mailbox gets
pub record AreKept (mail : Inside) : Type 0 where
  pub whole : mail.whole ≡ whole_of mail.parts
  pub ended : IfSome mail.ended (λ text. text ≡ ended_unless false (whole_of mail.parts))
  pub head : IfSome mail.head_area (λ area. area ≡ area_of mail.parts H)
  pub both : IfSome mail.both_areas (λ area. area ≡ area_of mail.parts Hb)
  pub mailbox : IfSome mail.mailbox (λ kept. kept.piece ≡ piece_of mail.parts kept.feed MailboxFile kept.raw)
