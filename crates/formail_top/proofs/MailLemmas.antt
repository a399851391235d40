-- The outputs of mails, where each is an edited mail.
use Rattle.std.proofs.Common.{◌≡◌, ℕ, ℤ, false, List, [], ◌∷◌, ◌++◌, inl, refl, sym, ap, ap₂, ◌∙◌}
use Rattle.std.specs.List.{concat}
use Rattle.formail_split.specs.Children.{edited_at}
use Rattle.formail_split.specs.Mailboxes.{IsBetween}
use Rattle.formail_split.specs.Parts.{parts_of}
use Rattle.formail_split.specs.Written.{all_edited, WriteMails, EditedAreMails}
use Rattle.formail_top.specs.Laws.{AskForMails, OutputsAreMails}
use Rattle.formail_top.specs.Outputs.{output_of, outputs_of, each_output_of}
use Rattle.formail_top.proofs.Bounds.{puts_bring_none}
use Rattle.formail_top.specs.declared.request.Request.{Request}

output_is : (request : Request) (moment : ℤ) (mail : List ℕ) → request.reply ≡ false
    → output_of request moment mail ≡ edited_at moment request.edits mail
output_is request moment mail reply = rw reply refl

joined : (request : Request) (moment : ℤ) (mails : List (List ℕ)) → request.reply ≡ false
    → outputs_of request moment mails ≡ concat (all_edited moment request.edits mails)
joined request moment [] reply = refl
joined request moment (mail ∷ mails) reply =
    ap₂ (λ a b. a ++ b) (output_is request moment mail reply) (joined request moment mails reply)

each : (request : Request) (moment : ℤ) (mails : List (List ℕ)) → request.reply ≡ false
    → each_output_of request moment mails ≡ all_edited moment request.edits mails
each request moment [] reply = refl
each request moment (mail ∷ mails) reply =
    ap₂ (λ a b. a ∷ b) (output_is request moment mail reply) (each request moment mails reply)

whole : (words : List (List ℕ)) (request : Request) → AskForMails words request → WriteMails request.edits
whole words request asks = record {
  no_takes = asks.no_takes;
  from_line = asks.from_line;
  escaped = asks.escaped;
  prefix = asks.prefix;
  texts = record { renames = asks.names; puts = puts_bring_none words request asks.asked };
}

pub outputs_are_mails : EditedAreMails → OutputsAreMails
outputs_are_mails are words request asks moment mails =
    let behind : (box : List ℕ) → IsBetween box → parts_of (box ++ outputs_of request moment mails) ≡ parts_of box ++ each_output_of request moment mails =
    λ box between. ap (λ t. parts_of (box ++ t)) (joined request moment mails asks.no_reply)
    ∙ are request.edits moment box mails (whole words request asks) between
    ∙ sym (ap (λ ps. parts_of box ++ ps) (each request moment mails asks.no_reply)) in record {
      alone = behind [] (inl refl);
      behind = behind;
    }
