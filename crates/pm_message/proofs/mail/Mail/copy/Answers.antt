use Rattle.pm_message.proofs.mail.Mail.copy.Goals as goal

pub invariant_of-result : goal.invariant_of-result
invariant_of-result c =
    rw (c.in_ok-copy.ensures, c.in_ok-copy-2.ensures, c.in_ok-copy_kept.ensures, c.in_ok-copy_kept-2.ensures, c.in_ok-copy_kept-3.ensures, c.in_ok-copy_piece.ensures) c.self.invariant
