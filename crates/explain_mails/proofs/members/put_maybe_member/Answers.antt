use Rattle.explain_mails.proofs.members.put_maybe_member.Goals as goal

pub returns-in-Some : goal.returns-in-Some
returns-in-Some c = rw c.in-Some.is (rw (← c.as_slice.ensures) c.put_text_member.ensures)
