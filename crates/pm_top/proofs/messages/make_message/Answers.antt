use Rattle.std.proofs.Common.{refl}
use Rattle.pm_top.proofs.messages.make_message.Goals as goal

pub returns : goal.returns
returns c = rw (c.in_ok-into_vec.ensures, c.in_ok-push_slice-5.ensures.ok, c.as_bytes-3.ensures.value, c.in_ok-body.ensures.bytes, c.in_ok-push_slice-4.ensures.ok, c.in_ok-push_slice-3.ensures.ok, c.as_bytes-2.ensures.value, c.format-2.ensures.text, c.in_ok-push_slice-2.ensures.ok, c.in_ok-push_slice.ensures.ok, c.as_bytes.ensures.value, c.format.ensures.text, c.in_ok-message.ensures) refl
