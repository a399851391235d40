-- Where memory was wanting.
use Rattle.std.proofs.Common.{◌≡◌, ◌⊎◌, inl, inr, ℕ, List, Result, Ok, Err, OnErr}
use Rattle.pm_host.specs.Told.{HostView}
use Rattle.formail_top.specs.Run.{AsksFor, Leaves, LeavesOff, unasked, asked}
use Rattle.formail_top.specs.declared.request.Request.{Request}

-- what holds anyway holds after an error
pub on_err : {A E P : Type 0} (r : Result A E) → P → OnErr r P
on_err (Ok value) p = tt
on_err (Err error) p = p

-- nothing was asked, or what this request allows
pub left_off : (words : List (List ℕ)) (request : Request) (before after : HostView) → AsksFor words request → ((after ≡ before) ⊎ Leaves request.cache before after) → LeavesOff words before after
left_off words request before after read (inl same) = unasked same
left_off words request before after read (inr left) = asked request read left
