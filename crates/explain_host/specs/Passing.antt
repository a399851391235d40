-- How a call reaches a host.
use Rattle.std.specs.Prelude.{◌≡◌, ◌⊎◌}
use Rattle.pm_host.specs.Told.{HostView, Makes}
use Rattle.pm_host.specs.World.{IsFailed}
use Rattle.pm_host.specs.declared.calls.Call.{Call}
use Rattle.pm_host.specs.declared.calls.Answer.{Answer}

-- the host took the call and gave the answer; or memory was wanting for a name, the host took none, and the answer says
-- that the call failed
abbrev pub Passes : Call → Answer → HostView → HostView → Type 0
Passes call answer before after = Makes call answer before after ⊎ (IsFailed answer × (after ≡ before))
