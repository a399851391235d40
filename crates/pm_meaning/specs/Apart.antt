-- A process by the parts that a caller has of it.
use Rattle.std.specs.Prelude.{ℕ, false, List, [], Option, Some, None}
use Rattle.pm_meaning.specs.Minds.{Mind}
use Rattle.pm_meaning.specs.Turns.{ActEnd}
use Rattle.pm_meaning.specs.declared.acted.Acted.{Acted}
use Rattle.pm_meaning.specs.declared.mind.Last.{Last}
use Rattle.pm_meaning.specs.declared.mind.Mind.{Mind as Parts}
use Rattle.pm_meaning.specs.declared.process.Stored.{Stored}

-- where the mail was last delivered to; before the first delivery that is nowhere
abbrev pub last_of : Option Last → Stored
last_of None = record { folder = []; size = 0 }
last_of (Some last) = record { folder = last.folder; size = last.length }

-- the process without what no recipe looks at: how the program was called, which rcfiles it reads, and whether it is a copy
abbrev pub bare : Mind → Mind
bare p = record p { filter = false; fails_softly = false; rcfile = []; openings = 0; is_clone = false; later = [] }

-- the process of these parts, on this host, in a run that has filed mail so many times
abbrev pub state_of : Parts → List ℕ → ℕ → Mind
state_of m host_name placed = record {
  filter = false;
  fails_softly = false;
  message = m.message;
  vars = m.vars;
  base = m.base;
  host_name = host_name;
  locks = m.locks.names;
  global = m.global;
  chain = m.chain;
  placed = placed;
  rcfile = [];
  openings = 0;
  is_clone = false;
  later = [];
  stored = last_of m.last;
}

-- an action came to this, and the process is so then
abbrev pub acted_with : Acted → Mind → ActEnd
acted_with acted p = record { acted = acted; mind = p }

-- the same of the bare process
abbrev pub bare_end : ActEnd → ActEnd
bare_end came = acted_with came.acted (bare came.mind)

-- a process whose conditions are judged: they look at neither the host's name nor how often mail was filed
abbrev pub judged_of : Parts → Mind
judged_of m = state_of m [] 0
