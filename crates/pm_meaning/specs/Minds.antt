-- A process as the meaning sees it.
use Rattle.std.specs.Prelude.{ℕ, Bool, List, Option, reverse}
use Rattle.pm_message.specs.declared.head.Message.{Message}
use Rattle.pm_vars.specs.Table.{Table}
use Rattle.pm_meaning.specs.declared.chain.Chain.{Chain}
use Rattle.pm_meaning.specs.declared.process.Process.{Process}
use Rattle.pm_meaning.specs.declared.process.Stored.{Stored}

-- The state of a process: whether it is a mail filter, and whether a mail that isn't delivered shall be tried again later, the message
-- that it delivers, its variables, the folder from which names are seen, the host's name, the locks that it holds, the last taken
-- first, which of them is LOCKFILE's, what came of the recipes before, how many times the run has filed mail in a folder, or tried
-- to, the rcfile that is being read, how many rcfiles the run has opened, or tried to, whether this is a copy of a process that was
-- made for a block, the rcfiles of the command line that are left, and where the mail was last delivered to.
pub record Mind : Type 0 where
  pub filter : Bool
  pub fails_softly : Bool
  pub message : Message
  pub vars : Table
  pub base : List ℕ
  pub host_name : List ℕ
  pub locks : List (List ℕ)
  pub global : Option (List ℕ)
  pub chain : Chain
  pub placed : ℕ
  pub rcfile : List ℕ
  pub openings : ℕ
  pub is_clone : Bool
  pub later : List (List ℕ)
  pub stored : Stored

-- how much room there is for more locks isn't spoken of; the rcfiles that are left stand in the process with the last one first
abbrev pub mind_of : Process → Mind
mind_of p = record {
  filter = p.filter;
  fails_softly = p.fails_softly;
  message = p.message;
  vars = p.vars;
  base = p.base;
  host_name = p.host_name;
  locks = p.locks.names;
  global = p.global;
  chain = p.chain;
  placed = p.placed;
  rcfile = p.rcfile;
  openings = p.openings;
  is_clone = p.is_clone;
  later = reverse p.later.items;
  stored = p.stored;
}
