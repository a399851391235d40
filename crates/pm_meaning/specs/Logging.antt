-- Where the lines of a process are logged: on `err`, or in the file of LOGFILE.
use Rattle.std.specs.Prelude.{ℕ, not, ◌&&◌, List, [], Option, Some, None, codes, if◌then◌else◌}
use Rattle.pm_bytes.specs.Path.{full_name}
use Rattle.pm_journal.specs.Held.{holds_name}
use Rattle.pm_journal.specs.declared.acts.Act.TheVariants.{SayErr, SayFile}
use Rattle.pm_journal.specs.Plan.{Plan, Ends, and_then, ask}
use Rattle.pm_meaning.specs.Locks.{value_or, is_nothing}
use Rattle.pm_meaning.specs.Texts.{is_file_text}
use Rattle.pm_meaning.specs.Minds.{Mind}

-- the file of this text, where that can be a file's name and isn't a held lock's
abbrev pub log_named : List ℕ → Mind → Option (List ℕ)
log_named text p = if is_file_text text && not (holds_name p.locks (full_name p.base text)) then Some (full_name p.base text) else None

-- LOGFILE's file
abbrev pub log_file : Mind → Option (List ℕ)
log_file p = log_named (value_or [] (codes "LOGFILE") p.vars) p

-- nothing but that it was logged
abbrev pub logged : Unit {0}
logged = tt

-- a text goes to a file, of which `/dev/null` takes it without an act, or to `err`
abbrev pub log_to : Option (List ℕ) → List ℕ → Plan (Unit {0})
log_to None text = and_then (ask (SayErr text)) (λ reply. Ends logged)
log_to (Some name) text = if is_nothing name then Ends logged else and_then (ask (SayFile name text)) (λ reply. Ends logged)

-- the text is logged
abbrev pub log : List ℕ → Mind → Plan (Unit {0})
log text p = log_to (log_file p) text
