-- Drafts of abstracts.
use Rattle.std.specs.Prelude.{◌≡◌, Bool, false, ◌&&◌, [], Option, Some, None, codes, bytes_eq}
use Rattle.pm_meaning.specs.Abstracts.{logs_last}
use Rattle.pm_meaning.specs.Locks.{value_or}
use Rattle.pm_meaning.specs.Minds.{Mind}
use Rattle.pm_run.specs.declared.draft.Draft.{Draft}

-- the draft is that of this process's mail, LOGFILE and directory
abbrev pub is_draft_for : Draft → Mind → Bool
is_draft_for draft p =
    bytes_eq draft.head p.message.head && bytes_eq draft.value (value_or [] (codes "LOGFILE") p.vars) && bytes_eq draft.base p.base

-- there is a draft for the process's next delivery, unless its abstract won't be logged
abbrev pub IsDrafted : Option Draft → Mind → Type 0
IsDrafted None p = logs_last p ≡ false
IsDrafted (Some draft) p = (draft.head ≡ p.message.head) × (draft.value ≡ value_or [] (codes "LOGFILE") p.vars) × (draft.base ≡ p.base)
