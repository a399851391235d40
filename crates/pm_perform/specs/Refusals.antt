-- What comes of the texts and names of an action: it goes on, or is refused.
use Rattle.std.specs.Prelude.{◌≡◌, Result, Ok, Err}
use Rattle.pm_journal.specs.Plan.{Plan}
use Rattle.pm_meaning.specs.Minds.{Mind}
use Rattle.pm_meaning.specs.Turns.{ActEnd, overflow_act, refuse_act}
use Rattle.pm_perform.specs.declared.refusing.Refusal.{Refusal}
use Rattle.pm_perform.specs.declared.refusing.Refusal.TheVariants.{TooLong, Unusable, Memory}

-- the plan logs the refusal, and the action fails; if memory ran out nothing is said of the plan
abbrev pub Refuses : Plan ActEnd → Mind → Refusal → Type 0
Refuses plan p (TooLong length) = overflow_act length p ≡ plan
Refuses plan p (Unusable cause text) = refuse_act cause text.now p ≡ plan
Refuses plan p Memory = Unit {0}

-- the plan goes on so by the answer of a stage, or logs its refusal
abbrev pub Continues : {A : Type 0} → (A → Plan ActEnd) → Plan ActEnd → Mind → Result A Refusal → Type 0
Continues next plan p (Ok answer) = next answer ≡ plan
Continues next plan p (Err refusal) = Refuses plan p refusal
