-- That entries lead from these held locks to those is a fact: it has one proof at most.
use Rattle.std.specs.Prelude.{ℕ, List, [], ◌∷◌}
use Rattle.std.specs.Coded.{×_prop, Unit-prop, Coded-set, coded_list, coded_ℕ, coded_bool}
use Rattle.pm_journal.specs.Held.{Keeps, IsFree, holds_name, held_by}
use Rattle.pm_journal.specs.declared.acts.Act.{Act}
use Rattle.pm_journal.specs.declared.acts.Act.TheVariants.{ReadFile, Probe, Append, Place, Lock, Unlock, Run, SayFile, SayErr, WriteOut, Moment}
use Rattle.pm_journal.specs.declared.acts.Entry.{Entry}
use Rattle.std.specs.Prelude.{false}

pub IsFree-prop : (act : Act) (names : List (List ℕ)) → IsProp (IsFree act names)
IsFree-prop (ReadFile name) names = Unit-prop
IsFree-prop (Probe name) names = Unit-prop
IsFree-prop (Append name piece) names = Unit-prop
IsFree-prop (Place kind folder prefix piece stamp) names = Unit-prop
IsFree-prop (Lock name sleep limit suspend tries) names = Coded-set coded_bool (holds_name names name) false
IsFree-prop (Unlock name) names = Unit-prop
IsFree-prop (Run command input want) names = Unit-prop
IsFree-prop (SayFile name text) names = Unit-prop
IsFree-prop (SayErr text) names = Unit-prop
IsFree-prop (WriteOut piece) names = Unit-prop
IsFree-prop Moment names = Unit-prop

pub Keeps-prop : (names : List (List ℕ)) (es : List Entry) (last : List (List ℕ)) → IsProp (Keeps names es last)
Keeps-prop names [] last = Coded-set (coded_list (coded_list coded_ℕ)) last names
Keeps-prop names (e ∷ es) last = ×_prop (IsFree-prop e.act names) (Keeps-prop (held_by e.act e.reply names) es last)
