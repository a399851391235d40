-- Giving back the locks at the end of a process.
use Rattle.std.proofs.Common.{ℕ, List, [], ◌∷◌, refl, subst}
use Rattle.pm_host.specs.declared.calls.Logged.{Logged}
use Rattle.pm_journal.specs.Entries.{Honest}
use Rattle.pm_journal.specs.Held.{AreUnlocks}
use Rattle.pm_journal.specs.Plan.{Plays}
use Rattle.pm_journal.specs.Replies.{IsReplyTo}
use Rattle.pm_journal.specs.declared.acts.Entry.{Entry}
use Rattle.pm_journal.proofs.ReplyOf.{protocol_reply}
use Rattle.pm_meaning.specs.Running.{unlock_each}

-- with the calls that belong to them, unlocks of these names are what giving them all back asks for
pub unlocks_played : {R : Type 0} (names : List (List ℕ)) (next : R) (given : List Entry) (groups : List (List Logged)) → AreUnlocks names given → Honest given groups
    → Plays (unlock_each names next) given next
unlocks_played [] next [] groups unlocks honest = refl
unlocks_played [] next (e ∷ es) groups unlocks honest = absurd unlocks
unlocks_played (name ∷ names) next [] groups unlocks honest = absurd unlocks
unlocks_played (name ∷ names) next (e ∷ es) [] unlocks honest = absurd honest
unlocks_played (name ∷ names) next (e ∷ es) (g ∷ gs) unlocks honest =
    let fits = subst (λ act. IsReplyTo act e.reply) unlocks.0 (protocol_reply e.act e.reply g honest.0) in
    (unlocks.0, fits, unlocks_played names next es gs unlocks.1 honest.1)
