-- What a delivery to destinations leaves in the journal.
use Rattle.std.specs.Prelude.{◌≡◌, ◌⊎◌, ℕ, cond, List, [], ◌∷◌, ◌++◌, Option, Some, None}
use Rattle.pm_recipe.specs.declared.tree.Flags.{Flags}
use Rattle.pm_journal.specs.Plan.{Plays}
use Rattle.pm_journal.specs.declared.acts.Act.TheVariants.{Append, Place, Moment}
use Rattle.pm_journal.specs.declared.acts.Reply.TheVariants.{Done as AppendDone, IsFolder, Placed}
use Rattle.pm_journal.specs.declared.acts.Entry.{Entry}
use Rattle.pm_journal.specs.declared.placing.FolderKind.{FolderKind}
use Rattle.pm_journal.specs.declared.placing.FolderKind.TheVariants.{Plain}
use Rattle.pm_journal.specs.declared.placing.Stamp.{Stamp}
use Rattle.pm_meaning.specs.Delivering.{Filing, mailbox_piece, folder_piece, file_all}
use Rattle.pm_meaning.specs.Destinations.{full_of}
use Rattle.pm_meaning.specs.Locks.{is_nothing}
use Rattle.pm_meaning.specs.Minds.{Mind}
use Rattle.pm_meaning.specs.declared.process.Destination.{Destination}
use Rattle.pm_meaning.specs.declared.process.Filed.TheVariants.{Stored}

-- the piece was filed in this folder
abbrev pub IsPlaced : FolderKind → List ℕ → List ℕ → List Entry → Type 0
IsPlaced kind folder piece (m ∷ e ∷ []) =
    (prefix : List ℕ) × (stamp : Stamp) × (name : List ℕ) × (m.act ≡ Moment) × (e.act ≡ Place kind folder prefix piece stamp) × (e.reply ≡ Placed name)
IsPlaced kind folder piece other = ⊥

-- the first piece was appended to this file; or a folder stood there, in which the second one was filed
abbrev pub IsAppended : List ℕ → List ℕ → List ℕ → List Entry → Type 0
IsAppended name mail own [] = ⊥
IsAppended name mail own (e ∷ es) =
    (e.act ≡ Append name mail) × (((e.reply ≡ AppendDone) × (es ≡ [])) ⊎ ((e.reply ≡ IsFolder) × IsPlaced Plain name own es))

-- by these entries a destination got the mail; `/dev/null` takes it without any
abbrev pub HasMail : Option FolderKind → List ℕ → List ℕ → List ℕ → List Entry → Type 0
HasMail None name mail own es = cond (is_nothing name) (es ≡ []) (IsAppended name mail own es)
HasMail (Some kind) name mail own es = IsPlaced kind name own es

-- by these entries each destination got the mail, one after the other
abbrev pub AllHave : List ℕ → List ℕ → List ℕ → List Destination → List Entry → Type 0
AllHave base mail own [] es = es ≡ []
AllHave base mail own (d ∷ ds) es =
    (front : List Entry) × (rest : List Entry) × (es ≡ front ++ rest) × HasMail d.kind (full_of base d) mail own front × AllHave base mail own ds rest

-- over entries with which all destinations have the mail, each got it
abbrev pub StoredIsDone : Type 0
StoredIsDone =
    (flags : Flags) (destinations : List Destination) (p : Mind) (entries : List Entry) (filing : Filing) → Plays (file_all flags destinations p) entries filing
    → filing.filed ≡ Stored → AllHave p.base (mailbox_piece flags p) (folder_piece flags p) destinations entries
