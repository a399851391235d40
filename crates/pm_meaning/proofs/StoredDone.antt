-- Destinations have the mail only by done appends and placed pieces.
use Rattle.std.proofs.Common.{◌≡◌, ℕ, true, false, List, [], ◌∷◌, refl, sym, ap, ◌∙◌, subst}
use Rattle.std.specs.Prelude.{if◌then◌else◌}
use Rattle.pm_message.specs.Piece.{piece_of}
use Rattle.pm_message.specs.declared.head.Message.{Message}
use Rattle.pm_message.specs.declared.pieces.Kind.TheVariants.{MailboxFile, Other}
use Rattle.pm_recipe.specs.declared.tree.Flags.{Flags}
use Rattle.pm_journal.specs.declared.acts.Entry.{Entry}
use Rattle.pm_journal.specs.Plan.{Plan, Ends, Plays}
use Rattle.pm_meaning.specs.Delivering.{Filing, feed_of, mailbox_piece, folder_piece, is_stored, file_one, file_all}
use Rattle.pm_meaning.specs.Laws.{AllHave}
use Rattle.pm_meaning.specs.Minds.{Mind}
use Rattle.pm_meaning.specs.declared.process.Destination.{Destination}
use Rattle.pm_meaning.specs.declared.process.Filed.{Filed}
use Rattle.pm_meaning.specs.declared.process.Filed.TheVariants.{Stored, Unwritten, Raced, Left, Crowded, Unnamed}
use Rattle.pm_journal.proofs.WalkJoin.{parts_of}
use Rattle.pm_meaning.proofs.OneFiled.{StaysSo, one_filed}

-- all have the mail, and the test says so
pub stored_is : (filed : Filed) → is_stored filed ≡ true → filed ≡ Stored
stored_is Stored h = refl
stored_is (Unwritten name) h = let e : false ≡ true = h in absurd (cc)
stored_is (Raced name) h = let e : false ≡ true = h in absurd (cc)
stored_is (Left name count) h = let e : false ≡ true = h in absurd (cc)
stored_is (Crowded name) h = let e : false ≡ true = h in absurd (cc)
stored_is Unnamed h = let e : false ≡ true = h in absurd (cc)

-- a destination without the mail: not all of them have it
stops_short : {A : Type 0} (filing last : Filing) (es : List Entry) → is_stored filing.filed ≡ false → Plays (Ends filing) es last → last.filed ≡ Stored → A
stops_short filing last [] apart h stored = let e : true ≡ false = sym (ap is_stored stored) ∙ ap (λ (f : Filing). is_stored f.filed) h ∙ apart in absurd (cc)
stops_short filing last (e ∷ es) apart h stored = absurd h

-- these destinations got this mail
abbrev all_of : Flags → List Destination → List Entry → List ℕ → Message → Type 0
all_of flags ds es base m = AllHave base (piece_of m (feed_of flags) MailboxFile flags.raw) (piece_of m (feed_of flags) Other flags.raw) ds es

-- the same destinations, seen by a process that stays so
same_all : (flags : Flags) (ds : List Destination) (p q : Mind) (es : List Entry) → StaysSo p q → AllHave q.base (mailbox_piece flags q) (folder_piece flags q) ds es
    → AllHave p.base (mailbox_piece flags p) (folder_piece flags p) ds es
same_all flags ds p q es stays h =
    let with_message : all_of flags ds es q.base p.message = subst (all_of flags ds es q.base) stays.message h in
    subst (λ base. all_of flags ds es base p.message) stays.base with_message

pub stored_is_done : (flags : Flags) (ds : List Destination) (p : Mind) (es : List Entry) (filing : Filing) → Plays (file_all flags ds p) es filing → filing.filed ≡ Stored
    → AllHave p.base (mailbox_piece flags p) (folder_piece flags p) ds es
stored_is_done flags [] p [] filing h stored = refl
stored_is_done flags [] p (e ∷ es) filing h stored = absurd h
stored_is_done flags (d ∷ ds) p es filing h stored =
    let f : Filing → Plan Filing = λ first. if is_stored first.filed then file_all flags ds first.mind else Ends first in
    let k = parts_of (file_one flags d p) f es filing h in
    let one = one_filed flags d p k.front k.middle k.plays_front in
    elim (is_stored k.middle.filed) as (λ b. is_stored k.middle.filed ≡ b → Plays (if b then file_all flags ds k.middle.mind else Ends k.middle) k.rest filing → AllHave p.base (mailbox_piece flags p) (folder_piece flags p) (d ∷ ds) es) [
      | true ↦ λ e l. (k.front, k.rest, k.whole, one.done (stored_is k.middle.filed e), same_all flags ds p k.middle.mind k.rest one.same (stored_is_done flags ds k.middle.mind k.rest filing l stored))
      | false ↦ λ e l. stops_short k.middle filing k.rest e l stored
    ] refl k.plays_rest
