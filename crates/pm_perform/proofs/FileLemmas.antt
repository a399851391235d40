-- Deliveries to files and folders in plans.
use Rattle.std.proofs.Common.{◌≡◌, ◌≤◌, ◌+◌, Bool, true, false, Option, Some, None, List, ℕ, [], ◌∷◌, length, map, refl, sym, ap, ◌∙◌, subst}
use Rattle.std.specs.Prelude.{if◌then◌else◌}
use Rattle.pm_bytes.specs.Name.{is_usable}
use Rattle.pm_bytes.specs.Path.{full_name}
use Rattle.pm_message.specs.Piece.{piece_of}
use Rattle.pm_message.specs.declared.head.Message.{Message}
use Rattle.pm_message.specs.declared.pieces.Kind.TheVariants.{MailboxFile, Other}
use Rattle.pm_journal.specs.JournalState.{JournalState}
use Rattle.pm_journal.specs.Entries.{View}
use Rattle.pm_journal.specs.Noted.{NotesAct}
use Rattle.pm_journal.specs.declared.acts.Act.TheVariants.{Append}
use Rattle.pm_journal.specs.declared.acts.Reply.{Reply}
use Rattle.pm_journal.specs.declared.acts.Reply.TheVariants.{Done, IsFolder, Torn, Raced as RacedReply}
use Rattle.pm_journal.specs.declared.placing.FolderKind.{FolderKind}
use Rattle.pm_journal.specs.declared.placing.FolderKind.TheVariants.{Plain}
use Rattle.pm_journal.specs.Plan.{Plan, Ends, and_then, ask}
use Rattle.pm_journal.specs.Executed.{Executes, OutOfMemory, LeadsTo}
use Rattle.pm_journal.proofs.FirstActs.{first_act, first_act_out}
use Rattle.pm_journal.proofs.PlanLeads.{leads_itself, leads_on, leads_to_end, leads_to_want}
use Rattle.pm_journal.proofs.WantsMemory.{executes_nothing, out_front}
use Rattle.pm_recipe.specs.declared.tree.Flags.{Flags}
use Rattle.pm_meaning.specs.Delivering.{Filing, feed_of, folder_piece, mailbox_piece, is_stored, in_folder, plain_prefix, in_plain, appended_by, to_file, file_as, file_one, file_all}
use Rattle.pm_meaning.specs.Locks.{is_nothing}
use Rattle.pm_meaning.specs.Minds.{Mind}
use Rattle.pm_meaning.specs.declared.process.Destination.{Destination}
use Rattle.pm_meaning.specs.declared.process.Filed.{Filed}
use Rattle.pm_meaning.specs.declared.process.Filed.TheVariants.{Stored, Unnamed}
use Rattle.pm_meaning.proofs.OneFiled.{StaysSo, one_filed}
use Rattle.pm_perform.specs.Copies.{copy_as, copy_for, file_copy, filing_of, with_kept, IsShown, AllShown}
use Rattle.pm_perform.specs.Filing.{is_folder_there, filed_by, mind_after}
use Rattle.pm_meaning.specs.DestinationTexts.{prefix_of}
use Rattle.pm_perform.specs.declared.kept.Kept.{Kept}
use Rattle.pm_perform.specs.declared.filing.Copy.{Copy}
use Rattle.pm_perform.specs.declared.filing.Copy.TheVariants.{ToFile, ToFolder}
use Rattle.pm_meaning.proofs.Choices.{choose_then, choose_else, then_out, else_out}
use Rattle.pm_meaning.proofs.DestinationLemmas.{some_if, none_if}

-- what is written to `/dev/null` doesn't matter
nothing_asked : (yes : Bool) (flags : Flags) (name piece : List ℕ) (stored p : Mind) → is_nothing name ≡ yes
    → to_file flags name (if is_nothing name then [] else piece) stored p ≡ to_file flags name piece stored p
nothing_asked true flags name piece stored p e = rw e refl
nothing_asked false flags name piece stored p e = rw e refl

-- what is wanted for a destination goes where the destination asks for
copy_as_files : (kind : Option FolderKind) (flags : Flags) (name : List ℕ) (p : Mind) → file_copy flags (copy_as kind flags p name) p ≡ file_as kind flags name p
copy_as_files None flags name p = nothing_asked _ flags (full_name p.base name) (mailbox_piece flags p) _ p refl
copy_as_files (Some kind) flags name p = refl

copy_files : (flags : Flags) (d : Destination) (copy : Copy) (p : Mind) → copy ≡ copy_for flags p d → file_copy flags copy p ≡ file_one flags d p
copy_files flags d copy p is = ap (λ c. file_copy flags c p) is ∙ copy_as_files d.kind flags d.name p

-- how many bytes of this mail a file gets
abbrev size_with : Flags → List ℕ → Message → ℕ
size_with flags name message =
    if is_nothing name then length (piece_of message (feed_of flags) Other flags.raw) else length (piece_of message (feed_of flags) MailboxFile flags.raw)

-- what is wanted stays the same while the process delivers
abbrev file_with : Flags → List ℕ → List ℕ → Message → Copy
file_with flags name base message = ToFile (record { name = full_name base name; shown = full_name base name; piece = if is_nothing (full_name base name) then [] else piece_of message (feed_of flags) MailboxFile flags.raw; kept = record { last_folder = name; stored = record { folder = name; size = size_with flags (full_name base name) message } } })

abbrev folder_with : FolderKind → Flags → List ℕ → List ℕ → Message → Copy
folder_with kind flags name base message = ToFolder (record { kind = kind; folder = full_name base name; shown = full_name base name; prefix = []; piece = piece_of message (feed_of flags) Other flags.raw })

same_as : (kind : Option FolderKind) (flags : Flags) (name : List ℕ) (p q : Mind) → StaysSo p q → copy_as kind flags q name ≡ copy_as kind flags p name
same_as None flags name p q s =
    ap (λ b. file_with flags name b q.message) s.base ∙ ap (λ m. file_with flags name p.base m) s.message
same_as (Some kind) flags name p q s = ap (λ b. folder_with kind flags name b q.message) s.base ∙ ap (λ m. folder_with kind flags name p.base m) s.message

same_copies : (flags : Flags) (ds : List Destination) (p q : Mind) → StaysSo p q → map (copy_for flags q) ds ≡ map (copy_for flags p) ds
same_copies flags [] p q s = refl
same_copies flags (d ∷ ds) p q s = ap (λ c. c ∷ map (copy_for flags q) ds) (same_as d.kind flags d.name p q s) ∙ ap (λ l. copy_for flags p d ∷ l) (same_copies flags ds p q s)

-- they are the same whatever locks are held
pub copies_locked : (flags : Flags) (ds : List Destination) (copies : List Copy) (p : Mind) (held : List (List ℕ)) → copies ≡ map (copy_for flags p) ds → copies ≡ map (copy_for flags (record p { locks = held })) ds
copies_locked flags ds copies p held e = e ∙ sym (same_copies flags ds p (record p { locks = held }) (record { base = refl; message = refl; vars = λ word. refl }))

shown_as : (kind : Option FolderKind) (flags : Flags) (name : List ℕ) (p : Mind) → IsShown (copy_as kind flags p name)
shown_as None flags name p = refl
shown_as (Some kind) flags name p = refl

pub copies_shown : (flags : Flags) (p : Mind) (ds : List Destination) → AllShown (map (copy_for flags p) ds)
copies_shown flags p [] = tt
copies_shown flags p (d ∷ ds) = (shown_as d.kind flags d.name p, copies_shown flags p ds)

-- some destinations have the mail, and these copies are for the rest
pub record RestOf (whole : Plan Filing) (flags : Flags) (copies : List Copy) (p : Mind) (x y : JournalState) (a b : View) : Type 0 where
  pub rest : List Destination
  pub leads : LeadsTo whole (file_all flags rest p) x y a b
  pub copies_are : copies ≡ map (copy_for flags p) rest

pub rest_begun : (flags : Flags) (ds : List Destination) (copies : List Copy) (p : Mind) (x : JournalState) (a : View) → copies ≡ map (copy_for flags p) ds → RestOf (file_all flags ds p) flags copies p x x a a
rest_begun flags ds copies p x a e = record { rest = ds; leads = leads_itself (file_all flags ds p) x a; copies_are = e }

-- the first of the rest
record FirstOf (whole : Plan Filing) (flags : Flags) (copy : Copy) (copies : List Copy) (p : Mind) (x y : JournalState) (a b : View) : Type 0 where
  first : Destination
  rest : List Destination
  leads : LeadsTo whole (file_all flags (first ∷ rest) p) x y a b
  copy_is : copy ≡ copy_for flags p first
  copies_are : copies ≡ map (copy_for flags p) rest

first_at : (whole : Plan Filing) (flags : Flags) (items copies : List Copy) (copy : Copy) (rest : List Destination) (p : Mind) (x y : JournalState) (a b : View) → LeadsTo whole (file_all flags rest p) x y a b
    → items ≡ map (copy_for flags p) rest → items ≡ copy ∷ copies → FirstOf whole flags copy copies p x y a b
first_at whole flags items copies copy [] p x y a b leads are is = let e : [] ≡ copy ∷ copies = sym are ∙ is in absurd (cc)
first_at whole flags items copies copy (d ∷ ds) p x y a b leads are is =
    let e : copy ∷ copies ≡ copy_for flags p d ∷ map (copy_for flags p) ds = sym is ∙ are in
    let one : copy ≡ copy_for flags p d = cc in
    let others : copies ≡ map (copy_for flags p) ds = cc in
    record { first = d; rest = ds; leads = leads; copy_is = one; copies_are = others }

first_of : (whole : Plan Filing) (flags : Flags) (items copies : List Copy) (copy : Copy) (p : Mind) (x y : JournalState) (a b : View) → RestOf whole flags items p x y a b → items ≡ copy ∷ copies
    → FirstOf whole flags copy copies p x y a b
first_of whole flags items copies copy p x y a b h is = first_at whole flags items copies copy h.rest p x y a b h.leads h.copies_are is

-- what comes after a destination
abbrev behind : Flags → List Destination → Filing → Plan Filing
behind flags ds filing = if is_stored filing.filed then file_all flags ds filing.mind else Ends filing

as_one : (flags : Flags) (d : Destination) (copy : Copy) (p : Mind) (filing : Filing) (y z : JournalState) (b c : View) → copy ≡ copy_for flags p d → Executes (file_copy flags copy p) filing y z b c
    → Executes (file_one flags d p) filing y z b c
as_one flags d copy p filing y z b c is h = subst (λ plan. Executes plan filing y z b c) (copy_files flags d copy p is) h

-- what came of a copy, whatever it goes to: the same locks are held, and the journal has lost at most three places
pub record Copied {L : Type 0} (flags : Flags) (copy : Copy) (filed : Filed) (p q : Mind) (held kept : L) (x y : JournalState) (a b : View) : Type 0 where
  pub comes : Executes (file_copy flags copy p) (filing_of filed q) x y a b
  pub locks : kept ≡ held
  pub room : x.room ≤ y.room + 3

-- a copy was taken, and the next comes
pub copy_on : (whole : Plan Filing) (flags : Flags) (items copies : List Copy) (copy : Copy) (filed : Filed) (p q : Mind) (x y z : JournalState) (a b c : View) → RestOf whole flags items p x y a b → items ≡ copy ∷ copies
    → Executes (file_copy flags copy p) (filing_of filed q) y z b c → true ≡ is_stored filed → RestOf whole flags copies q x z a c
copy_on whole flags items copies copy filed p q x y z a b c h is k stored =
    let f = first_of whole flags items copies copy p x y a b h is in
    let one = as_one flags f.first copy p (filing_of filed q) y z b c f.copy_is k in
    let goes : LeadsTo whole (behind flags f.rest (filing_of filed q)) x z a c = leads_on whole (file_one flags f.first p) (behind flags f.rest) (filing_of filed q) x y z a b c f.leads one in
    let stays = (one_filed flags f.first p one.more (filing_of filed q) one.plays).same in
    record {
      rest = f.rest;
      leads = subst (λ v. LeadsTo whole (if v then file_all flags f.rest q else Ends (filing_of filed q)) x z a c) (sym stored) goes;
      copies_are = f.copies_are ∙ sym (same_copies flags f.rest p q stays);
    }

-- a copy wasn't taken, and the rest isn't tried
pub copy_stops : (whole : Plan Filing) (flags : Flags) (items copies : List Copy) (copy : Copy) (filed : Filed) (p q : Mind) (x y z : JournalState) (a b c : View) → RestOf whole flags items p x y a b → items ≡ copy ∷ copies
    → Executes (file_copy flags copy p) (filing_of filed q) y z b c → false ≡ is_stored filed → Executes whole (filing_of filed q) x z a c
copy_stops whole flags items copies copy filed p q x y z a b c h is k stored =
    let f = first_of whole flags items copies copy p x y a b h is in
    let one = as_one flags f.first copy p (filing_of filed q) y z b c f.copy_is k in
    let goes : LeadsTo whole (behind flags f.rest (filing_of filed q)) x z a c = leads_on whole (file_one flags f.first p) (behind flags f.rest) (filing_of filed q) x y z a b c f.leads one in
    let ends : LeadsTo whole (Ends (filing_of filed q)) x z a c = subst (λ v. LeadsTo whole (if v then file_all flags f.rest q else Ends (filing_of filed q)) x z a c) (sym stored) goes in
    leads_to_end whole (Ends (filing_of filed q)) (filing_of filed q) x z z a c c ends (executes_nothing (filing_of filed q) z z c refl)

-- memory was wanting at a copy
pub copy_wants : (whole : Plan Filing) (flags : Flags) (items copies : List Copy) (copy : Copy) (p : Mind) (x y z : JournalState) (a b c : View) → RestOf whole flags items p x y a b → items ≡ copy ∷ copies
    → OutOfMemory (file_copy flags copy p) y z b c → OutOfMemory whole x z a c
copy_wants whole flags items copies copy p x y z a b c h is k =
    let f = first_of whole flags items copies copy p x y a b h is in
    let one = subst (λ plan. OutOfMemory plan y z b c) (copy_files flags f.first copy p f.copy_is) k in
    leads_to_want whole (file_all flags (f.first ∷ f.rest) p) x y z a b c f.leads (out_front (file_one flags f.first p) (behind flags f.rest) y z b c one)

all_over : (whole : Plan Filing) (flags : Flags) (rest : List Destination) (p : Mind) (x y : JournalState) (a b : View) → LeadsTo whole (file_all flags rest p) x y a b → [] ≡ map (copy_for flags p) rest
    → Executes whole (filing_of Stored p) x y a b
all_over whole flags [] p x y a b h e = leads_to_end whole (Ends (filing_of Stored p)) (filing_of Stored p) x y y a b b h (executes_nothing (filing_of Stored p) y y b refl)
all_over whole flags (d ∷ ds) p x y a b h e = let f : [] ≡ copy_for flags p d ∷ map (copy_for flags p) ds = e in absurd (cc)

-- all copies were taken
pub copies_over : (whole : Plan Filing) (flags : Flags) (items : List Copy) (p : Mind) (x y : JournalState) (a b : View) → RestOf whole flags items p x y a b → items ≡ [] → Executes whole (filing_of Stored p) x y a b
copies_over whole flags items p x y a b h e = all_over whole flags h.rest p x y a b h.leads (sym e ∙ h.copies_are)

-- `/dev/null` takes the mail
pub taken_by_nothing : (flags : Flags) (name piece : List ℕ) (stored p q : Mind) (x : JournalState) (s : View) → is_nothing name ≡ true → q ≡ stored → Executes (to_file flags name piece stored p) (filing_of Stored q) x x s s
taken_by_nothing flags name piece stored p q x s e same =
    subst (λ m. Executes (to_file flags name piece stored p) (filing_of Stored m) x x s s) (sym same)
    (choose_then (is_nothing name) (Ends (filing_of Stored stored)) (and_then (ask (Append name piece)) (appended_by flags name stored p)) (filing_of Stored stored) x x s s e (executes_nothing (filing_of Stored stored) x x s refl))

-- what came of an append where no folder stood
append_ends : (flags : Flags) (name : List ℕ) (kept : Kept) (p : Mind) (reply : Reply) → is_folder_there reply ≡ false
    → Ends (filing_of (filed_by name reply) (mind_after (filed_by name reply) kept p)) ≡ appended_by flags name (with_kept kept p) p reply
append_ends flags name kept p Done h = refl
append_ends flags name kept p IsFolder h = let e : true ≡ false = h in absurd (cc)
append_ends flags name kept p RacedReply h = refl
append_ends flags name kept p (Torn count) h = refl
append_ends flags name kept p other h = refl

pub appended : (flags : Flags) (name piece shown : List ℕ) (kept : Kept) (reply : Reply) (filed : Filed) (p q : Mind) (x y : JournalState) (a b : View) → is_nothing name ≡ false → shown ≡ name → is_folder_there reply ≡ false
    → filed ≡ filed_by shown reply → q ≡ mind_after filed kept p → NotesAct (Append name piece) reply x y a b → Executes (to_file flags name piece (with_kept kept p) p) (filing_of filed q) x y a b
appended flags name piece shown kept reply filed p q x y a b some same free is minds n =
    let stored = with_kept kept p in
    let as_filed : filed ≡ filed_by name reply = is ∙ ap (λ l. filed_by l reply) same in
    let last : filing_of filed q ≡ filing_of (filed_by name reply) (mind_after (filed_by name reply) kept p) = ap (filing_of filed) minds ∙ ap (λ f. filing_of f (mind_after f kept p)) as_filed in
    let ends : Executes (appended_by flags name stored p reply) (filing_of filed q) y y b b =
    subst (λ plan. Executes plan (filing_of filed q) y y b b) (append_ends flags name kept p reply free) (subst (λ r. Executes (Ends r) (filing_of filed q) y y b b) last (executes_nothing (filing_of filed q) y y b refl)) in
    choose_else (is_nothing name) (Ends (filing_of Stored stored)) (and_then (ask (Append name piece)) (appended_by flags name stored p)) (filing_of filed q) x y a b some
    (first_act (Append name piece) (appended_by flags name stored p) reply (filing_of filed q) x x y y a b b refl n ends)

folder_there : (reply : Reply) → is_folder_there reply ≡ true → reply ≡ IsFolder
folder_there IsFolder h = refl
folder_there other h = let e : false ≡ true = h in absurd (cc)

-- a folder stood there, and got the mail, or memory was wanting then
pub appended_plain : (flags : Flags) (name piece shown : List ℕ) (stored p : Mind) (reply : Reply) (filing : Filing) (x y z : JournalState) (a b c : View) → is_nothing name ≡ false → shown ≡ name → is_folder_there reply ≡ true
    → NotesAct (Append name piece) reply x y a b → Executes (in_plain flags shown p) filing y z b c → Executes (to_file flags name piece stored p) filing x z a c
appended_plain flags name piece shown stored p reply filing x y z a b c some same there n k =
    let note = subst (λ r. NotesAct (Append name piece) r x y a b) (folder_there reply there) n in
    choose_else (is_nothing name) (Ends (filing_of Stored stored)) (and_then (ask (Append name piece)) (appended_by flags name stored p)) filing x z a c some
    (first_act (Append name piece) (appended_by flags name stored p) IsFolder filing x x y z a b c refl note (subst (λ l. Executes (in_plain flags l p) filing y z b c) same k))

pub appended_plain_out : (flags : Flags) (name piece shown : List ℕ) (stored p : Mind) (reply : Reply) (x y z : JournalState) (a b c : View) → is_nothing name ≡ false → shown ≡ name → is_folder_there reply ≡ true
    → NotesAct (Append name piece) reply x y a b → OutOfMemory (in_plain flags shown p) y z b c → OutOfMemory (to_file flags name piece stored p) x z a c
appended_plain_out flags name piece shown stored p reply x y z a b c some same there n k =
    let note = subst (λ r. NotesAct (Append name piece) r x y a b) (folder_there reply there) n in
    else_out (is_nothing name) (Ends (filing_of Stored stored)) (and_then (ask (Append name piece)) (appended_by flags name stored p)) x z a c some
    (first_act_out (Append name piece) (appended_by flags name stored p) IsFolder x x y z a b c refl note (subst (λ l. OutOfMemory (in_plain flags l p) y z b c) same k))

-- a name can begin so, or can't
pub plain_unnamed : (flags : Flags) (folder : List ℕ) (p : Mind) (x : JournalState) (s : View) → None ≡ prefix_of (plain_prefix p) → Executes (in_plain flags folder p) (filing_of Unnamed p) x x s s
plain_unnamed flags folder p x s h =
    choose_else (is_usable (plain_prefix p)) (in_folder Plain folder (plain_prefix p) (folder_piece flags p) p) (Ends (filing_of Unnamed p)) (filing_of Unnamed p) x x s s (none_if (is_usable (plain_prefix p)) (plain_prefix p) h)
    (executes_nothing (filing_of Unnamed p) x x s refl)

pub plain_filed : (flags : Flags) (folder prefix piece : List ℕ) (p : Mind) (filing : Filing) (x y : JournalState) (a b : View) → Some prefix ≡ prefix_of (plain_prefix p) → piece ≡ folder_piece flags p
    → Executes (in_folder Plain folder prefix piece p) filing x y a b → Executes (in_plain flags folder p) filing x y a b
plain_filed flags folder prefix piece p filing x y a b h is k =
    let e = some_if (is_usable (plain_prefix p)) prefix (plain_prefix p) h in
    choose_then (is_usable (plain_prefix p)) (in_folder Plain folder (plain_prefix p) (folder_piece flags p) p) (Ends (filing_of Unnamed p)) filing x y a b e.0
    (subst (λ l. Executes (in_folder Plain folder l (folder_piece flags p) p) filing x y a b) e.1 (subst (λ l. Executes (in_folder Plain folder prefix l p) filing x y a b) is k))

pub plain_wants : (flags : Flags) (folder prefix piece : List ℕ) (p : Mind) (x y : JournalState) (a b : View) → Some prefix ≡ prefix_of (plain_prefix p) → piece ≡ folder_piece flags p
    → OutOfMemory (in_folder Plain folder prefix piece p) x y a b → OutOfMemory (in_plain flags folder p) x y a b
plain_wants flags folder prefix piece p x y a b h is k =
    let e = some_if (is_usable (plain_prefix p)) prefix (plain_prefix p) h in
    then_out (is_usable (plain_prefix p)) (in_folder Plain folder (plain_prefix p) (folder_piece flags p) p) (Ends (filing_of Unnamed p)) x y a b e.0
    (subst (λ l. OutOfMemory (in_folder Plain folder l (folder_piece flags p) p) x y a b) e.1 (subst (λ l. OutOfMemory (in_folder Plain folder prefix l p) x y a b) is k))
