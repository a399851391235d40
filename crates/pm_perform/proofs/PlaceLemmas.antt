-- Filings in folders in plans.
use Rattle.std.proofs.Common.{◌≡◌, ◌≤◌, ◌+◌, ℕ, ℤ, List, [], ◌∷◌, ◌++◌, length, refl, sym, ap, ◌∙◌, subst, arith}
use Rattle.pm_journal.specs.JournalState.{JournalState}
use Rattle.pm_journal.specs.Entries.{View}
use Rattle.pm_journal.specs.Held.{Keeping}
use Rattle.pm_journal.specs.Noted.{NotesAct}
use Rattle.pm_journal.specs.Outcomes.{folder_end, file_in, last_file}
use Rattle.pm_journal.specs.declared.acts.Act.TheVariants.{Place, Moment}
use Rattle.pm_journal.specs.declared.acts.Reply.{Reply}
use Rattle.pm_journal.specs.declared.acts.Reply.TheVariants.{Placed, TornAt, NamesOut, Now}
use Rattle.pm_journal.specs.declared.acts.Entry.{Entry}
use Rattle.pm_journal.specs.declared.placing.FolderEnd.{FolderEnd}
use Rattle.pm_journal.specs.declared.placing.FolderKind.{FolderKind}
use Rattle.pm_journal.specs.Plan.{Plan, Ends}
use Rattle.pm_journal.specs.Executed.{Executes, OutOfMemory}
use Rattle.pm_journal.proofs.FirstActs.{first_act, first_act_out}
use Rattle.pm_journal.proofs.KeepingActs.{keeping_plain}
use Rattle.pm_journal.proofs.WantsMemory.{executes_nothing, out_left_off, out_anywhere}
use Rattle.pm_journal.specs.Acts.{LeavesAct, NotesPlace, place_act}
use Rattle.pm_journal.specs.declared.effects.Filing.{Filing}
use Rattle.pm_meaning.specs.Changes.{counted}
use Rattle.pm_meaning.specs.Delivering.{Filing as Filings, next_stamp, placed_by, placed_at, in_folder}
use Rattle.pm_meaning.specs.Minds.{Mind}
use Rattle.pm_meaning.specs.declared.process.Filed.{Filed}
use Rattle.pm_perform.specs.Copies.{filing_of}
use Rattle.pm_perform.specs.Placing.{HasFile, placed_as}

last_file-end : (es : List Entry) (e : Entry) → last_file (es ++ e ∷ []) ≡ file_in e.reply
last_file-end [] e = refl
last_file-end (x ∷ []) e = refl
last_file-end (x ∷ (y ∷ ys)) e = last_file-end (y ∷ ys) e

-- the file of a filing is that of the last entry
file_is : (filing : Filing) (reply : Reply) (y z : JournalState) (b c : View) → NotesAct (place_act filing) reply y z b c → last_file z.entries ≡ file_in reply
file_is filing reply y z b c n = ap last_file n.entries ∙ (last_file-end y.entries n.entry ∙ ap file_in n.reply_is)

reply_file : (reply : Reply) → HasFile (folder_end reply) (file_in reply)
reply_file (Placed name) = refl
reply_file (TornAt name taken) = refl
reply_file NamesOut = tt
reply_file other = tt

pub has_file : (filing : Filing) (end : FolderEnd) (y z : JournalState) (b c : View) → NotesPlace filing end y z b c → HasFile end (last_file z.entries)
has_file filing end y z b c n = subst (λ l. HasFile end l) (sym (file_is filing n.reply y z b c n.notes)) (subst (λ e. HasFile e (file_in n.reply)) (sym n.end_is) (reply_file n.reply))

placed_reply : (reply : Reply) (folder : List ℕ) (size : ℕ) (p : Mind) → placed_as (folder_end reply) (file_in reply) folder size p ≡ placed_by folder size p reply
placed_reply (Placed name) folder size p = refl
placed_reply (TornAt name taken) folder size p = refl
placed_reply NamesOut folder size p = refl
placed_reply other folder size p = refl

-- a filing with what makes the name of its file
abbrev pub filing_for : FolderKind → List ℕ → List ℕ → List ℕ → ℤ → ℕ → ℕ → List ℕ → Filing
filing_for kind folder prefix piece moment pid serial host = record {
  kind = kind;
  folder = folder;
  prefix = prefix;
  piece = piece;
  stamp = record { moment = moment; pid = pid; serial = serial; host_name = host };
}

pub stamped : (p : Mind) (moment told : ℤ) (pid serial : ℕ) (host : List ℕ) → moment ≡ told → pid ≡ p.vars.marks.pid → serial ≡ p.placed + 1 → host ≡ p.host_name
    → record { moment = moment; pid = pid; serial = serial; host_name = host } ≡ next_stamp p told
stamped p moment told pid serial host same process count name =
    ap (λ n. record { moment = n; pid = pid; serial = serial; host_name = host }) same
    ∙ (ap (λ n. record { moment = told; pid = n; serial = serial; host_name = host }) process
    ∙ (ap (λ n. record { moment = told; pid = p.vars.marks.pid; serial = n; host_name = host }) count
    ∙ ap (λ n. record { moment = told; pid = p.vars.marks.pid; serial = p.placed + 1; host_name = n }) name))

-- what comes after a filing
abbrev behind : List ℕ → ℕ → Mind → Reply → Plan Filings
behind folder size p reply = Ends (placed_by folder size (counted p) reply)

-- the moment was told, the piece was filed, and this came of it
pub filed_in : (f : Filing) (shown : List ℕ) (size : ℕ) (p q r : Mind) (moment : ℤ) (end : FolderEnd) (filed : Filed) (x y z : JournalState) (a b c : View) → shown ≡ f.folder → size ≡ length f.piece → f.stamp ≡ next_stamp p moment → r ≡ counted p
    → NotesAct Moment (Now moment) x y a b → NotesPlace f end y z b c → filing_of filed q ≡ placed_as end (last_file z.entries) shown size r → Executes (in_folder f.kind f.folder f.prefix f.piece p) (filing_of filed q) x z a c
filed_in f shown size p q r moment end filed x y z a b c same counts stamped count m n is =
    let reply = n.reply in
    let act = Place f.kind f.folder f.prefix f.piece (next_stamp p moment) in
    let note : NotesAct act reply y z b c = subst (λ s. NotesAct (Place f.kind f.folder f.prefix f.piece s) reply y z b c) stamped n.notes in
    let last : filing_of filed q ≡ placed_by f.folder (length f.piece) (counted p) reply =
    is
    ∙ (ap (λ l. placed_as end l shown size r) (file_is f reply y z b c n.notes)
    ∙ (ap (λ e. placed_as e (file_in reply) shown size r) n.end_is ∙ (ap (λ l. placed_as (folder_end reply) (file_in reply) l size r) same ∙ (ap (λ l. placed_as (folder_end reply) (file_in reply) f.folder l r) counts
    ∙ (ap (placed_as (folder_end reply) (file_in reply) f.folder (length f.piece)) count ∙ placed_reply reply f.folder (length f.piece) (counted p)))))) in
    let ends : Executes (behind f.folder (length f.piece) p reply) (filing_of filed q) z z c c = subst (λ e. Executes (Ends e) (filing_of filed q) z z c c) last (executes_nothing (filing_of filed q) z z c refl) in
    let rest : Executes (placed_at f.kind f.folder f.prefix f.piece p (Now moment)) (filing_of filed q) y z b c = first_act act (behind f.folder (length f.piece) p) reply (filing_of filed q) y y z z b c c refl note ends in
    first_act Moment (placed_at f.kind f.folder f.prefix f.piece p) (Now moment) (filing_of filed q) x x y z a b c refl m rest

-- memory was wanting after the filing
pub filed_then_out : (f : Filing) (p : Mind) (moment : ℤ) (end : FolderEnd) (x y z : JournalState) (a b c : View) → f.stamp ≡ next_stamp p moment → NotesAct Moment (Now moment) x y a b → NotesPlace f end y z b c
    → OutOfMemory (in_folder f.kind f.folder f.prefix f.piece p) x z a c
filed_then_out f p moment end x y z a b c stamped m n =
    let act = Place f.kind f.folder f.prefix f.piece (next_stamp p moment) in
    let note : NotesAct act n.reply y z b c = subst (λ s. NotesAct (Place f.kind f.folder f.prefix f.piece s) n.reply y z b c) stamped n.notes in
    first_act_out Moment (placed_at f.kind f.folder f.prefix f.piece p) (Now moment) x x y z a b c refl m
    (first_act_out act (behind f.folder (length f.piece) p) n.reply y y z z b c c refl note (out_anywhere (behind f.folder (length f.piece) p n.reply) z z c refl))

-- the filing was left off
pub filing_left : (f : Filing) (p : Mind) (moment : ℤ) (x y z : JournalState) (a b c : View) → f.stamp ≡ next_stamp p moment → NotesAct Moment (Now moment) x y a b → z ≡ y → LeavesAct (place_act f) b c
    → OutOfMemory (in_folder f.kind f.folder f.prefix f.piece p) x z a c
filing_left f p moment x y z a b c stamped m same left =
    let act = Place f.kind f.folder f.prefix f.piece (next_stamp p moment) in
    let off : LeavesAct act b c = subst (λ s. LeavesAct (Place f.kind f.folder f.prefix f.piece s) b c) stamped left in
    first_act_out Moment (placed_at f.kind f.folder f.prefix f.piece p) (Now moment) x x y z a b c refl m
    (out_left_off act (λ reply. behind f.folder (length f.piece) p reply) y z b c off.calls (ap (λ j. j.entries) same) off.unfinished off.took)

-- memory was wanting once the moment was told
pub asked_out : (kind : FolderKind) (folder prefix piece : List ℕ) (p : Mind) (moment : ℤ) (x y : JournalState) (a b : View) → NotesAct Moment (Now moment) x y a b → OutOfMemory (in_folder kind folder prefix piece p) x y a b
asked_out kind folder prefix piece p moment x y a b m =
    first_act_out Moment (placed_at kind folder prefix piece p) (Now moment) x x y y a b b refl m (out_anywhere (placed_at kind folder prefix piece p (Now moment)) y y b refl)

-- the locks are held as before
pub keeping_filed : (f : Filing) (moment : ℤ) (end : FolderEnd) (x y z : JournalState) (names : List (List ℕ)) (a b c : View) → Keeping x names → length names + 2 ≤ x.room → NotesAct Moment (Now moment) x y a b
    → NotesPlace f end y z b c → Keeping z names
keeping_filed f moment end x y z names a b c h room m n =
    let asked = keeping_plain Moment (Now moment) x x y names a b tt h refl (omega (arith, room)) m in
    keeping_plain (place_act f) n.reply y y z names b c tt asked refl (omega (arith, room, m.room)) n.notes

pub keeping_asked : (moment : ℤ) (x y z : JournalState) (names : List (List ℕ)) (a b : View) → Keeping x names → length names + 2 ≤ x.room → NotesAct Moment (Now moment) x y a b → z ≡ y → Keeping z names
keeping_asked moment x y z names a b h room m same =
    subst (λ j. Keeping j names) (sym same) (keeping_plain Moment (Now moment) x x y names a b tt h refl (omega (arith, room)) m)
