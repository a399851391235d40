-- One destination: what it leaves of the process, and by which entries it got the mail.
use Rattle.std.proofs.Common.{◌≡◌, ◌⊎◌, inl, inr, ℕ, Bool, true, false, List, [], ◌∷◌, Option, Some, None, refl, sym, ap, ◌∙◌, subst}
use Rattle.std.specs.Prelude.{codes, length, cond, bytes_eq, if◌then◌else◌}
use Rattle.pm_bytes.specs.Name.{is_usable}
use Rattle.pm_bytes.specs.Path.{full_name}
use Rattle.pm_host.proofs.Put.{same_name}
use Rattle.pm_recipe.specs.declared.tree.Flags.{Flags}
use Rattle.pm_journal.specs.declared.acts.Act.TheVariants.{Append, Moment}
use Rattle.pm_journal.specs.declared.acts.Reply.{Reply}
use Rattle.pm_journal.specs.declared.acts.Reply.TheVariants.{Done, IsFolder, Torn, Placed, TornAt, NamesOut, Now, Raced as RacedReply}
use Rattle.pm_journal.specs.declared.acts.Entry.{Entry}
use Rattle.pm_journal.specs.declared.placing.FolderKind.{FolderKind}
use Rattle.pm_journal.specs.declared.placing.FolderKind.TheVariants.{Plain}
use Rattle.pm_journal.specs.Plan.{Ends, and_then, ask, Plays}
use Rattle.pm_journal.specs.Replies.{IsReplyTo}
use Rattle.pm_vars.specs.Table.{Table}
use Rattle.pm_vars.specs.Variables.{Variable, with_value}
use Rattle.pm_meaning.specs.Changes.{counted, stored_in}
use Rattle.pm_meaning.specs.Delivering.{Filing, mailbox_piece, folder_piece, next_stamp, placed_by, placed_at, in_folder, plain_prefix, appended_by, file_size, file_as, file_one}
use Rattle.pm_meaning.specs.Destinations.{full_of}
use Rattle.pm_meaning.specs.Laws.{IsPlaced, IsAppended, HasMail}
use Rattle.pm_meaning.specs.Locks.{is_nothing}
use Rattle.pm_meaning.specs.Minds.{Mind}
use Rattle.pm_meaning.specs.declared.process.Destination.{Destination}
use Rattle.pm_meaning.specs.declared.process.Filed.{Filed}
use Rattle.pm_meaning.specs.declared.process.Filed.TheVariants.{Stored, Unwritten, Raced, Left, Crowded, Unnamed}

-- a value that is set again
pub with_value_again : (name first second : List ℕ) (vs : List Variable) → with_value name second (with_value name first vs) ≡ with_value name second vs
with_value_again name first second [] = ap (λ b. if b then (record { name = name; value = second } ∷ []) else (record { name = name; value = first } ∷ record { name = name; value = second } ∷ [])) (same_name name)
with_value_again name first second (v ∷ vs) =
    elim (bytes_eq name v.name) as (λ b. bytes_eq name v.name ≡ b
    → with_value name second (if b then (record { name = v.name; value = first } ∷ vs) else (v ∷ with_value name first vs)) ≡ (if b then (record { name = v.name; value = second } ∷ vs) else (v ∷ with_value name second vs))) [
      | true ↦ λ e. ap (λ b. if b then (record { name = v.name; value = second } ∷ vs) else (record { name = v.name; value = first } ∷ with_value name second vs)) e
      | false ↦ λ e. ap (λ b. if b then (record { name = v.name; value = second } ∷ with_value name first vs) else (v ∷ with_value name second (with_value name first vs))) e ∙ ap (λ l. v ∷ l) (with_value_again name first second vs)
    ] refl

-- the variables once a destination is remembered
abbrev pub remembering : List ℕ → Mind → Table
remembering word p = (stored_in word 0 p).vars

-- what stays of a process while it delivers: all but what it remembers, and how much it filed in folders
pub record StaysSo (p q : Mind) : Type 0 where
  pub base : q.base ≡ p.base
  pub message : q.message ≡ p.message
  pub vars : (word : List ℕ) → remembering word q ≡ remembering word p

pub stays_itself : (p : Mind) → StaysSo p p
stays_itself p = record { base = refl; message = refl; vars = λ word. refl }

pub stays_stored : (before : List ℕ) (size : ℕ) (p : Mind) → StaysSo p (stored_in before size p)
stays_stored before size p = record { base = refl; message = refl; vars = λ word. ap (λ vs. record p.vars { variables = vs }) (with_value_again (codes "LASTFOLDER") before word p.vars.variables) }

stays_counted : (p : Mind) → StaysSo p (counted p)
stays_counted p = record { base = refl; message = refl; vars = λ word. refl }

stays_placed : (before : List ℕ) (size : ℕ) (p : Mind) → StaysSo p (stored_in before size (counted p))
stays_placed before size p = record { base = refl; message = refl; vars = λ word. ap (λ vs. record p.vars { variables = vs }) (with_value_again (codes "LASTFOLDER") before word p.vars.variables) }

-- nothing was stored
stays_out : (q : Mind) (filed : Filed) (p : Mind) (filing : Filing) → StaysSo p q → filing ≡ record { filed = filed; mind = q } → StaysSo p filing.mind
stays_out q filed p filing stays is = subst (λ (f : Filing). StaysSo p f.mind) (sym is) stays

not_stored : {A : Type 0} (filed : Filed) (q : Mind) (filing : Filing) → (Stored ≡ filed → ⊥) → filing ≡ record { filed = filed; mind = q } → filing.filed ≡ Stored → A
not_stored filed q filing apart is stored = absurd (apart (sym stored ∙ ap (λ (f : Filing). f.filed) is))

-- what came of filing in a folder
record AfterPlace (reply : Reply) (p : Mind) (filing : Filing) : Type 0 where
  same : StaysSo p filing.mind
  done : filing.filed ≡ Stored → (name : List ℕ) × (reply ≡ Placed name)

placed : (folder : List ℕ) (size : ℕ) (p : Mind) (reply : Reply) (filing : Filing) → filing ≡ placed_by folder size (counted p) reply → AfterPlace reply p filing
placed folder size p (Placed name) filing is = record { same = stays_out (stored_in name size (counted p)) Stored p filing (stays_placed name size p) is; done = λ s. (name, refl) }
placed folder size p (TornAt name count) filing is = record { same = stays_out (counted p) (Left name count) p filing (stays_counted p) is; done = λ s. not_stored (Left name count) (counted p) filing (λ e. cc) is s }
placed folder size p NamesOut filing is = record { same = stays_out (counted p) (Crowded folder) p filing (stays_counted p) is; done = λ s. not_stored (Crowded folder) (counted p) filing (λ e. cc) is s }
placed folder size p other filing is = record { same = stays_out (counted p) (Unwritten folder) p filing (stays_counted p) is; done = λ s. not_stored (Unwritten folder) (counted p) filing (λ e. cc) is s }

-- what was done in a folder
record InFolder (kind : FolderKind) (folder piece : List ℕ) (es : List Entry) (p : Mind) (filing : Filing) : Type 0 where
  same : StaysSo p filing.mind
  done : filing.filed ≡ Stored → IsPlaced kind folder piece es

at_moment : (kind : FolderKind) (folder prefix piece : List ℕ) (p : Mind) (m : Entry) (reply : Reply) (es : List Entry) (filing : Filing) → m.act ≡ Moment → IsReplyTo Moment reply
    → Plays (placed_at kind folder prefix piece p reply) es filing → InFolder kind folder piece (m ∷ es) p filing
at_moment kind folder prefix piece p m (Now moment) [] filing act fits h = absurd h
at_moment kind folder prefix piece p m (Now moment) (e ∷ []) filing act fits h =
    let k = placed folder (length piece) p e.reply filing h.2 in
    record { same = k.same; done = λ s. let d = k.done s in (prefix, next_stamp p moment, d.0, act, h.0, d.1) }
at_moment kind folder prefix piece p m (Now moment) (e ∷ f ∷ es) filing act fits h = absurd h.2
at_moment kind folder prefix piece p m other es filing act fits h = absurd fits

in_one : (kind : FolderKind) (folder prefix piece : List ℕ) (p : Mind) (es : List Entry) (filing : Filing) → Plays (in_folder kind folder prefix piece p) es filing → InFolder kind folder piece es p filing
in_one kind folder prefix piece p [] filing h = absurd h
in_one kind folder prefix piece p (m ∷ es) filing h = at_moment kind folder prefix piece p m m.reply es filing h.0 h.1 h.2

plain_one : (b : Bool) (folder prefix piece : List ℕ) (p : Mind) (es : List Entry) (filing : Filing) → Plays (if b then in_folder Plain folder prefix piece p else Ends (record { filed = Unnamed; mind = p })) es filing
    → InFolder Plain folder piece es p filing
plain_one true folder prefix piece p es filing h = in_one Plain folder prefix piece p es filing h
plain_one false folder prefix piece p [] filing h = record { same = stays_out p Unnamed p filing (stays_itself p) h; done = λ s. not_stored Unnamed p filing (λ e. cc) h s }
plain_one false folder prefix piece p (e ∷ es) filing h = absurd h

-- what came of an append
record AfterAppend (name own : List ℕ) (reply : Reply) (es : List Entry) (p : Mind) (filing : Filing) : Type 0 where
  same : StaysSo p filing.mind
  done : filing.filed ≡ Stored → ((reply ≡ Done) × (es ≡ [])) ⊎ ((reply ≡ IsFolder) × IsPlaced Plain name own es)

-- the piece wasn't appended
append_ends : (name own : List ℕ) (filed : Filed) (reply : Reply) (p : Mind) (es : List Entry) (filing : Filing) → (Stored ≡ filed → ⊥) → Plays (Ends (record { filed = filed; mind = p })) es filing
    → AfterAppend name own reply es p filing
append_ends name own filed reply p [] filing apart h = record { same = stays_out p filed p filing (stays_itself p) h; done = λ s. not_stored filed p filing apart h s }
append_ends name own filed reply p (e ∷ es) filing apart h = absurd h

appended : (flags : Flags) (name : List ℕ) (stored p : Mind) (reply : Reply) (es : List Entry) (filing : Filing) → StaysSo p stored → Plays (appended_by flags name stored p reply) es filing
    → AfterAppend name (folder_piece flags p) reply es p filing
appended flags name stored p Done [] filing stays h = record { same = stays_out stored Stored p filing stays h; done = λ s. inl (refl, refl) }
appended flags name stored p Done (e ∷ es) filing stays h = absurd h
appended flags name stored p IsFolder es filing stays h =
    let k = plain_one (is_usable (plain_prefix p)) name (plain_prefix p) (folder_piece flags p) p es filing h in
    record { same = k.same; done = λ s. inr (refl, k.done s) }
appended flags name stored p RacedReply es filing stays h = append_ends name (folder_piece flags p) (Raced name) RacedReply p es filing (λ e. cc) h
appended flags name stored p (Torn count) es filing stays h = append_ends name (folder_piece flags p) (Left name count) (Torn count) p es filing (λ e. cc) h
appended flags name stored p other es filing stays h = append_ends name (folder_piece flags p) (Unwritten name) other p es filing (λ e. cc) h

-- what was done at a destination
pub record AtOne (kind : Option FolderKind) (name mail own : List ℕ) (es : List Entry) (p : Mind) (filing : Filing) : Type 0 where
  pub same : StaysSo p filing.mind
  pub done : filing.filed ≡ Stored → HasMail kind name mail own es

-- what was done at a file, or at `/dev/null`
record AtFile (b : Bool) (name mail own : List ℕ) (es : List Entry) (p : Mind) (filing : Filing) : Type 0 where
  same : StaysSo p filing.mind
  done : filing.filed ≡ Stored → cond b (es ≡ []) (IsAppended name mail own es)

file_only : (b : Bool) (flags : Flags) (name mail : List ℕ) (stored p : Mind) (es : List Entry) (filing : Filing) → StaysSo p stored
    → Plays (if b then Ends (record { filed = Stored; mind = stored }) else and_then (ask (Append name mail)) (appended_by flags name stored p)) es filing → AtFile b name mail (folder_piece flags p) es p filing
file_only true flags name mail stored p [] filing stays h = record { same = stays_out stored Stored p filing stays h; done = λ s. refl }
file_only true flags name mail stored p (e ∷ es) filing stays h = absurd h
file_only false flags name mail stored p [] filing stays h = absurd h
file_only false flags name mail stored p (e ∷ es) filing stays h =
    let k = appended flags name stored p e.reply es filing stays h.2 in
    record { same = k.same; done = λ s. (h.0, k.done s) }

filed_as : (kind : Option FolderKind) (flags : Flags) (name : List ℕ) (p : Mind) (es : List Entry) (filing : Filing) → Plays (file_as kind flags name p) es filing
    → AtOne kind (full_name p.base name) (mailbox_piece flags p) (folder_piece flags p) es p filing
filed_as None flags name p es filing h =
    let full = full_name p.base name in
    let k = file_only (is_nothing full) flags full (mailbox_piece flags p) (stored_in name (file_size full flags p) p) p es filing (stays_stored name (file_size full flags p) p) h in
    record { same = k.same; done = k.done }
filed_as (Some kind) flags name p es filing h =
    let k = in_one kind (full_name p.base name) [] (folder_piece flags p) p es filing h in
    record { same = k.same; done = k.done }

-- one destination
pub one_filed : (flags : Flags) (d : Destination) (p : Mind) (es : List Entry) (filing : Filing) → Plays (file_one flags d p) es filing
    → AtOne d.kind (full_of p.base d) (mailbox_piece flags p) (folder_piece flags p) es p filing
one_filed flags d p es filing h = filed_as d.kind flags d.name p es filing h
