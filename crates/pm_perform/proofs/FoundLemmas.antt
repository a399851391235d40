-- Where memory was wanting between deliveries, a folder was met.
use Rattle.std.proofs.Common.{◌≡◌, Bool, true, false, List, ℕ, [], ◌∷◌, ◌++◌, refl, sym, ap, ◌∙◌, append_assoc, append-nil}
use Rattle.std.specs.Prelude.{◌||◌}
use Rattle.std.proofs.lemmas.List.{append_cancel_left}
use Rattle.pm_journal.specs.JournalState.{JournalState}
use Rattle.pm_journal.specs.Entries.{View}
use Rattle.pm_journal.specs.Executed.{Executes, OutOfMemory}
use Rattle.pm_journal.specs.Noted.{NotesAct}
use Rattle.pm_journal.specs.Plan.{Plan}
use Rattle.pm_journal.specs.declared.acts.Act.{Act}
use Rattle.pm_journal.specs.declared.acts.Act.TheVariants.{Append, Moment}
use Rattle.pm_journal.specs.declared.acts.Reply.{Reply}
use Rattle.pm_journal.specs.declared.acts.Entry.{Entry}
use Rattle.pm_perform.specs.Filing.{is_folder_there, is_folder_met, met_folder, HasNone, HasMet}

-- one of two holds
or_true_left : (b c : Bool) → b ≡ true → (b || c) ≡ true
or_true_left true c e = refl
or_true_left false c e = let f : false ≡ true = e in absurd (cc)

or_true_right : (b c : Bool) → c ≡ true → (b || c) ≡ true
or_true_right true c e = refl
or_true_right false c e = e

met_after : (front back : List Entry) → met_folder back ≡ true → met_folder (front ++ back) ≡ true
met_after [] back h = h
met_after (e ∷ es) back h = or_true_right (is_folder_met e.act e.reply) (met_folder (es ++ back)) (met_after es back h)

-- an append found a folder
pub met_append : (e : Entry) (name piece : List ℕ) (reply : Reply) → e.act ≡ Append name piece → e.reply ≡ reply → is_folder_there reply ≡ true → is_folder_met e.act e.reply ≡ true
met_append e name piece reply act is there = ap (λ a. is_folder_met a e.reply) act ∙ (ap is_folder_there is ∙ there)

-- the moment was asked
pub met_moment : (e : Entry) → e.act ≡ Moment → is_folder_met e.act e.reply ≡ true
met_moment e act = ap (λ a. is_folder_met a e.reply) act

-- the new entries are these
new_are : (x y : JournalState) (more others : List Entry) → y.entries ≡ x.entries ++ more → y.entries ≡ x.entries ++ others → others ≡ more
new_are x y more others h k = append_cancel_left x.entries others more (sym k ∙ h)

-- no entry is new
pub none_new : (x y : JournalState) → y.entries ≡ x.entries → HasNone x y
none_new x y e more h met = new_are x y [] more (e ∙ sym (append-nil x.entries)) h

-- a folder was met among the later entries
met_later : (x y z : JournalState) (front : List Entry) → y.entries ≡ x.entries ++ front → HasMet y z → (back : List Entry) → z.entries ≡ y.entries ++ back → HasMet x z
met_later x y z front e h back f more k =
    let whole : z.entries ≡ x.entries ++ (front ++ back) = f ∙ (ap (λ l. l ++ back) e ∙ append_assoc x.entries front back) in
    let is : more ≡ front ++ back = new_are x z (front ++ back) more whole k in
    ap met_folder is ∙ met_after front back (h back f)

-- the first of these entries met a folder
pub met_first : (x y z : JournalState) (e : Entry) (back : List Entry) → y.entries ≡ x.entries ++ e ∷ [] → is_folder_met e.act e.reply ≡ true → z.entries ≡ y.entries ++ back → HasMet x z
met_first x y z e back first there f more k =
    let whole : z.entries ≡ x.entries ++ (e ∷ back) = f ∙ (ap (λ l. l ++ back) first ∙ append_assoc x.entries (e ∷ []) back) in
    let is : more ≡ e ∷ back = new_are x z (e ∷ back) more whole k in
    ap met_folder is ∙ or_true_left (is_folder_met e.act e.reply) (met_folder back) there

-- nothing can be missing where a folder was met
pub met_none : (x y : JournalState) → HasMet x y → HasNone x y
met_none x y h more k none = let f : true ≡ false = sym (h more k) ∙ none in absurd (cc)

-- some entries more
pub record Grown (x y : JournalState) : Type 0 where
  pub more : List Entry
  pub entries : y.entries ≡ x.entries ++ more

pub grown_none : (x y : JournalState) → y.entries ≡ x.entries → Grown x y
grown_none x y e = record { more = []; entries = e ∙ sym (append-nil x.entries) }

pub grown_on : (x y z : JournalState) → Grown x y → Grown y z → Grown x z
grown_on x y z h k = record { more = h.more ++ k.more; entries = k.entries ∙ (ap (λ l. l ++ k.more) h.entries ∙ append_assoc x.entries h.more k.more) }

pub grown_by : {R : Type 0} (plan : Plan R) (end : R) (x y : JournalState) (a b : View) → Executes plan end x y a b → Grown x y
grown_by plan end x y a b h = record { more = h.more; entries = h.entries }

pub grown_act : (act : Act) (reply : Reply) (x y : JournalState) (a b : View) → NotesAct act reply x y a b → Grown x y
grown_act act reply x y a b n = record { more = n.entry ∷ []; entries = n.entries }

pub grown_out : {R : Type 0} (plan : Plan R) (x y : JournalState) (a b : View) → OutOfMemory plan x y a b → Grown x y
grown_out plan x y a b h = record { more = h.more; entries = h.entries }

pub met_on : (x y z : JournalState) → Grown x y → Grown y z → HasMet y z → HasMet x z
met_on x y z h k met = met_later x y z h.more h.entries met k.more k.entries

-- the moment was asked, and then came these
pub met_asked : (reply : Reply) (x y z : JournalState) (a b : View) → NotesAct Moment reply x y a b → Grown y z → HasMet x z
met_asked reply x y z a b n k = met_first x y z n.entry k.more n.entries (met_moment n.entry n.act_is) k.entries
