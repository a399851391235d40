-- Runs and mails as objects of JSON, each on a line.
use Rattle.std.specs.Prelude.{ℕ, Bool, false, List, [], ◌∷◌, ◌++◌, length, flat_map, count_by, Option, codes, if◌then◌else◌}
use Rattle.json.specs.Print.{print}
use Rattle.json.specs.Token.{Token, begin_object, end_object, begin_array, end_array, key}
use Rattle.pm_conds.specs.declared.observer.Note.{Note}
use Rattle.pm_journal.specs.declared.acts.Entry.{Entry}
use Rattle.explain_text.specs.Steps.{steps_of}
use Rattle.explain_text.specs.Lines.{delivered_to}
use Rattle.explain_text.specs.declared.step.Kind.{Kind}
use Rattle.explain_text.specs.declared.step.Kind.TheVariants.{Read, Append, File, Lock, Unlock, Run, Filter, Log, Say, Write}
use Rattle.explain_text.specs.declared.step.Step.{Step}
use Rattle.explain_mails.specs.Compared.{goes_elsewhere}
use Rattle.explain_mails.specs.Went.{Went}
use Rattle.explain_mails.specs.declared.outcome.Compared.{Compared}
use Rattle.explain_mails.specs.Recipes.{recipes_member}
use Rattle.explain_mails.specs.Members.{text_member, maybe_member, number_member, truth_member, texts_member}

-- an object with these members, on a line
abbrev pub object_line : List Token → List ℕ
object_line members = print (begin_object ∷ (members ++ end_object ∷ [])) ++ codes "\n"

-- the word for a kind of step
abbrev pub act_of : Kind → List ℕ
act_of Read = codes "read"
act_of Append = codes "append"
act_of File = codes "file"
act_of Lock = codes "lock"
act_of Unlock = codes "unlock"
act_of Run = codes "run"
act_of Filter = codes "filter"
act_of Log = codes "log"
act_of Say = codes "say"
act_of Write = codes "write"

unfoldable pub act_member : Kind → List Token
act_member kind = text_member (codes "act") (act_of kind)

-- what a step does, and with what
abbrev pub what_members : Step → List Token
what_members s = act_member s.kind ++ text_member (codes "name") s.name ++ number_member (codes "bytes") s.bytes

-- how it went
abbrev pub how_members : Step → List Token
how_members s = truth_member (codes "done") s.done ++ number_member (codes "code") s.code ++ text_member (codes "text") s.text

abbrev pub step_tokens : Step → List Token
step_tokens s = begin_object ∷ (what_members s ++ how_members s ++ end_object ∷ [])

-- the steps, unless the result alone is wanted
abbrev pub steps_member : Bool → List Step → List Token
steps_member quiet steps = if quiet then [] else key (codes "steps") ∷ begin_array ∷ (flat_map step_tokens steps ++ end_array ∷ [])

abbrev pub run_members : Bool → List Entry → List Note → ℕ → List Token
run_members quiet entries notes status =
    steps_member quiet (steps_of entries) ++ recipes_member quiet entries notes ++ maybe_member (codes "delivered_to") (delivered_to (steps_of entries)) ++ number_member (codes "status") status

-- a run
abbrev pub run_object : Bool → List Entry → List Note → ℕ → List ℕ
run_object quiet entries notes status = object_line (run_members quiet entries notes status)

-- the number of a mail and its subject
abbrev pub mail_members : ℕ → Option (List ℕ) → List Token
mail_members n subject = number_member (codes "mail") n ++ maybe_member (codes "subject") subject

-- the run of a mail
abbrev pub mail_object : ℕ → Option (List ℕ) → List Entry → List Note → ℕ → List ℕ
mail_object n subject entries notes status = object_line (mail_members n subject ++ run_members false entries notes status)

-- where a mail goes, and the status
abbrev pub outcome_members : Went → List Token
outcome_members went = texts_member (codes "destinations") went.names ++ number_member (codes "status") went.status

-- what a mail comes to
abbrev pub outcome_object : ℕ → Option (List ℕ) → Went → List ℕ
outcome_object n subject went = object_line (mail_members n subject ++ outcome_members went)

abbrev pub outcome_member : List ℕ → Went → List Token
outcome_member name went = key name ∷ begin_object ∷ (outcome_members went ++ end_object ∷ [])

-- a mail by both rcfiles
abbrev pub move_tokens : Compared → List Token
move_tokens mail =
    begin_object ∷ (mail_members mail.number mail.subject ++ outcome_member (codes "old") mail.old ++ outcome_member (codes "new") mail.new ++ end_object ∷ [])

-- it, where it goes elsewhere
abbrev pub listed_tokens : Compared → List Token
listed_tokens mail = if goes_elsewhere mail then move_tokens mail else []

-- how many mails there are, and how many go elsewhere
abbrev pub count_members : List Compared → List Token
count_members mails = number_member (codes "mails") (length mails) ++ number_member (codes "elsewhere") (count_by goes_elsewhere mails)

-- those that do, unless the numbers alone are wanted
abbrev pub moves_member : Bool → List Compared → List Token
moves_member quiet mails = if quiet then [] else key (codes "moves") ∷ begin_array ∷ (flat_map listed_tokens mails ++ end_array ∷ [])

-- the mails by two rcfiles
abbrev pub comparison_object : Bool → List Compared → List ℕ
comparison_object quiet mails = object_line (count_members mails ++ moves_member quiet mails)
