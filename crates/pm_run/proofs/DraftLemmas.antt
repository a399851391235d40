-- A draft that is finished.
use Rattle.std.proofs.Common.{◌≡◌, Bool, true, false, List, ℕ, [], ◌++◌, refl, ap, ◌∙◌}
use Rattle.std.specs.Prelude.{◌&&◌, codes, bytes_eq}
use Rattle.std.proofs.lemmas.Slice.Eq.{bytes_eq-Decides}
use Rattle.pm_meaning.specs.Abstracts.{folder_part, abstract_of}
use Rattle.pm_meaning.specs.Locks.{value_or}
use Rattle.pm_meaning.specs.Minds.{Mind}
use Rattle.pm_meaning.specs.AbstractParts.{mail_part}
use Rattle.pm_meaning.specs.Telling.{log_name}
use Rattle.pm_run.specs.Drafts.{is_draft_for}
use Rattle.pm_run.specs.declared.draft.Draft.{Draft}

both : (a b : Bool) → (a && b) ≡ true → (a ≡ true) × (b ≡ true)
both true b e = (refl, e)
both false b e = let f : false ≡ true = e in absurd (cc)

-- what the draft says of the mail, LOGFILE's value and the directory are the process's
module _ (draft : Draft) (p : Mind) (suits : is_draft_for draft p ≡ true) where
  abbrev value : List ℕ
  value = value_or [] (codes "LOGFILE") p.vars

  parts : (bytes_eq draft.head p.message.head && bytes_eq draft.value value ≡ true) × (bytes_eq draft.base p.base ≡ true)
  parts = both (bytes_eq draft.head p.message.head && bytes_eq draft.value value) (bytes_eq draft.base p.base) suits

  firsts : (bytes_eq draft.head p.message.head ≡ true) × (bytes_eq draft.value value ≡ true)
  firsts = both (bytes_eq draft.head p.message.head) (bytes_eq draft.value value) parts.0

  same_head : draft.head ≡ p.message.head
  same_head = (bytes_eq-Decides draft.head p.message.head).0 firsts.0

  same_value : draft.value ≡ value
  same_value = (bytes_eq-Decides draft.value value).0 firsts.1

  same_base : draft.base ≡ p.base
  same_base = (bytes_eq-Decides draft.base p.base).0 parts.1

  pub file_is : draft.file ≡ log_name value p.base
  file_is = draft.named ∙ (ap (λ v. log_name v draft.base) same_value ∙ ap (λ b. log_name value b) same_base)

  -- with the line on the delivery it is the abstract
  pub finished : (text : List ℕ) → text ≡ draft.text.items ++ folder_part p.stored → text ≡ abstract_of p
  finished text is =
      is ∙ ap (λ t. t ++ folder_part p.stored) (draft.front ∙ ap (λ h. mail_part h) same_head)
