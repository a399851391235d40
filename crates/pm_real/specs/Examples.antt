-- The file that is kept open, step by step.
use Rattle.std.specs.Prelude.{◌≡◌, [], ◌∷◌, codes, true, false, Some, None}
use Rattle.pm_real.specs.View.{FileView}
use Rattle.pm_real.specs.Kept.{just_opened, is_open, in_use, found_again, is_open_target, made_target, appended, read_past, cut_to, after_all}
use Rattle.pm_real.specs.Kept.Change.{Appends, Cuts}
use Rattle.pm_real.specs.declared.mode.Mode.TheVariants.{Reading, Appending}

-- a mailbox to which five bytes were added
abbrev pub mbox : FileView
mbox = record { name = codes "mbox"; mode = Appending; added = Some 5; passed = 0; is_target = false }

-- what holds of it
pub record Examples : Type 0 where
  pub opened : just_opened (codes "m") Reading ≡ record { name = codes "m"; mode = Reading; added = None; passed = 0; is_target = false }
  -- the next call by its name goes on with it; one by another name, or one that reads, opens a file
  pub its_name : in_use (codes "mbox") Appending (Some mbox) ≡ mbox
  pub other_name : in_use (codes "mbo") Appending (Some mbox) ≡ just_opened (codes "mbo") Appending
  pub other_mode : in_use (codes "mbox") Reading (Some mbox) ≡ just_opened (codes "mbox") Reading
  pub read_again : is_open (codes "m") Reading (Some (just_opened (codes "m") Reading)) ≡ true
  pub none_open : is_open (codes "mbox") Appending None ≡ false
  -- once a look found it at its name, nothing is known to be added to it; no other one stays open
  pub found : found_again (codes "mbox") (Some mbox) ≡ Some (just_opened (codes "mbox") Appending)
  pub found_target : found_again (codes "l") (Some (made_target (just_opened (codes "l") Appending)))
      ≡ Some (just_opened (codes "l") Appending)
  pub found_other : found_again (codes "mbo") (Some mbox) ≡ None
  pub found_read : found_again (codes "m") (Some (just_opened (codes "m") Reading)) ≡ None
  pub found_none : found_again (codes "mbox") None ≡ None
  -- bytes add up
  pub first_bytes : appended 5 (just_opened (codes "mbox") Appending) ≡ mbox
  pub more_bytes : (appended 3 mbox).added ≡ Some 8
  pub bytes_read : (read_past 2 (read_past 3 mbox)).passed ≡ 5
  -- as many as were added are cut off, and not one more; a file isn't cut to more bytes than it has
  pub all_cut : cut_to 105 100 mbox ≡ Some (record mbox { added = Some 0 })
  pub some_cut : cut_to 105 103 mbox ≡ Some (record mbox { added = Some 3 })
  pub too_many : cut_to 105 99 mbox ≡ None
  pub longer : cut_to 105 106 mbox ≡ None
  -- one to which nothing was added is cut to any length
  pub nothing_added : cut_to 105 0 (just_opened (codes "mbox") Appending) ≡ Some (just_opened (codes "mbox") Appending)
  -- a target of a link begins with nothing that may be cut off
  pub target : made_target (just_opened (codes "l") Appending) ≡ record { name = codes "l"; mode = Appending; added = Some 0; passed = 0; is_target = true }
  pub target_open : is_open_target (codes "l") (Some (made_target (just_opened (codes "l") Appending))) ≡ true
  pub other_target : is_open_target (codes "m") (Some (made_target (just_opened (codes "l") Appending))) ≡ false
  pub no_target : is_open_target (codes "mbox") (Some mbox) ≡ false
  -- an append that was cut off may be made once more, and be cut off again, but not twice
  pub again : after_all (Cuts 105 100 ∷ Appends 2 ∷ Cuts 102 100 ∷ []) mbox ≡ Some (record mbox { added = Some 0 })
  pub twice : after_all (Cuts 105 100 ∷ Cuts 100 99 ∷ []) mbox ≡ None
