-- The letter of each flag (procmailrc(5), "Recipe format").
use Rattle.std.specs.Prelude.{ℕ, [], ◌∷◌, ◌≡◌, true, false, codes}
use Rattle.pm_recipe.specs.Bytes.{is_flag_letter}
use Rattle.pm_recipe.specs.Colon.{flags_of}
use Rattle.pm_recipe.specs.declared.tree.Flags.{Flags}

-- no flag at all
abbrev pub no_flags : Flags
no_flags = record {
  search_head = false;
  search_body = false;
  distinguish = false;
  feed_head = false;
  feed_body = false;
  filter = false;
  copy = false;
  wait = false;
  wait_quiet = false;
  ignore = false;
  raw = false;
  and_chain = false;
  and_ok = false;
  or_else = false;
  on_error = false;
}

-- the flag that each letter sets, and no other; and the letters of flags are the bytes that set one
pub record AreLetters : Type 0 where
  pub head : flags_of (codes "H") ≡ record no_flags { search_head = true }
  pub body : flags_of (codes "B") ≡ record no_flags { search_body = true }
  pub distinguish : flags_of (codes "D") ≡ record no_flags { distinguish = true }
  pub feed_head : flags_of (codes "h") ≡ record no_flags { feed_head = true }
  pub feed_body : flags_of (codes "b") ≡ record no_flags { feed_body = true }
  pub filter : flags_of (codes "f") ≡ record no_flags { filter = true }
  pub copy : flags_of (codes "c") ≡ record no_flags { copy = true }
  pub wait : flags_of (codes "w") ≡ record no_flags { wait = true }
  pub wait_quiet : flags_of (codes "W") ≡ record no_flags { wait_quiet = true }
  pub ignore : flags_of (codes "i") ≡ record no_flags { ignore = true }
  pub raw : flags_of (codes "r") ≡ record no_flags { raw = true }
  pub and_chain : flags_of (codes "A") ≡ record no_flags { and_chain = true }
  pub and_ok : flags_of (codes "a") ≡ record no_flags { and_ok = true }
  pub or_else : flags_of (codes "E") ≡ record no_flags { or_else = true }
  pub on_error : flags_of (codes "e") ≡ record no_flags { on_error = true }
  pub others : (byte : ℕ) → is_flag_letter byte ≡ false → flags_of (byte ∷ []) ≡ no_flags
  pub letters : (byte : ℕ) → flags_of (byte ∷ []) ≡ no_flags → is_flag_letter byte ≡ false
