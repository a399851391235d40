use Rattle.std.proofs.Common.{◌≡◌, ◌++◌, take, drop}
use Rattle.pm_regex.specs.Macros.{to_bracket, members_text}
use Rattle.pm_regex.proofs.macros.members_length.Given as goal

abbrev pub invariant-loop-place : goal.invariant-loop-place
invariant-loop-place l = take l.place l.text ++ to_bracket (drop l.place l.text) ≡ members_text l.text
