use Rattle.std.proofs.Common.{refl}
use Rattle.std.specs.Fmt.{digits}
use Rattle.bstr.proofs.Computing.{computing}
use Rattle.json.specs.Print.{escape_byte, print_from}
use Rattle.test_text.specs.Bags.{is_over}
use Rattle.explain_mails.specs.Objects.{act_member}
use Rattle.explain_mails.specs.Recipes.{matched_member, error_member, sizes_members}
use Rattle.explain_mails.proofs.laws.object_examples.Goals as goal

-- each by computing
pub returns : goal.returns
unfolding digits computing escape_byte print_from is_over act_member matched_member error_member sizes_members
returns c = record {
  runs = record { whole = refl; quiet = refl; nowhere = refl; nothing = refl; log = refl; odd_name = refl };
  recipes = record { run = refl; quiet = refl; holds = refl; matched = refl; counted = refl; counted_match = refl; size = refl; program = refl; defect = refl; long = refl };
  mails = record { mail = refl; outcome = refl; lost = refl; comparison = refl; none = refl; quiet_comparison = refl };
}
