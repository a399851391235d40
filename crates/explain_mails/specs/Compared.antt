-- Where a mail goes by one rcfile and by another.
use Rattle.std.specs.Prelude.{Bool, not, ◌&&◌, ◌==◌}
use Rattle.test_text.specs.Bags.{is_same}
use Rattle.explain_mails.specs.Went.{Went}
use Rattle.explain_mails.specs.declared.outcome.Compared.{Compared}

-- the same destinations, in any order, and the same status
abbrev pub comes_to_same : Went → Went → Bool
comes_to_same first second = is_same first.names second.names && (first.status == second.status)

-- a mail that the new rcfile doesn't put where the old one does
abbrev pub goes_elsewhere : Compared → Bool
goes_elsewhere mail = not (comes_to_same mail.old mail.new)
