use Rattle.std.proofs.Common.{◌≡◌, ℕ, List, option_map, if◌then◌else◌}
use Rattle.std.specs.List.{list_any}
use Rattle.formail_extra.specs.Cache.{is_line_of}
use Rattle.formail_extra.specs.Table.{mark_at}
use Rattle.formail_extra.proofs.marks.mark_all.Given as goal

abbrev pub invariant-loop-line : goal.invariant-loop-line
invariant-loop-line l = (id : List ℕ) → mark_at l.table id
    ≡ (if list_any (λ r. is_line_of id r.now) l.yielded then option_map (λ _. l.round) (mark_at l.fn.table id) else mark_at l.fn.table id)
