use Rattle.std.proofs.Common.{◌≡◌, false, sym, ◌∙◌, refl}
use Rattle.pm_streams.specs.Writing.{is_all}
use Rattle.pm_streams.specs.declared.writing.WriteEnd.{WriteEnd}
use Rattle.pm_streams.specs.declared.writing.WriteEnd.TheVariants.{Wrote, Short}
use Rattle.formail_top.specs.Run.{IsWriteStatus}
use Rattle.formail_top.proofs.filtering.write_all.Goals as goal

short_status : (end : WriteEnd) → false ≡ is_all end → IsWriteStatus 74 end
short_status Wrote e = absurd (cc)
short_status (Short n) e = refl

pub returns-clause-ok : goal.returns-clause-ok
returns-clause-ok g c = record {
  end = c.write_texts.ensures.end;
  written = c.write_texts.ensures.written;
  status_is = short_status c.write_texts.ensures.end (sym c.if-write_texts.false ∙ c.write_texts.ensures.all_is);
}
