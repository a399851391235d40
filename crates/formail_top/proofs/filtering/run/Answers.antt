use Rattle.std.proofs.Common.{sym, ◌∙◌, subst, refl, map, string_bytes}
use Rattle.pm_streams.specs.Reading.{Drains}
use Rattle.formail_top.specs.Run.{too_long, lost, put}
use Rattle.formail_top.proofs.Bounds.{asked_within}
use Rattle.formail_top.proofs.LeavingLemmas.{on_err, left_off}
use Rattle.formail_top.proofs.filtering.run.Goals as goal

pub returns-in-TooMany-clause-ok : goal.returns-in-TooMany-clause-ok
returns-in-TooMany-clause-ok g c =
    let read = sym c.in_ok-request.ensures ∙ c.in-Some.is in
    let past = subst (λ m. Drains m (g.S.Source.told c.args.source.now) (g.S.Source.told c.read_mail.new.source)) c.in-TooMany.is c.in_ok-read_mail.ensures in
    too_long refl c.in-Some.request read past (record { host_same = refl; out_same = refl })

pub returns-in-Failed-clause-ok : goal.returns-in-Failed-clause-ok
returns-in-Failed-clause-ok g c =
    let read = sym c.in_ok-request.ensures ∙ c.in-Some.is in
    let stops = subst (λ m. Drains m (g.S.Source.told c.args.source.now) (g.S.Source.told c.read_mail.new.source)) c.in-Failed.is c.in_ok-read_mail.ensures in
    lost refl c.in-Some.request read stops (record { host_same = refl; out_same = refl })

pub returns-clause-ok : goal.returns-clause-ok
returns-clause-ok g c =
    let read = sym c.in_ok-request.ensures ∙ c.in-Some.is in
    let drained = subst (λ m. Drains m (g.S.Source.told c.args.source.now) (g.S.Source.told c.read_mail.new.source)) c.in-Bytes.is c.in_ok-read_mail.ensures in
    put c.in-Some.request read c.in-Bytes.bytes drained (rw c.share.ensures at c.in_ok-status-in-Bytes.ensures.ok)

pub returns-in_err-status-in-Bytes-clause-left : goal.returns-in_err-status-in-Bytes-clause-left
returns-in_err-status-in-Bytes-clause-left g c =
    let read = sym c.in_ok-request.ensures ∙ c.in-Some.is in
    on_err _ (left_off _ c.in-Some.request _ _ read c.in_err-status-in-Bytes.ensures.left)

pub treat_all-requires-clause-most : goal.treat_all-requires-clause-most
treat_all-requires-clause-most g c = asked_within (map string_bytes c.args.words.now) c.in-Some.request (sym c.in_ok-request.ensures ∙ c.in-Some.is)
