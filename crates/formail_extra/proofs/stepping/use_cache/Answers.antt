use Rattle.std.proofs.Common.{subst}
use Rattle.formail_extra.specs.Reading.{ReadsCache}
use Rattle.formail_extra.specs.Stepping.{came, absent, too_long}
use Rattle.formail_extra.proofs.stepping.use_cache.Goals as goal

pub returns-in-Whole-clause-uses : goal.returns-in-Whole-clause-uses
returns-in-Whole-clause-uses g c =
    let read = subst (λ e. ReadsCache c.args.cache.now.name e (g.H.Host.told c.args.host.now) (g.H.Host.told c.read_cache.new.host)) c.in-Whole.is c.read_cache.ensures.reads in
    came c.in-Whole.bytes _ read (rw c.as_slice.ensures at c.remember.ensures.remembers)

pub returns-in-Missing-clause-uses : goal.returns-in-Missing-clause-uses
returns-in-Missing-clause-uses g c =
    let read = subst (λ e. ReadsCache c.args.cache.now.name e (g.H.Host.told c.args.host.now) (g.H.Host.told c.read_cache.new.host)) c.in-Missing.is c.read_cache.ensures.reads in
    absent _ read c.remember-in-Missing.ensures.remembers

pub returns-in-Front-clause-uses : goal.returns-in-Front-clause-uses
returns-in-Front-clause-uses g c =
    let read = subst (λ e. ReadsCache c.args.cache.now.name e (g.H.Host.told c.args.host.now) (g.H.Host.told c.read_cache.new.host)) c.in-Front.is c.read_cache.ensures.reads in
    too_long c.in-Front.bytes _ read (rw c.as_slice-in-Front.ensures at c.remember-in-Front.ensures.remembers)
