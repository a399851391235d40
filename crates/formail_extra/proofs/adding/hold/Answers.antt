use Rattle.std.proofs.Common.{◌∙◌, refl}
use Rattle.formail_extra.specs.Adding.{known_id, new_id}
use Rattle.formail_extra.proofs.AddingLemmas.{seen_unkept, unseen_kept, known_stays, new_comes}
use Rattle.formail_extra.proofs.adding.hold.Goals as goal

pub returns-then-not-keep-clause-holds : goal.returns-then-not-keep-clause-holds
returns-then-not-keep-clause-holds g c =
    known_id _ c.in-Some.is (seen_unkept _ _ (rw c.in-Some.is at c.requires.keep) c.if-not-keep.true) (refl, refl)

pub returns-then-not-keep-clause-bytes : goal.returns-then-not-keep-clause-bytes
returns-then-not-keep-clause-bytes g c = λ done.
    rw c.in-Some.is (known_stays _ _ _ (seen_unkept _ _ (rw c.in-Some.is at c.requires.keep) c.if-not-keep.true))

pub returns-clause-holds : goal.returns-clause-holds
returns-clause-holds g c =
    new_id _ c.in-Some.is (unseen_kept _ _ (rw c.in-Some.is at c.requires.keep) c.if-not-keep.false)
    (rw c.as_slice.ensures at c.add_id.ensures.adds)

pub returns-clause-bytes : goal.returns-clause-bytes
returns-clause-bytes g c = λ done.
    rw c.in-Some.is ((rw c.as_slice.ensures at c.add_id.ensures.bytes done)
    ∙ new_comes c.args.cache.now.most c.args.known.now.bytes.items c.in-Some.id (unseen_kept _ _ (rw c.in-Some.is at c.requires.keep) c.if-not-keep.false))
