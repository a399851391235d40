use Rattle.std.proofs.Common.{◌≡◌, ◌<◌, ◌≤◌, ◌∙◌, ℕ, List, length, refl, subst, arith}
use Rattle.std.specs.Option.{unwrap_or}
use Rattle.pm_host.specs.Told.{HostView}
use Rattle.pm_journal.specs.declared.placing.Candidate.{Candidate}
use Rattle.pm_journal.specs.declared.placing.FileEnd.{FileEnd}
use Rattle.pm_folders.specs.Filing.{Tried}
use Rattle.pm_folders.specs.Trying.{Trying, nth_try, candidates_from}
use Rattle.pm_folders.proofs.TriesLemmas.{tried_none, tried_more, tried_last, tried_out, filed_reply, torn_reply, candidates_count, candidate_at}
use Rattle.pm_folders.proofs.tries.file_in_first.Goals as goal

inside : (names : Trying) (k : ℕ) → k < 100 → k < length (candidates_from (nth_try names) 0 100)
inside names k h = omega (arith, h, candidates_count (nth_try names) 0 100)

tried_so : (c d : Candidate) (piece : List ℕ) (end : FileEnd) (a b : HostView) → c ≡ d → Tried c piece end a b → Tried d piece end a b
tried_so c d piece end a b e t = subst (λ x. Tried x piece end a b) e t

pub loop-k-init : goal.loop-k-init
loop-k-init g c = record { within = omega arith; so_far = tried_none _ _ _; same = λ j. refl }

pub returns-in-Undone : goal.returns-in-Undone
returns-in-Undone g c =
    let make = nth_try c.args.names in
    let e = c.write.ensures.written ∙ c.loop-k.invariant.same c.loop-k.k in
    tried_last _ _ _ _ _ _ _ _ _ c.loop-k.invariant.so_far (inside c.args.names _ c.loop-k-test.true) (candidate_at make 100 c.loop-k.k c.loop-k-test.true) (tried_so _ _ _ _ _ _ e c.in-Undone.ensures) tt refl

pub returns-in-Filed : goal.returns-in-Filed
returns-in-Filed g c =
    let make = nth_try c.args.names in
    let e = c.write.ensures.written ∙ c.loop-k.invariant.same c.loop-k.k in
    let name = subst (λ (x : Candidate). c.into_filed.result ≡ unwrap_or x.to x.at) e c.into_filed.ensures in
    tried_last _ _ _ _ _ _ _ _ _ c.loop-k.invariant.so_far (inside c.args.names _ c.loop-k-test.true) (candidate_at make 100 c.loop-k.k c.loop-k-test.true) (tried_so _ _ _ _ _ _ e c.in-Filed.ensures) tt
    (filed_reply (make c.loop-k.k) c.into_filed.result name)

pub returns-in-Torn : goal.returns-in-Torn
returns-in-Torn g c =
    let make = nth_try c.args.names in
    let e = c.write.ensures.written ∙ c.loop-k.invariant.same c.loop-k.k in
    let name = subst (λ (x : Candidate). c.into_made.result ≡ x.at) e c.into_made.ensures in
    tried_last _ _ _ _ _ _ _ _ _ c.loop-k.invariant.so_far (inside c.args.names _ c.loop-k-test.true) (candidate_at make 100 c.loop-k.k c.loop-k-test.true) (tried_so _ _ _ _ _ _ e c.in-Torn.ensures) tt
    (torn_reply (make c.loop-k.k) c.into_made.result _ name)

pub loop-k-preserved : goal.loop-k-preserved
loop-k-preserved g c =
    let make = nth_try c.args.names in
    let e = c.write.ensures.written ∙ c.loop-k.invariant.same c.loop-k.k in
    record {
      within = omega (arith, c.loop-k-test.true);
      so_far = tried_more _ _ _ _ _ _ _ c.loop-k.invariant.so_far (inside c.args.names _ c.loop-k-test.true) (candidate_at make 100 c.loop-k.k c.loop-k-test.true) (tried_so _ _ _ _ _ _ e c.in-Taken.ensures);
      same = λ j. c.write.ensures.others j ∙ c.loop-k.invariant.same j;
    }

pub returns : goal.returns
returns g c =
    let h : length (candidates_from (nth_try c.args.names) 0 100) ≤ c.loop-k.k = omega (arith, c.loop-k-test.false, candidates_count (nth_try c.args.names) 0 100) in
    tried_out _ _ _ _ _ c.loop-k.invariant.so_far h
