-- The filing in a folder, put together.
use Rattle.std.proofs.Common.{◌≡◌, ◌≤◌, ◌<◌, ◌+◌, ℕ, zero, suc, add-one, Bool, true, false, List, [], ◌∷◌, ◌++◌, length, drop, get_or, arith, refl, sym, ap, subst, inr, append_assoc, append-nil, length-drop}
use Rattle.std.proofs.Math.Seq.{drop-cons}
use Rattle.pm_host.specs.Told.{HostView, Makes}
use Rattle.pm_host.specs.Runs.{Ran, logged}
use Rattle.pm_host.proofs.RunsJoin.{ran_one, ran_join, ran_then}
use Rattle.pm_host.specs.declared.answers.Made.{Made}
use Rattle.pm_host.specs.declared.answers.Made.TheVariants.{Made as MadeNew, Exists, Failed as MadeFailed}
use Rattle.pm_host.specs.declared.calls.Call.TheVariants.{MakeFolder, Names}
use Rattle.pm_host.specs.declared.calls.Answer.{Answer}
use Rattle.pm_host.specs.declared.calls.Answer.TheVariants.{MakeFolder as AnswerMakeFolder, Names as AnswerNames, Failed as AnswerFailed}
use Rattle.pm_host.specs.declared.calls.Logged.{Logged}
use Rattle.pm_journal.specs.Naming.{AreFrom, Numbered, plain_candidate, mh_candidate, maildir_candidate, maildir_folders, first_number}
use Rattle.pm_journal.specs.Placing.{Numbers, MakesFolders, AfterMaking}
use Rattle.pm_journal.specs.declared.placing.FolderKind.TheVariants.{Maildir, Mh, Plain}
use Rattle.pm_journal.specs.declared.placing.Stamp.{Stamp}
use Rattle.pm_journal.specs.declared.placing.Candidate.{Candidate}
use Rattle.pm_folders.specs.Trying.{candidates_from}
use Rattle.pm_folders.proofs.TriesLemmas.{candidates_count}
use Rattle.pm_folders.specs.Filing.{TriesAll, EndsPlace, PlacesIn, MakesAll, MadeSoFar}
use Rattle.pm_folders.specs.declared.tries.PlaceEnd.{PlaceEnd}
use Rattle.pm_folders.specs.declared.tries.PlaceEnd.TheVariants.{Undone, Memory}

-- the candidates from a number on are the same where each is
are_from : (make other : ℕ → Candidate) (k n : ℕ) → ((j : ℕ) → make j ≡ other j) → AreFrom other k (candidates_from make k n)
are_from make other k zero same = tt
are_from make other k (suc n) same = (same k, are_from make other (k + 1) n same)

-- 100 candidates of these names
pub numbered : (make other : ℕ → Candidate) → ((j : ℕ) → make j ≡ other j) → Numbered other (candidates_from make 0 100)
numbered make other same = record { count = candidates_count make 0 100; are = are_from make other 0 100 same }

numbers_of : (make : ℕ → Candidate) (all : List Candidate) (piece : List ℕ) (end : PlaceEnd) (a b : HostView) → Numbered make all → (t : TriesAll all piece end a b) → Numbers make piece t.reply t.calls
numbers_of make all piece end a b are t = record { all = all; are = are; tries = t.tries }

pub plain_placed : (folder prefix piece : List ℕ) (stamp : Stamp) (all : List Candidate) (end : PlaceEnd) (a b : HostView) → Numbered (plain_candidate folder prefix stamp) all → TriesAll all piece end a b
    → PlacesIn Plain folder prefix piece stamp end a b
plain_placed folder prefix piece stamp all end a b are t = record {
  calls = t.calls;
  ran = t.ran;
  group = subst (λ r. EndsPlace Plain folder prefix piece stamp r t.calls) (sym t.reply_is) (numbers_of (plain_candidate folder prefix stamp) all piece end a b are t);
}

-- a folder is there
abbrev pub IsThere : Made → Type 0
IsThere MadeFailed = ⊥
IsThere other = Unit {0}

made_one : (folder : List ℕ) (made : Made) → IsThere made → MakesFolders (folder ∷ []) true (logged (MakeFolder folder) (AnswerMakeFolder made) ∷ [])
made_one folder MadeNew there = (refl, (refl, refl))
made_one folder Exists there = (refl, (refl, refl))
made_one folder MadeFailed there = absurd there

-- the folder is there and its names were asked
both_ran : (folder : List ℕ) (made : Made) (answer : Answer) (a b c : HostView) → Makes (MakeFolder folder) (AnswerMakeFolder made) a b → Makes (Names folder) answer b c
    → Ran (logged (MakeFolder folder) (AnswerMakeFolder made) ∷ logged (Names folder) answer ∷ []) a c
both_ran folder made answer a b c makes lists = ran_then (logged (MakeFolder folder) (AnswerMakeFolder made) ∷ []) (Names folder) answer a b c (ran_one (MakeFolder folder) (AnswerMakeFolder made) a b makes) lists

pub mh_no_names : (folder prefix piece : List ℕ) (stamp : Stamp) (made : Made) (a b c : HostView) → Makes (MakeFolder folder) (AnswerMakeFolder made) a b → IsThere made → Makes (Names folder) AnswerFailed b c
    → PlacesIn Mh folder prefix piece stamp Undone a c
mh_no_names folder prefix piece stamp made a b c makes there lists = record {
  calls = logged (MakeFolder folder) (AnswerMakeFolder made) ∷ logged (Names folder) AnswerFailed ∷ [];
  ran = both_ran folder made AnswerFailed a b c makes lists;
  group = inr (record { makes = logged (MakeFolder folder) (AnswerMakeFolder made) ∷ []; answer = AnswerFailed; tries = []; calls_are = refl; made = made_one folder made there; filed = (refl, refl) });
}

pub mh_left : (folder prefix piece : List ℕ) (stamp : Stamp) (made : Made) (answer : Answer) (a b c : HostView) → Makes (MakeFolder folder) (AnswerMakeFolder made) a b → IsThere made → Makes (Names folder) answer b c
    → PlacesIn Mh folder prefix piece stamp Memory a c
mh_left folder prefix piece stamp made answer a b c makes there lists = record {
  calls = logged (MakeFolder folder) (AnswerMakeFolder made) ∷ logged (Names folder) answer ∷ [];
  ran = both_ran folder made answer a b c makes lists;
  group = inr (record { makes = logged (MakeFolder folder) (AnswerMakeFolder made) ∷ []; answer = answer; calls_are = refl; made = made_one folder made there });
}

pub mh_placed : (folder prefix piece : List ℕ) (stamp : Stamp) (made : Made) (parts : List (List ℕ)) (all : List Candidate) (end : PlaceEnd) (a b c d : HostView) → Makes (MakeFolder folder) (AnswerMakeFolder made) a b
    → IsThere made → Makes (Names folder) (AnswerNames parts) b c → Numbered (mh_candidate folder (first_number parts)) all → TriesAll all piece end c d → PlacesIn Mh folder prefix piece stamp end a d
mh_placed folder prefix piece stamp made parts all end a b c d makes there lists are t =
    let first = logged (MakeFolder folder) (AnswerMakeFolder made) ∷ [] in
    let calls = first ++ (logged (Names folder) (AnswerNames parts) ∷ t.calls) in
    record {
      calls = calls;
      ran = ran_join (logged (MakeFolder folder) (AnswerMakeFolder made) ∷ logged (Names folder) (AnswerNames parts) ∷ []) t.calls a c d (both_ran folder made (AnswerNames parts) a b c makes lists) t.ran;
      group = subst (λ r. EndsPlace Mh folder prefix piece stamp r calls) (sym t.reply_is)
          (inr (record { makes = first; answer = AnswerNames parts; tries = t.calls; calls_are = refl; made = made_one folder made there; filed = numbers_of (mh_candidate folder (first_number parts)) all piece end c d are t }));
    }

pub there_of : (made : Made) → (made ≡ MadeFailed → ⊥) → IsThere made
there_of MadeNew h = tt
there_of Exists h = tt
there_of MadeFailed h = h refl

after_there : {P : Type 0} (made : Made) (all : Bool) (later : List Logged) → IsThere made → P → AfterMaking (AnswerMakeFolder made) all later P
after_there MadeNew all later there p = p
after_there Exists all later there p = p
after_there MadeFailed all later there p = absurd there

folder_first : (all : List (List ℕ)) (k : ℕ) (n : List ℕ) → k < length all → n ≡ get_or all k n → drop k all ≡ n ∷ drop (k + 1) all
folder_first all k n h e = rw (add-one, drop-cons all k n) (ap (λ x. x ∷ drop (suc k) all) (sym e))

-- one folder more
pub made_more : (all : List (List ℕ)) (k : ℕ) (n : List ℕ) (made : Made) (a b c : HostView) → MadeSoFar all k a b → k < length all → n ≡ get_or all k n → Makes (MakeFolder n) (AnswerMakeFolder made) b c → IsThere made
    → MadeSoFar all (k + 1) a c
made_more all k n made a b c so_far h e makes there =
    let one = logged (MakeFolder n) (AnswerMakeFolder made) in
    record {
      calls = so_far.calls ++ one ∷ [];
      ran = ran_then so_far.calls (MakeFolder n) (AnswerMakeFolder made) a b c so_far.ran makes;
      goes_on = λ whole later m.
          subst (MakesFolders all whole) (sym (append_assoc so_far.calls (one ∷ []) later))
          (so_far.goes_on whole (one ∷ later)
          (subst (λ l. MakesFolders l whole (one ∷ later)) (sym (folder_first all k n h e)) (refl, after_there made whole later there m)));
    }

-- a folder couldn't be made
pub made_not : (all : List (List ℕ)) (k : ℕ) (n : List ℕ) (a b c : HostView) → MadeSoFar all k a b → k < length all → n ≡ get_or all k n → Makes (MakeFolder n) (AnswerMakeFolder MadeFailed) b c → MakesAll all false a c
made_not all k n a b c so_far h e makes =
    let one = logged (MakeFolder n) (AnswerMakeFolder MadeFailed) in
    record {
      calls = so_far.calls ++ one ∷ [];
      ran = ran_then so_far.calls (MakeFolder n) (AnswerMakeFolder MadeFailed) a b c so_far.ran makes;
      makes = so_far.goes_on false (one ∷ []) (subst (λ l. MakesFolders l false (one ∷ [])) (sym (folder_first all k n h e)) (refl, (refl, refl)));
    }

none_left : (l : List (List ℕ)) → length l ≤ 0 → l ≡ []
none_left [] h = refl
none_left (x ∷ l) h = absurd (omega arith)

pub made_all : (all : List (List ℕ)) (k : ℕ) (a b : HostView) → MadeSoFar all k a b → length all ≤ k → MakesAll all true a b
made_all all k a b so_far h = record {
  calls = so_far.calls;
  ran = so_far.ran;
  makes = subst (MakesFolders all true) (append-nil so_far.calls)
      (so_far.goes_on true [] (subst (λ l. MakesFolders l true []) (sym (none_left (drop k all) (omega (arith, length-drop k all)))) (refl, refl)));
}

pub maildir_placed : (folder prefix piece : List ℕ) (stamp : Stamp) (all : List Candidate) (end : PlaceEnd) (a b c : HostView) → MakesAll (maildir_folders folder) true a b
    → Numbered (maildir_candidate folder stamp) all → TriesAll all piece end b c → PlacesIn Maildir folder prefix piece stamp end a c
maildir_placed folder prefix piece stamp all end a b c m are t = record {
  calls = m.calls ++ t.calls;
  ran = ran_join m.calls t.calls a b c m.ran t.ran;
  group = subst (λ r. EndsPlace Maildir folder prefix piece stamp r (m.calls ++ t.calls)) (sym t.reply_is)
      (inr (record { makes = m.calls; tries = t.calls; calls_are = refl; made = m.makes; numbers = numbers_of (maildir_candidate folder stamp) all piece end b c are t }));
}
