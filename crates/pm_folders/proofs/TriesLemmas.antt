-- Names that are tried in order, put together.
use Rattle.std.proofs.Common.{◌≡◌, ◌≤◌, ◌<◌, ◌+◌, ℕ, zero, List, [], ◌∷◌, ◌++◌, length, drop, get_or, suc, add-one, Option, Some, None, arith, refl, sym, ap, ◌∙◌, subst, inl, inr, append_assoc, append-nil, length-drop}
use Rattle.std.proofs.Math.Seq.{drop-cons}
use Rattle.std.specs.Option.{unwrap_or}
use Rattle.pm_host.specs.Told.{HostView}
use Rattle.pm_host.proofs.RunsJoin.{ran_none, ran_join}
use Rattle.pm_journal.specs.Placing.{try_reply, IsSettled, Tries, final_name}
use Rattle.pm_journal.specs.declared.placing.Candidate.{Candidate}
use Rattle.pm_journal.specs.declared.placing.FileEnd.{FileEnd}
use Rattle.pm_journal.specs.declared.placing.FileEnd.TheVariants.{Filed, Taken, Torn as FileTorn}
use Rattle.pm_journal.specs.declared.acts.Reply.TheVariants.{Placed, TornAt, NamesOut as ReplyNamesOut}
use Rattle.pm_folders.specs.Trying.{candidates_from}
use Rattle.pm_folders.specs.Filing.{Tried, place_reply, TriesAll, TriedSoFar}
use Rattle.pm_folders.specs.declared.tries.PlaceEnd.{PlaceEnd}
use Rattle.pm_folders.specs.declared.tries.PlaceEnd.TheVariants.{Done, Torn, NamesOut}

pub tried_none : (all : List Candidate) (piece : List ℕ) (a : HostView) → TriedSoFar all 0 piece a a
tried_none all piece a = record { calls = []; ran = ran_none a; goes_on = λ reply later t. t }

rest_is : (all : List Candidate) (k : ℕ) (c : Candidate) → k < length all → c ≡ get_or all k c → drop k all ≡ c ∷ drop (k + 1) all
rest_is all k c h e = rw (add-one, drop-cons all k c) (ap (λ x. x ∷ drop (suc k) all) (sym e))

-- one name more was taken
pub tried_more : (all : List Candidate) (k : ℕ) (piece : List ℕ) (c : Candidate) (a b d : HostView) → TriedSoFar all k piece a b → k < length all → c ≡ get_or all k c → Tried c piece Taken b d
    → TriedSoFar all (k + 1) piece a d
tried_more all k piece c a b d so_far h e tried = record {
  calls = so_far.calls ++ tried.calls;
  ran = ran_join so_far.calls tried.calls a b d so_far.ran tried.ran;
  goes_on = λ reply later t.
      subst (Tries all piece reply) (sym (append_assoc so_far.calls tried.calls later))
      (so_far.goes_on reply (tried.calls ++ later)
      (subst (λ l. Tries l piece reply (tried.calls ++ later)) (sym (rest_is all k c h e)) (inr (tried.calls, later, refl, tried.group, t))));
}

-- one name was tried last
pub tried_last : (all : List Candidate) (k : ℕ) (piece : List ℕ) (c : Candidate) (end : FileEnd) (place : PlaceEnd) (a b d : HostView) → TriedSoFar all k piece a b → k < length all → c ≡ get_or all k c
    → Tried c piece end b d → IsSettled end → place_reply place ≡ Some (try_reply c end) → TriesAll all piece place a d
tried_last all k piece c end place a b d so_far h e tried settled reply_is = record {
  reply = try_reply c end;
  reply_is = reply_is;
  calls = so_far.calls ++ tried.calls;
  ran = ran_join so_far.calls tried.calls a b d so_far.ran tried.ran;
  tries = so_far.goes_on (try_reply c end) tried.calls
      (subst (λ l. Tries l piece (try_reply c end) tried.calls) (sym (rest_is all k c h e)) (inl (record { end = end; settled = settled; reply_is = refl; group = tried.group })));
}

nil_of : (l : List Candidate) → length l ≤ 0 → l ≡ []
nil_of [] h = refl
nil_of (x ∷ l) h = absurd (omega arith)

-- all names were taken
pub tried_out : (all : List Candidate) (k : ℕ) (piece : List ℕ) (a b : HostView) → TriedSoFar all k piece a b → length all ≤ k → TriesAll all piece NamesOut a b
tried_out all k piece a b so_far h = record {
  reply = ReplyNamesOut;
  reply_is = refl;
  calls = so_far.calls;
  ran = so_far.ran;
  tries = subst (Tries all piece ReplyNamesOut) (append-nil so_far.calls)
      (so_far.goes_on ReplyNamesOut [] (subst (λ l. Tries l piece ReplyNamesOut []) (sym (nil_of (drop k all) (omega (arith, length-drop k all)))) (refl, refl)));
}

final_is : (at : List ℕ) (to : Option (List ℕ)) → final_name at to ≡ unwrap_or to at
final_is at (Some to) = refl
final_is at None = refl

pub filed_reply : (c : Candidate) (name : List ℕ) → name ≡ unwrap_or c.to c.at → place_reply (Done name) ≡ Some (try_reply c Filed)
filed_reply c name e = ap (λ n. Some (Placed n)) (e ∙ sym (final_is c.at c.to))

pub torn_reply : (c : Candidate) (name : List ℕ) (taken : ℕ) → name ≡ c.at → place_reply (Torn name taken) ≡ Some (try_reply c (FileTorn taken))
torn_reply c name taken e = ap (λ n. Some (TornAt n taken)) e

pub candidates_count : (make : ℕ → Candidate) (k n : ℕ) → length (candidates_from make k n) ≡ n
candidates_count make k zero = refl
candidates_count make k (suc n) = ap suc (candidates_count make (k + 1) n)

get_from : (make : ℕ → Candidate) (k n i : ℕ) (d : Candidate) → i < n → get_or (candidates_from make k n) i d ≡ make (k + i)
get_from make k zero i d h = absurd (omega arith)
get_from make k (suc n) zero d h = let e : k ≡ k + 0 = omega arith in ap make e
get_from make k (suc n) (suc i) d h = let e : k + 1 + i ≡ k + suc i = omega arith in get_from make (k + 1) n i d (omega arith) ∙ ap make e

-- the candidate of this number stands at its place
pub candidate_at : (make : ℕ → Candidate) (n i : ℕ) → i < n → make i ≡ get_or (candidates_from make 0 n) i (make i)
candidate_at make n i h = let e : 0 + i ≡ i = omega arith in sym (get_from make 0 n i (make i) h ∙ ap make e)
