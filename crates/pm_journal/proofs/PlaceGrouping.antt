-- The calls of a filing in a folder are shared out in one way only.
use Rattle.std.proofs.Common.{◌≡◌, ℕ, Bool, true, false, List, [], ◌∷◌, ◌++◌, ◌+◌, length, is_some, arith, refl, sym, ap, ◌∙◌, subst, inl, inr, append_assoc}
use Rattle.pm_host.specs.Runs.{logged}
use Rattle.pm_host.specs.declared.answers.Made.TheVariants.{Made as MadeNew, Exists, Failed as MadeFailed}
use Rattle.pm_host.specs.declared.calls.Call.TheVariants.{Names}
use Rattle.pm_host.specs.declared.calls.Answer.{Answer}
use Rattle.pm_host.specs.declared.calls.Answer.TheVariants.{MakeFolder as AnswerMakeFolder, Names as AnswerNames, Failed as AnswerFailed}
use Rattle.pm_host.specs.declared.calls.Logged.{Logged}
use Rattle.pm_journal.specs.Naming.{AreFrom, maildir_folders}
use Rattle.pm_journal.specs.Placing.{Creating, Ended, FileAsks, file_heard, TryGroup, IsSettled, Tries, AfterMaking, MakesFolders, Numbers, AfterNames, PlaceGroup}
use Rattle.pm_journal.specs.declared.placing.FolderKind.{FolderKind}
use Rattle.pm_journal.specs.declared.placing.FolderKind.TheVariants.{Maildir, Mh, Plain}
use Rattle.pm_journal.specs.declared.placing.Stamp.{Stamp}
use Rattle.pm_journal.specs.declared.placing.Candidate.{Candidate}
use Rattle.pm_journal.specs.declared.placing.FileEnd.{FileEnd}
use Rattle.pm_journal.specs.declared.placing.FileEnd.TheVariants.{Taken}
use Rattle.pm_journal.specs.declared.acts.Reply.{Reply}
use Rattle.pm_journal.proofs.OneRun.{first_or, rest_of, Same, IsDone, one_run, same_none, one_end}

ended : (c : Candidate) (piece : List ℕ) (end : FileEnd) → IsDone (FileAsks c piece) (Ended end)
ended c piece end call asks = asks

same_try : (c : Candidate) (piece : List ℕ) (e f : FileEnd) (g h r q : List Logged) → TryGroup c piece e g → TryGroup c piece f h → g ++ r ≡ h ++ q → Same g h r q
same_try c piece e f g h r q x y same =
    one_run (FileAsks c piece) (file_heard (is_some c.to) (length piece)) Creating (Ended e) (Ended f) g h r q x y (ended c piece e) (ended c piece f) same

same_end : (c : Candidate) (piece : List ℕ) (e f : FileEnd) (g h : List Logged) → TryGroup c piece e g → TryGroup c piece f h → g ≡ h → e ≡ f
same_end c piece e f g h x y same =
    let states : Ended e ≡ Ended f = one_end (FileAsks c piece) (file_heard (is_some c.to) (length piece)) Creating (Ended e) (Ended f) h (subst (TryGroup c piece e) same x) y in
    cc

-- a name that was tried last isn't one that was taken
not_both : (c : Candidate) (piece : List ℕ) (end : FileEnd) (g first rest r q : List Logged) → TryGroup c piece end g → IsSettled end → TryGroup c piece Taken first → g ++ r ≡ (first ++ rest) ++ q → ⊥
not_both c piece end g first rest r q x settled y same =
    let s = same_try c piece end Taken g first r (rest ++ q) x y (same ∙ append_assoc first rest q) in
    subst IsSettled (same_end c piece end Taken g first x y s.group) settled

pub in_rows : (first other rest more r q : List Logged) → Same first other (rest ++ r) (more ++ q) → Same rest more r q → Same (first ++ rest) (other ++ more) r q
in_rows first other rest more r q s t = record { group = ap (λ l. l ++ rest) s.group ∙ ap (λ l. other ++ l) t.group; rest = t.rest }

-- calls that are so put together
pub same_as : (g h a b r q : List Logged) → g ≡ a → h ≡ b → (a ++ r ≡ b ++ q → Same a b r q) → g ++ r ≡ h ++ q → Same g h r q
same_as g h a b r q e f go same =
    let s = go (ap (λ l. l ++ r) (sym e) ∙ same ∙ ap (λ l. l ++ q) f) in
    record { group = e ∙ s.group ∙ sym f; rest = s.rest }

pub parts_of : (a b c d r q : List Logged) → (a ++ b) ++ r ≡ (c ++ d) ++ q → a ++ (b ++ r) ≡ c ++ (d ++ q)
parts_of a b c d r q same = sym (append_assoc a b r) ∙ same ∙ append_assoc c d q

same_tries : (all : List Candidate) (piece : List ℕ) (reply : Reply) (g h r q : List Logged) → Tries all piece reply g → Tries all piece reply h → g ++ r ≡ h ++ q → Same g h r q
same_tries [] piece reply g h r q x y same = same_none g h r q x.1 y.1 same
same_tries (c ∷ cs) piece reply g h r q (inl x) (inl y) same = same_try c piece x.end y.end g h r q x.group y.group same
same_tries (c ∷ cs) piece reply g h r q (inl x) (inr y) same =
    absurd (not_both c piece x.end g y.0 y.1 r q x.group x.settled y.3 (same ∙ ap (λ l. l ++ q) y.2))
same_tries (c ∷ cs) piece reply g h r q (inr x) (inl y) same =
    absurd (not_both c piece y.end h x.0 x.1 q r y.group y.settled x.3 (sym same ∙ ap (λ l. l ++ r) x.2))
same_tries (c ∷ cs) piece reply g h r q (inr x) (inr y) same =
    same_as g h (x.0 ++ x.1) (y.0 ++ y.1) r q x.2 y.2
    (λ e. let s = same_try c piece Taken Taken x.0 y.0 (x.1 ++ r) (y.1 ++ q) x.3 y.3 (parts_of x.0 x.1 y.0 y.1 r q e) in
    in_rows x.0 y.0 x.1 y.1 r q s (same_tries cs piece reply x.1 y.1 r q x.4 y.4 s.rest))
    same

same_names : (make : ℕ → Candidate) (k : ℕ) (a b : List Candidate) → length a ≡ length b → AreFrom make k a → AreFrom make k b → a ≡ b
same_names make k [] [] n x y = refl
same_names make k [] (d ∷ ds) n x y = absurd (omega (arith, n))
same_names make k (c ∷ cs) [] n x y = absurd (omega (arith, n))
same_names make k (c ∷ cs) (d ∷ ds) n x y =
    let one : c ≡ d = x.0 ∙ sym y.0 in
    let more : cs ≡ ds = same_names make (k + 1) cs ds (omega (arith, n)) x.1 y.1 in
    ap (λ z. z ∷ cs) one ∙ ap (λ l. d ∷ l) more

same_numbers : (make : ℕ → Candidate) (piece : List ℕ) (reply : Reply) (g h r q : List Logged) → Numbers make piece reply g → Numbers make piece reply h → g ++ r ≡ h ++ q → Same g h r q
same_numbers make piece reply g h r q x y same =
    let names : y.all ≡ x.all = same_names make 0 y.all x.all (y.are.count ∙ sym x.are.count) y.are.are x.are.are in
    same_tries x.all piece reply g h r q x.tries (subst (λ l. Tries l piece reply h) names y.tries) same

-- folders that were made over the same calls
record SameMakes (all others : Bool) (g h r q : List Logged) : Type 0 where
  whole : all ≡ others
  same : Same g h r q

-- after one `make_folder` in both
after_making : {P Q R : Type 0} (answer : Answer) (all others : Bool) (cs ds : List Logged) → AfterMaking answer all cs P → AfterMaking answer others ds Q → (P → Q → R)
    → (all ≡ false → cs ≡ [] → others ≡ false → ds ≡ [] → R) → R
after_making (AnswerMakeFolder MadeNew) all others cs ds x y both none = both x y
after_making (AnswerMakeFolder Exists) all others cs ds x y both none = both x y
after_making (AnswerMakeFolder MadeFailed) all others cs ds x y both none = none x.0 x.1 y.0 y.1
after_making other all others cs ds x y both none = absurd x

one_more : (all others : Bool) (c : Logged) (cs ds r q : List Logged) → SameMakes all others cs ds r q → SameMakes all others (c ∷ cs) (c ∷ ds) r q
one_more all others c cs ds r q m = record { whole = m.whole; same = record { group = ap (λ l. c ∷ l) m.same.group; rest = m.same.rest } }

same_makes : (folders : List (List ℕ)) (all others : Bool) (g h r q : List Logged) → MakesFolders folders all g → MakesFolders folders others h → g ++ r ≡ h ++ q → SameMakes all others g h r q
same_makes [] all others g h r q x y same = record { whole = x.0 ∙ sym y.0; same = same_none g h r q x.1 y.1 same }
same_makes (n ∷ ns) all others [] h r q x y same = absurd x
same_makes (n ∷ ns) all others (c ∷ cs) [] r q x y same = absurd y
same_makes (n ∷ ns) all others (c ∷ cs) (d ∷ ds) r q x y same =
    let one : c ≡ d = ap (first_or c) same in
    let more : cs ++ r ≡ ds ++ q = ap rest_of same in
    let y' = subst (λ k. AfterMaking k.answer others ds (MakesFolders ns others ds)) (sym one) y.1 in
    let made : SameMakes all others cs ds r q =
    after_making c.answer all others cs ds x.1 y' (λ u v. same_makes ns all others cs ds r q u v more)
    (λ a e b f. record { whole = a ∙ sym b; same = same_none cs ds r q e f more }) in
    subst (λ k. SameMakes all others (c ∷ cs) (k ∷ ds) r q) one (one_more all others c cs ds r q made)

-- folders that couldn't all be made aren't followed by a file
not_made : (folders : List (List ℕ)) (g makes later r q : List Logged) → MakesFolders folders false g → MakesFolders folders true makes → g ++ r ≡ (makes ++ later) ++ q → ⊥
not_made folders g makes later r q x y same =
    let m = same_makes folders false true g makes r (later ++ q) x y (same ∙ append_assoc makes later q) in
    let e : false ≡ true = m.whole in
    cc

same_after_names : (folder piece : List ℕ) (answer : Answer) (reply : Reply) (g h r q : List Logged) → AfterNames folder piece answer reply g → AfterNames folder piece answer reply h → g ++ r ≡ h ++ q → Same g h r q
same_after_names folder piece (AnswerNames parts) reply g h r q x y same = same_numbers _ piece reply g h r q x y same
same_after_names folder piece AnswerFailed reply g h r q x y same = same_none g h r q x.1 y.1 same
same_after_names folder piece other reply g h r q x y same = absurd x

-- the names of the folder were asked, and then the rest
same_listed : (folder piece : List ℕ) (a b : Answer) (reply : Reply) (g h r q : List Logged) → AfterNames folder piece a reply g → AfterNames folder piece b reply h
    → (logged (Names folder) a ∷ g) ++ r ≡ (logged (Names folder) b ∷ h) ++ q → Same (logged (Names folder) a ∷ g) (logged (Names folder) b ∷ h) r q
same_listed folder piece a b reply g h r q x y same =
    let one : logged (Names folder) a ≡ logged (Names folder) b = ap (first_or (logged (Names folder) a)) same in
    let answers : b ≡ a = sym (ap (λ k. k.answer) one) in
    let s = same_after_names folder piece a reply g h r q x (subst (λ k. AfterNames folder piece k reply h) answers y) (ap rest_of same) in
    record { group = ap (λ k. k ∷ g) one ∙ ap (λ l. logged (Names folder) b ∷ l) s.group; rest = s.rest }

-- the folders were made, and then the rest
same_then : (folders : List (List ℕ)) (makes other later more g h r q : List Logged) → MakesFolders folders true makes → MakesFolders folders true other → g ≡ makes ++ later → h ≡ other ++ more
    → ((a b : List Logged) → later ++ a ≡ more ++ b → Same later more a b) → g ++ r ≡ h ++ q → Same g h r q
same_then folders makes other later more g h r q x y e f go same =
    same_as g h (makes ++ later) (other ++ more) r q e f
    (λ k. let m = same_makes folders true true makes other (later ++ r) (more ++ q) x y (parts_of makes later other more r q k) in
    in_rows makes other later more r q m.same (go r q m.same.rest))
    same

pub same_place : (kind : FolderKind) (folder prefix piece : List ℕ) (stamp : Stamp) (reply : Reply) (g h r q : List Logged) → PlaceGroup kind folder prefix piece stamp reply g
    → PlaceGroup kind folder prefix piece stamp reply h → g ++ r ≡ h ++ q → Same g h r q
same_place Maildir folder prefix piece stamp reply g h r q (inl x) (inl y) same = (same_makes (maildir_folders folder) false false g h r q x.makes y.makes same).same
same_place Maildir folder prefix piece stamp reply g h r q (inl x) (inr y) same =
    absurd (not_made (maildir_folders folder) g y.makes y.tries r q x.makes y.made (same ∙ ap (λ l. l ++ q) y.calls_are))
same_place Maildir folder prefix piece stamp reply g h r q (inr x) (inl y) same =
    absurd (not_made (maildir_folders folder) h x.makes x.tries q r y.makes x.made (sym same ∙ ap (λ l. l ++ r) x.calls_are))
same_place Maildir folder prefix piece stamp reply g h r q (inr x) (inr y) same =
    same_then (maildir_folders folder) x.makes y.makes x.tries y.tries g h r q x.made y.made x.calls_are y.calls_are
    (λ a b e. same_numbers _ piece reply x.tries y.tries a b x.numbers y.numbers e) same
same_place Mh folder prefix piece stamp reply g h r q (inl x) (inl y) same = (same_makes (folder ∷ []) false false g h r q x.makes y.makes same).same
same_place Mh folder prefix piece stamp reply g h r q (inl x) (inr y) same =
    absurd (not_made (folder ∷ []) g y.makes (logged (Names folder) y.answer ∷ y.tries) r q x.makes y.made (same ∙ ap (λ l. l ++ q) y.calls_are))
same_place Mh folder prefix piece stamp reply g h r q (inr x) (inl y) same =
    absurd (not_made (folder ∷ []) h x.makes (logged (Names folder) x.answer ∷ x.tries) q r y.makes x.made (sym same ∙ ap (λ l. l ++ r) x.calls_are))
same_place Mh folder prefix piece stamp reply g h r q (inr x) (inr y) same =
    same_then (folder ∷ []) x.makes y.makes (logged (Names folder) x.answer ∷ x.tries) (logged (Names folder) y.answer ∷ y.tries) g h r q x.made y.made x.calls_are y.calls_are
    (λ a b e. same_listed folder piece x.answer y.answer reply x.tries y.tries a b x.filed y.filed e) same
same_place Plain folder prefix piece stamp reply g h r q x y same = same_numbers _ piece reply g h r q x y same
