-- What the filing of a piece in a folder adds.
use Rattle.std.proofs.Common.{◌≡◌, ℕ, Bool, true, false, cond, List, [], ◌∷◌, ◌++◌, take, Option, Some, None, bytes_eq, refl, sym, ap, ◌∙◌, subst, inl, inr}
use Rattle.std.proofs.lemmas.Slice.Eq.{bytes_eq-Decides}
use Rattle.pm_host.specs.World.{World, world_with, FoldersRight}
use Rattle.pm_host.specs.Runs.{after_calls, AllRight, logged}
use Rattle.pm_host.proofs.Put.{get-put}
use Rattle.pm_host.specs.declared.nodes.Node.{Node}
use Rattle.pm_host.specs.declared.nodes.Node.TheVariants.{File as AFile, Folder as AFolder}
use Rattle.pm_host.specs.declared.answers.Made.TheVariants.{Made as MadeNew, Exists, Failed as MadeFailed}
use Rattle.pm_host.specs.declared.calls.Call.{Call}
use Rattle.pm_host.specs.declared.calls.Call.TheVariants.{MakeFolder, Names}
use Rattle.pm_host.specs.declared.calls.Answer.{Answer}
use Rattle.pm_host.specs.declared.calls.Answer.TheVariants.{MakeFolder as AnswerMakeFolder, Names as AnswerNames, Failed as AnswerFailed}
use Rattle.pm_host.specs.declared.calls.Logged.{Logged}
use Rattle.pm_journal.specs.Filed.{folders_of, IsOneOf, SameOrMade, OnlyFolders, AddsFile, PlacesRight}
use Rattle.pm_journal.specs.Naming.{maildir_folders}
use Rattle.pm_journal.specs.Placing.{AfterMaking, MakesFolders, AfterNames, PlaceGroup, with_new, folder_by, with_folders, after_placed, WasFree, FitsPiece}
use Rattle.pm_journal.specs.declared.placing.FolderKind.{FolderKind}
use Rattle.pm_journal.specs.declared.placing.FolderKind.TheVariants.{Maildir, Mh, Plain}
use Rattle.pm_journal.specs.declared.placing.Stamp.{Stamp}
use Rattle.pm_journal.specs.declared.acts.Reply.{Reply}
use Rattle.pm_journal.specs.declared.acts.Reply.TheVariants.{Placed, TornAt}
use Rattle.pm_journal.proofs.PlaceEffect.{right_split, with_folders-append, tries_no_folder, place_effect}

only_none : (folders : List (List ℕ)) (w : World) → OnlyFolders folders w w
only_none folders w = record { each = λ q. inl refl }

pub both_made : (folders : List (List ℕ)) (name : List ℕ) (x y z : Option Node) → SameOrMade folders name x y → SameOrMade folders name y z → SameOrMade folders name x z
both_made folders name x y z (inl e) (inl f) = inl (f ∙ e)
both_made folders name x y z (inl e) (inr f) = inr (f.0, sym e ∙ f.1, f.2)
both_made folders name x y z (inr e) (inl f) = inr (e.0, e.1, f ∙ e.2)
both_made folders name x y z (inr e) (inr f) = let folder : y ≡ Some AFolder = e.2 in let none : y ≡ None = f.1 in absurd (cc)

only_then : (folders : List (List ℕ)) (u v w : World) → OnlyFolders folders u v → OnlyFolders folders v w → OnlyFolders folders u w
only_then folders u v w h k = record { each = λ q. both_made folders q (u.nodes q) (v.nodes q) (w.nodes q) (h.each q) (k.each q) }

wider_at : (n : List ℕ) (ns : List (List ℕ)) (name : List ℕ) (x y : Option Node) → SameOrMade ns name x y → SameOrMade (n ∷ ns) name x y
wider_at n ns name x y (inl e) = inl e
wider_at n ns name x y (inr e) = inr (inr e.0, e.1, e.2)

wider : (n : List ℕ) (ns : List (List ℕ)) (u v : World) → OnlyFolders ns u v → OnlyFolders (n ∷ ns) u v
wider n ns u v h = record { each = λ q. wider_at n ns q (u.nodes q) (v.nodes q) (h.each q) }

free_folder : (x : Option Node) → FoldersRight x MadeNew → x ≡ None
free_folder None h = refl
free_folder (Some n) h = absurd h

put_folder : (folders : List (List ℕ)) (q : List ℕ) (b : Bool) (x : Option Node) → (b ≡ true → x ≡ None) → (b ≡ true → IsOneOf q folders) → SameOrMade folders q x (cond b (Some AFolder) x)
put_folder folders q true x none one = inr (one refl, none refl, refl)
put_folder folders q false x none one = inl refl

one_folder : (n : List ℕ) (ns : List (List ℕ)) (w : World) → w.nodes n ≡ None → OnlyFolders (n ∷ ns) w (world_with w n (Some AFolder))
one_folder n ns w none = record {
  each = λ q.
      put_folder (n ∷ ns) q (bytes_eq n q) (w.nodes q)
      (λ e. ap w.nodes (sym ((bytes_eq-Decides n q).0 e)) ∙ none)
      (λ e. inl (sym ((bytes_eq-Decides n q).0 e)));
}

-- after the first folder
made_only : (n : List ℕ) (ns : List (List ℕ)) (call : Call) (answer : Answer) (all : Bool) (later : List Logged) (more : Type 0) (w : World) → call ≡ MakeFolder n → AfterMaking answer all later more
    → AllRight (logged call answer ∷ later) w → ((v : World) → more → AllRight later v → OnlyFolders ns v (with_folders later v)) → OnlyFolders (n ∷ ns) w (with_folders later (folder_by call answer w))
made_only n ns call (AnswerMakeFolder MadeNew) all later more w is h right rest =
    subst (λ k. OnlyFolders (n ∷ ns) w (with_folders later (folder_by k (AnswerMakeFolder MadeNew) w))) (sym is)
    (let r = subst (λ k. AllRight (logged k (AnswerMakeFolder MadeNew) ∷ later) w) is right in
    let there = world_with w n (Some AFolder) in
    only_then (n ∷ ns) w there (with_folders later there) (one_folder n ns w (free_folder (w.nodes n) r.0)) (wider n ns there (with_folders later there) (rest there h r.1)))
made_only n ns call (AnswerMakeFolder Exists) all later more w is h right rest =
    subst (λ k. OnlyFolders (n ∷ ns) w (with_folders later (folder_by k (AnswerMakeFolder Exists) w))) (sym is)
    (let r = subst (λ k. AllRight (logged k (AnswerMakeFolder Exists) ∷ later) w) is right in wider n ns w (with_folders later w) (rest w h r.1))
made_only n ns call (AnswerMakeFolder MadeFailed) all later more w is h right rest =
    subst (λ k. OnlyFolders (n ∷ ns) w (with_folders later (folder_by k (AnswerMakeFolder MadeFailed) w))) (sym is)
    (subst (λ l. OnlyFolders (n ∷ ns) w (with_folders l w)) (sym h.1) (only_none (n ∷ ns) w))
made_only n ns call other all later more w is h right rest = absurd h

pub makes_only : (folders : List (List ℕ)) (all : Bool) (calls : List Logged) (w : World) → MakesFolders folders all calls → AllRight calls w → OnlyFolders folders w (with_folders calls w)
makes_only [] all calls w m right = subst (λ cs. OnlyFolders [] w (with_folders cs w)) (sym m.1) (only_none [] w)
makes_only (n ∷ ns) all [] w m right = absurd m
makes_only (n ∷ ns) all (c ∷ cs) w m right =
    made_only n ns c.call c.answer all cs (MakesFolders ns all cs) w m.0 m.1 right (λ v r h. makes_only ns all cs v r h)

-- the calls that follow the folders make no folder
then_only : (folders : List (List ℕ)) (makes later calls : List Logged) (w : World) → calls ≡ makes ++ later → MakesFolders folders true makes → AllRight calls w → ((v : World) → with_folders later v ≡ v)
    → OnlyFolders folders w (with_folders calls w)
then_only folders makes later calls w e made right none =
    let parts = right_split makes later w (subst (λ l. AllRight l w) e right) in
    subst (OnlyFolders folders w) (sym (ap (λ l. with_folders l w) e ∙ with_folders-append makes later w ∙ none (with_folders makes w))) (makes_only folders true makes w made parts.0)

names_no_folder : (folder piece : List ℕ) (answer : Answer) (reply : Reply) (tries : List Logged) (w : World) → AfterNames folder piece answer reply tries → with_folders (logged (Names folder) answer ∷ tries) w ≡ w
names_no_folder folder piece (AnswerNames parts) reply tries w h = tries_no_folder h.all piece reply tries w h.tries
names_no_folder folder piece AnswerFailed reply tries w h = ap (λ l. with_folders l w) h.1
names_no_folder folder piece other reply tries w h = absurd h

place_only : (kind : FolderKind) (folder prefix piece : List ℕ) (stamp : Stamp) (reply : Reply) (calls : List Logged) (w : World) → PlaceGroup kind folder prefix piece stamp reply calls → AllRight calls w
    → OnlyFolders (folders_of kind folder) w (with_folders calls w)
place_only Maildir folder prefix piece stamp reply calls w (inl g) right = makes_only (maildir_folders folder) false calls w g.makes right
place_only Maildir folder prefix piece stamp reply calls w (inr g) right =
    then_only (maildir_folders folder) g.makes g.tries calls w g.calls_are g.made right (λ v. tries_no_folder g.numbers.all piece reply g.tries v g.numbers.tries)
place_only Mh folder prefix piece stamp reply calls w (inl g) right = makes_only (folder ∷ []) false calls w g.makes right
place_only Mh folder prefix piece stamp reply calls w (inr g) right =
    then_only (folder ∷ []) g.makes (logged (Names folder) g.answer ∷ g.tries) calls w g.calls_are g.made right (λ v. names_no_folder folder piece g.answer reply g.tries v g.filed)
place_only Plain folder prefix piece stamp reply calls w g right = subst (OnlyFolders [] w) (sym (tries_no_folder g.all piece reply calls w g.tries)) (only_none [] w)

same_moment : (call : Call) (answer : Answer) (w : World) → (folder_by call answer w).moment ≡ w.moment
same_moment (MakeFolder name) (AnswerMakeFolder MadeNew) w = refl
same_moment (MakeFolder name) other w = refl
same_moment other answer w = refl

folders_moment : (calls : List Logged) (w : World) → (with_folders calls w).moment ≡ w.moment
folders_moment [] w = refl
folders_moment (c ∷ cs) w = folders_moment cs (folder_by c.call c.answer w) ∙ same_moment c.call c.answer w

was_free : (folders : List (List ℕ)) (name : List ℕ) (x y : Option Node) → SameOrMade folders name x y → y ≡ None → x ≡ None
was_free folders name x y (inl e) none = sym e ∙ none
was_free folders name x y (inr e) none = e.1

adds_file : (folders : List (List ℕ)) (name bytes : List ℕ) (old v : World) → OnlyFolders folders old v → v.moment ≡ old.moment → v.nodes name ≡ None → AddsFile folders name bytes old (with_new v name bytes)
adds_file folders name bytes old v only moment none = record {
  was_free = was_free folders name (old.nodes name) (v.nodes name) (only.each name) none;
  file = get-put v name (Some (AFile (record { bytes = bytes; made = v.moment }))) ∙ ap (λ m. Some (AFile (record { bytes = bytes; made = m }))) moment;
  others = λ q apart. subst (λ b. SameOrMade folders q (old.nodes q) (cond b (Some (AFile (record { bytes = bytes; made = v.moment }))) (v.nodes q))) (sym apart) (only.each q);
}

placed_right : (folders : List (List ℕ)) (piece : List ℕ) (reply : Reply) (old v : World) → OnlyFolders folders old v → v.moment ≡ old.moment → WasFree reply v → FitsPiece reply piece
    → PlacesRight folders piece reply old (after_placed reply piece v)
placed_right folders piece (Placed name) old v only moment free fits = adds_file folders name piece old v only moment free
placed_right folders piece (TornAt name taken) old v only moment free fits = record { within = fits; adds = adds_file folders name (take taken piece) old v only moment free }
placed_right folders piece other old v only moment free fits = only

-- a filing in a folder leaves what its reply says
pub place_delivers : (kind : FolderKind) (folder prefix piece : List ℕ) (stamp : Stamp) (reply : Reply) (calls : List Logged) (w : World) → PlaceGroup kind folder prefix piece stamp reply calls → AllRight calls w
    → PlacesRight (folders_of kind folder) piece reply w (after_calls calls w)
place_delivers kind folder prefix piece stamp reply calls w g right =
    let h = place_effect kind folder prefix piece stamp reply calls w g right in
    subst (PlacesRight (folders_of kind folder) piece reply w) (sym h.is)
    (placed_right (folders_of kind folder) piece reply w (with_folders calls w) (place_only kind folder prefix piece stamp reply calls w g right) (folders_moment calls w) h.free h.fits)
