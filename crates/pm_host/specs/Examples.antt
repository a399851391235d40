-- A small tree of files, what calls make of it, and what they may answer over it.
use Rattle.std.specs.Prelude.{◌≡◌, ◌≤◌, ℕ, ℤ, pos, ◌-◌, ◌^◌, true, false, List, [], ◌∷◌, length, take, Option, Some, None, codes}
use Rattle.pm_host.specs.World.{World, put, after_call, after_change, after_child, age_at, comes_before, inside, is_part, later_moment, IsAnswerTo, IsFailed, IsRight}
use Rattle.pm_host.specs.Told.{Rose}
use Rattle.pm_host.specs.declared.answers.Aged.TheVariants.{Age as AgeOf, Absent as AgeAbsent}
use Rattle.pm_host.specs.declared.answers.Child.TheVariants.{NoChild, Feeding, Taking}
use Rattle.pm_host.specs.declared.answers.Cut.TheVariants.{Cut as CutDone, Failed as CutFailed}
use Rattle.pm_host.specs.declared.answers.Finished.TheVariants.{Failed as FinishFailed}
use Rattle.pm_host.specs.declared.answers.Looked.TheVariants.{File as LookedFile, Folder as LookedFolder, Nothing, Failed as LookFailed}
use Rattle.pm_host.specs.declared.answers.Made.TheVariants.{Made as MadeNew, Exists, Failed as MadeFailed}
use Rattle.pm_host.specs.declared.answers.Moved.TheVariants.{Moved as MovedDone, Taken, Failed as MoveFailed}
use Rattle.pm_host.specs.declared.answers.Removed.TheVariants.{Removed as RemovedDone, Absent, Failed as RemoveFailed}
use Rattle.pm_host.specs.declared.answers.Synced.TheVariants.{Synced as SyncedDone}
use Rattle.pm_host.specs.declared.answers.Took.TheVariants.{Took as TookSome, Failed as TookFailed}
use Rattle.pm_host.specs.declared.calls.Answer.{Answer}
use Rattle.pm_host.specs.declared.calls.Answer.TheVariants as answer
use Rattle.pm_host.specs.declared.calls.Call.{Call}
use Rattle.pm_host.specs.declared.calls.Call.TheVariants as call
use Rattle.pm_host.specs.declared.nodes.Change.{Change}
use Rattle.pm_host.specs.declared.nodes.Change.TheVariants as change
use Rattle.pm_host.specs.declared.nodes.Node.{Node}
use Rattle.pm_host.specs.declared.nodes.Node.TheVariants.{File as AFile, Folder as AFolder}

-- a file of these bytes that was made at this moment
abbrev pub file : List ℕ → ℕ → Option Node
file bytes made = Some (AFile (record { bytes = bytes; made = pos made }))

-- the names of a file, of a folder, and of nothing
abbrev pub a : List ℕ
a = codes "a"

abbrev pub d : List ℕ
d = codes "d"

abbrev pub n : List ℕ
n = codes "n"

-- a file of three bytes, ten seconds old, to which others will append one, and a folder
abbrev pub tree : World
tree = record {
  nodes = put (put (λ name. None) a (file (codes "xyz") 90)) d (Some AFolder);
  moment = pos 100;
  others = (change.Append a (codes "!") ∷ []) ∷ [];
  children = [];
  inputs = [];
}

-- what stands at a name after a call with this answer, and after a change by others
abbrev pub after : Call → Answer → List ℕ → Option Node
after asked answered name = (after_call asked answered tree).nodes name

abbrev pub changed : Change → List ℕ → Option Node
changed made name = (after_change made tree).nodes name

-- what calls make of the tree
pub record OfCalls : Type 0 where
  pub created : after (call.Create n) (answer.Create MadeNew) n ≡ file [] 100
  pub not_created : after (call.Create n) (answer.Create MadeFailed) n ≡ None
  pub another_stays : after (call.Create n) (answer.Create MadeNew) a ≡ file (codes "xyz") 90
  pub appended : after (call.Append a (codes "pqr")) (answer.Append (TookSome 2)) a ≡ file (codes "xyzpq") 90
  pub not_appended : after (call.Append a (codes "pqr")) (answer.Append TookFailed) a ≡ file (codes "xyz") 90
  pub cut : after (call.Cut a 1) (answer.Cut CutDone) a ≡ file (codes "x") 90
  pub not_cut : after (call.Cut a 1) (answer.Cut CutFailed) a ≡ file (codes "xyz") 90
  pub removed : after (call.Remove a) (answer.Remove RemovedDone) a ≡ None
  pub not_removed : after (call.Remove a) (answer.Remove RemoveFailed) a ≡ file (codes "xyz") 90
  pub moved : after (call.Rename a n) (answer.Rename MovedDone) n ≡ file (codes "xyz") 90
  pub moved_away : after (call.Rename a n) (answer.Rename MovedDone) a ≡ None
  pub not_moved : after (call.Rename a n) (answer.Rename MoveFailed) a ≡ file (codes "xyz") 90
  pub folder_made : after (call.MakeFolder n) (answer.MakeFolder MadeNew) n ≡ Some AFolder
  pub folder_not_made : after (call.MakeFolder n) (answer.MakeFolder MadeFailed) n ≡ None
  pub synced : after (call.Sync a) (answer.Sync SyncedDone) a ≡ file (codes "xyz") 90
  -- others act in a sleep and while a child is waited for, and at no other time
  pub slept : (after_call (call.Sleep 5) answer.Slept tree).moment ≡ pos 105
  pub others_in_sleep : after (call.Sleep 5) answer.Slept a ≡ file (codes "xyz!") 90
  pub others_in_finish : after call.Finish (answer.Finish FinishFailed) a ≡ file (codes "xyz!") 90
  pub no_others_in_look : after (call.Look a) (answer.Look (LookedFile 3)) a ≡ file (codes "xyz") 90
  pub last_moment : later_moment (pos (2 ^ 63 - 1)) 1 ≡ pos (2 ^ 63 - 1)
  pub moment_before : later_moment (pos (2 ^ 63 - 2)) 1 ≡ pos (2 ^ 63 - 1)
  -- others append to a file or make it, make no file over another, and remove no folder
  pub others_append : changed (change.Append a (codes "p")) a ≡ file (codes "xyzp") 90
  pub others_append_new : changed (change.Append n (codes "p")) n ≡ file (codes "p") 100
  pub others_append_folder : changed (change.Append d (codes "p")) d ≡ Some AFolder
  pub others_create : changed (change.Create n (codes "p")) n ≡ file (codes "p") 100
  pub others_create_again : changed (change.Create a (codes "p")) a ≡ file (codes "xyz") 90
  pub others_remove : changed (change.Remove a) a ≡ None
  pub others_remove_folder : changed (change.Remove d) d ≡ Some AFolder
  -- a child is fed, then its output is taken, and then it is waited for
  pub fed : after_child (call.Feed (codes "p")) answer.Failed Feeding ≡ Feeding
  pub taken : after_child (call.Take 5) answer.Failed Feeding ≡ Taking
  pub finished : after_child call.Finish (answer.Finish FinishFailed) Taking ≡ NoChild

-- ages, names and their order
pub record OfNames : Type 0 where
  pub age : age_at (pos 100) (pos 90) ≡ 10
  pub new : age_at (pos 100) (pos 100) ≡ 0
  pub of_a_later_moment : age_at (pos 90) (pos 100) ≡ 0
  pub in_folder : inside d n ≡ codes "d/n"
  pub part : is_part (codes "a.b c") ≡ true
  pub two_parts : is_part (codes "a/b") ≡ false
  pub less : comes_before (codes "ab") (codes "b") ≡ true
  pub greater : comes_before (codes "b") (codes "ab") ≡ false
  pub first_part : comes_before (codes "a") (codes "ab") ≡ true
  pub longer : comes_before (codes "ab") (codes "a") ≡ false
  pub same : comes_before (codes "a") (codes "a") ≡ false

-- what calls may answer
pub record OfAnswers : Type 0 where
  pub length_of_file : (count : ℕ) → IsRight (call.Look a) (answer.Look (LookedFile count)) tree → count ≡ 3
  pub file_is_there : IsRight (call.Look a) (answer.Look Nothing) tree → ⊥
  pub file_is_no_folder : IsRight (call.Look a) (answer.Look LookedFolder) tree → ⊥
  pub folder_is_no_file : IsRight (call.Look d) (answer.Look (LookedFile 0)) tree → ⊥
  pub nothing_is_no_file : IsRight (call.Look n) (answer.Look (LookedFile 0)) tree → ⊥
  pub bytes_read : (bytes : List ℕ) → IsRight (call.Read a 1 9) (answer.Read bytes) tree
      → bytes ≡ take (length bytes) (codes "yz")
  pub nothing_at_end : IsRight (call.Read a 2 9) (answer.Read []) tree → 3 ≤ 2
  pub none_from_folder : IsRight (call.Read d 0 9) (answer.Read []) tree → ⊥
  pub made_over_file : IsRight (call.Create a) (answer.Create MadeNew) tree → ⊥
  pub nothing_exists : IsRight (call.Create n) (answer.Create Exists) tree → ⊥
  pub appended_to_folder : IsRight (call.Append d (codes "p")) (answer.Append (TookSome 1)) tree → ⊥
  pub appended_to_nothing : IsRight (call.Append n (codes "p")) (answer.Append (TookSome 1)) tree → ⊥
  pub synced_nothing : IsRight (call.Sync n) (answer.Sync SyncedDone) tree → ⊥
  pub cut_folder : IsRight (call.Cut d 0) (answer.Cut CutDone) tree → ⊥
  pub removed_folder : IsRight (call.Remove d) (answer.Remove RemovedDone) tree → ⊥
  pub file_is_absent : IsRight (call.Remove a) (answer.Remove Absent) tree → ⊥
  pub moved_onto_folder : IsRight (call.Rename a d) (answer.Rename MovedDone) tree → ⊥
  pub moved_nothing : IsRight (call.Rename n (codes "m")) (answer.Rename MovedDone) tree → ⊥
  pub free_name_is_taken : IsRight (call.Rename a n) (answer.Rename Taken) tree → ⊥
  pub folder_on_file : IsRight (call.MakeFolder a) (answer.MakeFolder Exists) tree → ⊥
  pub folder_again : IsRight (call.MakeFolder d) (answer.MakeFolder MadeNew) tree → ⊥
  pub age_of_file : (seconds : ℕ) → IsRight (call.Age a) (answer.Age (AgeOf seconds)) tree → seconds ≡ 10
  pub age_of_nothing : IsRight (call.Age n) (answer.Age (AgeOf 0)) tree → ⊥
  pub file_has_age : IsRight (call.Age a) (answer.Age AgeAbsent) tree → ⊥
  pub now : (moment : ℤ) → IsRight call.Now (answer.Now moment) tree → moment ≡ pos 100
  -- of which kind an answer is, and how many bytes it may say
  pub other_answer : IsAnswerTo (call.Look a) (answer.Sync SyncedDone) → ⊥
  pub some_taken : IsAnswerTo (call.Append a (codes "pq")) (answer.Append (TookSome 0)) → 1 ≤ 0
  pub most_taken : (count : ℕ) → IsAnswerTo (call.Append a (codes "pq")) (answer.Append (TookSome count)) → count ≤ 2
  pub most_read : (bytes : List ℕ) → IsAnswerTo (call.Read a 0 9) (answer.Read bytes) → length bytes ≤ 9
  -- a failed call, and a count of faults that rose
  pub failed : IsFailed (answer.Look LookFailed)
  pub not_failed : IsFailed (answer.Look Nothing) → ⊥
  pub rose : (count : ℕ) → Rose 5 count → 6 ≤ count
  pub stays_at_most : Rose (2 ^ 64 - 1) (2 ^ 64 - 1)
