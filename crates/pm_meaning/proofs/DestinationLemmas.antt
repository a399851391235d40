-- Words as destinations.
use Rattle.std.proofs.Common.{◌≡◌, ◌<◌, ◌+◌, ℕ, Bool, true, false, Some, None, List, [], ◌∷◌, ◌++◌, length, map, take, get_or, refl, sym, ap, ◌∙◌}
use Rattle.std.specs.Prelude.{◌&&◌, if◌then◌else◌}
use Rattle.std.specs.List.{list_all}
use Rattle.std.proofs.lemmas.List.{take_more, map_more}
use Rattle.std.proofs.lemmas.List.Folds.{list_all-append}
use Rattle.pm_meaning.specs.Destinations.{without_ending, destination_of}
use Rattle.pm_meaning.specs.Texts.{is_file_text}
use Rattle.pm_meaning.specs.declared.process.Destination.{Destination}
use Rattle.pm_meaning.specs.DestinationTexts.{usable_destination}

-- what is there only where the test holds
pub some_if : {A : Type 0} (b : Bool) (x y : A) → Some x ≡ (if b then Some y else None) → (b ≡ true) × (x ≡ y)
some_if true x y h = let e : Some x ≡ Some y = h in let same : x ≡ y = cc in (refl, same)
some_if false x y h = let e : Some x ≡ None = h in absurd (cc)

pub none_if : {A : Type 0} (b : Bool) (y : A) → None ≡ (if b then Some y else None) → b ≡ false
none_if true y h = let e : None ≡ Some y = h in absurd (cc)
none_if false y h = refl

abbrev is_usable_word : List ℕ → Bool
is_usable_word word = is_file_text (without_ending word)

both_true : (b c : Bool) → b ≡ true → c ≡ true → (b && c) ≡ true
both_true true c e f = f
both_true false c e f = let g : false ≡ true = e in absurd (cc)

-- one more word can be a destination
pub one_more : (words : List (List ℕ)) (i : ℕ) (all pushed : List Destination) (d : Destination) (word none : List ℕ) → i < length words → word ≡ get_or words i none → all ≡ map destination_of (take i words)
    → list_all (λ w. is_file_text (without_ending w)) (take i words) ≡ true → Some d ≡ usable_destination word → pushed ≡ all ++ d ∷ []
    → (pushed ≡ map destination_of (take (i + 1) words)) × (list_all (λ w. is_file_text (without_ending w)) (take (i + 1) words) ≡ true)
one_more words i all pushed d word none more is front good usable push =
    let k = some_if (is_usable_word word) d (destination_of word) usable in
    let here : d ≡ destination_of (get_or words i none) = k.1 ∙ ap destination_of is in
    let good_here : is_usable_word (get_or words i none) ≡ true = sym (ap is_usable_word is) ∙ k.0 in
    let joined : list_all is_usable_word (take i words ++ get_or words i none ∷ []) ≡ true =
    list_all-append is_usable_word (take i words) (get_or words i none ∷ []) ∙ both_true (list_all is_usable_word (take i words)) (is_usable_word (get_or words i none) && true) good (both_true (is_usable_word (get_or words i none)) true good_here refl) in (
      push ∙ (ap (λ l. l ++ d ∷ []) front ∙ (ap (λ x. map destination_of (take i words) ++ x ∷ []) here ∙ sym (map_more destination_of words i none more))),
      ap (list_all is_usable_word) (take_more words i none more) ∙ joined,
    )
