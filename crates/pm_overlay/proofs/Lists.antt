-- Parts of the bytes of a file that grew.
use Rattle.std.proofs.Common.{◌≡◌, ◌≤◌, ◌<◌, ◌-◌, ℕ, ℤ, min, List, [], ◌++◌, Option, Some, None, length, take, drop, arith, refl, sym, subst, ap, ◌∙◌}
use Rattle.std.proofs.lemmas.List.{same_lists, places}
use Rattle.pm_host.specs.World.{LooksRight, kept}
use Rattle.pm_host.specs.declared.answers.Got.TheVariants.{Got as GotSome}
use Rattle.pm_host.specs.declared.answers.Looked.TheVariants.{File as LookedFile}
use Rattle.pm_host.specs.declared.nodes.Node.{Node}
use Rattle.pm_host.specs.declared.nodes.Node.TheVariants.{File as AFile, Folder as AFolder}
use Rattle.pm_overlay.specs.Changes.{made_at, front_with, bytes_at_front}
use Rattle.pm_overlay.specs.Steps.{ReadsAs}

cut_joined : (k front len : ℕ) (xs more : List ℕ) → front ≡ min k (length xs) → take (min front len) xs ++ take (len - front) more ≡ take len (take k xs ++ more)
cut_joined k front len xs more e = same_lists (take (min front len) xs ++ take (len - front) more) (take len (take k xs ++ more)) (grind (arith, places)) (λ i d h. grind (arith, places))

-- a file of the base with a front and more was cut
pub shortened : (n : Option Node) (m : ℤ) (k front len : ℕ) (more : List ℕ) → front ≡ bytes_at_front n k → front_with n m (min front len) (take (len - front) more) ≡ kept (front_with n m k more) len
shortened (Some (AFile f)) m k front len more e = ap (λ bytes. Some (AFile (record { bytes = bytes; made = made_at m f.made }))) (cut_joined k front len f.bytes more e)
shortened (Some AFolder) m k front len more e = refl
shortened None m k front len more e = refl

same_part : (k front at room : ℕ) (xs more came : List ℕ) → front ≡ min k (length xs) → front ≤ at → came ≡ take room (drop (at - front) more) → came ≡ take (length came) (drop at (take k xs ++ more))
same_part k front at room xs more came f over e = same_lists came (take (length came) (drop at (take k xs ++ more))) (grind (arith, places)) (λ i d h. grind (arith, places))

at_end : (k front at room : ℕ) (xs more came : List ℕ) → front ≡ min k (length xs) → front ≤ at → 0 < room → came ≡ take room (drop (at - front) more) → length came ≡ 0 → length (take k xs ++ more) ≤ at
at_end k front at room xs more came f over some e none = grind (arith, places)

-- what comes after the bytes of the base
pub reads_more : (n : Option Node) (m : ℤ) (len k front at room count : ℕ) (more after : List ℕ) → LooksRight n (LookedFile len) → front ≡ min k len → front ≤ at → 0 < room
    → take count after ≡ take room (drop (at - front) more) → ReadsAs (front_with n m k more) at (GotSome count) after
reads_more (Some (AFile f)) m len k front at room count more after h e over some came =
    let e' : front ≡ min k (length f.bytes) = e ∙ ap (min k) h in
    (same_part k front at room f.bytes more (take count after) e' over came, λ none. at_end k front at room f.bytes more (take count after) e' over some came (ap length none))
reads_more (Some AFolder) m len k front at room count more after h e over some came = absurd h
reads_more None m len k front at room count more after h e over some came = absurd h

front_part : (k front at n : ℕ) (xs more room : List ℕ) → front ≡ min k (length xs) → at < front → n ≤ length room → take n room ≡ take (length (take n room)) (drop at xs)
    → take (min (front - at) n) room ≡ take (length (take (min (front - at) n) room)) (drop at (take k xs ++ more))
front_part k front at n xs more room f under fits e =
    same_lists (take (min (front - at) n) room) (take (length (take (min (front - at) n) room)) (drop at (take k xs ++ more))) (grind (arith, places)) (λ i d h. grind (arith, places))

not_at_end : (k front at n : ℕ) (xs room : List ℕ) → front ≡ min k (length xs) → at < front → n ≤ length room → (take n room ≡ [] → length xs ≤ at) → length (take (min (front - at) n) room) ≡ 0 → ⊥
not_at_end k front at n xs room f under fits end none =
    let zero : n ≡ 0 = grind (arith, places) in
    let past : length xs ≤ at = end (ap (λ i. take i room) zero) in
    grind (arith, places)

-- the bytes of the base
fronts : (n : Option Node) (m : ℤ) (len k front at count : ℕ) (more after : List ℕ) → LooksRight n (LookedFile len) → front ≡ min k len → at < front → count ≤ length after → ReadsAs n at (GotSome count) after
    → ReadsAs (front_with n m k more) at (GotSome (min (front - at) count)) after
fronts (Some (AFile f)) m len k front at count more after h e under fits came =
    let e' : front ≡ min k (length f.bytes) = e ∙ ap (min k) h in
    (front_part k front at count f.bytes more after e' under fits came.0, λ none. absurd (not_at_end k front at count f.bytes after e' under fits came.1 (ap length none)))
fronts (Some AFolder) m len k front at count more after h e under fits came = absurd h
fronts None m len k front at count more after h e under fits came = absurd h

-- so many of them
pub reads_front : (n : Option Node) (m : ℤ) (len k front at count got : ℕ) (more after : List ℕ) → LooksRight n (LookedFile len) → front ≡ min k len → at < front → count ≤ length after → got ≡ min (front - at) count
    → ReadsAs n at (GotSome count) after → ReadsAs (front_with n m k more) at (GotSome got) after
reads_front n m len k front at count got more after h e under fits same came =
    subst (λ c. ReadsAs (front_with n m k more) at (GotSome c) after) (sym same) (fronts n m len k front at count more after h e under fits came)
