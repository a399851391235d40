-- What children took.
use Rattle.std.proofs.Common.{◌≡◌, ℕ, List, [], ◌∷◌, ◌++◌, Result, Ok, Err, OnOk, refl, sym, ap, ◌∙◌}
use Rattle.pm_host.specs.World.{last_fed}
use Rattle.pm_host.specs.declared.command.Command.{Command}
use Rattle.pm_host.specs.declared.command.ChildInput.{ChildInput}

grown_last : (xs : List ChildInput) (command : Command) (bytes more : List ℕ) → last_fed (xs ++ record { command = command; bytes = bytes } ∷ []) more ≡ xs ++ record { command = command; bytes = bytes ++ more } ∷ []
grown_last [] command bytes more = refl
grown_last (x ∷ []) command bytes more = refl
grown_last (x ∷ (y ∷ ys)) command bytes more = ap (λ l. x ∷ l) (grown_last (y ∷ ys) command bytes more)

pub fills : (old rest : List ChildInput) (input : ChildInput) (bytes more : List ℕ) → old ≡ rest ++ input ∷ [] → bytes ≡ input.bytes ++ more
    → rest ++ record { command = input.command; bytes = bytes } ∷ [] ≡ last_fed old more
fills old rest input bytes more is e =
    ap (λ b. rest ++ record { command = input.command; bytes = b } ∷ []) e ∙ sym (grown_last rest input.command input.bytes more) ∙ ap (λ c. last_fed c more) (sym is)

pub on_ok_map : {T E A B : Type 0} (r : Result T E) → OnOk r A → (A → B) → OnOk r B
on_ok_map (Ok x) a f = f a
on_ok_map (Err x) a f = tt
