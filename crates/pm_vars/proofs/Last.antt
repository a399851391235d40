-- A value that is held apart of the others.
use Rattle.std.proofs.Common.{◌≡◌, ℕ, Bool, true, false, cond, List, [], ◌∷◌, refl, ap, sym, ◌∙◌, Option, Some, None, codes}
use Rattle.std.specs.Str.{bytes_eq}
use Rattle.std.proofs.lemmas.Slice.Eq.{bytes_eq-Decides}
use Rattle.std.proofs.lemmas.Bool.{true≢false}
use Rattle.pm_vars.specs.Values.{with_last}
use Rattle.pm_vars.specs.Variables.{Variable, value_of, with_value, without}

-- a variable of this name and value
abbrev variable : List ℕ → List ℕ → Variable
variable name value = record { name = name; value = value }

same-name : (name : List ℕ) → bytes_eq name name ≡ true
same-name name = (bytes_eq-Decides name name).1 refl

-- a name that is another one's differs from what that differs from
other-name : (name other third : List ℕ) → bytes_eq name other ≡ false → bytes_eq name third ≡ true → bytes_eq other third ≡ false
other-name name other third apart same = by (bytes_eq other third) refl
  where
    by : (b : Bool) → bytes_eq other third ≡ b → b ≡ false
    by false e = refl
    by true e =
        absurd (true≢false (sym (ap (λ xs. bytes_eq xs other) ((bytes_eq-Decides name third).0 same ∙ sym ((bytes_eq-Decides other third).0 e)) ∙ same-name other) ∙ apart))

-- the value of the variable that was set
pub value_of-set : (name value : List ℕ) (vs : List Variable) → value_of name (with_value name value vs) ≡ Some value
value_of-set name value [] = ap (λ b. cond b (Some value) None) (same-name name)
value_of-set name value (v ∷ vs) =
    elim (bytes_eq name v.name) as (λ b. bytes_eq name v.name ≡ b → value_of name (cond b (variable v.name value ∷ vs) (v ∷ with_value name value vs)) ≡ Some value) [
      | true ↦ λ e. ap (λ b. cond b (Some value) (value_of name vs)) e
      | false ↦ λ e. ap (λ b. cond b (Some v.value) (value_of name (with_value name value vs))) e ∙ value_of-set name value vs
    ] refl

-- and of another one
pub value_of-other : (name other value : List ℕ) (vs : List Variable) → bytes_eq name other ≡ false → value_of name (with_value other value vs) ≡ value_of name vs
value_of-other name other value [] apart = ap (λ b. cond b (Some value) None) apart
value_of-other name other value (v ∷ vs) apart =
    elim (bytes_eq other v.name) as (λ b. bytes_eq other v.name ≡ b → value_of name (cond b (variable v.name value ∷ vs) (v ∷ with_value other value vs)) ≡ value_of name (v ∷ vs)) [
      | true ↦ λ e. let differs : bytes_eq name v.name ≡ false = ap (bytes_eq name) (sym ((bytes_eq-Decides other v.name).0 e)) ∙ apart in
          ap (λ b. cond b (Some value) (value_of name vs)) differs ∙ sym (ap (λ b. cond b (Some v.value) (value_of name vs)) differs)
      | false ↦ λ e. ap (λ r. cond (bytes_eq name v.name) (Some v.value) r) (value_of-other name other value vs apart)
    ] refl

-- a variable that is set again
pub set-again : (name first second : List ℕ) (vs : List Variable) → with_value name second (with_value name first vs) ≡ with_value name second vs
set-again name first second [] = ap (λ b. cond b (variable name second ∷ []) (variable name first ∷ variable name second ∷ [])) (same-name name)
set-again name first second (v ∷ vs) =
    elim (bytes_eq name v.name) as (λ b. bytes_eq name v.name ≡ b
    → with_value name second (cond b (variable v.name first ∷ vs) (v ∷ with_value name first vs)) ≡ cond b (variable v.name second ∷ vs) (v ∷ with_value name second vs)) [
      | true ↦ λ e. ap (λ b. cond b (variable v.name second ∷ vs) (variable v.name first ∷ with_value name second vs)) e
      | false ↦ λ e. ap (λ b. cond b (variable v.name second ∷ with_value name first vs) (v ∷ with_value name second (with_value name first vs))) e
          ∙ ap (λ r. v ∷ r) (set-again name first second vs)
    ] refl

-- a variable that was set goes as one that was not
pub without-set : (name value : List ℕ) (vs : List Variable) → without name (with_value name value vs) ≡ without name vs
without-set name value [] = ap (λ b. cond b [] (variable name value ∷ [])) (same-name name)
without-set name value (v ∷ vs) =
    elim (bytes_eq name v.name) as (λ b. bytes_eq name v.name ≡ b → without name (cond b (variable v.name value ∷ vs) (v ∷ with_value name value vs)) ≡ cond b vs (v ∷ without name vs)) [
      | true ↦ λ e. ap (λ b. cond b vs (variable v.name value ∷ without name vs)) e
      | false ↦ λ e. ap (λ b. cond b (with_value name value vs) (v ∷ without name (with_value name value vs))) e ∙ ap (λ r. v ∷ r) (without-set name value vs)
    ] refl

-- and another one before or after it
pub without-other : (name other value : List ℕ) (vs : List Variable) → bytes_eq name other ≡ false → without name (with_value other value vs) ≡ with_value other value (without name vs)
without-other name other value [] apart = ap (λ b. cond b [] (variable other value ∷ [])) apart
without-other name other value (v ∷ vs) apart =
    elim (bytes_eq name v.name) as (λ b. bytes_eq name v.name ≡ b → without name (with_value other value (v ∷ vs)) ≡ with_value other value (cond b vs (v ∷ without name vs))) [
      | true ↦ λ e. ap (λ b. without name (cond b (variable v.name value ∷ vs) (v ∷ with_value other value vs))) (other-name name other v.name apart e)
          ∙ ap (λ b. cond b (with_value other value vs) (v ∷ without name (with_value other value vs))) e
      | false ↦ λ e. elim (bytes_eq other v.name) as (λ b. without name (cond b (variable v.name value ∷ vs) (v ∷ with_value other value vs)) ≡ cond b (variable v.name value ∷ without name vs) (v ∷ with_value other value (without name vs))) [
        | true ↦ ap (λ b. cond b vs (variable v.name value ∷ without name vs)) e
        | false ↦ ap (λ b. cond b (with_value other value vs) (v ∷ without name (with_value other value vs))) e ∙ ap (λ r. v ∷ r) (without-other name other value vs apart)
      ]
    ] refl

-- a value that is held apart, and is set again
pub last-again : (last : Option (List ℕ)) (value : List ℕ) (vs : List Variable)
    → with_value (codes "LASTFOLDER") value vs ≡ with_value (codes "LASTFOLDER") value (with_last last vs)
last-again None value vs = refl
last-again (Some first) value vs = sym (set-again (codes "LASTFOLDER") first value vs)

-- another value than the one that is held apart
pub value_of-last : (last : Option (List ℕ)) (name : List ℕ) (vs : List Variable) → bytes_eq name (codes "LASTFOLDER") ≡ false → value_of name (with_last last vs) ≡ value_of name vs
value_of-last None name vs apart = refl
value_of-last (Some value) name vs apart = value_of-other name (codes "LASTFOLDER") value vs apart

pub without-last : (last : Option (List ℕ)) (name : List ℕ) (vs : List Variable) → bytes_eq name (codes "LASTFOLDER") ≡ false → without name (with_last last vs) ≡ with_last last (without name vs)
without-last None name vs apart = refl
without-last (Some value) name vs apart = without-other name (codes "LASTFOLDER") value vs apart

pub without-last-itself : (last : Option (List ℕ)) (vs : List Variable) → without (codes "LASTFOLDER") (with_last last vs) ≡ without (codes "LASTFOLDER") vs
without-last-itself None vs = refl
without-last-itself (Some value) vs = without-set (codes "LASTFOLDER") value vs
