-- The words of a text, and the length of its expansion.
use Rattle.std.specs.Prelude.{ℕ, zero, suc, List, [], ◌∷◌, ◌++◌, if◌then◌else◌, true, Some, None}
use Rattle.pm_vars.specs.Variables.{value_of}
use Rattle.pm_vars.specs.Table.{Table}
use Rattle.pm_subst.specs.declared.kinds.Mode.{Mode}
use Rattle.pm_subst.specs.declared.kinds.Mode.TheVariants.{Many}
use Rattle.pm_subst.specs.declared.kinds.Kind.{Kind}
use Rattle.pm_subst.specs.declared.kinds.Kind.TheVariants.{Command, FormOpen, FormClose}
use Rattle.pm_subst.specs.Tokens.{Token, tokens, is_many}
use Rattle.pm_subst.specs.Fields.{Element, Fields, gathered, size, all_words}
use Rattle.pm_subst.specs.Values.{uses_text, elements_of}

-- the output of the next command
abbrev pub first_output : List (List ℕ) → List ℕ
first_output [] = []
first_output (output ∷ outputs) = output

-- the outputs of the commands after it
abbrev pub other_outputs : List (List ℕ) → List (List ℕ)
other_outputs [] = []
other_outputs (output ∷ outputs) = outputs

-- the outputs that are left after a token of this kind
abbrev pub outputs_after : Kind → List (List ℕ) → List (List ℕ)
outputs_after Command outputs = other_outputs outputs
outputs_after _ outputs = outputs

-- how many forms are open after a token, from the outermost whose text isn't used on
abbrev pub unused_after : Table → Token → Kind → ℕ → ℕ
unused_after table token (FormOpen test) zero = if uses_text test (value_of token.text table.variables) then 0 else 1
unused_after table token (FormOpen test) (suc unused) = suc (suc unused)
unused_after table token FormClose zero = 0
unused_after table token FormClose (suc unused) = unused
unused_after table token _ unused = unused

-- a text that isn't used gives nothing
abbrev pub used_elements : ℕ → Table → List ℕ → Token → List Element
used_elements zero table output token = elements_of table output token token.kind
used_elements (suc unused) table output token = []

-- what the tokens give, one after another
abbrev pub elements : Table → List (List ℕ) → ℕ → List Token → List Element
elements table outputs unused [] = []
elements table outputs unused (token ∷ rest) =
    used_elements unused table (first_output outputs) token
    ++ elements table (outputs_after token.kind outputs) (unused_after table token token.kind unused) rest

-- no word has begun where words are split, and else the only one has
abbrev pub first_fields : Mode → Fields
first_fields Many = record { done = []; current = None }
first_fields _ = record { done = []; current = Some [] }

-- the words of a text as they are gathered
abbrev pub fields_in : Mode → Table → List (List ℕ) → List ℕ → Fields
fields_in mode table outputs text = gathered (is_many mode) (first_fields mode) (elements table outputs 0 (tokens mode 0 [] true text))

-- the words of a text
abbrev pub words_in : Mode → Table → List (List ℕ) → List ℕ → List (List ℕ)
words_in mode table outputs text = all_words (fields_in mode table outputs text)

-- the length of its expansion
abbrev pub size_in : Mode → Table → List (List ℕ) → List ℕ → ℕ
size_in mode table outputs text = size (is_many mode) (fields_in mode table outputs text)
