-- Forms of calls of formail (formail(1)).
use Rattle.std.specs.Prelude.{ℕ, Bool, false, not, ◌||◌, ◌&&◌, List, [], ◌∷◌, ◌++◌, length, drop, nat_eq, nat_lt, if◌then◌else◌, codes, Option, Some, None}
use Rattle.std.specs.List.{starts_with, list_any}
use Rattle.std.specs.Str.{bytes_eq}
use Rattle.pm_bytes.specs.Number.{count_of}
use Rattle.check_moving.specs.Kept.{kept}
use Rattle.check_moving.specs.Options.{given_from, has, after_call, is_formail}
use Rattle.check_moving.specs.Text.{has_part}
use Rattle.check_moving.specs.declared.form.Form.{Form}
use Rattle.check_moving.specs.declared.form.Form.TheVariants.{Program, Reply}
use Rattle.check_moving.specs.declared.form.ProgramForm.TheVariants as form
use Rattle.check_moving.specs.declared.form.ReplyForm.TheVariants as reply
use Rattle.check_moving.specs.declared.options.Given.{Given}

-- what a name of a cache is followed by in that of its lock file
abbrev pub is_suffix : List ℕ → Bool
is_suffix text = bytes_eq text (codes ".lock") || bytes_eq text (codes "$LOCKEXT") || bytes_eq text (codes "${LOCKEXT}")

-- the cache of an option and its lock file
abbrev pub is_cache_of : List ℕ → Given → Bool
is_cache_of lock one =
    nat_eq one.letter 67 && starts_with nat_eq lock one.argument && is_suffix (drop (length one.argument) lock)

-- the lock file of the cache
abbrev pub locks_cache : List ℕ → List Given → Bool
locks_cache lock options = list_any (λ one. is_cache_of lock one) options

-- options that change fields or name others, in which `D` has no part
abbrev pub has_edit : List Given → Bool
has_edit options =
    has 97 options || has 65 options || has 105 options || has 73 options || has 117 options || has 85 options || has 82 options

-- other options, in which `D` has no part
abbrev pub has_other : List Given → Bool
has_other options =
    has 120 options || has 88 options || has 112 options || has 107 options || has 122 options || has 99 options || has 116 options

-- `D` beside one of them
abbrev pub has_cache_options : List Given → Bool
has_cache_options options = has 68 options && (has_edit options || has_other options)

-- 0, or above 1048576
abbrev pub is_bad_length : Option ℕ → Bool
is_bad_length None = false
is_bad_length (Some number) = nat_eq number 0 || nat_lt 1048576 number

-- of `D`
abbrev pub is_bad_cache : Given → Bool
is_bad_cache one = nat_eq one.letter 68 && is_bad_length (count_of one.argument)

-- `e`, `q`, `n`, `l`, `m`, `B`, `Y` or `v`
abbrev pub has_old : List Given → Bool
has_old options =
    has 101 options || has 113 options || has 110 options || has 108 options || has 109 options || has 66 options || has 89 options
    || has 118 options

-- what is written goes to a file, to a program or into a value
abbrev pub is_used : List (List ℕ) → Bool
is_used [] = false
is_used (word ∷ words) = bytes_eq word (codes ">") || bytes_eq word (codes "|") || bytes_eq word (codes "`")

-- what is written is appended to a file
abbrev pub is_appended : List (List ℕ) → Bool
is_appended (one ∷ (other ∷ words)) = bytes_eq one (codes ">") && bytes_eq other (codes ">")
is_appended _ = false

-- a word of a program after `s`
abbrev pub is_program_word : Given → Bool
is_program_word one = nat_eq one.letter 115 && not (bytes_eq one.argument (codes ""))

-- whether programs are started
abbrev pub has_program : List Given → Bool
has_program options = list_any is_program_word options

-- their output is used
abbrev pub is_split_output : List Given → List (List ℕ) → Bool
is_split_output options behind = has_program options && is_used behind

-- the mail as it is, but for its line `From `
abbrev pub is_from_appended : List Given → List (List ℕ) → Bool
is_from_appended options behind =
    has 102 options && is_appended behind && not (has 114 options) && not (has 120 options) && not (has 88 options)

-- a call with these options, under this lock file, and what follows it
abbrev pub called : List ℕ → List Given → List (List ℕ) → List (Bool × Form)
called lock options behind =
    (locks_cache lock options, Program form.CacheLock)
    ∷ (has_cache_options options, Program form.CacheOptions)
    ∷ (list_any is_bad_cache options, Program form.CacheLength)
    ∷ (has 100 options, Program form.Digest)
    ∷ (has_old options, Program form.OldOption)
    ∷ (is_split_output options behind, Program form.SplitOutput)
    ∷ (is_from_appended options behind, Program form.FromAppended)
    ∷ []

-- a reply, and a field of it or a new name
abbrev pub is_reply_field : List Given → Bool
is_reply_field options = has 114 options && (has 120 options || has 88 options || has 82 options)

-- a reply that keeps the body
abbrev pub is_reply_keep : List Given → Bool
is_reply_keep options = has 114 options && has 107 options && not (has 98 options)

-- `t` without a reply
abbrev pub is_trust_alone : List Given → Bool
is_trust_alone options = has 116 options && not (has 114 options)

-- an empty name for `X` or `I`
abbrev pub is_empty_field : Given → Bool
is_empty_field one =
    (nat_eq one.letter 88 || nat_eq one.letter 73) && (bytes_eq one.argument (codes "\"\"") || bytes_eq one.argument (codes "''"))

-- the name of the line `From `, and nothing else
abbrev pub is_from_line : List ℕ → Bool
is_from_line argument = bytes_eq argument (codes "\"From \"") || bytes_eq argument (codes "'From '")

-- that line for `I`
abbrev pub removes_from : Given → Bool
removes_from one = nat_eq one.letter 73 && is_from_line one.argument

-- without `f`
abbrev pub is_from_removed : List Given → Bool
is_from_removed options = list_any removes_from options && not (has 102 options)

-- that line for `a`
abbrev pub adds_from : Given → Bool
adds_from one = nat_eq one.letter 97 && is_from_line one.argument

-- a name for `a` whose text 3.22 makes up
abbrev pub is_made : Given → Bool
is_made one =
    nat_eq one.letter 97
    && (bytes_eq one.argument (codes "Date:") || bytes_eq one.argument (codes "Message-ID:") || bytes_eq one.argument (codes "Message-Id:"))

-- a name without a colon for `u` or `U`
abbrev pub is_partial : Given → Bool
is_partial one =
    (nat_eq one.letter 117 || nat_eq one.letter 85) && not (bytes_eq one.argument (codes "")) && not (has_part (codes ":") one.argument)
    && not (has_part (codes "$") one.argument)

-- what the options do with fields
abbrev pub replied : List Given → List (Bool × Form)
replied options =
    (is_reply_field options, Reply reply.ReplyField)
    ∷ (is_reply_keep options, Reply reply.ReplyKeep)
    ∷ (is_trust_alone options, Reply reply.TrustAlone)
    ∷ (list_any is_empty_field options, Reply reply.EmptyField)
    ∷ (is_from_removed options, Reply reply.FromRemoved)
    ∷ (list_any adds_from options, Reply reply.FromAdded)
    ∷ (list_any is_made options, Reply reply.MadeField)
    ∷ (list_any is_partial options, Reply reply.PartialName)
    ∷ []

-- the forms of a call whose words these are
abbrev pub call_of : List ℕ → List (List ℕ) → List Form
call_of lock words = kept (called lock (given_from 0 words) (after_call words)) ++ kept (replied (given_from 0 words))

-- the forms of each call among these words
abbrev pub calls_in : List ℕ → List (List ℕ) → List Form
calls_in lock [] = []
calls_in lock (word ∷ words) = if is_formail word then call_of lock words ++ calls_in lock words else calls_in lock words
