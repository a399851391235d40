-- The letters of flags are the bytes that set one.
use Rattle.std.proofs.Common.{◌≡◌, ℕ, Bool, true, false, ◌||◌, [], ◌∷◌, refl, ap, codes}
use Rattle.pm_recipe.specs.declared.tree.Flags.{Flags}
use Rattle.pm_recipe.specs.Bytes.{begins_with, is_flag_letter}
use Rattle.pm_recipe.specs.Colon.{flags_of}
use Rattle.pm_recipe.specs.Letters.{no_flags}
use Rattle.pm_recipe.proofs.WordRuns.{true-false}

-- the flags of a byte, by whether it is each letter
abbrev set : Bool → Bool → Bool → Bool → Bool → Bool → Bool → Bool → Bool → Bool → Bool → Bool → Bool → Bool → Bool → Flags
set a b c d e f g h i j k l m n o = record {
  search_head = a || false;
  search_body = b || false;
  distinguish = c || false;
  feed_head = d || false;
  feed_body = e || false;
  filter = f || false;
  copy = g || false;
  wait = h || false;
  wait_quiet = i || false;
  ignore = j || false;
  raw = k || false;
  and_chain = l || false;
  and_ok = m || false;
  or_else = n || false;
  on_error = o || false;
}

-- whether it is one of them
abbrev one : Bool → Bool → Bool → Bool → Bool → Bool → Bool → Bool → Bool → Bool → Bool → Bool → Bool → Bool → Bool → Bool
one a b c d e f g h i j k l m n o = a || (b || (c || (d || (e || (f || (g || (h || (i || (j || (k || (l || (m || (n || (o || false))))))))))))))

none-set : (a b c d e f g h i j k l m n o : Bool) → one a b c d e f g h i j k l m n o ≡ false → set a b c d e f g h i j k l m n o ≡ no_flags
none-set true b c d e f g h i j k l m n o x = true-false x
none-set false true c d e f g h i j k l m n o x = true-false x
none-set false false true d e f g h i j k l m n o x = true-false x
none-set false false false true e f g h i j k l m n o x = true-false x
none-set false false false false true f g h i j k l m n o x = true-false x
none-set false false false false false true g h i j k l m n o x = true-false x
none-set false false false false false false true h i j k l m n o x = true-false x
none-set false false false false false false false true i j k l m n o x = true-false x
none-set false false false false false false false false true j k l m n o x = true-false x
none-set false false false false false false false false false true k l m n o x = true-false x
none-set false false false false false false false false false false true l m n o x = true-false x
none-set false false false false false false false false false false false true m n o x = true-false x
none-set false false false false false false false false false false false false true n o x = true-false x
none-set false false false false false false false false false false false false false true o x = true-false x
none-set false false false false false false false false false false false false false false true x = true-false x
none-set false false false false false false false false false false false false false false false x = refl

none-one : (a b c d e f g h i j k l m n o : Bool) → set a b c d e f g h i j k l m n o ≡ no_flags → one a b c d e f g h i j k l m n o ≡ false
none-one true b c d e f g h i j k l m n o x = ap (λ flags. flags.search_head) x
none-one false true c d e f g h i j k l m n o x = ap (λ flags. flags.search_body) x
none-one false false true d e f g h i j k l m n o x = ap (λ flags. flags.distinguish) x
none-one false false false true e f g h i j k l m n o x = ap (λ flags. flags.feed_head) x
none-one false false false false true f g h i j k l m n o x = ap (λ flags. flags.feed_body) x
none-one false false false false false true g h i j k l m n o x = ap (λ flags. flags.filter) x
none-one false false false false false false true h i j k l m n o x = ap (λ flags. flags.copy) x
none-one false false false false false false false true i j k l m n o x = ap (λ flags. flags.wait) x
none-one false false false false false false false false true j k l m n o x = ap (λ flags. flags.wait_quiet) x
none-one false false false false false false false false false true k l m n o x = ap (λ flags. flags.ignore) x
none-one false false false false false false false false false false true l m n o x = ap (λ flags. flags.raw) x
none-one false false false false false false false false false false false true m n o x = ap (λ flags. flags.and_chain) x
none-one false false false false false false false false false false false false true n o x = ap (λ flags. flags.and_ok) x
none-one false false false false false false false false false false false false false true o x = ap (λ flags. flags.or_else) x
none-one false false false false false false false false false false false false false false true x = ap (λ flags. flags.on_error) x
none-one false false false false false false false false false false false false false false false x = refl

pub no-letter : (byte : ℕ) → is_flag_letter byte ≡ false → flags_of (byte ∷ []) ≡ no_flags
no-letter byte x =
    none-set (begins_with byte (codes "H")) (begins_with byte (codes "B")) (begins_with byte (codes "D")) (begins_with byte (codes "h")) (begins_with byte (codes "b")) (begins_with byte (codes "f")) (begins_with byte (codes "c")) (begins_with byte (codes "w")) (begins_with byte (codes "W")) (begins_with byte (codes "i")) (begins_with byte (codes "r")) (begins_with byte (codes "A")) (begins_with byte (codes "a")) (begins_with byte (codes "E")) (begins_with byte (codes "e")) x

pub no-flag : (byte : ℕ) → flags_of (byte ∷ []) ≡ no_flags → is_flag_letter byte ≡ false
no-flag byte x =
    none-one (begins_with byte (codes "H")) (begins_with byte (codes "B")) (begins_with byte (codes "D")) (begins_with byte (codes "h")) (begins_with byte (codes "b")) (begins_with byte (codes "f")) (begins_with byte (codes "c")) (begins_with byte (codes "w")) (begins_with byte (codes "W")) (begins_with byte (codes "i")) (begins_with byte (codes "r")) (begins_with byte (codes "A")) (begins_with byte (codes "a")) (begins_with byte (codes "E")) (begins_with byte (codes "e")) x
