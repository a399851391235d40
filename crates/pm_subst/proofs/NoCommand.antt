-- A text without a backquote has no command.
use Rattle.std.proofs.Common.{◌≡◌, ◌+◌, ◌-◌, ◌==◌, ℕ, suc, zero, Bool, true, false, not, ◌&&◌, ◌||◌, cond, nat_eq, List, [], ◌∷◌, ◌++◌, refl, ap, ◌∙◌, length, drop, Some, None, Option, arith}
use Rattle.std.proofs.lemmas.Bool.{true≢false, and_parts}
use Rattle.std.proofs.lemmas.Bool.Decides.{nat_tests}
use Rattle.memchr.specs.Find.{Nowhere, Passes, is_byte}
use Rattle.pm_bytes.specs.Alphabet.{BACKSLASH, DOLLAR, DOUBLE_QUOTE, SINGLE_QUOTE, OPEN_BRACE, CLOSE_BRACE, NEWLINE, HASH, COLON, MINUS, PLUS, BACKQUOTE, UNDERSCORE}
use Rattle.pm_bytes.specs.Letter.{is_name_start, is_space_byte}
use Rattle.pm_subst.specs.declared.kinds.Mode.{Mode}
use Rattle.pm_subst.specs.declared.kinds.Rule.{Rule}
use Rattle.pm_subst.specs.declared.kinds.Frame.{Frame}
use Rattle.pm_subst.specs.declared.kinds.Front.{Front}
use Rattle.pm_subst.specs.declared.kinds.Kind.{Kind}
use Rattle.pm_subst.specs.declared.kinds.Kind.TheVariants.{Command}
use Rattle.pm_subst.specs.declared.kinds.Parameter.{Parameter}
use Rattle.pm_subst.specs.Bytes.{name_length}
use Rattle.pm_subst.specs.Front.{front_of, escaped, colon_tail_of, tail_of, braced, literal_of, form_of, quotes_of, unquoted_front, name_front, parameter_of, parameter_or_itself, is_escaped_in_quotes}
use Rattle.pm_subst.specs.Tokens.{tokens, rule_of, frames_after, fresh_after}
use Rattle.pm_subst.specs.Commands.{command_of, commands_of}
use Rattle.pm_subst.specs.Laws.{lacks, NoCommand}

abbrev is_command : Kind → Bool
is_command Command = true
is_command _ = false

record NoFront (front : Front) : Type 0 where
  pub is : is_command front.kind ≡ false

both : (b : Bool) (x y : Front) → NoFront x → NoFront y → NoFront (cond b x y)
both true x y p q = p
both false x y p q = q

cond-no : (b : Bool) (x y : Front) → b ≡ false → NoFront y → NoFront (cond b x y)
cond-no true x y h p = absurd (true≢false h)
cond-no false x y h p = p

no-escaped : (rule : Rule) (text : List ℕ) → NoFront (escaped rule text)
no-escaped rule [] = record { is = refl }
no-escaped rule (byte ∷ bytes) =
    both (nat_eq byte NEWLINE) _ _ (record { is = refl }) (both (not rule.quoted || is_escaped_in_quotes byte) _ _ (record { is = refl }) (both (nat_eq byte CLOSE_BRACE && rule.ends_form) _ _ (record { is = refl }) (record { is = refl })))

no-colon : (before : ℕ) (text : List ℕ) → NoFront (colon_tail_of before text)
no-colon before [] = record { is = refl }
no-colon before (byte ∷ bytes) = both (nat_eq byte MINUS) _ _ (record { is = refl }) (both (nat_eq byte PLUS) _ _ (record { is = refl }) (record { is = refl }))

no-tail : (before : ℕ) (text : List ℕ) → NoFront (tail_of before text)
no-tail before [] = record { is = refl }
no-tail before (byte ∷ bytes) =
    both (nat_eq byte CLOSE_BRACE) _ _ (record { is = refl }) (both (nat_eq byte MINUS) _ _ (record { is = refl }) (both (nat_eq byte PLUS) _ _ (record { is = refl })
    (both (nat_eq byte COLON) _ _ (no-colon before bytes) (record { is = refl }))))

no-braced : (text : List ℕ) → NoFront (braced text)
no-braced [] = record { is = refl }
no-braced (byte ∷ bytes) = both (is_name_start byte) _ _ (no-tail (name_length bytes + 3) (drop (name_length bytes) bytes)) (record { is = refl })

no-literal : (text : List ℕ) → NoFront (literal_of text)
no-literal [] = record { is = refl }
no-literal (byte ∷ bytes) = both (is_name_start byte) _ _ (record { is = refl }) (record { is = refl })

no-parameter : (parameter : Option Parameter) → NoFront (parameter_or_itself parameter)
no-parameter None = record { is = refl }
no-parameter (Some parameter) = record { is = refl }

no-name : (byte length : ℕ) → NoFront (name_front byte length)
no-name byte length = both (nat_eq byte UNDERSCORE && nat_eq length 0) _ _ (record { is = refl }) (record { is = refl })

no-form : (rule : Rule) (text : List ℕ) → NoFront (form_of rule text)
no-form rule [] = record { is = refl }
no-form rule (byte ∷ bytes) =
    both (nat_eq byte OPEN_BRACE && rule.may_open) _ _ (no-braced bytes) (both (nat_eq byte BACKSLASH) _ _ (no-literal bytes)
    (both (is_name_start byte) _ _ (no-name byte (name_length bytes)) (no-parameter (parameter_of byte))))

no-quotes : (rule : Rule) → NoFront (quotes_of rule)
no-quotes rule = both (not rule.quoted) _ _ (record { is = refl }) (both rule.ends_quotes _ _ (record { is = refl }) (record { is = refl }))

no-unquoted : (rule : Rule) (text : List ℕ) → NoFront (unquoted_front rule text)
no-unquoted rule [] = record { is = refl }
no-unquoted rule (byte ∷ bytes) =
    both (nat_eq byte SINGLE_QUOTE) _ _ (record { is = refl }) (both (nat_eq byte HASH && rule.may_end) _ _ (record { is = refl }) (both (is_space_byte byte) _ _ (record { is = refl }) (record { is = refl })))

-- a front that doesn't begin with a backquote is no command
no-front : (rule : Rule) (byte : ℕ) (bytes : List ℕ) → nat_eq byte BACKQUOTE ≡ false → NoFront (front_of rule (byte ∷ bytes))
no-front rule byte bytes h =
    both (nat_eq byte BACKSLASH) _ _ (no-escaped rule bytes) (both (nat_eq byte DOLLAR) _ _ (no-form rule bytes)
    (both (nat_eq byte DOUBLE_QUOTE) _ _ (no-quotes rule)
    (cond-no (nat_eq byte BACKQUOTE) _ _ h
    (both (nat_eq byte CLOSE_BRACE && rule.ends_form) _ _ (record { is = refl }) (both rule.quoted _ _ (record { is = refl }) (no-unquoted rule (byte ∷ bytes)))))))

none : (kind : Kind) (text : List ℕ) → is_command kind ≡ false → command_of kind text ≡ []
none Command text h = absurd (true≢false h)
none _ text h = refl

not-true : (b : Bool) → not b ≡ true → b ≡ false
not-true false e = refl
not-true true e = absurd (true≢false (ap not e))

no-commands : (mode : Mode) (skip : ℕ) (frames : List Frame) (fresh : Bool) (text : List ℕ) → lacks BACKQUOTE text ≡ true
    → commands_of (tokens mode skip frames fresh text) ≡ []
no-commands mode zero frames fresh [] h = refl
no-commands mode (suc skip) frames fresh [] h = refl
no-commands mode (suc skip) frames fresh (byte ∷ bytes) h = no-commands mode skip frames fresh bytes (and_parts _ _ h).1
no-commands mode zero frames fresh (byte ∷ bytes) h =
    let parts = and_parts (not (nat_eq byte BACKQUOTE)) (lacks BACKQUOTE bytes) h in
    let rule : Rule = rule_of mode frames fresh in
    let front : Front = front_of rule (byte ∷ bytes) in
    ap (λ commands. commands ++ commands_of (tokens mode (front.taken - 1) (frames_after front.kind rule.quoted frames) (fresh_after front.kind fresh) bytes))
    (none front.kind _ (no-front rule byte bytes (not-true (nat_eq byte BACKQUOTE) parts.0)).is)
    ∙ no-commands mode (front.taken - 1) (frames_after front.kind rule.quoted frames) (fresh_after front.kind fresh) bytes parts.1

pub no-command : NoCommand
no-command mode text h = no-commands mode 0 [] true text h

same-byte : (byte other : ℕ) → nat_eq other byte ≡ true → (other == byte) ≡ true
same-byte byte other h = grind (arith, nat_tests)

-- a byte that a search finds nowhere
pub lacks-nowhere : (byte : ℕ) (text : List ℕ) → Nowhere (Passes (is_byte byte) text) 0 (length text) → lacks byte text ≡ true
lacks-nowhere byte [] h = refl
lacks-nowhere byte (other ∷ rest) h =
    elim (nat_eq other byte) as (λ b. nat_eq other byte ≡ b → (not b && lacks byte rest) ≡ true) [
      | true ↦ λ e. absurd (h 0 (omega arith) (omega arith) (same-byte byte other e))
      | false ↦ λ e. lacks-nowhere byte rest (λ k low less. h (suc k) (omega arith) (omega (arith, less)))
    ] refl
