-- Words in command lines.
use Rattle.std.proofs.Common.{◌≡◌, ◌<◌, ◌≤◌, ◌+◌, Bool, true, false, List, ℕ, [], ◌∷◌, ◌++◌, Option, Some, None, length, drop, get_or, refl, sym, ap, ◌∙◌, subst, append_assoc, append-nil}
use Rattle.std.specs.Prelude.{is_some, option_map, String, string_bytes, if◌then◌else◌}
use Rattle.std.specs.declared.alloc.Global.{Global}
use Rattle.std.proofs.lemmas.List.{at_drop_more, at_drop_all}
use Rattle.pm_journal.specs.declared.locking.LockRule.{LockRule}
use Rattle.lockfile_top.specs.Words.{word_of, by_word, tasks_in, all_bytes, asked, ReadsOn}
use Rattle.lockfile_top.specs.declared.tasks.Setting.{Setting}
use Rattle.lockfile_top.specs.declared.tasks.Task.{Task}
use Rattle.lockfile_top.specs.declared.tasks.Task.TheVariants.{Take, Give}
use Rattle.lockfile_top.specs.declared.words.Word.{Word}
use Rattle.lockfile_top.specs.declared.words.Word.TheVariants.{Takes, TakesMailbox, GivesMailbox, Unread}

-- one task more was asked for
pub one_more : (tasks : List Task) (task : Task) (found : Option (List Task)) → option_map (λ more. tasks ++ more) (option_map (λ more. task ∷ more) found) ≡ option_map (λ more. (tasks ++ task ∷ []) ++ more) found
one_more tasks task None = refl
one_more tasks task (Some more) = ap (λ l. Some l) (sym (append_assoc tasks (task ∷ []) more))

-- the first of the words that are left
front : (words : List (String Global)) (i : ℕ) (d word : String Global) → word ≡ get_or words i d → i < length words → all_bytes (drop i words) ≡ string_bytes word ∷ all_bytes (drop (i + 1) words)
front words i d word is more = at_drop_more all_bytes words i d more ∙ ap (λ w. string_bytes w ∷ all_bytes (drop (i + 1) words)) (sym is)

-- one word more was read
pub word_on : (mailbox : List ℕ) (words : List (String Global)) (i : ℕ) (d word : String Global) (read : Bool) (rule rule' : LockRule) (waiting waiting' : Option Setting) (tasks tasks' : List Task) (whole : Option (List Task)) → word ≡ get_or words i d
    → i < length words → asked mailbox rule waiting tasks (all_bytes (drop i words)) ≡ whole → ReadsOn mailbox (string_bytes word) read rule waiting tasks rule' waiting' tasks' → read ≡ true
    → asked mailbox rule' waiting' tasks' (all_bytes (drop (i + 1) words)) ≡ whole
word_on mailbox words i d word read rule rule' waiting waiting' tasks tasks' whole is more h on e =
    let rest = all_bytes (drop (i + 1) words) in
    sym (on rest ∙ ap (λ b. if b then asked mailbox rule' waiting' tasks' rest else None) e) ∙ ap (asked mailbox rule waiting tasks) (sym (front words i d word is more)) ∙ h

-- a word wasn't read
pub word_stops : (mailbox : List ℕ) (words : List (String Global)) (i : ℕ) (d word : String Global) (read : Bool) (rule rule' : LockRule) (waiting waiting' : Option Setting) (tasks tasks' : List Task) (whole : Option (List Task)) → word ≡ get_or words i d
    → i < length words → asked mailbox rule waiting tasks (all_bytes (drop i words)) ≡ whole → ReadsOn mailbox (string_bytes word) read rule waiting tasks rule' waiting' tasks' → read ≡ false → None ≡ whole
word_stops mailbox words i d word read rule rule' waiting waiting' tasks tasks' whole is more h on e =
    let rest = all_bytes (drop (i + 1) words) in
    sym (on rest ∙ ap (λ b. if b then asked mailbox rule' waiting' tasks' rest else None) e) ∙ ap (asked mailbox rule waiting tasks) (sym (front words i d word is more)) ∙ h

-- all words were read
pub words_over : (mailbox : List ℕ) (words : List (String Global)) (i : ℕ) (rule : LockRule) (waiting : Option Setting) (tasks : List Task) (whole : Option (List Task)) → length words ≤ i
    → asked mailbox rule waiting tasks (all_bytes (drop i words)) ≡ whole → is_some waiting ≡ false → Some tasks ≡ whole
words_over mailbox words i rule None tasks whole over h e =
    ap (λ l. Some l) (sym (append-nil tasks)) ∙ sym (at_drop_all (λ l. asked mailbox rule None tasks (all_bytes l)) words i over) ∙ h
words_over mailbox words i rule (Some setting) tasks whole over h e = let t : true ≡ false = e in absurd (cc)

-- the last word wanted a value
pub words_wait : (mailbox : List ℕ) (words : List (String Global)) (i : ℕ) (rule : LockRule) (waiting : Option Setting) (tasks : List Task) (whole : Option (List Task)) → length words ≤ i
    → asked mailbox rule waiting tasks (all_bytes (drop i words)) ≡ whole → is_some waiting ≡ true → None ≡ whole
words_wait mailbox words i rule None tasks whole over h e = let t : false ≡ true = e in absurd (cc)
words_wait mailbox words i rule (Some setting) tasks whole over h e = sym (at_drop_all (λ l. asked mailbox rule (Some setting) tasks (all_bytes l)) words i over) ∙ h

-- what a word says decides how the words go on
by_its_word : (mailbox word : List ℕ) (rule : LockRule) (tasks : List Task) (says : Word) (rest : List (List ℕ)) → says ≡ word_of rule word
    → asked mailbox rule None tasks (word ∷ rest) ≡ option_map (λ more. tasks ++ more) (by_word mailbox rule word (λ now waiting. tasks_in mailbox now waiting rest) says)
by_its_word mailbox word rule tasks says rest e = ap (λ w. option_map (λ more. tasks ++ more) (by_word mailbox rule word (λ now waiting. tasks_in mailbox now waiting rest) w)) (sym e)

pub reads_takes : (mailbox word : List ℕ) (rule : LockRule) (waiting : Option Setting) (tasks tasks' : List Task) → waiting ≡ None → Takes ≡ word_of rule word → tasks' ≡ tasks ++ Take word rule ∷ []
    → ReadsOn mailbox word true rule waiting tasks rule waiting tasks'
reads_takes mailbox word rule waiting tasks tasks' w e t =
    subst (λ x. ReadsOn mailbox word true rule x tasks rule x tasks') (sym w)
    (subst (λ x. ReadsOn mailbox word true rule None tasks rule None x) (sym t)
    (λ rest. by_its_word mailbox word rule tasks Takes rest e ∙ one_more tasks (Take word rule) (tasks_in mailbox rule None rest)))

pub reads_mailbox : (mailbox word : List ℕ) (rule : LockRule) (waiting : Option Setting) (tasks tasks' : List Task) → waiting ≡ None → TakesMailbox ≡ word_of rule word → tasks' ≡ tasks ++ Take mailbox rule ∷ []
    → ReadsOn mailbox word true rule waiting tasks rule waiting tasks'
reads_mailbox mailbox word rule waiting tasks tasks' w e t =
    subst (λ x. ReadsOn mailbox word true rule x tasks rule x tasks') (sym w)
    (subst (λ x. ReadsOn mailbox word true rule None tasks rule None x) (sym t)
    (λ rest. by_its_word mailbox word rule tasks TakesMailbox rest e ∙ one_more tasks (Take mailbox rule) (tasks_in mailbox rule None rest)))

pub reads_gives : (mailbox word : List ℕ) (rule : LockRule) (waiting : Option Setting) (tasks tasks' : List Task) → waiting ≡ None → GivesMailbox ≡ word_of rule word → tasks' ≡ tasks ++ Give mailbox ∷ []
    → ReadsOn mailbox word true rule waiting tasks rule waiting tasks'
reads_gives mailbox word rule waiting tasks tasks' w e t =
    subst (λ x. ReadsOn mailbox word true rule x tasks rule x tasks') (sym w)
    (subst (λ x. ReadsOn mailbox word true rule None tasks rule None x) (sym t)
    (λ rest. by_its_word mailbox word rule tasks GivesMailbox rest e ∙ one_more tasks (Give mailbox) (tasks_in mailbox rule None rest)))

pub reads_none : (mailbox word : List ℕ) (rule : LockRule) (waiting : Option Setting) (tasks : List Task) → waiting ≡ None → Unread ≡ word_of rule word → ReadsOn mailbox word false rule waiting tasks rule waiting tasks
reads_none mailbox word rule waiting tasks w e = subst (λ x. ReadsOn mailbox word false rule x tasks rule x tasks) (sym w) (λ rest. by_its_word mailbox word rule tasks Unread rest e)
