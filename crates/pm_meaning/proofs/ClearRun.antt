-- Where nothing stands in its way a first process ends as delivered, or on another host.
use Rattle.std.proofs.Common.{◌≡◌, ℕ, zero, suc, Bool, true, false, ◌&&◌, List, [], ◌∷◌, ◌++◌, Some, None, refl, sym, ap, ◌∙◌, subst, append_assoc}
use Rattle.std.specs.Prelude.{if◌then◌else◌, nat_le}
use Rattle.pm_bytes.specs.Name.{is_usable}
use Rattle.pm_bytes.specs.declared.environment.Environ.{Environ}
use Rattle.pm_recipe.specs.Listed.{rc_of}
use Rattle.pm_recipe.specs.Tree.{Tree, Trees}
use Rattle.pm_journal.specs.LogText.{couldnt_read_line, too_many_rcfiles_line}
use Rattle.pm_journal.specs.declared.acts.Act.TheVariants.{ReadFile}
use Rattle.pm_journal.specs.declared.acts.Entry.{Entry}
use Rattle.pm_journal.specs.declared.acts.Reply.{Reply}
use Rattle.pm_journal.specs.declared.acts.Reply.TheVariants.{Content}
use Rattle.pm_journal.specs.Plan.{Ends, and_then, ask, Plays}
use Rattle.pm_journal.specs.Walking.{Next, Stop, Go, walk, Means, ArrivesAt}
use Rattle.pm_journal.proofs.WalkJoin.{arrives_go, arrives_here}
use Rattle.pm_meaning.specs.Blocks.{begun_block, closed, give_maybe}
use Rattle.pm_meaning.specs.Changes.{opened, with_rcfile}
use Rattle.pm_meaning.specs.Chains.{succeeded}
use Rattle.pm_meaning.specs.Delivering.{plain_prefix, deliver_default}
use Rattle.pm_meaning.specs.Destinations.{destination_of, full_of}
use Rattle.pm_meaning.specs.GlobalLock.{give_named}
use Rattle.pm_meaning.specs.Logging.{log}
use Rattle.pm_meaning.specs.Minds.{Mind}
use Rattle.pm_meaning.specs.Turns.{Turn, GoesOn, Halts, Enters, Includes, Switches, EndsFile, Clones, ActEnd, for_good, say_then}
use Rattle.pm_meaning.specs.declared.process.End.{End}
use Rattle.pm_meaning.specs.declared.process.End.TheVariants.{Delivered, FellOff, NoRc, HostOff}
use Rattle.pm_meaning.specs.Completeness.{AllServed, IsContent, FoundFolder, HasDefault, IsClear, IsWell, EndsWell}
use Rattle.pm_meaning.specs.EndStatus.{EndHasStatus}
use Rattle.pm_meaning.specs.Courses.{Others, Course, now_at, with_copy, onward, advance, alone, run_of}
use Rattle.pm_meaning.specs.Ends.{tell_delivery, trap}
use Rattle.pm_meaning.specs.Running.{State, Arrived, Setting, Opening, Running, Including, Switching, LeavingFile, Cloning, Refusing, FallingOff, Leaving, Over, Trapping, Unlocking, Closing, Item, Do, BlockEnd, FileEnd, OpeningRule, Event, Ended, WantsClone, clone_of, ahead, is_first, entered, with_later, is_missing, after_read, without_rcfile, included, switched, left_by, ending_of, default_mailboxes, next_default, step, statement, next_of}
use Rattle.pm_meaning.specs.declared.command_line.CommandLine.{CommandLine}
use Rattle.pm_meaning.specs.declared.ending.Ending.{Ending}
use Rattle.pm_meaning.proofs.Closings.{given_end}
use Rattle.pm_meaning.proofs.DefaultDelivered.{served_front, served_rest, found_front, default_delivers}
use Rattle.pm_meaning.proofs.DeliveredLast.{advanced}
use Rattle.pm_meaning.proofs.EndStatus.{well_is_success}
use Rattle.pm_meaning.proofs.FirstKept.{parts_through, on_with, over_own}
use Rattle.pm_meaning.proofs.Lines.{at_end, then_end}
use Rattle.pm_meaning.proofs.NoLast.{FailsMidway, never_prepared, never_setting, never_opened, never_left, never_refused}
use Rattle.pm_meaning.proofs.NoStray.{is_stray_end, strays, never_statement}
use Rattle.pm_meaning.proofs.OneOutcome.{not_over}

-- a process that stands so ends well where nothing stands in its way
abbrev Fares : State → Type 0
Fares (FallingOff mailboxes p) = HasDefault mailboxes p
Fares (Leaving locks end p) = IsWell end
Fares (Over end p) = IsWell end
Fares (Trapping end p) = IsWell end
Fares (Unlocking ending p) = IsWell ending.end
Fares (Closing ending p) = IsWell ending.end
Fares other = Unit {0}

abbrev FaresOn : Next State Event → Type 0
FaresOn (Go s) = Fares s
FaresOn (Stop (Ended ending p)) = IsWell ending.end
FaresOn (Stop (WantsClone trees items p)) = Unit {0}

-- what a step of the middle of a process never comes to
abbrev is_astray : Next State Event → Bool
is_astray (Stop (Ended ending p)) = true
is_astray (Stop (WantsClone trees items p)) = false
is_astray (Go (FallingOff mailboxes p)) = true
is_astray (Go (Leaving locks end p)) = is_stray_end end
is_astray (Go (Over end p)) = is_stray_end end
is_astray (Go (Trapping end p)) = is_stray_end end
is_astray (Go (Unlocking ending p)) = true
is_astray (Go (Closing ending p)) = true
is_astray (Go other) = false

not_astray : FailsMidway is_astray
not_astray = record { setting = λ pairs line home p. refl; opening = λ o names p. refl; running = λ items p. refl; leaving = λ locks items p. refl }

well_end : (end : End) → (is_stray_end end ≡ true → ⊥) → IsWell end
well_end Delivered h = tt
well_end HostOff h = tt
well_end FellOff h = h refl
well_end NoRc h = h refl

fares_by : (next : Next State Event) → (is_astray next ≡ true → ⊥) → FaresOn next
fares_by (Stop (Ended ending p)) h = absurd (h refl)
fares_by (Stop (WantsClone trees items p)) h = tt
fares_by (Go (FallingOff mailboxes p)) h = absurd (h refl)
fares_by (Go (Leaving locks end p)) h = well_end end h
fares_by (Go (Over end p)) h = well_end end h
fares_by (Go (Trapping end p)) h = well_end end h
fares_by (Go (Unlocking ending p)) h = absurd (h refl)
fares_by (Go (Closing ending p)) h = absurd (h refl)
fares_by (Go (Arrived line env bytes)) h = tt
fares_by (Go (Setting pairs line home p)) h = tt
fares_by (Go (Opening o names p)) h = tt
fares_by (Go (Running items p)) h = tt
fares_by (Go (Including name rest p)) h = tt
fares_by (Go (Switching name rest p)) h = tt
fares_by (Go (LeavingFile locks items p)) h = tt
fares_by (Go (Cloning trees items p)) h = tt
fares_by (Go (Refusing items p)) h = tt

-- what comes is this
fares_at : (next last : Next State Event) → last ≡ next → FaresOn next → FaresOn last
fares_at next last e h = subst FaresOn (sym e) h

ended_at : (next last : Next State Event) (es : List Entry) → Plays (Ends next) es last → FaresOn next → FaresOn last
ended_at next last es h k = fares_at next last (at_end next es last h).same k

-- the turn of a statement
fares_turn : (tree : Tree) (count : ℕ) (rest : List Item) (turn : Turn) → (strays turn ≡ true → ⊥) → FaresOn (next_of tree count rest turn)
fares_turn tree count rest (GoesOn p) h = tt
fares_turn tree count rest (Halts end p) h = well_end end h
fares_turn tree count rest (Enters lock p) h = tt
fares_turn tree count rest (Includes name p) h = tt
fares_turn tree count rest (Switches name p) h = tt
fares_turn tree count rest (EndsFile p) h = tt
fares_turn tree count rest (Clones p) h = tt

-- a default mailbox that got the mail
fares_good : (b : Bool) (rest : List (List ℕ)) (p : Mind) → b ≡ true → FaresOn (if b then Go (Over Delivered p) else Go (FallingOff rest p))
fares_good true rest p h = tt
fares_good false rest p h = let e : false ≡ true = h in absurd (cc)

fares_default : (rest : List (List ℕ)) (came : ActEnd) → for_good came ≡ true → FaresOn (next_default rest came)
fares_default rest came h = fares_good (for_good came) rest came.mind h

fares_left : (end : End) (p : Mind) → IsWell end → Fares (left_by end p)
fares_left Delivered p h = tt
fares_left HostOff p h = tt
fares_left FellOff p h = absurd h
fares_left NoRc p h = absurd h

-- without another rcfile
fares_without : (b : Bool) (p : Mind) → FaresOn (Go (if b then Running [] p else Over HostOff p))
fares_without true p = tt
fares_without false p = tt

-- a line is told before this
fares_told : (p : Mind) (text : List ℕ) (next last : Next State Event) (es : List Entry) → Plays (say_then p text next) es last → FaresOn next → FaresOn last
fares_told p text next last es h k = fares_at next last (then_end (log text p) (λ done. next) es last h).2 k

-- an rcfile that isn't a mail filter's is passed over
fares_passed : (filter : Bool) (silent : Bool) (o : OpeningRule) (name : List ℕ) (names : List (List ℕ)) (p : Mind) (last : Next State Event) (es : List Entry) → (filter ≡ true → ⊥)
    → Plays (if filter then Ends (Go (Over NoRc p)) else if silent then Ends (Go (Opening o names p)) else say_then p (couldnt_read_line name) (Go (Opening o names p))) es last → FaresOn last
fares_passed true silent o name names p last es not_filter h = absurd (not_filter refl)
fares_passed false true o name names p last es not_filter h = ended_at (Go (Opening o names p)) last es h tt
fares_passed false false o name names p last es not_filter h = fares_told p (couldnt_read_line name) (Go (Opening o names p)) last es h tt

fares_read : (o : OpeningRule) (name : List ℕ) (names : List (List ℕ)) (p : Mind) (reply : Reply) (last : Next State Event) (es : List Entry) → (p.filter ≡ true → IsContent reply)
    → Plays (after_read o name names p reply) es last → FaresOn last
fares_read o name names p (Content bytes) last es read h = ended_at (Go (Running (ahead (rc_of bytes) []) (begun_block (entered o name (with_later names p))))) last es h tt
fares_read o name names p other last es read h = fares_passed p.filter (o.is_implied && is_missing other) o name names p last es (λ is. read is) h

-- how the first entry of an opening is read
abbrev ReadsOwn : State → List Entry → Type 0
ReadsOwn s es = (later : List Entry) (e : Entry) (o : OpeningRule) (name : List ℕ) (names : List (List ℕ)) (p : Mind) → es ≡ e ∷ later → s ≡ Opening o (name ∷ names) p → p.filter ≡ true
    → e.act ≡ ReadFile name → IsContent e.reply

-- where nothing is left to do there is a default mailbox
abbrev NamesOwn : State → Type 0
NamesOwn s = (p : Mind) → s ≡ Running [] p → HasDefault (default_mailboxes p.vars) p

-- where the default mailbox is found to be a folder, the names of its files can begin with MSGPREFIX
abbrev PrefixesOwn : State → List Entry → Type 0
PrefixesOwn s es = (mailbox : List ℕ) (others : List (List ℕ)) (p : Mind) → s ≡ FallingOff (mailbox ∷ others) p → FoundFolder (full_of p.base (destination_of mailbox)) es
    → is_usable (plain_prefix p) ≡ true

asked_read : (o : OpeningRule) (name : List ℕ) (names : List (List ℕ)) (p : Mind) (last : Next State Event) (es : List Entry) → ReadsOwn (Opening o (name ∷ names) p) es
    → Plays (and_then (ask (ReadFile name)) (after_read o name names (opened p))) es last → FaresOn last
asked_read o name names p last [] reads h = absurd h
asked_read o name names p last (e ∷ es) reads h =
    fares_read o name names (opened p) e.reply last es (λ filter. reads es e o name names p refl refl filter h.0) h.2

fares_opening : (b : Bool) (o : OpeningRule) (name : List ℕ) (names : List (List ℕ)) (p : Mind) (last : Next State Event) (es : List Entry) → ReadsOwn (Opening o (name ∷ names) p) es
    → Plays (if b then say_then p (too_many_rcfiles_line name) (Go (Opening o names p)) else and_then (ask (ReadFile name)) (after_read o name names (opened p))) es last → FaresOn last
fares_opening true o name names p last es reads h = fares_told p (too_many_rcfiles_line name) (Go (Opening o names p)) last es h tt
fares_opening false o name names p last es reads h = asked_read o name names p last es reads h

fares_running : (items : List Item) (p : Mind) (next : Next State Event) (es : List Entry) → Plays (step (Running items p)) es next → NamesOwn (Running items p) → FaresOn next
fares_running [] p next es h named = ended_at (Go (FallingOff (default_mailboxes p.vars) p)) next es h (named p refl)
fares_running (Do tree ∷ rest) p next es h named =
    let k = then_end (statement tree p) (λ turn. next_of tree p.openings rest turn) es next h in
    fares_at (next_of tree p.openings rest k.0) next k.2 (fares_turn tree p.openings rest k.0 (λ stray. never_statement tree p es k.0 k.1 stray))
fares_running (BlockEnd saved lock ∷ rest) p next es h named =
    let k = then_end (give_maybe lock p) (λ q. Go (Running rest (closed saved q))) es next h in fares_at (Go (Running rest (closed saved k.0))) next k.2 tt
fares_running (FileEnd name ∷ rest) p next es h named = ended_at (Go (Running rest (with_rcfile name p))) next es h tt

fares_falling : (mailboxes : List (List ℕ)) (p : Mind) (next : Next State Event) (es : List Entry) → Plays (step (FallingOff mailboxes p)) es next → AllServed es
    → PrefixesOwn (FallingOff mailboxes p) es → HasDefault mailboxes p → FaresOn next
fares_falling [] p next es h served prefixes fares = absurd fares
fares_falling (mailbox ∷ rest) p next es h served prefixes fares =
    let k = then_end (deliver_default mailbox p) (λ turn. next_default rest turn) es next h in
    fares_at (next_default rest k.0) next k.2 (fares_default rest k.0 (default_delivers mailbox p es k.0 fares (prefixes mailbox rest p refl) served k.1))

-- one step
fares_on : (s : State) (next : Next State Event) (es : List Entry) → Plays (step s) es next → AllServed es → ReadsOwn s es → NamesOwn s → PrefixesOwn s es → Fares s → FaresOn next
fares_on (Arrived line env bytes) next es h served reads named prefixes fares = fares_by next (λ stray. never_prepared is_astray not_astray line env bytes es next h stray)
fares_on (Setting pairs line home p) next es h served reads named prefixes fares = fares_by next (λ stray. never_setting is_astray not_astray pairs line home p es next h stray)
fares_on (Opening o [] p) next es h served reads named prefixes fares = ended_at (Go (without_rcfile p)) next es h (fares_without (is_first p) p)
fares_on (Opening o (name ∷ names) p) next es h served reads named prefixes fares = fares_opening (nat_le 256 p.openings) o name names p next es reads h
fares_on (Running items p) next es h served reads named prefixes fares = fares_running items p next es h named
fares_on (Including name rest p) next es h served reads named prefixes fares = fares_by next (λ stray. never_opened is_astray not_astray name rest p (included name rest) (λ trees q. refl) es next h stray)
fares_on (Switching name rest p) next es h served reads named prefixes fares = fares_by next (λ stray. never_opened is_astray not_astray name rest p (switched name rest) (λ trees q. refl) es next h stray)
fares_on (LeavingFile locks items p) next es h served reads named prefixes fares = fares_by next (λ stray. never_left is_astray not_astray locks items p es next h stray)
fares_on (Cloning trees items p) next es h served reads named prefixes fares = ended_at (Stop (WantsClone trees items p)) next es h tt
fares_on (Refusing items p) next es h served reads named prefixes fares = fares_by next (λ stray. never_refused is_astray not_astray items p es next h stray)
fares_on (FallingOff mailboxes p) next es h served reads named prefixes fares = fares_falling mailboxes p next es h served prefixes fares
fares_on (Leaving [] end p) next es h served reads named prefixes fares = ended_at (Go (left_by end p)) next es h (fares_left end p fares)
fares_on (Leaving (lock ∷ locks) end p) next es h served reads named prefixes fares =
    let k = then_end (give_maybe lock p) (λ q. Go (Leaving locks end q)) es next h in fares_at (Go (Leaving locks end k.0)) next k.2 fares
fares_on (Over end p) next es h served reads named prefixes fares =
    let k = then_end (tell_delivery end p) (λ done. Go (Trapping end p)) es next h in fares_at (Go (Trapping end p)) next k.2 fares
fares_on (Trapping end p) next es h served reads named prefixes fares =
    let k = then_end (trap end p) (λ t. Go (Unlocking (ending_of end t.code t.mind) t.mind)) es next h in
    fares_at (Go (Unlocking (ending_of end k.0.code k.0.mind) k.0.mind)) next k.2 fares
fares_on (Unlocking ending p) next es h served reads named prefixes fares =
    let k = then_end (give_named p.global p) (λ q. Go (Closing ending q)) es next h in fares_at (Go (Closing ending k.0)) next k.2 fares
fares_on (Closing ending p) next es h served reads named prefixes fares =
    let last : Next State Event = Stop (Ended ending p) in fares_at last next (given_end p.locks last es next h) fares

-- after a step nothing stands in the way either
clear_go : (c d : Course) (front rest es : List Entry) → es ≡ front ++ rest → Plays (advance c) front (Go d) → IsClear c es → IsClear d rest
clear_go c d front rest es whole h clear = record {
  served = served_rest front rest (subst AllServed whole clear.served);
  read = λ before later e o name names p is comes filter act.
      clear.read (front ++ before) later e o name names p (whole ∙ ap (λ l. front ++ l) is ∙ sym (append_assoc front before (e ∷ later)))
      (comes.0, comes.1, arrives_go {X = Ending} advance c d (now_at comes.0 (Opening o (name ∷ names) p)) front before h comes.2) filter act;
  named = λ before later p is comes.
      clear.named (front ++ before) later p (whole ∙ ap (λ l. front ++ l) is ∙ sym (append_assoc front before later))
      (comes.0, comes.1, arrives_go {X = Ending} advance c d (now_at comes.0 (Running [] p)) front before h comes.2);
  prefixed = λ before later mailbox others p is comes.
      clear.prefixed (front ++ before) later mailbox others p (whole ∙ ap (λ l. front ++ l) is ∙ sym (append_assoc front before later))
      (comes.0, comes.1, arrives_go {X = Ending} advance c d (now_at comes.0 (FallingOff (mailbox ∷ others) p)) front before h comes.2);
}

-- the run stands where its process does
abbrev ArrivesHere : Others → State → State → Type 0
ArrivesHere o s t = ArrivesAt {X = Ending} advance (now_at o s) [] (now_at o t)

reads_own : (o : Others) (s : State) (front rest es : List Entry) → o.first ≡ None → es ≡ front ++ rest → IsClear (now_at o s) es → ReadsOwn s front
reads_own o s front rest es none whole clear later e rule name names p is at filter act =
    clear.read [] (later ++ rest) e rule name names p (whole ∙ ap (λ l. l ++ rest) is)
    (o, none, subst (λ t. ArrivesHere o s t) at (arrives_here {X = Ending} advance (now_at o s))) filter act

names_own : (o : Others) (s : State) (es : List Entry) → o.first ≡ None → IsClear (now_at o s) es → NamesOwn s
names_own o s es none clear p at = clear.named [] es p refl (o, none, subst (λ t. ArrivesHere o s t) at (arrives_here {X = Ending} advance (now_at o s)))

prefixes_own : (o : Others) (s : State) (front rest es : List Entry) → o.first ≡ None → es ≡ front ++ rest → IsClear (now_at o s) es → PrefixesOwn s front
prefixes_own o s front rest es none whole clear mailbox others p at found =
    clear.prefixed [] (front ++ rest) mailbox others p whole (o, none, subst (λ t. ArrivesHere o s t) at (arrives_here {X = Ending} advance (now_at o s)))
    (found_front (full_of p.base (destination_of mailbox)) front rest found)

-- with so many steps
abbrev Walks : ℕ → Type 0
Walks n = (o : Others) (s : State) (es : List Entry) (z : Ending) → o.first ≡ None → Fares s → IsClear (now_at o s) es → Plays (walk advance n (now_at o s)) es (Some z) → IsWell z.end

copied_by : (b : Bool) (n : ℕ) (c : Course) (o : Others) (trees : Trees) (items : List Item) (p : Mind) (front rest es : List Entry) (z : Ending) → Walks n → o.first ≡ None → es ≡ front ++ rest
    → IsClear c es → Plays (advance c) front (if b then Go (now_at o (Refusing items p)) else Go (now_at (with_copy (clone_of trees items p) o) (Running items (succeeded p))))
    → Plays (on_with n (if b then Go (now_at o (Refusing items p)) else Go (now_at (with_copy (clone_of trees items p) o) (Running items (succeeded p))))) rest (Some z) → IsWell z.end
copied_by true n c o trees items p front rest es z walks none whole clear h k =
    let d = now_at o (Refusing items p) in
    walks o (Refusing items p) rest z none tt (clear_go c d front rest es whole h clear) k
copied_by false n c o trees items p front rest es z walks none whole clear h k =
    let more = with_copy (clone_of trees items p) o in
    let d = now_at more (Running items (succeeded p)) in
    walks more (Running items (succeeded p)) rest z none tt (clear_go c d front rest es whole h clear) k

by_event : (n : ℕ) (o : Others) (s : State) (event : Event) (front rest es : List Entry) (z : Ending) → Walks n → o.first ≡ None → es ≡ front ++ rest → IsClear (now_at o s) es → Plays (step s) front (Stop event)
    → FaresOn (Stop event) → Plays (on_with n (onward o (Stop event))) rest (Some z) → IsWell z.end
by_event n o s (Ended ending p) front rest es z walks none whole clear h fares k =
    let own : z ≡ ending = over_own n o ending z p rest none k in
    subst (λ (x : Ending). IsWell x.end) (sym own) fares
by_event n o s (WantsClone trees items p) front rest es z walks none whole clear h fares k =
    copied_by (nat_le 16 o.made) n (now_at o s) o trees items p front rest es z walks none whole clear (advanced o s front (Stop (WantsClone trees items p)) h) k

walks_well : (n : ℕ) (o : Others) (s : State) (es : List Entry) (z : Ending) → o.first ≡ None → Fares s → IsClear (now_at o s) es → Plays (walk advance n (now_at o s)) es (Some z) → IsWell z.end
walks_well zero o s es z none fares clear h = absurd (not_over es z h)
walks_well (suc n) o s es z none fares clear h =
    let k = parts_through (step s) (onward o) (on_with n) es (Some z) h in
    let served = served_front k.front k.rest (subst AllServed k.whole clear.served) in
    let on = fares_on s k.middle k.front k.plays_front served (reads_own o s k.front k.rest es none k.whole clear) (names_own o s es none clear)
    (prefixes_own o s k.front k.rest es none k.whole clear) fares in
    elim k.middle as (λ m. Plays (step s) k.front m → FaresOn m → Plays (on_with n (onward o m)) k.rest (Some z) → IsWell z.end) [
      | Stop event ↦ λ a f b. by_event n o s event k.front k.rest es z (walks_well n) none k.whole clear a f b
      | Go t ↦ λ a f b. walks_well n o t k.rest z none f (clear_go (now_at o s) (now_at o t) k.front k.rest es k.whole (advanced o s k.front (Go t) a) clear) b
    ] k.plays_front on k.plays_rest

pub clear_is_well : EndHasStatus → (line : CommandLine) (env : Environ) (bytes : List ℕ) (es : List Entry) (ending : Ending) → Means advance (run_of line env bytes) es ending
    → IsClear (run_of line env bytes) es → EndsWell (run_of line env bytes) es ending
clear_is_well has_status line env bytes es z h clear =
    let well = walks_well h.steps alone (Arrived line env bytes) es z refl tt clear h.plays in
    let by = has_status line env bytes es z h in
    record { well = well; by = by; success = λ sets. by.status ∙ well_is_success z.end by.left.code by.left.mind well sets }
