-- One child more.
use Rattle.std.proofs.Common.{◌≡◌, ◌<◌, ◌+◌, ℕ, false, List, [], ◌∷◌, ◌++◌, length, take, map, get_or, Some, refl, sym, ap, ◌∙◌, subst, append_assoc, append-nil, add-one}
use Rattle.std.proofs.Math.Seq.{take-suc}
use Rattle.std.proofs.lemmas.List.{map-append}
use Rattle.pm_host.specs.Told.{HostView}
use Rattle.pm_host.specs.Runs.{Ran}
use Rattle.pm_host.proofs.RunsJoin.{ran_none, ran_join}
use Rattle.pm_host.specs.declared.command.Command.{Command}
use Rattle.pm_journal.specs.Children.{RunGroup}
use Rattle.pm_journal.specs.declared.acts.Reply.{Reply}
use Rattle.pm_pipe.specs.Runs.{RunsTo, fed_reply}
use Rattle.pm_pipe.specs.declared.child.Fate.{Fate}
use Rattle.formail_split.specs.Children.{EachRan, replies_of}
use Rattle.formail_split.specs.Feeding.{ChildRun, EachFed, calls_of, came_to, worse, worst_of, FeedsEach}
use Rattle.formail_split.specs.declared.feeding.Outcome.{Outcome}
use Rattle.formail_split.specs.declared.feeding.Outcome.TheVariants.{Fine, Amiss, Failed}

each_more : (command : Command) (texts : List (List ℕ)) (runs : List ChildRun) (text : List ℕ) (run : ChildRun) → EachFed command texts runs
    → RunGroup command text false run.reply run.calls → EachFed command (texts ++ text ∷ []) (runs ++ run ∷ [])
each_more command [] [] text run h g = (g, tt)
each_more command [] (r ∷ rs) text run h g = absurd h
each_more command (t ∷ ts) [] text run h g = absurd h
each_more command (t ∷ ts) (r ∷ rs) text run h g = (h.0, each_more command ts rs text run h.1 g)

calls_more : (runs : List ChildRun) (run : ChildRun) → calls_of (runs ++ run ∷ []) ≡ calls_of runs ++ run.calls
calls_more [] run = append-nil run.calls
calls_more (r ∷ rs) run = ap (λ l. r.calls ++ l) (calls_more rs run) ∙ sym (append_assoc r.calls (calls_of rs) run.calls)

worse_fine : (o : Outcome) → worse o Fine ≡ o
worse_fine Fine = refl
worse_fine Failed = refl
worse_fine Amiss = refl

worse_assoc : (a b c : Outcome) → worse (worse a b) c ≡ worse a (worse b c)
worse_assoc Fine b c = refl
worse_assoc Failed b c = refl
worse_assoc Amiss Fine c = refl
worse_assoc Amiss Failed c = refl
worse_assoc Amiss Amiss Fine = refl
worse_assoc Amiss Amiss Failed = refl
worse_assoc Amiss Amiss Amiss = refl

worst_more : (command : Command) (texts : List (List ℕ)) (runs : List ChildRun) (text : List ℕ) (run : ChildRun) → EachFed command texts runs
    → worse (worst_of texts runs) (came_to (length text) run.reply) ≡ worst_of (texts ++ text ∷ []) (runs ++ run ∷ [])
worst_more command [] [] text run h = sym (worse_fine (came_to (length text) run.reply))
worst_more command [] (r ∷ rs) text run h = absurd h
worst_more command (t ∷ ts) [] text run h = absurd h
worst_more command (t ∷ ts) (r ∷ rs) text run h =
    worse_assoc (came_to (length t) r.reply) (worst_of ts rs) (came_to (length text) run.reply)
    ∙ ap (worse (came_to (length t) r.reply)) (worst_more command ts rs text run h.1)

pub feeds_none : (command : Command) (s : HostView) → FeedsEach command [] Fine s s
feeds_none command s = record { runs = []; each = tt; ran = ran_none s; worst = refl }

one_more : (command : Command) (texts : List (List ℕ)) (text : List ℕ) (outcome one : Outcome) (reply : Reply) (a b c : HostView) → FeedsEach command texts outcome a b
    → RunsTo command text false (Some reply) b c → one ≡ came_to (length text) reply → FeedsEach command (texts ++ text ∷ []) (worse outcome one) a c
one_more command texts text outcome one reply a b c h r e =
    let run : ChildRun = record { reply = reply; calls = r.calls } in
    record {
      runs = h.runs ++ run ∷ [];
      each = each_more command texts h.runs text run h.each r.group;
      ran = subst (λ l. Ran l a c) (sym (calls_more h.runs run)) (ran_join (calls_of h.runs) r.calls a b c h.ran r.ran);
      worst = ap (λ o. worse o one) h.worst ∙ ap (worse (worst_of texts h.runs)) e ∙ worst_more command texts h.runs text run h.each;
    }

-- the first texts were given to children, and now one more
pub feeds_more : (command : Command) (texts : List (List ℕ)) (place : ℕ) (text other : List ℕ) (outcome one : Outcome) (reply : Reply) (a b c : HostView) → place < length texts
    → text ≡ get_or texts place other → FeedsEach command (take place texts) outcome a b → RunsTo command text false (Some reply) b c → one ≡ came_to (length text) reply
    → FeedsEach command (take (place + 1) texts) (worse outcome one) a c
feeds_more command texts place text other outcome one reply a b c lt is h r e =
    let front : take (place + 1) texts ≡ take place texts ++ text ∷ [] =
    ap (λ n. take n texts) (add-one place) ∙ take-suc texts place other lt ∙ ap (λ t. take place texts ++ t ∷ []) (sym is) in
    subst (λ ts. FeedsEach command ts (worse outcome one) a c) (sym front)
    (one_more command (take place texts) text outcome one reply a b c h r e)

replies_more : (runs : List ChildRun) (rans : List Fate) (run : ChildRun) (ran : Fate) → replies_of runs ≡ map fed_reply rans
    → run.reply ≡ fed_reply ran → replies_of (runs ++ run ∷ []) ≡ map fed_reply (rans ++ ran ∷ [])
replies_more runs rans run ran before one =
    map-append (λ r. r.reply) runs (run ∷ []) ∙ ap (λ rs. rs ++ run.reply ∷ []) before
    ∙ ap (λ r. map fed_reply rans ++ r ∷ []) one ∙ sym (map-append fed_reply rans (ran ∷ []))

pub ran_none_yet : (command : Command) (rans : List Fate) (s : HostView) → rans ≡ [] → EachRan command [] rans s s
ran_none_yet command rans s none = record { runs = []; each = tt; ran = ran_none s; ends = sym (ap (map fed_reply) none) }

ran_one_more : (command : Command) (texts : List (List ℕ)) (text : List ℕ) (rans : List Fate) (fate : Fate) (a b c : HostView)
    → EachRan command texts rans a b → RunsTo command text false (Some (fed_reply fate)) b c
    → EachRan command (texts ++ text ∷ []) (rans ++ fate ∷ []) a c
ran_one_more command texts text rans fate a b c h r =
    let run : ChildRun = record { reply = fed_reply fate; calls = r.calls } in
    record {
      runs = h.runs ++ run ∷ [];
      each = each_more command texts h.runs text run h.each r.group;
      ran = subst (λ l. Ran l a c) (sym (calls_more h.runs run)) (ran_join (calls_of h.runs) r.calls a b c h.ran r.ran);
      ends = replies_more h.runs rans run fate h.ends refl;
    }

-- the first texts were given to children, whose ends are told, and now one more
pub ran_more : (command : Command) (texts : List (List ℕ)) (place : ℕ) (text other : List ℕ) (rans : List Fate) (fate : Fate) (a b c : HostView) → place < length texts
    → text ≡ get_or texts place other → EachRan command (take place texts) rans a b → RunsTo command text false (Some (fed_reply fate)) b c
    → EachRan command (take (place + 1) texts) (rans ++ fate ∷ []) a c
ran_more command texts place text other rans fate a b c lt is h r =
    let front : take (place + 1) texts ≡ take place texts ++ text ∷ [] =
    ap (λ n. take n texts) (add-one place) ∙ take-suc texts place other lt ∙ ap (λ t. take place texts ++ t ∷ []) (sym is) in
    subst (λ ts. EachRan command ts (rans ++ fate ∷ []) a c) (sym front)
    (ran_one_more command (take place texts) text rans fate a b c h r)
