-- Runs, one after the other, and what is counted of their entries.
use Rattle.std.proofs.Common.{◌≡◌, ◌≤◌, ℕ, suc, ◌+◌, List, length, cond, [], ◌∷◌, ◌++◌, refl, sym, ap, ◌∙◌, subst, arith, append_assoc, append-nil, length-append}
use Rattle.std.proofs.lemmas.List.Elements.{All-nil, All-push}
use Rattle.std.proofs.lemmas.List.Sums.{sum_by-append}
use Rattle.pm_bytes.specs.declared.environment.Environ.{Environ}
use Rattle.pm_journal.specs.Entries.{View}
use Rattle.pm_journal.specs.declared.acts.Entry.{Entry}
use Rattle.pm_top.specs.Run.{Run}
use Rattle.pm_top.specs.Counting.{totals_of, none, plus, is_append, is_lock, piece_length}
use Rattle.pm_top.specs.Runs.{IsRun, AreRuns, Delivered, all_entries}
use Rattle.pm_top.specs.declared.totals.Totals.{Totals}

same_totals : (a a' b b' c c' d d' : ℕ) → a ≡ a' → b ≡ b' → c ≡ c' → d ≡ d' → (let t : Totals = record { entries = a; appends = b; locks = c; bytes = d } in let t' : Totals = record { entries = a'; appends = b'; locks = c'; bytes = d' } in t ≡ t')
same_totals a a' b b' c c' d d' e f g h = cc

-- the counts of two lists add up
pub totals_of-append : (es fs : List Entry) → totals_of (es ++ fs) ≡ plus (totals_of es) (totals_of fs)
totals_of-append es fs = same_totals _ _ _ _ _ _ _ _ (length-append es fs)
    (sum_by-append (λ e. cond (is_append e.act) 1 0) es fs) (sum_by-append (λ e. cond (is_lock e.act) 1 0) es fs) (sum_by-append (λ e. piece_length e.act) es fs)

all_entries-append : (runs : List Run) (run : Run) → all_entries (runs ++ run ∷ []) ≡ all_entries runs ++ run.entries
all_entries-append [] run = append-nil run.entries
all_entries-append (r ∷ runs) run = ap (λ es. r.entries ++ es) (all_entries-append runs run) ∙ sym (append_assoc r.entries (all_entries runs) run.entries)

-- one run more after them
runs_more : (env : Environ) (k : ℕ) (runs : List Run) (before middle : View) (run : Run) → AreRuns env k runs before middle → IsRun env (k + length runs) run → run.before ≡ middle → AreRuns env k (runs ++ run ∷ []) before run.after
runs_more env k [] before middle run h last begins = let e : k + 0 ≡ k = omega arith in (subst (λ n. IsRun env n run) e last, begins ∙ h, refl)
runs_more env k (r ∷ runs) before middle run h last begins =
    let e : k + suc (length runs) ≡ k + 1 + length runs = omega arith in
    (h.0, h.1, runs_more env (k + 1) runs r.after middle run h.2 (subst (λ n. IsRun env n run) e last) begins)

-- the first runs of a trial, and what is counted of them
pub record Counted (env : Environ) (number : ℕ) (totals : Totals) (before after : View) : Type 0 where
  pub delivered : Delivered env number before after
  pub counted : totals ≡ totals_of (all_entries delivered.runs)

-- before the first run
pub counted_none : (env : Environ) (totals : Totals) (v : View) → totals ≡ none → Counted env 0 totals v v
counted_none env totals v e = record { delivered = record { runs = []; in_order = refl; as_many = refl; succeeded = All-nil (λ run. run.status ≡ 0) }; counted = e }

pub delivered_more : (env : Environ) (number : ℕ) (before middle : View) (run : Run) → Delivered env number before middle → IsRun env number run → run.before ≡ middle → run.status ≡ 0 → Delivered env (number + 1) before run.after
delivered_more env number before middle run d last begins status = record {
  runs = d.runs ++ run ∷ [];
  in_order = runs_more env 0 d.runs before middle run d.in_order (let e : number ≡ 0 + length d.runs = omega arith in subst (λ n. IsRun env n run) e last) begins;
  as_many = length-append d.runs (run ∷ []) ∙ ap (λ n. n + 1) d.as_many;
  succeeded = All-push (λ run. run.status ≡ 0) d.runs run d.succeeded status;
}

pub counted_more : (env : Environ) (number : ℕ) (totals totals' : Totals) (before middle : View) (run : Run) → Counted env number totals before middle → IsRun env number run → run.before ≡ middle → run.status ≡ 0 → totals' ≡ plus totals (totals_of run.entries) → Counted env (number + 1) totals' before run.after
unfolding delivered_more
counted_more env number totals totals' before middle run c last begins status adds = record {
  delivered = delivered_more env number before middle run c.delivered last begins status;
  counted = adds ∙ ap (λ t. plus t (totals_of run.entries)) c.counted ∙ sym (totals_of-append (all_entries c.delivered.runs) run.entries) ∙ ap totals_of (sym (all_entries-append c.delivered.runs run));
}
