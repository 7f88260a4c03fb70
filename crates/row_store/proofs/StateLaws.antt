use Rattle.std.proofs.Common.{arith}
-- The state follows the lines: what an action does to the counts is what it does to the lines.
use Rattle.std.proofs.Common.{◌≡◌, ℕ, ◌+◌, Bool, true, false, cond, not, eqb, List, [], ◌∷◌, ◌++◌, length, fold}
use Rattle.std.proofs.Common.{unwrap_or, Option, Some, None, sym, refl, ap, ◌∙◌, length-append, append_assoc}
use Rattle.std.specs.List.{filter}
use Rattle.std.specs.Ordering.{eq_by_cmp, is_eq}
use Rattle.std.specs.declared.cmp.Ordering.{Ordering}
use Rattle.std.specs.declared.cmp.Ordering.TheVariants.{Less, Equal, Greater}
use Rattle.std.specs.Cmp.{IsTotalOrder}
use Rattle.std.specs.Cmp.Lexicographic.{on_texts}
use Rattle.std.specs.FinMap as map
use Rattle.std.proofs.lemmas.List.Sums.{fold-append}
use Rattle.std.proofs.lemmas.List.{append-nil, map-append}
use Rattle.ssb_schema.specs.declared.fact.Fact.{Fact}
use Rattle.ssb_schema.specs.declared.line.LineFields.{LineFields}
use Rattle.ssb_schema.specs.declared.refresh.Action.{Action}
use Rattle.ssb_schema.specs.declared.refresh.Action.TheVariants.{Add, Amend, Put, Withdraw}
use Rattle.ssb_base.specs.Base.{Tables}
use Rattle.ssb_schema.specs.Facts.{fact_of, facts_of}
use Rattle.ssb_schema.specs.Orders.{order_key}
use Rattle.row_store.specs.Lines.{is_of, lines_without, lines_after_action, lines_after_refresh}
use Rattle.row_store.specs.History.{CommitRecord, lines_after}
use Rattle.row_store.specs.State.{Counts, fact_values, fact_cmp, count_of, with_fact, counts_without}
use Rattle.row_store.specs.State.{fact_counts, counts_after_action, state_after, state_of}

pub total_order : IsTotalOrder fact_cmp
total_order = on_texts fact_values

pub only_equal : (x y : Fact) → fact_cmp x y ≡ Equal → x ≡ y
only_equal x y e = grind arith

pub tied : (r : Ordering) (x y : Fact) → fact_cmp x y ≡ r → (is_eq r ≡ true) → x ≡ y
tied Less x y e t = absurd (cc)
tied Equal x y e t = only_equal x y e
tied Greater x y e t = absurd (cc)

-- what stays of the counts, at a fact
pub get_kept : (p : Fact → Bool) (counts : Counts) (fact : Fact)
    → map.get (map.retain_keys counts p) fact ≡ cond (p fact) (map.get counts fact) None
get_kept p counts fact = map.get-retain_keys counts p fact (λ x e. ap p (sym (only_equal fact x e)))

-- two facts at which the counts are asked: the one that was put, and any
at_put : (same : Bool) (k fact : Fact) (p : Fact → Bool) (v : ℕ) (old : Option ℕ) → (same ≡ true → fact ≡ k)
    → p k ≡ true
    → cond (p fact) (cond same (Some v) old) None ≡ cond same (Some v) (cond (p fact) old None)
at_put true k fact p v old is here = ap (λ b. cond b (Some v) None) (ap p (is refl) ∙ here)
at_put false k fact p v old is here = refl

at_dropped : (same : Bool) (k fact : Fact) (p : Fact → Bool) (v : ℕ) (old : Option ℕ) → (same ≡ true → fact ≡ k)
    → p k ≡ false
    → cond (p fact) (cond same (Some v) old) None ≡ cond (p fact) old None
at_dropped true k fact p v old is here = grind arith
at_dropped false k fact p v old is here = grind arith

-- a fact that stays
kept-with_fact : (p : Fact → Bool) (counts : Counts) (k : Fact) → p k ≡ true
    → map.retain_keys (with_fact counts k) p ≡ with_fact (map.retain_keys counts p) k
kept-with_fact p counts k here =
    let n : ℕ = count_of counts k + 1 in
    let same_count : count_of (map.retain_keys counts p) k ≡ count_of counts k =
    ap (λ o. unwrap_or o 0) (get_kept p counts k ∙ ap (λ b. cond b (map.get counts k) None) here) in
    map.same_map total_order only_equal _ _ (λ fact.
    get_kept p (with_fact counts k) fact
    ∙ ap (λ o. cond (p fact) o None) (map.get-insert total_order counts k n fact)
    ∙ at_put (eq_by_cmp fact_cmp fact k) k fact p n (map.get counts fact) (tied (fact_cmp fact k) fact k refl) here
    ∙ ap (cond (eq_by_cmp fact_cmp fact k) (Some n)) (sym (get_kept p counts fact))
    ∙ ap (λ m. cond (eq_by_cmp fact_cmp fact k) (Some (m + 1)) (map.get (map.retain_keys counts p) fact))
    (sym same_count)
    ∙ sym (map.get-insert total_order (map.retain_keys counts p) k (count_of (map.retain_keys counts p) k + 1) fact))

-- a fact that goes
dropped-with_fact : (p : Fact → Bool) (counts : Counts) (k : Fact) → p k ≡ false
    → map.retain_keys (with_fact counts k) p ≡ map.retain_keys counts p
dropped-with_fact p counts k here =
    let n : ℕ = count_of counts k + 1 in
    map.same_map total_order only_equal _ _ (λ fact.
    get_kept p (with_fact counts k) fact
    ∙ ap (λ o. cond (p fact) o None) (map.get-insert total_order counts k n fact)
    ∙ at_dropped (eq_by_cmp fact_cmp fact k) k fact p n (map.get counts fact) (tied (fact_cmp fact k) fact k refl) here
    ∙ sym (get_kept p counts fact))

kept_facts : (q : LineFields → Bool) (p : Fact → Bool) → ((line : LineFields) → p (fact_of line) ≡ q line)
    → (counts : Counts) (lines : List LineFields)
    → map.retain_keys (fold with_fact counts (facts_of lines)) p ≡ fold with_fact (map.retain_keys counts p)
    (facts_of (filter q lines))
kept_facts q p alike counts [] = grind arith
kept_facts q p alike counts (line ∷ lines) = grind (arith, fold, kept-with_fact, dropped-with_fact, kept_facts q p alike (with_fact counts (fact_of line)) lines)

no_entry : (b : Bool) (old : Option ℕ) → old ≡ None → cond b old None ≡ None
no_entry true old e = e
no_entry false old e = refl

kept_empty : (p : Fact → Bool) → map.retain_keys (map.empty {R = fact_cmp}) p ≡ map.empty {X = ℕ}
kept_empty p = map.same_map total_order only_equal _ _
    (λ fact. get_kept p map.empty fact ∙ no_entry (p fact) (map.get map.empty fact) (map.get-empty fact_cmp fact)
    ∙ sym (map.get-empty fact_cmp fact))

-- the counts without an order are those of the lines without it
pub counts_without-fact_counts : (key : ℕ) (lines : List LineFields)
    → counts_without key (fact_counts (facts_of lines)) ≡ fact_counts (facts_of (lines_without key lines))
counts_without-fact_counts key lines =
    let p : Fact → Bool = λ fact. not (eqb fact.order_key key) in
    kept_facts (λ line. not (is_of key line)) p (λ line. refl) map.empty lines
    ∙ ap (λ m. fold with_fact m (facts_of (lines_without key lines))) (kept_empty p)

-- the counts of more lines
fact_counts-append : (lines order : List LineFields) → fold with_fact (fact_counts (facts_of lines))
    (facts_of order) ≡ fact_counts (facts_of (lines ++ order))
fact_counts-append lines order = grind (arith, map-append, fold-append)

pub counts_after_action-fact_counts : (lines : List LineFields) (action : Action)
    → counts_after_action (fact_counts (facts_of lines)) action ≡ fact_counts
    (facts_of (lines_after_action lines action))
counts_after_action-fact_counts lines (Add order) = grind (arith, fact_counts-append)
counts_after_action-fact_counts lines (Amend order) = grind (arith, fold, counts_without-fact_counts, fact_counts-append)
counts_after_action-fact_counts lines (Put order) = grind (arith, fold, counts_without-fact_counts, fact_counts-append)
counts_after_action-fact_counts lines (Withdraw key) = grind (arith, counts_without-fact_counts)

pub counts_after-all : (lines : List LineFields) (actions : List Action)
    → fold counts_after_action (fact_counts (facts_of lines)) actions ≡ fact_counts
    (facts_of (lines_after_refresh lines actions))
counts_after-all lines [] = refl
counts_after-all lines (action ∷ actions) = ap (λ m. fold counts_after_action m actions)
    (counts_after_action-fact_counts lines action) ∙ counts_after-all (lines_after_action lines action) actions

-- the lines after one commit more
pub lines_after-push : (base : Tables) (history : List CommitRecord) (commit : CommitRecord)
    → lines_after base (history ++ commit ∷ []) ≡ lines_after_refresh (lines_after base history) commit.actions
lines_after-push base history commit = grind (arith, fold-append)

-- the state after one commit more
pub state_after-state_of : (base : Tables) (history : List CommitRecord) (commit : CommitRecord)
    → state_after (state_of base history) commit ≡ state_of base (history ++ commit ∷ [])
state_after-state_of base history commit = grind (arith, length-append, fold, counts_after-all, lines_after-push)

-- several commits more
pub state_after-all : (base : Tables) (history more : List CommitRecord)
    → fold state_after (state_of base history) more ≡ state_of base (history ++ more)
state_after-all base history [] = grind (arith, append-nil)
state_after-all base history (commit ∷ more) = grind (arith, fold, state_after-state_of, append_assoc, state_after-all base (history ++ commit ∷ []) more)
