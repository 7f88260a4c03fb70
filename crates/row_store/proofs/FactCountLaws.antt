-- How often each fact counts: after one fact more, after a list of facts, and without an order.
use Rattle.std.proofs.Common.{◌≡◌, ℕ, zero, suc, ◌+◌, ◌<◌, Bool, true, false, cond, eqb, List, [], ◌∷◌, fold}
use Rattle.std.proofs.Common.{unwrap_or, Option, Some, None, sym, refl, ap, ◌∙◌, arith}
use Rattle.std.specs.List.{count_by}
use Rattle.std.specs.Ordering.{is_eq}
use Rattle.std.specs.FinMap as map
use Rattle.std.proofs.lemmas.Cmp.{tied_itself}
use Rattle.std.proofs.lemmas.List.Sums.{sum_by-cons, fold-append}
use Rattle.std.proofs.lemmas.List.Sorted.{sum_by-IsPermutation}
use Rattle.ssb_schema.specs.declared.fact.Fact.{Fact}
use Rattle.row_store.specs.State.{Counts, fact_cmp, is_same, occurrences, count_of, with_fact, counts_without}
use Rattle.row_store.specs.Laws.{SameFactsAreEqual, CountsTellOccurrences, OneFactCountsOnce, WithoutAnOrder}
use Rattle.row_store.specs.Laws.{AppendedFactsCount, FactsCommute, RearrangedCountEqual}
use Rattle.row_store.proofs.StateLaws.{total_order, only_equal, tied, get_kept}

pub same_facts_are_equal : SameFactsAreEqual
same_facts_are_equal fact other = (
  tied (fact_cmp fact other) fact other refl,
  λ e. ap (is_same fact) (sym e)
      ∙ ap is_eq (tied_itself total_order fact),
)

-- counts that have the same entries are the same
pub same_counts : (counts others : Counts) → ((fact : Fact) → map.get counts fact ≡ map.get others fact)
    → counts ≡ others
same_counts counts others = map.same_map total_order only_equal counts others

-- an entry after one fact more
abbrev pub more : Bool → Option ℕ → Option ℕ
more true old = Some (unwrap_or old 0 + 1)
more false old = old

more_at : (b : Bool) (counts : Counts) (k fact : Fact) → (b ≡ true → fact ≡ k)
    → cond b (Some (count_of counts k + 1)) (map.get counts fact) ≡ more b (map.get counts fact)
more_at true counts k fact is = ap (λ f. Some (count_of counts f + 1)) (sym (is refl))
more_at false counts k fact is = refl

pub get_with_fact : (counts : Counts) (k fact : Fact) → map.get (with_fact counts k) fact ≡ more (is_same fact k)
    (map.get counts fact)
get_with_fact counts k fact = map.get-insert total_order counts k (count_of counts k + 1) fact
    ∙ more_at (is_same fact k) counts k fact (tied (fact_cmp fact k) fact k refl)

count_more : (b : Bool) (old : Option ℕ) → unwrap_or (more b old) 0 ≡ unwrap_or old 0 + cond b 1 0
count_more true old = refl
count_more false old = omega arith

pub one_fact_counts_once : OneFactCountsOnce
one_fact_counts_once counts fact other = grind (arith, unwrap_or, get_with_fact, count_more)

more_twice : (a b : Bool) (old : Option ℕ) → more a (more b old) ≡ more b (more a old)
more_twice true true old = refl
more_twice true false old = refl
more_twice false true old = refl
more_twice false false old = refl

pub facts_commute : FactsCommute
facts_commute counts fact other = same_counts _ _ (λ x.
    get_with_fact (with_fact counts fact) other x
    ∙ ap (more (is_same x other)) (get_with_fact counts fact x)
    ∙ more_twice (is_same x other) (is_same x fact) (map.get counts x)
    ∙ ap (more (is_same x fact)) (sym (get_with_fact counts other x))
    ∙ sym (get_with_fact (with_fact counts other) fact x))

-- a fact that is counted first may as well be counted last
pub counted_last : (counts : Counts) (fact : Fact) (facts : List Fact)
    → fold with_fact (with_fact counts fact) facts ≡ with_fact (fold with_fact counts facts) fact
counted_last counts fact [] = refl
counted_last counts fact (first ∷ facts) = ap (λ m. fold with_fact m facts) (facts_commute counts fact first)
    ∙ counted_last (with_fact counts first) fact facts

-- an entry after so many facts more
abbrev pub again : ℕ → Option ℕ → Option ℕ
again zero old = old
again (suc n) old = Some (unwrap_or old 0 + suc n)

again_none : (n : ℕ) (old : Option ℕ) → unwrap_or (again n old) 0 ≡ unwrap_or old 0 + n
again_none zero old = omega arith
again_none (suc n) old = refl

again_some : (n : ℕ) (old : Option ℕ) → 0 < n → again n old ≡ Some (unwrap_or old 0 + n)
again_some zero old some = absurd (omega (arith, some))
again_some (suc n) old some = refl

again_more : (b : Bool) (n : ℕ) (old : Option ℕ) → again n (more b old) ≡ again (cond b 1 0 + n) old
again_more true zero old = refl
again_more true (suc n) old = ap Some (omega arith) ∙ sym (again_some (1 + suc n) old (omega arith))
again_more false n old = ap (λ m. again m old) (omega arith)

pub count_cons : {X : Type 0} (p : X → Bool) (x : X) (xs : List X) → count_by p (x ∷ xs) ≡ cond (p x) 1 0
    + count_by p xs
count_cons p x xs = sum_by-cons (λ y. cond (p y) 1 0) x xs

pub get_counted : (counts : Counts) (facts : List Fact) (fact : Fact)
    → map.get (fold with_fact counts facts) fact ≡ again (occurrences fact facts) (map.get counts fact)
get_counted counts [] fact = refl
get_counted counts (k ∷ facts) fact =
    get_counted (with_fact counts k) facts fact
    ∙ ap (again (occurrences fact facts)) (get_with_fact counts k fact)
    ∙ again_more (is_same fact k) (occurrences fact facts) (map.get counts fact)
    ∙ ap (λ n. again n (map.get counts fact)) (sym (count_cons (is_same fact) k facts))

-- a count after a list of facts more
pub counted : (counts : Counts) (facts : List Fact) (fact : Fact)
    → count_of (fold with_fact counts facts) fact ≡ count_of counts fact + occurrences fact facts
counted counts facts fact = grind (arith, unwrap_or, get_counted, again_none)

pub counts_tell_occurrences : CountsTellOccurrences
counts_tell_occurrences facts fact =
    let none : count_of map.empty fact ≡ 0 = ap (λ o. unwrap_or o 0) (map.get-empty fact_cmp fact) in
    omega (arith, none, counted map.empty facts fact)

pub appended_facts_count : AppendedFactsCount
appended_facts_count facts more = sym (fold-append with_fact map.empty facts more)

-- the entry of a fact where an order goes
pub get_counts_without : (key : ℕ) (counts : Counts) (fact : Fact)
    → map.get (counts_without key counts) fact ≡ cond (eqb fact.order_key key) None (map.get counts fact)
get_counts_without key counts fact = grind (arith, get_kept, eqb)

pub without_an_order : WithoutAnOrder
without_an_order key counts fact = grind (arith, unwrap_or, get_counts_without, eqb)

pub rearranged_count_equal : RearrangedCountEqual
rearranged_count_equal facts others moved = grind (arith, same_counts, get_counted, sum_by-IsPermutation)
