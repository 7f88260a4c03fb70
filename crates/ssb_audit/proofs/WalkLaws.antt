-- The walk over the commits, batch by batch.
use Rattle.std.proofs.Common.{◌≡◌, ℕ, zero, suc, ◌+◌, ◌-◌, ◌<◌, ◌≤◌, ◌⊎◌, inl, inr, min, Bool, true, false, List, []}
use Rattle.std.proofs.Common.{◌∷◌, length, take, drop, get_or, refl, ap, sym, subst, ◌∙◌, arith, zero-add}
use Rattle.std.specs.Prelude.{Option, Some, slice_get, slice_index_or, if◌then◌else◌, All, IsPermutation}
use Rattle.std.specs.Option.{option_map}
use Rattle.std.specs.List.{AllWithin}
use Rattle.std.proofs.lemmas.Option.{slice_get-map, slice_get_within, slice_get-get_or, get_or_from_slice_get}
use Rattle.std.proofs.Math.Nat.{eq-or-lt_of_le}
use Rattle.std.proofs.lemmas.Bool.{cases_lt}
use Rattle.ssb_base.specs.Base.{Tables}
use Rattle.ssb_schema.specs.Facts.{facts_of}
use Rattle.ssb_questions.specs.declared.query.Query.{Query}
use Rattle.ssb_questions.specs.declared.value.Value.{Value}
use Rattle.ssb_answers.specs.Answer.{answer_of}
use Rattle.ssb_answers.specs.declared.answer.Rows.{Rows}
use Rattle.row_store.specs.History.{CommitRecord, lines_after}
use Rattle.shared_scan.specs.Answers.{answers_after}
use Rattle.ssb_audit.specs.Traces.{rows_after}
use Rattle.ssb_audit.specs.Visits.{visits_of, IsIn, AreAsked, has_rows, has_its_rows, IsOther, IsFirstOther, IsWrongOf}
use Rattle.ssb_audit.specs.Visits.{IsFirstWrongOf, IsFirstWrong}
use Rattle.ssb_audit.specs.declared.trace.Told.{Told}
use Rattle.ssb_audit.specs.declared.visits.Visit.{Visit}
use Rattle.ssb_audit.proofs.VisitLaws.{each_visited}

-- two elements at one place
pub one_at : {X : Type 0} (xs : List X) (i j : ℕ) (x y : X) → slice_get xs i ≡ Some x → slice_get xs j ≡ Some y → i ≡ j
    → x ≡ y
one_at xs i j x y first second same = let two : ◌≡◌ {A = Option _} (Some x) (Some y) =
    sym first ∙ ap (slice_get xs) same ∙ second in cc

-- the element at a place of a part of a list
pub take_at : {X : Type 0} (n : ℕ) (xs : List X) (j : ℕ) → j < n → slice_get (take n xs) j ≡ slice_get xs j
take_at zero xs j within = absurd (omega (arith, within))
take_at (suc n) [] j within = refl
take_at (suc n) (x ∷ xs) zero within = refl
take_at (suc n) (x ∷ xs) (suc j) within = take_at n xs j (omega (arith, within))

drop_at : {X : Type 0} (n : ℕ) (xs : List X) (j : ℕ) → slice_get (drop n xs) j ≡ slice_get xs (n + j)
drop_at zero xs j = ap (slice_get xs) (sym (zero-add j))
drop_at (suc n) [] j = refl
drop_at (suc n) (x ∷ xs) j = let next : suc (n + j) ≡ suc n + j = omega arith in
    drop_at n xs j ∙ ap (slice_get (x ∷ xs)) next

pub part_at : {X : Type 0} (xs : List X) (begin end j : ℕ) → j < end - begin
    → slice_get (take (end - begin) (drop begin xs)) j ≡ slice_get xs (begin + j)
part_at xs begin end j within = take_at (end - begin) (drop begin xs) j within ∙ drop_at begin xs j

part_within : {X : Type 0} (n : ℕ) (xs : List X) (j : ℕ) (x : X) → slice_get (take n xs) j ≡ Some x → j < n
part_within zero xs j x is = cc
part_within (suc n) [] j x is = cc
part_within (suc n) (y ∷ ys) zero x is = omega arith
part_within (suc n) (y ∷ ys) (suc j) x is = let less = part_within n ys j x is in omega (arith, less)

at_or_before : (i n : ℕ) → i < n + 1 → (i ≡ n) ⊎ (i < n)
at_or_before i n within = let le : i ≤ n = omega arith in eq-or-lt_of_le le

-- nothing is compared yet
pub other_none : (answers : List Told) (visits : List Visit) (found : List Rows) (limit : ℕ)
    → IsFirstOther answers visits found 0 limit limit
other_none answers visits found limit = record {
  at_most = omega arith;
  same = λ k visit told rows within. absurd (omega (arith, within));
  other = inl refl;
}

-- one visit more is compared
pub other_more : (answers : List Told) (visits : List Visit) (found : List Rows) (count limit first next : ℕ)
    (visit : Visit) (told : Told) (rows : Rows)
    → slice_get visits count ≡ Some visit → slice_get answers visit.place ≡ Some told
    → slice_get found count ≡ Some rows
    → next ≡ (if has_rows told rows.list then first else min first visit.place)
    → IsFirstOther answers visits found count limit first → IsFirstOther answers visits found (count + 1) limit next
other_more answers visits found count limit first next visit told rows visited there found_is next_is before =
    by_rows (has_rows told rows.list) refl
  where
    kept : (least : ℕ) → least ≤ first → (visit.place < least → has_rows told rows.list ≡ true)
        → (k : ℕ) (v : Visit) (t : Told) (r : Rows) → (k ≡ count) ⊎ (k < count) → slice_get visits k ≡ Some v
        → slice_get answers v.place ≡ Some t → slice_get found k ≡ Some r → v.place < least
        → has_rows t r.list ≡ true
    kept least le here k v t r (inl at) visit_is told_is rows_is less =
        let same_visit : v ≡ visit = one_at visits k count v visit visit_is visited at in
        let same_told : t ≡ told = one_at answers v.place visit.place t told told_is there
        (ap (λ (x : Visit). x.place) same_visit) in
        let same_rows : r ≡ rows = one_at found k count r rows rows_is found_is at in
        ap (λ (x : Told). has_rows x r.list) same_told ∙ ap (λ (x : Rows). has_rows told x.list) same_rows
        ∙ here (subst (λ (x : Visit). x.place < least) same_visit less)
    kept least le here k v t r (inr lt) visit_is told_is rows_is less =
        before.same k v t r lt visit_is told_is rows_is (omega (arith, le, less))

    least_of : (least : ℕ) → least ≡ min first visit.place → has_rows told rows.list ≡ false → (least ≡ limit)
        ⊎ IsOther answers visits found least
    least_of least is differs = elim (cases_lt visit.place first) [
      | inl lt ↦ let same : least ≡ visit.place = omega (arith, is, lt) in
          inr (record {
            k = count;
            visit = visit;
            told = told;
            rows = rows;
            visited = visited;
            place_is = same;
            there = there;
            found_is = found_is;
            other = differs;
          })
      | inr le ↦ let same : least ≡ first = omega (arith, is, le) in
          subst (λ p. (p ≡ limit) ⊎ IsOther answers visits found p) (sym same) before.other
    ]

    by_rows : (b : Bool) → has_rows told rows.list ≡ b → IsFirstOther answers visits found (count + 1) limit next
    by_rows true same =
        let is : next ≡ first = next_is ∙ ap (λ b. if b then first else min first visit.place) same in
        subst (IsFirstOther answers visits found (count + 1) limit) (sym is) (record {
          at_most = before.at_most;
          same = λ k v t r within. kept first (omega arith) (λ _. same) k v t r (at_or_before k count within);
          other = before.other;
        })
    by_rows false differs =
        let is : next ≡ min first visit.place = next_is
        ∙ ap (λ b. if b then first else min first visit.place) differs in
        let le : next ≤ first = omega (arith, is) in
        let past : visit.place < next → has_rows told rows.list ≡ true = λ less. absurd (omega (arith, is, less)) in
        let below : next ≤ limit = omega (arith, le, before.at_most) in
        record {
          at_most = below;
          same = λ k v t r within. kept next le past k v t r (at_or_before k count within);
          other = least_of next is differs;
        }

-- the rows that were found for a question over a history
found_at : (base : Tables) (history : List CommitRecord) (questions : List (Query × List Value)) (found : List Rows)
    (k : ℕ) (question : Query × List Value)
    → found ≡ answers_after base history questions → slice_get questions k ≡ Some question
    → slice_get found k ≡ Some (record {
      question = question;
      list = answer_of question base.dimensions (facts_of (lines_after base history));
    })
found_at base history questions found k question is asked =
    ap (λ rows. slice_get rows k) is
    ∙ slice_get-map (λ (q : Query × List Value). record {
      question = q;
      list = answer_of q base.dimensions (facts_of (lines_after base history));
    }) questions k
    ∙ ap (option_map (λ (q : Query × List Value). record {
      question = q;
      list = answer_of q base.dimensions (facts_of (lines_after base history));
    })) asked

-- where the rows that were found are those of the questions, other rows are wrong ones
pub wrong_from_other : (base : Tables) (history : List CommitRecord) (answers : List Told) (visits : List Visit)
    (questions : List (Query × List Value)) (found : List Rows) (limit place : ℕ)
    → AreAsked answers visits questions → found ≡ answers_after base history questions
    → IsFirstOther answers visits found (length visits) limit place
    → IsFirstWrongOf base history answers visits limit place
wrong_from_other base history answers visits questions found limit place asked is first =
    record { at_most = first.at_most; right = right; wrong = wrong first.other }
  where
    right : (k : ℕ) (visit : Visit) (told : Told) → slice_get visits k ≡ Some visit
        → slice_get answers visit.place ≡ Some told
        → visit.place < place → has_rows told (rows_after base history told) ≡ true
    right k visit told visited there less =
        first.same k visit told (record { question = told.question; list = rows_after base history told })
        (slice_get_within visits k visit visited) visited there
        (found_at base history questions found k told.question is (asked.each k visit told visited there)) less

    wrong : (place ≡ limit) ⊎ IsOther answers visits found place → (place ≡ limit)
        ⊎ IsWrongOf base history answers visits place
    wrong (inl none) = inl none
    wrong (inr other) =
        let same : other.rows ≡ record { question = other.told.question; list = rows_after base history other.told } =
        one_at found other.k other.k other.rows (record
        { question = other.told.question; list = rows_after base history other.told }) other.found_is
        (found_at base history questions found other.k other.told.question is
        (asked.each other.k other.visit other.told other.visited other.there)) refl in
        inr (record {
          k = other.k;
          visit = other.visit;
          told = other.told;
          visited = other.visited;
          place_is = other.place_is;
          there = other.there;
          wrong = ap (λ (r : Rows). has_rows other.told r.list) (sym same) ∙ other.other;
        })

-- of the answers of the first visits those before the place have their rows, and the one at the place has not
pub record IsWalked (base : Tables) (commits : List CommitRecord) (answers : List Told) (visits : List Visit)
    (begin first : ℕ) : Type 0 where
  pub right : (k : ℕ) (visit : Visit) (told : Told) → k < begin → slice_get visits k ≡ Some visit
      → slice_get answers visit.place ≡ Some told
      → visit.place < first → has_its_rows base commits told ≡ true
  pub wrong : (told : Told) → slice_get answers first ≡ Some told → has_its_rows base commits told ≡ false

past_last : (answers : List Told) (told : Told) → slice_get answers (length answers) ≡ Some told → ⊥
past_last answers told there = let within = slice_get_within answers (length answers) told there in
    omega (arith, within)

-- before the first visit
pub walked_none : (base : Tables) (commits : List CommitRecord) (answers : List Told) (visits : List Visit)
    → IsWalked base commits answers visits 0 (length answers)
walked_none base commits answers visits = record {
  right = λ k visit told within. absurd (omega (arith, within));
  wrong = λ told there. absurd (past_last answers told there);
}

-- the number of commits of an answer that is visited
at_of : (answers : List Told) (visit : Visit) (told : Told) → IsIn answers visit
    → slice_get answers visit.place ≡ Some told → told.at ≡ visit.at
at_of answers visit told is there = ap (λ (t : Told). t.at)
    (one_at answers visit.place visit.place told is.told there is.there refl) ∙ sym is.at_is

-- and a batch more
pub walked_more : (base : Tables) (commits : List CommitRecord) (answers : List Told) (visits : List Visit)
    (begin end at first next : ℕ)
    → All (IsIn answers) visits → ((k : ℕ) (visit : Visit) → begin ≤ k → k < end → slice_get visits k ≡ Some visit
    → visit.at ≡ at)
    → IsWalked base commits answers visits begin first
    → IsFirstWrongOf base (take at commits) answers (take (end - begin) (drop begin visits)) first next
    → IsWalked base commits answers visits end next
walked_more base commits answers visits begin end at first next are_in same before batch = record {
  right = λ k visit told within visited there less. right k visit told within visited there less (cases_lt k begin);
  wrong = λ told there. wrong batch.wrong told there;
}
  where
    is_in : (k : ℕ) (visit : Visit) → slice_get visits k ≡ Some visit → IsIn answers visit
    is_in k visit visited = subst (IsIn answers) (get_or_from_slice_get visits k visit visit visited)
        (are_in k visit (slice_get_within visits k visit visited))

    its_rows : (visit : Visit) (told : Told) (b : Bool) → IsIn answers visit → slice_get answers visit.place ≡ Some told
        → visit.at ≡ at
        → has_rows told (rows_after base (take at commits) told) ≡ b → has_its_rows base commits told ≡ b
    its_rows visit told b is there is_at has = ap (λ n. has_rows told (rows_after base (take n commits) told))
        (at_of answers visit told is there ∙ is_at) ∙ has

    right : (k : ℕ) (visit : Visit) (told : Told) → k < end → slice_get visits k ≡ Some visit
        → slice_get answers visit.place ≡ Some told
        → visit.place < next → (k < begin) ⊎ (begin ≤ k) → has_its_rows base commits told ≡ true
    right k visit told within visited there less (inl lt) =
        before.right k visit told lt visited there (omega (arith, less, batch.at_most))
    right k visit told within visited there less (inr le) =
        let j : k - begin < end - begin = omega (arith, within, le) in
        let place : begin + (k - begin) ≡ k = omega (arith, le) in
        its_rows visit told true (is_in k visit visited) there (same k visit le within visited)
        (batch.right (k - begin) visit told (part_at visits begin end (k - begin) j ∙ ap (slice_get visits) place
        ∙ visited) there less)

    wrong : (next ≡ first) ⊎ IsWrongOf base (take at commits) answers (take (end - begin) (drop begin visits)) next
        → (told : Told) → slice_get answers next ≡ Some told → has_its_rows base commits told ≡ false
    wrong (inl is) told there = before.wrong told (ap (slice_get answers) (sym is) ∙ there)
    wrong (inr other) told there =
        let j = part_within (end - begin) (drop begin visits) other.k other.visit other.visited in
        let visited : slice_get visits (begin + other.k) ≡ Some other.visit =
        sym (part_at visits begin end other.k j) ∙ other.visited in
        let same_told : told ≡ other.told = one_at answers next other.visit.place told other.told there other.there
        other.place_is in
        ap (has_its_rows base commits) same_told
        ∙ its_rows other.visit other.told false (is_in (begin + other.k) other.visit visited) other.there
        (same (begin + other.k) other.visit (omega arith) (omega (arith, j)) visited) other.wrong

-- after the last visit
pub walked_all : (base : Tables) (commits : List CommitRecord) (answers : List Told) (visits : List Visit)
    (begin first : ℕ)
    → IsPermutation (visits_of answers) visits → length visits ≤ begin
    → IsWalked base commits answers visits begin first → IsFirstWrong base commits answers first
walked_all base commits answers visits begin first each all walked = record { right = right; wrong = walked.wrong }
  where
    right : (i : ℕ) (told : Told) → i < first → slice_get answers i ≡ Some told → has_its_rows base commits told ≡ true
    right i told less there =
        let (k, within, is) = each_visited answers visits i told each there in
        let visited : slice_get visits k ≡ Some (record { at = told.at; place = i }) =
        slice_get-get_or visits k (record { at = told.at; place = i }) within ∙ ap Some is in
        walked.right k (record { at = told.at; place = i }) told (omega (arith, within, all)) visited there less

-- a visit is after no more commits than there are, where the answers are
pub visit_within : (answers : List Told) (visits : List Visit) (n k : ℕ) (d : Visit) → All (IsIn answers) visits
    → All (λ told. told.at ≤ n) answers → k < length visits → (get_or visits k d).at ≤ n
visit_within answers visits n k d are_in all lt =
    let is = are_in k d lt in
    let place = (get_or visits k d).place in
    let le : is.told.at ≤ n = subst (λ (t : Told). t.at ≤ n)
    (get_or_from_slice_get answers place is.told is.told is.there)
    (all place is.told (slice_get_within answers place is.told is.there)) in
    omega (arith, is.at_is, le)

-- the visit at a place, whatever is read past the end
pub same_read : (visits : List Visit) (k : ℕ) (d other : Visit) → k < length visits
    → get_or visits k other ≡ get_or visits k d
same_read visits k d other lt = get_or_from_slice_get visits k (get_or visits k d) other
    (slice_get-get_or visits k d lt)

-- a batch of visits, as the first of them
pub batch_at : (visits : List Visit) (begin end : ℕ) (d : Visit)
    → ((first : Visit) → AllWithin (λ visit. visit.at ≡ (slice_index_or visits begin first).at) visits begin end)
    → (k : ℕ) (visit : Visit) → begin ≤ k → k < end → slice_get visits k ≡ Some visit
    → visit.at ≡ (get_or visits begin d).at
batch_at visits begin end d same k visit le lt visited =
    ap (λ (v : Visit). v.at) (sym (get_or_from_slice_get visits k visit visit visited)) ∙ same d k visit le lt
