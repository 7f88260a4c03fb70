-- Of questions that are kept once, the first that passes a test is the first of all that were asked for.
use Rattle.std.proofs.Common.{ℕ, zero, suc, ◌≡◌, ◌+◌, ◌<◌, Bool, true, false, cond, not, None, Option, Some, List, []}
use Rattle.std.proofs.Common.{◌∷◌, ◌++◌, length, get_or, take, drop, append_assoc, arith, refl, sym, ap, ◌∙◌}
use Rattle.std.specs.Prelude.{position, fold, is_some, nat_lt, ◌||◌}
use Rattle.std.specs.List.{All, position_or_len}
use Rattle.std.proofs.lemmas.Bool.{ltb-false, le-ltb, lt-ltb}
use Rattle.std.proofs.lemmas.List.{append-nil, take-append-drop}
use Rattle.std.proofs.lemmas.List.Sums.{fold_more}
use Rattle.std.proofs.lemmas.List.Quantifiers.{position-Some}
use Rattle.std.proofs.lemmas.Option.{same_Some}
use Rattle.ssb_base.specs.Base.{Tables}
use Rattle.ssb_questions.specs.QuestionEq.{question_eq}
use Rattle.ssb_questions.specs.declared.query.Query.{Query}
use Rattle.ssb_questions.specs.declared.value.Value.{Value}
use Rattle.ssb_questions.proofs.QuestionLaws.{question_Decides}
use Rattle.shared_scan.specs.GroupCounts.{HasFewGroups, IsFirstOfMany, has_many_groups, most_groups}
use Rattle.standing_columns.specs.Standing.{is_among, with_question, each_once, place_of}

never : {X : Type 0} → true ≡ false → X
never e = absurd (cc)

equal : (q : Query × List Value) → question_eq q q ≡ true
equal q = (question_Decides q q).1 refl

same : (p q : Query × List Value) → question_eq p q ≡ true → p ≡ q
same p q e = (question_Decides p q).0 e

module _ (test : Query × List Value → Bool) where
  -- the first that passes
  abbrev pub first : List (Query × List Value) → Option (Query × List Value)
  first [] = None
  first (question ∷ questions) = cond (test question) (Some question) (first questions)

  -- one that does not pass changes nothing
  skipped : (kept rest : List (Query × List Value)) (question : Query × List Value) → test question ≡ false
      → first (kept ++ rest) ≡ first (kept ++ question ∷ rest)
  skipped [] rest question fails = ap (λ (b : Bool). cond b (Some question) (first rest)) (sym fails)
  skipped (one ∷ kept) rest question fails =
      ap (λ (o : Option (Query × List Value)). cond (test one) (Some one) o) (skipped kept rest question fails)

  -- nor does one that is equal to one before it
  repeated : (kept rest : List (Query × List Value)) (question : Query × List Value) → is_among kept question ≡ true
      → first (kept ++ rest) ≡ first (kept ++ question ∷ rest)
  repeated [] rest question among = never (sym among)
  repeated (one ∷ kept) rest question among =
      step (question_eq one question) (test one) refl refl among (λ later. repeated kept rest question later)
    where
      step : (e t : Bool) → question_eq one question ≡ e → test one ≡ t → (e || is_among kept question) ≡ true
          → (is_among kept question ≡ true → first (kept ++ rest) ≡ first (kept ++ question ∷ rest))
          → cond (test one) (Some one) (first (kept ++ rest))
          ≡ cond (test one) (Some one) (first (kept ++ question ∷ rest))
      step e true is passes among later =
          ap (λ (b : Bool). cond b (Some one) (first (kept ++ rest))) passes
          ∙ ap (λ (b : Bool). cond b (Some one) (first (kept ++ question ∷ rest))) (sym passes)
      step true false is passes among later =
          ap (λ (o : Option (Query × List Value)). cond (test one) (Some one) o)
          (skipped kept rest question (ap test (sym (same one question is)) ∙ passes))
      step false false is passes among later =
          ap (λ (o : Option (Query × List Value)). cond (test one) (Some one) o) (later among)

  folded : (kept asked : List (Query × List Value)) → first (fold with_question kept asked) ≡ first (kept ++ asked)
  folded kept [] = ap first (sym (append-nil kept))
  folded kept (question ∷ asked) = folded (with_question kept question) asked
      ∙ step (is_among kept question) refl
    where
      step : (b : Bool) → is_among kept question ≡ b
          → first (cond b kept (kept ++ question ∷ []) ++ asked) ≡ first (kept ++ question ∷ asked)
      step true among = repeated kept asked question among
      step false among = ap first (append_assoc kept (question ∷ []) asked)

  pub first_once : (asked : List (Query × List Value)) → first (each_once asked) ≡ first asked
  first_once asked = folded [] asked

  -- where none passes there is no first
  none_passes : (questions : List (Query × List Value)) → first questions ≡ None
      → All (λ question. test question ≡ false) questions
  none_passes [] none k d below = absurd (omega (arith, below))
  none_passes (question ∷ questions) none k d below =
      step (test question) refl none (none_passes questions) k below
    where
      step : (b : Bool) → test question ≡ b → cond b (Some question) (first questions) ≡ None
          → (first questions ≡ None → All (λ one. test one ≡ false) questions) → (k : ℕ)
          → k < length (question ∷ questions) → test (get_or (question ∷ questions) k d) ≡ false
      step true is found rest k below = absurd (cc)
      step false is found rest zero below = is
      step false is found rest (suc k) below = rest found k d (omega (arith, below))

  pub first_behind : (kept rest : List (Query × List Value)) → All (λ question. test question ≡ false) kept
      → first (kept ++ rest) ≡ first rest
  first_behind [] rest fail = refl
  first_behind (question ∷ kept) rest fail =
      ap (λ (b : Bool). cond b (Some question) (first (kept ++ rest))) (fail 0 question (omega arith))
      ∙ first_behind kept rest (λ k d below. fail (suc k) d (omega (arith, below)))

  -- the first that passes stands at the first place of one that passes
  pub first_at : (questions rest : List (Query × List Value)) (n : ℕ) (d : Query × List Value) → n < length questions
      → test (get_or questions n d) ≡ true → ((k : ℕ) → k < n → test (get_or questions k d) ≡ false)
      → first (questions ++ rest) ≡ Some (get_or questions n d)
  first_at [] rest n d below passes before = absurd (omega (arith, below))
  first_at (question ∷ questions) rest zero d below passes before =
      ap (λ (b : Bool). cond b (Some question) (first (questions ++ rest))) passes
  first_at (question ∷ questions) rest (suc n) d below passes before =
      ap (λ (b : Bool). cond b (Some question) (first (questions ++ rest))) (before 0 (omega arith))
      ∙ first_at questions rest n d (omega (arith, below)) passes (λ k less. before (suc k) (omega (arith, less)))

  first_passes : (questions : List (Query × List Value)) (question : Query × List Value)
      → first questions ≡ Some question → test question ≡ true
  first_passes [] question is = absurd (cc)
  first_passes (one ∷ questions) question is = step (test one) refl is (first_passes questions question)
    where
      step : (b : Bool) → test one ≡ b → cond b (Some one) (first questions) ≡ Some question
          → (first questions ≡ Some question → test question ≡ true) → test question ≡ true
      step true passes found rest = ap test (sym (same_Some one question found)) ∙ passes
      step false passes found rest = rest found

  -- the first place of an equal one is the first place of one that passes
  places : (questions : List (Query × List Value)) (question : Query × List Value) → first questions ≡ Some question
      → position_or_len (λ other. question_eq other question) questions ≡ position_or_len test questions
  places [] question is = refl
  places (one ∷ questions) question is = step (test one) (question_eq one question) refl refl is
      (places questions question)
    where
      rest_of : (Query × List Value → Bool) → ℕ
      rest_of other = position_or_len other questions

      step : (t e : Bool) → test one ≡ t → question_eq one question ≡ e
          → cond t (Some one) (first questions) ≡ Some question
          → (first questions ≡ Some question → rest_of (λ other. question_eq other question) ≡ rest_of test)
          → cond (not (question_eq one question)) (1 + rest_of (λ other. question_eq other question)) 0
          ≡ cond (not (test one)) (1 + rest_of test) 0
      step true true passes is found rest =
          ap (λ (b : Bool). cond (not b) (1 + rest_of (λ other. question_eq other question)) 0) is
          ∙ ap (λ (b : Bool). cond (not b) (1 + rest_of test) 0) (sym passes)
      step true false passes is found rest =
          never (sym (ap (λ (q : Query × List Value). question_eq q question) (same_Some one question found)
          ∙ equal question) ∙ is)
      step false true passes is found rest =
          never (sym (first_passes questions question found) ∙ ap test (sym (same one question is)) ∙ passes)
      step false false passes is found rest =
          ap (λ (b : Bool). cond (not b) (1 + rest_of (λ other. question_eq other question)) 0) is
          ∙ ap (λ (n : ℕ). 1 + n) (rest found)
          ∙ ap (λ (b : Bool). cond (not b) (1 + rest_of test) 0) (sym passes)

  pub same_place : (questions : List (Query × List Value)) (question : Query × List Value)
      → first questions ≡ Some question → place_of questions question ≡ position test questions
  same_place questions question is =
      ap (λ (n : ℕ). cond (nat_lt n (length questions)) (Some n) None) (places questions question is)

  within : (questions : List (Query × List Value)) (question : Query × List Value) → first questions ≡ Some question
      → position_or_len test questions < length questions
  within [] question is = absurd (cc)
  within (one ∷ questions) question is = step (test one) refl is (within questions question)
    where
      step : (b : Bool) → test one ≡ b → cond b (Some one) (first questions) ≡ Some question
          → (first questions ≡ Some question → position_or_len test questions < length questions)
          → cond (not (test one)) (1 + position_or_len test questions) 0 < length (one ∷ questions)
      step true passes found rest =
          omega (arith, ap (λ (b : Bool). cond (not b) (1 + position_or_len test questions) 0) passes)
      step false passes found rest =
          omega (arith, rest found, ap (λ (b : Bool). cond (not b) (1 + position_or_len test questions) 0) passes)

  -- there is such a place
  pub first_placed : (questions : List (Query × List Value)) (question : Query × List Value)
      → first questions ≡ Some question → is_some (place_of questions question) ≡ true
  first_placed questions question is =
      let n : ℕ = position_or_len test questions in
      ap is_some (same_place questions question is)
      ∙ ap (λ (b : Bool). is_some (cond b (Some n) None)) (lt-ltb n (length questions) (within questions question is))

-- that each has few groups, said as a test
few_fail : (base : Tables) (questions : List (Query × List Value)) → All (HasFewGroups base) questions
    → All (λ question. has_many_groups base question ≡ false) questions
few_fail base questions few k d below = le-ltb 65536 (most_groups base (get_or questions k d)) (few k d below)

pub few_asked : (base : Tables) (asked : List (Query × List Value)) → All (HasFewGroups base) (each_once asked)
    → All (HasFewGroups base) asked
few_asked base asked few k d below =
    let test : Query × List Value → Bool = has_many_groups base in
    let none : first test (each_once asked) ≡ None = ap (first test) (sym (append-nil (each_once asked)))
    ∙ first_behind test (each_once asked) [] (few_fail base (each_once asked) few) in
    ltb-false 65536 (most_groups base (get_or asked k d))
    (none_passes test asked (sym (first_once test asked) ∙ none) k d below)

-- the question of a batch that has many groups, where none before it has, is the first that was asked for
pub first_refused : (base : Tables) (asked done rest batch later : List (Query × List Value)) (n number : ℕ)
    (refused : Query × List Value) → batch ≡ take n rest → later ≡ drop n rest → done ++ rest ≡ each_once asked
    → All (HasFewGroups base) done → IsFirstOfMany base batch number → refused ≡ get_or batch number refused
    → first (has_many_groups base) asked ≡ Some refused
first_refused base asked done rest batch later n number refused front back once few many is =
    let test : Query × List Value → Bool = has_many_groups base in
    let parted : batch ++ later ≡ rest = (λ i. front i ++ back i) ∙ take-append-drop n rest in
    let found = position-Some test batch number refused many in
    sym (first_once test asked) ∙ ap (first test) (sym once) ∙ ap (λ l. first test (done ++ l)) (sym parted)
    ∙ first_behind test done (batch ++ later) (few_fail base done few)
    ∙ first_at test batch later number refused found.0 found.1 found.2 ∙ ap Some (sym is)

-- one question more, which is kept unless an equal one is among them
pub once_more : (asked kept more : List (Query × List Value)) (i : ℕ) (question : Query × List Value) (among : Bool)
    → i < length asked → question ≡ get_or asked i question → kept ≡ fold with_question [] (take i asked)
    → among ≡ is_among kept question → more ≡ cond among kept (kept ++ question ∷ [])
    → more ≡ fold with_question [] (take (i + 1) asked)
once_more asked kept more i question among below is before told grown =
    grown ∙ ap (λ (b : Bool). cond b kept (kept ++ question ∷ [])) told ∙ (λ j. with_question (before j) (is j))
    ∙ sym (fold_more with_question [] asked i question below)
