-- Which question has too many groups.
use Rattle.std.proofs.Common.{ℕ, suc, ◌≡◌, ◌+◌, ◌≤◌, Bool, true, false, cond, not, Some, None, List, [], ◌∷◌, length}
use Rattle.std.proofs.Common.{map, arith, ap, sym, subst, refl, Result, Ok, Err, ◌∙◌}
use Rattle.std.specs.Prelude.{nat_lt, slice_get, position}
use Rattle.std.specs.List.{All, position_or_len}
use Rattle.std.specs.Option.{option_map}
use Rattle.std.proofs.lemmas.Bool.{ltb-false}
use Rattle.std.proofs.lemmas.List.{length-map}
use Rattle.std.proofs.lemmas.List.Sums.{fails_before_first}
use Rattle.std.proofs.lemmas.Option.{slice_get-map, get_or_from_slice_get}
use Rattle.ssb_base.specs.Base.{Tables}
use Rattle.ssb_questions.specs.declared.plan.Plan.{Plan}
use Rattle.ssb_questions.specs.declared.query.Query.{Query}
use Rattle.ssb_questions.specs.declared.value.Value.{Value}
use Rattle.ssb_questions.specs.Queries.{plan_over}
use Rattle.dimension_index.specs.Classes.{reduced}
use Rattle.scan_kernel.specs.declared.masks.Masks.{Masks}
use Rattle.shared_scan.specs.Batch.{AreReady, IsReady, plans_of, questions_of}
use Rattle.shared_scan.specs.GroupCounts.{HasFewGroups, has_many_groups, most_groups}
use Rattle.shared_scan.specs.Prepared.{AreMasksOf}
use Rattle.shared_scan.specs.Standing.{has_many_numbers}
use Rattle.shared_scan.specs.declared.ready.Ready.{Ready}
use Rattle.shared_scan.specs.declared.standing_error.StandingError.{StandingError}
use Rattle.shared_scan.specs.declared.standing_error.StandingError.TheVariants.{OutOfMemory, TooManyGroups}
use Rattle.shared_scan.proofs.GroupCountLaws.{ready_counted, most_reduced}

none_of : (b : Bool) (n : ℕ) → cond b (Some n) None ≡ None → b ≡ false
none_of true n is = absurd (cc)
none_of false n is = refl

-- where none is found, all of the list stands before the first
pub none_found : {X : Type 0} (test : X → Bool) (xs : List X) → position test xs ≡ None
    → length xs ≤ position_or_len test xs
none_found test xs none = ltb-false (position_or_len test xs) (length xs)
    (none_of (nat_lt (position_or_len test xs) (length xs)) (position_or_len test xs) none)

-- where no question has many groups, each has few
pub few_unless_many : (base : Tables) (questions : List (Query × List Value))
    → position (has_many_groups base) questions ≡ None → All (HasFewGroups base) questions
few_unless_many base questions none k question below = grind (arith, ltb-false, fails_before_first, none_found)

-- the first place is found by what each element says
said_place : {X : Type 0} (test : X → Bool) (xs : List X)
    → position_or_len (λ (said : Bool). said) (map test xs) ≡ position_or_len test xs
said_place test [] = refl
said_place test (x ∷ xs) = ap (λ (n : ℕ). cond (not (test x)) (1 + n) 0) (said_place test xs)

said_position : {X : Type 0} (test : X → Bool) (xs : List X)
    → position (λ (said : Bool). said) (map test xs) ≡ position test xs
said_position test xs = λ i. cond (nat_lt (said_place test xs i) (length-map xs test i)) (Some (said_place test xs i))
    None

-- lists whose elements say the same have the same first place
pub same_position : {X Y : Type 0} (p : X → Bool) (q : Y → Bool) (xs : List X) (ys : List Y) → map p xs ≡ map q ys
    → position p xs ≡ position q ys
same_position p q xs ys same = sym (said_position p xs) ∙ ap (position (λ (said : Bool). said)) same
    ∙ said_position q ys

-- what each question that is made ready says of the number of its groups
said_of : (base : Tables) (all : List Ready)
    → ((k : ℕ) (ready : Ready) → slice_get all k ≡ Some ready → ready.groups.size ≡ most_groups base ready.question)
    → map has_many_numbers all ≡ map (has_many_groups base) (questions_of all)
said_of base [] sizes = refl
said_of base (ready ∷ all) sizes = λ i. nat_lt 65536 (sizes 0 ready refl i)
    ∷ said_of base all (λ k one at. sizes (suc k) one at) i

-- questions that are made ready over the rows that begin a class have as many groups as they may have over all rows
pub many_found : (base : Tables) (masks : Masks) (all : List Ready)
    → AreMasksOf (plans_of (questions_of all)) (reduced base).dimensions masks
    → AreReady (reduced base) masks (questions_of all) all
    → position has_many_numbers all ≡ position (has_many_groups base) (questions_of all)
many_found base masks all tell made = same_position has_many_numbers (has_many_groups base) all (questions_of all)
    (said_of base all (λ k ready at.
    let question : Query × List Value = ready.question in
    let question_at : slice_get (questions_of all) k ≡ Some question =
    slice_get-map (λ (one : Ready). one.question) all k ∙ ap (option_map (λ (one : Ready). one.question)) at in
    let plan : Query × List Value → Plan = λ one. plan_over one.0 one.1 in
    let plan_at : slice_get (plans_of (questions_of all)) k ≡ Some (plan question) =
    slice_get-map plan (questions_of all) k ∙ ap (option_map plan) question_at in
    let own : IsReady (reduced base) masks k question ready =
    subst (λ (one : Ready). IsReady (reduced base) masks k question one) (get_or_from_slice_get all k ready ready at)
    (made k question ready question_at) in
    ready_counted (reduced base) masks (plans_of (questions_of all)) tell (plan question) k plan_at question ready refl
    own ∙ most_reduced base question))

place_in : {A : Type 0} → Result A StandingError → ℕ
place_in (Ok made) = 0
place_in (Err OutOfMemory) = 0
place_in (Err (TooManyGroups place)) = place

-- one error tells one place
pub same_place : {A : Type 0} (m n : ℕ)
    → ◌≡◌ {A = Result A StandingError} (Err (TooManyGroups m)) (Err (TooManyGroups n)) → m ≡ n
unfolding place_in
same_place m n same = ap place_in same
