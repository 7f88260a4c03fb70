use Rattle.std.proofs.Common.{arith}
-- Rows that hold each group's sum, sorted, are the answer; and the answer says what the subject asks of it.
use Rattle.std.proofs.Common.{◌≡◌, ◌≢◌, List, [], ◌∷◌, length, map, Bool, true, false, cond, Option, Some, sym, refl}
use Rattle.std.proofs.Common.{ap, ◌∙◌, subst, inl, inr}
use Rattle.std.specs.Prelude.{ℤ, filter, IsPermutation}
use Rattle.std.specs.List.{AllByRecursion}
use Rattle.std.specs.List.Sorted.{IsStrictlySortedBy, IsSorted}
use Rattle.std.specs.Map.{lookup}
use Rattle.std.proofs.lemmas.List.{length-map}
use Rattle.std.specs.declared.cmp.Ordering.TheVariants.{Less, Equal}
use Rattle.std.specs.Ordering.{is_eq}
use Rattle.std.specs.Cmp.{tied_itself, tied_back}
use Rattle.ssb_schema.specs.declared.column.Column.{Column}
use Rattle.ssb_questions.specs.declared.value.Value.{Value}
use Rattle.ssb_answers.specs.declared.answer.ResultRow.{ResultRow}
use Rattle.ssb_questions.specs.declared.plan.Measure.{Measure}
use Rattle.ssb_questions.specs.declared.plan.Plan.{Plan}
use Rattle.ssb_questions.specs.Members.{Has}
use Rattle.ssb_answers.specs.Ordered.{in_order}
use Rattle.ssb_answers.specs.Combination.{Combination, value_at}
use Rattle.ssb_answers.specs.Answer.{sum_over, in_group, group_of, groups_cmp, groups_among, row_of, row_cmp, rows_over}
use Rattle.ssb_questions.specs.Plan.{OrdersAllGroups}
use Rattle.ssb_answers.specs.Totals.{row_from}
use Rattle.ssb_questions.specs.Plan.{IsGrouped}
use Rattle.ssb_answers.specs.Laws.{ListsGroups, HaveDistinctGroups}
use Rattle.ssb_answers.proofs.OrderedLaws.{in_order_is, in_order-same_members, has_from_in_order, has_in_order}
use Rattle.ssb_answers.proofs.OrderedLaws.{sorted_in_order}
use Rattle.ssb_answers.proofs.OrderLaws.{tied_by_test, test_of_apart, groups_cmp_total, groups_cmp-same}
use Rattle.ssb_answers.proofs.OrderLaws.{row_cmp_total, same_groups_from_tie}
use Rattle.ssb_answers.proofs.MemberLaws.{all_at, has_map, has_from_map, has_filter, same_members_permutation}
use Rattle.ssb_answers.proofs.PermutationLaws.{NoTies, strict_from_sort}

pub some_sum : (measure : Measure) (found : List Combination) (c : Combination) → Has found c → (sum : ℤ)
    × (sum_over measure found ≡ Some sum)
some_sum measure [] c h = absurd h
some_sum measure (x ∷ xs) c h = (_, refl)

module _ (plan : Plan) where
  -- the combinations of a group have it as theirs
  pub member_from_sum : (found : List Combination) (groups : List Value) (sum : ℤ)
      → sum_over plan.measure (in_group plan groups found) ≡ Some sum → (c : Combination) × Has found c
      × (group_of plan c ≡ groups)
  member_from_sum [] groups sum e = cc
  member_from_sum (x ∷ xs) groups sum e =
      elim (is_eq (groups_cmp (group_of plan x) groups)) as (λ b. is_eq (groups_cmp (group_of plan x) groups) ≡ b
      → sum_over plan.measure (cond b (x ∷ in_group plan groups xs) (in_group plan groups xs)) ≡ Some sum
      → (c : Combination) × Has (x ∷ xs) c × (group_of plan c ≡ groups)) [
        | true ↦ λ t _. (x, inl refl, groups_cmp-same _ _ (tied_by_test _ t))
        | false ↦ λ _ s. let rest = member_from_sum xs groups sum s in (rest.0, inr rest.1, rest.2)
      ] refl e

  sum_from_member : (found : List Combination) (c : Combination) → Has found c → (sum : ℤ)
      × (sum_over plan.measure (in_group plan (group_of plan c) found) ≡ Some sum)
  sum_from_member found c h =
      some_sum plan.measure _ c (has_filter _ found c (ap is_eq (tied_itself groups_cmp_total (group_of plan c))) h)

-- no two entries are of one group
abbrev pub DistinctGroups : List (List Value × ℤ) → Type 0
DistinctGroups [] = Unit {0}
DistinctGroups ((groups, sum) ∷ entries) = AllByRecursion (λ e. groups_cmp groups e.0 ≢ Equal) entries
    × DistinctGroups entries

-- the sum that the entries have for a group
abbrev pub sum_at : List (List Value × ℤ) → List Value → Option ℤ
sum_at entries groups = lookup (λ other. is_eq (groups_cmp groups other)) entries

entry_from_sum : (entries : List (List Value × ℤ)) (groups : List Value) (sum : ℤ) → sum_at entries groups ≡ Some sum
    → Has entries (groups, sum)
entry_from_sum [] groups sum e = cc
entry_from_sum ((g, s) ∷ entries) groups sum e =
    elim (is_eq (groups_cmp groups g)) as (λ b. is_eq (groups_cmp groups g) ≡ b
    → cond b (Some s) (sum_at entries groups) ≡ Some sum → Has ((g, s) ∷ entries) (groups, sum)) [
      | true ↦ λ t h. inl
          (let same : groups ≡ g = groups_cmp-same _ _ (tied_by_test _ t) in let same_sum : s ≡ sum = cc in cc)
      | false ↦ λ _ h. inr (entry_from_sum entries groups sum h)
    ] refl e

sum_from_entry : (entries : List (List Value × ℤ)) (groups : List Value) (sum : ℤ) → DistinctGroups entries
    → Has entries (groups, sum) → sum_at entries groups ≡ Some sum
sum_from_entry [] groups sum d h = absurd h
sum_from_entry ((g, s) ∷ entries) groups sum d (inl e) =
    let same : groups ≡ g = ap (λ entry. entry.0) e in
    let same_sum : sum ≡ s = ap (λ entry. entry.1) e in
    let tie : is_eq (groups_cmp groups g) ≡ true = ap (λ (x : List Value). is_eq (groups_cmp x g)) same
    ∙ ap is_eq (tied_itself groups_cmp_total g) in
    ap (λ (b : Bool). cond b (Some s) (sum_at entries groups)) tie ∙ ap Some (sym same_sum)
sum_from_entry ((g, s) ∷ entries) groups sum d (inr h) =
    let apart : is_eq (groups_cmp groups g) ≡ false
    = test_of_apart _
    (λ t. all_at (λ e. groups_cmp g e.0 ≢ Equal) entries (groups, sum) d.0 h
    (tied_back groups_cmp_total groups g t)) in
    ap (λ (b : Bool). cond b (Some s) (sum_at entries groups)) apart ∙ sum_from_entry entries groups sum d.1 h

module _ (plan : Plan) (found : List Combination) where
  -- the rows of the groups that were found
  abbrev targets : List ResultRow
  targets = map (row_of plan found) (map (group_of plan) found)

  target_of : (c : Combination) → Has found c → Has targets (row_of plan found (group_of plan c))
  target_of c h = has_map (row_of plan found) (map (group_of plan) found) (group_of plan c)
      (has_map (group_of plan) found c h)

  group_behind : (z : ResultRow) → Has targets z → (c : Combination) × Has found c
      × (z ≡ row_of plan found (group_of plan c))
  group_behind z h =
      let row = has_from_map (row_of plan found) (map (group_of plan) found) z h in
      let member = has_from_map (group_of plan) found row.0 row.1 in
      (member.0, member.1, row.2 ∙ ap (row_of plan found) member.2)

  length-group : (c : Combination) → length (group_of plan c) ≡ length plan.groups
  length-group c = length-map plan.groups (λ column. value_at column c)

  module _ (orders : OrdersAllGroups plan) where
    same_from_tie : (a b : ResultRow) → length a.groups ≡ length plan.groups → length b.groups ≡ length plan.groups
        → row_cmp plan.order a b ≡ Equal → a.groups ≡ b.groups
    same_from_tie = same_groups_from_tie plan.order (length plan.groups) orders

    same_targets : (x y : ResultRow) → Has targets x → Has targets y → row_cmp plan.order x y ≡ Equal → x ≡ y
    same_targets x y in_x in_y tie =
        let c = group_behind x in_x in
        let d = group_behind y in_y in
        let length_x : length x.groups ≡ length plan.groups = ap (λ (row : ResultRow). length row.groups) c.2
        ∙ length-group c.0 in
        let length_y : length y.groups ≡ length plan.groups = ap (λ (row : ResultRow). length row.groups) d.2
        ∙ length-group d.0 in
        let groups_x : x.groups ≡ group_of plan c.0 = ap (λ (row : ResultRow). row.groups) c.2 in
        let groups_y : y.groups ≡ group_of plan d.0 = ap (λ (row : ResultRow). row.groups) d.2 in
        c.2 ∙ ap (row_of plan found) (sym groups_x ∙ same_from_tie x y length_x length_y tie ∙ groups_y) ∙ sym d.2

module _ (plan : Plan) (found : List Combination) (entries : List (List Value × ℤ)) (column : Column)
    (columns : List Column) (is_grouped : plan.groups ≡ column ∷ columns)
    (distinct : DistinctGroups entries) (sums : (groups : List Value)
    → sum_at entries groups ≡ sum_over plan.measure (in_group plan groups found)) where
  entry_row : (groups : List Value) (sum : ℤ) → Has entries (groups, sum) → (c : Combination) × Has found c
      × (group_of plan c ≡ groups) × (row_from (groups, sum) ≡ row_of plan found (group_of plan c))
  entry_row groups sum h =
      let is_sum : sum_over plan.measure (in_group plan groups found) ≡ Some sum = sym (sums groups)
      ∙ sum_from_entry entries groups sum distinct h in
      let member = member_from_sum plan found groups sum is_sum in
      (member.0, member.1, member.2, row_is member.0 member.2 is_sum)
    where
      row_is : (c : Combination) → group_of plan c ≡ groups
          → sum_over plan.measure (in_group plan groups found) ≡ Some sum
          → row_from (groups, sum) ≡ row_of plan found (group_of plan c)
      row_is c same is_sum = subst (λ (g : List Value). row_from (groups, sum) ≡ row_of plan found g) (sym same)
          (ap (λ (s : Option ℤ). record { groups = groups; sum = s }) (sym is_sum))

  entries_make_targets : (z : ResultRow) → Has (map row_from entries) z → Has (targets plan found) z
  entries_make_targets z h =
      let entry = has_from_map row_from entries z h in
      let row = entry_row entry.0.0 entry.0.1 entry.1 in
      subst (Has (targets plan found)) (sym (entry.2 ∙ row.3)) (target_of plan found row.0 row.1)

  targets_have_entries : (z : ResultRow) → Has (targets plan found) z → Has (map row_from entries) z
  targets_have_entries z h =
      let member = group_behind plan found z h in
      let sum = sum_from_member plan found member.0 member.1 in
      let entry : Has entries (group_of plan member.0, sum.0)
      = entry_from_sum entries (group_of plan member.0) sum.0 (sums (group_of plan member.0) ∙ sum.1) in
      subst (Has (map row_from entries))
      (ap (λ (s : Option ℤ). record { groups = group_of plan member.0; sum = s }) (sym sum.1) ∙ sym member.2)
      (has_map row_from entries (group_of plan member.0, sum.0) entry)

  module _ (orders : OrdersAllGroups plan) where
    length-entry : (entry : List Value × ℤ) → Has entries entry → length entry.0 ≡ length plan.groups
    length-entry entry h = let row = entry_row entry.0 entry.1 h in ap length (sym row.2)
        ∙ length-group plan found row.0

    apart_rows : (entry : List Value × ℤ) → Has entries entry → (es : List (List Value × ℤ))
        → ((e : List Value × ℤ) → Has es e → Has entries e) → AllByRecursion (λ e. groups_cmp entry.0 e.0 ≢ Equal) es
        → AllByRecursion (λ y. row_cmp plan.order (row_from entry) y ≢ Equal) (map row_from es)
    apart_rows entry h [] among apart = tt
    apart_rows entry h (e ∷ es) among apart = (
      λ tie. apart.0
          (subst (λ (g : List Value). groups_cmp entry.0 g ≡ Equal)
          (same_from_tie plan found orders (row_from entry) (row_from e) (length-entry entry h)
          (length-entry e (among e (inl refl))) tie) (tied_itself groups_cmp_total entry.0)),
      apart_rows entry h es (λ f i. among f (inr i)) apart.1,
    )

    no_ties : (es : List (List Value × ℤ)) → ((e : List Value × ℤ) → Has es e → Has entries e) → DistinctGroups es
        → NoTies (row_cmp plan.order) (map row_from es)
    no_ties [] among d = tt
    no_ties ((g, s) ∷ es) among d = (
      apart_rows (g, s) (among (g, s) (inl refl)) es (λ f i. among f (inr i)) d.0,
      no_ties es (λ f i. among f (inr i)) d.1,
    )

    -- the rows of the entries, sorted, are the plan's rows over what was found
    pub rows_from_entries : (rows : List ResultRow) → IsPermutation (map row_from entries) rows
        → IsSorted (row_cmp plan.order) rows → rows ≡ rows_over plan found
    rows_from_entries rows moved sorted =
        let members = same_members_permutation (map row_from entries) rows moved in
        let strict : IsStrictlySortedBy (row_cmp plan.order) rows
        = strict_from_sort (row_cmp_total plan.order) (map row_from entries) rows
        (no_ties entries (λ e h. h) distinct) moved sorted in
        let listed : rows ≡ in_order (row_cmp plan.order) (targets plan found) =
        in_order_is (row_cmp plan.order) (row_cmp_total plan.order) (targets plan found) rows
        (same_targets plan found orders) strict
        (record {
          forth = λ z h. entries_make_targets z (members.back z h);
          back = λ z h. members.forth z
              (targets_have_entries z h);
        }) in
        listed ∙ ap
        (λ (gs : List Column). in_order (row_cmp plan.order)
        (map (row_of plan found) (groups_among gs (group_of plan) found))) (sym is_grouped)

-- what the answer has of what was found: the sum of each group, and nothing else
module _ (plan : Plan) (found other : List Combination) (orders : OrdersAllGroups plan)
    (same : (groups : List Value)
    → sum_over plan.measure (in_group plan groups found) ≡ sum_over plan.measure (in_group plan groups other)) where
  same_row : (groups : List Value) → row_of plan found groups ≡ row_of plan other groups
  same_row groups = ap (λ (s : Option ℤ). record { groups = groups; sum = s }) (same groups)

  row_in_other : (z : ResultRow) → Has (targets plan found) z → Has (targets plan other) z
  row_in_other z h =
      let member = group_behind plan found z h in
      let sum = sum_from_member plan found member.0 member.1 in
      let twin = member_from_sum plan other (group_of plan member.0) sum.0 (sym (same (group_of plan member.0))
      ∙ sum.1) in
      subst (Has (targets plan other)) (ap (row_of plan other) twin.2 ∙ sym (same_row (group_of plan member.0))
      ∙ sym member.2) (target_of plan other twin.0 twin.1)

module _ (plan : Plan) (found other : List Combination) (orders : OrdersAllGroups plan)
    (same : (groups : List Value)
    → sum_over plan.measure (in_group plan groups found) ≡ sum_over plan.measure (in_group plan groups other)) where
  rows_in_order : (columns : List Column)
      → in_order (row_cmp plan.order) (map (row_of plan found) (groups_among columns (group_of plan) found))
      ≡ in_order (row_cmp plan.order) (map (row_of plan other) (groups_among columns (group_of plan) other))
  rows_in_order [] = ap (λ (row : ResultRow). row ∷ []) (same_row plan found other orders same [])
  rows_in_order (column ∷ columns) =
      in_order-same_members (row_cmp plan.order) (row_cmp_total plan.order) (targets plan found) (targets plan other)
      (same_targets plan other orders)
      (record {
        forth = row_in_other plan found other orders same;
        back = row_in_other plan other found orders
            (λ groups. sym (same groups));
      })
      (same_targets plan found orders)

  pub rows_from_sums : rows_over plan found ≡ rows_over plan other
  rows_from_sums = rows_in_order plan.groups

module _ (plan : Plan) (found : List Combination) (orders : OrdersAllGroups plan) (grouped : IsGrouped plan) where
  listed : rows_over plan found ≡ in_order (row_cmp plan.order) (targets plan found)
  listed = ap
      (λ (gs : List Column). in_order (row_cmp plan.order)
      (map (row_of plan found) (groups_among gs (group_of plan) found))) grouped.are

  pub rows_list_groups : ListsGroups plan found (rows_over plan found)
  rows_list_groups = subst (ListsGroups plan found) (sym listed) (record {
    of_groups = λ row h. group_behind plan found row
        (has_from_in_order (row_cmp plan.order) (targets plan found) row h);
    each_group = λ c h. has_in_order (row_cmp plan.order) (targets plan found) (same_targets plan found orders) _
        (target_of plan found c h);
    ordered = sorted_in_order (row_cmp plan.order) (row_cmp_total plan.order) (targets plan found);
  })

  pub no_other_rows : (rows : List ResultRow) → ListsGroups plan found rows → rows ≡ rows_over plan found
  no_other_rows rows lists =
      in_order_is (row_cmp plan.order) (row_cmp_total plan.order) (targets plan found) rows
      (same_targets plan found orders) lists.ordered (record {
        forth = λ row h. let member = lists.of_groups row h in subst (Has (targets plan found)) (sym member.2)
            (target_of plan found member.0 member.1);
        back = λ row h. let member = group_behind plan found row h in subst (Has rows) (sym member.2)
            (lists.each_group member.0 member.1);
      }) ∙ sym listed

pub non_empty : (columns : List Column) → (length columns ≡ 0 → ⊥) → (column : Column) × (rest : List Column)
    × (columns ≡ column ∷ rest)
non_empty [] h = absurd (h refl)
non_empty (column ∷ rest) h = (column, rest, refl)

apart_from_below : (groups : List Value) (entries : List (List Value × ℤ))
    → AllByRecursion (λ g. groups_cmp groups g ≡ Less) (map (λ e. e.0) entries)
    → AllByRecursion (λ e. groups_cmp groups e.0 ≢ Equal) entries
apart_from_below groups [] below = tt
apart_from_below groups (e ∷ entries) below =
    (λ tie. let less : groups_cmp groups e.0 ≡ Less = below.0 in cc, apart_from_below groups entries below.1)

-- entries in strict order are of distinct groups
pub distinct_from_ordered : (entries : List (List Value × ℤ)) → IsStrictlySortedBy groups_cmp (map (λ e. e.0) entries)
    → DistinctGroups entries
unfolding IsStrictlySortedBy
distinct_from_ordered [] s = tt
distinct_from_ordered ((groups, sum) ∷ entries) s =
    (apart_from_below groups entries s.0, distinct_from_ordered entries s.1)

-- each row of a plan is that of its group
pub row_of_its_group : (plan : Plan) (found : List Combination) (row : ResultRow) → Has (rows_over plan found) row
    → row ≡ row_of plan found row.groups
row_of_its_group plan found row h = grind (arith, has_from_map, has_from_in_order)

module _ (plan : Plan) (found : List Combination) where
  apart_from_row : (row : ResultRow) (rows : List ResultRow) → row ≡ row_of plan found row.groups
      → ((other : ResultRow) → Has rows other → other ≡ row_of plan found other.groups)
      → AllByRecursion (λ other. row_cmp plan.order row other ≡ Less) rows
      → AllByRecursion (λ other. row.groups ≢ other.groups) rows
  apart_from_row row [] is others below = tt
  apart_from_row row (other ∷ rows) is others below = (
    λ same. let one : row ≡ other = is ∙ ap (row_of plan found) same ∙ sym (others other (inl refl)) in
        let tie = tied_itself (row_cmp_total plan.order) row in
        let less : row_cmp plan.order row row ≡ Less
        = subst (λ (r : ResultRow). row_cmp plan.order row r ≡ Less) (sym one) below.0 in
        cc,
    apart_from_row row rows is (λ r h. others r (inr h)) below.1,
  )

  distinct_from_sorted : (rows : List ResultRow)
      → ((row : ResultRow) → Has rows row → row ≡ row_of plan found row.groups)
      → IsStrictlySortedBy (row_cmp plan.order) rows → HaveDistinctGroups rows
  unfolding IsStrictlySortedBy
  distinct_from_sorted [] are sorted = tt
  distinct_from_sorted (row ∷ rows) are sorted = (
    apart_from_row row rows (are row (inl refl)) (λ r h. are r (inr h)) sorted.0,
    distinct_from_sorted rows (λ r h. are r (inr h)) sorted.1,
  )

  -- no two rows of a plan are of one group
  pub rows_have_distinct_groups : HaveDistinctGroups (rows_over plan found)
  rows_have_distinct_groups = distinct_from_sorted (rows_over plan found) (row_of_its_group plan found)
      (sorted_in_order (row_cmp plan.order) (row_cmp_total plan.order)
      (map (row_of plan found) (groups_among plan.groups (group_of plan) found)))

pub filter_all : {X : Type 0} (p : X → Bool) → ((x : X) → p x ≡ true) → (xs : List X) → filter p xs ≡ xs
filter_all p all [] = refl
filter_all p all (x ∷ xs) = ap (λ (b : Bool). cond b (x ∷ filter p xs) (filter p xs)) (all x)
    ∙ ap (λ t. x ∷ t) (filter_all p all xs)

-- without group columns all combinations are of the one group
pub total_is_one_row : (plan : Plan) (found : List Combination) → plan.groups ≡ []
    → rows_over plan found ≡ record { groups = []; sum = sum_over plan.measure found } ∷ []
total_is_one_row plan found none = grind (arith, filter_all)
