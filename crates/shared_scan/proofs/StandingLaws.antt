-- Totals over lines, one line more and one line less.
use Rattle.std.proofs.Common.{ℕ, ◌≡◌, ◌+◌, ◌%◌, ◌^◌, ◌<◌, ◌≤◌, ◌≢◌, ◌⊎◌, Bool, true, false, cond, eqb, List}
use Rattle.std.proofs.Common.{[], ◌∷◌, ◌++◌, length, get_or, drop, min, zero, suc, refl, sym, ap, ◌∙◌, subst, arith}
use Rattle.std.specs.List.{sum_by}
use Rattle.std.specs.Prelude.{nat_eq}
use Rattle.std.proofs.Math.Nat.{mod-mod, mod-add-mod, add-mod-mod}
use Rattle.std.proofs.lemmas.Bool.Decides.{eqb_tells}
use Rattle.std.proofs.lemmas.List.{get_or-set_same, get_or-set_other, length-set, drop_more, get_or_default}
use Rattle.std.proofs.lemmas.List.Sums.{sum_by-append, sum_by-cons}
use Rattle.ssb_base.specs.Base.{Tables}
use Rattle.ssb_schema.specs.declared.column.Column.{Column}
use Rattle.fact_columns.specs.declared.scanned_line.ScannedLine.{ScannedLine}
use Rattle.fact_columns.specs.Watching.{IsOneMore}
use Rattle.scan_kernel.specs.declared.masks.Masks.{Masks}
use Rattle.scan_kernel.specs.declared.totals.Totals.{Totals}
use Rattle.scan_kernel.specs.Sums.{add_at}
use Rattle.shared_scan.specs.declared.ready.Ready.{Ready}
use Rattle.shared_scan.specs.Standing.{share, AreSumsOf, AreTotalsOver, Shifts, ShiftsWhere, part_of_line}
use Rattle.shared_scan.specs.Standing.{parts_of_line, takes_line, group_of_line, gain_in, loss_in}

-- a sum over one item more
pub sum_one_more : {X : Type 0} (f : X → ℕ) (x : X) (before after : List X)
    → sum_by f (before ++ x ∷ after) ≡ f x + sum_by f (before ++ after)
sum_one_more f x before after = grind (arith, sum_by-append, sum_by-cons)

pub one_more_sum : (f : ScannedLine → ℕ) (line : ScannedLine) (fewer more : List ScannedLine)
    → IsOneMore line fewer more → sum_by f more ≡ f line + sum_by f fewer
one_more_sum f line fewer more one = grind (arith, sum_one_more)

-- what is added and what takes it off cancel, in every group
cancels : (b : Bool) (delta amount m : ℕ) → 0 % m ≡ 0 → (delta + amount) % m ≡ 0
    → (cond b delta 0 + cond b amount 0) % m ≡ 0
cancels true delta amount m none same = same
cancels false delta amount m none same = none

module _ (takes : ScannedLine → Bool) (group amount : ScannedLine → ℕ) (line : ScannedLine)
    (fewer more : List ScannedLine) (old new : List ℕ) (delta : ℕ) (one : IsOneMore line fewer more)
    (taken : takes line ≡ true) (shifts : Shifts (group line) delta old new) where
  abbrev own : ℕ → ScannedLine → ℕ
  own g l = share (takes l) (group l) g (amount l)

  -- a line that comes
  pub sums_come : (size : ℕ) → delta ≡ amount line → AreSumsOf takes group amount size fewer old
      → AreSumsOf takes group amount size more new
  sums_come size is sums = record { len = shifts.len ∙ sums.len; each = each } where
    each : (g : ℕ) → g < length new → get_or new g 0 % 2 ^ 64 ≡ sum_by (own g) more % 2 ^ 64
    each g below =
        let there : g < length old = omega (arith, below, shifts.len) in
        let s : ℕ = share true (group line) g delta in
        let share_is : s ≡ own g line = λ i. share (sym taken i) (group line) g (is i) in
        let swap : sum_by (own g) fewer + s ≡ s + sum_by (own g) fewer = omega arith in
        shifts.each g there ∙ sym (mod-add-mod (get_or old g 0) (2 ^ 64) s)
        ∙ ap (λ (v : ℕ). (v + s) % 2 ^ 64) (sums.each g there) ∙ mod-add-mod (sum_by (own g) fewer) (2 ^ 64) s
        ∙ ap (λ (v : ℕ). v % 2 ^ 64) (swap ∙ ap (λ (v : ℕ). v + sum_by (own g) fewer) share_is
        ∙ sym (one_more_sum (own g) line fewer more one))

  -- a line that goes
  pub sums_go : (size : ℕ) → (delta + amount line) % 2 ^ 64 ≡ 0 → AreSumsOf takes group amount size more old
      → AreSumsOf takes group amount size fewer new
  sums_go size is sums = record { len = shifts.len ∙ sums.len; each = each } where
    each : (g : ℕ) → g < length new → get_or new g 0 % 2 ^ 64 ≡ sum_by (own g) fewer % 2 ^ 64
    each g below =
        let there : g < length old = omega (arith, below, shifts.len) in
        let s : ℕ = share true (group line) g delta in
        let t : ℕ = share true (group line) g (amount line) in
        let rest : ℕ = sum_by (own g) fewer in
        let share_is : own g line ≡ t = λ i. share (taken i) (group line) g (amount line) in
        let sum_is : sum_by (own g) more ≡ t + rest = one_more_sum (own g) line fewer more one
        ∙ ap (λ (v : ℕ). v + rest) share_is in
        let none : (s + t) % 2 ^ 64 ≡ 0 = cancels (nat_eq (group line) g) delta (amount line) (2 ^ 64)
        (omega arith) is in
        let turn : t + rest + s ≡ rest + (s + t) = omega arith in
        let alone : rest + 0 ≡ rest = omega arith in
        shifts.each g there ∙ sym (mod-add-mod (get_or old g 0) (2 ^ 64) s)
        ∙ ap (λ (v : ℕ). (v + s) % 2 ^ 64) (sums.each g there) ∙ mod-add-mod (sum_by (own g) more) (2 ^ 64) s
        ∙ ap (λ (v : ℕ). (v + s) % 2 ^ 64) sum_is ∙ ap (λ (v : ℕ). v % 2 ^ 64) turn
        ∙ sym (add-mod-mod rest (s + t) (2 ^ 64)) ∙ ap (λ (v : ℕ). (rest + v) % 2 ^ 64) none
        ∙ ap (λ (v : ℕ). v % 2 ^ 64) alone

-- a line that is not taken changes no sum
module _ (takes : ScannedLine → Bool) (group amount : ScannedLine → ℕ) (line : ScannedLine)
    (fewer more : List ScannedLine) (numbers : List ℕ) (one : IsOneMore line fewer more)
    (taken : takes line ≡ false) where
  abbrev mine : ℕ → ScannedLine → ℕ
  mine g l = share (takes l) (group l) g (amount l)

  same_sum : (g : ℕ) → sum_by (mine g) more ≡ sum_by (mine g) fewer
  same_sum g =
      let none : mine g line ≡ 0 = λ i. share (taken i) (group line) g (amount line) in
      one_more_sum (mine g) line fewer more one ∙ ap (λ (v : ℕ). v + sum_by (mine g) fewer) none ∙ omega arith

  pub sums_pass_by : (size : ℕ) → AreSumsOf takes group amount size fewer numbers
      → AreSumsOf takes group amount size more numbers
  sums_pass_by size sums = grind (arith, same_sum)

  pub sums_pass_off : (size : ℕ) → AreSumsOf takes group amount size more numbers
      → AreSumsOf takes group amount size fewer numbers
  sums_pass_off size sums = grind (arith, same_sum)

-- the totals of a question, with a line more
pub totals_come : (base : Tables) (masks : Masks) (k : ℕ) (ready : Ready) (line : ScannedLine)
    (fewer more : List ScannedLine) (old new : Totals) (taken : Bool) → takes_line masks k line ≡ taken
    → IsOneMore line fewer more → ShiftsWhere taken base ready line true old new
    → AreTotalsOver base masks k ready fewer old → AreTotalsOver base masks k ready more new
totals_come base masks k ready line fewer more old new true is one shifted are = record {
  counts = sums_come (takes_line masks k) (group_of_line base ready) (λ l. 1) line fewer more
      _ _ _ one is shifted.counts _ shifted.change.count_is are.counts;
  gains = sums_come (takes_line masks k) (group_of_line base ready) (gain_in ready.plan.measure) line fewer more
      _ _ _ one is shifted.gains _ shifted.change.gain_is are.gains;
  losses = sums_come (takes_line masks k) (group_of_line base ready) (loss_in ready.plan.measure) line fewer more
      _ _ _ one is shifted.losses _ shifted.change.loss_is are.losses;
}
totals_come base masks k ready line fewer more old new false is one same are =
    subst (AreTotalsOver base masks k ready more) (sym same) (record {
      counts = sums_pass_by (takes_line masks k) (group_of_line base ready) (λ l. 1) line fewer
          more _ one is _ are.counts;
      gains = sums_pass_by (takes_line masks k) (group_of_line base ready) (gain_in ready.plan.measure) line fewer
          more _ one is _ are.gains;
      losses = sums_pass_by (takes_line masks k) (group_of_line base ready) (loss_in ready.plan.measure) line fewer
          more _ one is _ are.losses;
    })

-- and with a line less
pub totals_go : (base : Tables) (masks : Masks) (k : ℕ) (ready : Ready) (line : ScannedLine)
    (fewer more : List ScannedLine) (old new : Totals) (taken : Bool) → takes_line masks k line ≡ taken
    → IsOneMore line fewer more → ShiftsWhere taken base ready line false old new
    → AreTotalsOver base masks k ready more old → AreTotalsOver base masks k ready fewer new
totals_go base masks k ready line fewer more old new true is one shifted are = record {
  counts = sums_go (takes_line masks k) (group_of_line base ready) (λ l. 1) line fewer more
      _ _ _ one is shifted.counts _ shifted.change.count_is are.counts;
  gains = sums_go (takes_line masks k) (group_of_line base ready) (gain_in ready.plan.measure) line fewer more
      _ _ _ one is shifted.gains _ shifted.change.gain_is are.gains;
  losses = sums_go (takes_line masks k) (group_of_line base ready) (loss_in ready.plan.measure) line fewer more
      _ _ _ one is shifted.losses _ shifted.change.loss_is are.losses;
}
totals_go base masks k ready line fewer more old new false is one same are =
    subst (AreTotalsOver base masks k ready fewer) (sym same) (record {
      counts = sums_pass_off (takes_line masks k) (group_of_line base ready) (λ l. 1) line fewer
          more _ one is _ are.counts;
      gains = sums_pass_off (takes_line masks k) (group_of_line base ready) (gain_in ready.plan.measure) line fewer
          more _ one is _ are.gains;
      losses = sums_pass_off (takes_line masks k) (group_of_line base ready) (loss_in ready.plan.measure) line fewer
          more _ one is _ are.losses;
    })

-- a number of a list is added to
module _ (numbers : List ℕ) (group delta : ℕ) where
  went : (g : ℕ) → eqb group g ≡ false → get_or numbers g 0 % 2 ^ 64 ≡ (get_or numbers g 0 + share true group g delta)
      % 2 ^ 64
  went g other =
      let none : share true group g delta ≡ 0 = ap (λ (b : Bool). cond b delta 0) other in
      ap (λ (v : ℕ). v % 2 ^ 64) (sym (ap (λ (v : ℕ). get_or numbers g 0 + v) none ∙ omega arith))

  pub shifted_at : group < length numbers → Shifts group delta numbers (add_at numbers group delta)
  shifted_at within = grind (arith, length-set, eqb_tells, eqb, get_or-set_same, mod-mod, get_or-set_other, went)

-- the next group column adds its part
pub parts_step : (base : Tables) (columns : List Column) (parts : List (List ℕ)) (line : ScannedLine) (i : ℕ)
    (column : Column) (part : List ℕ) → i < length columns → i < length parts → column ≡ get_or columns i column
    → part ≡ get_or parts i part
    → parts_of_line base (drop i columns) (drop i parts) line ≡ part_of_line base column part line
    + parts_of_line base (drop (i + 1) columns) (drop (i + 1) parts) line
parts_step base columns parts line i column part in_columns in_parts is own = grind (arith, drop_more)

-- the same, where the column is read at its place
pub parts_step_at : (base : Tables) (columns : List Column) (parts : List (List ℕ)) (line : ScannedLine) (i : ℕ)
    (d : Column) (part : List ℕ) → i < length columns → i < length parts → part ≡ get_or parts i part
    → parts_of_line base (drop i columns) (drop i parts) line ≡ part_of_line base (get_or columns i d) part line
    + parts_of_line base (drop (i + 1) columns) (drop (i + 1) parts) line
parts_step_at base columns parts line i d part in_columns in_parts own = parts_step base columns parts line i
    (get_or columns i d) part in_columns in_parts (get_or_default columns i d (get_or columns i d) in_columns) own

no_parts : (base : Tables) (columns : List Column) (line : ScannedLine) → parts_of_line base columns [] line ≡ 0
no_parts base [] line = refl
no_parts base (column ∷ columns) line = refl

-- nothing is added behind the last
pub parts_end : (base : Tables) (columns : List Column) (parts : List (List ℕ)) (line : ScannedLine) (i : ℕ)
    → min (length columns) (length parts) ≤ i → parts_of_line base (drop i columns) (drop i parts) line ≡ 0
parts_end base [] parts line zero past = grind arith
parts_end base (column ∷ columns) [] line zero past = grind arith
parts_end base (column ∷ columns) (part ∷ parts) line zero past = grind arith
parts_end base [] parts line (suc i) past = grind arith
parts_end base (column ∷ columns) [] line (suc i) past = grind (arith, no_parts)
parts_end base (column ∷ columns) (part ∷ parts) line (suc i) past = grind (arith, parts_end base columns parts line i (omega (arith, past)))

-- a part is added, modulo 2^64
pub part_added : (group part rest total : ℕ) → (group + (part + rest)) % 2 ^ 64 ≡ total % 2 ^ 64
    → ((group + part) % 2 ^ 64 + rest) % 2 ^ 64 ≡ total % 2 ^ 64
part_added group part rest total so_far = grind (arith, mod-add-mod)
