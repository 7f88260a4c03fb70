-- Batches of standing questions follow lines together.
use Rattle.std.proofs.Common.{ℕ, ◌≡◌, ◌+◌, ◌<◌, List, [], ◌∷◌, ◌++◌, length, get_or, take, ap, sym, ◌∙◌, arith}
use Rattle.std.proofs.Common.{append_assoc}
use Rattle.std.specs.List.{All}
use Rattle.std.proofs.lemmas.List.{append-nil, take_more}
use Rattle.std.proofs.lemmas.List.Elements.{All-append, All-same}
use Rattle.std.proofs.lemmas.Grind.{flat_map-append}
use Rattle.ssb_base.specs.Base.{Tables}
use Rattle.ssb_questions.specs.declared.query.Query.{Query}
use Rattle.ssb_questions.specs.declared.value.Value.{Value}
use Rattle.fact_columns.specs.declared.scanned_line.ScannedLine.{ScannedLine}
use Rattle.fact_columns.specs.Watching.{IsOneMore}
use Rattle.shared_scan.specs.Follows.{FollowsOver}
use Rattle.shared_scan.specs.Batch.{questions_of}
use Rattle.shared_scan.specs.GroupCounts.{HasFewGroups}
use Rattle.shared_scan.specs.declared.standing.Standing.{Standing}
use Rattle.standing_columns.specs.Standing.{questions_in}

-- it follows what the other follows
abbrev pub Copies : Standing → Standing → Type 0
Copies old new = (base : Tables) (lines : List ScannedLine) → FollowsOver old base lines → FollowsOver new base lines

-- it follows a line that comes
abbrev pub Comes : ScannedLine → Standing → Standing → Type 0
Comes line old new =
    (base : Tables) (fewer more : List ScannedLine) → IsOneMore line fewer more → FollowsOver old base fewer
    → FollowsOver new base more

-- it follows a line that goes
abbrev pub Goes : ScannedLine → Standing → Standing → Type 0
Goes line old new =
    (base : Tables) (fewer more : List ScannedLine) → IsOneMore line fewer more → FollowsOver old base more
    → FollowsOver new base fewer

module _ (old new : List Standing) (len : length new ≡ length old) where
  pub all_copied : ((k : ℕ) (s t : Standing) → k < length old → Copies (get_or old k s) (get_or new k t))
      → (base : Tables) (lines : List ScannedLine) → All (λ (batch : Standing). FollowsOver batch base lines) old
      → All (λ (batch : Standing). FollowsOver batch base lines) new
  all_copied each base lines all k t below =
      let there : k < length old = omega (arith, below, len) in
      each k t t there base lines (all k t there)

  pub all_come : (line : ScannedLine)
      → ((k : ℕ) (t : Standing) → k < length old → Comes line (get_or old k t) (get_or new k t))
      → (base : Tables) (fewer more : List ScannedLine) → IsOneMore line fewer more
      → All (λ (batch : Standing). FollowsOver batch base fewer) old
      → All (λ (batch : Standing). FollowsOver batch base more) new
  all_come line each base fewer more one all k t below =
      let there : k < length old = omega (arith, below, len) in
      each k t there base fewer more one (all k t there)

  pub all_go : (line : ScannedLine)
      → ((k : ℕ) (t : Standing) → k < length old → Goes line (get_or old k t) (get_or new k t))
      → (base : Tables) (fewer more : List ScannedLine) → IsOneMore line fewer more
      → All (λ (batch : Standing). FollowsOver batch base more) old
      → All (λ (batch : Standing). FollowsOver batch base fewer) new
  all_go line each base fewer more one all k t below =
      let there : k < length old = omega (arith, below, len) in
      each k t there base fewer more one (all k t there)

-- the questions of one batch more
one_more : (batches more : List Standing) (one : Standing) → more ≡ batches ++ one ∷ []
    → questions_in more ≡ questions_in batches ++ questions_of one.batch.value.questions.items
one_more batches more one grown = grind (arith, flat_map-append, append-nil)

-- one batch more is copied
pub copied_more : (old copy more : List Standing) (i : ℕ) (item made : Standing) → i < length old
    → item ≡ get_or old i item → made.batch.value ≡ item.batch.value → more ≡ copy ++ made ∷ []
    → questions_in copy ≡ questions_in (take i old) → questions_in more ≡ questions_in (take (i + 1) old)
copied_more old copy more i item made below is same grown before =
    one_more copy more made grown ∙ (λ j. before j ++ questions_of (same j).questions.items)
    ∙ sym (one_more (take i old) (take (i + 1) old) item
    (take_more old i item below ∙ ap (λ b. take i old ++ b ∷ []) (sym is)))

-- one batch more has the next questions
pub questions_more : (batches more : List Standing) (one : Standing)
    (rest batch later asked : List (Query × List Value)) → more ≡ batches ++ one ∷ []
    → questions_of one.batch.value.questions.items ≡ batch → rest ≡ batch ++ later
    → questions_in batches ++ rest ≡ asked → questions_in more ++ later ≡ asked
questions_more batches more one rest batch later asked grown is parted before =
    let first : List (Query × List Value) = questions_in batches in
    ap (λ l. l ++ later) (one_more batches more one grown ∙ ap (λ l. first ++ l) is)
    ∙ append_assoc first batch later ∙ ap (λ l. first ++ l) (sym parted) ∙ before

-- one batch more, in which no question has many groups
pub few_more : (base : Tables) (batches more : List Standing) (one : Standing) (batch : List (Query × List Value))
    → more ≡ batches ++ one ∷ [] → questions_of one.batch.value.questions.items ≡ batch
    → All (HasFewGroups base) (questions_in batches) → All (HasFewGroups base) batch
    → All (HasFewGroups base) (questions_in more)
few_more base batches more one batch grown is few here =
    let first : List (Query × List Value) = questions_in batches in
    All-same (HasFewGroups base) (questions_in more) (first ++ batch)
    (one_more batches more one grown ∙ ap (λ l. first ++ l) is) (All-append (HasFewGroups base) first batch few here)
