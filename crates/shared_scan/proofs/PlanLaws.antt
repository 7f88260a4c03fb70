-- The plans of questions, taken one after another.
use Rattle.std.proofs.Common.{ℕ, ◌≡◌, ◌+◌, ◌<◌, ◌≤◌, List, ◌∷◌, length, drop, get_or, map, ap, ◌∙◌, arith}
use Rattle.std.proofs.lemmas.List.{drop_more, length-drop, length-map}
use Rattle.ssb_questions.specs.declared.plan.Plan.{Plan}
use Rattle.ssb_questions.specs.declared.query.Query.{Query}
use Rattle.ssb_questions.specs.declared.value.Value.{Value}
use Rattle.ssb_questions.specs.Queries.{plan_over}
use Rattle.shared_scan.specs.Batch.{plans_of}
use Rattle.shared_scan.proofs.EachLaws.{item_of}

-- the plan groups by four columns at most
abbrev pub HasFewColumns : Plan → Type 0
HasFewColumns plan = length plan.groups ≤ 4

cons_same : (a b : Plan) (xs ys : List Plan) → a ∷ xs ≡ b ∷ ys → (a ≡ b) × (xs ≡ ys)
cons_same a b xs ys e = (cc, cc)

-- the plan that comes next is that of the next question
pub next_plan : (questions : List (Query × List Value)) (n : ℕ) (plan : Plan) (later : List Plan)
    → plan ∷ later ≡ plans_of (drop n questions)
    → (n < length questions)
    × ((any : Query × List Value) → plan ≡ plan_over (get_or questions n any).0 (get_or questions n any).1)
    × (later ≡ plans_of (drop (n + 1) questions))
next_plan questions n plan later is =
    let below : n < length questions = omega (
      arith,
      ap length is,
      length-map (drop n questions) (λ (question : Query × List Value). plan_over question.0 question.1),
      length-drop n questions,
    ) in
    let of : Query × List Value → Plan = λ question. plan_over question.0 question.1 in
    let rest = plans_of (drop (n + 1) questions) in
    let parted : (any : Query × List Value) → plan ∷ later ≡ of (get_or questions n any) ∷ rest =
    λ any. is ∙ ap plans_of (drop_more questions n any below) in
    let any = item_of questions n below in (
      below,
      λ other. (cons_same plan (of (get_or questions n other)) later rest (parted other)).0,
      (cons_same plan (of (get_or questions n any)) later rest (parted any)).1,
    )

-- where no plan is left, each question has been made ready
pub all_planned : (questions : List (Query × List Value)) (n : ℕ) (left : List Plan) → n ≤ length questions
    → length left ≡ 0 → left ≡ plans_of (drop n questions) → n ≡ length questions
all_planned questions n left within none is = grind (arith, length-map, length-drop)
