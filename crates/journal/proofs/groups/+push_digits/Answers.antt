use Rattle.std.proofs.Common.{◌≡◌, ◌+◌, ◌-◌, ◌/◌, ◌%◌, ℕ, List, [], ◌∷◌, ◌++◌, sym, ◌∙◌, ap, arith, append_assoc}
use Rattle.std.proofs.lemmas.List.{append-nil}
use Rattle.journal.specs.Groups.{digits}
use Rattle.journal.proofs.DigitLaws.{digits_at, digits_none}
use Rattle.journal.proofs.groups.+push_digits.Goals as goal

pub returns-in_ok-push : goal.returns-in_ok-push
returns-in_ok-push t c =
    let out = c.args.out.now.items in
    let front = digits (c.args.count - 1) (c.args.number / 10) in
    let last = (48 + c.args.number % 10) ∷ [] in
    c.in_ok-push.ensures.items ∙ ap (λ (l : List ℕ). l ++ last) c.in_ok-push_digits.ensures ∙ append_assoc out front last
    ∙ ap (λ (l : List ℕ). out ++ l) (sym (digits_at c.args.count c.args.number (omega arith)))

pub returns-else-count-gt0 : goal.returns-else-count-gt0
returns-else-count-gt0 t c =
    let out = c.args.out.now.items in
    let none : c.args.count ≡ 0 = omega arith in
    sym (append-nil out) ∙ ap (λ (l : List ℕ). out ++ l) (sym (ap (λ (k : ℕ). digits k c.args.number) none ∙ digits_none c.args.number))
