use Rattle.std.proofs.Common.{ℕ, List, ◌++◌, ◌∙◌, ap, sym, arith}
use Rattle.journal.specs.Groups.{head}
use Rattle.journal.proofs.GroupLaws.{no_head, whole_here, other_head, cut_short}
use Rattle.journal.proofs.groups.whole_len.Goals as goal
use Rattle.journal.proofs.groups.whole_len.Goals.{else-starts_with-via-then-starts_with+else-len-file}
use Rattle.journal.proofs.groups.whole_len.Goals.{else-starts_with-via-else-starts_with}

pub returns-then-file-lt-HEAD-clause-value : goal.returns-then-file-lt-HEAD-clause-value
returns-then-file-lt-HEAD-clause-value c = no_head c.args.file.now (omega arith)

pub returns-then-len-file-clause-value : goal.returns-then-len-file-clause-value
returns-then-len-file-clause-value c =
    let bytes = c.deref.ensures.value ∙ c.in_ok-push_head.ensures ∙ ap (λ (l : List ℕ). l ++ head c.number_of-len.result) c.in_ok-head.ensures.items in
    whole_here c.args.file.now c.deref.result.now c.number_of-len.result c.number_of-len.ensures.value bytes (sym c.starts_with.ensures.value ∙ c.if-starts_with.true) (omega arith)

pub returns-clause-value : goal.returns-clause-value
returns-clause-value c =
    let bytes = c.deref.ensures.value ∙ c.in_ok-push_head.ensures ∙ ap (λ (l : List ℕ). l ++ head c.number_of-len.result) c.in_ok-head.ensures.items in
    elim c.else-starts_with.branch [
      | else-starts_with-via-then-starts_with+else-len-file w ↦ cut_short c.args.file.now c.deref.result.now c.number_of-len.result c.number_of-len.ensures.value bytes (omega arith)
      | else-starts_with-via-else-starts_with w ↦ other_head c.args.file.now c.deref.result.now c.number_of-len.result c.number_of-len.ensures.value bytes (sym c.starts_with.ensures.value ∙ w.if-starts_with.false)
    ]
