use Rattle.std.proofs.Common.{◌≡◌, List, ◌++◌, length, take, refl, sym, ◌∙◌, ap, subst, arith}
use Rattle.std.proofs.lemmas.List.{length-append, take_at}
use Rattle.row_store.specs.History.{CommitRecord}
use Rattle.ssb_journal.specs.Kept.{KeepsCommits}
use Rattle.ssb_journal.proofs.laws.first_of_log.Goals as goal

pub returns : goal.returns
returns c marks commits log file kept begins =
    let whole : log ≡ commits ++ begins.rest = begins.whole in
    let first : take (length commits) log ≡ commits = ap (take (length commits)) whole ∙ take_at commits begins.rest (length commits) refl in
    record {
      marks = marks;
      keeps = subst (λ (cs : List CommitRecord). KeepsCommits marks cs file) (sym first) kept;
      inside = omega (arith, ap length whole, length-append commits begins.rest);
    }
