-- A trace begins with a commit or with an answer.
use Rattle.std.proofs.Common.{◌≡◌, ℕ, List, [], ◌∷◌, ◌++◌, length, refl, true, flat_map}
use Rattle.std.specs.Prelude.{codes, nat_eq, ◌==◌, ◌||◌}
use Rattle.std.specs.List.{starts_with}
use Rattle.std.proofs.lemmas.Bool.{or_right}
use Rattle.row_store.specs.History.{CommitRecord}
use Rattle.ssb_audit.specs.declared.trace.Told.{Told}
use Rattle.ssb_trace.specs.TraceText.{commit_text, told_text}
use Rattle.run_command.specs.TraceFiles.{may_be_replaced}

begins_so : (text : List ℕ)
    → (starts_with nat_eq text (codes "commit|") || starts_with nat_eq text (codes "answer|")) ≡ true
    → may_be_replaced text ≡ true
begins_so text = or_right (length text == 0)
    (starts_with nat_eq text (codes "commit|") || starts_with nat_eq text (codes "answer|"))

pub begins : (commits : List CommitRecord) (answers : List Told)
    → may_be_replaced (flat_map commit_text commits ++ flat_map told_text answers) ≡ true
begins [] [] = refl
begins [] (told ∷ answers) = begins_so (flat_map told_text (told ∷ answers)) refl
begins (commit ∷ commits) answers =
    begins_so (flat_map commit_text (commit ∷ commits) ++ flat_map told_text answers) refl
