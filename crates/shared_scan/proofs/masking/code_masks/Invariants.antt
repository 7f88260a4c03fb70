use Rattle.shared_scan.specs.Tests.{passes_at, tests_of}
use Rattle.shared_scan.proofs.MaskingLaws.{AreMasksUpTo}
use Rattle.shared_scan.proofs.masking.code_masks.Given as goal

abbrev pub invariant-loop-code : goal.invariant-loop-code
invariant-loop-code l = AreMasksUpTo (λ plan value. passes_at (tests_of l.column.table plan) l.column.place value)
    l.plans l.dictionary l.code l.masks.items
