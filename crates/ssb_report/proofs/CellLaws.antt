-- The text of a decimal by its parts, and that of cells by the first of them.
use Rattle.std.proofs.Common.{◌≡◌, ℕ, ℤ, ◌/◌, ◌%◌, ◌≤◌, List, [], ◌∷◌, ◌++◌, length, drop, get_or, flat_map, codes, decimal}
use Rattle.std.proofs.Common.{◌-◌, ◌∙◌, take, append_assoc, arith, ap, sym}
use Rattle.std.specs.Prelude.{unsigned_abs}
use Rattle.std.proofs.lemmas.List.{take_all}
use Rattle.ssb_report.specs.StatementText.{cell_behind, cell_text, cells_text, decimal_text, digits_of, sign_of}
use Rattle.ssb_statements.specs.declared.cell.StatementCell.{StatementCell}

pub decimal_is : (n : ℤ) (sign whole : List ℕ) (size digits : ℕ) → sign ≡ sign_of n → whole ≡ decimal (size / 10000)
    → size ≡ unsigned_abs n → digits ≡ size % 10000
    → sign ++ (whole ++ (codes "." ++ digits_of digits)) ≡ decimal_text n
decimal_is n sign whole size digits a b c d = rw (a, b, d, c) (ap (λ t. sign_of n ++ t)
    (sym (append_assoc (decimal (unsigned_abs n / 10000)) (codes ".") (digits_of (unsigned_abs n % 10000)))))

pub cells_are : (cells : List StatementCell) (first d : StatementCell) → 1 ≤ length cells → first ≡ get_or cells 0 d
    → cells_text cells ≡ cell_text first ++ flat_map cell_behind (take (length cells - 1) (drop 1 cells))
cells_are [] first d some is = absurd (omega (arith, some))
cells_are (x ∷ cells) first d some is =
    let all : take (length (x ∷ cells) - 1) cells ≡ cells =
    take_all (length (x ∷ cells) - 1) cells (omega arith) in
    ap (λ c. cell_text c ++ flat_map cell_behind cells) (sym is)
    ∙ ap (λ rest. cell_text first ++ flat_map cell_behind rest) (sym all)
