-- Three texts that lie one behind the other.
use Rattle.std.proofs.Common.{◌≡◌, ◌+◌, ◌-◌, ℕ, List, ◌++◌, append_assoc, length, length-append, take, drop, take_at}
use Rattle.std.proofs.Common.{drop_at, refl, ◌∙◌, arith}
use Rattle.ssb_schema.specs.Kept.{part}

-- the bytes hold these three
pub record Holds (bytes first second third : List ℕ) : Type 0 where
  pub one : part bytes 0 (length first) ≡ first
  pub two : part bytes (length first) (length first + length second) ≡ second
  pub three : part bytes (length first + length second) (length first + length second + length third) ≡ third

parts : (a b c rest : List ℕ) → Holds (((a ++ b) ++ c) ++ rest) a b c
parts a b c rest = grind (arith, append_assoc, take_at, drop_at, length-append)

-- put into bytes one behind the other
pub put_three : (a b c zeros one two three : List ℕ)
    → one ≡ (take 0 zeros ++ a) ++ drop (0 + length a) zeros
    → two ≡ (take (length a) one ++ b) ++ drop (length a + length b) one
    → three ≡ (take (length a + length b) two ++ c) ++ drop (length a + length b + length c) two
    → Holds three a b c
put_three a b c zeros one two three is_one is_two is_three =
    let first : take (length a) one ≡ a = rw is_one (take_at a (drop (0 + length a) zeros) (length a) refl) in
    let second : take (length a + length b) two ≡ a ++ b = rw (is_two, first)
    (take_at (a ++ b) (drop (length a + length b) one) (length a + length b) (length-append a b)) in
    rw (is_three, second) (parts a b c (drop (length a + length b + length c) two))
