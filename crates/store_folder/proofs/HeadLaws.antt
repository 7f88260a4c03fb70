-- The head of a segment and the text of tables, line by line.
use Rattle.std.proofs.Common.{◌≡◌, ℕ, zero, suc, ◌+◌, ◌≤◌, ◌/◌, ◌%◌, List, [], ◌∷◌, ◌++◌, length, drop, refl, sym, ◌∙◌, ap}
use Rattle.std.proofs.Common.{arith, append_assoc, length-append}
use Rattle.std.specs.Prelude.{codes, decimal}
use Rattle.std.proofs.lemmas.List.{append_cancel_left, drop_at}
use Rattle.journal.specs.Groups.{block, digits, head}
use Rattle.ssb_journal.specs.Seals.{checksum_line, sealed}
use Rattle.ssb_journal.proofs.SealLaws.{length-line}
use Rattle.store_folder.specs.Texts.{head_text, line, tables_text}

-- the lines of a head behind its title
abbrev pub lines_of : ℕ → List ℕ → ℕ → List ℕ → List ℕ
lines_of after store before rest =
    line (codes "after") (decimal after) ++ (line (codes "of") store ++ (line (codes "before") (decimal before) ++ rest))

module _ (after before : ℕ) (store rest : List ℕ) where
  head_parts : head_text after store before ++ rest ≡ codes "ssb_live journal 3\n" ++ lines_of after store before rest
  head_parts =
      let one = line (codes "after") (decimal after) in
      let two = line (codes "of") store in
      let three = line (codes "before") (decimal before) in
      append_assoc (codes "ssb_live journal 3\n") (one ++ (two ++ three)) rest
      ∙ ap (λ (l : List ℕ). codes "ssb_live journal 3\n" ++ l)
      (append_assoc one (two ++ three) rest ∙ ap (λ (l : List ℕ). one ++ l) (append_assoc two three rest))

  -- what stands behind the title
  pub behind_title : (text behind : List ℕ) → text ≡ codes "ssb_live journal 3\n" ++ behind
      → text ≡ head_text after store before ++ rest → behind ≡ lines_of after store before rest
  behind_title text behind titled is =
      append_cancel_left (codes "ssb_live journal 3\n") behind (lines_of after store before rest) (sym titled ∙ is ∙ head_parts)

-- what stands behind the title of tables
pub behind_tables : (after : ℕ) (store lines text behind : List ℕ) → text ≡ codes "ssb_live tables 1\n" ++ behind
    → text ≡ tables_text after store lines
    → behind ≡ line (codes "after") (decimal after) ++ (line (codes "of") store ++ lines)
behind_tables after store lines text behind titled is =
    append_cancel_left (codes "ssb_live tables 1\n") behind
    (line (codes "after") (decimal after) ++ (line (codes "of") store ++ lines)) (sym titled ∙ is)

-- line after line, behind the title
pub written_head : (after before : ℕ) (store first one two three : List ℕ) → first ≡ codes "ssb_live journal 3\n"
    → one ≡ first ++ line (codes "after") (decimal after) → two ≡ one ++ line (codes "of") store
    → three ≡ two ++ line (codes "before") (decimal before) → three ≡ head_text after store before
written_head after before store first one two three titled first_line second_line third_line =
    let a = line (codes "after") (decimal after) in
    let b = line (codes "of") store in
    let c = line (codes "before") (decimal before) in
    third_line ∙ ap (λ (l : List ℕ). l ++ c) (second_line ∙ ap (λ (l : List ℕ). l ++ b) (first_line ∙ ap (λ (l : List ℕ). l ++ a) titled))
    ∙ append_assoc (codes "ssb_live journal 3\n" ++ a) b c ∙ append_assoc (codes "ssb_live journal 3\n") a (b ++ c)

pub written_tables : (after : ℕ) (store lines first one two three : List ℕ) → first ≡ codes "ssb_live tables 1\n"
    → one ≡ first ++ line (codes "after") (decimal after) → two ≡ one ++ line (codes "of") store
    → three ≡ two ++ lines → three ≡ tables_text after store lines
written_tables after store lines first one two three titled first_line second_line third_line =
    let a = line (codes "after") (decimal after) in
    let b = line (codes "of") store in
    third_line ∙ ap (λ (l : List ℕ). l ++ lines) (second_line ∙ ap (λ (l : List ℕ). l ++ b) (first_line ∙ ap (λ (l : List ℕ). l ++ a) titled))
    ∙ append_assoc (codes "ssb_live tables 1\n" ++ a) b lines ∙ append_assoc (codes "ssb_live tables 1\n") a (b ++ lines)

length-digits : (k n : ℕ) → length (digits k n) ≡ k
unfolding digits
length-digits zero n = refl
length-digits (suc k) n = omega (arith, length-append (digits k (n / 10)) ((48 + n % 10) ∷ []), length-digits k (n / 10))

length-head : (n : ℕ) → length (head n) ≡ 17
unfolding head
length-head n = omega (arith, length-append (digits 15 n) (10 ∷ []), length-digits 15 n)

module _ (text rest bytes : List ℕ) (is : bytes ≡ block (sealed text) ++ rest) where
  length-front : length (49 ∷ (head (length (sealed text)) ++ checksum_line text)) ≡ 51
  length-front =
      omega (
        arith,
        length-append (head (length (sealed text))) (checksum_line text),
        length-head (length (sealed text)),
        length-line text,
      )

  parted : bytes ≡ (49 ∷ (head (length (sealed text)) ++ checksum_line text)) ++ (text ++ rest)
  unfolding block
  parted =
      is ∙ append_assoc (49 ∷ head (length (sealed text))) (checksum_line text ++ text) rest
      ∙ ap (λ (l : List ℕ). (49 ∷ head (length (sealed text))) ++ l) (append_assoc (checksum_line text) text rest)
      ∙ sym (append_assoc (49 ∷ head (length (sealed text))) (checksum_line text) (text ++ rest))

  -- behind the gate, the length and the checksum
  pub text_is : drop 51 bytes ≡ text ++ rest
  text_is =
      ap (drop 51) parted
      ∙ drop_at (49 ∷ (head (length (sealed text)) ++ checksum_line text)) (text ++ rest) 51 length-front

  pub long : 51 ≤ length bytes
  long =
      omega (
        arith,
        ap length parted,
        length-append (49 ∷ (head (length (sealed text)) ++ checksum_line text)) (text ++ rest),
        length-front,
      )
