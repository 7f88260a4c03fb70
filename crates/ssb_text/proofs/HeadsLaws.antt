-- What is known of the first line of a reader's bytes while it is read.
use Rattle.std.proofs.Common.{◌≡◌, ◌≢◌, ◌<◌, ◌≤◌, ◌+◌, ◌∙◌, ℕ, cond, List, [], ◌∷◌, ◌++◌, length, get_or, take, drop}
use Rattle.std.proofs.Common.{Option, Some, None}
use Rattle.std.proofs.Common.{append_assoc, length-append, refl, sym, ap, arith, ⊎_elim}
use Rattle.std.proofs.lemmas.List.{append_cancel_left}
use Rattle.std.proofs.lemmas.List.Sums.{sum_by_push}
use Rattle.std.specs.Prelude.{count_by}
use Rattle.std.specs.Io.KnownBytes.{Consumes, IsAtEnd}
use Rattle.std.specs.List.{AllByRecursion}
use Rattle.ssb_text.specs.HeadsReading.{EndsLine, HasNoLine}
use Rattle.ssb_text.specs.Layouts.{HasFields, HasHeads, most_heads, parts}
use Rattle.ssb_text.specs.declared.layout.Delimiter.{Delimiter}
use Rattle.ssb_text.proofs.BlockLaws.{consumes_known, end_known}
use Rattle.ssb_text.proofs.ChecksumLaws.{all-push}

-- a read that gave no bytes found no more
pub none_left : (old new : Option (List ℕ)) (bytes : List ℕ) (count : ℕ) → count ≡ 0
    → Consumes old new (take count bytes) → IsAtEnd new → IsAtEnd old
none_left None new bytes count zero consumed ended = grind arith
none_left (Some all) None bytes count zero consumed ended = grind arith
none_left (Some all) (Some rest) bytes count zero consumed ended = grind arith

-- a read into one byte that gave some gave that
pub one_byte : (bytes : List ℕ) (count : ℕ) → length bytes ≡ 1 → count ≤ length bytes → count ≢ 0
    → take count bytes ≡ get_or bytes 0 0 ∷ []
one_byte [] count long few some = absurd (omega (arith, long))
one_byte (b ∷ []) count long few some = let one : count ≡ 1 = omega (arith, few, some) in rw one refl
one_byte (b ∷ (x ∷ rest)) count long few some = absurd (omega (arith, long))

-- no byte of a line is a line feed
abbrev pub HasNoFeed : List ℕ → Type 0
HasNoFeed line = AllByRecursion (λ b. b ≢ 10) line

-- so a line that a feed ends is no shorter
feed_behind : (bytes rest line rows : List ℕ) → HasNoFeed bytes → bytes ++ rest ≡ line ++ 10 ∷ rows
    → length line < length bytes → ⊥
feed_behind [] rest line rows none same long = grind arith
feed_behind (x ∷ bytes) rest [] rows none same long = grind arith
feed_behind (x ∷ bytes) rest (b ∷ line) rows none same long = grind (arith, feed_behind bytes rest line rows none.1 (ap (λ (l : List ℕ). drop 1 l) same) (omega (arith, long)))

-- the first line of a file is one
same_line : (one other rest rows : List ℕ) → HasNoFeed one → HasNoFeed other → one ++ 10 ∷ rest ≡ other ++ 10 ∷ rows
    → one ≡ other
same_line [] [] rest rows here there same = grind arith
same_line [] (y ∷ other) rest rows here there same = grind arith
same_line (x ∷ one) [] rest rows here there same = grind arith
same_line (x ∷ one) (y ∷ other) rest rows here there same = grind (arith, same_line one other rest rows here.1 there.1 (ap (λ (l : List ℕ). drop 1 l) same))

-- so many bytes were read, none of which is a line feed, and so many of which part fields
pub record ReadsLine (delimiter : Delimiter) (old new : Option (List ℕ)) (long count : ℕ) : Type 0 where
  pub line : List ℕ
  pub no_feed : HasNoFeed line
  pub many : length line ≡ long
  pub counted : count_by (parts delimiter) line ≡ count
  pub known : (file : List ℕ) → old ≡ Some file → (rest : List ℕ) × (new ≡ Some rest) × (file ≡ line ++ rest)

pub line_begun : (delimiter : Delimiter) (known : Option (List ℕ)) → ReadsLine delimiter known known 0 0
line_begun delimiter known = grind arith

-- one byte more
pub line_more : (delimiter : Delimiter) (old mid new : Option (List ℕ)) (long count more b : ℕ)
    → ReadsLine delimiter old mid long count → Consumes mid new (b ∷ []) → b ≢ 10
    → count + cond (parts delimiter b) 1 0 ≡ more → ReadsLine delimiter old new (long + 1) more
line_more delimiter old mid new long count more b so_far consumed no_feed counts = record {
  line = so_far.line ++ b ∷ [];
  no_feed = all-push (λ (x : ℕ). x ≢ 10) so_far.line b so_far.no_feed no_feed;
  many = omega (arith, so_far.many, length-append so_far.line (b ∷ []));
  counted = sum_by_push (λ (x : ℕ). cond (parts delimiter x) 1 0) so_far.line b
      ∙ ap (λ (n : ℕ). n + cond (parts delimiter b) 1 0) so_far.counted ∙ counts;
  known = λ file is.
      let here = so_far.known file is in
      let next = consumes_known mid new here.0 (b ∷ []) here.1 consumed in (
        next.0,
        next.1,
        here.2 ∙ ap (λ (rest : List ℕ). so_far.line ++ rest) next.2 ∙ sym (append_assoc so_far.line (b ∷ []) next.0),
      );
}

-- no more bytes are there
pub no_line_left : (delimiter : Delimiter) (old mid : Option (List ℕ)) (long count : ℕ)
    → ReadsLine delimiter old mid long count → IsAtEnd mid → HasNoLine old
no_line_left delimiter old mid long count so_far ended line rows is short =
    let here = so_far.known (line ++ 10 ∷ rows) is in
    let last = end_known mid here.0 here.1 ended in
    let same : line ++ 10 ∷ rows ≡ so_far.line ++ [] = here.2 ∙ ap (λ (rest : List ℕ). so_far.line ++ rest) last in
    feed_behind so_far.line [] line rows so_far.no_feed (sym same)
    (omega (arith, ap length same, length-append line (10 ∷ rows), length-append so_far.line []))

-- as many bytes were read as a line of heads may not have
pub no_short_line : (delimiter : Delimiter) (old mid : Option (List ℕ)) (count : ℕ)
    → ReadsLine delimiter old mid most_heads count → HasNoLine old
no_short_line delimiter old mid count so_far line rows is short = grind (arith, feed_behind)

-- the line that was read is one of heads
pub heads_are : (delimiter : Delimiter) (old new : Option (List ℕ)) (found count : ℕ) → EndsLine delimiter old new found
    → ((line : List ℕ) → count_by (parts delimiter) line ≡ found → HasFields delimiter count line)
    → (file : List ℕ) → old ≡ Some file
    → (rows : List ℕ) × (new ≡ Some rows) × HasHeads delimiter count file rows
heads_are delimiter old new found count ends enough file is =
    let e = ends file is in (
      e.1,
      e.2,
      record {
        heads = e.0;
        parted = e.3;
        one_line = e.4.0;
        short = e.4.1;
        fields = enough e.0 e.5;
      },
    )

-- the line that was read has another number of fields
pub other_heads : (delimiter : Delimiter) (old new : Option (List ℕ)) (found count : ℕ)
    → EndsLine delimiter old new found → found + 1 ≢ count → found ≢ count
    → (file rows : List ℕ) → old ≡ Some file → HasHeads delimiter count file rows → ⊥
other_heads delimiter old new found count ends not_fewer not_as_many file rows is has = grind (arith, same_line, ⊎_elim)

-- the rows below the heads of a file are one text
pub one_rows : (delimiter : Delimiter) (count : ℕ) (file one other : List ℕ) → HasHeads delimiter count file one
    → HasHeads delimiter count file other → one ≡ other
one_rows delimiter count file one other has also = grind (arith, same_line, append_cancel_left)
