use Rattle.std.proofs.Common.{◌≡◌, ◌∙◌, ◌++◌, List, ℕ, ap, arith, drop, length, sym}
use Rattle.std.proofs.lemmas.Bool.{both_ways}
use Rattle.std.proofs.lemmas.Bool.Decides.{Decides-eqb}
use Rattle.std.proofs.lemmas.List.{take_rest}
use Rattle.std.proofs.lemmas.Slice.Eq.{starts_is}
use Rattle.store_folder.specs.Texts.{head_block, head_text}
use Rattle.store_folder.proofs.HeadLaws.{long, text_is}
use Rattle.store_folder.proofs.segment_head.SegmentHead.read.Goals as goal

pub returns-then-bytes-lt-BEFORE_TEXT-clause-read_back : goal.returns-then-bytes-lt-BEFORE_TEXT-clause-read_back
returns-then-bytes-lt-BEFORE_TEXT-clause-read_back c = λ after before store rest is same.
    absurd (omega (arith, long (head_text after store before) rest c.args.bytes.now same, c.if-bytes-lt-BEFORE_TEXT.true))

pub returns-in_default-clause-read_back : goal.returns-in_default-clause-read_back
returns-in_default-clause-read_back c = λ after before store rest is same.
    absurd (c.in_default.ensures after before store rest is
    (take_rest c.args.bytes.now 51 ∙ text_is (head_text after store before) rest c.args.bytes.now same))

pub returns-then-starts_with-clause-found : goal.returns-then-starts_with-clause-found
returns-then-starts_with-clause-found c =
    let block : c.deref.result.now ≡ head_block c.in-Some.head.after c.in-Some.head.of.now c.in-Some.head.before =
    c.deref.ensures.value ∙ c.in_ok-block.ensures in (
      (
        drop (length c.deref.result.now) c.args.bytes.now,
        (starts_is Decides-eqb c.args.bytes.now c.deref.result.now c.starts_with.result c.starts_with.ensures.value).0 c.if-starts_with.true
            ∙ ap (λ (l : List ℕ). l ++ drop (length c.deref.result.now) c.args.bytes.now) block,
      ),
      omega (arith, c.len.ensures, c.in_ok-block.block.ok.0, c.in_ok-block.block.ok.1, ap length c.in_ok-block.ensures),
    )

pub returns-then-starts_with-clause-read_back : goal.returns-then-starts_with-clause-read_back
returns-then-starts_with-clause-read_back c = λ after before store rest is same.
    c.in-Some.ensures after before store rest is
    (take_rest c.args.bytes.now 51 ∙ text_is (head_text after store before) rest c.args.bytes.now same)

pub returns-clause-read_back : goal.returns-clause-read_back
returns-clause-read_back c = λ after before store rest is same.
    let head = c.in-Some.head in
    let read = c.in-Some.ensures after before store rest is
    (take_rest c.args.bytes.now 51 ∙ text_is (head_text after store before) rest c.args.bytes.now same) in
    let equal : head_block head.after head.of.now head.before ≡ head_block after store before =
    ap (λ (n : ℕ). head_block n head.of.now head.before) read.0 ∙ ap (λ (l : List ℕ). head_block after l head.before) read.1
    ∙ ap (λ (n : ℕ). head_block after store n) read.2 in
    let block : c.deref.result.now ≡ head_block after store before = c.deref.ensures.value ∙ c.in_ok-block.ensures ∙ equal in
    absurd (both_ways _ c.if-starts_with.false
    ((starts_is Decides-eqb c.args.bytes.now c.deref.result.now c.starts_with.result c.starts_with.ensures.value).1 rest
    (same ∙ ap (λ (l : List ℕ). l ++ rest) (sym block))))
