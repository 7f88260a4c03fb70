use Rattle.std.proofs.Common.{arith}
-- Laws of a request: at the front of a text there is one at most, and none where no line has ended it.
use Rattle.std.proofs.Common.{◌≡◌, ℕ, Bool, true, false, List, [], ◌∷◌, ◌++◌, Option, Some, None, is_none, refl, sym}
use Rattle.std.proofs.Common.{ap, subst, ◌∙◌, append_assoc, append-nil}
use Rattle.std.specs.List.{AllByRecursion, concat}
use Rattle.ssb_text.specs.TextLines.{HasNoLineEnd, IsLine}
use Rattle.ssb_script.specs.Blocks.{opens, closes, begun_behind, ends_request}
use Rattle.ssb_script.specs.Cutting.{EndAt, MakeRequest, IsRequest, IsUnfinished}
use Rattle.ssb_script.specs.Taking.{AreOpen, IsOpen}
use Rattle.ssb_script.specs.declared.block.BlockKind.{BlockKind}
use Rattle.ssb_text.proofs.LineLaws.{same_front, no_line_before_end}

abbrev AreLinesAll : List (List ℕ) → Type 0
AreLinesAll lines = AllByRecursion IsLine lines

abbrev HasNoEnd : BlockKind → List (List ℕ) → Type 0
HasNoEnd block lines = AllByRecursion (λ line. closes block line ≡ false) lines

clash : {l m : List ℕ} (test : List ℕ → Bool) → l ≡ m → test l ≡ true → test m ≡ false → ⊥
clash test same holds fails = cc

-- a line begins one block at most
unlike : {l m : List ℕ} {block : BlockKind} (test : List ℕ → Option BlockKind)
    → l ≡ m → test l ≡ None → test m ≡ Some block → ⊥
unlike test same none some = cc

some_is : {X : Type 0} {a b : X} → Some a ≡ Some b → a ≡ b
some_is e = cc

one_block : {l m : List ℕ} {a b : BlockKind} → l ≡ m → opens l ≡ Some a → opens m ≡ Some b → a ≡ b
one_block same p q = some_is (sym p ∙ ap opens same ∙ q)

-- the lines through the first that ends a block
same_ends : (block : BlockKind) (ls ms : List (List ℕ)) (x y : List ℕ) → AreLinesAll ls → AreLinesAll ms
    → EndAt block ls → EndAt block ms → concat ls ++ x ≡ concat ms ++ y → (ls ≡ ms) × (x ≡ y)
same_ends block [] ms x y al am p q e = absurd p
same_ends block (l ∷ ls) [] x y al am p q e = absurd q
same_ends block (l ∷ []) (m ∷ []) x y al am p q e =
    let front = same_front l m [] [] x y al.0 am.0 e in
    (ap (λ k. k ∷ []) front.0, front.1)
same_ends block (l ∷ []) (m ∷ n ∷ ms) x y al am p q e =
    let front = same_front l m [] (concat (n ∷ ms)) x y al.0 am.0 e in
    absurd (clash (closes block) front.0 p q.0)
same_ends block (l ∷ k ∷ ls) (m ∷ []) x y al am p q e =
    let front = same_front l m (concat (k ∷ ls)) [] x y al.0 am.0 e in
    absurd (clash (closes block) (sym front.0) q p.0)
same_ends block (l ∷ k ∷ ls) (m ∷ n ∷ ms) x y al am p q e =
    let front = same_front l m (concat (k ∷ ls)) (concat (n ∷ ms)) x y al.0 am.0 e in
    let rest = same_ends block (k ∷ ls) (n ∷ ms) x y al.1 am.1 p.1 q.1 front.1 in
    let head = front.0 in
    let tail = rest.0 in
    (cc, rest.1)

same_lines : (ls ms : List (List ℕ)) (x y : List ℕ) → AreLinesAll ls → AreLinesAll ms → MakeRequest ls
    → MakeRequest ms → concat ls ++ x ≡ concat ms ++ y → (ls ≡ ms) × (x ≡ y)
same_lines [] ms x y al am p q e = absurd p
same_lines (l ∷ ls) [] x y al am p q e = absurd q
same_lines (l ∷ []) (m ∷ []) x y al am p q e =
    let front = same_front l m [] [] x y al.0 am.0 e in
    (ap (λ k. k ∷ []) front.0, front.1)
same_lines (l ∷ []) (m ∷ n ∷ ms) x y al am p q e =
    let front = same_front l m [] (concat (n ∷ ms)) x y al.0 am.0 e in
    absurd (unlike opens front.0 p q.1)
same_lines (l ∷ k ∷ ls) (m ∷ []) x y al am p q e =
    let front = same_front l m (concat (k ∷ ls)) [] x y al.0 am.0 e in
    absurd (unlike opens (sym front.0) q p.1)
same_lines (l ∷ k ∷ ls) (m ∷ n ∷ ms) x y al am p q e =
    let front = same_front l m (concat (k ∷ ls)) (concat (n ∷ ms)) x y al.0 am.0 e in
    let block = one_block front.0 p.1 q.1 in
    let ends = subst (λ b. EndAt b (n ∷ ms)) (sym block) q.2 in
    let rest = same_ends p.0 (k ∷ ls) (n ∷ ms) x y al.1 am.1 p.2 ends front.1 in
    let head = front.0 in
    let tail = rest.0 in
    (cc, rest.1)

-- two requests at the front of one text are one
pub same_request : (a b x y : List ℕ) → IsRequest a → IsRequest b → a ++ x ≡ b ++ y → (a ≡ b) × (x ≡ y)
same_request a b x y p q e = grind (arith, same_lines)

-- where no line has ended a block, and then no line has ended, it goes on
no_end : (block : BlockKind) (ls ms : List (List ℕ)) (tail more : List ℕ) → AreLinesAll ls → HasNoEnd block ls
    → HasNoLineEnd tail → AreLinesAll ms → EndAt block ms → concat ls ++ tail ≡ concat ms ++ more → ⊥
no_end block ls [] tail more al opened last am q e = q
no_end block [] (m ∷ ms) tail more al opened last am q e =
    no_line_before_end m (concat ms ++ more) tail am.0 last (e ∙ append_assoc m (concat ms) more)
no_end block (l ∷ ls) (m ∷ []) tail more al opened last am q e =
    let front = same_front l m (concat ls) [] tail more al.0 am.0 e in
    clash (closes block) (sym front.0) q opened.0
no_end block (l ∷ ls) (m ∷ n ∷ ms) tail more al opened last am q e =
    let front = same_front l m (concat ls) (concat (n ∷ ms)) tail more al.0 am.0 e in
    no_end block ls (n ∷ ms) tail more al.1 opened.1 last am.1 q.1 front.1

no_request : (begun : Option BlockKind) (ls ms : List (List ℕ)) (tail more : List ℕ) → AreLinesAll ls → AreOpen begun ls
    → HasNoLineEnd tail → AreLinesAll ms → MakeRequest ms → concat ls ++ tail ≡ concat ms ++ more → ⊥
no_request begun ls [] tail more al opened last am q e = q
no_request begun [] (m ∷ ms) tail more al opened last am q e =
    no_line_before_end m (concat ms ++ more) tail am.0 last (e ∙ append_assoc m (concat ms) more)
no_request None (l ∷ ls) (m ∷ ms) tail more al opened last am q e = cc
no_request (Some block) (l ∷ ls) (m ∷ []) tail more al opened last am q e =
    let front = same_front l m (concat ls) [] tail more al.0 am.0 e in
    unlike opens (sym front.0) q opened.0
no_request (Some block) (l ∷ ls) (m ∷ n ∷ ms) tail more al opened last am q e =
    let front = same_front l m (concat ls) (concat (n ∷ ms)) tail more al.0 am.0 e in
    let same = one_block front.0 opened.0 q.1 in
    let ends = subst (λ b. EndAt b (n ∷ ms)) (sym same) q.2 in
    no_end block ls (n ∷ ms) tail more al.1 opened.1 last am.1 ends front.1

-- what was begun and has no end yet, and then bytes without an LF
pub open_is_unfinished : (begun : Option BlockKind) (bytes tail : List ℕ) → IsOpen begun bytes → HasNoLineEnd tail
    → IsUnfinished (bytes ++ tail)
open_is_unfinished begun bytes tail opened last = grind (arith, no_request)

-- one more line behind lines
pub concat-push : (lines : List (List ℕ)) (line : List ℕ) → concat (lines ++ line ∷ []) ≡ concat lines ++ line
concat-push [] line = append-nil line
concat-push (l ∷ lines) line = ap (λ b. l ++ b) (concat-push lines line) ∙ sym (append_assoc l (concat lines) line)

pub all-push : (P : List ℕ → Type 0) (lines : List (List ℕ)) (line : List ℕ) → AllByRecursion P lines → P line
    → AllByRecursion P (lines ++ line ∷ [])
all-push P [] line all is = (is, tt)
all-push P (l ∷ lines) line all is = (all.0, all-push P lines line all.1 is)

ends-push : (block : BlockKind) (lines : List (List ℕ)) (line : List ℕ) → HasNoEnd block lines
    → closes block line ≡ true → EndAt block (lines ++ line ∷ [])
ends-push block [] line opened is = is
ends-push block (l ∷ []) line opened is = (opened.0, is)
ends-push block (l ∷ k ∷ lines) line opened is = (opened.0, ends-push block (k ∷ lines) line opened.1 is)

none_of : (o : Option BlockKind) → is_none o ≡ true → o ≡ None
none_of None e = refl
none_of (Some block) e = absurd cc

some_of : (o : Option BlockKind) → is_none o ≡ false → (block : BlockKind) × (o ≡ Some block)
some_of None e = absurd cc
some_of (Some block) e = (block, refl)

makes-push : (begun : Option BlockKind) (lines : List (List ℕ)) (line : List ℕ) → AreOpen begun lines
    → ends_request begun line ≡ true → MakeRequest (lines ++ line ∷ [])
makes-push None [] line opened ends = grind (arith, none_of)
makes-push None (l ∷ lines) line opened ends = grind arith
makes-push (Some block) [] line opened ends = grind arith
makes-push (Some block) (l ∷ []) line opened ends = grind arith
makes-push (Some block) (l ∷ k ∷ lines) line opened ends = grind (arith, ends-push)

opens-push : (begun : Option BlockKind) (lines : List (List ℕ)) (line : List ℕ) → AreOpen begun lines
    → ends_request begun line ≡ false → AreOpen (begun_behind begun line) (lines ++ line ∷ [])
opens-push None [] line opened ends =
    let some = some_of (opens line) ends in
    subst (λ (o : Option BlockKind). AreOpen o (line ∷ [])) (sym some.1) (some.1, tt)
opens-push None (l ∷ lines) line opened ends = absurd cc
opens-push (Some block) [] line opened ends = absurd opened
opens-push (Some block) (l ∷ lines) line opened ends =
    (opened.0, all-push (λ next. closes block next ≡ false) lines line opened.1 ends)

-- a line that ends what was begun makes a request of it
pub line_ends : (begun : Option BlockKind) (bytes line : List ℕ) → IsOpen begun bytes → IsLine line
    → ends_request begun line ≡ true → IsRequest (bytes ++ line)
line_ends begun bytes line opened is ends = record {
  lines = opened.lines ++ line ∷ [];
  joined = ap (λ b. b ++ line) opened.joined ∙ sym (concat-push opened.lines line);
  each = all-push IsLine opened.lines line opened.each is;
  makes = makes-push begun opened.lines line opened.begins ends;
}

-- any other line goes on with it
pub line_goes_on : (begun : Option BlockKind) (bytes line : List ℕ) → IsOpen begun bytes → IsLine line
    → ends_request begun line ≡ false → IsOpen (begun_behind begun line) (bytes ++ line)
line_goes_on begun bytes line opened is ends = record {
  lines = opened.lines ++ line ∷ [];
  joined = ap (λ b. b ++ line) opened.joined ∙ sym (concat-push opened.lines line);
  each = all-push IsLine opened.lines line opened.each is;
  begins = opens-push begun opened.lines line opened.begins ends;
}

-- at the start nothing is begun
pub nothing_open : IsOpen None []
nothing_open = record { lines = []; joined = refl; each = tt; begins = refl }

-- no request has no bytes
pub nothing_is_unfinished : IsUnfinished []
nothing_is_unfinished = open_is_unfinished None [] [] nothing_open tt
