-- Laws of the lines of a text.
use Rattle.std.proofs.Common.{◌≡◌, ◌≢◌, ◌<◌, ◌+◌, ◌⊎◌, inl, inr, ℕ, List, [], ◌∷◌, ◌++◌, length, take, get_or, refl}
use Rattle.std.proofs.Common.{sym, ap, subst, ◌∙◌, append_assoc}
use Rattle.std.specs.List.{AllByRecursion, concat}
use Rattle.std.proofs.lemmas.Bool.Decides.{eqb_tells}
use Rattle.std.proofs.lemmas.List.{take_more}
use Rattle.ssb_text.specs.TextLines.{AreLines, HasItsLines, HasNoLineEnd, IsLine}

-- two lines at the front of one text are one
pub same_line : (a b x y : List ℕ) → IsLine a → IsLine b → a ++ x ≡ b ++ y → (a ≡ b) × (x ≡ y)
same_line [] b x y p q e = absurd p
same_line (a ∷ cs) [] x y p q e = absurd q
same_line (a ∷ []) (b ∷ []) x y p q e = (cc, cc)
same_line (a ∷ []) (b ∷ d ∷ bs) x y p q e = absurd (q.0 cc)
same_line (a ∷ c ∷ cs) (b ∷ []) x y p q e = absurd (p.0 cc)
same_line (a ∷ c ∷ cs) (b ∷ d ∷ bs) x y p q e =
    let tails : (c ∷ cs) ++ x ≡ (d ∷ bs) ++ y = cc in
    let rest = same_line (c ∷ cs) (d ∷ bs) x y p.1 q.1 tails in
    let same = rest.0 in
    (cc, rest.1)

-- no line stands at the front of bytes without an LF
pub no_line_before_end : (line more bytes : List ℕ) → IsLine line → HasNoLineEnd bytes → bytes ≡ line ++ more → ⊥
no_line_before_end [] more bytes p n e = p
no_line_before_end (b ∷ line) more [] p n e = cc
no_line_before_end (b ∷ []) more (c ∷ bytes) p n e = n.0 cc
no_line_before_end (b ∷ d ∷ line) more (c ∷ bytes) p n e = no_line_before_end (d ∷ line) more bytes p.1 n.1 cc

-- two lines, with more behind each, at the front of one text
pub same_front : (a b cs bs x y : List ℕ) → IsLine a → IsLine b → (a ++ cs) ++ x ≡ (b ++ bs) ++ y
    → (a ≡ b) × (cs ++ x ≡ bs ++ y)
same_front a b cs bs x y p q e =
    same_line a b (cs ++ x) (bs ++ y) p q (sym (append_assoc a cs x) ∙ e ∙ append_assoc b bs y)

-- bytes without an LF, and a line behind them, are a line
pub line-append : (xs line : List ℕ) → HasNoLineEnd xs → IsLine line → IsLine (xs ++ line)
line-append [] line n p = p
line-append (b ∷ []) [] n p = absurd p
line-append (b ∷ []) (c ∷ line) n p = (n.0, p)
line-append (b ∷ c ∷ xs) line n p = (n.0, line-append (c ∷ xs) line n.1 p)

pub no_line_end-append : (xs ys : List ℕ) → HasNoLineEnd xs → HasNoLineEnd ys → HasNoLineEnd (xs ++ ys)
no_line_end-append [] ys n m = m
no_line_end-append (b ∷ xs) ys n m = (n.0, no_line_end-append xs ys n.1 m)

-- the same of the front of bytes, up to a place
pub no_line_end-more : (bytes : List ℕ) (i : ℕ) → i < length bytes → get_or bytes i 0 ≢ 10
    → HasNoLineEnd (take i bytes) → HasNoLineEnd (take (i + 1) bytes)
no_line_end-more bytes i within other n =
    subst HasNoLineEnd (sym (take_more bytes i 0 within))
    (no_line_end-append (take i bytes) (get_or bytes i 0 ∷ []) n (other, tt))

pub line-more : (bytes : List ℕ) (i : ℕ) → i < length bytes → get_or bytes i 0 ≡ 10
    → HasNoLineEnd (take i bytes) → IsLine (take (i + 1) bytes)
line-more bytes i within end n =
    subst IsLine (sym (take_more bytes i 0 within)) (line-append (take i bytes) (get_or bytes i 0 ∷ []) n end)

-- the lines of a text
line_front : (b : ℕ) (text : List ℕ) (lines : List (List ℕ)) (last : List ℕ) → b ≢ 10 → AreLines text lines last
    → (all : List (List ℕ)) × (end : List ℕ) × AreLines (b ∷ text) all end
line_front b text [] last other are =
    ([], b ∷ last, record { joined = ap (λ t. b ∷ t) are.joined; each = tt; behind = (other, are.behind) })
line_front b text ([] ∷ lines) last other are = absurd are.each.0
line_front b text ((c ∷ line) ∷ lines) last other are = (
  (b ∷ c ∷ line) ∷ lines,
  last,
  record {
    joined = ap (λ t. b ∷ t) are.joined;
    each = ((other, are.each.0), are.each.1);
    behind = are.behind;
  },
)

decided : (b : ℕ) → (b ≡ 10) ⊎ (b ≢ 10)
decided b = elim (eqb_tells b 10) [ inl is ↦ inl is.1 | inr other ↦ inr other.1 ]

pub lines_of : (text : List ℕ) → (lines : List (List ℕ)) × (last : List ℕ) × AreLines text lines last
lines_of [] = ([], [], record { joined = refl; each = tt; behind = tt })
lines_of (b ∷ text) =
    let rest = lines_of text in
    elim (decided b) [
      | inl end ↦ (
        (b ∷ []) ∷ rest.0,
        rest.1,
        record {
          joined = ap (λ t. b ∷ t) rest.2.joined;
          each = (end, rest.2.each);
          behind = rest.2.behind;
        },
      )
      | inr other ↦ line_front b text rest.0 rest.1 other rest.2
    ]

same_lines : (ls ms : List (List ℕ)) (x y : List ℕ) → AllByRecursion IsLine ls → AllByRecursion IsLine ms
    → HasNoLineEnd x → HasNoLineEnd y → concat ls ++ x ≡ concat ms ++ y → (ls ≡ ms) × (x ≡ y)
same_lines [] [] x y al am p q e = (refl, e)
same_lines [] (m ∷ ms) x y al am p q e =
    absurd (no_line_before_end m (concat ms ++ y) x am.0 p (e ∙ append_assoc m (concat ms) y))
same_lines (l ∷ ls) [] x y al am p q e =
    absurd (no_line_before_end l (concat ls ++ x) y al.0 q (sym e ∙ append_assoc l (concat ls) x))
same_lines (l ∷ ls) (m ∷ ms) x y al am p q e =
    let front = same_front l m (concat ls) (concat ms) x y al.0 am.0 e in
    let others = same_lines ls ms x y al.1 am.1 p q front.1 in
    let head = front.0 in
    let tail = others.0 in
    (cc, others.1)

-- a text has its lines, and no others
pub text_has_lines : (text : List ℕ) → HasItsLines text
text_has_lines text =
    let lines = lines_of text in (
      lines.0,
      lines.1,
      lines.2,
      λ others end are.
          same_lines others lines.0 end lines.1 are.each lines.2.each are.behind lines.2.behind
          (sym are.joined ∙ lines.2.joined),
    )
