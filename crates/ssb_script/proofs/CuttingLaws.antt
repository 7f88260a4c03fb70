-- Laws of the cutting of a text into requests.
use Rattle.std.proofs.Common.{◌≡◌, ℕ, Bool, true, false, List, [], ◌∷◌, ◌++◌, refl, sym, ap, ◌∙◌, append_assoc}
use Rattle.std.proofs.Common.{Option, None, inl, inr, ◌⊎◌}
use Rattle.std.specs.List.{AllByRecursion, concat}
use Rattle.ssb_text.specs.TextLines.{HasNoLineEnd, IsLine}
use Rattle.ssb_text.proofs.LineLaws.{lines_of}
use Rattle.ssb_script.specs.Cutting.{IsRequest, IsUnfinished, IsCutInto}
use Rattle.ssb_script.specs.CuttingLaws.{HasCutting, HasOneCutting, IsCutAsItComes}
use Rattle.ssb_script.specs.Taking.{IsOpen}
use Rattle.ssb_script.specs.Blocks.{begun_behind, ends_request}
use Rattle.ssb_script.specs.declared.block.BlockKind.{BlockKind}
use Rattle.ssb_script.proofs.RequestLaws.{same_request, open_is_unfinished, line_ends, line_goes_on, nothing_open}

-- two requests, with more behind each, at the front of one text
same_first : (a b cs bs x y : List ℕ) → IsRequest a → IsRequest b → (a ++ cs) ++ x ≡ (b ++ bs) ++ y
    → (a ≡ b) × (cs ++ x ≡ bs ++ y)
same_first a b cs bs x y p q e =
    same_request a b (cs ++ x) (bs ++ y) p q (sym (append_assoc a cs x) ∙ e ∙ append_assoc b bs y)

none_in_rest : (q qs rest left : List ℕ) → IsRequest q → IsUnfinished rest → rest ≡ (q ++ qs) ++ left → ⊥
none_in_rest q qs rest left is none e = none q (qs ++ left) is (e ∙ append_assoc q qs left)

same_cuts : (ps qs : List (List ℕ)) (rest left : List ℕ) → AllByRecursion IsRequest ps → AllByRecursion IsRequest qs
    → IsUnfinished rest → IsUnfinished left → concat ps ++ rest ≡ concat qs ++ left → (ps ≡ qs) × (rest ≡ left)
same_cuts [] [] rest left ap' aq r s e = (refl, e)
same_cuts [] (q ∷ qs) rest left ap' aq r s e = absurd (none_in_rest q (concat qs) rest left aq.0 r e)
same_cuts (p ∷ ps) [] rest left ap' aq r s e = absurd (none_in_rest p (concat ps) left rest ap'.0 s (sym e))
same_cuts (p ∷ ps) (q ∷ qs) rest left ap' aq r s e =
    let first = same_first p q (concat ps) (concat qs) rest left ap'.0 aq.0 e in
    let others = same_cuts ps qs rest left ap'.1 aq.1 r s first.1 in
    let head = first.0 in
    let tail = others.0 in
    (cc, others.1)

-- a text is cut in one way only
pub cut_in_one_way : (text : List ℕ) → HasOneCutting text
cut_in_one_way text = λ one other rest left a b.
    same_cuts one other rest left a.each b.each a.unfinished b.unfinished (sym a.joined ∙ b.joined)

-- the requests of a beginning come first
pub goes_on : (ps qs : List (List ℕ)) (rest more left : List ℕ) → AllByRecursion IsRequest ps
    → AllByRecursion IsRequest qs → IsUnfinished left → (concat ps ++ rest) ++ more ≡ concat qs ++ left
    → (next : List (List ℕ)) × (qs ≡ ps ++ next) × IsCutInto (rest ++ more) next left
goes_on [] qs rest more left ap' aq s e = (qs, refl, record { joined = e; each = aq; unfinished = s })
goes_on (p ∷ ps) [] rest more left ap' aq s e =
    absurd (none_in_rest p (concat ps ++ rest) left more ap'.0 s
    (sym e ∙ ap (λ b. b ++ more) (append_assoc p (concat ps) rest)))
goes_on (p ∷ ps) (q ∷ qs) rest more left ap' aq s e =
    let regrouped : (p ++ (concat ps ++ rest)) ++ more ≡ (q ++ concat qs) ++ left =
    ap (λ b. b ++ more) (sym (append_assoc p (concat ps) rest)) ∙ e in
    let first = same_first p q (concat ps ++ rest) (concat qs) more left ap'.0 aq.0 regrouped in
    let others = goes_on ps qs rest more left ap'.1 aq.1 s first.1 in
    let head = first.0 in
    let tail = others.1 in
    (others.0, cc, others.2)

pub cut_as_it_comes_on : (text : List ℕ) → IsCutAsItComes text
cut_as_it_comes_on text = λ requests all rest more left a b.
    goes_on requests all rest more left a.each b.each b.unfinished
    (ap (λ bytes. bytes ++ more) (sym a.joined) ∙ b.joined)

true_or_false : (b : Bool) → (b ≡ true) ⊎ (b ≡ false)
true_or_false true = inl refl
true_or_false false = inr refl

-- the lines behind what is begun, cut
cut_lines : (lines : List (List ℕ)) (begun : Option BlockKind) (bytes last : List ℕ) → AllByRecursion IsLine lines
    → HasNoLineEnd last → IsOpen begun bytes
    → (requests : List (List ℕ)) × (rest : List ℕ) × IsCutInto (bytes ++ (concat lines ++ last)) requests rest
cut_lines [] begun bytes last each none opened =
    let unfinished = open_is_unfinished begun bytes last opened none in
    ([], bytes ++ last, record { joined = refl; each = tt; unfinished = unfinished })
cut_lines (line ∷ lines) begun bytes last each none opened =
    let regrouped : bytes ++ ((line ++ concat lines) ++ last) ≡ (bytes ++ line) ++ (concat lines ++ last) =
    ap (λ t. bytes ++ t) (append_assoc line (concat lines) last)
    ∙ sym (append_assoc bytes line (concat lines ++ last)) in
    elim (true_or_false (ends_request begun line)) [
      | inl ends ↦ let rest = cut_lines lines None [] last each.1 none nothing_open in (
        (bytes ++ line) ∷ rest.0,
        rest.1,
        record {
          joined = regrouped ∙ ap (λ t. (bytes ++ line) ++ t) rest.2.joined
              ∙ sym (append_assoc (bytes ++ line) (concat rest.0) rest.1);
          each = (line_ends begun bytes line opened each.0 ends, rest.2.each);
          unfinished = rest.2.unfinished;
        },
      )
      | inr goes ↦ let more = line_goes_on begun bytes line opened each.0 goes in
          let rest = cut_lines lines (begun_behind begun line) (bytes ++ line) last each.1 none more in (
            rest.0,
            rest.1,
            record {
              joined = regrouped ∙ rest.2.joined;
              each = rest.2.each;
              unfinished = rest.2.unfinished;
            },
          )
    ]

pub text_has_cutting : (text : List ℕ) → HasCutting text
text_has_cutting text =
    let lines = lines_of text in
    let cut = cut_lines lines.0 None [] lines.1 lines.2.each lines.2.behind nothing_open in (
      cut.0,
      cut.1,
      record {
        joined = lines.2.joined ∙ cut.2.joined;
        each = cut.2.each;
        unfinished = cut.2.unfinished;
      },
    )
