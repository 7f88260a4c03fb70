use Rattle.std.proofs.Common.{◌≡◌, ◌∙◌, ◌++◌, List, ℕ, ap}
use Rattle.std.specs.Prelude.{codes}
use Rattle.std.proofs.lemmas.Result.{IfOk-weaker}
use Rattle.journal.specs.Groups.{block}
use Rattle.ssb_journal.specs.Seals.{sealed}
use Rattle.store_folder.specs.Texts.{head_text, line}
use Rattle.store_folder.proofs.HeadLaws.{written_head}
use Rattle.store_folder.proofs.segment_head.SegmentHead.block.Goals as goal

pub returns : goal.returns
returns c =
    let after = c.args.self.now.after in
    let store = c.args.self.now.of.now in
    let before = c.args.self.now.before in
    let text : c.deref.result.now ≡ head_text after store before =
    c.deref.ensures.value ∙ written_head after before store _ _ _ _ c.in_ok-text.ensures.items
    (c.in_ok-push_line.ensures ∙ ap (λ (l : List ℕ). c.in_ok-text.text.items ++ line (codes "after") l) (c.as_bytes.ensures.value ∙ c.format.ensures.text))
    c.in_ok-push_line-2.ensures
    (c.in_ok-push_line-3.ensures ∙ ap (λ (l : List ℕ). c.push_line-2.new.text.items ++ line (codes "before") l) (c.as_bytes-2.ensures.value ∙ c.format-2.ensures.text)) in
    let group : c.deref-2.result.now ≡ sealed (head_text after store before) =
    c.deref-2.ensures.value ∙ c.in_ok-seal.ensures ∙ ap sealed text in
    IfOk-weaker c.open_block.result _ _ (λ made same. same ∙ ap block group) c.open_block.ensures
