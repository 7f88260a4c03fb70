use Rattle.std.proofs.Common.{◌≡◌, ◌∙◌, ◌++◌, List, ℕ, ap}
use Rattle.std.specs.Prelude.{codes}
use Rattle.std.proofs.lemmas.Result.{IfOk-weaker}
use Rattle.ssb_journal.specs.Seals.{sealed}
use Rattle.store_folder.specs.Texts.{line, tables_text}
use Rattle.store_folder.proofs.HeadLaws.{written_tables}
use Rattle.store_folder.proofs.sizes.Sizes.text.Goals as goal

pub returns : goal.returns
returns c =
    let after = c.args.self.now.after in
    let store = c.args.self.now.of.items in
    let lines = c.args.self.now.lines.items in
    let text : c.deref-3.result.now ≡ tables_text after store lines =
    c.deref-3.ensures.value ∙ written_tables after store lines _ _ _ _ c.in_ok-text.ensures.items
    (c.in_ok-push_line.ensures ∙ ap (λ (l : List ℕ). c.in_ok-text.text.items ++ line (codes "after") l) (c.as_bytes.ensures.value ∙ c.format.ensures.text))
    (c.in_ok-push_line-2.ensures ∙ ap (λ (l : List ℕ). c.push_line.new.text.items ++ line (codes "of") l) c.deref.ensures.value)
    (c.in_ok-extend_from_slice.ensures.items ∙ ap (λ (l : List ℕ). c.push_line-2.new.text.items ++ l) c.deref-2.ensures.value) in
    IfOk-weaker c.seal.result _ _ (λ made same. same ∙ ap sealed text) c.seal.ensures
