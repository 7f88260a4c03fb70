use Rattle.std.proofs.Common.{◌≡◌, ◌∙◌, IfOk, rules, sym, subst}
use Rattle.fact_columns.specs.Places.{live_facts}
use Rattle.fact_columns.specs.Stored.{columns_state}
use Rattle.row_store.specs.State.{StandsFor}
use Rattle.shared_scan.specs.Answers.{Prepared, answers_after, answers_over}
use Rattle.shared_scan.specs.Batch.{questions_of}
use Rattle.shared_scan.specs.Lines.{AreOfBase, HavePlaces}
use Rattle.shared_scan.proofs.ScanLaws.{if_ok_then}
use Rattle.shared_scan.proofs.HistoryLaws.{of_base, answers_of_history}
use Rattle.shared_scan.proofs.prepared.PreparedBatch.scan.Goals as goal

pub scan_lines-requires : goal.scan_lines-requires
scan_lines-requires g c =
    let columns = c.self.inside.columns.now in
    let P : Prepared → Type 0 = λ p. HavePlaces p.columns.base c.line_columns.result in (
      search rules,
      subst P c.self.view_is (record {
        places = columns.places;
        columns_are = c.line_columns.ensures.columns;
        of_base = of_base columns c.line_columns.ensures.read c.self.invariant.small;
      }),
    )

pub returns : goal.returns
returns g c = record {
  answers = λ history stands.
      let columns = c.self.inside.columns.now in
      let P : Prepared → Type 0 = λ p. AreOfBase p.columns.base columns.places
      → IfOk c.scan_lines.result (λ rows. rows.items ≡ answers_over p.columns.base.dimensions
      (live_facts p.columns.base.dimensions columns.places) p.questions) in
      let answered = subst P (sym c.self.view_is)
      (c.scan_lines.ensures columns.places c.line_columns.ensures.columns)
      (of_base columns c.line_columns.ensures.read c.self.invariant.small) in
      let Q : Prepared → Type 0 = λ p. StandsFor (columns_state p.columns) history
      → IfOk c.scan_lines.result (λ rows. rows.items ≡ answers_after p.columns.base history p.questions) in
      subst Q c.self.view_is (λ own. if_ok_then c.scan_lines.result _ _ answered
      (λ rows is. is ∙ answers_of_history columns history (questions_of c.self.inside.questions.items)
      c.line_columns.ensures.read own)) stands;
}
