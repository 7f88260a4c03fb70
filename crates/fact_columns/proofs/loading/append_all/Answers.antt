use Rattle.std.proofs.Common.{◌≡◌, ◌++◌, ◌∙◌, ◌+◌, List, Result, Ok, get_or, ap, subst, sym, arith, rules}
use Rattle.std.proofs.lemmas.List.{take_all}
use Rattle.std.specs.List.{flat_map}
use Rattle.std.specs.declared.alloc.AllocError.{AllocError}
use Rattle.ssb_schema.specs.declared.fact.Fact.{Fact}
use Rattle.ssb_schema.specs.Facts.{facts_of}
use Rattle.fact_columns.specs.Columns.{Held}
use Rattle.fact_columns.specs.Coded.{AreCodesOf}
use Rattle.fact_columns.proofs.CodingLaws.{facts_until, piece_more, tables_count}
use Rattle.fact_columns.proofs.loading.append_all.Goals as goal

pub loop-piece-preserved : goal.loop-piece-preserved
loop-piece-preserved c = λ dimensions before lines old coded.
    let i = c.loop-piece.piece-index in
    let table : Result Held AllocError = Ok c.in-Ok.piece in
    let is : table ≡ get_or c.args.pieces.now i table = search rules in
    subst (AreCodesOf dimensions (before ++ facts_until (i + 1) coded.pieces)) (sym c.in_ok-append-in-Ok.ensures.places)
    (piece_more dimensions before coded.pieces c.args.pieces.now i c.in-Ok.piece c.loop-piece.columns.places coded.coded
    c.loop-piece-test.true is (c.loop-piece.invariant dimensions before lines old coded))

pub returns : goal.returns
returns c = λ dimensions before lines old coded.
    let count = tables_count dimensions coded.pieces c.args.pieces.now coded.coded in
    subst (λ (f : List Fact). AreCodesOf dimensions (before ++ f) c.loop-piece.columns.places)
    (ap (λ l. facts_of (flat_map (λ piece. piece) l)) (take_all c.loop-piece.piece-index coded.pieces
    (omega (arith, count, c.loop-piece-test.false))) ∙ ap facts_of coded.whole)
    (c.loop-piece.invariant dimensions before lines old coded)
