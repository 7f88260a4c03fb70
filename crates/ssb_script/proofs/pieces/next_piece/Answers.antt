use Rattle.std.proofs.Common.{◌≡◌, ◌<◌, sym, subst, length, take, arith, eqb-true, ◌∙◌}
use Rattle.std.proofs.lemmas.Bool.{eqb-false}
use Rattle.std.specs.Io.BufRead.{FillKeeps}
use Rattle.std.proofs.BufReadLemmas.{Consumes_shown}
use Rattle.ssb_text.specs.TextLines.{HasNoLineEnd}
use Rattle.ssb_script.specs.Taking.{Took}
use Rattle.std.proofs.lemmas.Result.{err_from_is_err_and}
use Rattle.ssb_script.proofs.TakingLaws.{took_nothing, shown_none, shown_some}
use Rattle.ssb_script.proofs.pieces.next_piece.Goals as goal

pub returns-in-Err-clause-took : goal.returns-in-Err-clause-took
returns-in-Err-clause-took g c =
    took_nothing _ _ c.args.buffer.now.items _ c.fill_buf.follows.holds-at-none.0
    (c.after_error.ensures c.args.limit (length c.args.buffer.now.items) (g.R.Read.remaining c.args.reader.now))

pub returns-then-is_empty-clause-took : goal.returns-then-is_empty-clause-took
returns-then-is_empty-clause-took g c =
    let none : length c.in-Ok.available.now ≡ 0 = eqb-true _ _ (sym c.is_empty.ensures ∙ c.if-is_empty.true) in
    took_nothing _ _ c.args.buffer.now.items _ c.fill_buf.follows.holds-at-none.0
    (tt, shown_none (g.R.Read.remaining c.args.reader.now) c.in-Ok.available.now c.in-Ok.ensures.end none)

pub returns-then-room-eq0-clause-took : goal.returns-then-room-eq0-clause-took
returns-then-room-eq0-clause-took g c =
    let full : length c.args.buffer.now.items ≡ c.args.limit = omega (arith, c.args.buffer.now.ok.0) in
    let filled = eqb-false _ _ (sym c.is_empty.ensures ∙ c.if-is_empty.false) in
    let some : 0 < length c.in-Ok.available.now = omega arith in
    took_nothing _ _ c.args.buffer.now.items _ c.fill_buf.follows.holds-at-none.0
    (tt, full, shown_some (g.R.Read.remaining c.args.reader.now) c.in-Ok.available.now c.in-Ok.ensures.front some)

pub returns-in_err-extend_from_slice-clause-took : goal.returns-in_err-extend_from_slice-clause-took
returns-in_err-extend_from_slice-clause-took g c =
    let why = err_from_is_err_and c.from_residual.result c.from_residual.ensures.1 in
    let took : Took (g.R.Read.remaining c.args.reader.now) (g.R.Read.remaining c.fill_buf.follows.lender-at-none)
    c.args.buffer.now.items c.args.buffer.now.items HasNoLineEnd =
    took_nothing _ _ c.args.buffer.now.items _ c.fill_buf.follows.holds-at-none.0 tt in
    rw (why.1, why.2, c.in_err-extend_from_slice.ensures.items) took

pub returns-clause-took : goal.returns-clause-took
returns-clause-took g c =
    let items = c.in_ok-extend_from_slice.ensures.items in
    let piece = c.piece_of-count in
    let rested = c.fill_buf.follows.lender-at-none in
    let filled = subst (FillKeeps _ (g.R.Read.remaining rested) (g.R.BufRead.consumable_len rested)) c.in-Ok.is
    c.fill_buf.follows.holds-at-none in
    let moved = Consumes_shown _ _ _ _ c.in-Ok.available.now piece.result.0 piece.ensures.within
    c.in-Ok.ensures.front c.in-Ok.ensures.end filled.0 filled.1 c.consume.ensures.bytes in
    record {
      bytes = take c.piece_of-count.result.0 c.in-Ok.available.now;
      appended = items;
      taken = moved.0;
      is = piece.ensures.piece (g.R.Read.remaining c.args.reader.now);
    }
