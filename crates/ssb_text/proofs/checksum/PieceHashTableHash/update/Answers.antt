use Rattle.std.proofs.Common.{◌≡◌, ◌∙◌, ◌++◌, ap, refl, sym, append_assoc}
use Rattle.ssb_text.proofs.ChecksumLaws.{hashed_both}
use Rattle.ssb_text.proofs.checksum.PieceHashTableHash.update.Goals as goal

pub loop-rest-init : goal.loop-rest-init
loop-rest-init c = record {
  whole = c.end_piece.ensures.whole;
  hashed = (
    c.split_at.result.0.now,
    c.split_at.ensures.by_index.0,
    c.end_piece.ensures.hashed,
  );
}

pub loop-rest-preserved : goal.loop-rest-preserved
loop-rest-preserved c =
    let rest = c.loop-rest.rest.now in
    let front = c.split_at-in-loop-rest.result.0.now in
    let behind = c.split_at-in-loop-rest.result.1.now in
    let parts : rest ≡ front ++ behind = c.split_at-in-loop-rest.ensures.by_index.0 in
    let so_far = c.loop-rest.invariant.hashed in
    record {
      whole = c.end_piece-in-loop-rest.ensures.whole;
      hashed = (
        so_far.0 ++ front,
        so_far.1 ∙ ap (λ t. so_far.0 ++ t) parts ∙ sym (append_assoc so_far.0 front behind),
        λ text hashed. hashed_both _ text so_far.0 front _ refl (c.end_piece-in-loop-rest.ensures.hashed (text ++ so_far.0)
            (so_far.2 text hashed)),
      );
    }

pub returns : goal.returns
returns c = λ text hashed.
    let so_far = c.loop-rest.invariant.hashed in
    hashed_both _ text so_far.0 c.loop-rest.rest.now c.args.bytes.now so_far.1
    (c.go_on-2.ensures (text ++ so_far.0) (so_far.2 text hashed))
