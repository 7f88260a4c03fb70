use Rattle.std.proofs.Common.{◌≡◌, ℕ, ◌-◌, ◌≤◌, List, ◌++◌, length, take, drop, ◌∙◌, ap, sym, refl, arith, append_assoc}
use Rattle.std.proofs.Common.{length-drop}
use Rattle.std.proofs.lemmas.List.{take-append-drop, take_all}
use Rattle.ssb_text.proofs.WrittenLaws.{appends_both}
use Rattle.ssb_text.proofs.piece.write_bytes.Goals as goal

-- a list in two parts
split_at : (xs : List ℕ) (n len : ℕ) → n ≤ length xs → length xs ≡ len → xs ≡ take n xs ++ take (len - n) (drop n xs)
split_at xs n len within is =
    sym (take-append-drop n xs) ∙ ap (λ t. take n xs ++ t)
    (sym (take_all (len - n) (drop n xs) (omega (arith, length-drop n xs))))

pub loop-rest-preserved : goal.loop-rest-preserved
loop-rest-preserved g c =
    let inv = c.loop-rest.invariant in
    let contents = g.W.Write.contents in (
      _,
      inv.1 ∙ ap (λ t. inv.0 ++ t) (split_at c.loop-rest.rest.now c.in-Ok.taken _ c.in-Ok.ensures.bound refl)
          ∙ sym (append_assoc inv.0 _ _),
      appends_both (contents c.args.writer.now) (contents c.loop-rest.writer)
          (contents c.write.new.self) inv.0 _ inv.2 c.in-Ok.ensures.bytes,
    )
