use Rattle.std.proofs.Common.{◌≡◌, ◌++◌, ◌∷◌, [], rules}
use Rattle.store_folder.proofs.ChainLaws.{chain_more}
use Rattle.store_folder.proofs.finding.chain.Goals as goal
use Rattle.store_folder.proofs.finding.chain.Goals.{then-number-last+in_ok-next+in-Some+in_ok-push, then-number-last+in_ok-next+in_default, else-number-last}

pub loop-number-preserved : goal.loop-number-preserved
loop-number-preserved g c =
    elim c.if-number-last.branch [
      | then-number-last+in_ok-next+in-Some+in_ok-push w ↦
          let items : w.push.new.self.items ≡ c.loop-number.closed.items ++ c.loop-number.last ∷ [] = search rules in
          rw (w.closed-is, w.last-is, items)
          (chain_more c.args.sizes.after c.loop-number.closed.items c.loop-number.last _ c.loop-number.invariant w.if-number-last.true)
      | then-number-last+in_ok-next+in_default w ↦ rw (w.closed-is, w.last-is) c.loop-number.invariant
      | else-number-last w ↦ rw (w.closed-is, w.last-is) c.loop-number.invariant
    ]
