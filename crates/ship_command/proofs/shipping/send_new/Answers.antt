use Rattle.std.proofs.Common.{◌≡◌, ◌∙◌, ◌++◌, ◌∷◌, [], ℕ, List, ap, append_assoc, arith, length, length-append, rules, subst, sym}
use Rattle.std.specs.Io.KnownBytes.{Appends}
use Rattle.journal.specs.Groups.{block}
use Rattle.ssb_text.specs.Written.{AppendsPart}
use Rattle.ship_command.specs.Stream.{Ships, ShipsPart}
use Rattle.ship_command.specs.Taken.{HasCount}
use Rattle.ship_command.proofs.StreamLaws.{on_err, ships_kept, ships_more, ships_more_part, ships_part}
use Rattle.ship_command.proofs.shipping.send_new.Goals as goal

pub returns-in_err-next-clause-part : goal.returns-in_err-next-clause-part
returns-in_err-next-clause-part g c =
    let old = c.loop-next.file.followed.groups in
    let new = c.next.new.self.followed.groups in
    let now = g.W.Write.contents c.loop-next.out in
    let grown = c.next.ensures.grown in
    on_err c.from_residual.result _ (λ past after first ships.
    ships_part past after old grown.0 new first now (c.loop-next.invariant.ships past after first ships) grown.1)

pub returns-in_err-hand_on-clause-part : goal.returns-in_err-hand_on-clause-part
returns-in_err-hand_on-clause-part g c =
    let old = c.loop-next.file.followed.groups in
    let new = c.next.new.self.followed.groups in
    let mid = g.W.Write.contents c.loop-next.out in
    let now = g.W.Write.contents c.hand_on.new.out in
    let grown = c.next.ensures.grown in
    on_err c.from_residual-in_err-hand_on.result _ (λ past after first ships.
    ships_part past after old grown.0 new first now
    (ships_kept past after old first mid now (c.loop-next.invariant.ships past after first ships) c.hand_on.ensures.kept) grown.1)

pub returns-in_err-send-clause-part : goal.returns-in_err-send-clause-part
returns-in_err-send-clause-part g c =
    let old = c.loop-next.file.followed.groups in
    let new = c.next.new.self.followed.groups in
    let group = c.in-Some.next.group.items in
    let mid = g.W.Write.contents c.loop-next.out in
    let now = g.W.Write.contents c.send.new.out in
    let step : (new ≡ old ++ group ∷ []) × HasCount c.in-Some.next.commits group = rw c.in-Some.is at c.in_ok-next.ensures.next in
    let part = subst (λ (bytes : List ℕ). AppendsPart mid now (block bytes)) c.deref.ensures.value c.in_err-send.ensures.part in
    on_err c.from_residual-in_err-send.result _ (λ past after first ships.
    subst (λ (groups : List (List ℕ)). ShipsPart past after groups first now) (sym step.0)
    (ships_more_part past after old first mid now group (c.loop-next.invariant.ships past after first ships) part))

pub loop-next-preserved : goal.loop-next-preserved
loop-next-preserved g c =
    let old = c.loop-next.file.followed.groups in
    let new = c.next.new.self.followed.groups in
    let group = c.in-Some.next.group.items in
    let mid = g.W.Write.contents c.loop-next.out in
    let now = g.W.Write.contents c.send.new.out in
    let grown = c.loop-next.invariant.grown in
    let first_groups = c.args.file.now.followed.groups in
    let step : (new ≡ old ++ group ∷ []) × HasCount c.in-Some.next.commits group = rw c.in-Some.is at c.in_ok-next.ensures.next in
    let written = subst (λ (bytes : List ℕ). Appends mid now (block bytes)) c.deref.ensures.value c.in_ok-send.ensures.written in
    record {
      some = omega (arith, ap length step.0, length-append old (group ∷ []));
      ships = λ past after first ships.
          subst (λ (groups : List (List ℕ)). Ships past after groups first now) (sym step.0)
          (ships_more past after old first mid now group (c.loop-next.invariant.ships past after first ships) written);
      grown = (
        grown.0 ++ group ∷ [],
        step.0 ∙ ap (λ (groups : List (List ℕ)). groups ++ group ∷ []) grown.1
            ∙ append_assoc first_groups grown.0 (group ∷ []),
      );
      known = search rules;
    }
