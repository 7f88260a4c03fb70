use Rattle.std.proofs.Common.{◌∙◌, [], List, ℕ, append-nil, subst, sym}
use Rattle.std.specs.Io.KnownBytes.{Appends}
use Rattle.journal.specs.Groups.{block}
use Rattle.ssb_text.specs.Written.{AppendsPart}
use Rattle.ship_command.proofs.StreamLaws.{on_err, on_ok, ships_alive, ships_alive_part, ships_kept, ships_part}
use Rattle.ship_command.proofs.shipping.send_alive.Goals as goal

pub returns-in_err-sign-clause-part : goal.returns-in_err-sign-clause-part
returns-in_err-sign-clause-part g c =
    let now = g.W.Write.contents c.args.out.now in
    on_err c.from_residual.result _ (λ past after groups first ships. ships_part past after groups [] groups first now ships
    (sym (append-nil groups)))

pub returns-in_err-send-clause-part : goal.returns-in_err-send-clause-part
returns-in_err-send-clause-part g c =
    let old = g.W.Write.contents c.args.out.now in
    let new = g.W.Write.contents c.send.new.out in
    let part = subst (λ (bytes : List ℕ). AppendsPart old new (block bytes)) (c.deref.ensures.value ∙ c.in_ok-sign.ensures)
    c.in_err-send.ensures.part in
    on_err c.from_residual-in_err-send.result _ (λ past after groups first ships.
    ships_alive_part past after groups first old new ships part)

pub returns-clause-ships : goal.returns-clause-ships
returns-clause-ships g c =
    let old = g.W.Write.contents c.args.out.now in
    let mid = g.W.Write.contents c.send.new.out in
    let new = g.W.Write.contents c.hand_on.new.out in
    let written = subst (λ (bytes : List ℕ). Appends old mid (block bytes)) (c.deref.ensures.value ∙ c.in_ok-sign.ensures)
    c.in_ok-send.ensures.written in
    on_ok c.hand_on.result _ (λ past after groups first ships.
    ships_kept past after groups first mid new (ships_alive past after groups first old mid ships written) c.hand_on.ensures.kept)

pub returns-clause-part : goal.returns-clause-part
returns-clause-part g c =
    let old = g.W.Write.contents c.args.out.now in
    let mid = g.W.Write.contents c.send.new.out in
    let new = g.W.Write.contents c.hand_on.new.out in
    let written = subst (λ (bytes : List ℕ). Appends old mid (block bytes)) (c.deref.ensures.value ∙ c.in_ok-sign.ensures)
    c.in_ok-send.ensures.written in
    on_err c.hand_on.result _ (λ past after groups first ships.
    ships_part past after groups [] groups first new
    (ships_kept past after groups first mid new (ships_alive past after groups first old mid ships written) c.hand_on.ensures.kept)
    (sym (append-nil groups)))
