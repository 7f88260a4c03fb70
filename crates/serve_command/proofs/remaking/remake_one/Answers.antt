use Rattle.std.proofs.Common.{◌∙◌, arith, ap}
use Rattle.row_store.specs.History.{CommitRecord}
use Rattle.serve_command.proofs.RemakingLaws.{made_again, remade, still_there}
use Rattle.serve_command.proofs.remaking.remake_one.Goals as goal

pub meet-requires-clause-client : goal.meet-requires-clause-client
meet-requires-clause-client g c =
    let commits = made_again c.args.server.now c.args.reader.now.seen c.args.commit.now c.in_ok-refresh.refresh.value
    c.in-Ok.field-0 c.args.client.now c.show.new.client c.refresh.new.self c.requires.client c.show.ensures.looks
    (c.in_ok-refresh.ensures ∙ ap (λ (x : CommitRecord). x.actions) c.commit.view_is) c.in-Ok.ensures.refreshed in
    still_there c.args.server.now c.args.reader.now.seen c.args.commit.now c.in-Ok.field-0.number c.args.client.now
    c.show.new.client c.refresh.new.self c.requires.client c.show.ensures.looks commits

pub returns-clause-client : goal.returns-clause-client
returns-clause-client g c =
    let commits = made_again c.args.server.now c.args.reader.now.seen c.args.commit.now c.in_ok-refresh.refresh.value
    c.in-Ok.field-0 c.args.client.now c.show.new.client c.refresh.new.self c.requires.client c.show.ensures.looks
    (c.in_ok-refresh.ensures ∙ ap (λ (x : CommitRecord). x.actions) c.commit.view_is) c.in-Ok.ensures.refreshed in
    (remade c.args.server.now c.args.reader.now.seen c.args.commit.now c.args.number c.in-Ok.field-0.number
    c.args.client.now c.show.new.client c.refresh.new.self c.meet.new.self c.meet.new.client c.requires.client
    c.requires.number c.show.ensures.shown
    (omega (arith, c.show.ensures.length, c.if-show-number.false, c.requires.number)) c.show.ensures.looks commits
    c.meet.ensures.met (omega (arith, c.meet.ensures.length, c.if-meet-number.false)) c.meet.ensures.client
    (omega (arith, c.seen.ensures, c.if-seen-number.false))).seated

pub returns-clause-made : goal.returns-clause-made
returns-clause-made g c =
    let commits = made_again c.args.server.now c.args.reader.now.seen c.args.commit.now c.in_ok-refresh.refresh.value
    c.in-Ok.field-0 c.args.client.now c.show.new.client c.refresh.new.self c.requires.client c.show.ensures.looks
    (c.in_ok-refresh.ensures ∙ ap (λ (x : CommitRecord). x.actions) c.commit.view_is) c.in-Ok.ensures.refreshed in
    (remade c.args.server.now c.args.reader.now.seen c.args.commit.now c.args.number c.in-Ok.field-0.number
    c.args.client.now c.show.new.client c.refresh.new.self c.meet.new.self c.meet.new.client c.requires.client
    c.requires.number c.show.ensures.shown
    (omega (arith, c.show.ensures.length, c.if-show-number.false, c.requires.number)) c.show.ensures.looks commits
    c.meet.ensures.met (omega (arith, c.meet.ensures.length, c.if-meet-number.false)) c.meet.ensures.client
    (omega (arith, c.seen.ensures, c.if-seen-number.false))).made
