use Rattle.std.proofs.Common.{◌≡◌, List, ap, length, sym, subst, ◌∙◌, arith}
use Rattle.std.proofs.lemmas.Option.{slice_get_within}
use Rattle.history.specs.Tokens.{TokenRecord}
use Rattle.row_store.specs.History.{CommitRecord}
use Rattle.serve_command.specs.Seated.{IsSeated}
use Rattle.serve_command.proofs.RemakingLaws.{next_shown, still_still, table_at}
use Rattle.serve_command.proofs.SeatLaws.{at_set}
use Rattle.serve_command.proofs.remaking.show_all.Goals as goal

pub show_one-requires-clause-client : goal.show_one-requires-clause-client
show_one-requires-clause-client g c =
    subst (λ (t : TokenRecord). t.table ≡ c.args.server.now) c.index-clients-place.is
    (table_at c.args.server.now c.args.reader.now.seen c.loop-place.clients c.loop-place.place
    c.index-clients-place.result c.loop-place.invariant.clients (omega arith) c.index-clients-place.is)

pub show_one-requires-clause-count : goal.show_one-requires-clause-count
show_one-requires-clause-count g c = c.requires.count ∙ ap length (sym c.loop-place.invariant.same)

pub loop-place-preserved : goal.loop-place-preserved
loop-place-preserved g c =
    let inv = c.loop-place.invariant in
    let server = c.args.server.now in
    let shown = c.show_one.new.client in
    record {
      reader = still_still c.args.reader.now c.loop-place.reader c.show_one.new.reader inv.reader
          c.in_ok-show_one.ensures.reader;
      same = c.in_ok-show_one.ensures.same ∙ inv.same;
      clients = next_shown server c.args.reader.now.seen c.loop-place.clients c.loop-place.place
          c.index-clients-place.result shown inv.clients (omega arith) c.index-clients-place.is
          (λ number seated. subst (λ (l : List CommitRecord). IsSeated server l number shown) inv.same
          (c.in_ok-show_one.ensures.client number
          (subst (λ (t : TokenRecord). IsSeated server c.loop-place.reader.seen number t) c.index-clients-place.is
          (subst (λ (l : List CommitRecord). IsSeated server l number c.index-clients-place.result) (sym inv.same)
          seated))));
      shown = at_set (λ (t : TokenRecord). t.seen ≡ c.args.reader.now.seen) c.loop-place.clients c.loop-place.place
          shown (c.in_ok-show_one.ensures.seen ∙ inv.same) inv.shown;
    }

pub returns-clause-seen : goal.returns-clause-seen
returns-clause-seen g c = λ i client here.
    c.loop-place.invariant.shown i client
    (omega (arith, slice_get_within c.loop-place.clients i client here)) here
