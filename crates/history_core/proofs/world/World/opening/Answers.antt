use Rattle.std.proofs.Common.{rules, refl, ap, sym, ◌∙◌, [], None}
use Rattle.ssb_base.specs.Base.{Tables}
use Rattle.row_store.specs.History.{Warehouse}
use Rattle.history_core.specs.declared.world.World.TheInside.{Inside}
use Rattle.history_core.proofs.OpeningLaws.{opening_kept, opening_shown}
use Rattle.history_core.proofs.world.World.opening.Goals as goal

pub invariant_of-result : goal.invariant_of-result
invariant_of-result c =
    opening_kept _ c.args.clients c.args.dispatchers
    (sym
    (ap (λ (w : Warehouse). w.base) c.in_ok-store.ensures
    ∙ c.in_ok-try_clone.ensures)) (search rules) c.in_ok-clients.ensures c.in_ok-dispatchers.ensures

pub returns : goal.returns
returns c =
    let w : Inside = record {
      alloc = c.args.alloc;
      base = c.args.base;
      store = c.in_ok-store.store;
      commits = c.new-commits.result;
      rows = None;
      writer = None;
      clients = c.in_ok-clients.clients;
      dispatchers = c.in_ok-dispatchers.dispatchers;
    } in
    opening_shown w c.args.base.value c.args.clients c.args.dispatchers refl refl
    (c.in_ok-store.ensures
    ∙ ap
    (λ (b : Tables). record {
      base = b;
      log = [];
    }) c.in_ok-try_clone.ensures) c.in_ok-clients.ensures c.in_ok-dispatchers.ensures
