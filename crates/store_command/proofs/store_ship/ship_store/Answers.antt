use Rattle.store_folder.specs.Reads.{seen_by}
use Rattle.store_command.proofs.store_ship.ship_store.Goals as goal

pub returns-clause-statuses : goal.returns-clause-statuses
returns-clause-statuses g c =
    let file = c.ship.new.file.followed in
    c.of_ship.ensures c.after.result c.args.place.now.after (seen_by file.file.notes.items) file.groups file.rest
    c.in-Err-ship.ensures.fault
