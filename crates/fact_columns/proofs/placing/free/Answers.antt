use Rattle.std.proofs.Common.{get_or}
use Rattle.std.proofs.lemmas.List.{length-set}
use Rattle.std.proofs.lemmas.List.Elements.{All-set}
use Rattle.fact_columns.specs.Places.{freed}
use Rattle.fact_columns.specs.Classed.{IsPlaceOf}
use Rattle.fact_columns.proofs.PlaceLaws.{one_taken, live_within, live_at_freed, live_at_set_other, count_freed}
use Rattle.fact_columns.proofs.PlaceLaws.{within_freed}
use Rattle.fact_columns.proofs.placing.free.Goals as goal

pub free-requires : goal.free-requires
free-requires g c = live_within c.args.table.now.places c.args.place c.requires.live.0 c.requires.live.1

pub returns-clause-here : goal.returns-clause-here
returns-clause-here g c = let e = c.free.ensures.places c.requires.live.0 in
    rw e (live_at_freed c.args.table.now.places c.args.place c.requires.live.0)

pub returns-clause-others : goal.returns-clause-others
returns-clause-others g c = λ other differ. let e = c.free.ensures.places c.requires.live.0 in
    rw e (live_at_set_other c.args.table.now.places c.args.place other _ differ)

pub returns-clause-count : goal.returns-clause-count
returns-clause-count g c = let e = c.free.ensures.places c.requires.live.0 in
    rw e (count_freed c.args.table.now.places c.args.place c.requires.live.0 c.requires.live.0 c.requires.live.1)

pub returns-clause-inside : goal.returns-clause-inside
returns-clause-inside g c = λ dimensions all.
    let d = c.requires.live.0 in
    let e = c.free.ensures.places d in
    let within = live_within c.args.table.now.places c.args.place c.requires.live.0 c.requires.live.1 in
    rw e (All-set (IsPlaceOf dimensions) c.args.table.now.places c.args.place
    (freed (get_or c.args.table.now.places c.args.place d))
    (within_freed dimensions (get_or c.args.table.now.places c.args.place d) (all c.args.place d within)) all)

pub returns-clause-len : goal.returns-clause-len
returns-clause-len g c = let e = c.free.ensures.places c.requires.live.0 in
    rw e (length-set c.args.table.now.places c.args.place _)

pub returns-clause-room : goal.returns-clause-room
returns-clause-room g c = c.free.ensures.room

pub scanned_line-line-requires : goal.scanned_line-line-requires
scanned_line-line-requires g c = live_within c.args.table.now.places c.args.place c.requires.live.0 c.requires.live.1

pub returns-clause-watched : goal.returns-clause-watched
returns-clause-watched g c = λ base follows.
    let d = c.requires.live.0 in
    c.go.ensures base _ _ (one_taken c.args.table.now.places c.free.new.self.places c.args.place
    c.scanned_line-line.result d c.requires.live.1 (c.scanned_line-line.ensures d) (c.free.ensures.places d)) follows
