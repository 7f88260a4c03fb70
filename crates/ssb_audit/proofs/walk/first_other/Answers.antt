use Rattle.std.proofs.Common.{◌<◌, length, get_or, refl, arith}
use Rattle.std.proofs.lemmas.Option.{slice_get-get_or, slice_get_read, slice_get_within}
use Rattle.ssb_audit.specs.declared.visits.Visit.{Visit}
use Rattle.ssb_audit.proofs.WalkLaws.{other_none, other_more}
use Rattle.ssb_audit.proofs.walk.first_other.Goals as goal

pub loop-k-init : goal.loop-k-init
loop-k-init c = other_none c.args.answers.now c.args.visits.now c.args.found.now c.args.limit

pub loop-k-preserved : goal.loop-k-preserved
loop-k-preserved c =
    let answers = c.args.answers.now in
    let visits = c.args.visits.now in
    let found = c.args.found.now in
    let k = c.loop-k.k in
    let visit : Visit = get_or visits k (record { at = 0; place = 0 }) in
    let told = c.index-answers-visit.result in
    let rows = c.index-found-k.result in
    let is_in = c.requires.answers k (record { at = 0; place = 0 }) c.loop-k-test.true in
    let there = slice_get_read answers (length answers) visit.place told refl
    (slice_get_within answers visit.place is_in.told is_in.there) c.index-answers-visit.is in
    let within : k < length found = omega (arith, c.requires.each, c.loop-k-test.true) in
    other_more answers visits found k c.args.limit c.loop-k.first c.earlier-first.result visit told rows
    (slice_get-get_or visits k (record { at = 0; place = 0 }) c.loop-k-test.true) there
    (slice_get_read found (length found) k rows refl within c.index-found-k.is) c.earlier-first.ensures
    c.loop-k.invariant
