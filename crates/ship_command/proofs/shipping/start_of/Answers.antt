use Rattle.std.proofs.Common.{◌≡◌, ◌<◌, ◌∙◌, ◌++◌, ◌∷◌, [], ℕ, List, Some, None, Vec, Global, ap, arith, rules}
use Rattle.journal.specs.Groups.{block}
use Rattle.ship_command.specs.Stream.{mark}
use Rattle.ship_command.specs.Taken.{PassesBeyond}
use Rattle.ship_command.proofs.StreamLaws.{begins_all, begins_behind, begins_marked}
use Rattle.ship_command.proofs.shipping.start_of.Goals.{in-Some+in_ok-push_block-3, in_default}
use Rattle.ship_command.proofs.shipping.start_of.Goals as goal

pub returns-then-shipment-eq0-clause-stream : goal.returns-then-shipment-eq0-clause-stream
returns-then-shipment-eq0-clause-stream g c =
    let groups = c.args.file.now.followed.groups in
    let bytes = c.push_block.new.bytes.items in
    let is : bytes ≡ [] ++ block c.args.head.now =
    c.in_ok-push_block.ensures ∙ ap (λ (l : List ℕ). l ++ block c.args.head.now) c.new-bytes.ensures.items in
    begins_all c.args.shipment.past c.args.shipment.after c.args.head.now groups bytes c.requires.behind c.if-shipment-eq0.true
    c.requires.head is

pub returns-clause-stream : goal.returns-clause-stream
returns-clause-stream g c =
    let head = c.args.head.now in
    let old = c.args.file.now.followed.groups in
    let new = c.leave_out.new.self.followed.groups in
    let left = c.in_ok-commits.field-0 in
    let out = c.in_ok-commits.ensures.left in
    let asked : 0 < c.args.shipment.after = omega (arith, c.if-shipment-eq0.false) in
    let first : c.push_block.new.bytes.items ≡ [] ++ block head =
    c.in_ok-push_block.ensures ∙ ap (λ (l : List ℕ). l ++ block head) c.new-bytes.ensures.items in
    let second : c.push_block-2.new.bytes.items ≡ ([] ++ block head) ++ block (mark left.commits) =
    c.in_ok-push_block-2.ensures ∙ ap (λ (l : List ℕ). l ++ block c.deref.result.now) first
    ∙ ap (λ (l : List ℕ). ([] ++ block head) ++ block l)
    (c.deref.ensures.value ∙ c.in_ok-mark.ensures) in
    elim c.match-next-3.branch [
      | in-Some+in_ok-push_block-3 w ↦
          let group = w.in-Some.group.items in
          let is : left.next ≡ Some w.in-Some.group = search rules in
          let step : (new ≡ old ++ (out.out ++ group ∷ [])) × PassesBeyond c.args.shipment.after left.commits group = rw is at out.next in
          let same : c.match-next-3.bytes ≡ w.push_block-in-Some.new.bytes = search rules in
          let third : c.match-next-3.bytes.items ≡ (([] ++ block head) ++ block (mark left.commits)) ++ block group =
          ap (λ (v : Vec ℕ Global). v.items) same ∙ w.in_ok-push_block-3.ensures
          ∙ ap (λ (l : List ℕ). l ++ block w.deref-in-Some.result.now) second
          ∙ ap (λ (l : List ℕ). (([] ++ block head) ++ block (mark left.commits)) ++ block l) w.deref-in-Some.ensures.value in
          begins_behind c.args.shipment.past c.args.shipment.after head old new out.out out.count left.commits group
          c.match-next-3.bytes.items asked c.requires.head step.0 out.counted out.numbered out.within step.1 third
      | in_default w ↦
          let is : left.next ≡ None = search rules in
          let step : (new ≡ old ++ out.out) × (left.commits ≡ c.args.shipment.after) = rw is at out.next in
          let same : c.match-next-3.bytes ≡ c.push_block-2.new.bytes = search rules in
          begins_marked c.args.shipment.past c.args.shipment.after head old new out.out out.count left.commits
          c.match-next-3.bytes.items asked c.requires.head step.0 out.counted out.numbered step.1 (ap (λ (v : Vec ℕ Global). v.items) same ∙ second)
    ]
