use Rattle.ship_command.proofs.taking.ShippedFile.take.Goals as goal

pub returns-in-Err-clause-fault : goal.returns-in-Err-clause-fault
returns-in-Err-clause-fault g c = λ past after.
    c.disk_fault.ensures past after (g.F.GrowingFile.seen c.next_group-next.new.self.file) c.next_group-next.new.self.groups
    c.next_group-next.new.self.rest
