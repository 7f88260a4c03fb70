use Rattle.std.proofs.Common.{sym, ◌∙◌, rules}
use Rattle.journal.proofs.GroupLaws.{taken, none_taken}
use Rattle.journal.proofs.groups.first_group.Goals as goal

pub returns-in-None : goal.returns-in-None
returns-in-None c = none_taken c.args.file.now (sym c.in-None.is ∙ c.in_ok-whole_len.ensures.value)

pub returns-in_ok-to_vec-in-Some : goal.returns-in_ok-to_vec-in-Some
returns-in_ok-to_vec-in-Some c =
    taken c.args.file.now c.in_ok-to_vec-in-Some.field-0.items c.in-Some.len (sym c.in-Some.is ∙ c.in_ok-whole_len.ensures.value) (search rules)
