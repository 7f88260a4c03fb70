use Rattle.ssb_audit.proofs.LegalLaws.{no_fault_is_legal}
use Rattle.ssb_audit.proofs.laws.no_fault_is_legal.Goals as goal

pub returns : goal.returns
returns c = no_fault_is_legal
