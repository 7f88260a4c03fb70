use Rattle.ssb_report.proofs.ReplyLaws.{true_replies_answer, others_give_up}
use Rattle.ssb_report.proofs.laws.one_report.Goals as goal

pub returns-clause-answers : goal.returns-clause-answers
returns-clause-answers c = true_replies_answer

pub returns-clause-alone : goal.returns-clause-alone
returns-clause-alone c = others_give_up
