use Rattle.ssb_text.proofs.OneBaseLaws.{texts_spell_one_base}
use Rattle.ssb_text.proofs.ReadBackLaws.{texts_spell_their_base}
use Rattle.ssb_text.proofs.RefusedLaws.{nothing_is_refused}
use Rattle.ssb_text.proofs.law.tables_are_read_back.Goals as goal

pub returns : goal.returns
returns c = record { spelled = texts_spell_their_base; one = texts_spell_one_base; taken = nothing_is_refused }
