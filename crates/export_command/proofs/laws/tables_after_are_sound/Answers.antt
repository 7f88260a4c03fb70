use Rattle.export_command.proofs.SoundLaws as sound
use Rattle.export_command.proofs.StandingLaws.{lines_stand}
use Rattle.export_command.proofs.laws.tables_after_are_sound.Goals as goal

pub returns : goal.returns
returns c = record { lines = lines_stand; sound = sound.tables_after_are_sound }
