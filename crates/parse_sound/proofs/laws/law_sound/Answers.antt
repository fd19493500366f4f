use Rattle.parse_sound.proofs.Units.{trees_spell}
use Rattle.parse_sound.proofs.laws.law_sound.Goals as goal

pub returns : goal.returns
returns c = trees_spell
