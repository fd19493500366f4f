use Rattle.std.proofs.Common.{refl}
use Rattle.c_model.specs.Steps.{Control}
use Rattle.c_model.specs.Runs.{more, too_late}
use Rattle.c_model.specs.Claims.{starts}
use Rattle.c_model.proofs.law_past_the_end.Goals as goal

pub returns : goal.returns
returns c = starts _ _ _ refl (more _ _ Control _ _ _ tt refl
    (more _ _ Control _ _ _ tt refl (more _ _ Control _ _ _ refl refl (too_late _ Control _ _ tt refl))))
