-- Kinds of events as tests.
use Rattle.std.specs.Prelude.{Bool, true, false}
use Rattle.ub_base.specs.declared.clause.Kind.{Kind}
use Rattle.ub_base.specs.declared.clause.Kind.TheVariants.{Val, Eff, Body}

abbrev pub is_eff : Kind → Bool
is_eff Val = false
is_eff Eff = true
is_eff Body = false
