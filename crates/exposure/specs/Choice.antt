-- What a looked-up address may have been made from (own).
use Rattle.std.specs.Prelude.{Option, Some, None}
use Rattle.ub_base.specs.declared.names.Event.{Event}
use Rattle.ub_base.specs.declared.names.ObjName.{ObjName}
use Rattle.exposure.specs.declared.prov.Prov.{Prov}
use Rattle.exposure.specs.declared.prov.Prov.TheVariants.{Empty, Whole, Either}

-- both objects leave an ambiguity, one is taken, none leaves nothing
abbrev pub chosen : (inside past : Option ObjName) → Event → Prov
chosen None None id = Empty
chosen (Some x) None id = Whole x
chosen None (Some y) id = Whole y
chosen (Some x) (Some y) id = Either id y x
