-- What comparisons of pointers settle (own).
use Rattle.std.specs.Prelude.{List, [], ◌∷◌, None, Result, Ok, Err}
use Rattle.ub_base.specs.declared.clause.Clause.{Clause}
use Rattle.ub_base.specs.declared.names.ObjName.{ObjName}
use Rattle.exposure.specs.declared.prov.Prov.{Prov}
use Rattle.exposure.specs.declared.prov.Prov.TheVariants.{Empty, Whole, Either}
use Rattle.exposure.specs.Cells.{Cells}
use Rattle.prov_memory.specs.declared.memory.arith.Common.{Common}
use Rattle.prov_memory.specs.declared.memory.arith.Common.TheVariants as common
use Rattle.mem_objects.specs.Made.{Settling, settling_to}

-- how many objects two pointers have in common
abbrev pub common_in : List ObjName → Common
common_in [] = common.None
common_in (x ∷ []) = common.One x
common_in (x ∷ y ∷ zs) = common.Two

-- what a comparison that keeps an object settles of a pointer
abbrev pub settling_of : Cells → Prov → ObjName → Clause → Result Settling Clause
settling_of cells Empty x c = Ok None
settling_of cells (Whole y) x c = Ok None
settling_of cells (Either id past start) x c = settling_to cells id x c

abbrev pub both_settlings : Result Settling Clause → Result Settling Clause → Result (Settling × Settling) Clause
both_settlings (Err c) s = Err c
both_settlings (Ok k) (Err c) = Err c
both_settlings (Ok k) (Ok l) = Ok (k, l)

abbrev pub common_settling : Cells → List ObjName → Prov → Prov → Clause → Result (Settling × Settling) Clause
common_settling cells [] p q c = Err c
common_settling cells (x ∷ []) p q c = both_settlings (settling_of cells p x c) (settling_of cells q x c)
common_settling cells (x ∷ y ∷ zs) p q c = Ok (None, None)

-- a result without its value
abbrev pub done_result : {V : Type 0} → Result V Clause → Result (Unit {0}) Clause
done_result (Ok v) = Ok tt
done_result (Err c) = Err c
