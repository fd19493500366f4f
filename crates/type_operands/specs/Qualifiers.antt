-- Types with a qualifier (6.7.3).
use Rattle.std.specs.Prelude.{Bool, false, ◌||◌}
use Rattle.c_types.specs.Types.{CType, array, Qualified}

-- the type with this qualifier; of an array its elements have it (6.7.3p9)
abbrev pub qualified : Bool → CType → Qualified
qualified constant (array of_element element count) =
    let q = qualified (of_element || constant) element in record { constant = false; ty = array q.constant q.ty count }
qualified constant ty = record { constant = constant; ty = ty }
