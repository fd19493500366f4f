-- The strings of `%s` as far as they are read (7.21.6.1p8).
use Rattle.std.specs.Prelude.{ℕ, zero, suc, min, List, Option, Some, None, if◌then◌else◌}
use Rattle.addr_map.specs.declared.map.Row.{Row}
use Rattle.exposure.specs.declared.prov.Prov.{Prov}
use Rattle.mem_spec.specs.Store.{TaggedByte}
use Rattle.mem_spec.specs.Script.{Script, ◌>>=◌}
use Rattle.mem_spec.specs.Acts.{argument}
use Rattle.libc_spec.specs.Library.{is_zero}
use Rattle.libc_spec.specs.Print.{bounded_from}
use Rattle.libc_arguments.specs.Parts.{one_more}

-- how many bytes are up to and with the first written zero, or as many as are wanted, where so many are left
abbrev pub bounded_size : (ℕ → TaggedByte) → (wanted left : ℕ) → ℕ → Option ℕ
bounded_size f zero left a = Some 0
bounded_size f (suc wanted) zero a = None
bounded_size f (suc wanted) (suc left) a = if is_zero (f a).byte then Some 1 else one_more (bounded_size f wanted left (suc a))

-- those bytes of a string argument
abbrev pub bounded_text : List Row → ℕ → ℕ → Prov → Script (List TaggedByte)
bounded_text rows n a prov = argument rows (min n 1) a prov >>= bounded_from rows n
