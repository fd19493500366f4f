-- The value of an expression of the first form, or the clause that it breaks (6.5, 6.5.5, 6.5.6).
use Rattle.std.specs.Prelude.{
  ℕ,
  ◌/◌,
  ◌%◌,
  ℤ,
  pos,
  negsuc,
  ◌+ℤ◌,
  ◌-ℤ◌,
  ◌*ℤ◌,
  int_le,
  unsigned_abs,
  ◌&&◌,
  ◌==◌,
  if◌then◌else◌,
  Option,
  Some,
  None,
  Result,
  Ok,
  Err,
}
use Rattle.std.specs.Int.{int_rem_euclid}
use Rattle.ub_base.specs.declared.clause.Clause.{Clause}
use Rattle.ub_base.specs.declared.clause.Clause.TheVariants.{Exceptional, DivideByZero}
use Rattle.first_form.specs.declared.tree.Operator.{Operator}
use Rattle.first_form.specs.declared.tree.Operator.TheVariants.{Add, Sub, Mul, Div, Rem}
use Rattle.first_form.specs.declared.tree.ReturnUnit.{ReturnUnit}

-- an exact result, where an int can hold it
abbrev pub in_int : ℤ → Result ℤ Clause
in_int value = if int_le (negsuc 2147483647) value && int_le value (pos 2147483647) then Ok value else Err Exceptional

-- a quotient or a remainder, where the divisor isn't 0
abbrev pub divided : ℕ → ℕ → Result ℤ Clause
divided divisor value = if divisor == 0 then Err DivideByZero else Ok (pos value)

abbrev pub outcome : Operator → ℕ → ℕ → Result ℤ Clause
outcome Add left right = in_int (pos left +ℤ pos right)
outcome Sub left right = in_int (pos left -ℤ pos right)
outcome Mul left right = in_int (pos left *ℤ pos right)
outcome Div left right = divided right (left / right)
outcome Rem left right = divided right (left % right)

abbrev pub rest_value : ℕ → Option (Operator × ℕ) → Result ℤ Clause
rest_value left None = Ok (pos left)
rest_value left (Some rest) = outcome rest.0 left rest.1

abbrev pub value : ReturnUnit → Result ℤ Clause
value unit = rest_value unit.left unit.rest

-- what a process shows of a value that `main` returns
abbrev pub exit_status : ℤ → ℕ
exit_status value = unsigned_abs (int_rem_euclid value (pos 256))
