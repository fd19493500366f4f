-- How the refusal of a call is told of the text (own).
use Rattle.std.specs.Prelude.{ℕ, Bool, true, false, ◌||◌, if◌then◌else◌}
use denote.Enum.Bare.{sameb}
use Rattle.type_reasons.specs.contracts.reason.Reason.{the_type as reason_type}
use Rattle.type_reasons.specs.declared.reason.Reason.{Reason}
use Rattle.type_reasons.specs.declared.reason.Reason.TheVariants.{FunctionConversion, ArrayOfValue}
use Rattle.type_reasons.specs.declared.refused.Refused.{Refused}
use Rattle.type_reasons.specs.declared.refused.Refused.TheVariants as refused
use Rattle.type_scope.specs.declared.fault.TypeFault.{TypeFault}
use Rattle.type_scope.specs.declared.fault.TypeFault.TheVariants as fault

-- on a line, for its own reason; want of memory stays
abbrev pub told_on : ℕ → Refused → TypeFault
told_on line (refused.Constraint reason) = fault.NotTyped line reason
told_on line refused.NoMemory = fault.NoMemory

-- the rules of the profile among what is told of operands
abbrev pub is_own_rule : Reason → Bool
is_own_rule FunctionConversion = true
is_own_rule ArrayOfValue = true
is_own_rule _ = false

-- for another reason, unless it is a rule of the profile or `kept`
abbrev pub reason_told : (kept reason : Reason) → Reason → Reason
reason_told kept reason told = if is_own_rule told || sameb reason_type told kept then told else reason

abbrev pub told_for : ℕ → (kept reason : Reason) → Refused → TypeFault
told_for line kept reason (refused.Constraint told) = fault.NotTyped line (reason_told kept reason told)
told_for line kept reason refused.NoMemory = fault.NoMemory
