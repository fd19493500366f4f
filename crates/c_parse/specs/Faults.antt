-- What a refusal of the parser is to its caller.
use Rattle.c_parse.specs.declared.error.ParseFault.{ParseFault}
use Rattle.c_parse.specs.declared.error.ParseFault.TheVariants as fault
use Rattle.parse_cursor.specs.declared.refusal.Refusal.{Refusal}
use Rattle.parse_cursor.specs.declared.refusal.Refusal.TheVariants as refusal

abbrev pub fault_of : Refusal → ParseFault
fault_of (refusal.Syntax at) = fault.Syntax at
fault_of refusal.NoMemory = fault.NoMemory
