-- Which refusals are of syntax.
use Rattle.std.proofs.Common.{◌≡◌, ◌≢◌, ℕ}
use Rattle.parse_cursor.specs.declared.refusal.Refusal.{Refusal}
use Rattle.parse_cursor.specs.declared.refusal.Refusal.TheVariants as refusal
use Rattle.c_parse.specs.Faults.{fault_of}
use Rattle.c_parse.specs.declared.error.ParseFault.TheVariants as fault

pub syntax_is_not_memory : (r : Refusal) (at : ℕ) → fault_of r ≡ fault.Syntax at → r ≢ refusal.NoMemory
syntax_is_not_memory (refusal.Syntax n) at is = λ e. absurd (cc)
syntax_is_not_memory refusal.NoMemory at is = λ e. absurd (cc)
