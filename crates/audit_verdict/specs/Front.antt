-- Why a text has no program.
use Rattle.std.specs.Prelude.{ℕ, List, ⊤}
use Rattle.audit_verdict.specs.Answer.{Refuses}
use Rattle.audit_verdict.specs.declared.front.FrontFault.{FrontFault}
use Rattle.audit_verdict.specs.declared.front.FrontFault.TheVariants.{Refused, NoMemory}

abbrev pub WhyRefused : List ℕ → FrontFault → Type 0
WhyRefused text (Refused refusal) = Refuses text refusal
WhyRefused text NoMemory = ⊤
