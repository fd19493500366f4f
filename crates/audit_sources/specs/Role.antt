-- How long a file may be (own).
use Rattle.std.specs.Prelude.{ℕ, ◌^◌}
use Rattle.audit_sources.specs.declared.role.Role.{Role}
use Rattle.audit_sources.specs.declared.role.Role.TheVariants.{Source, Certificate, Input}

-- the most bytes of a file
abbrev pub most : Role → ℕ
most Source = 2 ^ 20
most Certificate = 2 ^ 26
most Input = 2 ^ 24
