-- What the run of a request is given.
use Rattle.std.specs.Prelude.{◌≡◌, ℕ, List, Bool, true, false, map, string_bytes}
use Rattle.addr_map.specs.declared.map.Mode.{Mode}
use Rattle.addr_map.specs.declared.map.Mode.TheVariants.{Tight, Spaced}
use Rattle.command.specs.declared.request.AuditRequest.{AuditRequest}
use Rattle.audit_verdict.specs.declared.run.Setting.{Setting}

-- objects stand close to one another only where that is asked for
abbrev pub mode_of : Bool → Mode
mode_of true = Tight
mode_of false = Spaced

-- the input is this, and the arguments, the mode and the steps are those of the request
pub record IsSettingOf (request : AuditRequest) (bytes : List ℕ) (setting : Setting) : Type 0 where
  pub input : setting.input.now ≡ bytes
  pub args : map string_bytes setting.args.now ≡ map string_bytes request.args.items
  pub mode : setting.mode ≡ mode_of request.is_tight
  pub steps : setting.steps ≡ request.steps
