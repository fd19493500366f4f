-- The command line as a simple command of `clap`: `audit FILE [--input F] [--steps N] [--tight] [--cert F] [ARGS]`,
-- `check FILE CERT [--input F] [ARGS]` and `self SEED N` (own).
use Rattle.std.specs.Prelude.{true, [], ◌∷◌, codes, Some}
use Rattle.clap.specs.Simple.{App, Shape, new_app, with_rule, with_subcommand}
use Rattle.clap.specs.Walk.{Rule}
use Rattle.clap.specs.Simple.{new_rule}
use Rattle.clap.specs.Lexer.{usize_max}
use Rattle.clap.specs.declared.builder.action.ArgAction.TheVariants.{Set, SetTrue}
use Rattle.clap.specs.declared.builder.value_parser.ValueParser.TheVariants.{Unsigned}

abbrev pub file_rule : Rule
file_rule = record (new_rule (codes "FILE")) { required = true }

abbrev pub certificate_rule : Rule
certificate_rule = record (new_rule (codes "CERT")) { required = true }

-- any number of words
abbrev pub args_rule : Rule
args_rule = record (new_rule (codes "ARGS")) { range = Some (record { start_inclusive = 0; end_inclusive = usize_max }) }

abbrev pub input_rule : Rule
input_rule = record (new_rule (codes "input")) { long = Some (codes "input"); action = Some Set }

-- a number from 1 to 100,000,000, and 1,000,000 where none is given
abbrev pub steps_rule : Rule
steps_rule =
    record (new_rule (codes "steps")) { long = Some (codes "steps"); action = Some Set; parser = Some (Unsigned 1 100000000); defaults = codes "1000000" ∷ [] }

abbrev pub tight_rule : Rule
tight_rule = record (new_rule (codes "tight")) { long = Some (codes "tight"); action = Some SetTrue }

abbrev pub cert_rule : Rule
cert_rule = record (new_rule (codes "cert")) { long = Some (codes "cert"); action = Some Set }

abbrev pub seed_rule : Rule
seed_rule = record (new_rule (codes "SEED")) { required = true; parser = Some (Unsigned 0 65536) }

abbrev pub lines_rule : Rule
lines_rule = record (new_rule (codes "N")) { required = true; parser = Some (Unsigned 1 20000) }

-- with the arguments that say which run is meant, but for the program's own
abbrev pub with_run_rules : App → App
with_run_rules app = with_rule (with_rule (with_rule (with_rule app file_rule) input_rule) steps_rule) tight_rule

abbrev pub audit_app : App
audit_app = with_rule (with_rule (with_run_rules (new_app (codes "audit"))) cert_rule) args_rule

abbrev pub check_app : App
check_app = with_rule (with_rule (with_rule (with_rule (new_app (codes "check")) file_rule) certificate_rule) input_rule) args_rule

abbrev pub self_app : App
self_app = with_rule (with_rule (new_app (codes "self")) seed_rule) lines_rule

-- the command that reads the words, with no program's name in front and no subcommand `help`
abbrev pub cub_shape : Shape
cub_shape = record (new_app (codes "cub")).top { no_binary_name = true; subcommand_required = true; disable_help_subcommand = true }

abbrev pub cub_alone : App
cub_alone = record (new_app (codes "cub")) { top = cub_shape }

abbrev pub cub_app : App
cub_app = with_subcommand (with_subcommand (with_subcommand cub_alone audit_app.top) check_app.top) self_app.top
