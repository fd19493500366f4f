-- The commands for a person, as a simple command of `clap`: `explain FILE [--input F] [--steps N] [--tight] [--json] [--text] [ARGS]`,
-- `batch NAME.. [--program F] [--list] [--steps N] [--tight]`, `help [COMMAND]`, `version`,
-- `errors FILE [--input F] [--steps N] [--tight] [ARGS]`, `static FILE`, `swap` with the words of `errors`, and `story` with these and NAME behind FILE
-- (own).
use Rattle.std.specs.Prelude.{ℕ, List, true, codes, Some}
use Rattle.clap.specs.Lexer.{usize_max}
use Rattle.clap.specs.Simple.{App, new_app, new_rule, with_rule, with_subcommand}
use Rattle.clap.specs.Walk.{Rule}
use Rattle.clap.specs.declared.builder.action.ArgAction.TheVariants.{Set, SetTrue}
use Rattle.command.specs.App.{args_rule, cub_alone, file_rule, steps_rule, tight_rule, with_run_rules}

abbrev pub json_rule : Rule
json_rule = record (new_rule (codes "json")) { long = Some (codes "json"); action = Some SetTrue }

abbrev pub text_rule : Rule
text_rule = record (new_rule (codes "text")) { long = Some (codes "text"); action = Some SetTrue }

-- one name or more
abbrev pub names_rule : Rule
names_rule = record (new_rule (codes "NAME")) { required = true; range = Some (record { start_inclusive = 1; end_inclusive = usize_max }) }

abbrev pub program_rule : Rule
program_rule = record (new_rule (codes "program")) { long = Some (codes "program"); action = Some Set }

abbrev pub list_rule : Rule
list_rule = record (new_rule (codes "list")) { long = Some (codes "list"); action = Some SetTrue }

abbrev pub topic_rule : Rule
topic_rule = new_rule (codes "COMMAND")

abbrev pub explain_app : App
explain_app = with_rule (with_rule (with_rule (with_run_rules (new_app (codes "explain"))) args_rule) json_rule) text_rule

abbrev pub batch_app : App
batch_app = with_rule (with_rule (with_rule (with_rule (with_rule (new_app (codes "batch")) names_rule) program_rule) list_rule) steps_rule) tight_rule

abbrev pub help_app : App
help_app = with_rule (new_app (codes "help")) topic_rule

abbrev pub version_app : App
version_app = new_app (codes "version")

-- a command of this name that is told which run is meant, and nothing else
abbrev pub run_app : List ℕ → App
run_app name = with_rule (with_run_rules (new_app name)) args_rule

abbrev pub static_app : App
static_app = with_rule (new_app (codes "static")) file_rule

-- the text of an object
abbrev pub object_rule : Rule
object_rule = record (new_rule (codes "NAME")) { required = true }

abbrev pub story_app : App
story_app = with_rule (with_rule (with_run_rules (new_app (codes "story"))) object_rule) args_rule

abbrev pub plain_app : App
plain_app =
    with_subcommand (with_subcommand (with_subcommand (with_subcommand cub_alone explain_app.top) batch_app.top) help_app.top) version_app.top

-- with the commands that look further at a program or its run
abbrev pub person_app : App
person_app =
    with_subcommand (with_subcommand (with_subcommand (with_subcommand plain_app (run_app (codes "errors")).top) static_app.top) (run_app (codes "swap")).top)
    story_app.top
