use Rattle.std.proofs.Common.{◌≡◌, true, sym, subst, map, ◌∙◌, string_bytes}
use Rattle.clap.specs.Faults.{fault_of}
use Rattle.clap.specs.Simple.{app_of}
use Rattle.clap.specs.Takes.{takes}
use Rattle.command.proofs.Words.{only_memory}
use Rattle.person_command.proofs.PersonWords.{matches_as, person_is_simple, taken_as, takes_as}
use Rattle.person_command.proofs.person_read.person_matches_of.Goals as goal

pub returns-in-Ok-try_get_matches_from-clause-taken : goal.returns-in-Ok-try_get_matches_from-clause-taken
returns-in-Ok-try_get_matches_from-clause-taken c =
    takes_as (app_of c.in-Ok.command) (map string_bytes c.args.words.now) c.in-Ok.ensures.app
    (c.in-Ok-try_get_matches_from.ensures.kinds (person_is_simple (app_of c.in-Ok.command) c.in-Ok.ensures.app))

pub returns-clause-refused : goal.returns-clause-refused
returns-clause-refused c = λ is taken.
    c.in_default-kind.not-OutOfMemory (c.kind.ensures ∙ only_memory c.in-Err.error
    (fault_of (app_of c.in-Ok.command) (map string_bytes c.args.words.now))
    (taken_as (app_of c.in-Ok.command) (map string_bytes c.args.words.now) c.in-Ok.ensures.app taken)
    (c.in-Err.ensures.kinds (person_is_simple (app_of c.in-Ok.command) c.in-Ok.ensures.app)))

pub returns-clause-usage : goal.returns-clause-usage
returns-clause-usage c = λ is taken.
    c.in_default-kind.not-OutOfMemory (c.kind.ensures ∙ c.in-Err.ensures.passes
    (subst (λ app. takes app (map string_bytes c.args.words.now) ≡ true) (sym c.in-Ok.ensures.app) taken))

pub returns-in-Ok-try_get_matches_from-clause-matches : goal.returns-in-Ok-try_get_matches_from-clause-matches
returns-in-Ok-try_get_matches_from-clause-matches c =
    matches_as (app_of c.in-Ok.command) (map string_bytes c.args.words.now) c.in-Ok-try_get_matches_from.matches c.in-Ok.ensures.app
    c.in-Ok-try_get_matches_from.ensures.matches
