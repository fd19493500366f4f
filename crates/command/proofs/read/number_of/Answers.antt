use Rattle.std.proofs.Common.{◌∙◌, ap, sym, subst, max, min}
use Rattle.std.specs.Prelude.{unwrap_or}
use Rattle.clap.specs.Matches.{found_of, one_text}
use Rattle.clap.specs.Walk.{one_of, rows_of}
use Rattle.clap.proofs.WalkLemmas.{one_text-rows}
use Rattle.command.proofs.Rows.{spells}
use Rattle.command.specs.Asked.{Spells}
use Rattle.command.proofs.read.number_of.Goals as goal

pub returns : goal.returns
returns c =
    let rows = one_text-rows (found_of c.args.matches.now) c.args.id.now in
    let number = spells c.args.least c.args.most (one_text (found_of c.args.matches.now) c.args.id.now) c.get_one.result c.get_one.ensures.none
    c.get_one.ensures.value in
    let same = c.max.ensures ∙ ap (λ n. max n c.args.least) (c.min.ensures ∙ ap (λ n. min n c.args.most) c.unwrap_or.ensures) in
    subst (λ n. Spells c.args.least c.args.most (one_of c.args.id.now (rows_of (found_of c.args.matches.now))) n) (sym same)
    (subst (λ o. Spells c.args.least c.args.most o (max (min (unwrap_or c.get_one.result 0) c.args.most) c.args.least)) rows number)
