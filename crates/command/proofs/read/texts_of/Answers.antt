use Rattle.std.proofs.Common.{◌≡◌, ◌∙◌, ap, subst, map, string_bytes, IfOk, [], unwrap_or}
use Rattle.clap.specs.Matches.{found_of}
use Rattle.clap.proofs.WalkLemmas.{raw_values-rows}
use Rattle.command.proofs.read.texts_of.Goals as goal

pub returns-in-Some : goal.returns-in-Some
returns-in-Some c =
    let e = ap (λ o. unwrap_or o []) (c.in-Some.ensures ∙ raw_values-rows (found_of c.args.matches.now) c.args.id.now) in
    subst (λ texts. IfOk c.copies.result (λ copies. map string_bytes copies.items ≡ texts)) e c.copies.ensures

pub returns-in-None : goal.returns-in-None
returns-in-None c =
    let e = ap (λ o. unwrap_or o []) (c.in-None.ensures ∙ raw_values-rows (found_of c.args.matches.now) c.args.id.now) in
    ap (map string_bytes) c.new.ensures.items ∙ e
