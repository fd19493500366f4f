use Rattle.std.proofs.Common.{ap, [], refl}
use Rattle.std.proofs.lemmas.Result.{on_ok_weaker}
use Rattle.c_lex.specs.TokenText.{TokenText}
use Rattle.typing_env.specs.Env.{Env, start_of}
use Rattle.type_declarators.proofs.ConstantsKept.{new_constants}
use Rattle.type_declarators.proofs.NamesNoted.{new_noted}
use Rattle.type_declarators.proofs.tag.new_tag.Goals as goal

pub returns-clause-symbols : goal.returns-clause-symbols
returns-clause-symbols c =
    let t : TokenText = record { source = []; list = [] } in
    new_noted c.add_tag.result c.args.state.now c.add_tag.new.self c.args.kind c.add_tag.ensures.row
    (on_ok_weaker c.add_tag.result (λ k. ap (λ (e : Env). e.tags) (k (λ n. n) t (start_of t))) c.add_tag.ensures.known)

pub returns-clause-constants : goal.returns-clause-constants
returns-clause-constants c =
    let t : TokenText = record { source = []; list = [] } in
    new_constants c.add_tag.result c.args.state.now c.add_tag.new.self (record { kind = c.args.kind; members = [] }) refl c.add_tag.ensures.row
    (on_ok_weaker c.add_tag.result (λ k. ap (λ (e : Env). e.tags) (k (λ n. n) t (start_of t))) c.add_tag.ensures.known)
