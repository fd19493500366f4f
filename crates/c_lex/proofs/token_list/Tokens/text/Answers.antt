use Rattle.std.proofs.Common.{◌≡◌, ◌<◌, ◌∙◌, ap, arith, length, refl, subst, sym}
use Rattle.std.proofs.lemmas.Option.{slice_get_read}
use Rattle.c_lex.specs.TokenText.{span_text, text_at}
use Rattle.c_lex.proofs.Spans.{span_of}
use Rattle.c_lex.proofs.token_list.Tokens.text.Goals as goal

pub part-requires : goal.part-requires
part-requires c =
    let there = subst (λ v. c.args.at < length v.list) (sym c.self.view_is) c.requires in
    let read = slice_get_read c.self.inside.list.items _ c.args.at c.index-token.result.now refl there c.index-token.ensures in
    let s = span_of 0 _ _ c.args.at _ c.self.invariant.rise read in
    record { order = (let l = s.0 in omega arith); within = s.1 }

pub returns : goal.returns
returns c =
    let there = subst (λ v. c.args.at < length v.list) (sym c.self.view_is) c.requires in
    let read = slice_get_read c.self.inside.list.items _ c.args.at c.index-token.result.now refl there c.index-token.ensures in
    c.part.ensures ∙ ap (span_text c.self.inside.source.now) (sym read) ∙ ap (λ v. text_at v c.args.at) c.self.view_is
