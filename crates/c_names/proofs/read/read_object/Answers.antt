use Rattle.std.proofs.Common.{◌∙◌, sym, true≢false}
use Rattle.std.proofs.lemmas.Slice.Eq.{slice_eq-Decides}
use Rattle.std.proofs.lemmas.Bool.Decides.{Decides-eqb}
use Rattle.c_names.proofs.ObjectLemmas.{IsNoObjectText-from_cut, IsNoObjectText-from_word}
use Rattle.c_names.proofs.read.read_object.Goals as goal

pub returns-in_default-clause-answer : goal.returns-in_default-clause-answer
returns-in_default-clause-answer c =
    IsNoObjectText-from_cut c.args.text.now
    (λ e. true≢false (sym ((slice_eq-Decides Decides-eqb _ _ _ c.eq.ensures).1 (sym e ∙ sym c.as_slice.ensures)) ∙ c.if-eq.false))
    c.in_default.ensures

pub returns-in_default-sort_of-clause-answer : goal.returns-in_default-sort_of-clause-answer
returns-in_default-sort_of-clause-answer c =
    IsNoObjectText-from_word c.args.text.now c.in-Some.word.now c.in-Some.rest.now
    (λ e. true≢false (sym ((slice_eq-Decides Decides-eqb _ _ _ c.eq.ensures).1 (sym e ∙ sym c.as_slice.ensures)) ∙ c.if-eq.false))
    c.in-Some.ensures.0 c.in-Some.ensures.1 c.in_default-sort_of.ensures
