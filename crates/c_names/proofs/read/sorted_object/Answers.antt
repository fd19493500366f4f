use Rattle.std.proofs.Common.{◌++◌, sym, subst, codes}
use Rattle.c_names.specs.Texts.{IsNoObjectText}
use Rattle.c_names.specs.Words.{sort_text}
use Rattle.c_names.proofs.ObjectLemmas.{IsNoObjectText-from_static, IsNoObjectText-from_lit, IsNoObjectText-from_arg}
use Rattle.c_names.proofs.read.sorted_object.Goals as goal

pub returns-in-None-clause-answer : goal.returns-in-None-clause-answer
returns-in-None-clause-answer c =
    subst (λ s. IsNoObjectText (sort_text s ++ (codes " " ++ c.args.text.now))) (sym c.in-Static.is)
    (IsNoObjectText-from_static c.args.text.now c.in-None.ensures)

pub returns-in-None-small_number-clause-answer : goal.returns-in-None-small_number-clause-answer
returns-in-None-small_number-clause-answer c =
    subst (λ s. IsNoObjectText (sort_text s ++ (codes " " ++ c.args.text.now))) (sym c.in-Lit.is)
    (IsNoObjectText-from_lit c.args.text.now c.in-None-small_number.ensures)

pub returns-in-None-small_number-2-clause-answer : goal.returns-in-None-small_number-2-clause-answer
returns-in-None-small_number-2-clause-answer c =
    subst (λ s. IsNoObjectText (sort_text s ++ (codes " " ++ c.args.text.now))) (sym c.in-Arg.is)
    (IsNoObjectText-from_arg c.args.text.now c.in-None-small_number-2.ensures)
