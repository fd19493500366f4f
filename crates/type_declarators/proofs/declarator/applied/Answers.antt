use Rattle.std.proofs.Common.{sym, ◌∙◌, subst, List, map}
use Rattle.std.specs.Prelude.{Some, None}
use Rattle.c_types.specs.Types.{qualified_of}
use Rattle.typing_env.specs.Seen.{tag_seen}
use Rattle.type_declarators.specs.declared.declarator.Derivation.{Derivation}
use Rattle.type_declarators.specs.Parts.{AllFit}
use Rattle.type_declarators.proofs.Applied.{fits_last, one_applied}
use Rattle.type_declarators.proofs.declarator.applied.Goals as goal

pub returns-in-Err : goal.returns-in-Err
returns-in-Err c fits other =
    let tags = map tag_seen (c.args.state.now).tags in
    let inv = c.loop-part.invariant fits in
    let fit = fits_last c.pop.new.self.items c.in-Some.part (subst (λ (ds : List Derivation). AllFit ds) c.in-Some.ensures.items inv.0) in
    sym inv.1
    ∙ one_applied tags c.loop-part.parts.items c.pop.new.self.items c.in-Some.part (qualified_of c.loop-part.qual) None c.in-Some.ensures.items
    (c.in-Err.ensures fit.1 other)

pub loop-part-preserved : goal.loop-part-preserved
loop-part-preserved c fits =
    let tags = map tag_seen (c.args.state.now).tags in
    let inv = c.loop-part.invariant fits in
    let fit = fits_last c.pop.new.self.items c.in-Some.part (subst (λ (ds : List Derivation). AllFit ds) c.in-Some.ensures.items inv.0) in (
      fit.0,
      sym (one_applied tags c.loop-part.parts.items c.pop.new.self.items c.in-Some.part (qualified_of c.loop-part.qual)
          (Some (qualified_of c.in-Ok.next)) c.in-Some.ensures.items (c.in-Ok.ensures fit.1)) ∙ inv.1,
    )
