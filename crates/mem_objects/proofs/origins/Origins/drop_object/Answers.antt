use Rattle.std.proofs.Common.{◌≡◌, ◌∙◌, sym, subst, arith, List, ◌++◌, ◌∷◌, []}
use Rattle.exposure.specs.declared.prov.Prov.{Prov}
use Rattle.exposure.specs.declared.prov.Prov.TheVariants.{Whole}
use Rattle.mem_objects.specs.Made.{AreNumbered}
use Rattle.mem_objects.proofs.ProvLemmas.{numbered_dropped, last_dropped}
use Rattle.mem_objects.proofs.origins.Origins.drop_object.Goals as goal

pub invariant_of-self : goal.invariant_of-self
invariant_of-self c =
    let ps = c.requires.0 in
    let x = c.requires.1 in
    let is : c.self.inside.list.items ≡ ps ++ Whole x ∷ [] = c.self.view_is ∙ c.requires.2 in
    let left : c.pop.new.self.items ≡ ps =
    last_dropped ps c.pop.new.self.items c.self.inside.list.items (Whole x) _ is (omega (arith, c.self.inside.list.ok.0)) c.pop.ensures.rest in
    subst (λ (l : List Prov). AreNumbered c.self.inside.numbers l) (sym left)
    (numbered_dropped c.self.inside.numbers ps x (subst (λ (l : List Prov). AreNumbered c.self.inside.numbers l) is c.self.invariant))

pub returns : goal.returns
returns c = λ ps x e.
    last_dropped ps c.pop.new.self.items c.self.inside.list.items (Whole x) _ (c.self.view_is ∙ e) (omega (arith, c.self.inside.list.ok.0)) c.pop.ensures.rest
