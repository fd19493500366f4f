use Rattle.std.proofs.Common.{◌≡◌, sym, ap, ◌∙◌, subst, refl, List, ◌++◌, ◌∷◌, []}
use Rattle.exposure.specs.declared.prov.Prov.{Prov}
use Rattle.exposure.specs.declared.prov.Prov.TheVariants.{Either}
use Rattle.mem_objects.specs.Made.{AreNumbered}
use Rattle.mem_objects.proofs.ProvLemmas.{numbered_ambiguity, numbered_same}
use Rattle.mem_objects.specs.Sound.{AllMade}
use Rattle.mem_objects.proofs.SoundLemmas.{each_last}
use Rattle.mem_objects.proofs.origins.Origins.add_ambiguity.Goals as goal

pub invariant_of-self-in_err-insert : goal.invariant_of-self-in_err-insert
invariant_of-self-in_err-insert c =
    subst (λ (ps : List Prov). AreNumbered c.insert.new.self ps) (sym c.reserve.ensures.items)
    (numbered_same c.self.inside.numbers c.insert.new.self c.self.inside.list.items c.in_err-insert.ensures.err c.self.invariant)

pub invariant_of-self-2 : goal.invariant_of-self-2
invariant_of-self-2 c =
    let ps = c.self.inside.list.items in
    let p = Either c.args.id c.args.past c.args.start in
    let items : c.push_reserved.new.self.items ≡ ps ++ p ∷ [] = c.push_reserved.ensures.items ∙ ap (λ (l : List Prov). l ++ p ∷ []) c.reserve.ensures.items in
    subst (λ (l : List Prov). AreNumbered c.insert.new.self l) (sym items)
    (numbered_ambiguity c.self.inside.numbers c.insert.new.self ps p c.in_ok-number.number refl (rw c.self.view_is c.in_ok-number.ensures)
    c.in_ok-insert.ensures.updates.0 c.self.invariant)

pub returns-clause-each : goal.returns-clause-each
returns-clause-each c = λ m made each.
    let ps = c.self.inside.list.items in
    let p = Either c.args.id c.args.past c.args.start in
    let items : c.push_reserved.new.self.items ≡ ps ++ p ∷ [] = c.push_reserved.ensures.items ∙ ap (λ (l : List Prov). l ++ p ∷ []) c.reserve.ensures.items in
    subst (λ (l : List Prov). AllMade m l) (sym items) (each_last m ps p made (subst (λ (l : List Prov). AllMade m l) (sym c.self.view_is) each))
