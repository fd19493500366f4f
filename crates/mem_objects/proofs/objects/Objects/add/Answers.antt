use Rattle.std.proofs.Common.{◌≡◌, ◌∙◌, sym, ap, subst, arith, List, ◌++◌, ◌∷◌, [], None}
use Rattle.std.specs.HashMap as hash
use Rattle.addr_map.specs.Sound.{object_eq}
use Rattle.mem_objects.specs.contracts.object.Object.{the_view}
use Rattle.mem_objects.specs.Held.{Held, IsIndexed, held_of}
use Rattle.mem_objects.proofs.HeldLemmas.{indexed_added, indexed_same}
use Rattle.mem_objects.proofs.objects.Objects.add.Goals as goal

pub invariant_of-self-in_err-insert : goal.invariant_of-self-in_err-insert
invariant_of-self-in_err-insert c =
    subst (λ (hs : List Held). IsIndexed (hash.get object_eq c.insert.new.self) hs) (sym c.reserve.ensures.items)
    (indexed_same c.self.inside.indices c.insert.new.self c.self.inside.list.items c.in_err-insert.ensures.err c.self.invariant)

pub invariant_of-self-2 : goal.invariant_of-self-2
invariant_of-self-2 c =
    let hs = c.self.inside.list.items in
    let now : held_of hs c.args.object.name ≡ None = subst (λ (l : List Held). held_of l c.args.object.name ≡ None) (sym c.self.view_is) c.requires in
    let none : held_of hs c.object.inside.name ≡ None = subst (λ (h : Held). held_of hs h.name ≡ None) (sym c.object.view_is) now in
    let items : c.push_reserved.new.self.items ≡ hs ++ the_view c.object.inside ∷ [] =
    c.push_reserved.ensures.items ∙ ap (λ (l : List Held). l ++ c.args.object ∷ []) c.reserve.ensures.items ∙ ap (λ (h : Held). hs ++ h ∷ [])
    (sym c.object.view_is) in
    subst (λ (l : List Held). IsIndexed (hash.get object_eq c.insert.new.self) l) (sym items)
    (indexed_added (hash.get object_eq c.self.inside.indices) (hash.get object_eq c.insert.new.self) hs (the_view c.object.inside) c.len.result
    c.self.invariant c.in_ok-insert.ensures.updates.0
    (omega (arith, c.len.ensures, c.reserve.ensures.len, c.self.inside.list.ok.0)) none
    (c.object.invariant.0, omega (arith, c.object.invariant.1, c.object.inside.cells.ok.0)))
