use Rattle.std.proofs.Common.{◌≡◌, ◌≤◌, ◌∙◌, Some, sym, ap, subst, arith, List, length, set}
use Rattle.std.specs.Prelude.{slice_get}
use Rattle.std.specs.HashMap as hash
use Rattle.addr_map.specs.Sound.{object_eq}
use Rattle.mem_objects.specs.Held.{Held, IsWritten, name_at, changed, holding}
use Rattle.mem_objects.specs.Memory.{HaveRows}
use Rattle.mem_objects.proofs.HeldLemmas.{named_at, got_is, indexed_put, not_gone, set_changed, once_at}
use Rattle.mem_objects.proofs.StoreLemmas.{rows_set}
use Rattle.mem_objects.proofs.objects.Objects.write.Goals as goal

pub invariant_of-self : goal.invariant_of-self
invariant_of-self c =
    indexed_put (hash.get object_eq c.self.inside.indices) c.self.inside.list.items c.args.at c.index_mut-object.result.now c.write.new.self c.self.invariant
    (ap (λ (h : Held). h.name) (c.write.ensures.written.rest) ∙ ap (λ (h : Held). h.name) c.index_mut-object.ensures.value) c.write.ensures.fits

pub returns-then-at-len-clause-rows : goal.returns-then-at-len-clause-rows
returns-then-at-len-clause-rows c = λ rows have.
    rows_set rows c.self.inside.list.items c.args.at c.index_mut-object.result.now c.write.new.self c.write.ensures.written.rest
    c.index_mut-object.ensures.value (subst (λ (l : List Held). HaveRows rows l) (sym c.self.view_is) have)

pub returns-then-at-len-clause-written : goal.returns-then-at-len-clause-written
returns-then-at-len-clause-written c = λ h e.
    let hs = c.self.inside.list.items in
    let d = c.index_mut-object.result.now in
    let there : slice_get hs c.args.at ≡ Some h = rw c.self.view_is e in
    let is : d ≡ h = c.index_mut-object.ensures.value ∙ got_is hs c.args.at h d there in
    let named : name_at hs c.args.at ≡ Some h.name = named_at hs c.args.at h there in
    let put : set hs c.args.at c.write.new.self ≡ changed (holding c.write.new.self.cells) h.name hs =
    set_changed (holding c.write.new.self.cells) hs c.args.at h.name d c.write.new.self named
    (once_at (hash.get object_eq c.self.inside.indices) hs h.name c.args.at c.self.invariant named) c.index_mut-object.ensures.value
    c.write.ensures.written.rest in (
      c.write.new.self,
      put ∙ ap (λ (l : List Held). changed (holding c.write.new.self.cells) h.name l) c.self.view_is,
      subst (λ (k : Held). IsWritten k c.write.new.self c.args.from c.args.via c.args.cells.now) is c.write.ensures.written,
    )

pub returns-else-at-len-clause-written : goal.returns-else-at-len-clause-written
returns-else-at-len-clause-written c = λ h e.
    let hs = c.self.inside.list.items in
    let gone : length hs ≤ c.args.at = omega (arith, c.self.inside.list.ok.0, c.len.ensures, c.if-at-len.false) in
    not_gone hs c.args.at h gone (rw c.self.view_is e)
