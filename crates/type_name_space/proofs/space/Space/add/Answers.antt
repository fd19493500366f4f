use Rattle.std.proofs.Common.{◌≡◌, ℕ, suc, List, get_or, length, ap, ◌∙◌, arith}
use Rattle.std.proofs.lemmas.Grind.{common_steps}
use Rattle.type_name_space.proofs.Links.{pushed}
use Rattle.type_name_space.proofs.space.Space.add.Goals as goal

pub invariant_of-self-2 : goal.invariant_of-self-2
invariant_of-self-2 g c =
    let more : c.len-place.result ≡ suc (length c.self.inside.bindings.items) = grind (arith, common_steps) in
    pushed c.self.inside.newest.items c.make_room.new.places.items c.put_place.new.places.items c.self.inside.bindings.items c.push.new.self.items
    (record { symbol = c.args.symbol; depth = c.args.depth; meaning = c.args.meaning; hidden = c.place_at-hidden.result }) c.len-place.result
    c.self.invariant c.make_room.ensures.same (c.place_at-hidden.ensures ∙ ap (λ (xs : List ℕ). get_or xs c.args.symbol 0) c.deref.ensures.value)
    more c.put_place.ensures c.in_ok-push.ensures.items
