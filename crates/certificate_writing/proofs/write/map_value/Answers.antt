-- One more entry, and all of them.
use Rattle.std.proofs.Common.{◌≡◌, [], length, map, arith}
use Rattle.std.proofs.lemmas.Grind.{common_steps}
use Rattle.serde_json.proofs.Views.{view-Array}
use Rattle.serde_json.specs.View.{view}
use Rattle.certificate_writing.proofs.Entries.{none_left, packs_all, packs_grown}
use Rattle.certificate_writing.proofs.write.map_value.Goals as goal

pub loop-turn-preserved : goal.loop-turn-preserved
loop-turn-preserved c = record {
  packs = packs_grown c.loop-turn.rest.now c.in_ok-entry.others.now c.args.rows.now c.loop-turn.items.items c.push.new.self.items c.in_ok-entry.entry
      c.in_ok-entry.ensures.entry
      c.in_ok-push.ensures.items c.loop-turn.invariant.packs;
  fewer = let less = c.in_ok-entry.ensures.fewer in omega (arith, c.loop-turn.invariant.fewer, less);
}

pub returns-then-is_empty : goal.returns-then-is_empty
returns-then-is_empty c =
    let zero : length c.loop-turn.rest.now ≡ 0 = grind (arith, common_steps) in
    let none : c.loop-turn.rest.now ≡ [] = none_left c.loop-turn.rest.now (omega arith) in (
      map view c.loop-turn.items.items,
      packs_all c.args.rows.now c.loop-turn.rest.now (map view c.loop-turn.items.items) none c.loop-turn.invariant.packs,
      view-Array c.loop-turn.items,
    )

pub returns : goal.returns
returns c =
    let none : c.loop-turn.rest.now ≡ [] = none_left c.loop-turn.rest.now (omega (arith, c.loop-turn.invariant.fewer)) in (
      map view c.loop-turn.items.items,
      packs_all c.args.rows.now c.loop-turn.rest.now (map view c.loop-turn.items.items) none c.loop-turn.invariant.packs,
      view-Array c.loop-turn.items,
    )
