use Rattle.std.proofs.Common.{◌∙◌, refl, arith, ap}
use Rattle.prov_memory.proofs.KeepLemmas.{keeps_none, keeps_then}
use Rattle.run_values.proofs.Keeping.{filling_of, filling_still}
use Rattle.run_standing.proofs.Starting.{static_held}
use Rattle.run_standing.proofs.Statics.{at_object, filled_next, reached_none, static_filled}
use Rattle.std.proofs.lemmas.Result.{err_from_is_err_and}
use Rattle.ub_base.specs.declared.names.ObjName.TheVariants as names
use Rattle.mem_objects.specs.Memory.{Kept}
use Rattle.run_standing.proofs.Ready.{lives_same, lives_then, ready_still, refused_then, within_at}
use Rattle.run_standing.proofs.Rooms.{static_ready, static_within}
use Rattle.run_standing.proofs.initial.fill_static.Goals as goal

pub loop-filling-init : goal.loop-filling-init
loop-filling-init c = record {
  alike = refl;
  keeps = λ are. keeps_none c.clear.new.m;
  reached = λ x is cs are still. reached_none c.clear.new.m (at_object x c.object-whole.result.addr) cs;
  live = λ x size is ready within. lives_same c.clear.new.m;
}

pub loop-filling-preserved : goal.loop-filling-preserved
loop-filling-preserved c =
    let inv = c.loop-filling.invariant in
    record {
      alike = c.put.ensures.rest ∙ inv.alike;
      keeps = λ are.
          let here = filling_still c.clear.new.m c.loop-filling.m c.filling-item.result inv.alike
          (filling_of c.clear.new.m c.as_slice-filling-items.result.now c.loop-filling.filling-index c.filling-item.result are c.loop-filling-test.true
          c.filling-item.is) in
          keeps_then c.clear.new.m c.loop-filling.m c.put.new.m (inv.keeps are) (c.put.ensures.kept here.0 here.1);
      reached = λ x is cs are still.
          filled_next c.clear.new.m c.loop-filling.m c.put.new.m x c.object-whole.result.addr c.as_slice-filling-items.result.now cs
          c.loop-filling.filling-index c.filling-item.result are still c.loop-filling-test.true c.filling-item.is inv.alike (c.in_ok-put.ensures.exact x is)
          (inv.reached x is cs are still);
      live = λ x size is ready within.
          let lives = inv.live x size is ready within in
          let now = ready_still c.clear.new.m c.loop-filling.m x c.object-whole.result.addr size (ap (λ (m : Kept). m.rows) inv.alike) lives ready in
          lives_then c.clear.new.m c.loop-filling.m c.put.new.m lives (c.in_ok-put.ensures.room x size is now
          (within_at size c.as_slice-filling-items.result.now c.loop-filling.filling-index c.filling-item.result c.loop-filling-test.true
          c.filling-item.is within));
    }

pub returns-in_err-put-clause-kept : goal.returns-in_err-put-clause-kept
returns-in_err-put-clause-kept c = λ sound placed lawful.
    let inv = c.loop-filling.invariant in
    let are = static_held c.args.m.now c.clear.new.m c.args.p.now c.args.places.now c.args.object.now.constants c.as_slice.result.now _
    c.as_slice-filling-items.result.now c.clear.ensures.kept sound placed lawful c.as_slice.ensures c.as_slice-filling-items.ensures
    c.in_ok-fillings.ensures.made in
    let here = filling_still c.clear.new.m c.loop-filling.m c.filling-item.result inv.alike
    (filling_of c.clear.new.m c.as_slice-filling-items.result.now c.loop-filling.filling-index c.filling-item.result are c.loop-filling-test.true
    c.filling-item.is) in
    keeps_then c.args.m.now c.loop-filling.m c.put.new.m
    (keeps_then c.args.m.now c.clear.new.m c.loop-filling.m c.clear.ensures.kept (inv.keeps are)) (c.put.ensures.kept here.0 here.1)

pub returns-clause-kept : goal.returns-clause-kept
returns-clause-kept c = λ sound placed lawful.
    let are = static_held c.args.m.now c.clear.new.m c.args.p.now c.args.places.now c.args.object.now.constants c.as_slice.result.now _
    c.as_slice-filling-items.result.now c.clear.ensures.kept sound placed lawful c.as_slice.ensures c.as_slice-filling-items.ensures
    c.in_ok-fillings.ensures.made in
    keeps_then c.args.m.now c.clear.new.m c.loop-filling.m c.clear.ensures.kept (c.loop-filling.invariant.keeps are)

pub returns-clause-exact : goal.returns-clause-exact
returns-clause-exact c = λ sound placed lawful lt few.
    static_filled c.args.m.now c.clear.new.m c.loop-filling.m c.args.p.now c.args.places.now c.args.number c.short-number.result
    c.loop-filling.filling-index c.args.object.now c.extent_of_object-extent.result c.object-whole.result c.as_slice.result.now _
    c.as_slice-filling-items.result.now c.clear.ensures.rest c.loop-filling.invariant.alike c.clear.ensures.kept sound placed lawful
    (c.short-number.ensures (omega (arith, lt, few))) lt c.as_slice.ensures c.extent_of_object-extent.ensures c.object-whole.ensures
    c.in_ok-clear.ensures.exact c.in_ok-fillings.ensures.exact c.as_slice-filling-items.ensures (omega arith) c.loop-filling.invariant.reached

pub returns-in_err-clear-clause-room : goal.returns-in_err-clear-clause-room
returns-in_err-clear-clause-room c = λ sound placed lawful lt few above o is waits.
    let there = static_ready c.args.m.now c.args.p.now c.args.places.now c.args.number c.short-number.result c.args.object.now
    c.extent_of_object-extent.result c.object-whole.result o placed (c.short-number.ensures (omega (arith, lt, few))) lt c.extent_of_object-extent.ensures
    c.object-whole.ensures above is waits in
    let x = names.Static c.short-number.result in
    let size = c.extent_of_object-extent.result.size in
    let p = err_from_is_err_and c.from_residual.result c.from_residual.ensures.1 in
    refused_then c.args.m.now c.args.m.now c.clear.new.m _ p.0 c.in_err-clear.field-0.0 p.1 p.2 (c.in_err-clear.ensures.room x there.0 there.1)

pub returns-in_err-put-clause-room : goal.returns-in_err-put-clause-room
returns-in_err-put-clause-room c = λ sound placed lawful lt few above o is waits.
    let there = static_ready c.args.m.now c.args.p.now c.args.places.now c.args.number c.short-number.result c.args.object.now
    c.extent_of_object-extent.result c.object-whole.result o placed (c.short-number.ensures (omega (arith, lt, few))) lt c.extent_of_object-extent.ensures
    c.object-whole.ensures above is waits in
    let x = names.Static c.short-number.result in
    let size = c.extent_of_object-extent.result.size in
    let inv = c.loop-filling.invariant in
    let cleared = c.in_ok-clear.ensures.room x there.0 there.1 in
    let ready = ready_still c.args.m.now c.clear.new.m x c.object-whole.result.addr size (ap (λ (m : Kept). m.rows) c.clear.ensures.rest) cleared there.1 in
    let within = static_within c.args.m.now c.clear.new.m c.args.p.now c.args.places.now c.args.object.now c.extent_of_object-extent.result
    c.as_slice.result.now _ c.as_slice-filling-items.result.now c.clear.ensures.kept sound placed lawful c.as_slice.ensures
    c.extent_of_object-extent.ensures c.in_ok-fillings.ensures.exact c.as_slice-filling-items.ensures in
    let lives = inv.live x size there.0 ready within in
    let now = ready_still c.clear.new.m c.loop-filling.m x c.object-whole.result.addr size (ap (λ (m : Kept). m.rows) inv.alike) lives ready in
    let p = err_from_is_err_and c.from_residual-in_err-put.result c.from_residual-in_err-put.ensures.1 in
    refused_then c.args.m.now c.loop-filling.m c.put.new.m _ p.0 c.in_err-put.field-0.0 p.1 p.2 (c.in_err-put.ensures.room x size there.0 now
    (within_at size c.as_slice-filling-items.result.now c.loop-filling.filling-index c.filling-item.result c.loop-filling-test.true c.filling-item.is within))

pub returns-clause-room : goal.returns-clause-room
returns-clause-room c = λ sound placed lawful lt few above o is waits.
    let there = static_ready c.args.m.now c.args.p.now c.args.places.now c.args.number c.short-number.result c.args.object.now
    c.extent_of_object-extent.result c.object-whole.result o placed (c.short-number.ensures (omega (arith, lt, few))) lt c.extent_of_object-extent.ensures
    c.object-whole.ensures above is waits in
    let x = names.Static c.short-number.result in
    let size = c.extent_of_object-extent.result.size in
    let inv = c.loop-filling.invariant in
    let cleared = c.in_ok-clear.ensures.room x there.0 there.1 in
    let ready = ready_still c.args.m.now c.clear.new.m x c.object-whole.result.addr size (ap (λ (m : Kept). m.rows) c.clear.ensures.rest) cleared there.1 in
    let within = static_within c.args.m.now c.clear.new.m c.args.p.now c.args.places.now c.args.object.now c.extent_of_object-extent.result
    c.as_slice.result.now _ c.as_slice-filling-items.result.now c.clear.ensures.kept sound placed lawful c.as_slice.ensures
    c.extent_of_object-extent.ensures c.in_ok-fillings.ensures.exact c.as_slice-filling-items.ensures in
    let lives = inv.live x size there.0 ready within in
    lives_then c.args.m.now c.clear.new.m c.loop-filling.m cleared lives
