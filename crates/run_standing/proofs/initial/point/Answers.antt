use Rattle.std.proofs.Common.{◌∙◌, refl, arith}
use Rattle.prov_memory.proofs.KeepLemmas.{keeps_none}
use Rattle.run_standing.specs.Standing.{pointers}
use Rattle.run_standing.proofs.Starting.{pointing, pointing_null}
use Rattle.run_standing.proofs.Statics.{at_object, reached_none}
use Rattle.run_standing.proofs.Vectors.{next_offset, pointed_next, pointed_all, ok_then}
use Rattle.std.proofs.lemmas.Result.{err_from_is_err_and}
use Rattle.run_standing.proofs.Ready.{filled_then, lives_same, lives_then, refused_then}
use Rattle.run_standing.proofs.Rooms.{null_room, pointer_room}
use Rattle.run_standing.proofs.initial.point.Goals as goal

pub loop-argument-init : goal.loop-argument-init
loop-argument-init c = record {
  keeps = λ sound made. keeps_none c.args.m.now;
  alike = refl;
  offset = refl;
  pointed = λ sound made x is words are few. reached_none c.args.m.now (at_object x c.args.vector.addr) (pointers 0 0 words);
  live = λ sound made stands above words are few waits. lives_same c.args.m.now;
}

pub loop-argument-preserved : goal.loop-argument-preserved
loop-argument-preserved c =
    let inv = c.loop-argument.invariant in
    record {
      keeps = λ sound made.
          pointing c.args.m.now c.loop-argument.m c.put.new.m c.args.arguments.now c.loop-argument.argument-index c.argument-item.result c.value.result _
          sound (inv.keeps sound made) made c.loop-argument-test.true c.argument-item.is (c.value.ensures c.loop-argument.m)
          c.in_ok-bytes.ensures.known c.in_ok-bytes.ensures.tagged c.put.ensures.kept;
      alike = c.put.ensures.rest ∙ inv.alike;
      offset = next_offset c.loop-argument.at c.loop-argument.argument-index c.saturating_add-at.result inv.offset c.saturating_add-at.ensures;
      pointed = λ sound made x is words are few.
          pointed_next c.args.m.now c.loop-argument.m c.put.new.m x c.args.vector.addr words c.args.arguments.now c.loop-argument.argument-index
          c.loop-argument.at c.argument-item.result c.value.result _ sound (inv.keeps sound made) made c.loop-argument-test.true c.argument-item.is
          inv.offset (c.value.ensures c.loop-argument.m) c.in_ok-bytes.ensures.bytes inv.alike (c.in_ok-put.ensures.exact x is) are few
          (inv.pointed sound made x is words are few);
      live = λ sound made stands above words are few waits.
          lives_then c.args.m.now c.loop-argument.m c.put.new.m (inv.live sound made stands above words are few waits)
          (pointer_room c.args.m.now c.loop-argument.m c.args.vector words c.args.arguments.now c.loop-argument.argument-index c.loop-argument.at
          c.argument-item.result c.value.result _ sound (inv.keeps sound made) made c.loop-argument-test.true c.argument-item.is inv.offset
          (c.value.ensures c.loop-argument.m) c.in_ok-bytes.ensures.bytes (inv.live sound made stands above words are few waits) inv.alike stands above are
          waits c.in_ok-put.ensures.room);
    }

pub returns-in_err-put-clause-kept : goal.returns-in_err-put-clause-kept
returns-in_err-put-clause-kept c = λ sound made.
    pointing c.args.m.now c.loop-argument.m c.put.new.m c.args.arguments.now c.loop-argument.argument-index c.argument-item.result c.value.result _ sound
    (c.loop-argument.invariant.keeps sound made) made c.loop-argument-test.true c.argument-item.is (c.value.ensures c.loop-argument.m)
    c.in_ok-bytes.ensures.known c.in_ok-bytes.ensures.tagged c.put.ensures.kept

pub returns-clause-kept : goal.returns-clause-kept
returns-clause-kept c = λ sound made.
    pointing_null c.args.m.now c.loop-argument.m c.put-2.new.m c.null.result c.value-2.result _ sound (c.loop-argument.invariant.keeps sound made)
    c.null.ensures (c.value-2.ensures c.loop-argument.m) c.in_ok-null.ensures.known c.in_ok-null.ensures.tagged c.put-2.ensures.kept

pub returns-clause-exact : goal.returns-clause-exact
returns-clause-exact c =
    let inv = c.loop-argument.invariant in
    ok_then c.put-2.result _ _ (λ puts sound made stands words are few.
    pointed_all c.args.m.now c.loop-argument.m c.put-2.new.m c.args.vector c.null.result words c.args.arguments.now c.loop-argument.argument-index
    c.loop-argument.at c.value-2.result _ sound (inv.keeps sound made) (omega arith) inv.offset c.null.ensures (c.value-2.ensures c.loop-argument.m)
    c.in_ok-null.ensures.bytes inv.alike c.put-2.ensures.rest puts stands are few (λ x is. inv.pointed sound made x is words are few))
    c.put-2.ensures.exact

pub returns-in_err-put-clause-room : goal.returns-in_err-put-clause-room
returns-in_err-put-clause-room c = λ sound made stands above words are few waits.
    let inv = c.loop-argument.invariant in
    let p = err_from_is_err_and c.from_residual-in_err-put.result c.from_residual-in_err-put.ensures.1 in
    refused_then c.args.m.now c.loop-argument.m c.put.new.m _ p.0 c.in_err-put.field-0.0 p.1 p.2
    (pointer_room c.args.m.now c.loop-argument.m c.args.vector words c.args.arguments.now c.loop-argument.argument-index c.loop-argument.at
    c.argument-item.result c.value.result _ sound (inv.keeps sound made) made c.loop-argument-test.true c.argument-item.is inv.offset
    (c.value.ensures c.loop-argument.m) c.in_ok-bytes.ensures.bytes (inv.live sound made stands above words are few waits) inv.alike stands above are waits
    c.in_err-put.ensures.room)

pub returns-clause-room : goal.returns-clause-room
returns-clause-room c = λ sound made stands above words are few waits.
    let inv = c.loop-argument.invariant in
    let lives = inv.live sound made stands above words are few waits in
    filled_then c.args.m.now c.loop-argument.m c.put-2.new.m _ lives
    (null_room c.args.m.now c.loop-argument.m c.args.vector c.null.result words c.args.arguments.now c.loop-argument.argument-index c.loop-argument.at
    c.value-2.result _ sound (inv.keeps sound made) (omega arith) inv.offset c.null.ensures (c.value-2.ensures c.loop-argument.m)
    c.in_ok-null.ensures.bytes lives inv.alike stands above are waits c.put-2.ensures.room)
