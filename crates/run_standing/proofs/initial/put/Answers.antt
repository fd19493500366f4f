use Rattle.std.proofs.Common.{refl}
use Rattle.mem_spec.specs.Acts.{bytes}
use Rattle.mem_objects.specs.Pieces.{seen}
use Rattle.c_model.specs.Values.{address_after}
use Rattle.run_standing.proofs.Starts.{put_is, put_at}
use Rattle.run_standing.proofs.Ready.{put_fits, puts_live}
use Rattle.run_standing.proofs.initial.put.Goals as goal

pub returns-in-Ok-clause-exact : goal.returns-in-Ok-clause-exact
returns-in-Ok-clause-exact c = λ x is.
    let held = seen c.args.m.now c.args.bytes.now.cells in
    put_at c.args.m.now c.store.new.self x c.saturating_add-addr.result (address_after c.args.whole.addr c.args.at) held held
    c.saturating_add-addr.ensures refl
    (put_is c.args.m.now c.store.new.self c.args.whole.prov x c.saturating_add-addr.result held c.store.new.t is
    (λ cell io. c.in-Ok.ensures.exact cell tt bytes tt io))

pub returns-in-Ok-clause-room : goal.returns-in-Ok-clause-room
returns-in-Ok-clause-room c = λ x size is ready fits.
    let held = seen c.args.m.now c.args.bytes.now.cells in
    puts_live c.args.m.now c.store.new.self x c.saturating_add-addr.result held
    (put_is c.args.m.now c.store.new.self c.args.whole.prov x c.saturating_add-addr.result held c.store.new.t is
    (λ cell io. c.in-Ok.ensures.exact cell tt bytes tt io))

pub returns-in-Err-clause-room : goal.returns-in-Err-clause-room
returns-in-Err-clause-room c = λ x size is ready fits.
    put_fits c.args.m.now c.args.whole.prov x c.args.whole.addr c.args.at c.saturating_add-addr.result size c.args.bytes.now.cells c.in-Err._clause is ready
    c.saturating_add-addr.ensures fits (λ io. c.in-Err.ensures.raises bytes tt io)
