use Rattle.std.proofs.Common.{◌∙◌, ap, ◌+◌, ◌*◌, ◌%◌, length, replicate, arith}
use Rattle.mem_objects.specs.Memory.{Kept}
use Rattle.prov_memory.proofs.KeepLemmas.{keeps_then}
use Rattle.c_model.specs.Values.{address_after}
use Rattle.run_standing.proofs.Content.{cells_known, cells_tagged}
use Rattle.run_standing.proofs.Starts.{
  clears_first,
  clears_more,
  all_zeros,
  cells_low,
  low_still,
  page_cells,
  page_place,
  first_place,
  first_zeros,
  all_pages,
  one_page_more,
}
use Rattle.run_standing.proofs.Ready.{first_fits, page_fits, puts_live, ready_low, ready_still, refused_then}
use Rattle.std.proofs.lemmas.Result.{err_from_is_err_and}
use Rattle.run_standing.proofs.initial.clear.Goals as goal

pub loop-number-init : goal.loop-number-init
loop-number-init c = record {
  alike = c.put.ensures.rest;
  cleared = λ x is low.
      let put = c.in_ok-put.ensures.exact x is in
      clears_first c.args.m.now c.put.new.m x c.args.whole.addr (address_after c.args.whole.addr 0) (c.args.size % 4096) (c.args.size % 4096 + 0 * 4096) _
      put c.in_ok-first.ensures
      (first_place c.args.whole.addr (c.args.size % 4096)
      (cells_low c.args.m.now c.put.new.m x (address_after c.args.whole.addr 0) (c.args.size % 4096) _ put c.in_ok-first.ensures low))
      (first_zeros c.args.size);
  keeps = c.put.ensures.kept (cells_known (length c.args.m.now.origins) _ (replicate (c.args.size % 4096) 0) c.in_ok-first.ensures)
      (cells_tagged (length c.args.m.now.types) _ (replicate (c.args.size % 4096) 0) c.in_ok-first.ensures);
}

pub loop-number-preserved : goal.loop-number-preserved
loop-number-preserved c =
    let inv = c.loop-number.invariant in
    let now = c.loop-number.m in
    record {
      alike = c.put-in-loop-number.ensures.rest ∙ inv.alike;
      cleared = λ x is low.
          let put = c.in_ok-put-2.ensures.exact x is in
          let zeros = page_cells _ c.args.size c.loop-number.number c.page_of.result c.loop-number-test.true c.page_of.ensures c.in_ok-page.ensures in
          clears_more c.args.m.now now c.put-in-loop-number.new.m x c.args.whole.addr (address_after c.args.whole.addr c.page_at.result)
          (c.args.size % 4096 + c.loop-number.number * 4096) 4096 (c.args.size % 4096 + (c.loop-number.number + 1) * 4096) _ inv.alike
          (inv.cleared x is low) put zeros
          (page_place c.args.whole.addr c.args.size c.loop-number.number c.page_at.result
          (cells_low now c.put-in-loop-number.new.m x (address_after c.args.whole.addr c.page_at.result) 4096 _ put zeros
          (low_still c.args.m.now now x inv.alike low)) c.loop-number-test.true c.page_at.ensures)
          (one_page_more c.args.size c.loop-number.number);
      keeps = keeps_then c.args.m.now now c.put-in-loop-number.new.m inv.keeps
          (c.put-in-loop-number.ensures.kept (cells_known (length now.origins) _ (replicate c.page_of.result 0) c.in_ok-page.ensures)
          (cells_tagged (length now.types) _ (replicate c.page_of.result 0) c.in_ok-page.ensures));
    }

pub returns-clause-exact : goal.returns-clause-exact
returns-clause-exact c = λ x is low.
    all_zeros c.args.m.now c.loop-number.m x c.args.whole.addr (c.args.size % 4096 + c.loop-number.number * 4096) c.args.size
    (all_pages c.args.size c.loop-number.number (omega arith)) (c.loop-number.invariant.cleared x is low)

pub returns-clause-rest : goal.returns-clause-rest
returns-clause-rest c = c.loop-number.invariant.alike

pub returns-clause-kept : goal.returns-clause-kept
returns-clause-kept c = c.loop-number.invariant.keeps

pub returns-in_err-put-clause-kept : goal.returns-in_err-put-clause-kept
returns-in_err-put-clause-kept c =
    c.put.ensures.kept (cells_known (length c.args.m.now.origins) _ (replicate (c.args.size % 4096) 0) c.in_ok-first.ensures)
    (cells_tagged (length c.args.m.now.types) _ (replicate (c.args.size % 4096) 0) c.in_ok-first.ensures)

pub returns-in_err-page-clause-kept : goal.returns-in_err-page-clause-kept
returns-in_err-page-clause-kept c =
    c.put.ensures.kept (cells_known (length c.args.m.now.origins) _ (replicate (c.args.size % 4096) 0) c.in_ok-first.ensures)
    (cells_tagged (length c.args.m.now.types) _ (replicate (c.args.size % 4096) 0) c.in_ok-first.ensures)

pub returns-in_err-put-2-clause-rest : goal.returns-in_err-put-2-clause-rest
returns-in_err-put-2-clause-rest c = c.put-in-loop-number.ensures.rest ∙ c.loop-number.invariant.alike

pub returns-in_err-put-2-clause-kept : goal.returns-in_err-put-2-clause-kept
returns-in_err-put-2-clause-kept c =
    let now = c.loop-number.m in
    keeps_then c.args.m.now now c.put-in-loop-number.new.m c.loop-number.invariant.keeps
    (c.put-in-loop-number.ensures.kept (cells_known (length now.origins) _ (replicate c.page_of.result 0) c.in_ok-page.ensures)
    (cells_tagged (length now.types) _ (replicate c.page_of.result 0) c.in_ok-page.ensures))

pub returns-in_err-put-clause-room : goal.returns-in_err-put-clause-room
returns-in_err-put-clause-room c = λ x is ready.
    let p = err_from_is_err_and c.from_residual-in_err-put.result c.from_residual-in_err-put.ensures.1 in
    refused_then c.args.m.now c.args.m.now c.put.new.m _ p.0 c.in_err-put.field-0.0 p.1 p.2
    (c.in_err-put.ensures.room x c.args.size is ready (first_fits _ c.args.size c.in_ok-first.ensures))

pub returns-in_err-put-2-clause-room : goal.returns-in_err-put-2-clause-room
returns-in_err-put-2-clause-room c = λ x is ready.
    let inv = c.loop-number.invariant in
    let now = c.loop-number.m in
    let low = ready_low c.args.m.now x c.args.whole.addr c.args.size ready in
    let lives = puts_live c.args.m.now now x c.args.whole.addr _ (inv.cleared x is low) in
    let zeros = page_cells _ c.args.size c.loop-number.number c.page_of.result c.loop-number-test.true c.page_of.ensures c.in_ok-page.ensures in
    let p = err_from_is_err_and c.from_residual-in_err-put-2.result c.from_residual-in_err-put-2.ensures.1 in
    refused_then c.args.m.now now c.put-in-loop-number.new.m _ p.0 c.in_err-put-2.field-0.0 p.1 p.2
    (c.in_err-put-2.ensures.room x c.args.size is
    (ready_still c.args.m.now now x c.args.whole.addr c.args.size (ap (λ (m : Kept). m.rows) inv.alike) lives ready)
    (page_fits _ c.args.size c.loop-number.number c.page_at.result c.loop-number-test.true c.page_at.ensures zeros))

pub returns-clause-room : goal.returns-clause-room
returns-clause-room c = λ x is ready.
    puts_live c.args.m.now c.loop-number.m x c.args.whole.addr _
    (c.loop-number.invariant.cleared x is (ready_low c.args.m.now x c.args.whole.addr c.args.size ready))
