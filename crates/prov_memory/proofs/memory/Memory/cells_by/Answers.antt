use Rattle.std.proofs.Common.{◌≡◌, ℕ, ◌+◌, ◌<◌, ◌∙◌, ap, map, option_map, slice_get, arith, rules}
use Rattle.c_types.specs.Types.{type_of}
use Rattle.c_types.specs.Shapes.{form_of}
use Rattle.mem_objects.specs.Cells.{cell_at, tagged_in}
use Rattle.mem_objects.specs.Tags.{retagged_byte}
use Rattle.mem_objects.proofs.TagLemmas.{adds_then, taken_next, taken_all}
use Rattle.mem_objects.specs.Memory.{Kept}
use Rattle.mem_objects.proofs.SoundLemmas.{cell_known}
use Rattle.prov_memory.proofs.memory.Memory.cells_by.Goals as goal

pub loop-offset-preserved : goal.loop-offset-preserved
loop-offset-preserved c =
    let m = c.args.self.now in
    let now = c.loop-offset.self in
    let n = c.loop-offset.offset in
    let inv = c.loop-offset.invariant in
    let o = option_map (λ shape. form_of shape.value) c.args.declared.now in
    let lt : n < c.args.len = omega arith in
    record {
      more = adds_then m now c.retagged.new.self inv.more c.retagged.ensures.more;
      rest = c.retagged.ensures.rest ∙ inv.rest;
      known = λ known h e. cell_known m h c.args.at c.saturating_add-place.result c.loop-offset.cells.items c.push.new.self.items c.cell_in-cell.result
          c.in_ok-tagged.tagged known e (c.cell_in-cell.ensures h (ap (λ (k : Kept). slice_get k.objects c.args.at) inv.rest ∙ e))
          c.in_ok-tagged.ensures.origin
          c.in_ok-push.ensures.items (inv.known known h e);
      len = search rules;
      taken = λ range known h e.
          let place : c.saturating_add-place.result ≡ c.args.from + n = omega (arith, c.saturating_add-place.ensures, range, lt) in
          taken_next m now c.retagged.new.self h o c.args.from n c.args.at c.loop-offset.cells.items c.push.new.self.items c.cell_in-cell.result
          c.in_ok-tagged.tagged inv.more c.retagged.ensures.more known e (inv.taken range known h e)
          (λ g there. c.cell_in-cell.ensures g there ∙ ap (λ (k : ℕ). cell_at g.cells k) place)
          (c.in_ok-tagged.ensures.byte ∙ ap (λ (k : ℕ). retagged_byte o k (tagged_in now.origins (map type_of now.types) c.cell_in-cell.result)) place)
          c.in_ok-tagged.ensures.known c.in_ok-push.ensures.items;
    }

pub returns-clause-taken : goal.returns-clause-taken
returns-clause-taken c = λ range known h e.
    taken_all c.args.self.now c.loop-offset.self h (option_map (λ shape. form_of shape.value) c.args.declared.now) c.args.from c.args.len c.loop-offset.offset
    c.loop-offset.cells.items (omega arith) (c.loop-offset.invariant.taken range known h e)
