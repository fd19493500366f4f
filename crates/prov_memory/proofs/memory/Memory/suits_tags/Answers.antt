use Rattle.std.proofs.Common.{◌≡◌, ◌<◌, ◌∙◌, ap, true, false, map, arith, rules}
use Rattle.c_types.specs.Types.{type_of}
use Rattle.mem_objects.specs.declared.cell.Cell.{Cell}
use Rattle.mem_spec.specs.Acts.{tag_agrees, tags_agree}
use Rattle.mem_objects.specs.Cells.{cell_at, tag_in, tagged_in}
use Rattle.mem_objects.specs.Access.{bytes_in}
use Rattle.prov_memory.proofs.LoadLemmas.{tags_pass, tags_fail}
use Rattle.prov_memory.proofs.memory.Memory.suits_tags.Goals as goal

pub returns-then-not-suits_tag : goal.returns-then-not-suits_tag
returns-then-not-suits_tag c =
    let m = c.args.self.now in
    let a = type_of c.args.ty.now in
    let lt : c.loop-index.index < c.args.len = omega arith in
    let off : c.suits_tag.result ≡ false = search rules in
    tags_fail c.suits_tag.result (tags_agree a 0 (bytes_in m c.args.object.now c.args.from c.args.len)) a
    (λ k. tagged_in m.origins (map type_of m.types) (cell_at c.args.object.now.cells k)) c.args.from c.loop-index.index c.args.len lt c.loop-index.invariant
    (c.suits_tag.ensures ∙ ap (λ (k : Cell). tag_agrees a c.loop-index.index (tag_in (map type_of m.types) k)) c.cell.ensures) off

pub loop-index-preserved : goal.loop-index-preserved
loop-index-preserved c =
    let m = c.args.self.now in
    let a = type_of c.args.ty.now in
    let lt : c.loop-index.index < c.args.len = omega arith in
    let on : c.suits_tag.result ≡ true = search rules in
    tags_pass c.suits_tag.result (tags_agree a 0 (bytes_in m c.args.object.now c.args.from c.args.len)) a
    (λ k. tagged_in m.origins (map type_of m.types) (cell_at c.args.object.now.cells k)) c.args.from c.loop-index.index c.args.len lt c.loop-index.invariant
    (c.suits_tag.ensures ∙ ap (λ (k : Cell). tag_agrees a c.loop-index.index (tag_in (map type_of m.types) k)) c.cell.ensures) on
