use Rattle.std.proofs.Common.{◌≡◌, ◌-◌, ◌∙◌, ap, ℕ}
use Rattle.addr_map.specs.Rows.{row_of}
use Rattle.mem_spec.specs.Acts.{size_in}
use Rattle.libc_arguments.specs.Parts.{byte_at}
use Rattle.libc_print.specs.Strings.{bounded_size}
use Rattle.libc_print.proofs.Bounded.{bounded_by, bounded_is, wanted_there, wanted_past}
use Rattle.libc_print.proofs.strings.bounded_length.Goals as goal

pub returns-in-Some-clause-size : goal.returns-in-Some-clause-size
returns-in-Some-clause-size c =
    let left : c.saturating_sub-left.result ≡ size_in (row_of c.args.m.now.rows c.args.object) - c.args.from =
    c.saturating_sub-left.ensures ∙ ap (λ (n : ℕ). n - c.args.from) c.size_of.ensures.size in
    ap (bounded_by c.args.most c.saturating_sub-left.result) c.in-Some.ensures.size
    ∙ bounded_is (byte_at c.args.m.now c.args.object) c.args.most c.saturating_sub-left.result c.args.from c.min.result c.min.ensures
    ∙ ap (λ (n : ℕ). bounded_size (byte_at c.args.m.now c.args.object) c.args.most n c.args.from) left

pub returns-then-most-left-clause-size : goal.returns-then-most-left-clause-size
returns-then-most-left-clause-size c =
    let left : c.saturating_sub-left.result ≡ size_in (row_of c.args.m.now.rows c.args.object) - c.args.from =
    c.saturating_sub-left.ensures ∙ ap (λ (n : ℕ). n - c.args.from) c.size_of.ensures.size in
    wanted_there c.args.most c.saturating_sub-left.result c.if-most-left.true
    ∙ ap (bounded_by c.args.most c.saturating_sub-left.result) c.in-None.ensures.size
    ∙ bounded_is (byte_at c.args.m.now c.args.object) c.args.most c.saturating_sub-left.result c.args.from c.min.result c.min.ensures
    ∙ ap (λ (n : ℕ). bounded_size (byte_at c.args.m.now c.args.object) c.args.most n c.args.from) left

pub returns-else-most-left-clause-size : goal.returns-else-most-left-clause-size
returns-else-most-left-clause-size c =
    let left : c.saturating_sub-left.result ≡ size_in (row_of c.args.m.now.rows c.args.object) - c.args.from =
    c.saturating_sub-left.ensures ∙ ap (λ (n : ℕ). n - c.args.from) c.size_of.ensures.size in
    wanted_past c.args.most c.saturating_sub-left.result c.if-most-left.false
    ∙ ap (bounded_by c.args.most c.saturating_sub-left.result) c.in-None.ensures.size
    ∙ bounded_is (byte_at c.args.m.now c.args.object) c.args.most c.saturating_sub-left.result c.args.from c.min.result c.min.ensures
    ∙ ap (λ (n : ℕ). bounded_size (byte_at c.args.m.now c.args.object) c.args.most n c.args.from) left
