use Rattle.std.proofs.Common.{ℕ, Vec, Global, Option, Err, length, drop, ap, subst, true, ◌≡◌, ◌∙◌}
use Rattle.std.proofs.lemmas.Result.{err_from_is_err_and}
use Rattle.mem_spec.specs.Acts.{Accessed}
use Rattle.libc_spec.specs.Library.{pointer}
use Rattle.libc_spec.specs.Formatted.{array, room}
use Rattle.libc_arguments.specs.Parts.{Follows, Gives, accessed_if}
use Rattle.libc_print.specs.Seen.{typed}
use Rattle.libc_print.specs.Calls.{short_text}
use Rattle.libc_print.specs.Stored.{placed_seen}
use Rattle.libc_print.proofs.Storing.{prints_fails, at_place, no_place, place_gives}
use Rattle.libc_print.proofs.stored.place.Goals as goal

pub returns-in_err-text-clause-follows : goal.returns-in_err-text-clause-follows
returns-in_err-text-clause-follows c =
    let p = err_from_is_err_and c.from_residual.result c.from_residual.ensures.1 in
    rw (p.1, p.2) (λ io to format cells. prints_fails (placed_seen c.args.m.now) (λ (v : Vec ℕ Global). v.items) c.in_err-text.field-0.0 c.args.m.now io
    c.args.t.now c.short_text.new.t c.short_text.new.t
    (short_text c.args.m.now.rows c.args.format.addr c.args.format.prov (drop c.args.first (typed c.args.args.now c.args.types.now)))
    (at_place c.args.m.now.rows c.args.most (pointer c.args.to.addr c.args.to.prov)) (c.in_err-text.ensures io format cells))

pub returns-in_err-target-clause-follows : goal.returns-in_err-target-clause-follows
returns-in_err-target-clause-follows c =
    let p = err_from_is_err_and c.from_residual-in_err-target.result c.from_residual-in_err-target.ensures.1 in
    let size : c.room.result ≡ room c.args.most (length c.in_ok-text.text.items) =
    c.room.ensures ∙ ap (λ (n : ℕ). room c.args.most n) (ap length c.as_slice.ensures.value) in
    rw (p.1, p.2) (λ io to format cells. no_place (placed_seen c.args.m.now) c.in_err-target.field-0.0 c.args.m.now io c.args.t.now c.short_text.new.t
    c.array.new.t c.array.new.t c.args.format.addr c.args.format.prov (drop c.args.first (typed c.args.args.now c.args.types.now)) c.args.most
    (pointer c.args.to.addr c.args.to.prov) c.in_ok-text.text.items (c.in_ok-text.ensures io format cells)
    (subst (λ (n : ℕ). Follows true (accessed_if c.args.m.now) (Err c.in_err-target.field-0.0) c.args.m.now io c.short_text.new.t c.array.new.t
    (array c.args.m.now.rows n (pointer c.args.to.addr c.args.to.prov))) size (c.in_err-target.ensures.follows io to)))

pub returns-clause-follows : goal.returns-clause-follows
returns-clause-follows c = λ io to format cells.
    let size : c.room.result ≡ room c.args.most (length c.in_ok-text.text.items) =
    c.room.ensures ∙ ap (λ (n : ℕ). room c.args.most n) (ap length c.as_slice.ensures.value) in
    place_gives c.args.m.now io c.args.t.now c.short_text.new.t c.array.new.t c.args.format.addr c.args.format.prov
    (drop c.args.first (typed c.args.args.now c.args.types.now)) c.args.most (pointer c.args.to.addr c.args.to.prov) c.in_ok-text.text.items
    c.in_ok-target.target (c.in_ok-text.ensures io format cells)
    (subst (λ (n : ℕ). Gives true (Option Accessed) c.args.m.now io c.short_text.new.t c.array.new.t
    (array c.args.m.now.rows n (pointer c.args.to.addr c.args.to.prov)) (accessed_if c.args.m.now c.in_ok-target.target)) size
    (c.in_ok-target.ensures.follows io to))
