use Rattle.std.proofs.Common.{◌<◌, length, ap, refl, sym, subst, ◌∙◌, arith}
use Rattle.std.proofs.lemmas.List.{append-nil}
use Rattle.parse_cursor.specs.Declarations.{IsWithin}
use Rattle.parse_cursor.proofs.Runs.{same_length, one_more_parameter}
use Rattle.parse_cursor.proofs.cursor.Cursor.open_prototype.Goals as goal

pub loop-k-init : goal.loop-k-init
loop-k-init c = ap (λ ns. record c.args.self.now { names = ns }) (sym (append-nil c.args.self.now.names))

pub index-declared-requires : goal.index-declared-requires
index-declared-requires c =
    let before = ap (λ v. v.prototype) c.self.view_is in
    let now = ap (λ v. v.prototype) c.self-in-loop-k.view_is in
    let same = ap (λ v. v.prototype) c.loop-k.invariant in
    let long = same_length c.self.inside.prototype.items c.self-in-loop-k.inside.prototype.items c.args.self.now.prototype (before) (now ∙ same) in
    omega (arith, long)

pub loop-k-preserved : goal.loop-k-preserved
loop-k-preserved c =
    let now = ap (λ v. v.prototype) c.self-in-loop-k.view_is in
    let same = ap (λ v. v.prototype) c.loop-k.invariant in
    let before = ap (λ v. v.prototype) c.self.view_is in
    let long = same_length c.self.inside.prototype.items c.self-in-loop-k.inside.prototype.items c.args.self.now.prototype (before) (now ∙ same) in
    let below : c.loop-k.k < length c.self-in-loop-k.inside.prototype.items = omega (arith, long) in
    let text = ap (λ v. v.tokens) c.self-in-loop-k.view_is ∙ ap (λ v. v.tokens) c.loop-k.invariant in
    let kept : IsWithin c.args.self.now.tokens c.index-declared.result.now =
    subst (λ t. IsWithin t c.index-declared.result.now) text
    (subst (IsWithin c.self-in-loop-k.inside.tokens.now) (sym c.index-declared.ensures)
    (c.self-in-loop-k.invariant.kept c.loop-k.k c.index-declared.result.now below)) in
    one_more_parameter c.args.self.now.prototype c.args.self.now c.loop-k.self c.declare.new.self c.loop-k.k c.index-declared.result.now
    c.self-in-loop-k.inside.prototype.items
    (now ∙ same) refl below c.index-declared.ensures kept c.loop-k.invariant c.in_ok-declare.ensures.ok
