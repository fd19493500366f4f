use Rattle.std.proofs.Common.{◌≡◌, ◌+◌, [], ◌∷◌, length, ap, sym, subst, ◌∙◌, arith, Err}
use Rattle.std.proofs.lemmas.List.{length-append}
use Rattle.ub_base.specs.declared.names.ObjName.TheVariants.{Arg}
use Rattle.run_standing.proofs.Starts.{argument_created}
use Rattle.exposure.specs.declared.prov.Prov.{Prov}
use Rattle.exposure.specs.declared.prov.Prov.TheVariants.{Whole}
use Rattle.mem_objects.specs.Made.{IsMade}
use Rattle.prov_memory.proofs.KeepLemmas.{keeps_none}
use Rattle.c_model.specs.Values.{Pointer}
use Rattle.run_standing.proofs.Starting.{one_more_made}
use Rattle.run_standing.proofs.Arguments.{argument_added}
use Rattle.run_standing.proofs.NoPlace.{cannot_hold, fault_of}
use Rattle.std.proofs.lemmas.Result.{err_from_is_err_and}
use Rattle.run_standing.proofs.initial.create_argument.Goals as goal

pub returns-in_err-text-clause-kept : goal.returns-in_err-text-clause-kept
returns-in_err-text-clause-kept c = keeps_none c.args.m.now

pub returns-clause-made : goal.returns-clause-made
returns-clause-made c = λ made.
    let whole : c.pointer_to.result.prov ≡ Whole _ = ap (λ (q : Pointer). q.prov) c.pointer_to.ensures in
    one_more_made c.args.m.now c.create_text.new.m c.args.all.now c.keep.new.all c.pointer_to.result c.create_text.ensures.kept c.in_ok-keep.ensures.adds
    (subst (λ (p : Prov). IsMade c.create_text.new.m p) (sym whole) c.in_ok-addr.ensures.stands.made) made

pub returns-clause-exact : goal.returns-clause-exact
returns-clause-exact c = λ known few.
    let count : c.short.result ≡ length c.args.all.now = c.short.ensures (omega (arith, few, c.len.ensures)) ∙ c.len.ensures in
    let size : c.len-2.result ≡ length c.args.text.now + 1 =
    omega (arith, c.len-2.ensures, ap length c.in_ok-text.ensures, length-append c.args.text.now (0 ∷ [])) in
    argument_created c.args.m.now c.create_text.new.m (λ k. Arg k) c.short.result (length c.args.all.now) c.len-2.result (length c.args.text.now + 1) _
    count size (c.in_ok-addr.ensures.exact known)

pub returns-clause-count : goal.returns-clause-count
returns-clause-count c =
    let adds = c.in_ok-keep.ensures.adds in
    ap length adds.1 ∙ length-append c.args.all.now (adds.0 ∷ [])

pub returns-clause-there : goal.returns-clause-there
returns-clause-there c = λ few.
    let count : c.short.result ≡ length c.args.all.now = c.short.ensures (omega (arith, few, c.len.ensures)) ∙ c.len.ensures in
    argument_added c.create_text.new.m c.args.all.now c.keep.new.all c.args.text.now _ c.pointer_to.result c.short.result _ c.in_ok-text.ensures
    c.pointer_to.ensures c.in_ok-addr.ensures.stands count c.in_ok-keep.ensures.new

pub returns-in_err-addr-clause-unplaced : goal.returns-in_err-addr-clause-unplaced
returns-in_err-addr-clause-unplaced c = λ e few.
    let count : c.short.result ≡ length c.args.all.now = c.short.ensures (omega (arith, few, c.len.ensures)) ∙ c.len.ensures in
    let size : c.len-2.result ≡ length c.args.text.now + 1 =
    omega (arith, c.len-2.ensures, ap length c.in_ok-text.ensures, length-append c.args.text.now (0 ∷ [])) in
    let p = err_from_is_err_and c.from_residual-in_err-addr.result c.from_residual-in_err-addr.ensures.1 in
    cannot_hold c.create_text.new.m c.short.result (length c.args.all.now) c.len-2.result (length c.args.text.now + 1) count size
    (c.in_err-addr.ensures.unplaced (ap Err (fault_of _ p.0 _ p.1 p.2 e)))
