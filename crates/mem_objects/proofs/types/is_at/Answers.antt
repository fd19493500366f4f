use Rattle.std.proofs.Common.{◌≡◌, ◌∙◌, sym, true, false}
use Rattle.c_types.specs.Types.{type_of}
use Rattle.mem_objects.proofs.TagLemmas.{listed_at, other_at, nothing_at}
use Rattle.mem_objects.proofs.types.is_at.Goals as goal

clash : false ≡ true → ⊥
clash e = cc

pub returns-in-Some-clause-same : goal.returns-in-Some-clause-same
returns-in-Some-clause-same c = λ t.
    listed_at c.args.types.now c.args.at c.in-Some.known.now (type_of c.args.ty.now) c.in-Some.ensures (c.same_type.ensures.equal.0 t)

pub returns-in-Some-clause-other : goal.returns-in-Some-clause-other
returns-in-Some-clause-other c = λ f.
    other_at c.args.types.now c.args.at c.in-Some.known.now (type_of c.args.ty.now) c.in-Some.ensures (λ e. clash (sym f ∙ c.same_type.ensures.equal.1 e))

pub returns-in-None-clause-other : goal.returns-in-None-clause-other
returns-in-None-clause-other c = λ f. nothing_at c.args.types.now c.args.at (type_of c.args.ty.now) c.in-None.ensures
