use Rattle.std.proofs.Common.{refl}
use Rattle.type_declarators.proofs.NamesAdded.{adds_next, twice_next, rest_next}
use Rattle.type_declarators.proofs.tag.MemberList.add_symbols.Goals as goal

pub loop-symbol-preserved : goal.loop-symbol-preserved
loop-symbol-preserved c = (
  rest_next c.args.self.now c.loop-symbol.self c.add_name.new.self c.loop-symbol.invariant.0 c.add_name.ensures.rest,
  adds_next c.args.symbols.now c.loop-symbol.symbol-index _ _ c.args.self.now c.loop-symbol.self c.add_name.new.self c.in_ok-add_name.field-0
      c.loop-symbol-test.true c.in_ok-add_name.ensures.fresh c.if-not-branch.false c.in_ok-add_name.ensures.symbols
      c.in_ok-add_name.ensures.held refl c.loop-symbol.invariant.1,
)

pub returns-then-not-branch-clause-twice : goal.returns-then-not-branch-clause-twice
returns-then-not-branch-clause-twice c held =
    twice_next c.args.symbols.now c.loop-symbol.symbol-index _ _ c.args.self.now c.loop-symbol.self c.in_ok-add_name.field-0 c.loop-symbol-test.true
    c.in_ok-add_name.ensures.fresh c.if-not-branch.true refl c.loop-symbol.invariant.1 held
