use Rattle.std.proofs.Common.{◌≡◌, take}
use Rattle.type_declarators.specs.MemberNames.{AddsSymbols}
use Rattle.type_declarators.proofs.tag.MemberList.add_symbols.Given as goal

abbrev pub invariant-loop-symbol : goal.invariant-loop-symbol
invariant-loop-symbol l =
    (l.self ≡ record l.initial.self { names = l.self.names; symbols = l.self.symbols }) × AddsSymbols (take l.symbol-index l.symbols) l.initial.self l.self
