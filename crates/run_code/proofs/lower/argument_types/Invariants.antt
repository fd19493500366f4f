use Rattle.std.proofs.Common.{◌≡◌, ◌++◌, map, drop}
use Rattle.c_types.specs.Types.{qualified_of, type_of}
use Rattle.c_typed.specs.declared.tree.Typed.{out-Typed}
use Rattle.run_layout.specs.EventActs.{later_types}
use Rattle.run_code.proofs.lower.argument_types.Given as goal

-- the types so far, and those of the arguments that are left
abbrev pub invariant-loop-child : goal.invariant-loop-child
invariant-loop-child l =
    map (λ q. (qualified_of q).ty) l.types ++ map (λ t. type_of (out-Typed t).ty) (drop l.child-index l.child-items)
    ≡ later_types (out-Typed l.tree).children
