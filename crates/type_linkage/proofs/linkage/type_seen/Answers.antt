use Rattle.std.proofs.Common.{◌≡◌, Bool, Option, sym, subst}
use Rattle.std.specs.Prelude.{IfOk}
use Rattle.std.specs.Option.{option_map}
use Rattle.c_types.specs.Types.{qualified_of}
use Rattle.type_name_space.specs.Scopes.{visible}
use Rattle.typing_env.specs.Names as names
use Rattle.typing_env.specs.Names.{meaning_in}
use Rattle.type_scope.specs.declared.rows.Meaning.{Meaning}
use Rattle.type_scope.specs.Known.{meaning_seen}
use Rattle.type_linkage.proofs.linkage.type_seen.Goals as goal

pub returns-then-linked : goal.returns-then-linked
returns-then-linked c n =
    subst (λ (b : Bool). IfOk c.composite_with.result (λ q. qualified_of q
    ≡ names.type_seen (qualified_of c.args.qual.now)
    (option_map (meaning_seen n) (meaning_in (visible c.args.symbol (c.args.state.now).names.ordinary))) b)) (sym c.if-linked.true)
    (subst (λ (m : Option Meaning). IfOk c.composite_with.result (λ q. qualified_of q
    ≡ names.composite_with (qualified_of c.args.qual.now) (names.type_visible (option_map (meaning_seen n) m))))
    c.find.ensures (c.composite_with.ensures n))
