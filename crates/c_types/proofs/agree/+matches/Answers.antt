use Rattle.std.proofs.Common.{◌≡◌, ◌==◌, ◌↔◌, IsTrue, List, [], ◌∷◌, length, map, arith}
use Rattle.c_types.specs.Types.{EachMatches, params_of, qualified_of}
use Rattle.c_types.specs.declared.ty.Qual.{Qual}
use Rattle.c_types.proofs.agree.+matches.Goals as goal

-- no parameters are compatible with no parameters alone
pub with_none : (as_int : _) (a b : List Qual) (empty : _) → length a ≡ 0 → empty ≡ (length b == 0) →
    IsTrue empty ↔ EachMatches as_int (params_of (map qualified_of a)) (params_of (map qualified_of b))
with_none as_int [] [] empty h e = (λ t. tt, λ t. grind (arith, e))
with_none as_int [] (y ∷ b) empty h e = (λ t. grind (arith, e, t), λ t. absurd t)
with_none as_int (x ∷ a) b empty h e = absurd (omega arith)

pub each_matches-returns-in_default : goal.each_matches-returns-in_default
each_matches-returns-in_default t c = with_none c.args.as_int c.args.a.now c.args.b.now c.is_empty.result (c.in_default.ensures.cases) c.is_empty.ensures
