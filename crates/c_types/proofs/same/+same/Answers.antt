use Rattle.std.proofs.Common.{◌≡◌, ◌==◌, ◌↔◌, IsTrue, List, [], ◌∷◌, length, map, refl, arith}
use Rattle.c_types.specs.Types.{params_of, qualified_of}
use Rattle.c_types.specs.declared.ty.Qual.{Qual}
use Rattle.c_types.proofs.same.+same.Goals as goal

-- no parameters equal no parameters alone
with_none : (a b : List Qual) (empty : _) → length a ≡ 0 → empty ≡ (length b == 0) →
    IsTrue empty ↔ (params_of (map qualified_of a) ≡ params_of (map qualified_of b))
with_none [] [] empty h e = (λ t. refl, λ t. grind (arith, e))
with_none [] (y ∷ b) empty h e = (λ t. absurd (grind (arith, e, t)), λ t. absurd (cc))
with_none (x ∷ a) b empty h e = absurd (omega arith)

pub are_equal-returns-in_default : goal.are_equal-returns-in_default
are_equal-returns-in_default t c = with_none c.args.a.now c.args.b.now c.is_empty.result c.in_default.ensures.cases c.is_empty.ensures
