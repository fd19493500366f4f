-- What is read is spelled, however deep expressions, declarators and specifiers nest in one another.
use Rattle.std.proofs.Common.{ℕ, zero, suc}
use Rattle.parse_spec.specs.Nested.{expr, declarator, specs}
use Rattle.parse_spec.proofs.AddingRules.{expr_adds, declarator_adds, specs_adds}
use Rattle.parse_sound.proofs.Declarators.{one_declarator_holds}
use Rattle.parse_sound.proofs.Expressions.{ExprHolds, DeclaratorHolds, SpecsHold, level_holds}
use Rattle.parse_sound.proofs.Holding.{refused}
use Rattle.parse_sound.proofs.Specifiers.{specifiers_hold}

mutual
  unfolding expr

  pub expr_holds : (depth : ℕ) → ExprHolds (expr depth)
  expr_holds zero least low i = refused
  expr_holds (suc depth) least low i =
      level_holds (expr depth) (declarator depth) (specs depth) (expr_holds depth) (declarator_holds depth) (specs_hold depth) least low i

  pub declarator_holds : (depth : ℕ) → DeclaratorHolds (declarator depth)
  declarator_holds zero mode i = refused
  declarator_holds (suc depth) mode i = one_declarator_holds (expr depth) (declarator depth) (specs depth) (expr_holds depth) (declarator_holds depth)
      (specs_hold depth) (expr_adds depth) (declarator_adds depth) (specs_adds depth) mode i

  pub specs_hold : (depth : ℕ) → SpecsHold (specs depth)
  specs_hold zero allowed i = refused
  specs_hold (suc depth) allowed i =
      specifiers_hold (expr depth) (declarator depth) (specs depth) (expr_holds depth) (declarator_holds depth) (specs_hold depth) allowed i
