-- The arguments of a call: as many as parameters, each of its size.
use Rattle.std.proofs.Common.{ℕ, ◌+◌, true, false, List, [], ◌∷◌, Option, Some, None, subst}
use Rattle.c_types.specs.Types.{CType, void, int, enumeration, pointer, array, struct, union, function, Params, Compatible, EachMatches}
use Rattle.c_types.specs.Types as types
use Rattle.c_typed.specs.declared.tree.Place.{Place}
use Rattle.c_typed.specs.Tree.{size as count}
use Rattle.c_model.specs.Program.{Exprs, none, more, tree_of}
use Rattle.c_model.specs.Steps.{Scene, values_of}
use Rattle.c_model.specs.Values.{Value}
use Rattle.c_model.specs.World.{World}
use Rattle.value_laws.specs.Parameters.{AreKept, Passes, parameters}
use Rattle.value_laws.specs.Sizes.{ArePassed, ArgumentsFit, HasSize, Keeps, Sizes, type_of}
use Rattle.value_laws.proofs.Nodes.{OperandsFit, here_fits, later_fit, value_size}
use Rattle.argument_laws.proofs.Counts.{AreAsMany, CallCounts}

-- what has the first size has the second one
keeps_size : (a b : Option ℕ) (v : Value) → Keeps a b → HasSize a v → HasSize b v
keeps_size a None v k h = tt
keeps_size a (Some n) v k h = subst (λ z. HasSize z v) k h

module _ (size : Sizes) where
  -- a value of its size for each parameter
  abbrev pub AreGiven : Params → List Value → Type 0
  AreGiven types.none [] = Unit {0}
  AreGiven (types.more constant ty params) (v ∷ vs) = HasSize (size ty) v × AreGiven params vs
  AreGiven _ _ = ⊥

  kept_given : (params others : Params) (vs : List Value) → AreKept size params others → EachMatches false others params → AreGiven params vs
      → AreGiven others vs
  kept_given types.none types.none [] k m g = tt
  kept_given types.none types.none (v ∷ vs) k m g = absurd g
  kept_given types.none (types.more c t others) vs k m g = absurd m
  kept_given (types.more c t params) types.none vs k m g = absurd m
  kept_given (types.more c t params) (types.more d u others) [] k m g = absurd g
  kept_given (types.more c t params) (types.more d u others) (v ∷ vs) k m g =
      (keeps_size (size t) (size u) v k.0 g.0, kept_given params others vs k.1 m.1 g.1)

  module _ (world : World) (f : Scene) (given : Place → Option Value) where
    passed_given : (params : Params) (es : Exprs) (k : ℕ) → OperandsFit world f size given k es → ArePassed size params es → AreAsMany params es
        → AreGiven params (values_of world f given k es)
    passed_given types.none none k h p m = tt
    passed_given types.none (more e es) k h p m = absurd m
    passed_given (types.more constant ty params) none k h p m = absurd m
    passed_given (types.more constant ty params) (more e es) k h p m = (
      keeps_size (size (type_of e)) (size ty) _ p.0 (value_size world f size given e k (here_fits world f size given e es k h)),
      passed_given params es (k + count (tree_of e)) (later_fit world f size given e es k h) p.1 m,
    )

    -- a call by the one type of a function of the other
    pub call_given : (ty by : CType) (es : Exprs) (k : ℕ) → OperandsFit world f size given k es → ArgumentsFit size by es → CallCounts by es
        → Passes size by ty → Compatible ty by → AreGiven (parameters ty) (values_of world f given k es)
    call_given (function r ps v) (function s qs false) es k h p m q c =
        kept_given qs ps (values_of world f given k es) q c.1 (passed_given qs es k h p m)
    call_given void (function s qs false) es k h p m q c = absurd c
    call_given (int n) (function s qs false) es k h p m q c = absurd c
    call_given (enumeration tag) (function s qs false) es k h p m q c = absurd c
    call_given (pointer d t) (function s qs false) es k h p m q c = absurd c
    call_given (array d t n) (function s qs false) es k h p m q c = absurd c
    call_given (struct tag) (function s qs false) es k h p m q c = absurd c
    call_given (union tag) (function s qs false) es k h p m q c = absurd c
    call_given ty (function s qs true) es k h p m q c = absurd q
    call_given ty void es k h p m q c = absurd q
    call_given ty (int n) es k h p m q c = absurd q
    call_given ty (enumeration tag) es k h p m q c = absurd q
    call_given ty (pointer d t) es k h p m q c = absurd q
    call_given ty (array d t n) es k h p m q c = absurd q
    call_given ty (struct tag) es k h p m q c = absurd q
    call_given ty (union tag) es k h p m q c = absurd q
