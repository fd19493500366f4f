-- The body of a call that ran led to a function whose type agrees with the function type that the call goes by (6.5.2.2p9).
use Rattle.std.proofs.Common.{◌≡◌, ℕ, Bool, true, false, ◌||◌, List, Option, Some, None, is_some, refl, sym, subst}
use Rattle.ub_base.specs.declared.clause.Clause.{Clause}
use Rattle.ub_base.specs.declared.clause.Clause.TheVariants.{InvalidPointer, IncompatibleCall}
use Rattle.ub_base.specs.declared.names.Event.{Event}
use Rattle.ub_base.specs.declared.names.Item.{Item}
use Rattle.addr_map.specs.declared.map.Row.{Row}
use Rattle.c_types.specs.Types.{CType, void, int, enumeration, pointer, array, struct, union, function}
use Rattle.mem_spec.specs.Script.{Done, Script, require, run, ◌>>◌}
use Rattle.mem_spec.specs.Store.{Store}
use Rattle.c_model.specs.Program.{Call, Exprs, Function}
use Rattle.c_model.specs.Steps.{argument_types, call_act, call_by, call_through, called_by, first_type, function_type, library_act, target}
use Rattle.c_model.specs.Values.{Value, later_values}
use Rattle.c_model.specs.World.{World}
use Rattle.value_facts.proofs.Ran.{required}
use Rattle.value_laws.specs.Sizes.{Sizes}
use Rattle.value_laws.proofs.Frames.{IsFunction, Linked}

-- what a script required is so
was_so : {V : Type 0} (rows : List Row) (b : Bool) (c : Clause) (t : Script V) (s u : Store) (v : V) (is : List Item)
    → run rows (require b c >> t) s ≡ Done v is u → b ≡ true
was_so rows true c t s u v is r = refl
was_so rows false c t s u v is r = absurd (cc (r))

same_pair : (a b : ℕ × Function) → Some a ≡ Some b → a ≡ b
same_pair a b e = cc (e)

module _ (size : Sizes) (world : World) where
  function_is : (t u : CType) → function_type t ≡ Some u → t ≡ u
  function_is (function result params variadic) u h = cc (h)
  function_is void u h = absurd (cc (h))
  function_is (int k) u h = absurd (cc (h))
  function_is (enumeration tag) u h = absurd (cc (h))
  function_is (pointer c t) u h = absurd (cc (h))
  function_is (array c t n) u h = absurd (cc (h))
  function_is (struct tag) u h = absurd (cc (h))
  function_is (union tag) u h = absurd (cc (h))

  is_function : (t u : CType) → function_type t ≡ Some u → IsFunction size world t
  is_function (function result params variadic) u h = tt
  is_function void u h = absurd (cc (h))
  is_function (int k) u h = absurd (cc (h))
  is_function (enumeration tag) u h = absurd (cc (h))
  is_function (pointer c t) u h = absurd (cc (h))
  is_function (array c t n) u h = absurd (cc (h))
  is_function (struct tag) u h = absurd (cc (h))
  is_function (union tag) u h = absurd (cc (h))

  module _ (who : Event) (s u : Store) (v : Value) (is : List Item) where
    by_agrees : (ty : CType) (ts : List CType) (vs : List Value) (o : Option (ℕ × Function)) → run world.rows (call_by world who ty ts vs o) s ≡ Done v is u
        → (c : ℕ × Function) → o ≡ Some c → world.agree c.1.ty ty ≡ true
    by_agrees ty ts vs None r c e = absurd (cc (r))
    by_agrees ty ts vs (Some d) r c e =
        let rest = library_act world who ts vs d.1.library in
        let there = is_some d.1.body || is_some d.1.library in
        let behind = required world.rows there InvalidPointer (require (world.agree d.1.ty ty) IncompatibleCall >> rest) s u v is r in
        subst (λ (x : ℕ × Function). world.agree x.1.ty ty ≡ true) (same_pair d c e)
        (was_so world.rows (world.agree d.1.ty ty) IncompatibleCall rest s u v is behind)

    through_linked : (d : Bool) (es : Exprs) (o : Option CType) → function_type (target (first_type es)) ≡ o → (ts : List CType) (vs : List Value)
        → run world.rows (call_through world who o ts vs) s ≡ Done v is u → Linked size world (Call d) es vs
    through_linked d es None e ts vs r = absurd (cc (r))
    through_linked d es (Some ty) e ts vs r = λ c there. (
      is_function (target (first_type es)) ty e,
      subst (λ (t : CType). world.agree c.1.ty t ≡ true) (sym (function_is (target (first_type es)) ty e))
          (by_agrees ty ts (later_values vs) (called_by world vs) r c there),
    )

  pub call_linked : (who : Event) (d : Bool) (es : Exprs) (vs : List Value) (s u : Store) (v : Value) (is : List Item)
      → run world.rows (call_act world who (Call d) es vs) s ≡ Done v is u → Linked size world (Call d) es vs
  call_linked who d es vs s u v is r =
      through_linked who s u v is d es (function_type (target (first_type es))) refl (argument_types es) vs r
