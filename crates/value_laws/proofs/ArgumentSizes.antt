-- Arguments have the sizes of the objects that take them.
use Rattle.std.proofs.Common.{◌≡◌, ℕ, zero, suc, List, [], ◌∷◌, Option, Some, sym, ap, ◌∙◌, subst}
use Rattle.std.specs.Prelude.{slice_get}
use Rattle.c_types.specs.Types.{Params}
use Rattle.c_types.specs.Types as types
use Rattle.c_typed.specs.declared.tree.Access.{Access}
use Rattle.c_typed.specs.declared.tree.Access.TheVariants as access
use Rattle.c_model.specs.Control.{Todo, Enter, ready_work}
use Rattle.c_model.specs.Program.{Decl}
use Rattle.c_model.specs.Runs.{Running}
use Rattle.c_model.specs.Steps.{Local}
use Rattle.c_model.specs.Values.{Value}
use Rattle.c_model.specs.World.{World}
use Rattle.value_laws.specs.Parameters.{AreTaken, ArgumentsHaveSizes, ObjectsFit, TakesBytes}
use Rattle.value_laws.specs.Sizes.{HasSize, Sizes, StoreFits}
use Rattle.value_laws.proofs.Arguments.{Waits, comes_waits, idle, passed, waiting}

one_takes : (how : Access) (o : Option ℕ) (v : Value) → StoreFits how o → HasSize o v → TakesBytes how v
one_takes (access.Integer k) o v f h = tt
one_takes access.Pointer o v f h = tt
one_takes access.Function o v f h = tt
one_takes (access.Whole n align) o v f h = subst (λ z. HasSize z v) f h

each_takes : (size : Sizes) (params : Params) (ds : List Decl) (vs : List Value) → ObjectsFit size params ds → AreTaken size params vs
    → (k : ℕ) (d : Decl) (v : Value) → slice_get ds k ≡ Some d → slice_get vs k ≡ Some v → TakesBytes d.access v
each_takes size params [] vs o t k d v e q = absurd (cc (e))
each_takes size params (x ∷ ds) [] o t k d v e q = absurd (cc (q))
each_takes size types.none (x ∷ ds) (y ∷ vs) o t k d v e q = absurd t
each_takes size (types.more constant ty params) (x ∷ ds) (y ∷ vs) o t zero d v e q =
    let object : x ≡ d = cc (e) in
    let value : y ≡ v = cc (q) in
    subst (λ (z : Decl). TakesBytes z.access v) object (subst (TakesBytes x.access) value (one_takes x.access (size ty) y o.0 t.0))
each_takes size (types.more constant ty params) (x ∷ ds) (y ∷ vs) o t (suc k) d v e q = each_takes size params ds vs o.1 t.1 k d v e q

module _ (size : Sizes) (world : World) (f : Local) (number : ℕ) (ds : List Decl) (rest : Todo) (e : ready_work f.todo ≡ Enter number ds ∷ rest) where
  block_is : (n : ℕ) (ds2 : List Decl) (rest2 : Todo) → Enter n ds2 ∷ rest2 ≡ Enter number ds ∷ rest → ds2 ≡ ds
  block_is n ds2 rest2 h = cc (h)

  none_there : (vs : List Value) (k : ℕ) (v : Value) → vs ≡ [] → slice_get vs k ≡ Some v → ⊥
  none_there [] k v h q = cc (q)
  none_there (y ∷ vs) k v h q = cc (h)

  waiting_takes : Waits size world f → (k : ℕ) (d : Decl) (v : Value) → slice_get ds k ≡ Some d → slice_get f.arguments k ≡ Some v → TakesBytes d.access v
  waiting_takes (passed h) k d v at q = absurd (none_there f.arguments k v h q)
  waiting_takes (waiting params n2 ds2 ss t n a o) k d v at q =
      let same = block_is n2 ds2 _ (sym (ap ready_work t) ∙ e) in
      each_takes size params ds f.arguments (subst (ObjectsFit size params) same o) a k d v at q
  waiting_takes (idle t n) k d v at q = absurd (let h = sym (ap ready_work t) ∙ e in cc (h))

pub arguments_have_sizes : ArgumentsHaveSizes
arguments_have_sizes size world input vs ok takes ps st comes number ds rest e =
    waiting_takes size world st.top number ds rest e (comes_waits size world ok vs takes input ps (Running st) comes).top
