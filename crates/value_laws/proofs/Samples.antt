-- The sample fits.
use Rattle.std.proofs.Common.{Bool, ◌≡◌, ℕ, zero, suc, true, false, true≢false, List, [], Some, None, refl, sym, subst}
use Rattle.std.specs.Prelude.{slice_get}
use Rattle.addr_map.specs.declared.map.Row.{Row}
use Rattle.c_types.specs.Types.{CType, void, int, enumeration, pointer, array, struct, union, function, Params}
use Rattle.c_types.specs.Types as types
use Rattle.c_types.specs.Same.{compatible, matches, each_matches}
use Rattle.c_model.specs.Program.{Assign, expr, more, none, Stmt, Function}
use Rattle.c_model.specs.Examples.{int_function, int_type}
use Rattle.c_model.proofs.Ranks.{and_l, and_r}
use Rattle.value_laws.specs.Sizes.{Keeps, ExprFits, StatementFits, FunctionFits, ProgramFits}
use Rattle.value_laws.specs.Parameters.{parameters, Passes, AreTaken, AreKept, BodyTakes, FunctionTakes, ProgramTakes}
use Rattle.value_laws.specs.Samples.{pair_type, pair_access, pair_sizes, pair_local, load_pair, call_same, same_type, same_function, main_function}
use Rattle.value_laws.specs.Samples.{pair_program, pair_world}
use Rattle.value_laws.proofs.Scripts.{library_plain}

-- what is compatible with the structure has its size
pair_kept : (ty : CType) → matches false pair_type ty ≡ true → Keeps (Some 8) (pair_sizes ty)
pair_kept (struct tag) h = refl
pair_kept ty h = tt

pair_taken : (ty : CType) → matches false pair_type ty ≡ true → Keeps (pair_sizes ty) (Some 8)
pair_taken (struct tag) h = refl
pair_taken ty h = absurd (true≢false (sym h))

int_kept : (ty : CType) → matches false int_type ty ≡ true → Keeps None (pair_sizes ty)
int_kept (struct tag) h = absurd (true≢false (sym h))
int_kept ty h = tt

same_agrees : (result : CType) (params : Params) (variadic : Bool) → compatible same_type (function result params variadic) ≡ true
    → Keeps (Some 8) (pair_sizes result)
same_agrees result params variadic h = pair_kept result (and_l (matches false pair_type result) _ h)

main_agrees : (result : CType) (params : Params) (variadic : Bool) → compatible int_function (function result params variadic) ≡ true
    → Keeps None (pair_sizes result)
main_agrees result params variadic h = int_kept result (and_l (matches false int_type result) _ h)

some_is : (a b : Function) → Some a ≡ Some b → a ≡ b
some_is a b h = cc

statement_is : (a b : Stmt) → Some a ≡ Some b → a ≡ b
statement_is a b h = cc

local_fits : (k : ℕ) → ExprFits pair_sizes (pair_local k)
local_fits k = (tt, (tt, tt))

load_fits : (k : ℕ) → ExprFits pair_sizes (load_pair (pair_local k))
load_fits k = (refl, (tt, (local_fits k, tt)))

call_fits : (k : ℕ) → ExprFits pair_sizes (call_same (load_pair (pair_local k)))
call_fits k = ((refl, (refl, tt)), (tt, ((tt, (tt, tt)), (load_fits k, tt))))

assign_fits : ExprFits pair_sizes (expr (Assign false pair_access) pair_type 1 (more (pair_local 1) (more (call_same (load_pair (pair_local 0))) none)))
assign_fits = ((refl, refl), (tt, (local_fits 1, (call_fits 0, tt))))

main_fits : (s : Stmt) → main_function.body ≡ Some s → StatementFits pair_sizes None s
main_fits s q = subst (StatementFits pair_sizes None) (statement_is _ s q) (assign_fits, (((tt, (tt, tt)), tt), tt))

same_fits : (s : Stmt) → same_function.body ≡ Some s → StatementFits pair_sizes (Some 8) s
same_fits s q = subst (StatementFits pair_sizes (Some 8)) (statement_is _ s q) ((load_fits 0, refl), tt)

main_takes : (s : Stmt) → main_function.body ≡ Some s → BodyTakes pair_sizes types.none s
main_takes s q = subst (BodyTakes pair_sizes types.none) (statement_is _ s q) tt

same_takes : (s : Stmt) → same_function.body ≡ Some s → BodyTakes pair_sizes (types.more false pair_type types.none) s
same_takes s q = subst (BodyTakes pair_sizes (types.more false pair_type types.none)) (statement_is _ s q) (refl, tt)

params_passed : (ps : Params) → each_matches false (types.more false pair_type types.none) ps ≡ true → AreKept pair_sizes ps
    (types.more false pair_type types.none)
params_passed types.none h = tt
params_passed (types.more constant ty types.none) h = (pair_taken ty (and_l (matches false pair_type ty) _ h), tt)
params_passed (types.more constant ty (types.more c2 t2 ps)) h = absurd (true≢false (sym (and_r (matches false pair_type ty) _ h)))

none_passed : (ps : Params) → each_matches false types.none ps ≡ true → AreKept pair_sizes ps types.none
none_passed types.none h = tt
none_passed (types.more constant ty ps) h = absurd (true≢false (sym h))

same_passes : (result : CType) (params : Params) (variadic : Bool) → compatible same_type (function result params variadic) ≡ true
    → Passes pair_sizes (function result params variadic) same_type
same_passes result params false h =
    params_passed params (and_l (each_matches false (types.more false pair_type types.none) params) _ (and_r (matches false pair_type result) _ h))
same_passes result params true h =
    absurd (true≢false (sym (and_r (each_matches false (types.more false pair_type types.none) params) _ (and_r (matches false pair_type result) _ h))))

main_passes : (result : CType) (params : Params) (variadic : Bool) → compatible int_function (function result params variadic) ≡ true
    → Passes pair_sizes (function result params variadic) int_function
main_passes result params false h =
    none_passed params (and_l (each_matches false types.none params) _ (and_r (matches false int_type result) _ h))
main_passes result params true h =
    absurd (true≢false (sym (and_r (each_matches false types.none params) _ (and_r (matches false int_type result) _ h))))

module _ (rows : List Row) where
  functions_fit : (number : ℕ) (fun : Function) → slice_get pair_program.functions number ≡ Some fun → FunctionFits pair_sizes (pair_world rows) number fun
  functions_fit zero fun e = subst (FunctionFits pair_sizes (pair_world rows) 0) (some_is main_function fun e)
      (record { body = main_fits; agrees = main_agrees })
  functions_fit (suc zero) fun e =
      subst (FunctionFits pair_sizes (pair_world rows) 1) (some_is same_function fun e) (record { body = same_fits; agrees = same_agrees })
  functions_fit (suc (suc n)) fun e = absurd (cc)

  pub pairs_fit : ProgramFits pair_sizes (pair_world rows)
  pairs_fit = record { functions = functions_fit; library = library_plain rows }

  functions_take : (number : ℕ) (fun : Function) (s : Stmt) → slice_get pair_program.functions number ≡ Some fun → fun.body ≡ Some s
      → FunctionTakes pair_sizes (pair_world rows) fun s
  functions_take zero fun s e b =
      subst (λ f. FunctionTakes pair_sizes (pair_world rows) f s) (some_is main_function fun e) (record {
        objects = main_takes s (subst (λ f. f.body ≡ Some s) (sym (some_is main_function fun e)) b);
        agrees = main_passes;
      })
  functions_take (suc zero) fun s e b =
      subst (λ f. FunctionTakes pair_sizes (pair_world rows) f s) (some_is same_function fun e) (record {
        objects = same_takes s (subst (λ f. f.body ≡ Some s) (sym (some_is same_function fun e)) b);
        agrees = same_passes;
      })
  functions_take (suc (suc n)) fun s e b = absurd (cc)

  pub pairs_take : ProgramTakes pair_sizes (pair_world rows) []
  pairs_take = record {
    functions = functions_take;
    main = λ fun e. subst (λ f. AreTaken pair_sizes (parameters f.ty) []) (some_is main_function fun e) tt;
  }
