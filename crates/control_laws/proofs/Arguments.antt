-- A frame that enters the block of its function's body has the arguments that are asked of it.
use Rattle.std.proofs.Common.{◌≡◌, ℕ, suc, true, [], ◌∷◌, List, refl, subst, ◌∙◌}
use Rattle.ub_base.specs.declared.names.ObjName.{ObjName}
use Rattle.addr_map.specs.declared.map.Row.{Row}
use Rattle.addr_map.specs.Rows.{row_of}
use Rattle.addr_map.specs.Sound.{Apart}
use Rattle.c_types.specs.Types.{CType}
use Rattle.c_typed.specs.declared.program.Program.{Program}
use Rattle.c_typed.specs.declared.tree.Access.{Access}
use Rattle.c_typed.specs.declared.tree.Access.TheVariants as access
use Rattle.mem_spec.specs.Acts.{Seen, base_in, suits_store}
use Rattle.c_model.specs.Control.{Todo, Begin, Enter, Leave, Unwrite, Nothing_to_do, Go_to, Go_out, Go_on, Go_back, To_do, Rest, Round, Again, Test}
use Rattle.c_model.specs.Control.{Break_here, ready_work}
use Rattle.c_model.specs.Program.{Decl}
use Rattle.c_model.specs.Runs.{State}
use Rattle.c_model.specs.Steps.{auto_name}
use Rattle.c_model.specs.Values.{Value, Int, Ptr, Fun, Whole, Missing, Nothing}
use Rattle.c_model.specs.World.{World}
use Rattle.value_facts.specs.Held.{HoldsOnly}
use Rattle.value_facts.specs.Sources.{IsPlaced}
use Rattle.run_answers.specs.Passing.{FitsAt, TakesValue, align_by, seen_by, size_by}
use Rattle.argument_laws.specs.Arguments.{ArgumentsAreTaken, ArgumentsAreThere, HaveArguments}
use Rattle.argument_laws.specs.Taking.{FitsPlace, TakesArgument, bytes_by, multiple_by, sees}
use Rattle.control_laws.specs.Asked.{ArgumentsAreAsked}
use Rattle.control_laws.specs.Control.{AsksOfEnter}

-- ---- the object takes the argument, as the machine asks it
same_size : (how : Access) → size_by how ≡ bytes_by how
same_size (access.Integer k) = refl
same_size access.Pointer = refl
same_size access.Function = refl
same_size (access.Whole size align) = refl

same_align : (how : Access) → align_by how ≡ multiple_by how
same_align (access.Integer k) = refl
same_align access.Pointer = refl
same_align access.Function = refl
same_align (access.Whole size align) = refl

same_seen : (how : Access) (ty : CType) → sees how ty ≡ seen_by how ty
same_seen (access.Integer k) ty = refl
same_seen access.Pointer ty = refl
same_seen access.Function ty = refl
same_seen (access.Whole size align) ty = refl

fits_so : (how : Access) (a : ℕ) (v : Value) → FitsPlace how a v → FitsAt how a v
fits_so (access.Whole size align) a (Whole bs source) h = h
fits_so (access.Whole size align) a (Int z) h = tt
fits_so (access.Whole size align) a (Ptr b q) h = tt
fits_so (access.Whole size align) a (Fun b) h = tt
fits_so (access.Whole size align) a Missing h = tt
fits_so (access.Whole size align) a Nothing h = tt
fits_so (access.Integer k) a v h = tt
fits_so access.Pointer a v h = tt
fits_so access.Function a v h = tt

as_taken : (rows : List Row) (x : ObjName) (d : Decl) (v : Value) → TakesArgument rows x d v → TakesValue rows x d v
as_taken rows x d v t = record {
  size = same_size d.access ∙ t.size;
  align = same_align d.access ∙ t.align;
  suits = subst (λ (s : Seen). suits_store s d.form 0 ≡ true) (same_seen d.access d.ty) t.suits;
  value = λ placed. fits_so d.access (base_in (row_of rows x)) v (t.value placed);
}

module _ (there : ArgumentsAreThere) (taken : ArgumentsAreTaken) (world : World) (p : Program) (st : State) (h : HaveArguments world p st)
    (placed : HoldsOnly (IsPlaced world) st) (apart : Apart world.rows) where
  asks : (todo : Todo) → ready_work st.top.todo ≡ todo → AsksOfEnter world p st todo
  asks (Enter b ds ∷ rest) is = record {
    count = λ n f shut function at. there world p st n f h shut function at;
    takes = λ k d v at it.
        let x : ObjName = auto_name world st.top.scene (suc st.top.scene.turn) k in
        as_taken world.rows x d v (taken world p st b ds rest h placed apart is k d v x at it);
  }
  asks [] is = tt
  asks (Leave b ds ∷ rest) is = tt
  asks (Unwrite d ∷ rest) is = tt
  asks (Begin e what ∷ rest) is = tt
  asks (Nothing_to_do ∷ rest) is = tt
  asks (Go_to k ∷ rest) is = tt
  asks (Go_out ∷ rest) is = tt
  asks (Go_on ∷ rest) is = tt
  asks (Go_back ∷ rest) is = tt
  asks (To_do s ∷ rest) is = tt
  asks (Rest ss ∷ rest) is = tt
  asks (Round test step s ∷ rest) is = tt
  asks (Again e s ∷ rest) is = tt
  asks (Test test step s ∷ rest) is = tt
  asks (Break_here ∷ rest) is = tt

pub arguments_are_asked : ArgumentsAreThere → ArgumentsAreTaken → ArgumentsAreAsked
arguments_are_asked there taken world p st h placed apart = asks there taken world p st h placed apart (ready_work st.top.todo) refl
