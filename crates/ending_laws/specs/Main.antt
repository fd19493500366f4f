-- The outermost frame is that of `main`; a run ends where it returns, or by a body (own; 5.1.2.2.3).
use Rattle.std.specs.Prelude.{◌≡◌, ◌⊎◌, ℕ, List, [], ◌∷◌, Option, Some, None}
use Rattle.ub_base.specs.declared.clause.Kind.TheVariants.{Body}
use Rattle.ub_base.specs.declared.names.Item.{Item}
use Rattle.c_typed.specs.declared.tree.Place.{Place}
use Rattle.mem_spec.specs.Script.{Ended, run}
use Rattle.mem_spec.specs.Store.{Store}
use Rattle.mem_spec.specs.Streams.{Outputs}
use Rattle.c_model.specs.Runs.{Ends, Entry, Running, State, entry_of, start, step}
use Rattle.c_model.specs.Steps.{Begun, Ev, Local, Pick, does}
use Rattle.c_model.specs.Values.{Value}
use Rattle.c_model.specs.World.{World}

abbrev pub outermost : Local → List (Local × Place) → Local
outermost f [] = f
outermost f (h ∷ hs) = outermost h.0 hs

abbrev pub IsOfMain : World → State → Type 0
IsOfMain world st = (outermost st.top st.held).function ≡ Some world.program.main

-- so it is as a run starts, and after each pick
abbrev pub StartsWithMain : Type 0
StartsWithMain = (world : World) (input : List ℕ) (vs : List Value) (st : State) → start world input vs ≡ Running st → IsOfMain world st

abbrev pub PicksStayOfMain : Type 0
PicksStayOfMain = (world : World) (st next : State) (p : Pick) → IsOfMain world st → step world st p ≡ Running next → IsOfMain world next

-- only a body's act ends the run
abbrev pub OnlyBodiesEnd : Type 0
OnlyBodiesEnd = (world : World) (f : Local) (o : Option Begun) (p : Pick) (s : Store) (n : ℕ) (is : List Item) (later : Store)
    → run world.rows (does world f o p) s ≡ Ended n is later → (u : Place) × (p ≡ Ev u) × (u.kind ≡ Body)

-- a pick is of a body that ends the run, which has left this trace
pub record IsEnding (world : World) (st : State) (p : Pick) (later : List Entry) : Type 0 where
  pub body : Place
  pub is : p ≡ Ev body
  pub kind : body.kind ≡ Body
  pub status : ℕ
  pub items : List Item
  pub store : Store
  pub ran : run world.rows (does world st.top st.top.begun p) st.store ≡ Ended status items store
  pub newest : later ≡ entry_of world st.top p items ∷ st.trace

-- where a run ends `main` returns, with no full expression open, or a body ends it
abbrev pub RunsEnd : Type 0
RunsEnd = (world : World) (st : State) (p : Pick) (status : ℕ) (output : Outputs) (later : List Entry) → IsOfMain world st
    → step world st p ≡ Ends status output later → ((st.held ≡ []) × (st.top.begun ≡ None)) ⊎ IsEnding world st p later
