-- The events that are listed of the full expressions of a lawful program.
use Rattle.std.specs.Prelude.{◌≡◌, ◌<◌, ◌≤◌, ◌⊎◌, ℕ, Bool, true, false, List, [], ◌∷◌, Some, slice_get}
use Rattle.std.specs.List.{All}
use Rattle.ub_base.specs.declared.clause.Kind.TheVariants.{Eff}
use Rattle.c_typed.specs.declared.program.Program.{Program}
use Rattle.c_typed.specs.Lawful.{IsLawful}
use Rattle.c_typed.specs.Tree as typed
use Rattle.c_typed.specs.Tree.{is_quiet, class_of, kinds_of}
use Rattle.c_model.specs.Program.{Expr, tree_of}
use Rattle.c_model.specs.Steps.{Scene}
use Rattle.c_model.specs.World.{World}
use Rattle.program_view.specs.Trees.{expr_of}
use Rattle.run_layout.specs.declared.nodes.NodeInfo.{NodeInfo}
use Rattle.run_layout.specs.declared.steps.Act.{Act}
use Rattle.run_layout.specs.declared.steps.Act.TheVariants as act
use Rattle.run_layout.specs.declared.steps.Due.{Due}
use Rattle.run_layout.specs.declared.steps.Expression.{Expression as Laid}
use Rattle.run_layout.specs.declared.steps.Listed.{Listed}
use Rattle.run_layout.specs.declared.steps.Listed.TheVariants as listed
use Rattle.run_layout.specs.declared.whole.Code.{Code}
use Rattle.run_layout.specs.Chosen.{Views}
use Rattle.run_layout.specs.LaidOut.{LaidOutBy, IsLaidOut}
use Rattle.run_layout.specs.OfTrees.{ListsTrees}
use Rattle.code_view.specs.Known.{AreInOrder, NamesArePlaced}

-- the event is listed of the full expression
pub record IsListedAt (entries : List Listed) (laid : Laid) (d : Due) : Type 0 where
  pub at : ℕ
  pub first : laid.first ≤ at
  pub end : at < laid.end
  pub entry : slice_get entries at ≡ Some (listed.Event d)

abbrev pub IsOneOf : {A : Type 0} → A → List A → Type 0
IsOneOf x [] = ⊥
IsOneOf x (y ∷ ys) = (x ≡ y) ⊎ IsOneOf x ys

-- Each is an event that its node has, by the class of the node (own): a value, and the effect of an assignment, an update or an initializer list, or the
-- body of a call or of a listed initializer.
abbrev pub EventsAreOfClasses : Type 0
EventsAreOfClasses = (code : Code) (firsts : List ℕ) (nodes : List NodeInfo) (n : ℕ) (laid : Laid) (d : Due) (x : NodeInfo) → ListsTrees code
    → slice_get code.expressions.items n ≡ Some laid → LaidOutBy firsts nodes code.tables code.listing.items laid
    → IsListedAt code.listing.items laid d → slice_get nodes d.place.node ≡ Some x → IsOneOf d.place.kind (kinds_of (class_of (typed.tree_of x.tree.now)))

-- So each is of a node that isn't known beforehand: a constant and the address of an object have no events (own).
abbrev pub EventsAreEvaluated : Type 0
EventsAreEvaluated = (code : Code) (firsts : List ℕ) (nodes : List NodeInfo) (n : ℕ) (laid : Laid) (d : Due) (x : NodeInfo) → ListsTrees code
    → slice_get code.expressions.items n ≡ Some laid → LaidOutBy firsts nodes code.tables code.listing.items laid
    → IsListedAt code.listing.items laid d → slice_get nodes d.place.node ≡ Some x → is_quiet (tree_of (expr_of x.tree.now)) ≡ false

-- an act that stores to an object, and gives no value
abbrev pub stores : Act → Bool
stores (act.Store n place value) = true
stores (act.Fill object n) = true
stores a = false

-- And each effect stores (6.5.16p3, 6.5.2.4p2, 6.7.9).
abbrev pub EffectsStore : Type 0
EffectsStore = (code : Code) (firsts : List ℕ) (nodes : List NodeInfo) (n : ℕ) (laid : Laid) (d : Due) → ListsTrees code
    → slice_get code.expressions.items n ≡ Some laid → LaidOutBy firsts nodes code.tables code.listing.items laid
    → IsListedAt code.listing.items laid d → d.place.kind ≡ Eff → stores d.act ≡ true

-- What a run asks of the code of the event: where the full expression is laid out by these nodes, the event is listed of it, of a node that isn't known
-- beforehand; and what the code takes to be known beforehand is so by the definitions.
pub record IsEventOfCode (world : World) (code : Code) (f : Scene) (laid : Laid) (root : Expr) (d : Due) : Type 0 where
  pub firsts : List ℕ
  pub nodes : List NodeInfo
  pub lays : LaidOutBy firsts nodes code.tables code.listing.items laid
  pub views : Views world f firsts 0 laid.root.now root
  pub is_listed : IsListedAt code.listing.items laid d
  pub quiet : (x : NodeInfo) → slice_get nodes d.place.node ≡ Some x → is_quiet (tree_of (expr_of x.tree.now)) ≡ false

-- So it is for each event that is listed of a full expression of a lawful program's code, in each scene in which the objects that it names stand.
abbrev pub EventsAreOfCode : Type 0
EventsAreOfCode = (p : Program) (code : Code) (world : World) (f : Scene) (firsts : List ℕ) (nodes : List NodeInfo) (n : ℕ) (laid : Laid) (d : Due)
    → IsLawful p → AreInOrder p code → ListsTrees code → slice_get code.expressions.items n ≡ Some laid
    → LaidOutBy firsts nodes code.tables code.listing.items laid → NamesArePlaced world f laid.root.now → IsListedAt code.listing.items laid d
    → IsEventOfCode world code f laid (expr_of laid.root.now) d

-- .. by some nodes, as `code_of` has it of all full expressions
abbrev pub EventsAreInCode : Type 0
EventsAreInCode = (p : Program) (code : Code) (world : World) (f : Scene) (n : ℕ) (laid : Laid) (d : Due) → IsLawful p → AreInOrder p code
    → ListsTrees code → ∥ All (IsLaidOut code.tables code.listing.items) code.expressions.items ∥₁ → slice_get code.expressions.items n ≡ Some laid
    → NamesArePlaced world f laid.root.now → IsListedAt code.listing.items laid d → ∥ IsEventOfCode world code f laid (expr_of laid.root.now) d ∥₁
