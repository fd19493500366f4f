-- What a pick keeps of the other events of its full expression (own).
use Rattle.std.specs.Prelude.{◌≡◌, ◌≢◌, ◌⊎◌, ℕ, suc, ◌+◌, ◌==◌, nat_lt, Bool, true, false, Some, None, is_some, if◌then◌else◌}
use Rattle.ub_base.specs.declared.clause.Kind.TheVariants.{Val, Eff}
use Rattle.c_typed.specs.declared.tree.Place.{Place}
use Rattle.c_typed.specs.declared.class.Class.{Class}
use Rattle.c_typed.specs.declared.class.Class.TheVariants.{Update}
use Rattle.c_typed.specs.Tree.{Tree, node, Trees, none, more, size}
use Rattle.c_typed.specs.Order.{Taken, place}
use Rattle.c_typed.specs.Decide.{due_in, is_before}
use Rattle.c_model.specs.Program.{tree_of}
use Rattle.c_model.specs.Values.{Value}
use Rattle.c_model.specs.World.{World}
use Rattle.c_model.specs.Steps.{Scene, Begun, with_given, taken_by}

module _ (world : World) where
  abbrev pub due_now : Scene → Begun → Place → Bool
  due_now f e u = due_in (taken_by world f e) 0 (tree_of e.root) u

  abbrev pub before_now : Scene → Begun → Place → Place → Bool
  before_now f e u v = is_before (taken_by world f e) 0 (tree_of e.root) u v

  -- due, and all that comes before it is done
  pub record IsReached (f : Scene) (e : Begun) (u : Place) : Type 0 where
    pub due : due_now f e u ≡ true
    pub earlier : (v : Place) → due_now f e v ≡ true → before_now f e v u ≡ true → is_some (e.given v) ≡ true

  -- and it isn't done
  pub record IsNext (f : Scene) (e : Begun) (u : Place) : Type 0 where
    pub due : due_now f e u ≡ true
    pub left : e.given u ≡ None
    pub earlier : (v : Place) → due_now f e v ≡ true → before_now f e v u ≡ true → is_some (e.given v) ≡ true

-- a pick that may come next leaves reached what was reached
abbrev pub ReachedStays : Type 0
ReachedStays =
    (world : World)
    (f : Scene) (e : Begun) (u p : Place) (w : Value) → IsNext world f e u → IsReached world f e p
    → IsReached world f (with_given e u w) p

-- it puts nothing new before what was reached, whatever operand is chosen by it
abbrev pub NothingNewBefore : Type 0
NothingNewBefore =
    (world : World)
    (f : Scene) (e : Begun) (u p q : Place) (w : Value) → IsNext world f e u
    → IsReached world f e p → IsReached world f e q
    → before_now world f e p q ≡ false → before_now world f (with_given e u w) p q ≡ false

-- of two picks that may come next either leaves the other so, and neither comes before the other
abbrev pub EitherNext : Type 0
EitherNext =
    (world : World)
    (f : Scene) (e : Begun) (u q : Place) (w : Value) → IsNext world f e u → IsNext world f e q → u ≢ q
    → IsNext world f (with_given e u w) q × (before_now world f e u q ≡ false)

-- and the two leave the same in either order
abbrev pub EitherOrder : Type 0
EitherOrder = (e : Begun) (u q : Place) (v w : Value) → u ≢ q → with_given (with_given e u w) q v ≡ with_given (with_given e q v) u w

-- an update (6.5.2.4, 6.5.3.1, 6.5.16.2)
abbrev pub is_update : Class → Bool
is_update Update = true
is_update _ = false

abbrev mutual
  -- the node m of the tree whose root has the number k is an update
  pub update_at : ℕ → Tree → ℕ → Bool
  update_at k (node n ts) m = if m == k then is_update n else update_among (suc k) ts m

  pub update_among : ℕ → Trees → ℕ → Bool
  update_among k none m = false
  update_among k (more t ts) m = if nat_lt m (k + size t) then update_at k t m else update_among (k + size t) ts m

-- all that is done was reached, as after each list of picks that come next one after the other
abbrev pub IsClosed : (world : World) → Scene → Begun → Type 0
IsClosed world f e = (v : Place) → is_some (e.given v) ≡ true → IsReached world f e v

-- which each pick that may come next keeps
abbrev pub StaysClosed : Type 0
StaysClosed =
    (world : World)
    (f : Scene) (e : Begun) (u : Place) (w : Value) → IsNext world f e u → IsClosed world f e
    → IsClosed world f (with_given e u w)

-- once the value of an update is taken, its effect may come next
abbrev pub EffectComesNext : Type 0
EffectComesNext =
    (world : World)
    (f : Scene) (e : Begun) (m : ℕ) (w : Value) → update_at 0 (tree_of e.root) m ≡ true → IsNext world f e (place m Val)
    → IsClosed world f e → IsNext world f (with_given e (place m Val) w) (place m Eff)

-- and not before: the value comes before the effect, and what comes before the effect is the value or comes before it
abbrev pub ValueThenEffect : Type 0
ValueThenEffect =
    (taken : Taken) (tree : Tree) (m : ℕ) → update_at 0 tree m ≡ true
    → (is_before taken 0 tree (place m Val) (place m Eff) ≡ true)
    × ((v : Place) → is_before taken 0 tree v (place m Eff) ≡ true → (v ≡ place m Val) ⊎ (is_before taken 0 tree v (place m Val) ≡ true))

-- more choices put no event behind one that it was before
abbrev pub MoreChoices : Type 0
MoreChoices =
    (taken more_taken : Taken) → ((k j : ℕ) → taken k ≡ Some j → more_taken k ≡ Some j)
    → (tree : Tree) (u v : Place) → is_before taken 0 tree u v ≡ true → is_before more_taken 0 tree u v ≡ true
