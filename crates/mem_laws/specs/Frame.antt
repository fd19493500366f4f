-- What items change, and when two stores differ only in that.
use Rattle.std.specs.Prelude.{◌≡◌, ℕ, ◌+◌, Bool, true, false, not, ◌&&◌, ◌||◌, nat_lt, nat_le, List, [], ◌∷◌, is_some}
use Rattle.ub_base.specs.declared.names.Event.{Event}
use Rattle.ub_base.specs.declared.names.ObjName.{ObjName}
use Rattle.ub_base.specs.declared.names.Item.{Item}
use Rattle.ub_base.specs.declared.names.Item.TheVariants.{Read, Write, Born, Dies, Expose, Narrow, Input, Output}
use Rattle.ub_base.specs.Names.{same_event, same_object}
use Rattle.addr_map.specs.declared.map.Row.{Row}
use Rattle.addr_map.specs.Conflict.{items_conflict, stands_at}
use Rattle.exposure.specs.Cells.{is_other}
use Rattle.mem_spec.specs.Store.{Store, can_find}
use Rattle.mem_spec.specs.Script.{Script, Act, Done, Ended, run}

-- how an act ends that raises nothing and passes no limit: it gives a value, or it ends the run with a status
pub data ActEnd (V : Type 0) : Type 0 where
  gives : V → ActEnd V
  finishes : (status : ℕ) → ActEnd V

abbrev pub acted : {V : Type 0} → ActEnd V → List Item → Store → Act V
acted (gives v) is s = Done v is s
acted (finishes n) is s = Ended n is s

-- what an item changes
abbrev pub bears : Item → ObjName → Bool
bears (Born y) x = same_object y x
bears _ x = false

abbrev pub ends_life : Item → ObjName → Bool
ends_life (Dies y) x = same_object y x
ends_life _ x = false

abbrev pub shows : Item → ObjName → Bool
shows (Expose y) x = same_object y x
shows _ x = false

abbrev pub writes : Item → ObjName → ℕ → Bool
writes (Write y a n) x b = same_object y x && (nat_le a b && nat_lt b (a + n))
writes _ x b = false

abbrev pub settles : Item → Event → Bool
settles (Narrow e x) d = same_event e d
settles _ d = false

-- settles the ambiguity to another object
abbrev pub settles_away : Item → Event → ObjName → Bool
settles_away (Narrow e y) d x = same_event e d && not (same_object y x)
settles_away _ d x = false

abbrev pub takes : Item → Bool
takes Input = true
takes _ = false

abbrev pub prints : Item → Bool
prints Output = true
prints _ = false

abbrev pub any_of : (Item → Bool) → List Item → Bool
any_of f [] = false
any_of f (i ∷ is) = f i || any_of f is

-- two stores differ only in what these items change
pub record Diff (j : List Item) (s u : Store) : Type 0 where
  pub life : (x : ObjName) → any_of (λ i. bears i x) j ≡ false → any_of (λ i. ends_life i x) j ≡ false → s.life x ≡ u.life x
  pub known : (x : ObjName) → any_of (λ i. bears i x) j ≡ false → is_some (s.life x) ≡ is_some (u.life x)
  pub exposed : (x : ObjName) → any_of (λ i. bears i x) j ≡ false → any_of (λ i. shows i x) j ≡ false → s.exposed x ≡ u.exposed x
  pub bytes : (x : ObjName) (b : ℕ) → any_of (λ i. bears i x) j ≡ false → any_of (λ i. ends_life i x) j ≡ false → any_of (λ i. writes i x b) j ≡ false
      → s.bytes x b ≡ u.bytes x b
  pub found : (x : ObjName) → any_of (λ i. shows i x) j ≡ false → any_of (λ i. ends_life i x) j ≡ false → can_find s x ≡ can_find u x
  pub other : (e : Event) (x : ObjName) → any_of (λ i. settles_away i e x) j ≡ false → is_other (s.kept e) x ≡ is_other (u.kept e) x
  pub kept : (e : Event) → any_of (λ i. settles i e) j ≡ false → s.kept e ≡ u.kept e
  pub input : s.input ≡ u.input
  pub position : any_of takes j ≡ false → s.position ≡ u.position
  pub output : any_of prints j ≡ false → s.output ≡ u.output

-- a birth or a death beside an access, and two births, of the same object; each access comes with its `alive`, so in acts these
-- are conflicts already
abbrev pub life_conflict : Item → Item → Bool
life_conflict (Born x) (Read y a n) = same_object x y
life_conflict (Born x) (Write y a n) = same_object x y
life_conflict (Born x) (Born y) = same_object x y
life_conflict (Dies x) (Read y a n) = same_object x y
life_conflict (Dies x) (Write y a n) = same_object x y
life_conflict _ _ = false

abbrev pub interferes : List Row → Item → Item → Bool
interferes map i j = items_conflict (stands_at map) i j || (life_conflict i j || life_conflict j i)

abbrev pub interferes_with : List Row → Item → List Item → Bool
interferes_with map i [] = false
interferes_with map i (j ∷ js) = interferes map i j || interferes_with map i js

abbrev pub some_interference : List Row → List Item → List Item → Bool
some_interference map [] js = false
some_interference map (i ∷ is) js = interferes_with map i js || some_interference map is js

-- an act gives the same value and items, or ends the run with the same status and items, and leaves the same difference, in a store that
-- differs by what doesn't conflict with it
abbrev pub ActFrame : (V : Type 0) → Type 0
ActFrame V =
    (map : List Row) (act : Script V) (s u after_s : Store) (e : ActEnd V) (is others : List Item) → run map act s ≡ acted e is after_s
    → Diff others s u → some_interference map is others ≡ false
    → (after_u : Store) × (run map act u ≡ acted e is after_u) × Diff others after_s after_u

-- an act changes only what its items name
abbrev pub ActChanges : (V : Type 0) → Type 0
ActChanges V = (map : List Row) (act : Script V) (s after_s : Store) (e : ActEnd V) (is : List Item) → run map act s ≡ acted e is after_s → Diff is s after_s
