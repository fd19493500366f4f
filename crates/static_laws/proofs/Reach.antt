-- What the access of an event can touch: reads alone or writes too, at which object and offset, and how far.
use Rattle.std.proofs.Common.{◌≡◌, ℕ, ◌+◌, ◌-◌, ◌≤◌, Bool, true, false, if◌then◌else◌, Option, Some, None, is_some, ◌⊎◌, List}
use Rattle.std.specs.Prelude.{◌^◌}
use Rattle.ub_base.specs.declared.names.ObjName.{ObjName}
use Rattle.ub_base.specs.declared.names.Item.{Item}
use Rattle.ub_base.specs.declared.names.Item.TheVariants.{Read, Write}
use Rattle.addr_map.specs.declared.map.Row.{Row}
use Rattle.addr_map.specs.Rows.{row_of}
use Rattle.exposure.specs.declared.prov.Prov.TheVariants.{Whole}
use Rattle.mem_spec.specs.Acts.{base_in, Accessed}
use Rattle.c_typed.specs.declared.tree.Access.{Access}
use Rattle.c_typed.specs.declared.tree.Access.TheVariants as access
use Rattle.ub_base.specs.declared.clause.Kind.{Kind}
use Rattle.ub_base.specs.declared.clause.Kind.TheVariants.{Val, Eff}
use Rattle.c_model.specs.Program.{Head, Load, Assign, Update, Listed}
use Rattle.c_model.specs.Nodes.{width_of, change_access}
use Rattle.c_model.specs.Values.{Pointer, null}

-- an object and an offset in it
abbrev pub Site : Type 0
Site = ObjName × ℕ

pub record Reach : Type 0 where
  pub writes : Bool
  pub site : Option Site
  pub limit : Option ℕ

abbrev pub reach : Bool → Option Site → Option ℕ → Reach
reach writes site limit = record { writes = writes; site = site; limit = limit }

-- so many bytes from the offset
abbrev pub Until : Option ℕ → ℕ → ℕ → Type 0
Until None o end = Unit {0}
Until (Some l) o end = end ≤ o + l

abbrev pub AtSite : Option Site → Option ℕ → ObjName → ℕ → ℕ → Type 0
AtSite None limit x a n = Unit {0}
AtSite (Some s) limit x a n = (x ≡ s.0) × ((s.1 ≤ a) × Until limit s.1 (a + n))

abbrev pub Touches : List Row → Reach → ObjName → ℕ → ℕ → Type 0
Touches rows r x a n = (is_some (row_of rows x) ≡ true) × AtSite r.site r.limit x a n

abbrev pub InReach : List Row → Option Reach → Item → Type 0
InReach rows None (Read x a n) = ⊥
InReach rows None (Write x a n) = ⊥
InReach rows (Some r) (Read x a n) = Touches rows r x a n
InReach rows (Some r) (Write x a n) = (r.writes ≡ true) × Touches rows r x a n
InReach rows o i = Unit {0}

abbrev pub pointer_at : List Row → Site → Pointer
pointer_at rows s = record { address = base_in (row_of rows s.0) + s.1; prov = Whole s.0 }

-- a pointer to there, or none yet
abbrev pub Points : List Row → Option Site → Pointer → Type 0
Points rows None p = Unit {0}
Points rows (Some s) p = (p ≡ null) ⊎ (p ≡ pointer_at rows s)

abbrev pub FoundAt : Option Site → Accessed → Type 0
FoundAt None at = Unit {0}
FoundAt (Some s) at = (at.object ≡ s.0) × (at.from ≡ s.1)

abbrev pub Found : List Row → Option Site → Accessed → Type 0
Found rows site at = (is_some (row_of rows at.object) ≡ true) × FoundAt site at

-- how far a store goes; of a whole structure or union as far as the value, whose size may be known
abbrev pub store_limit : Bool → Access → Option ℕ
store_limit sized (access.Integer k) = Some (width_of (access.Integer k))
store_limit sized access.Pointer = Some 8
store_limit sized access.Function = Some 8
store_limit sized (access.Whole size align) = if sized then Some size else None

-- of an event of a node whose place is at the site, or which is the list of the object
abbrev pub reach_by : Bool → Head → Option Site → ObjName → Kind → Option Reach
reach_by sized (Load how) site x Val = Some (reach false site (Some (width_of how)))
reach_by sized (Assign first how) site x Eff = Some (reach true site (store_limit sized how))
reach_by sized (Update c old) site x Val = Some (reach false site (Some (width_of (change_access c))))
reach_by sized (Update c old) site x Eff = Some (reach true site (store_limit sized (change_access c)))
reach_by sized (Listed slot fillings) site x Eff = Some (reach true (Some (x, 0)) (Some (2 ^ 64 - 1)))
reach_by sized h site x k = None
