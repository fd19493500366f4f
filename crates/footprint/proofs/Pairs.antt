-- Pairs of items that conflict.
use Rattle.std.proofs.Common.{◌≡◌, ℕ, Bool, true, false, not, refl, arith}
use Rattle.std.proofs.lemmas.Bool.Decides.{nat_tests}
use Rattle.std.specs.Prelude.{◌&&◌}
use Rattle.ub_base.specs.Names.{same_object}
use Rattle.ub_base.specs.declared.names.Event.{Event}
use Rattle.ub_base.specs.declared.names.ObjName.{ObjName}
use Rattle.ub_base.specs.declared.names.Item.TheVariants.{Read, Write, Born, Dies, Alive, Expose, Narrow}
use Rattle.ub_base.proofs.NameLemmas.{same_object_refl, same_object_is, same_event_refl}
use Rattle.addr_map.specs.Conflict.{overlap}
use Rattle.footprint.specs.Conflicts.{MayConflict}

byte_shared : (x : ObjName) (a : ℕ) → (same_object x x && overlap a 1 a 1) ≡ true
byte_shared x a = rw (same_object_refl x) (grind (arith, nat_tests))

pub read_written : (x : ObjName) (a : ℕ) → MayConflict (Read x a 1) (Write x a 1)
read_written x a = byte_shared x a

pub written_read : (x : ObjName) (a : ℕ) → MayConflict (Write x a 1) (Read x a 1)
written_read x a = rw (byte_shared x a) refl

pub written_twice : (x : ObjName) (a : ℕ) → MayConflict (Write x a 1) (Write x a 1)
written_twice x a = rw (byte_shared x a) refl

pub born_dies : (x : ObjName) → MayConflict (Born x) (Dies x)
born_dies x = same_object_refl x

pub born_alive : (x : ObjName) → MayConflict (Born x) (Alive x)
born_alive x = rw (same_object_refl x) refl

pub born_expose : (x : ObjName) → MayConflict (Born x) (Expose x)
born_expose x = rw (same_object_refl x) refl

pub dies_born : (x : ObjName) → MayConflict (Dies x) (Born x)
dies_born x = rw (same_object_refl x) refl

pub dies_dies : (x : ObjName) → MayConflict (Dies x) (Dies x)
dies_dies x = rw (same_object_refl x) refl

pub dies_alive : (x : ObjName) → MayConflict (Dies x) (Alive x)
dies_alive x = rw (same_object_refl x) refl

pub alive_born : (x : ObjName) → MayConflict (Alive x) (Born x)
alive_born x = same_object_refl x

pub alive_dies : (x : ObjName) → MayConflict (Alive x) (Dies x)
alive_dies x = same_object_refl x

pub expose_born : (x : ObjName) → MayConflict (Expose x) (Born x)
expose_born x = same_object_refl x

apart_by : (b : Bool) (x y : ObjName) → same_object x y ≡ b → (x ≡ y → ⊥) → not b ≡ true
apart_by true x y is differ = absurd (differ (same_object_is x y is))
apart_by false x y is differ = refl

pub apart : (x y : ObjName) → (x ≡ y → ⊥) → not (same_object x y) ≡ true
apart x y differ = apart_by (same_object x y) x y refl differ

pub narrowed_apart : (e : Event) (x y : ObjName) → not (same_object x y) ≡ true → MayConflict (Narrow e x) (Narrow e y)
narrowed_apart e x y differ = rw (same_event_refl e, differ) refl

pub ruleset pairs = (
  read_written,
  written_read,
  written_twice,
  born_dies,
  born_alive,
  born_expose,
  dies_born,
  dies_dies,
  dies_alive,
  alive_born,
  alive_dies,
  expose_born,
  same_object_refl,
  apart,
  narrowed_apart,
)
