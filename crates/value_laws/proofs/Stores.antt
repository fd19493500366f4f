-- The writes of a store of a whole structure or union.
use Rattle.std.proofs.Common.{◌≡◌, ℕ, suc, Bool, true, false, not, if◌then◌else◌, List, [], ◌∷◌, length, Option, Some, None, refl, sym, ap, ◌∙◌, subst}
use Rattle.std.proofs.Common.{inl, inr}
use Rattle.std.specs.Prelude.{◌==◌}
use Rattle.ub_base.specs.declared.clause.Kind.TheVariants.{Eff}
use Rattle.ub_base.specs.declared.clause.Clause.{Clause}
use Rattle.ub_base.specs.declared.clause.Clause.TheVariants.{InvalidPointer, OutOfBounds, DeadObject, EffectiveType, StoreToLiteral, StoreToConst}
use Rattle.ub_base.specs.declared.clause.Clause.TheVariants.{OverlappingAssignment}
use Rattle.ub_base.specs.declared.names.Item.{Item}
use Rattle.ub_base.specs.declared.names.ObjName.{ObjName}
use Rattle.addr_map.specs.declared.map.Row.{Row}
use Rattle.addr_map.specs.Rows.{row_of}
use Rattle.exposure.specs.declared.prov.Prov.{Prov}
use Rattle.exposure.specs.declared.prov.Prov.TheVariants as prov
use Rattle.c_types.specs.Types.{CType}
use Rattle.c_types.specs.Shapes.{Form}
use Rattle.c_typed.specs.declared.tree.Access.TheVariants as access
use Rattle.c_typed.specs.declared.tree.Place.{Place}
use Rattle.c_typed.specs.Order.{place, is_body}
use Rattle.mem_spec.specs.Store.{TaggedByte, Life, Store, is_live}
use Rattle.mem_spec.specs.Script.{Touch, Ask, Get, Put, Bear, Bury, Show, Find, Settle, Take, Print, item_of, refuses, refused, answer, left, Answer}
use Rattle.mem_spec.specs.Script.{Script, Give, Raise, Finish, Exceed, Misplace, Do, Act, Done, Raised, Ended, Outside, Unplaced, touched, run}
use Rattle.mem_spec.specs.Script.{◌>>=◌, ◌>>◌, require, touch}
use Rattle.mem_spec.specs.Acts.{Accessed, Seen, whole, in_row, offset_in, is_aligned, declared_of, is_literal, is_constant, suits_store, stored_from}
use Rattle.mem_spec.specs.Acts.{object_of, access as access_act, check_writable, store}
use Rattle.c_model.specs.Program.{Assign, expr, Exprs}
use Rattle.c_model.specs.Values.{Value, Int, Ptr, Fun, Whole, Missing, Nothing, pointer_of, value_at, or_nothing}
use Rattle.c_model.specs.World.{World}
use Rattle.c_model.specs.Nodes.{put_whole, overlap_inexactly, act_of}
use Rattle.c_model.specs.Steps.{Scene, Local, Begun, at_node, event_of, event_act, call_act, values_of, own_kind, first_type, target}
use Rattle.c_model.specs.Runs.{State, Running}
use Rattle.c_model.proofs.Ranks.{if_false}
use Rattle.value_laws.specs.Sizes.{Sizes, HasBytes, HasSize}
use Rattle.value_laws.specs.Wholes.{IsAmong, IsOpen, ValuesHaveSizes, WritesAt, Each, WholesAreStored}
use Rattle.value_laws.proofs.Nodes.{node_fits}
use Rattle.value_laws.proofs.Frames.{BegunFits, FrameFits, HeldFit, lowest, waits, operands}
use Rattle.value_laws.proofs.Orders.{StateFits, comes_fits}

-- each touch that a script can make is so, and what it gives
abbrev pub Makes : {V : Type 0} → (Item → Type 0) → (V → Type 0) → Script V → Type 0
Makes P Q (Give v) = Q v
Makes P Q (Do t k) = P (item_of t) × ((r : Answer t) → Makes P Q (k r))
Makes P Q x = Unit {0}

abbrev pub Anything : {V : Type 0} → V → Type 0
Anything v = Unit {0}

pub bind : {A B : Type 0} → (P : Item → Type 0) (Q : A → Type 0) (R : B → Type 0) (x : Script A) (k : A → Script B) → Makes P Q x
    → ((v : A) → Q v → Makes P R (k v)) → Makes P R (x >>= k)
bind P Q R (Give v) k h g = g v h
bind P Q R (Raise c) k h g = tt
bind P Q R (Finish n) k h g = tt
bind P Q R (Exceed c n) k h g = tt
bind P Q R Misplace k h g = tt
bind P Q R (Do t f) k (h, hf) g = (h, λ r. bind P Q R (f r) k (hf r) g)

pub need : {V : Type 0} → (P : Item → Type 0) (Q : V → Type 0) (b : Bool) (c : Clause) (t : Script V) → (b ≡ true → Makes P Q t) → Makes P Q (require b c >> t)
need P Q true c t h = h refl
need P Q false c t h = tt

pub needs : (P : Item → Type 0) (b : Bool) (c : Clause) → Makes P Anything (require b c)
needs P true c = tt
needs P false c = tt

pub when : {V : Type 0} → (P : Item → Type 0) (Q : V → Type 0) (b : Bool) (x y : Script V) → Makes P Q x → Makes P Q y → Makes P Q (if b then x else y)
when P Q true x y h k = h
when P Q false x y h k = k

-- so are the items of what was done
abbrev pub Made : {V : Type 0} → (Item → Type 0) → Act V → Type 0
Made P (Done v is s) = Each P is
Made P a = Unit {0}

module _ {V : Type 0} (rows : List Row) (P : Item → Type 0) (Q : V → Type 0) where
  touched_made : (i : Item) (a : Act V) → P i → Made P a → Made P (touched i a)
  touched_made i (Done v is s) p es = (p, es)
  touched_made i (Ended n is s) p es = tt
  touched_made i (Raised c) p es = tt
  touched_made i (Outside c n) p es = tt
  touched_made i Unplaced p es = tt

  refused_made : (t : Touch) → Made {V = V} P (refused t)
  refused_made (Ask x) = tt
  refused_made (Get x a n) = tt
  refused_made (Put x a bs) = tt
  refused_made (Bear x size kind declared) = tt
  refused_made (Bury x) = tt
  refused_made (Show x) = tt
  refused_made (Find a) = tt
  refused_made (Settle id x c) = tt
  refused_made Take = tt
  refused_made (Print to bs) = tt

  pub run_made : (x : Script V) (s : Store) → Makes P Q x → Made P (run rows x s)
  run_made (Give v) s h = tt
  run_made (Raise c) s h = tt
  run_made (Finish n) s h = tt
  run_made (Exceed c n) s h = tt
  run_made Misplace s h = tt
  run_made (Do t k) s (h, hk) = go (refuses t s) (run_made (k (answer rows t s)) (left t s) (hk (answer rows t s)))
    where
      go : (b : Bool) → Made P (run rows (k (answer rows t s)) (left t s))
          → Made P (if b then refused t else touched (item_of t) (run rows (k (answer rows t s)) (left t s)))
      go true r = refused_made t
      go false r = touched_made (item_of t) _ h r

pub stored_length : (form : Option Form) (via : Seen) (i : ℕ) (bs : List TaggedByte) → length (stored_from form via i bs) ≡ length bs
stored_length None via i [] = refl
stored_length (Some form) via i [] = refl
stored_length None via i (b ∷ bs) = ap suc (stored_length None via (suc i) bs)
stored_length (Some form) via i (b ∷ bs) = ap suc (stored_length (Some form) via (suc i) bs)

module _ (rows : List Row) (a : ℕ) where
  -- what an access finds
  abbrev FoundAt : Accessed → Type 0
  FoundAt at = at.from ≡ offset_in (row_of rows at.object) a

  abbrev aligned_at : ℕ → ObjName → Option Life → Script Accessed
  aligned_at align x life = require (is_aligned align a) InvalidPointer >> Give (record { object = x; from = offset_in (row_of rows x) a; life = life })

  abbrev bounded_at : ℕ → ℕ → ObjName → Option Life → Script Accessed
  bounded_at len align x life = require (in_row (row_of rows x) a len) OutOfBounds >> aligned_at align x life

  abbrev asked_at : ℕ → ℕ → ObjName → Script Accessed
  asked_at len align x = touch (Ask x) >>= (λ life. require (is_live life) DeadObject >> bounded_at len align x life)

  abbrev Writes : ℕ → Item → Type 0
  Writes n = WritesAt rows a n

  object_made : (n len : ℕ) (p : Prov) → Makes (Writes n) Anything (object_of rows len a p)
  object_made n len prov.Empty = tt
  object_made n len (prov.Whole x) = tt
  object_made n len (prov.Either id past start) =
      when (Writes n) Anything (in_row (row_of rows past) a len) (touch (Settle id past OutOfBounds) >> Give past)
      (if in_row (row_of rows start) a len then touch (Settle id start OutOfBounds) >> Give start else Raise OutOfBounds) (tt, λ r. tt)
      (when (Writes n) Anything (in_row (row_of rows start) a len) (touch (Settle id start OutOfBounds) >> Give start) (Raise OutOfBounds) (tt, λ r. tt) tt)

  access_made : (n len align : ℕ) (p : Prov) → Makes (Writes n) FoundAt (access_act rows len align a p)
  access_made n len align p =
      need (Writes n) FoundAt (not (a == 0)) InvalidPointer (object_of rows len a p >>= asked_at len align)
      (λ h. bind (Writes n) Anything FoundAt (object_of rows len a p) (asked_at len align) (object_made n len p)
      (λ x u. (
        tt,
        λ life. need (Writes n) FoundAt (is_live life) DeadObject (bounded_at len align x life)
            (λ h. need (Writes n) FoundAt (in_row (row_of rows x) a len) OutOfBounds (aligned_at align x life)
            (λ g. need (Writes n) FoundAt (is_aligned align a) InvalidPointer
            (Give (record { object = x; from = offset_in (row_of rows x) a; life = life })) (λ k. refl))),
      )))

  writable_made : (n : ℕ) (first : Bool) (life : Option Life) → Makes (Writes n) Anything (check_writable first life)
  writable_made n true life = tt
  writable_made n false life =
      need (Writes n) Anything (not (is_literal life)) StoreToLiteral (require (not (is_constant life)) StoreToConst)
      (λ h. needs (Writes n) (not (is_constant life)) StoreToConst)

  store_made : (n : ℕ) (first : Bool) (via : Seen) (align : ℕ) (q : Prov) (bs : List TaggedByte) → length bs ≡ n
      → Makes (Writes n) Anything (store rows first via align a q bs)
  store_made n first via align q bs e =
      bind (Writes n) FoundAt Anything (access_act rows (length bs) align a q)
      (λ at. require (suits_store via (declared_of at.life) at.from) EffectiveType
      >> (check_writable first at.life >> touch (Put at.object at.from (stored_from (declared_of at.life) via 0 bs))))
      (access_made n (length bs) align q)
      (λ at f. need (Writes n) Anything (suits_store via (declared_of at.life) at.from) EffectiveType _
      (λ k. bind (Writes n) Anything Anything (check_writable first at.life) _ (writable_made n first at.life)
      (λ u h. ((f, stored_length (declared_of at.life) via 0 bs ∙ e), λ r. tt))))

  pub whole_made : (first : Bool) (n align : ℕ) (q : Prov) (v : Value) → HasBytes n v
      → Makes (Writes n) Anything (put_whole rows first n align (record { address = a; prov = q }) v)
  whole_made first n align q (Whole bs source) h =
      bind (Writes n) Anything Anything (store rows first whole align a q bs) _ (store_made n first whole align q bs h)
      (λ u k. need (Writes n) Anything (not (overlap_inexactly n a source)) OverlappingAssignment (Give Nothing) (λ g. tt))
  whole_made first n align q (Int z) h = tt
  whole_made first n align q (Ptr b p) h = tt
  whole_made first n align q (Fun b) h = tt
  whole_made first n align q Missing h = tt
  whole_made first n align q Nothing h = tt

module _ (size : Sizes) (world : World) where
  among_fits : (above : Option ℕ) (hs : List (Local × Place)) → HeldFit size world above hs → (f : Local) → IsAmong hs f
      → (result : Option ℕ) × FrameFits size world result f
  among_fits above _ (lowest _) f m = absurd m
  among_fits above _ (waits _ result h hs w below) f (inl e) = (result, subst (FrameFits size world result) e w.frame)
  among_fits above _ (waits _ result h hs w below) f (inr m) = among_fits result hs below f m

  open_fits : (st : State) → StateFits size world st → (f : Local) → IsOpen st f → (result : Option ℕ) × FrameFits size world result f
  open_fits st h f (inl e) = (h.result, subst (FrameFits size world h.result) e h.top)
  open_fits st h f (inr m) = among_fits h.result st.held h.held f m

  -- the act of a store of a whole structure or union
  stores_made : (f : Scene) (result : Option ℕ) (b : Begun) → BegunFits size world result b → (u : Place) → u.kind ≡ Eff
      → (first : Bool) (n align : ℕ) (ty : CType) (line : ℕ) (es : Exprs)
      (q : at_node 0 b.root u.node ≡ Some (expr (Assign first (access.Whole n align)) ty line es))
      → Makes (WritesAt world.rows (pointer_of (value_at (values_of world f b.given (suc u.node) es) 0)).address n) Anything
      (event_act world f b u (at_node 0 b.root u.node))
  stores_made f result b h u kind first n align ty line es q =
      let vs = values_of world f b.given (suc u.node) es in
      let p = pointer_of (value_at vs 0) in
      let own = or_nothing (b.given (place u.node (own_kind u.kind))) in
      let head = Assign first (access.Whole n align) in
      let act = act_of world.rows (event_of world f u) head (target (first_type es)) u.kind vs own in
      let fits = (node_fits size b.root 0 u.node (expr head ty line es) h.root q).0.0 in
      let bytes = subst (λ z. HasSize z (value_at vs 1)) fits (operands size world f b h.values u.node head ty line es q 1) in
      subst (λ o. Makes (WritesAt world.rows p.address n) Anything (event_act world f b u o)) (sym q)
      (subst (λ z. Makes (WritesAt world.rows p.address n) Anything z)
      (sym (if_false (is_body u.kind) (call_act world (event_of world f u) head es vs) act (ap is_body kind)))
      (subst (λ k. Makes (WritesAt world.rows p.address n) Anything (act_of world.rows (event_of world f u) head (target (first_type es)) k vs own)) (sym kind)
      (whole_made world.rows p.address first n align p.prov (value_at vs 1) bytes)))

pub values_have_sizes : ValuesHaveSizes
values_have_sizes size world ok input vs ps st comes f is_open b e =
    ((open_fits size world st (comes_fits size world ok input vs ps (Running st) comes) f is_open).1.begun b e).values

pub wholes_are_stored : WholesAreStored
wholes_are_stored size world ok input vs ps st comes b u e kind first n align ty line es q v is s done =
    let h = comes_fits size world ok input vs ps (Running st) comes in
    let P = WritesAt world.rows (pointer_of (value_at (values_of world st.top.scene b.given (suc u.node) es) 0)).address n in
    subst (λ a. Made P a) done
    (run_made world.rows P Anything (event_act world st.top.scene b u (at_node 0 b.root u.node)) st.store
    (stores_made size world st.top.scene h.result b (h.top.begun b e) u kind first n align ty line es q))
