-- What acts give stands in the row of one object, where it was loaded.
use Rattle.std.proofs.Common.{arith, ◌≡◌, ◌+◌, ◌%◌, ◌<◌, ◌≤◌, ◌^◌, ◌⊎◌, inl, inr, ℕ, suc, ◌==◌, Bool, true, false, not, ◌||◌, if◌then◌else◌}
use Rattle.std.proofs.Common.{List, [], ◌∷◌, length, Option, Some, None, refl, sym, subst, ◌/◌, ℤ, pos, unsigned_abs, Result, Ok, Err}
use Rattle.std.specs.Prelude.{◌-ℤ◌}
use Rattle.std.proofs.lemmas.Bool.Decides.{nat_tests}
use Rattle.ub_base.specs.declared.clause.Clause.{Clause}
use Rattle.ub_base.specs.declared.clause.Clause.TheVariants.{DeadObject, Indeterminate, InvalidPointer, OutOfBounds, OverlappingAssignment}
use Rattle.ub_base.specs.declared.clause.Clause.TheVariants.{PointerAlignment, TrapRepresentation}
use Rattle.ub_base.specs.declared.clause.Kind.{Kind}
use Rattle.ub_base.specs.declared.clause.Kind.TheVariants.{Val, Eff, Body}
use Rattle.ub_base.specs.declared.names.Event.{Event}
use Rattle.ub_base.specs.declared.names.ObjName.{ObjName}
use Rattle.addr_map.specs.declared.map.Row.{Row}
use Rattle.addr_map.specs.Rows.{row_of}
use Rattle.exposure.specs.declared.prov.Prov.{Prov}
use Rattle.c_types.specs.Types.{CType, int}
use Rattle.c_types.specs.declared.kind.IntKind.{IntKind}
use Rattle.c_types.specs.declared.kind.IntKind.TheVariants.{ULong}
use Rattle.c_arith.specs.Operators.{bits, conv, negated}
use Rattle.c_typed.specs.declared.tree.Access.{Access}
use Rattle.c_typed.specs.declared.tree.Access.TheVariants as access
use Rattle.c_typed.specs.declared.tree.Change.{Change}
use Rattle.c_typed.specs.declared.tree.Change.TheVariants as change
use Rattle.c_typed.specs.declared.tree.Conversion.{Conversion}
use Rattle.c_typed.specs.declared.tree.Conversion.TheVariants as conversion
use Rattle.c_typed.specs.declared.tree.EqOp.{EqOp}
use Rattle.c_typed.specs.declared.tree.EqOp.TheVariants as equality
use Rattle.c_typed.specs.declared.tree.RelOp.{RelOp}
use Rattle.c_typed.specs.declared.tree.UnOp.{UnOp}
use Rattle.c_typed.specs.declared.tree.UnOp.TheVariants as unary
use Rattle.c_typed.specs.Order.{is_body}
use Rattle.mem_spec.specs.Acts as acts
use Rattle.mem_spec.specs.Acts.{Accessed, declared_of, in_row, load_block, object_of, offset_in, retagged}
use Rattle.mem_spec.specs.Agreement.{bytes_of_kind}
use Rattle.mem_spec.specs.Bytes.{number_bytes, pointer_bytes}
use Rattle.mem_spec.specs.Script.{Ask, Get, Give, Script, require, touch, ◌>>=◌, ◌>>◌}
use Rattle.mem_spec.specs.Store.{Life, TaggedByte, is_live}
use Rattle.c_model.specs.Nodes as nodes
use Rattle.c_model.specs.Nodes.{act_of, amount, call_value, changed, check_change, convert, equal, fill, given_back, last_value, load, part_of, put}
use Rattle.c_model.specs.Nodes.{put_whole}
use Rattle.c_model.specs.Nodes.{read_part, relational, unary_value, update_value}
use Rattle.c_model.specs.Program as model
use Rattle.c_model.specs.Program.{Filling, Head}
use Rattle.c_model.specs.Values as values
use Rattle.c_model.specs.Values.{Value, Int, Ptr, Fun, Missing, Nothing, Pointer, Whole, moved_source, part_bytes, pointer_of, value_at}
use Rattle.c_model.specs.World.{World}
use Rattle.value_facts.specs.Held.{IsScalar, KeepsSmall}
use Rattle.value_facts.specs.Small.{EndInTime, FillsSmall, IsSmall}
use Rattle.value_facts.specs.Sources.{IsInRow, IsPlaced, IsSourced}
use Rattle.value_facts.proofs.Acting.{act_so}
use Rattle.value_facts.proofs.Accesses.{AreSmallBytes, object_so, require_then, retagged_small}
use Rattle.value_facts.proofs.Nodes.{IsKept}
use Rattle.value_facts.proofs.Scripts.{Any, GivesSo, then_so}
use Rattle.value_facts.proofs.Only.{Only, both_so, only_on, only_then, part_length, retagged_length}

module _ (rows : List Row) where
  abbrev Sourced : Value → Type 0
  Sourced = IsSourced rows

  scalar_sourced : (v : Value) → IsScalar v → Sourced v
  scalar_sourced (Int z) h = tt
  scalar_sourced (Ptr a p) h = tt
  scalar_sourced (Fun a) h = tt
  scalar_sourced (Whole bs source) h = absurd h
  scalar_sourced Missing h = tt
  scalar_sourced Nothing h = tt

  -- ---- a load of a structure or union
  in_its_row : (a len : ℕ) (x : ObjName) (o : Option Row) → row_of rows x ≡ o → in_row o a len ≡ true → IsInRow rows a len
  in_its_row a len x None e h = absurd (cc (h))
  in_its_row a len x (Some r) e h = (x, r, e, grind (arith, nat_tests, h), grind (arith, nat_tests, h))

  abbrev FoundAt : (len a : ℕ) → Accessed → Type 0
  FoundAt len a at = in_row (row_of rows at.object) a len ≡ true

  module _ (len align a : ℕ) where
    abbrev aligned : ObjName → Option Life → Script Accessed
    aligned x life = require (acts.is_aligned align a) InvalidPointer >> Give (record { object = x; from = offset_in (row_of rows x) a; life = life })

    abbrev in_object : ObjName → Option Life → Script Accessed
    in_object x life = require (in_row (row_of rows x) a len) OutOfBounds >> aligned x life

    abbrev alive : ObjName → Option Life → Script Accessed
    alive x life = require (is_live life) DeadObject >> in_object x life

    alive_so : (x : ObjName) (life : Option Life) → GivesSo (FoundAt len a) (alive x life)
    alive_so x life =
        require_then (FoundAt len a) (is_live life) DeadObject (in_object x life) (λ f.
        require_then (FoundAt len a) (in_row (row_of rows x) a len) OutOfBounds (aligned x life) (λ i.
        require_then (FoundAt len a) (acts.is_aligned align a) InvalidPointer
        (Give (record { object = x; from = offset_in (row_of rows x) a; life = life })) (λ j. i)))

    access_so : (p : Prov) → GivesSo (FoundAt len a) (acts.access rows len align a p)
    access_so p =
        require_then (FoundAt len a) (not (a == 0)) InvalidPointer (object_of rows len a p >>= (λ x. touch (Ask x) >>= (λ life. alive x life))) (λ e.
        then_so Any (FoundAt len a) (object_of rows len a p) (λ x. touch (Ask x) >>= (λ life. alive x life)) (object_so rows len a p)
        (λ x any. (tt, λ life g. alive_so x life)))

  abbrev IsBlock : ℕ → List TaggedByte → Type 0
  IsBlock a bs = AreSmallBytes bs × IsInRow rows a (length bs)

  block_so : (size align a : ℕ) (p : Prov) → GivesSo (IsBlock a) (load_block rows size align a p)
  block_so size align a p =
      then_so (FoundAt size a) (IsBlock a) (acts.access rows size align a p)
      (λ at. touch (Get at.object at.from size) >>= (λ bs. Give (retagged (declared_of at.life) at.from bs))) (access_so size align a p)
      (λ at found. (
        tt,
        λ bs g. (
          retagged_small (declared_of at.life) at.from bs g.1,
          (let l = retagged_length (declared_of at.life) at.from bs in
              let n = g.0 in
              let same : size ≡ length (retagged (declared_of at.life) at.from bs) = omega (arith, l, n) in
              subst (IsInRow rows a) same (in_its_row a size at.object (row_of rows at.object) refl found)),
        ),
      ))

  abbrev IsGood : Value → Type 0
  IsGood v = IsSmall v × Sourced v

  whole_so : (size align : ℕ) (who : Event) (ty : CType) (p : Pointer) → GivesSo IsGood (load rows who (access.Whole size align) ty p)
  whole_so size align who ty p =
      then_so (IsBlock p.address) IsGood (load_block rows size align p.address p.prov) (λ bs. Give (Whole bs (Some p.address)))
      (block_so size align p.address p.prov) (λ bs h. (h.0, inr h.1))

  -- ---- parts
  rest_same : (m : ℕ) → m < 2 ^ 64 → m % 18446744073709551616 ≡ m
  rest_same m h = omega (arith, h)

  part_sourced : EndInTime rows → (offset n : ℕ) (bs : List TaggedByte) (source : Option ℕ) → Sourced (Whole bs source)
      → Sourced (Whole (part_bytes offset n bs) (moved_source offset source))
  part_sourced ends offset n bs None h = tt
  part_sourced ends offset n bs (Some a) h = go (part_length offset n bs) h
    where
      go : ((length (part_bytes offset n bs) ≡ 0) ⊎ (offset + length (part_bytes offset n bs) ≤ length bs))
          → ((length bs ≡ 0) ⊎ IsInRow rows a (length bs))
          → (length (part_bytes offset n bs) ≡ 0) ⊎ IsInRow rows ((a + offset) % 18446744073709551616) (length (part_bytes offset n bs))
      go (inl e) h = inl e
      go (inr l) (inl none) = inl (omega (arith, l, none))
      go (inr l) (inr (x, r, e, from, to)) =
          let below = ends x r e in
          let same : (a + offset) % 18446744073709551616 ≡ a + offset = rest_same (a + offset) (omega (arith, l, to, below)) in
          inr (subst (λ (m : ℕ). IsInRow rows m (length (part_bytes offset n bs))) (sym same)
          (x, r, e, omega (arith, from), omega (arith, l, to)))

  part_pointer_only : (who : Event) (o : Option Prov) (a : ℕ) → Only Sourced (nodes.part_pointer who o a)
  part_pointer_only who (Some p) a = tt
  part_pointer_only who None a = only_on Sourced (acts.from_int who a) (λ p. Give (Ptr a p)) (λ p. tt)

  only_require : (b : Bool) (c : Clause) (p : Script Value) → Only Sourced p → Only Sourced (require b c >> p)
  only_require true c p h = h
  only_require false c p h = tt

  module _ (ends : EndInTime rows) (who : Event) where
    shown_only : (bs : List TaggedByte) (v : Value) → IsScalar v → Only Sourced (acts.show_pieces bs >> Give v)
    shown_only bs v h = only_on Sourced (acts.show_pieces bs) (λ u. Give v) (λ u. scalar_sourced v h)

    read_only : (how : Access) (bs : List TaggedByte) (source : Option ℕ) → Sourced (Whole bs source) → Only Sourced (read_part who how bs source)
    read_only (access.Integer k) bs source h =
        let given = Int (acts.value_of k (acts.number_of bs)) in
        only_require (acts.all_written bs) Indeterminate
        (require (not (acts.is_trap k (acts.number_of bs))) TrapRepresentation >> (acts.show_pieces bs >> Give given))
        (only_require (not (acts.is_trap k (acts.number_of bs))) TrapRepresentation (acts.show_pieces bs >> Give given) (shown_only bs given tt))
    read_only access.Pointer bs source h =
        only_require (acts.all_written bs) Indeterminate (nodes.part_pointer who (acts.pointer_in bs) (acts.number_of bs))
        (part_pointer_only who (acts.pointer_in bs) (acts.number_of bs))
    read_only access.Function bs source h =
        only_require (acts.all_written bs) Indeterminate (acts.show_pieces bs >> Give (Fun (acts.number_of bs))) (shown_only bs (Fun (acts.number_of bs)) tt)
    read_only (access.Whole size align) bs source h = h

    part_only : (offset : ℕ) (how : Access) (v : Value) → Sourced v → Only Sourced (part_of who offset how v)
    part_only offset how (Whole bs source) h =
        read_only how (part_bytes offset (nodes.width_of how) bs) (moved_source offset source) (part_sourced ends offset (nodes.width_of how) bs source h)
    part_only offset how (Int z) h = tt
    part_only offset how (Ptr a p) h = tt
    part_only offset how (Fun a) h = tt
    part_only offset how Missing h = tt
    part_only offset how Nothing h = tt

    -- ---- other values
    convert_only : (c : Conversion) (v : Value) → Only Sourced (convert who c v)
    convert_only (conversion.Integer k) v = tt
    convert_only (conversion.Address k) v =
        only_on Sourced (acts.expose (pointer_of v).prov) (λ u. Give (Int (conv k (pos (pointer_of v).address)))) (λ u. tt)
    convert_only conversion.NotNull v = tt
    convert_only conversion.Lookup v =
        let n = bits ULong (values.integer_of v) in
        only_on Sourced (acts.from_int who n) (λ p. Give (Ptr n p)) (λ p. tt)
    convert_only (conversion.Pointer align) v =
        only_require (acts.is_aligned align (pointer_of v).address) PointerAlignment (Give (values.pointer_value (pointer_of v))) tt
    convert_only conversion.Function v = tt

    outcome_only : (r : Result ℤ Clause) → Only Sourced (nodes.int_outcome r)
    outcome_only (Ok z) = tt
    outcome_only (Err c) = tt

    unary_only : (op : UnOp) (v : Value) → Only Sourced (unary_value op v)
    unary_only (unary.Minus k) v = outcome_only (negated k (conv k (values.integer_of v)))
    unary_only (unary.Complement k) v = tt
    unary_only unary.Not v = tt

    shifted_only : (p : Pointer) (by : ℤ) → Only Sourced (nodes.shifted rows p by)
    shifted_only p by = only_on Sourced (acts.shift rows p.address p.prov by) (λ z. Give (Ptr (unsigned_abs z) p.prov)) (λ z. tt)

    relational_only : (op : RelOp) (pointers : Bool) (v w : Value) → Only Sourced (relational op pointers v w)
    relational_only op true v w =
        only_on Sourced (acts.less (pointer_of v).prov (pointer_of w).prov)
        (λ u. Give (nodes.bool_value (nodes.in_order op (pos (pointer_of v).address) (pos (pointer_of w).address)))) (λ u. tt)
    relational_only op false v w = tt

    difference_only : (size : ℕ) (p q : Pointer) → Only Sourced (nodes.difference size p q)
    difference_only size p q =
        only_on Sourced (acts.diff p.address p.prov q.address q.prov size) (λ u. Give (Int (pos (p.address / size) -ℤ pos (q.address / size)))) (λ u. tt)

    member_only : (offset : ℕ) (p : Pointer) → Only Sourced (nodes.member rows offset p)
    member_only offset p =
        only_require (not ((p.address == 0) || nodes.is_empty p.prov)) InvalidPointer (nodes.shifted rows p (pos offset)) (shifted_only p (pos offset))

    equal_sourced : (op : EqOp) (v w : Value) → Sourced (equal op v w)
    equal_sourced equality.Equal v w = tt
    equal_sourced equality.NotEqual v w = tt

    int_load : (k : IntKind) (ty : CType) (p : Pointer) → Only Sourced (load rows who (access.Integer k) ty p)
    int_load k ty p = only_on Sourced (acts.load_int rows k p.address p.prov) (λ z. Give (Int z)) (λ z. tt)

    pointer_load : (ty : CType) (p : Pointer) → Only Sourced (load rows who access.Pointer ty p)
    pointer_load ty p = only_on Sourced (acts.load_ptr rows ty who 8 p.address p.prov) (λ q. Give (Ptr q.0 q.1)) (λ q. tt)

    function_load : (ty : CType) (p : Pointer) → Only Sourced (load rows who access.Function ty p)
    function_load ty p = only_on Sourced (acts.load_func rows ty p.address p.prov) (λ n. Give (Fun n)) (λ n. tt)

    scalar_load : (c : Change) (ty : CType) (p : Pointer) → Only Sourced (load rows who (nodes.change_access c) ty p)
    scalar_load (change.Integer op kind work) ty p = int_load kind ty p
    scalar_load (change.Pointer size subtract) ty p = pointer_load ty p

    changed_sourced : (c : Change) (v : Value) (n : ℤ) → Sourced (changed c v n)
    changed_sourced (change.Integer op kind work) v n = tt
    changed_sourced (change.Pointer size subtract) v n = tt

    one_back : (old : Bool) (v w : Value) → Sourced v → Sourced w → Sourced (given_back old v w)
    one_back true v w h k = h
    one_back false v w h k = k

    update_only : (c : Change) (old : Bool) (ty : CType) (p : Pointer) (n : ℤ) → Only Sourced (update_value rows who c old ty p n)
    update_only c old ty p n =
        only_then Sourced Sourced (load rows who (nodes.change_access c) ty p) (λ v. check_change rows c v n >> Give (given_back old v (changed c v n)))
        (scalar_load c ty p) (λ v h.
        only_on Sourced (check_change rows c v n) (λ z. Give (given_back old v (changed c v n))) (λ z.
        one_back old v (changed c v n) h (changed_sourced c v n)))

    call_only : (discarded : Bool) (v : Value) → Only Sourced (call_value discarded v)
    call_only false Missing = tt
    call_only true Missing = tt
    call_only false (Int z) = tt
    call_only true (Int z) = tt
    call_only false (Ptr a p) = tt
    call_only true (Ptr a p) = tt
    call_only false (Fun a) = tt
    call_only true (Fun a) = tt
    call_only false (Whole bs source) = tt
    call_only true (Whole bs source) = tt
    call_only false Nothing = tt
    call_only true Nothing = tt

    last_sourced : (vs : List Value) → ((i : ℕ) → Sourced (value_at vs i)) → Sourced (last_value vs)
    last_sourced [] h = tt
    last_sourced (v ∷ []) h = h 0
    last_sourced (v ∷ w ∷ vs) h = last_sourced (w ∷ vs) (λ i. h (suc i))

    one_of : (b : Bool) (v w : Value) → Sourced v → Sourced w → Sourced (if b then v else w)
    one_of true v w h k = h
    one_of false v w h k = k

    stored_only : (first : Bool) (via : acts.Seen) (align a : ℕ) (q : Prov) (bs : List TaggedByte) (p : Script Value) → Only Sourced p
        → Only Sourced (acts.store rows first via align a q bs >> p)
    stored_only first via align a q bs p h = only_on Sourced (acts.store rows first via align a q bs) (λ u. p) (λ u. h)

    whole_only : (first : Bool) (size align : ℕ) (p : Pointer) (v : Value) → Only Sourced (put_whole rows first size align p v)
    whole_only first size align p (Whole bs source) =
        let b = not (nodes.overlap_inexactly size p.address source) in
        stored_only first acts.whole align p.address p.prov bs (require b OverlappingAssignment >> Give Nothing)
        (only_require b OverlappingAssignment (Give Nothing) tt)
    whole_only first size align p (Int z) = tt
    whole_only first size align p (Ptr a q) = tt
    whole_only first size align p (Fun a) = tt
    whole_only first size align p Missing = tt
    whole_only first size align p Nothing = tt

    put_only : (first : Bool) (how : Access) (ty : CType) (p : Pointer) (v : Value) → Only Sourced (put rows first how ty p v)
    put_only first (access.Integer k) ty p v =
        stored_only first (acts.scalar (int k)) (bytes_of_kind k) p.address p.prov (values.int_bytes k (values.integer_of v)) (Give Nothing) tt
    put_only first access.Pointer ty p v =
        stored_only first (acts.scalar ty) 8 p.address p.prov (pointer_bytes 8 0 (pointer_of v).prov (pointer_of v).address) (Give Nothing) tt
    put_only first access.Function ty p v =
        stored_only first (acts.scalar ty) 8 p.address p.prov (number_bytes 8 (values.function_in v)) (Give Nothing) tt
    put_only first (access.Whole size align) ty p v = whole_only first size align p v

    fill_only : (p : Pointer) (cs : List Filling) → Only Sourced (fill rows p cs)
    fill_only p [] = tt
    fill_only p (c ∷ cs) =
        stored_only true acts.bytes 1 (values.address_after p.address c.offset) p.prov (nodes.content_bytes rows c.content) (fill rows p cs) (fill_only p cs)

    -- ---- the events of a node
    module _ (ty : CType) (vs : List Value) (own : Value) (good : (i : ℕ) → IsGood (value_at vs i)) (own_good : IsGood own) where
      sourced : (i : ℕ) → Sourced (value_at vs i)
      sourced i = (good i).1

      small_so : (h : Head) (kind : Kind) → is_body kind ≡ false → FillsSmall h → GivesSo IsSmall (act_of rows who h ty kind vs own)
      small_so h kind plain f = act_so rows ends who ty vs own (λ i. (good i).0) own_good.0 h kind plain f

      with_only : (h : Head) (kind : Kind) → is_body kind ≡ false → FillsSmall h → Only Sourced (act_of rows who h ty kind vs own)
          → GivesSo IsGood (act_of rows who h ty kind vs own)
      with_only h kind plain f only = both_so IsSmall Sourced (act_of rows who h ty kind vs own) (small_so h kind plain f) only

      loads : (how : Access) → GivesSo IsGood (act_of rows who (model.Load how) ty Val vs own)
      loads (access.Integer k) = with_only (model.Load (access.Integer k)) Val refl tt (int_load k ty (pointer_of (value_at vs 0)))
      loads access.Pointer = with_only (model.Load access.Pointer) Val refl tt (pointer_load ty (pointer_of (value_at vs 0)))
      loads access.Function = with_only (model.Load access.Function) Val refl tt (function_load ty (pointer_of (value_at vs 0)))
      loads (access.Whole size align) = whole_so size align who ty (pointer_of (value_at vs 0))

      value_good : (h : Head) → FillsSmall h → GivesSo IsGood (act_of rows who h ty Val vs own)
      value_good (model.Load how) f = loads how
      value_good (model.Conv c) f = with_only (model.Conv c) Val refl f (convert_only c (value_at vs 0))
      value_good (model.Un op) f = with_only (model.Un op) Val refl f (unary_only op (value_at vs 0))
      value_good (model.Bin op kind) f =
          with_only (model.Bin op kind) Val refl f
          (outcome_only (nodes.operated op kind (values.integer_of (value_at vs 0)) (values.integer_of (value_at vs 1))))
      value_good (model.PtrAdd size subtract) f =
          with_only (model.PtrAdd size subtract) Val refl f
          (shifted_only (pointer_of (value_at vs 0)) (nodes.distance size subtract (values.integer_of (value_at vs 1))))
      value_good (model.PtrDiff size) f =
          with_only (model.PtrDiff size) Val refl f (difference_only size (pointer_of (value_at vs 0)) (pointer_of (value_at vs 1)))
      value_good (model.Rel op pointers) f =
          with_only (model.Rel op pointers) Val refl f (relational_only op pointers (value_at vs 0) (value_at vs 1))
      value_good (model.Eq op) f = with_only (model.Eq op) Val refl f (equal_sourced op (value_at vs 0) (value_at vs 1))
      value_good (model.Member offset) f = with_only (model.Member offset) Val refl f (member_only offset (pointer_of (value_at vs 0)))
      value_good (model.Part offset how) f = with_only (model.Part offset how) Val refl f (part_only offset how (value_at vs 0) (sourced 0))
      value_good (model.Assign first how) f = good 1
      value_good (model.Update c old) f =
          with_only (model.Update c old) Val refl f (update_only c old ty (pointer_of (value_at vs 0)) (amount old vs))
      value_good model.Cond f =
          with_only model.Cond Val refl f (one_of (values.truth (value_at vs 0)) (value_at vs 1) (value_at vs 2) (sourced 1) (sourced 2))
      value_good model.Comma f = with_only model.Comma Val refl f (last_sourced vs sourced)
      value_good (model.Call discarded) f = with_only (model.Call discarded) Val refl f (call_only discarded own)
      value_good model.And f = with_only model.And Val refl f tt
      value_good model.Or f = with_only model.Or Val refl f tt
      value_good _ f = (tt, tt)

      effect_good : (h : Head) → FillsSmall h → GivesSo IsGood (act_of rows who h ty Eff vs own)
      effect_good (model.Assign first how) f =
          with_only (model.Assign first how) Eff refl f (put_only first how ty (pointer_of (value_at vs 0)) (value_at vs 1))
      effect_good (model.Update c old) f =
          with_only (model.Update c old) Eff refl f
          (put_only false (nodes.change_access c) ty (pointer_of (value_at vs 0)) (nodes.new_value c old own (amount old vs)))
      effect_good (model.Listed slot fillings) f =
          with_only (model.Listed slot fillings) Eff refl f (fill_only (pointer_of (value_at vs 0)) fillings)
      effect_good _ f = (tt, tt)

      act_good : (h : Head) (kind : Kind) → is_body kind ≡ false → FillsSmall h → GivesSo IsGood (act_of rows who h ty kind vs own)
      act_good h Val plain f = value_good h f
      act_good h Eff plain f = effect_good h f
      act_good h Body plain f = absurd (cc (plain))

pub placed_kept : (world : World) → KeepsSmall world → IsKept world (IsPlaced world)
placed_kept world keeps = record {
  small = λ v h. h.0;
  plain = λ v h scalar. (h, scalar_sourced world.rows v scalar);
  acts = λ who h ty kind vs own plain fills good own_good. act_good world.rows keeps.rows who ty vs own good own_good h kind plain fills;
}
