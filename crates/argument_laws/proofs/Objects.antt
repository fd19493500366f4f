-- The object of a parameter takes a value of its type.
use Rattle.std.proofs.Common.{◌≡◌, ◌<◌, arith, ℕ, Bool, true, false, ◌&&◌, ◌==◌, List, length, Option, Some, None, inl, refl, sym, subst}
use Rattle.std.proofs.lemmas.Bool.Decides.{nat_tests}
use Rattle.ub_base.specs.declared.names.ObjName.{ObjName}
use Rattle.addr_map.specs.declared.map.Row.{Row}
use Rattle.addr_map.specs.Rows.{row_of}
use Rattle.c_types.specs.declared.kind.IntKind.{IntKind}
use Rattle.c_types.specs.declared.kind.IntKind.TheVariants as kinds
use Rattle.c_types.specs.declared.tags.Extent.{Extent}
use Rattle.c_types.specs.declared.tags.Tag.{Tag}
use Rattle.c_types.specs.Layout.{bytes, extent, extents}
use Rattle.c_types.specs.Same.{agrees}
use Rattle.c_types.specs.Types.{CType, void, int, enumeration, pointer, array, struct, union, function, EachMatches, Matches, Params, Qualified, SizesAgree}
use Rattle.c_types.specs.Types as types
use Rattle.c_types.proofs.SameTests.{agrees_tells}
use Rattle.c_typed.specs.declared.tree.Access.TheVariants as access
use Rattle.c_typed.specs.Lawful.{IsNoArray, IsSized, There}
use Rattle.mem_spec.specs.Acts.{base_in, has_place, suits_store}
use Rattle.mem_spec.specs.Agreement.{bytes_of_kind}
use Rattle.c_model.specs.Nodes.{overlap_inexactly}
use Rattle.c_model.specs.Values as model
use Rattle.c_model.specs.Values.{Value, Whole}
use Rattle.program_view.specs.Objects.{access_of, decl_of, extent_or_byte, form_of_type, form_where, object_extent, pointer_access}
use Rattle.value_laws.specs.Layouts.{laid_out, size_in}
use Rattle.value_laws.specs.Sizes.{HasSize}
use Rattle.argument_laws.specs.Taking.{FitsPlace, TakesArgument, bytes_by, multiple_by, sees}

-- ---- a type agrees with itself
sizes_agree : (o : Option ℕ) → SizesAgree o o
sizes_agree None = tt
sizes_agree (Some n) = refl

mutual
  matches_itself : (t : CType) → Matches true t t
  matches_itself void = tt
  matches_itself (int k) = refl
  matches_itself (enumeration tag) = tt
  matches_itself (pointer c t) = (refl, matches_itself t)
  matches_itself (array c t n) = (refl, matches_itself t, sizes_agree n)
  matches_itself (struct tag) = refl
  matches_itself (union tag) = refl
  matches_itself (function r ps v) = (matches_itself r, each_itself ps, refl)

  each_itself : (ps : Params) → EachMatches true ps ps
  each_itself types.none = tt
  each_itself (types.more c t ps) = (matches_itself t, each_itself ps)

agrees_itself : (t : CType) → agrees t t ≡ true
agrees_itself t = (agrees_tells t t).1 (inl (matches_itself t))

-- ---- how an object of the type is stored to
int_bytes : (k : IntKind) → bytes_of_kind k ≡ bytes k
int_bytes kinds.Bool = refl
int_bytes kinds.Char = refl
int_bytes kinds.SChar = refl
int_bytes kinds.UChar = refl
int_bytes kinds.Short = refl
int_bytes kinds.UShort = refl
int_bytes kinds.Int = refl
int_bytes kinds.UInt = refl
int_bytes kinds.Long = refl
int_bytes kinds.ULong = refl
int_bytes kinds.LLong = refl
int_bytes kinds.ULLong = refl

pointer_bytes : (t : CType) → bytes_by (pointer_access t) ≡ 8
pointer_bytes void = refl
pointer_bytes (int k) = refl
pointer_bytes (enumeration tag) = refl
pointer_bytes (pointer c t) = refl
pointer_bytes (array c t n) = refl
pointer_bytes (struct tag) = refl
pointer_bytes (union tag) = refl
pointer_bytes (function r ps v) = refl

pointer_multiple : (t : CType) → multiple_by (pointer_access t) ≡ 8
pointer_multiple void = refl
pointer_multiple (int k) = refl
pointer_multiple (enumeration tag) = refl
pointer_multiple (pointer c t) = refl
pointer_multiple (array c t n) = refl
pointer_multiple (struct tag) = refl
pointer_multiple (union tag) = refl
pointer_multiple (function r ps v) = refl

module _ (tags : List Tag) where
  size_is : (t : CType) → IsNoArray t → IsSized tags t → bytes_by (access_of tags t) ≡ (object_extent tags t).size
  size_is void n s = absurd s
  size_is (int k) n s = int_bytes k
  size_is (enumeration tag) n s = refl
  size_is (pointer c t) n s = pointer_bytes t
  size_is (array c t m) n s = absurd n
  size_is (struct tag) n s = refl
  size_is (union tag) n s = refl
  size_is (function r ps v) n s = absurd s

  align_is : (t : CType) → IsNoArray t → IsSized tags t → multiple_by (access_of tags t) ≡ (object_extent tags t).align
  align_is void n s = absurd s
  align_is (int k) n s = int_bytes k
  align_is (enumeration tag) n s = refl
  align_is (pointer c t) n s = pointer_multiple t
  align_is (array c t m) n s = absurd n
  align_is (struct tag) n s = refl
  align_is (union tag) n s = refl
  align_is (function r ps v) n s = absurd s

  abbrev Suits : CType → Type 0
  Suits t = suits_store (sees (access_of tags t) t) (form_where (extent (extents tags) t) (form_of_type tags t)) 0 ≡ true

  int_kind_suits : (k : IntKind) → Suits (int k)
  int_kind_suits kinds.Bool = refl
  int_kind_suits kinds.Char = refl
  int_kind_suits kinds.SChar = refl
  int_kind_suits kinds.UChar = refl
  int_kind_suits kinds.Short = refl
  int_kind_suits kinds.UShort = refl
  int_kind_suits kinds.Int = refl
  int_kind_suits kinds.UInt = refl
  int_kind_suits kinds.Long = refl
  int_kind_suits kinds.ULong = refl
  int_kind_suits kinds.LLong = refl
  int_kind_suits kinds.ULLong = refl

  pointer_suits : (c : Bool) (t : CType) → Suits (pointer c t)
  pointer_suits c void = agrees_itself (pointer c void)
  pointer_suits c (int k) = agrees_itself (pointer c (int k))
  pointer_suits c (enumeration tag) = agrees_itself (pointer c (enumeration tag))
  pointer_suits c (pointer d t) = agrees_itself (pointer c (pointer d t))
  pointer_suits c (array d t n) = agrees_itself (pointer c (array d t n))
  pointer_suits c (struct tag) = agrees_itself (pointer c (struct tag))
  pointer_suits c (union tag) = agrees_itself (pointer c (union tag))
  pointer_suits c (function r ps v) = agrees_itself (pointer c (function r ps v))

  suits_is : (t : CType) → IsNoArray t → IsSized tags t → Suits t
  suits_is void n s = absurd s
  suits_is (int k) n s = int_kind_suits k
  suits_is (enumeration tag) n s = refl
  suits_is (pointer c t) n s = pointer_suits c t
  suits_is (array c t m) n s = absurd n
  suits_is (struct tag) n s = refl
  suits_is (union tag) n s = refl
  suits_is (function r ps v) n s = absurd s

  -- ---- a structure or union fits where its source lies apart
  module _ (rows : List Row) (x : ObjName) where
    -- the source of a value overlaps no object of its size at the place of this one inexactly
    abbrev pub LiesApart : Value → Type 0
    LiesApart (Whole bs source) = (r : Row) → row_of rows x ≡ Some r → length bs ≡ r.size → overlap_inexactly (length bs) r.base source ≡ false
    LiesApart v = Unit {0}

    both : (a b : Bool) → (a && b) ≡ true → a ≡ true
    both true b h = refl
    both false b h = absurd (cc (h))

    whole_fits : (o : Option Extent) → There o (λ e. 0 < e.size) → (v : Value) → HasSize (size_in o) v → LiesApart v
        → has_place (row_of rows x) (extent_or_byte o).size (extent_or_byte o).align ≡ true
        → FitsPlace (access.Whole (extent_or_byte o).size (extent_or_byte o).align) (base_in (row_of rows x)) v
    whole_fits None s v h a placed = absurd s
    whole_fits (Some e) s (Whole bs source) h a placed = go (row_of rows x) refl placed
      where
        go : (o : Option Row) → row_of rows x ≡ o → has_place o e.size e.align ≡ true
            → (length bs ≡ e.size) × (overlap_inexactly e.size (base_in (row_of rows x)) source ≡ false)
        go None at placed = absurd (cc (placed))
        go (Some r) at placed =
            let long : r.size ≡ e.size = (let first = both (r.size == e.size) (r.align == e.align) placed in grind (arith, nat_tests, first)) in
            let exact : length bs ≡ r.size = (let k = h in omega (arith, k, long)) in (
              h,
              subst (λ (n : ℕ). overlap_inexactly n (base_in (row_of rows x)) source ≡ false) h
                  (subst (λ (z : Option Row). overlap_inexactly (length bs) (base_in z) source ≡ false) (sym at) (a r at exact)),
            )
    whole_fits (Some e) s (model.Int z) h a placed = tt
    whole_fits (Some e) s (model.Ptr b q) h a placed = tt
    whole_fits (Some e) s (model.Fun b) h a placed = tt
    whole_fits (Some e) s model.Missing h a placed = tt
    whole_fits (Some e) s model.Nothing h a placed = tt

    pointer_fits : (t : CType) (address : ℕ) (v : Value) → FitsPlace (pointer_access t) address v
    pointer_fits void a v = tt
    pointer_fits (int k) a v = tt
    pointer_fits (enumeration tag) a v = tt
    pointer_fits (pointer c t) a v = tt
    pointer_fits (array c t n) a v = tt
    pointer_fits (struct tag) a v = tt
    pointer_fits (union tag) a v = tt
    pointer_fits (function r ps v2) a v = tt

    value_fits : (t : CType) → IsNoArray t → IsSized tags t → (v : Value) → HasSize (laid_out tags t) v → LiesApart v
        → has_place (row_of rows x) (object_extent tags t).size (object_extent tags t).align ≡ true
        → FitsPlace (access_of tags t) (base_in (row_of rows x)) v
    value_fits void n s v h a placed = absurd s
    value_fits (int k) n s v h a placed = tt
    value_fits (enumeration tag) n s v h a placed = tt
    value_fits (pointer c t) n s v h a placed = pointer_fits t (base_in (row_of rows x)) v
    value_fits (array c t m) n s v h a placed = absurd n
    value_fits (struct tag) n s v h a placed = whole_fits (extent (extents tags) (struct tag)) s v h a placed
    value_fits (union tag) n s v h a placed = whole_fits (extent (extents tags) (union tag)) s v h a placed
    value_fits (function r ps v2) n s v h a placed = absurd s

    pub takes_it : (q : Qualified) → IsNoArray q.ty → IsSized tags q.ty → (v : Value) → HasSize (laid_out tags q.ty) v → LiesApart v
        → TakesArgument rows x (decl_of tags q) v
    takes_it q n s v h a = record {
      size = size_is q.ty n s;
      align = align_is q.ty n s;
      suits = suits_is q.ty n s;
      value = value_fits q.ty n s v h a;
    }
