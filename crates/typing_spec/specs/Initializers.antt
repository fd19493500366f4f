-- Initializers (6.7.9). A part of an object is named by its path: the numbers of elements and members that lead to it. A list gives items,
-- each to a part, by 6.7.9p17 to 6.7.9p20; no two items give one part (own); the bytes follow from the items
-- and from the scalars that none gives (6.7.9p10, 6.7.9p21).
use Rattle.std.specs.Prelude.{ℕ, zero, suc, ◌+◌, ◌-◌, ◌*◌, ◌/◌, ◌%◌, ◌^◌, ◌==◌, max, Bool, true, false, not, ◌&&◌, ◌||◌, if◌then◌else◌, ℤ}
use Rattle.std.specs.Prelude.{pos, unsigned_abs, List, [], ◌∷◌, ◌++◌, length, slice_get, Option, Some, None, is_some}
use Rattle.c_ast.specs.declared.declaration.Designator.{Designator}
use Rattle.c_ast.specs.declared.declaration.Designator.TheVariants as designator
use Rattle.c_ast.specs.declared.declaration.Init.{Init}
use Rattle.c_ast.specs.declared.declaration.Init.TheBlock.{Single, Braced', Row_of-InitEntry, end_of-InitEntry, more_of-InitEntry}
use Rattle.c_ast.specs.declared.expression.Expr.{Expr}
use Rattle.c_ast.specs.declared.expression.ExprNode.{ExprNode}
use Rattle.c_ast.specs.declared.declaration.Base.TheBlock.{Strings}
use Rattle.c_arith.specs.Operators.{conv}
use Rattle.c_types.specs.declared.kind.IntKind.TheVariants.{ULong}
use Rattle.c_types.specs.declared.tags.Extent.{Extent}
use Rattle.c_types.specs.declared.tags.TagKind.{TagKind}
use Rattle.c_types.specs.declared.tags.TagKind.TheVariants.{Struct, Union}
use Rattle.c_types.specs.Types.{CType, void, int, pointer, array, struct, union, Qualified, is_character_kind}
use Rattle.c_types.specs.Layout.{extent_of, align_in}
use Rattle.type_values.specs.Texts.{text_in}
use Rattle.c_typed.specs.declared.tree.Slot.{Slot}
use Rattle.c_typed.specs.declared.tree.Target.{Target}
use Rattle.c_typed.specs.declared.tree.Target.TheVariants as target
use Rattle.c_typed.specs.declared.tree.Node.TheOpen as shape
use Rattle.c_typed.specs.declared.program.Content.{Content}
use Rattle.c_typed.specs.declared.program.Content.TheVariants as content
use Rattle.c_typed.specs.declared.program.Constant.{Constant}
use Rattle.type_constants.specs.declared.constant.Folded.{Folded}
use Rattle.type_constants.specs.declared.constant.Folded.TheVariants.{Number, Address}
use Rattle.type_operands.specs.declared.operand.Form.{Form}
use Rattle.type_operands.specs.declared.operand.Form.TheVariants as form
use Rattle.type_operands.specs.Terms.{Term, Terms, term, none, more, type_at, line_at, leaf, unary, Expression}
use Rattle.type_operands.specs.Conversions.{target_of, is_scalar}
use Rattle.type_constants.specs.Constants.{worth}
use Rattle.type_conversions.specs.Assigned.{as_if_assigned}
use Rattle.type_assignments.specs.Assignments.{stored}
use Rattle.typing_env.specs.Seen.{SeenMember, SeenTag, ordered}
use Rattle.typing_words.specs.Tags.{Part, part, layouts_of, extent_in, size_of, is_complete, way_to, members_in}
use Rattle.typing_env.specs.Env.{Env, Typing, if_found, ◌>>=◌, ◌>>◌, pure, refuse, known, found, holds, Object, line_of, spelling}
use Rattle.typing_env.specs.Names.{object_named}
use Rattle.typing_words.specs.Words.{is_so, count_of}
use Rattle.typing_spec.specs.Expressions.{expr, constant, literal_at}

-- 1. Paths.

abbrev pub Path : Type 0
Path = List ℕ

abbrev pub farther : ℕ → Option Part → Option Part
farther by None = None
farther by (Some p) = Some (record p { offset = by + p.offset })

-- the part at the end of a path: its type and its offset
abbrev pub along : List SeenTag → CType → Path → Option Part
along tags t [] = Some (record { ty = t; offset = 0 })
along tags t (i ∷ path) = if_found (part tags t i) (λ p. farther p.offset (along tags p.ty path))

abbrev pub is_union : CType → Bool
is_union (union tag) = true
is_union _ = false

abbrev pub or_else : Option Path → Option Path → Option Path
or_else (Some path) other = Some path
or_else None other = other

abbrev pub behind : ℕ → Option Path → Option Path
behind i None = None
behind i (Some path) = Some (i ∷ path)

-- of a union one member alone is initialized (6.7.9p17)
abbrev pub after : List SeenTag → CType → ℕ → Option Path
after tags t i =
    if is_union t then None else if is_some (part tags t (i + 1)) then Some ((i + 1) ∷ []) else None

-- the part that comes next behind one, in the innermost aggregate that has one left (6.7.9p17, 6.7.9p20)
abbrev pub next : List SeenTag → CType → Path → Option Path
next tags t [] = None
next tags t (i ∷ path) = or_else (if_found (part tags t i) (λ p. behind i (next tags p.ty path))) (after tags t i)

-- 2. What initializes a part by itself, and what its first part (6.7.9p13, 6.7.9p14, 6.7.9p20).

pub data Wanted : Type 0 where
  text : Wanted
  whole : CType → Wanted
  scalar : Wanted

abbrev pub is_character_type : CType → Bool
is_character_type (int kind) = is_character_kind kind
is_character_type _ = false

-- an array of a character type (6.7.9p14)
abbrev pub is_text_array : CType → Bool
is_text_array (array c t n) = is_character_type t
is_text_array _ = false

-- one structure or union type
abbrev pub is_one_type : CType → CType → Bool
is_one_type (struct m) (struct n) = m == n
is_one_type (union m) (union n) = m == n
is_one_type _ _ = false

abbrev pub suits : Wanted → CType → Bool
suits wanted (int kind) = true
suits text (array c t n) = is_character_type t
suits (whole s) (struct tag) = is_one_type s (struct tag)
suits (whole s) (union tag) = is_one_type s (union tag)
suits wanted t = is_scalar t

abbrev pub first_member : (CType → Option Path) → List SeenMember → Option Path
first_member down [] = None
first_member down (m ∷ ms) = behind 0 (down (m.qual).ty)

-- down to the first part of a part that it suits
abbrev pub down_with : (ℕ → Option Path) → Wanted → CType → Option Path
down_with of_tag wanted (array c t n) = if suits wanted (array c t n) then Some [] else behind 0 (down_with of_tag wanted t)
down_with of_tag wanted (struct tag) = if suits wanted (struct tag) then Some [] else of_tag tag
down_with of_tag wanted (union tag) = if suits wanted (union tag) then Some [] else of_tag tag
down_with of_tag wanted t = if is_scalar t then Some [] else None

abbrev pub down_by : ℕ → List SeenTag → Wanted → ℕ → Option Path
down_by zero tags wanted tag = None
down_by (suc n) tags wanted tag = first_member (down_with (down_by n tags wanted) wanted) (members_in (slice_get tags tag))

abbrev pub down : List SeenTag → Wanted → CType → Option Path
down tags wanted t = down_with (down_by (length tags) tags wanted) wanted t

-- 3. Designators (6.7.9p6, 6.7.9p7).

abbrev pub one_index : List SeenTag → CType → ℤ → Option Path
one_index tags (array c t n) (pos i) = if is_some (part tags (array c t n) i) then Some (i ∷ []) else None
one_index tags _ _ = None

-- one designator, in an object of this type
unfoldable pub designated_by : Designator → CType → Typing Path
designated_by (designator.Member n) t = do
  env ← known
  found (way_to env.tags (spelling env n) t)
designated_by (designator.Element e) t = do
  z ← constant e
  env ← known
  found (one_index env.tags t z)

-- the part that a list of them describes, from the object of the surrounding braces (6.7.9p17)
unfoldable pub designated : CType → List Designator → Typing Path
designated t [] = pure []
designated t (d ∷ ds) = do
  path ← designated_by d t
  env ← known
  p ← found (along env.tags t path)
  rest ← designated p.ty ds
  pure (path ++ rest)

-- 4. Items.

-- an expression that is evaluated when the object is initialized, or what is known before
pub data Given : Type 0 where
  expressed : Expression → Given
  fixed : Content → Given

pub record Item : Type 0 where
  pub path : Path
  pub part : Part
  pub line : ℕ
  pub given : Given

-- two parts meet where one has the other inside it, or where they are in two members of one union
abbrev pub meet : List SeenTag → CType → Path → Path → Bool
meet tags t [] other = true
meet tags t (i ∷ one) [] = true
meet tags t (i ∷ one) (j ∷ other) = if i == j then is_so (λ p. meet tags p.ty one other) (part tags t i) else is_union t

-- A list gives no part twice, and of a union no two members: the profile leaves out that the later one of two initializers for one
-- part overrides the earlier one (6.7.9p19, own).
abbrev pub is_new : List SeenTag → CType → Path → List Item → Bool
is_new tags t path [] = true
is_new tags t path (x ∷ xs) = not (meet tags t path x.path) && is_new tags t path xs

abbrev pub with_items : List SeenTag → CType → List Item → List Item → Option (List Item)
with_items tags t xs [] = Some xs
with_items tags t xs (y ∷ ys) = if is_new tags t y.path xs then with_items tags t (xs ++ y ∷ []) ys else None

-- 5. What initializes an object with static storage (6.6p7 to 6.6p9, 6.7.9p4).

-- the least bytes of a number, the least first
abbrev pub low_bytes : ℕ → ℕ → List ℕ
low_bytes zero n = []
low_bytes (suc k) n = n % 256 ∷ low_bytes k (n / 256)

abbrev pub bytes_of : ℕ → ℤ → List ℕ
bytes_of size z = low_bytes size (unsigned_abs (conv ULong z))

-- of an object whose size isn't known yet an address goes as far as one likes; that it lies in the object at last is asked of the
-- whole program
abbrev pub known_extent : List SeenTag → CType → Option Extent → Option Extent
known_extent tags t (Some e) = Some e
known_extent tags (array c t n) None = Some (extent_of (2 ^ 64 - 1) (align_in (extent_in tags t)))
known_extent tags t None = Some (extent_of (2 ^ 64 - 1) 1)

abbrev pub object_extent : List SeenTag → Option Object → Option Extent
object_extent tags None = None
object_extent tags (Some o) = known_extent tags (o.qual).ty (extent_in tags (o.qual).ty)

abbrev pub literal_extent : Option (List ℕ) → Option Extent
literal_extent None = None
literal_extent (Some bytes) = Some (extent_of (length bytes) 1)

-- what an address constant names (6.6p9)
abbrev pub places : Env → Target → Option Extent
places env (target.Static name) = object_extent env.tags (object_named name env.objects)
places env (target.Literal at) = literal_extent (literal_at env at)
places env (target.Function number) = None

abbrev pub address_in : CType → Target → ℤ → Option Content
address_in (pointer c t) named (pos offset) = Some (content.Address named offset)
address_in _ named offset = None

abbrev pub content_of : ℕ → CType → Folded → Option Content
content_of size t (Number z) = Some (content.Bytes (bytes_of size z))
content_of size t (Address named offset) = address_in t named offset
content_of size t _ = None

-- the constant expression as if assigned (6.7.9p11)
unfoldable pub fixed_value : CType → Expression → Typing Given
fixed_value t e = do
  env ← known
  x ← found (as_if_assigned (layouts_of env.tags) t e)
  c ← found (content_of (size_of env.tags t) t (worth (places env) x))
  pure (fixed c)

unfoldable pub given_value : (is_static : Bool) → CType → Expression → Typing Given
given_value true t e = fixed_value t e
given_value false t e = pure (expressed e)

-- 6. Strings (6.7.9p14).

abbrev pub element_type : CType → CType
element_type (array c t n) = t
element_type t = t

-- a string gives each element of its array
abbrev pub text_items : Path → Part → ℕ → ℕ → List ℕ → List Item
text_items path p line i [] = []
text_items path p line i (byte ∷ bytes) =
    record { path = path ++ i ∷ []; part = record { ty = element_type p.ty; offset = p.offset + i }; line = line; given = fixed (content.Bytes (byte ∷ [])) }
    ∷ text_items path p line (i + 1) bytes

unfoldable pub text_given : Path → Part → ℕ → Typing (List Item)
text_given path p at = do
  env ← known
  all ← found (literal_at env at)
  bytes ← found (text_in all (count_of p.ty))
  pure (text_items path p (line_of env at) 0 bytes)

-- the first token of an expression that is string literals alone
abbrev pub string_in : ExprNode → Option ℕ
string_in (Strings n many) = Some n
string_in _ = None

-- 7. Entries.

-- the object that is initialized, whether it has static storage, and the part of the surrounding braces
pub record Around : Type 0 where
  pub root : CType
  pub is_static : Bool
  pub base : Path
  pub ty : CType

-- the items so far, and the part that comes next in the surrounding braces, if one is left
pub record Listing : Type 0 where
  pub items : List Item
  pub here : Option Path

unfoldable pub part_at : Around → Path → Typing Part
part_at a path = do
  env ← known
  found (along env.tags a.root (a.base ++ path))

-- items are added, and the list goes on behind the part
unfoldable pub added : Around → Path → List Item → List Item → Typing Listing
added a path items further = do
  env ← known
  all ← found (with_items env.tags a.root items further)
  pure (record { items = all; here = next env.tags a.ty path })

abbrev pub as_tagged : CType → Wanted
as_tagged (struct tag) = whole (struct tag)
as_tagged (union tag) = whole (union tag)
as_tagged _ = scalar

abbrev pub as_object : Option Qualified → Wanted
as_object None = scalar
as_object (Some q) = as_tagged q.ty

-- what an expression may initialize whole: the structure or union that it gives (6.7.9p13)
abbrev pub wanted_by : Form → CType → Wanted
wanted_by form.Value t = as_tagged t
wanted_by (form.Place register) t = as_object (target_of t)
wanted_by _ t = scalar

-- down from a part to the first that it suits (6.7.9p20)
unfoldable pub settled : Around → Path → Wanted → Typing Path
settled a path wanted = do
  p ← part_at a path
  env ← known
  way ← found (down env.tags wanted p.ty)
  pure (path ++ way)

unfoldable pub value_at : Around → Path → List Item → Expr → Expression → Typing Listing
value_at a path items e x = do
  p ← part_at a path
  given ← given_value a.is_static p.ty x
  env ← known
  added a path items (record { path = a.base ++ path; part = p; line = line_of env e.at; given = given } ∷ [])

unfoldable pub expressed_at : Around → Path → List Item → Expr → Typing Listing
expressed_at a path items e = do
  x ← expr e
  to ← settled a path (wanted_by x.form (type_at x.tree))
  value_at a to items e x

-- a string gives the whole array, so nothing of it was given before (6.7.9p19, own)
unfoldable pub text_at : Around → Path → List Item → ℕ → Part → Typing Listing
text_at a path items at p = do
  env ← known
  holds (is_new env.tags a.root (a.base ++ path) items)
  further ← text_given (a.base ++ path) p at
  added a path items further

-- a string gives an array of characters, or a pointer
unfoldable pub string_at : Around → Path → List Item → Expr → ℕ → Typing Listing
string_at a path items e at = do
  to ← settled a path text
  p ← part_at a to
  if is_text_array p.ty then text_at a to items at p else (do x ← expr e; value_at a to items e x)

abbrev pub single_by : Around → Path → List Item → Expr → Option ℕ → Typing Listing
single_by a path items e (Some at) = string_at a path items e at
single_by a path items e None = expressed_at a path items e

-- an expression without braces
abbrev pub single : Around → Path → List Item → Expr → Typing Listing
single a path items e = single_by a path items e (string_in e.node)

-- where an entry begins: at the part that its designators describe, or at the one that comes next (6.7.9p17); no more entries than
-- parts (6.7.9p2)
unfoldable pub begun : Around → Option Path → List Designator → Typing Path
begun a here [] = found here
begun a here (d ∷ ds) = designated a.ty (d ∷ ds)

-- the one expression in braces
abbrev pub single_in : Init → Option Expr
single_in (Single e) = Some e
single_in (Braced' at p entries) = None

abbrev pub if_last : {n : _} → Row_of-InitEntry n → Option Expr → Option Expr
if_last end_of-InitEntry e = e
if_last (more_of-InitEntry ds i rest) e = None

abbrev pub lone : {n : _} → Row_of-InitEntry n → Option Expr
lone end_of-InitEntry = None
lone (more_of-InitEntry [] i rest) = if_last rest (single_in i)
lone (more_of-InitEntry (d ∷ ds) i rest) = None

abbrev pub lone_string : Option Expr → Option ℕ
lone_string None = None
lone_string (Some e) = string_in e.node

-- what stands in braces for a part: the one expression of a scalar (6.7.9p11), the one string of an array of characters (6.7.9p14), or
-- a list of its own for its parts (6.7.9p16)
pub data Inside : Type 0 where
  an_expression : Expr → Inside
  a_string : ℕ → Inside
  a_list : Inside
  nothing : Inside

abbrev pub scalar_inside : Option Expr → Inside
scalar_inside None = nothing
scalar_inside (Some e) = an_expression e

abbrev pub array_inside : Option ℕ → Inside
array_inside None = a_list
array_inside (Some at) = a_string at

abbrev pub inside : CType → Option Expr → Inside
inside t e = if is_scalar t then scalar_inside e else if is_text_array t then array_inside (lone_string e) else a_list

abbrev pub within : Around → Path → CType → Around
within a path t = record a { base = a.base ++ path; ty = t }

-- at the first part of the object of a list
abbrev pub afresh : List Item → Listing
afresh items = record { items = items; here = Some (0 ∷ []) }

-- what stands in braces for a part, where a list of its own says `list`; it gives the whole part, so nothing of it was given before
-- (6.7.9p19, own)
abbrev pub braced : Around → Path → List Item → Part → Inside → Typing Listing → Typing Listing
braced a path items p (an_expression e) list = single a path items e
braced a path items p (a_string at) list = text_at a path items at p
braced a path items p nothing list = refuse
braced a path items p a_list list = do
  env ← known
  holds (is_new env.tags a.root (a.base ++ path) items)
  l ← list
  pure (record { items = l.items; here = next env.tags a.ty path })

unfoldable mutual
  -- the entries of a list, in the order of the text
  pub listed : {n : _} → Around → Listing → Row_of-InitEntry n → Typing Listing
  listed a l end_of-InitEntry = pure l
  listed a l (more_of-InitEntry ds i rest) = do
    path ← begun a l.here ds
    m ← entry a path l.items i
    listed a m rest

  pub entry : Around → Path → List Item → Init → Typing Listing
  entry a path items (Single e) = single a path items e
  entry a path items (Braced' at l entries) = do
    p ← part_at a path
    braced a path items p (inside p.ty (lone entries)) (listed (within a path p.ty) (afresh items) entries)

-- 8. Objects.

-- an expression for the whole object, or items for its parts; and the line of the expression, or of the string or `{`
pub data Initial : Type 0 where
  by_expression : Given → (line : ℕ) → Initial
  by_items : List Item → (line : ℕ) → Initial

unfoldable pub whole_value : (is_static : Bool) → CType → Expr → Typing Initial
whole_value is_static t e = do
  x ← expr e
  given ← given_value is_static t x
  env ← known
  pure (by_expression given (line_of env e.at))

unfoldable pub whole_text : CType → ℕ → Typing Initial
whole_text t at = do
  items ← text_given [] (record { ty = t; offset = 0 }) at
  env ← known
  pure (by_items items (line_of env at))

abbrev pub around : (is_static : Bool) → CType → Around
around is_static t = record { root = t; is_static = is_static; base = []; ty = t }

unfoldable pub whole_list : {n : _} → (is_static : Bool) → CType → ℕ → Row_of-InitEntry n → Typing Initial
whole_list is_static t at entries = do
  l ← listed (around is_static t) (afresh []) entries
  env ← known
  pure (by_items l.items (line_of env at))

-- without braces: of an array only a string, for characters (6.7.9p11, 6.7.9p13, 6.7.9p14)
abbrev pub unbraced : (is_static : Bool) → CType → Expr → Option ℕ → Typing Initial
unbraced is_static (array c t n) e (Some at) = if is_character_type t then whole_text (array c t n) at else refuse
unbraced is_static (array c t n) e None = refuse
unbraced is_static t e string = whole_value is_static t e

abbrev pub in_braces : {n : _} → (is_static : Bool) → CType → ℕ → Row_of-InitEntry n → Inside → Typing Initial
in_braces is_static t at entries (an_expression e) = whole_value is_static t e
in_braces is_static t at entries (a_string string) = whole_text t string
in_braces is_static t at entries a_list = whole_list is_static t at entries
in_braces is_static t at entries nothing = refuse

unfoldable pub given_to : (is_static : Bool) → CType → Init → Typing Initial
given_to is_static t (Single e) = unbraced is_static t e (string_in e.node)
given_to is_static t (Braced' at l entries) = in_braces is_static t at entries (inside t (lone entries))

abbrev pub head_count : Path → ℕ
head_count [] = 0
head_count (i ∷ path) = i + 1

abbrev pub reached : List Item → ℕ
reached [] = 0
reached (x ∷ xs) = max (head_count x.path) (reached xs)

-- an array of unknown size has as many elements as its initializer reaches (6.7.9p22)
abbrev pub sized : CType → Initial → CType
sized (array c t None) (by_items items line) = array c t (Some (reached items))
sized t i = t

-- an object with its initializer: its type, which is complete then (6.7p7)
pub record Initialized : Type 0 where
  pub initial : Initial
  pub qual : Qualified

unfoldable pub initialized : (is_static : Bool) → Qualified → Init → Typing Initialized
initialized is_static q i = do
  initial ← given_to is_static q.ty i
  env ← known
  holds (is_complete env.tags (sized q.ty initial))
  pure (record { initial = initial; qual = record { constant = q.constant; ty = sized q.ty initial } })

-- 9. The scalars that no item gives, which are zero (6.7.9p19, 6.7.9p21); of a union those of the member that is initialized, otherwise
-- of the first (6.7.9p10). Padding isn't written (own).

pub record Leaf : Type 0 where
  pub path : Path
  pub part : Part

abbrev pub number_behind : Path → Path → Option ℕ
number_behind [] [] = None
number_behind [] (j ∷ path) = Some j
number_behind (i ∷ front) [] = None
number_behind (i ∷ front) (j ∷ path) = if i == j then number_behind front path else None

abbrev pub or_number : Option ℕ → ℕ → ℕ
or_number None n = n
or_number (Some m) n = m

-- the member of a union in which the items are, one alone
abbrev pub chosen : Path → List Item → ℕ
chosen path [] = 0
chosen path (x ∷ xs) = or_number (number_behind path x.path) (chosen path xs)

abbrev pub elements : ℕ → (ℕ → List Leaf) → List Leaf
elements zero of = []
elements (suc n) of = elements n of ++ of n

abbrev pub leaf_of : Path → ℕ → CType → List Leaf
leaf_of path at t = record { path = path; part = record { ty = t; offset = at } } ∷ []

abbrev pub leaves_with : (ℕ → Path → ℕ → List Leaf) → List SeenTag → CType → Path → ℕ → List Leaf
leaves_with of_tag tags (array c t (Some n)) path at = elements n (λ i. leaves_with of_tag tags t (path ++ i ∷ []) (at + i * size_of tags t))
leaves_with of_tag tags (struct tag) path at = of_tag tag path at
leaves_with of_tag tags (union tag) path at = of_tag tag path at
leaves_with of_tag tags t path at = if is_scalar t then leaf_of path at t else []

abbrev pub leaves_in : (CType → Path → ℕ → List Leaf) → Path → ℕ → ℕ → Option Part → List Leaf
leaves_in leaves path at i None = []
leaves_in leaves path at i (Some p) = leaves p.ty (path ++ i ∷ []) (at + p.offset)

abbrev pub leaves_of_members : (CType → Path → ℕ → List Leaf) → List SeenTag → ℕ → Path → ℕ → ℕ → List SeenMember → List Leaf
leaves_of_members leaves tags tag path at i [] = []
leaves_of_members leaves tags tag path at i (m ∷ ms) =
    leaves_in leaves path at i (part tags (struct tag) i) ++ leaves_of_members leaves tags tag path at (i + 1) ms

abbrev pub leaves_of_kind : TagKind → (CType → Path → ℕ → List Leaf) → List SeenTag → List Item → ℕ → Path → ℕ → List SeenMember → List Leaf
leaves_of_kind Struct leaves tags items tag path at ms = leaves_of_members leaves tags tag path at 0 ms
leaves_of_kind Union leaves tags items tag path at ms = leaves_in leaves path at (chosen path items) (part tags (union tag) (chosen path items))

abbrev pub leaves_of_tag : (CType → Path → ℕ → List Leaf) → List SeenTag → List Item → ℕ → Path → ℕ → Option SeenTag → List Leaf
leaves_of_tag leaves tags items tag path at None = []
leaves_of_tag leaves tags items tag path at (Some t) = leaves_of_kind t.kind leaves tags items tag path at t.members

abbrev pub leaves_by : ℕ → List Item → List SeenTag → ℕ → Path → ℕ → List Leaf
leaves_by zero items tags tag path at = []
leaves_by (suc n) items tags tag path at = leaves_of_tag (leaves_with (leaves_by n items tags) tags) tags items tag path at (slice_get tags tag)

abbrev pub leaves : List Item → List SeenTag → CType → List Leaf
leaves items tags t = leaves_with (leaves_by (length tags) items tags) tags t [] 0

abbrev pub begins_with : Path → Path → Bool
begins_with [] path = true
begins_with (i ∷ front) [] = false
begins_with (i ∷ front) (j ∷ path) = (i == j) && begins_with front path

-- it stands in a part that an item gives
abbrev pub is_given : List Item → Path → Bool
is_given [] path = false
is_given (x ∷ xs) path = begins_with x.path path || is_given xs path

abbrev pub zero_at : List SeenTag → Leaf → Constant
zero_at tags l = record { at = (l.part).offset; content = content.Zeros (size_of tags (l.part).ty) }

abbrev pub zeros_of : List SeenTag → List Item → List Leaf → List Constant
zeros_of tags items [] = []
zeros_of tags items (l ∷ ls) = if is_given items l.path then zeros_of tags items ls else zero_at tags l ∷ zeros_of tags items ls

-- 10. Trees and constants.

abbrev pub constant_of : Item → Given → List Constant
constant_of x (fixed c) = record { at = (x.part).offset; content = c } ∷ []
constant_of x (expressed e) = []

abbrev pub constants_of : List Item → List Constant
constants_of [] = []
constants_of (x ∷ xs) = constant_of x x.given ++ constants_of xs

abbrev pub object_at : Slot → Qualified → ℕ → Term
object_at slot q line = leaf (shape.Obj slot) (pointer q.constant q.ty) line

-- a listed expression: a full expression of its own that stores it in its part (6.7.9p23)
abbrev pub isolated_in : Term → Term
isolated_in t = term (shape.Isolated tt) (more t none) void (line_at t) none

abbrev pub place_in : Slot → Qualified → Item → Term
place_in slot q x = unary (shape.Member (x.part).offset) (pointer false (x.part).ty) x.line (object_at slot q x.line)

abbrev pub before : Option Term → Option Terms → Option Terms
before (Some t) (Some ts) = Some (more (isolated_in t) ts)
before _ _ = None

abbrev pub isolated_by : List SeenTag → Slot → Qualified → Item → Given → Option Terms → Option Terms
isolated_by tags slot q x (fixed c) ts = ts
isolated_by tags slot q x (expressed e) ts = before (stored (layouts_of tags) true (place_in slot q x) (x.part).ty e x.line) ts

abbrev pub isolated : List SeenTag → Slot → Qualified → List Item → Option Terms
isolated tags slot q [] = Some none
isolated tags slot q (x ∷ xs) = isolated_by tags slot q x x.given (isolated tags slot q xs)

abbrev pub list_bytes : List SeenTag → CType → List Item → List Constant
list_bytes tags t items = ordered (constants_of items ++ zeros_of tags items (leaves items tags t))

abbrev pub list_of : List SeenTag → Slot → Qualified → List Item → ℕ → Terms → Term
list_of tags slot q items line ts = term (shape.List slot (list_bytes tags q.ty items)) none void line ts

-- the tree of an automatic object's initializer (6.7.9p11, 6.7.9p23)
abbrev pub tree_of_value : List SeenTag → Slot → Qualified → ℕ → Given → Option Term
tree_of_value tags slot q line (expressed e) = stored (layouts_of tags) true (object_at slot q line) q.ty e line
tree_of_value tags slot q line (fixed c) = None

abbrev pub tree_by : List SeenTag → Slot → Qualified → Initial → Option Term
tree_by tags slot q (by_expression given line) = tree_of_value tags slot q line given
tree_by tags slot q (by_items items line) = if_found (isolated tags slot q items) (λ ts. Some (list_of tags slot q items line ts))

unfoldable pub automatic : Slot → Initialized → Typing Term
automatic slot i = do
  env ← known
  found (tree_by env.tags slot i.qual i.initial)

abbrev pub constant_value : Given → List Constant
constant_value (fixed c) = record { at = 0; content = c } ∷ []
constant_value (expressed e) = []

-- the constants of an object with static storage (6.7.9p4)
abbrev pub static_constants : Initial → List Constant
static_constants (by_expression given line) = constant_value given
static_constants (by_items items line) = ordered (constants_of items)
