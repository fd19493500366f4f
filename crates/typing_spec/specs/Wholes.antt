-- Small texts in which members are reached, and whole structures are loaded and stored (6.5.2.3, 6.5.16.1, 6.7.9p13).
use Rattle.std.specs.Prelude.{◌≡◌, ℕ, Bool, true, false, pos, codes, List, [], ◌∷◌, ◌++◌, Option, Some}
use Rattle.c_types.specs.declared.kind.IntKind.TheVariants.{Char, Int, Long, ULong}
use Rattle.c_types.specs.declared.kind.BinOp.TheVariants as op
use Rattle.c_types.specs.Types.{CType, int, void, pointer, struct, union, function}
use Rattle.c_typed.specs.declared.tree.Node.TheOpen as shape
use Rattle.c_typed.specs.declared.tree.Slot.TheVariants as slot
use Rattle.c_typed.specs.declared.tree.Access.TheVariants as access
use Rattle.c_typed.specs.declared.tree.Target.TheVariants as target
use Rattle.c_typed.specs.declared.tree.Change.TheVariants as change
use Rattle.c_typed.specs.declared.tree.Conversion.TheVariants as conversion
use Rattle.c_typed.specs.declared.tree.EqOp.TheVariants as equality
use Rattle.c_typed.specs.declared.program.Content.TheVariants as content
use Rattle.type_operands.specs.Terms.{Term, term, none, more}
use Rattle.typing_env.specs.Env.{if_found}
use Rattle.typing_env.specs.Seen.{compound, section, end, statement, expressed, initializes}
use Rattle.typing_words.specs.Words.{plain}
use Rattle.typing_spec.specs.Sampling.{returned_by, body_in, given_in, is_broken, node, number, at, get, parameters, to_int, bytes_at}

-- the tree of the expression that the function declared first returns
abbrev pub returned_in : List ℕ → Option Term
returned_in text = if_found (body_in text) returned_by

-- a function that returns this expression, where `struct S` has 16 bytes: `c` at 0, `i` at 4, `v` at 8
abbrev pub with_structure : List ℕ → List ℕ
with_structure e = codes "struct S{char c;int i;int v[2];};int f(struct S s,struct S*p,struct S*q,int a){return " ++ e ++ codes ";}"

abbrev pub reached : List ℕ → Option Term
reached e = returned_in (with_structure e)

abbrev pub is_unreached : List ℕ → Bool
is_unreached e = is_broken (with_structure e)

abbrev pub whole : CType
whole = struct 0

abbrev pub to_whole : CType
to_whole = pointer false whole

-- the places of the first parameter, a structure, and of a member of it, and the value of the second, a pointer to one
abbrev pub of_first : Term
of_first = at 0 whole

abbrev pub at_pointer : ℕ → Term
at_pointer n = node (shape.Load access.Pointer) to_whole (at n to_whole ∷ [])

abbrev pub member_at : ℕ → CType → Term → Term
member_at offset t place = node (shape.Member offset) t (place ∷ [])

abbrev pub load_int : Term → Term
load_int place = node (shape.Load (access.Integer Int)) (int Int) (place ∷ [])

abbrev pub as_int : Term → Term
as_int t = node (shape.Conv (conversion.Integer Int)) (int Int) (t ∷ [])

-- all bytes of a structure of this number, with this extent
abbrev pub load_whole : ℕ → ℕ → ℕ → Term → Term
load_whole tag size align place = node (shape.Load (access.Whole size align)) (struct tag) (place ∷ [])

-- members of objects and of values (6.5.2.3)
pub record Reached : Type 0 where
  pub member : reached (codes "s.i") ≡ Some (load_int (member_at 4 to_int of_first))
  pub first_member : reached (codes "s.c")
      ≡ Some (as_int (node (shape.Load (access.Integer Char)) (int Char) (member_at 0 (pointer false (int Char)) of_first ∷ [])))
  pub behind_pointer : reached (codes "p->i") ≡ Some (load_int (member_at 4 to_int (at_pointer 1)))
  -- `p->i` is `(*p).i`, and `(&s)->i` is `s.i` (6.5.2.3p4, footnote)
  pub of_target : reached (codes "(*p).i") ≡ Some (load_int (member_at 4 to_int (at_pointer 1)))
  pub of_address : reached (codes "(&s)->i") ≡ Some (load_int (member_at 4 to_int of_first))
  -- an array member is used as a pointer to its first element (6.3.2.1p3)
  pub element : reached (codes "s.v[1]")
      ≡ Some (load_int (node (shape.PtrAdd 4 false) to_int (member_at 8 to_int of_first ∷ number 1 ∷ [])))
  pub first_element : reached (codes "*p->v") ≡ Some (load_int (member_at 8 to_int (at_pointer 1)))
  pub of_element : reached (codes "p[1].i")
      ≡ Some (load_int (member_at 4 to_int (node (shape.PtrAdd 16 false) to_whole (at_pointer 1 ∷ number 1 ∷ []))))
  pub address : reached (codes "*&s.i") ≡ Some (load_int (member_at 4 to_int of_first))
  pub assigned : reached (codes "s.i=a")
      ≡ Some (node (shape.Assign false (access.Integer Int)) (int Int) (member_at 4 to_int of_first ∷ get 3 ∷ []))
  pub changed : reached (codes "p->i+=2")
      ≡ Some (node (shape.Update (change.Integer op.Add Int Int) false) (int Int) (member_at 4 to_int (at_pointer 1) ∷ number 2 ∷ []))
  pub stepped : reached (codes "s.v[0]++")
      ≡ Some (node (shape.Update (change.Integer op.Add Int Int) true) (int Int) (node (shape.PtrAdd 4 false) to_int (member_at 8 to_int of_first ∷
      number 0 ∷ []) ∷ []))
  -- a member of what is no lvalue is a part of the value
  pub of_assigned : reached (codes "(s=*p).i")
      ≡ Some (node (shape.Part 4 (access.Integer Int)) (int Int) (node (shape.Assign false (access.Whole 16 4)) whole (of_first ∷ load_whole 0 16 4
      (at_pointer 1) ∷ []) ∷ []))
  pub of_chosen : reached (codes "(a?s:*q).i")
      ≡ Some (node (shape.Part 4 (access.Integer Int)) (int Int) (node shape.Cond whole (get 3 ∷ load_whole 0 16 4 of_first ∷ load_whole 0 16 4
      (at_pointer 2) ∷ []) ∷ []))
  pub of_result : returned_in (codes "struct S{int a,b;};int f(struct S g(void)){return g().b;}")
      ≡ Some (node (shape.Part 4 (access.Integer Int)) (int Int) (node (shape.Call false) whole (node (shape.Load access.Function) (pointer false
      (function whole (parameters []) false)) (at 0 (pointer false (function whole (parameters []) false)) ∷ []) ∷ []) ∷ []))
  pub argument : reached (codes "f(s,p,q,a)")
      ≡ Some (node (shape.Call false) (int Int) (node (shape.Func 0) (pointer false (function (int Int) (parameters (whole ∷ to_whole ∷ to_whole ∷
      int Int ∷ [])) false)) [] ∷ load_whole 0 16 4 of_first ∷ at_pointer 1 ∷ at_pointer 2 ∷ get 3 ∷ []))
  pub size : reached (codes "sizeof s+sizeof s.v==24")
      ≡ Some (node (shape.Eq equality.Equal) (int Int) (node (shape.Bin op.Add ULong) (int ULong) (node (shape.Const (pos 16)) (int ULong) [] ∷
      node (shape.Const (pos 8)) (int ULong) [] ∷ []) ∷ node (shape.Conv (conversion.Integer ULong)) (int ULong) (number 24 ∷ []) ∷ []))
  pub difference : reached (codes "p-q")
      ≡ Some (as_int (node (shape.PtrDiff 16) (int Long) (at_pointer 1 ∷ at_pointer 2 ∷ [])))
  -- a structure in a structure: `t` at 8, and `l` at 8 in it
  pub nested : returned_in (codes "struct S{int a;struct T{char c;long l;}t;};int f(struct S s){return s.t.l;}")
      ≡ Some (as_int (node (shape.Load (access.Integer Long)) (int Long) (member_at 8 (pointer false (int Long)) (member_at 8 (pointer false
      (struct 1)) of_first) ∷ [])))
  -- a member of an unnamed union is one of the structure round it (6.7.2.1p13)
  pub unnamed : returned_in (codes "struct S{int a;union{int u;char c;};};int f(struct S*p){return p->u;}")
      ≡ Some (load_int (member_at 4 to_int (at_pointer 0)))
  pub of_union : returned_in (codes "union U{int i;char c[4];};int f(union U u){return u.i;}")
      ≡ Some (load_int (member_at 0 to_int (at 0 (union 0))))
  -- a member of a const object is const (6.5.2.3p3)
  pub of_const : returned_in (codes "struct S{int a,b;};int f(const struct S*p){return p->b;}")
      ≡ Some (load_int (member_at 4 (pointer true (int Int)) (node (shape.Load access.Pointer) (pointer true whole) (at 0 (pointer true whole) ∷
      []))))
  pub of_array_member : returned_in (codes "struct S{int x,y;};struct B{struct S s[2];};int f(struct B*b){return b->s[1].y;}")
      ≡ Some (load_int (member_at 4 to_int (node (shape.PtrAdd 8 false) to_whole (member_at 0 to_whole (node (shape.Load access.Pointer)
      (pointer false (struct 1)) (at 0 (pointer false (struct 1)) ∷ [])) ∷ number 1 ∷ []))))

-- whole structures
pub record Stored : Type 0 where
  pub returned : returned_in (codes "struct S{int a,b;};struct S f(struct S*p){return *p;}") ≡ Some (load_whole 0 8 4 (at_pointer 0))
  pub assigned : body_in (codes "struct S{int a,b;};void f(struct S s,struct S*p){*p=s;}")
      ≡ Some (Some (compound (section 0 (plain whole ∷ plain to_whole ∷ []) (statement (expressed (Some (node (shape.Assign false (access.Whole 8 4))
      whole (at_pointer 1 ∷ load_whole 0 8 4 of_first ∷ [])))) end))))
  -- a single expression of its type initializes a structure (6.7.9p13)
  pub initialized : body_in (codes "struct S{int a,b;};void f(struct S s){struct S t=s;}")
      ≡ Some (Some (compound (section 0 (plain whole ∷ plain whole ∷ []) (initializes (node (shape.Assign true (access.Whole 8 4)) whole (at 1 whole ∷
      load_whole 0 8 4 of_first ∷ [])) end))))
  -- in a list too
  pub listed : body_in (codes "struct S{int a,b;};void f(struct S s){struct B{int k;struct S s;}b={1,s};}")
      ≡ Some (Some (compound (section 0 (plain whole ∷ plain (struct 1) ∷ []) (initializes (term (shape.List (slot.Auto 0 1) []) none void 1 (more
      (term (shape.Isolated tt) (more (node (shape.Assign true (access.Integer Int)) (int Int) (member_at 0 to_int (at 1 (struct 1)) ∷ number 1 ∷ []))
      none) void 1 none) (more (term (shape.Isolated tt) (more (node (shape.Assign true (access.Whole 8 4)) whole (member_at 4 to_whole (at 1
      (struct 1)) ∷ load_whole 0 8 4 of_first ∷ [])) none) void 1 none) none))) end))))
  -- the address of a member of an object with static storage (6.6p9): `t` is token 22, and `t.s.b` stands at 12
  pub member_address : given_in (codes "struct S{int a,b;};struct T{int*p;struct S s;}t={&t.s.b,{1,2}};")
      ≡ Some (record { at = 0; content = content.Address (target.Static 22) 12 } ∷ bytes_at 8 (1 ∷ 0 ∷ 0 ∷ 0 ∷ 2 ∷ 0 ∷ 0 ∷ 0 ∷ []) ∷ [])

-- what breaks a constraint on members or whole structures
pub record Unreached : Type 0 where
  pub no_such_member : is_unreached (codes "s.x") ≡ true
  pub no_such_behind_pointer : is_unreached (codes "p->x") ≡ true
  pub dot_of_pointer : is_unreached (codes "p.i") ≡ true
  pub arrow_of_structure : is_unreached (codes "s->i") ≡ true
  -- an array of what is no lvalue (own)
  pub array_of_value : is_unreached (codes "(s=*p).v[0]") ≡ true
  pub part_assigned : is_unreached (codes "(s=*p).i=1") ≡ true
  pub integer_assigned : is_unreached (codes "(s=1).i") ≡ true
  pub tested : is_unreached (codes "!s") ≡ true
  pub added : is_unreached (codes "s+1") ≡ true
  pub as_argument : is_unreached (codes "f(*p,s,q,a)") ≡ true
  pub as_result : is_unreached (codes "s") ≡ true
  -- const by the structure, and by a member of it (6.3.2.1p1)
  pub const_member : is_broken (codes "struct S{const int a;int b;};int f(struct S*p){return p->a=1;}") ≡ true
  pub const_inside : is_broken (codes "struct S{const int a;int b;};void f(struct S*p,struct S*q){*p=*q;}") ≡ true
  pub of_incomplete : is_broken (codes "struct S;int f(struct S*p){return p->a;}") ≡ true
  pub other_structure : is_broken (codes "struct S{int a;};struct T{int a;};void f(struct S s,struct T t){s=t;}") ≡ true
