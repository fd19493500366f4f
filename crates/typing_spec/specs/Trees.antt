-- Small texts, and the trees and statements that they have (6.3, 6.5, 6.8).
use Rattle.std.specs.Prelude.{◌≡◌, true, false, pos, codes, [], ◌∷◌, Some, None}
use Rattle.c_types.specs.declared.kind.IntKind.TheVariants.{Bool as Boolean, Char, Int, Long, ULong}
use Rattle.c_types.specs.declared.kind.BinOp.TheVariants as op
use Rattle.c_types.specs.Types.{int, void, pointer, function}
use Rattle.c_typed.specs.declared.tree.Node.TheOpen as shape
use Rattle.c_typed.specs.declared.tree.Slot.TheVariants as slot
use Rattle.c_typed.specs.declared.tree.Access.TheVariants as access
use Rattle.c_typed.specs.declared.tree.Change.TheVariants as change
use Rattle.c_typed.specs.declared.tree.Conversion.TheVariants as conversion
use Rattle.c_typed.specs.declared.tree.UnOp.TheVariants as un
use Rattle.c_typed.specs.declared.tree.RelOp.TheVariants as relation
use Rattle.c_typed.specs.declared.tree.EqOp.TheVariants as equality
use Rattle.type_operands.specs.Terms.{term, none, more}
use Rattle.typing_env.specs.Seen.{expressed, compound, chooses, switches, while_loop, do_loop, for_loop, goes_to, continues, breaks, returns}
use Rattle.typing_env.specs.Seen.{labelled, case_of, by_default, nothing, else_does, no_start, start_value, start_block, section, end}
use Rattle.typing_env.specs.Seen.{statement, initializes, declares}
use Rattle.typing_words.specs.Words.{plain}
use Rattle.typing_spec.specs.Sampling.{returned, body_in, node, number, at, get, get_pointer, parameters, to_int, ints, zeros_at}

-- the trees of expressions of integers (6.3.1, 6.5), returned by a function with the parameters `int a,int b,int*p,int*q`
pub record Integers : Type 0 where
  pub decimal : returned (codes "5") ≡ Some (number 5)
  pub character : returned (codes "'a'") ≡ Some (number 97)
  pub object : returned (codes "a") ≡ Some (get 0)
  pub negated : returned (codes "-a") ≡ Some (node (shape.Un (un.Minus Int)) (int Int) ((get 0) ∷ []))
  pub complement : returned (codes "~a") ≡ Some (node (shape.Un (un.Complement Int)) (int Int) ((get 0) ∷ []))
  pub inverted : returned (codes "!a") ≡ Some (node (shape.Un un.Not) (int Int) ((get 0) ∷ []))
  pub same : returned (codes "+a") ≡ Some (get 0)
  pub times : returned (codes "a*b") ≡ Some (node (shape.Bin op.Mul Int) (int Int) ((get 0) ∷ (get 1) ∷ []))
  pub quotient : returned (codes "a/b") ≡ Some (node (shape.Bin op.Div Int) (int Int) ((get 0) ∷ (get 1) ∷ []))
  pub remainder : returned (codes "a%b") ≡ Some (node (shape.Bin op.Rem Int) (int Int) ((get 0) ∷ (get 1) ∷ []))
  pub plus : returned (codes "a+b") ≡ Some (node (shape.Bin op.Add Int) (int Int) ((get 0) ∷ (get 1) ∷ []))
  pub minus : returned (codes "a-b") ≡ Some (node (shape.Bin op.Sub Int) (int Int) ((get 0) ∷ (get 1) ∷ []))
  pub left : returned (codes "a<<b") ≡ Some (node (shape.Bin op.Shl Int) (int Int) ((get 0) ∷ (get 1) ∷ []))
  pub right : returned (codes "a>>b") ≡ Some (node (shape.Bin op.Shr Int) (int Int) ((get 0) ∷ (get 1) ∷ []))
  pub bits_and : returned (codes "a&b") ≡ Some (node (shape.Bin op.BitAnd Int) (int Int) ((get 0) ∷ (get 1) ∷ []))
  pub bits_differ : returned (codes "a^b") ≡ Some (node (shape.Bin op.BitXor Int) (int Int) ((get 0) ∷ (get 1) ∷ []))
  pub bits_or : returned (codes "a|b") ≡ Some (node (shape.Bin op.BitOr Int) (int Int) ((get 0) ∷ (get 1) ∷ []))
  pub less : returned (codes "a<b") ≡ Some (node (shape.Rel relation.Less false) (int Int) ((get 0) ∷ (get 1) ∷ []))
  pub at_least : returned (codes "a>=b") ≡ Some (node (shape.Rel relation.GreaterEq false) (int Int) ((get 0) ∷ (get 1) ∷ []))
  pub greater : returned (codes "a>b") ≡ Some (node (shape.Rel relation.Greater false) (int Int) ((get 0) ∷ (get 1) ∷ []))
  pub at_most : returned (codes "a<=b") ≡ Some (node (shape.Rel relation.LessEq false) (int Int) ((get 0) ∷ (get 1) ∷ []))
  pub equal : returned (codes "a==b") ≡ Some (node (shape.Eq equality.Equal) (int Int) ((get 0) ∷ (get 1) ∷ []))
  pub different : returned (codes "a!=b") ≡ Some (node (shape.Eq equality.NotEqual) (int Int) ((get 0) ∷ (get 1) ∷ []))
  pub both : returned (codes "a&&b") ≡ Some (node (shape.And) (int Int) ((get 0) ∷ (get 1) ∷ []))
  pub either : returned (codes "a||b") ≡ Some (node (shape.Or) (int Int) ((get 0) ∷ (get 1) ∷ []))
  pub chosen : returned (codes "a?b:3") ≡ Some (node (shape.Cond) (int Int) ((get 0) ∷ (get 1) ∷ (number 3) ∷ []))
  pub sequence : returned (codes "(a,b)") ≡ Some (node (shape.Comma) (int Int) ((get 0) ∷ (get 1) ∷ []))
  -- there and back (6.3.1.3)
  pub converted : returned (codes "(char)a")
      ≡ Some (node (shape.Conv (conversion.Integer Int)) (int Int) ((node (shape.Conv (conversion.Integer Char)) (int Char) ((get 0) ∷ [])) ∷ []))
  -- the usual arithmetic conversions (6.3.1.8)
  pub balanced : returned (codes "a+1L")
      ≡ Some (node (shape.Conv (conversion.Integer Int)) (int Int) ((node (shape.Bin op.Add Long) (int Long) ((node (shape.Conv
      (conversion.Integer Long)) (int Long) ((get 0) ∷ [])) ∷ (node (shape.Const (pos 1)) (int Long) []) ∷ [])) ∷ []))
  -- of type `size_t` (6.5.3.4p5)
  pub size : returned (codes "sizeof a")
      ≡ Some (node (shape.Conv (conversion.Integer Int)) (int Int) ((node (shape.Const (pos 4)) (int ULong) []) ∷ []))
  pub size_of_type : returned (codes "sizeof(int[3])")
      ≡ Some (node (shape.Conv (conversion.Integer Int)) (int Int) ((node (shape.Const (pos 12)) (int ULong) []) ∷ []))
  pub alignment : returned (codes "_Alignof(short)")
      ≡ Some (node (shape.Conv (conversion.Integer Int)) (int Int) ((node (shape.Const (pos 2)) (int ULong) []) ∷ []))
  pub assigned : returned (codes "a=5") ≡ Some (node (shape.Assign false (access.Integer Int)) (int Int) ((at 0 (int Int)) ∷ (number 5) ∷ []))
  pub compound : returned (codes "a+=2")
      ≡ Some (node (shape.Update (change.Integer op.Add Int Int) false) (int Int) ((at 0 (int Int)) ∷ (number 2) ∷ []))
  pub incremented : returned (codes "a++") ≡ Some (node (shape.Update (change.Integer op.Add Int Int) true) (int Int) ((at 0 (int Int)) ∷ []))
  -- as `a-=1` (6.5.3.1p2)
  pub decremented_first : returned (codes "--a")
      ≡ Some (node (shape.Update (change.Integer op.Sub Int Int) false) (int Int) ((at 0 (int Int)) ∷ (number 1) ∷ []))
  pub call : returned (codes "f(a,b,p,q)")
      ≡ Some (node (shape.Call false) (int Int) ((node (shape.Func 0) (pointer false (function (int Int) (parameters (int Int ∷ int Int ∷ to_int
      ∷ to_int ∷ [])) false)) []) ∷ (get 0) ∷ (get 1) ∷ (get_pointer 2) ∷ (get_pointer 3) ∷ []))

-- of pointers
pub record Pointers : Type 0 where
  pub pointed : returned (codes "*p") ≡ Some (node (shape.Load (access.Integer Int)) (int Int) ((get_pointer 2) ∷ []))
  -- `&` adds no node (6.5.3.2p3)
  pub address : returned (codes "&a==p") ≡ Some (node (shape.Eq equality.Equal) (int Int) ((at 0 (int Int)) ∷ (get_pointer 2) ∷ []))
  -- as `*(p+a)` (6.5.2.1p2)
  pub element : returned (codes "p[a]")
      ≡ Some (node (shape.Load (access.Integer Int)) (int Int) ((node (shape.PtrAdd 4 false) (to_int) ((get_pointer 2) ∷ (get 0) ∷ [])) ∷ []))
  pub element_other_way : returned (codes "1[p]")
      ≡ Some (node (shape.Load (access.Integer Int)) (int Int) ((node (shape.PtrAdd 4 false) (to_int) ((get_pointer 2) ∷ (number 1) ∷ [])) ∷ []))
  pub moved_back : returned (codes "*(p-1)")
      ≡ Some (node (shape.Load (access.Integer Int)) (int Int) ((node (shape.PtrAdd 4 true) (to_int) ((get_pointer 2) ∷ (number 1) ∷ [])) ∷ []))
  pub difference : returned (codes "p-q")
      ≡ Some (node (shape.Conv (conversion.Integer Int)) (int Int) ((node (shape.PtrDiff 4) (int Long) ((get_pointer 2) ∷ (get_pointer 3) ∷ []))
      ∷ []))
  pub less : returned (codes "p<q") ≡ Some (node (shape.Rel relation.Less true) (int Int) ((get_pointer 2) ∷ (get_pointer 3) ∷ []))
  -- a null pointer constant beside a pointer has its type (6.5.9p5)
  pub null : returned (codes "p==0") ≡ Some (node (shape.Eq equality.Equal) (int Int) ((get_pointer 2) ∷ (node (shape.Const (pos 0)) to_int []) ∷ []))
  pub not_null : returned (codes "!p") ≡ Some (node (shape.Un un.Not) (int Int) ((get_pointer 2) ∷ []))
  pub stepped : returned (codes "*p++")
      ≡ Some (node (shape.Load (access.Integer Int)) (int Int) ((node (shape.Update (change.Pointer 4 false) true) (to_int) ((at 2 to_int) ∷ []))
      ∷ []))
  pub moved : returned (codes "*(p+=2)")
      ≡ Some (node (shape.Load (access.Integer Int)) (int Int) ((node (shape.Update (change.Pointer 4 false) false) (to_int) ((at 2 to_int) ∷
      (number 2) ∷ [])) ∷ []))
  pub assigned : returned (codes "*(p=q)")
      ≡ Some (node (shape.Load (access.Integer Int)) (int Int) ((node (shape.Assign false access.Pointer) (to_int) ((at 2 to_int) ∷
      (get_pointer 3) ∷ [])) ∷ []))
  pub as_integer : returned (codes "(long)p")
      ≡ Some (node (shape.Conv (conversion.Integer Int)) (int Int) ((node (shape.Conv (conversion.Address Long)) (int Long) ((get_pointer 2)
      ∷ [])) ∷ []))
  pub as_truth : returned (codes "(_Bool)p")
      ≡ Some (node (shape.Conv (conversion.Integer Int)) (int Int) ((node (shape.Conv conversion.NotNull) (int Boolean) ((get_pointer 2) ∷ [])) ∷ []))
  pub from_integer : returned (codes "*(int*)8")
      ≡ Some (node (shape.Load (access.Integer Int)) (int Int) ((node (shape.Conv conversion.Lookup) (to_int) ((number 8) ∷ [])) ∷ []))
  pub as_characters : returned (codes "*(char*)p")
      ≡ Some (node (shape.Conv (conversion.Integer Int)) (int Int) ((node (shape.Load (access.Integer Char)) (int Char) ((node (shape.Conv
      (conversion.Pointer 1)) (pointer false (int Char)) ((get_pointer 2) ∷ [])) ∷ [])) ∷ []))
  -- an array is used as a pointer to its first element, without a node (6.3.2.1p3)
  pub literal : returned (codes "*\"ab\"")
      ≡ Some (node (shape.Conv (conversion.Integer Int)) (int Int) ((node (shape.Load (access.Integer Char)) (int Char) ((node (shape.Str 20)
      (pointer false (int Char)) []) ∷ [])) ∷ []))
  pub chosen : returned (codes "*(a?p:0)")
      ≡ Some (node (shape.Load (access.Integer Int)) (int Int) ((node (shape.Cond) (to_int) ((get 0) ∷ (get_pointer 2) ∷ (node (shape.Const
      (pos 0)) to_int []) ∷ [])) ∷ []))

-- the bodies of functions (6.8)
pub record Statements : Type 0 where
  pub empty : body_in (codes "void f(void){}") ≡ Some (Some (compound (section 0 [] (end))))
  pub null_statement : body_in (codes "void f(void){;}") ≡ Some (Some (compound (section 0 [] (statement (expressed None) end))))
  pub full_expression : body_in (codes "void f(void){1;}") ≡ Some (Some (compound (section 0 [] (statement (expressed (Some (number 1))) end))))
  pub inner_block : body_in (codes "void f(void){{}}") ≡ Some (Some (compound (section 0 [] (statement (compound (section 1 [] (end))) end))))
  pub branch : body_in (codes "void f(void){if(1);}")
      ≡ Some (Some (compound (section 0 [] (statement (chooses (number 1) (expressed None) nothing) end))))
  pub branches : body_in (codes "void f(void){if(1);else{}}")
      ≡ Some (Some (compound (section 0 [] (statement (chooses (number 1) (expressed None) (else_does (compound (section 1 [] (end))))) end))))
  pub while_loops : body_in (codes "void f(void){while(1)break;}")
      ≡ Some (Some (compound (section 0 [] (statement (while_loop (number 1) breaks) end))))
  pub do_loops : body_in (codes "void f(void){do continue;while(0);}")
      ≡ Some (Some (compound (section 0 [] (statement (do_loop continues (number 0)) end))))
  pub for_without : body_in (codes "void f(void){for(;;);}")
      ≡ Some (Some (compound (section 0 [] (statement (for_loop no_start None None (expressed None)) end))))
  pub for_with : body_in (codes "void f(void){for(1;2;3);}")
      ≡ Some (Some (compound (section 0 [] (statement (for_loop (start_value (number 1)) (Some (number 2)) (Some (number 3)) (expressed None)) end))))
  -- its declaration is a block (6.8.5p5)
  pub for_declares : body_in (codes "void f(void){for(int i;;);}")
      ≡ Some (Some (compound (section 0 [] (statement (for_loop (start_block (section 1 (plain (int Int) ∷ []) (declares 0 end))) None None
      (expressed None)) end))))
  pub returning : body_in (codes "void f(void){return;}") ≡ Some (Some (compound (section 0 [] (statement (returns None) end))))
  -- labels are numbered as the text names them first (own)
  pub jumps : body_in (codes "void f(void){goto b;a:;b:goto a;}")
      ≡ Some (Some (compound (section 0 [] (statement (goes_to 0) (statement (labelled 1 (expressed None)) (statement (labelled 0
      (goes_to 1)) end))))))
  -- case values in the promoted type (6.8.4.2p5)
  pub selected : body_in (codes "void f(void){switch('a'){case 2:break;default:;}}")
      ≡ Some (Some (compound (section 0 [] (statement (switches (number 97) (compound (section 1 [] (statement (case_of (pos 2) breaks) (statement
      (by_default (expressed None)) end))))) end))))
  pub declared : body_in (codes "void f(void){int x;char y;}")
      ≡ Some (Some (compound (section 0 (plain (int Int) ∷ plain (int Char) ∷ []) (declares 0 (declares 1 end)))))
  -- the initializer of an automatic object is a full expression (6.8p4)
  pub initialized : body_in (codes "void f(void){int x=5;}")
      ≡ Some (Some (compound (section 0 (plain (int Int) ∷ []) (initializes (node (shape.Assign true (access.Integer Int)) (int Int) (at 0
      (int Int) ∷ number 5 ∷ [])) end))))
  -- each listed expression is one of its own (6.7.9p23)
  pub listed : body_in (codes "void f(int a){int x[2]={a};}")
      ≡ Some (Some (compound (section 0 (plain (int Int) ∷ plain (ints 2) ∷ []) (initializes (term (shape.List (slot.Auto 0 1) (zeros_at 4 4
      ∷ [])) none void 1 (more (term (shape.Isolated tt) (more (node (shape.Assign true (access.Integer Int)) (int Int) (node
      (shape.Member 0) to_int (at 1 (ints 2) ∷ []) ∷ get 0 ∷ [])) none) void 1 none) none)) end))))
  -- what declares no automatic object adds nothing
  pub not_declared : body_in (codes "void f(void){typedef int T;struct S{T a;};extern int x;static int y;int g(void);_Static_assert(1,\"m\");}")
      ≡ Some (Some (compound (section 0 [] (end))))
  -- the parameters are the first objects of the body (6.9.1p9)
  pub parameters_first : body_in (codes "void f(int a){int b;}")
      ≡ Some (Some (compound (section 0 (plain (int Int) ∷ plain (int Int) ∷ []) (declares 1 end))))
  -- blocks in the order in which they begin (own)
  pub numbered : body_in (codes "void f(void){{}for(;;){}{}}")
      ≡ Some (Some (compound (section 0 [] (statement (compound (section 1 [] (end))) (statement (for_loop no_start None None (compound
      (section 2 [] (end)))) (statement (compound (section 3 [] (end))) end))))))
