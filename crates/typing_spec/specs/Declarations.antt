-- Small texts, and what their declarations declare (6.2, 6.7, 6.9).
use Rattle.std.specs.Prelude.{◌≡◌, true, false, codes, [], ◌∷◌, Some, None}
use Rattle.c_types.specs.declared.kind.IntKind.TheVariants.{Bool as Boolean, Char, SChar, UChar, Short, Int, UInt, ULong, LLong, ULLong}
use Rattle.c_types.specs.declared.tags.TagKind.TheVariants.{Struct}
use Rattle.c_types.specs.Types.{int, void, pointer, array, struct, enumeration, function, none, more}
use Rattle.c_typed.specs.declared.program.Content.TheVariants as content
use Rattle.c_typed.specs.declared.tree.Target.TheVariants as target
use Rattle.typing_spec.specs.Sampling.{is_known, is_typed, types_in, tags_in, statics_in, literals_in, member, parameters, to_int, ints, bytes_at}

-- declarators: what stands next to the name is derived last (6.7.6p4)
pub record Declarators : Type 0 where
  pub pointers : types_in (codes "int x,*p,**q;") ≡ Some (int Int ∷ to_int ∷ pointer false to_int ∷ [])
  pub array_of_pointers : types_in (codes "int*a[3];") ≡ Some (array false to_int (Some 3) ∷ [])
  pub pointer_to_array : types_in (codes "int(*b)[3];") ≡ Some (pointer false (ints 3) ∷ [])
  pub arrays : types_in (codes "int m[2][3];") ≡ Some (array false (ints 3) (Some 2) ∷ [])
  pub pointer_to_function : types_in (codes "int(*f)(int,char*);")
      ≡ Some (pointer false (function (int Int) (parameters (int Int ∷ pointer false (int Char) ∷ [])) false) ∷ [])
  pub pointers_to_functions : types_in (codes "int(*g[2])(void);") ≡ Some (array false (pointer false (function (int Int) none false)) (Some 2) ∷ [])
  pub function_of_function : types_in (codes "int(*(*h)(int))(char);")
      ≡ Some (pointer false (function (pointer false (function (int Int) (parameters (int Char ∷ [])) false)) (parameters (int Int ∷ [])) false) ∷ [])
  pub variadic : types_in (codes "int(*v)(int,...);") ≡ Some (pointer false (function (int Int) (parameters (int Int ∷ [])) true) ∷ [])
  -- `()` is `(void)` (own)
  pub no_parameters : types_in (codes "int(*v)();") ≡ Some (pointer false (function (int Int) none false) ∷ [])
  -- parameters of array and function type are pointers (6.7.6.3p7, 6.7.6.3p8)
  pub adjusted : types_in (codes "void(*v)(int a[3],int g(void));")
      ≡ Some (pointer false (function void (parameters (to_int ∷ pointer false (function (int Int) none false) ∷ [])) false) ∷ [])
  -- and are so in the parameters behind them
  pub adjusted_at_once : types_in (codes "void(*v)(int x[3],int(*y)[sizeof x]);")
      ≡ Some (pointer false (function void (parameters (to_int ∷ pointer false (ints 8) ∷ [])) false) ∷ [])
  pub const_object : types_in (codes "const int c=1;const int*p;int*const k=0;") ≡ Some (int Int ∷ pointer true (int Int) ∷ to_int ∷ [])
  -- of an array the elements are qualified (6.7.3p9)
  pub const_elements : types_in (codes "typedef int A[2];const A a;") ≡ Some (array true (int Int) (Some 2) ∷ [])
  -- a parameter keeps its qualifier
  pub const_parameter : types_in (codes "void(*v)(const int);") ≡ Some (pointer false (function void (more true (int Int) none) false) ∷ [])
  -- `restrict` is left out of every type (own)
  pub restricted : types_in (codes "int*restrict p;") ≡ Some (to_int ∷ [])

-- specifiers: the lists of 6.7.2p2 in any order, typedef names, structures, unions, enumerations
pub record Specifiers : Type 0 where
  pub integers : types_in (codes "long unsigned a;int long long unsigned b;short c;signed char d;")
      ≡ Some (int ULong ∷ int ULLong ∷ int Short ∷ int SChar ∷ [])
  pub further_integers : types_in (codes "_Bool e;unsigned f;char g;unsigned char h;long long i;")
      ≡ Some (int Boolean ∷ int UInt ∷ int Char ∷ int UChar ∷ int LLong ∷ [])
  pub typedef_names : types_in (codes "typedef int*P;P a,b;") ≡ Some (to_int ∷ to_int ∷ [])
  -- a typedef name may denote the same type again (6.7p3)
  pub typedef_again : types_in (codes "typedef int T;typedef int T;T x;") ≡ Some (int Int ∷ [])
  -- an inner declaration hides it (6.2.1p4)
  pub hidden_typedef : types_in (codes "typedef int T;void f(void){char T;static int y[sizeof T];}") ≡ Some (ints 1 ∷ [])
  pub structure : types_in (codes "struct S{int a;char b;}s;char z[sizeof(struct S)];") ≡ Some (struct 0 ∷ array false (int Char) (Some 8) ∷ [])
  -- members at multiples of their alignments (6.7.2.1p15, 6.7.2.1p17)
  pub padding : types_in (codes "struct S{char c;int i;char d;};char z[sizeof(struct S)];") ≡ Some (array false (int Char) (Some 12) ∷ [])
  pub union_size : types_in (codes "union U{char c[5];int i;};char z[sizeof(union U)];") ≡ Some (array false (int Char) (Some 8) ∷ [])
  -- a structure may hold a pointer to itself (6.7.2.1p3)
  pub itself : types_in (codes "struct T{struct T*next;int k;};char z[sizeof(struct T)];") ≡ Some (array false (int Char) (Some 16) ∷ [])
  -- a tag is one type before and behind its completion (6.7.2.3p4)
  pub completed_later : types_in (codes "struct S*p;struct S{int a;};struct S*q;") ≡ Some (pointer false (struct 0) ∷ pointer false (struct 0) ∷ [])
  -- an inner tag with a member list is new (6.7.2.3p4)
  pub inner_tag : types_in (codes "struct S{int a;};void f(void){struct S{char c;};static char z[sizeof(struct S)];}")
      ≡ Some (array false (int Char) (Some 1) ∷ [])
  -- `struct S;` alone declares it anew (6.7.2.3p7)
  pub tag_alone : types_in (codes "struct S{int a;};void f(void){struct S;static struct S*p;}") ≡ Some (pointer false (struct 1) ∷ [])
  -- otherwise it names the visible one (6.7.2.3p8)
  pub tag_named : types_in (codes "struct S{int a;};void f(void){static struct S*p;}") ≡ Some (pointer false (struct 0) ∷ [])
  -- a tag that a size declares is in scope behind it (6.2.1p7)
  pub tag_in_a_size : types_in (codes "char a[sizeof(struct U{int x[2];})][sizeof(struct U)];")
      ≡ Some (array false (array false (int Char) (Some 8)) (Some 8) ∷ [])
  -- an enumerator is one more than the one before it (6.7.2.2p3)
  pub enumerators : types_in (codes "enum E{A,B=5,C};int x[C];enum E e;") ≡ Some (ints 6 ∷ enumeration 0 ∷ [])
  pub enumerator_in_a_size : types_in (codes "int q[sizeof(enum{N=2})][N];") ≡ Some (array false (ints 2) (Some 4) ∷ [])
  -- the scope of an enumerator begins behind it (6.2.1p7)
  pub enumerator_behind_itself : types_in (codes "enum{A=2};void f(void){enum{A=A+1};static int x[A];}") ≡ Some (ints 3 ∷ [])
  pub sizes : types_in (codes "int v[sizeof(int[3])],w[_Alignof(long)],u[sizeof(int*)];") ≡ Some (ints 12 ∷ ints 8 ∷ ints 8 ∷ [])
  -- the operand of `sizeof` is no pointer to its first element (6.3.2.1p3)
  pub array_operand : types_in (codes "int a[5];char z[sizeof a];") ≡ Some (ints 5 ∷ array false (int Char) (Some 20) ∷ [])
  pub assertion : types_in (codes "_Static_assert(sizeof(int)==4,\"m\");int x;") ≡ Some (int Int ∷ [])
  -- an unnamed member of const type leaves its content as it is; what is reached through it is const (6.7.2.1p13)
  pub unnamed_const : tags_in (codes "struct S{const struct{int b;};int c;};") ≡ Some (
      record {
        kind = Struct;
        members = member (codes "") true (struct 1) ∷ member (codes "c") false (int Int) ∷ [];
      }
      ∷ record { kind = Struct; members = member (codes "b") false (int Int) ∷ [] } ∷ [])

-- identifiers with linkage (6.2.2), tentative definitions (6.9.2), and what is known of their types (6.2.7)
pub record Linkage : Type 0 where
  pub one_object : types_in (codes "extern int x;int x;int x;") ≡ Some (int Int ∷ [])
  pub in_a_block : types_in (codes "static int s;void f(void){extern int s;}") ≡ Some (int Int ∷ [])
  -- `static` in a block has no linkage (6.2.2p6)
  pub two_objects : types_in (codes "void f(void){static int k;{static char k;}}") ≡ Some (int Int ∷ int Char ∷ [])
  -- a tentative definition has the type of file scope (6.9.2p2)
  pub tentative : types_in (codes "int a[];void f(void){extern int a[5];}") ≡ Some (array false (int Int) None ∷ [])
  -- the composite type (6.2.7p4)
  pub in_file_scope : types_in (codes "extern int a[3];int a[]={1};") ≡ Some (ints 3 ∷ [])
  pub composite : types_in (codes "int(*p)[];int(*p)[4];") ≡ Some (pointer false (ints 4) ∷ [])
  pub by_initializer : types_in (codes "int a[]={1,2};char s[]=\"abc\";int m[][2]={{1,2},{3}};int n[]={[5]=1};")
      ≡ Some (ints 2 ∷ array false (int Char) (Some 4) ∷ array false (ints 2) (Some 2) ∷ ints 6 ∷ [])
  pub completed : types_in (codes "int a[]={1,2};extern int a[2];extern int a[];") ≡ Some (ints 2 ∷ [])
  -- an object of block scope without linkage completes no identifier with linkage that is spelled like it (6.2.2p6)
  pub without_linkage : types_in (codes "int x=1;int f(void){static char x=3;return x;}extern int x;") ≡ Some (int Int ∷ int Char ∷ [])
  -- an array that is still without size has one element (6.9.2p5)
  pub one_element : statics_in (codes "int a[];int main(void){extern int a[5];return 0;}")
      ≡ Some (record { object = record { constant = false; ty = ints 1 }; constants = [] } ∷ [])
  -- objects stand in the order of their definitions
  pub by_definition : statics_in (codes "extern int b;int*p=&b;int b=2;int main(void){return 0;}") ≡ Some (
      record {
        object = record { constant = false; ty = to_int };
        constants = record { at = 0; content = content.Address (target.Static 1) 0 } ∷ [];
      }
      ∷ record { object = record { constant = false; ty = int Int }; constants = bytes_at 0 (2 ∷ 0 ∷ 0 ∷ 0 ∷ []) ∷ [] } ∷ [])
  -- a literal in an operand that isn't evaluated is no object
  pub literals : literals_in (codes "char*p=\"a\";int main(void){sizeof \"x\";char*q=\"b\" \"c\";return 0;}")
      ≡ Some ((97 ∷ 0 ∷ []) ∷ (98 ∷ 99 ∷ 0 ∷ []) ∷ [])
  -- the parameters of the function itself are in scope in its body (6.2.1p4)
  pub own_parameters : is_known (codes "int(*f(int a))(int g(int c)){return a?f(0):0;}") ≡ true
  -- `extern void` is declared and not used
  pub later_type : is_typed (codes "extern void v;int main(void){return 0;}") ≡ true
  -- an operand that isn't evaluated uses nothing (6.9p5)
  pub unused : is_typed (codes "extern int x;int main(void){return sizeof x;}") ≡ true
  pub of_main : is_typed (codes "int main(int argc,char**argv){return argc;}") ≡ true
  pub library : is_typed (codes "int putchar(int c);int main(void){putchar(65);return 0;}") ≡ true
