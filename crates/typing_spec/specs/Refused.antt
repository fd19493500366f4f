-- Small texts that have no program, since they break one constraint or rule; each with its paragraph.
use Rattle.std.specs.Prelude.{◌≡◌, true, codes}
use Rattle.typing_spec.specs.Sampling.{is_broken, has_no_program, is_refused}

-- declarations that keep all constraints but one, whose paragraph stands in front
pub record RefusedDeclarations : Type 0 where
  -- internal at file scope, and external in a block that hides it (6.2.2p7)
  pub linkage_twice : is_broken (codes "static int x;void f(void){int x;{extern int x;}}") ≡ true
  -- external first (6.2.2p7)
  pub static_behind : is_broken (codes "int x;static int x;") ≡ true
  -- each two declarations have compatible types (6.2.7p2)
  pub enumerations : is_broken (codes "extern int x;extern enum A{P}x;extern enum B{Q}x;") ≡ true
  pub other_type : is_broken (codes "int x;char x;") ≡ true
  -- an initializer completes the type of the identifier (6.7.9p22)
  pub completed_type : is_broken (codes "int a[]={1,2};extern int a[3];") ≡ true
  pub other_function : is_broken (codes "char*f(void);int*f(void);") ≡ true
  pub object_and_function : is_broken (codes "int x;int x(void);") ≡ true
  -- a tentative definition with internal linkage has a complete type (6.9.2p3)
  pub internal_array : is_broken (codes "static int a[];static int a[3];") ≡ true
  -- an array of one element that is used as one of five (6.9.2p5, own)
  pub size_in_a_block : has_no_program (codes "int a[];int main(void){extern int a[5];a[4]=1;return a[4];}") ≡ true
  -- what is used is defined (6.9p5)
  pub undefined : has_no_program (codes "extern int x;int main(void){return x;}") ≡ true
  pub function_undefined : has_no_program (codes "int f(void);int main(void){return f();}") ≡ true
  -- one definition (6.9p5)
  pub twice : is_broken (codes "int x=1;int x=2;") ≡ true
  pub function_twice : is_broken (codes "int f(void){return 0;}int f(void){return 0;}") ≡ true
  pub library_defined : is_broken (codes "int abs(int);void*malloc(unsigned long n){return 0;}") ≡ true
  -- the library's functions are declared compatibly (7.1.4p2)
  pub library_type : is_broken (codes "int malloc(int);") ≡ true
  -- 5.1.2.2.1p1
  pub no_main : has_no_program (codes "int f(void){return 0;}") ≡ true
  pub void_main : is_broken (codes "void main(void){}") ≡ true
  -- 6.7p3
  pub two_in_a_scope : is_broken (codes "void f(void){int x;int x;}") ≡ true
  pub parameter_again : is_broken (codes "void f(int a){int a;}") ≡ true
  pub typedef_changed : is_broken (codes "typedef int T;typedef long T;") ≡ true
  -- 6.7p2
  pub nothing_declared : is_broken (codes "int;") ≡ true
  -- 6.7.1p2
  pub two_classes : is_broken (codes "static extern int x;") ≡ true
  -- 6.9p2
  pub file_register : is_broken (codes "register int x;") ≡ true
  -- 6.7.6.3p2
  pub parameter_class : is_broken (codes "int f(static int a);") ≡ true
  -- 6.7.1p7
  pub static_function : is_broken (codes "void f(void){static int g(void);}") ≡ true
  -- 6.7.2p2
  pub words : is_broken (codes "short long x;") ≡ true
  -- 6.7.3p2
  pub restrict_alone : is_broken (codes "int restrict x;") ≡ true
  -- function specifiers stand in declarations of functions, and in none of `main` (6.7.4p2, 6.7.4p4)
  pub no_function : is_broken (codes "void f(void){typedef inline int F(void);}") ≡ true
  pub inline_tag : is_broken (codes "inline struct S{int a;};") ≡ true
  pub inline_parameter : is_broken (codes "int f(inline void);") ≡ true
  pub inline_main : is_broken (codes "void f(void){inline int main(void);}") ≡ true
  -- `void` alone, without an ellipsis, means no parameter (6.7.6.3p10)
  pub void_beside : is_broken (codes "int f(void,...);") ≡ true
  pub void_beside_others : is_broken (codes "int f(int,void);") ≡ true
  pub void_named : is_broken (codes "int f(void v);") ≡ true
  -- 6.7.6.2p1
  pub no_elements : is_broken (codes "int a[0];") ≡ true
  pub incomplete_elements : is_broken (codes "int m[2][];") ≡ true
  -- 6.7.6.3p1
  pub array_returned : is_broken (codes "int f(void)[2];") ≡ true
  -- 6.7p7
  pub object_incomplete : is_broken (codes "void f(void){struct S s;}") ≡ true
  pub void_object : has_no_program (codes "void v;int main(void){return 0;}") ≡ true
  -- 6.7.2.3p1
  pub content_twice : is_broken (codes "struct S{int a;};struct S{int a;};") ≡ true
  -- 6.7.2.3p2
  pub other_kind : is_broken (codes "union S{int a;};struct S*p;") ≡ true
  -- 6.7p3
  pub member_twice : is_broken (codes "struct S{int a;struct{int a;};};") ≡ true
  -- 6.7.2.1p3
  pub member_incomplete : is_broken (codes "struct S{struct S s;};") ≡ true
  -- 6.7.2.3p3
  pub enumeration_incomplete : is_broken (codes "enum E*p;") ≡ true
  pub enumerator_again : is_broken (codes "enum{A,A};") ≡ true
  -- the parameters of another list than the function's own aren't in scope in its body (6.2.1p4)
  pub other_parameters : is_broken (codes "int(*f(int a))(int g(int c)){return c?f(0):0;}") ≡ true
  -- 6.9.1p5
  pub parameter_unnamed : is_broken (codes "int f(int){return 0;}") ≡ true
  -- 6.7.10p2
  pub assertion_false : is_broken (codes "_Static_assert(0,\"m\");") ≡ true

-- initializers
pub record RefusedInitializers : Type 0 where
  -- no more than there is room for (6.7.9p2)
  pub full : is_broken (codes "int a[2]={1,2,3};") ≡ true
  pub string_long : is_broken (codes "char s[2]=\"abc\";") ≡ true
  -- 6.7.9p6
  pub behind_the_end : is_broken (codes "int a[2]={[2]=1};") ≡ true
  -- 6.7.9p7
  pub no_such_member : is_broken (codes "struct{int a;}s={.b=1};") ≡ true
  -- 6.7.9p16
  pub array_without_braces : is_broken (codes "int a[2]=1;") ≡ true
  -- braces twice round a scalar (6.7.9p11, own)
  pub double_braces : is_broken (codes "int x={{1}};") ≡ true
  -- 6.7.9p4
  pub not_constant : is_broken (codes "int y;int x=y;") ≡ true
  -- 6.6p4
  pub overflow : is_broken (codes "int x=2147483647+1;") ≡ true
  -- 6.7.9p5
  pub extern_in_a_block : is_broken (codes "void f(void){extern int x=1;}") ≡ true
  -- 6.5.16.1p1
  pub pointer_from_integer : is_broken (codes "char*p=1;") ≡ true
  -- a list gives no part twice (own)
  pub twice_given : is_broken (codes "int a[2]={[0]=1,[0]=2};") ≡ true
  pub part_and_list : is_broken (codes "struct S{int a,b;};struct S s[1]={[0].b=2,[0]={1}};") ≡ true
  pub part_and_row : is_broken (codes "int m[2][2]={[0][1]=5,[0]={1}};") ≡ true
  pub part_and_string : is_broken (codes "char c[2][4]={[0][3]='y',[0]=\"x\"};") ≡ true
  pub part_and_string_member : is_broken (codes "struct{char s[4];int i;}t={.s[3]='z',.s=\"a\"};") ≡ true
  pub string_and_part : is_broken (codes "struct{char s[4];int i;}t={\"abc\",.s[1]='x'};") ≡ true
  pub two_union_members : is_broken (codes "union{int a;long b;}u={.a=1,.b=2};") ≡ true
  pub two_parts_of_unions : is_broken (codes "union{int i;char c[2];}u={.i=258,.c[1]=9};") ≡ true
  pub part_of_value : is_broken (codes "struct T{int k;};struct S{struct T t;};void f(struct T x){struct S l={.t=x,.t.k=2};}") ≡ true

-- statements (6.8)
pub record RefusedStatements : Type 0 where
  -- 6.8.6.3p1
  pub break_outside : is_broken (codes "void f(void){break;}") ≡ true
  -- 6.8.6.2p1
  pub continue_in_switch : is_broken (codes "void f(void){switch(1){continue;}}") ≡ true
  -- 6.8.1p2
  pub case_outside : is_broken (codes "void f(void){case 1:;}") ≡ true
  pub default_outside : is_broken (codes "void f(void){default:;}") ≡ true
  -- 6.8.4.2p3
  pub case_twice : is_broken (codes "void f(void){switch(1){case 1:;case 1:;}}") ≡ true
  -- in the promoted type (6.8.4.2p5)
  pub case_twice_converted : is_broken (codes "void f(void){switch(1){case 0:;case 4294967296:;}}") ≡ true
  pub default_twice : is_broken (codes "void f(void){switch(1){default:;default:;}}") ≡ true
  -- 6.8.6.1p1
  pub label_missing : is_broken (codes "void f(void){goto l;}") ≡ true
  -- 6.8.1p3
  pub label_twice : is_broken (codes "void f(void){l:;l:;}") ≡ true
  -- a label is of its function (6.2.1p3)
  pub label_of_another : is_broken (codes "void f(void){l:;}void g(void){goto l;}") ≡ true
  -- 6.8.4.1p1
  pub test_of_void : is_broken (codes "void f(void){if(f());}") ≡ true
  -- 6.8.4.2p1
  pub switch_on_a_pointer : is_broken (codes "void f(int*p){switch(p);}") ≡ true
  -- 6.8.6.4p1
  pub value_returned : is_broken (codes "void f(void){return 1;}") ≡ true
  pub nothing_returned : is_broken (codes "int f(void){return;}") ≡ true
  -- 6.8.5p3
  pub static_in_for : is_broken (codes "void f(void){for(static int i=0;;);}") ≡ true
  -- 6.2.1p4
  pub name_behind_its_block : is_broken (codes "int f(void){{int x;}return x;}") ≡ true
  -- 6.8.5p5
  pub name_behind_its_loop : is_broken (codes "int f(void){for(int i=0;i;);return i;}") ≡ true

-- expressions (6.5), returned by a function with the parameters `int a,int b,int*p,int*q`
pub record RefusedExpressions : Type 0 where
  -- 6.5.1p2
  pub undeclared : is_refused (codes "z") ≡ true
  -- 6.5.5p2
  pub pointer_multiplied : is_refused (codes "p*2") ≡ true
  -- 6.5.6p2
  pub pointers_added : is_refused (codes "p+q") ≡ true
  -- 6.5.6p3
  pub integer_less_pointer : is_refused (codes "a-p") ≡ true
  -- 6.5.7p2
  pub shifted_pointer : is_refused (codes "p<<1") ≡ true
  -- 6.5.8p2
  pub compared_with_integer : is_refused (codes "p<a") ≡ true
  -- 6.5.9p2
  pub equal_to_integer : is_refused (codes "p==a") ≡ true
  pub unlike_pointers : is_refused (codes "p==(char*)q") ≡ true
  -- 6.5.16p2
  pub constant_assigned : is_refused (codes "1=2") ≡ true
  -- 6.5.3.1p1
  pub constant_incremented : is_refused (codes "++1") ≡ true
  -- 6.5.16.1p1
  pub assigned_pointer : is_refused (codes "p=a") ≡ true
  -- 6.5.3.2p1
  pub address_of_value : is_refused (codes "*&(a+1)") ≡ true
  -- 6.5.3.2p2
  pub star_on_integer : is_refused (codes "*a") ≡ true
  -- 6.5.3.3p1
  pub complement_of_pointer : is_refused (codes "~p") ≡ true
  -- 6.5.2.2p1
  pub called_integer : is_refused (codes "a(1)") ≡ true
  -- 6.5.2.2p2
  pub few_arguments : is_refused (codes "f(a)") ≡ true
  -- 6.5.2.1p1
  pub subscript_of_integers : is_refused (codes "a[b]") ≡ true
  -- 6.5.2.3p1
  pub member_of_integer : is_refused (codes "a.x") ≡ true
  -- 6.5.3.4p1
  pub size_of_function : is_refused (codes "sizeof f") ≡ true
  -- 6.5.4p2
  pub array_cast : is_refused (codes "(int[2])a") ≡ true
  -- 6.3.2.3p6 (own)
  pub function_as_integer : is_refused (codes "(int)f") ≡ true
  -- 6.4.4.4p9
  pub character_too_wide : is_refused (codes "'\\400'") ≡ true
  -- 6.4.4p2
  pub constant_too_wide : is_refused (codes "99999999999999999999") ≡ true
