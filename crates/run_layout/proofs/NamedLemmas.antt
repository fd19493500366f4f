-- What is named in tables is there, and stays there as they grow.
use Rattle.std.proofs.Common.{
  arith,
  ◌≡◌,
  ◌<◌,
  ◌≤◌,
  Bool,
  true,
  false,
  if◌then◌else◌,
  ℕ,
  List,
  [],
  ◌∷◌,
  ◌++◌,
  length,
  Some,
  slice_get,
  sym,
  ap,
  subst,
  ◌∙◌,
  length-append,
  inl,
  inr,
}
use Rattle.std.specs.List.{All}
use Rattle.std.proofs.lemmas.List.Elements.{All-weaker, All-push, All-append}
use Rattle.std.proofs.lemmas.Option.{slice_get_within, slice_get_cases}
use Rattle.ub_base.specs.declared.clause.Kind.{Kind}
use Rattle.ub_base.specs.declared.clause.Kind.TheVariants.{Val, Eff, Body}
use Rattle.c_typed.specs.declared.tree.Node.TheOpen as shape
use Rattle.c_typed.specs.declared.tree.Typed.{Typed}
use Rattle.c_typed.specs.Sites.{Head}
use Rattle.run_layout.specs.declared.nodes.NodeInfo.{NodeInfo}
use Rattle.run_layout.specs.declared.steps.Act.{Act}
use Rattle.run_layout.specs.declared.steps.Act.TheVariants as act
use Rattle.run_layout.specs.declared.steps.Due.{Due}
use Rattle.run_layout.specs.declared.steps.Expression.{Expression}
use Rattle.run_layout.specs.declared.steps.Listed.{Listed}
use Rattle.run_layout.specs.declared.steps.Listed.TheVariants as listed
use Rattle.run_layout.specs.declared.tables.Tables.{Tables}
use Rattle.run_layout.specs.EventActs.{Sight, IsValue, IsEffect, IsBody, IsAct, IsEntry, AreEntries, AreGrown}
use Rattle.run_layout.specs.Numbered.{AreNodes}
use Rattle.run_layout.proofs.AtOnce.{front_longer}
use Rattle.run_layout.specs.Named.{IsNamed, IsDueOf, IsListedOf, IsExpressionOf}

-- a list that a push leaves, whether it had memory or not, is as long at least
pub pushed_longer : {A : Type 0} (b : Bool) (xs ys zs : List A) → ys ≡ (if b then xs ++ zs else xs) → length xs ≤ length ys
pushed_longer true xs ys zs e = omega (arith, ap length e ∙ length-append xs zs)
pushed_longer false xs ys zs e = omega (arith, ap length e)

-- one more, where there is memory for it
pub one_pushed : {A : Type 0} (P : A → Type 0) (b : Bool) (xs ys : List A) (x : A) → ys ≡ (if b then xs ++ x ∷ [] else xs) → All P xs → P x → All P ys
one_pushed P true xs ys x e h p = subst (All P) (sym e) (All-push P xs x h p)
one_pushed P false xs ys x e h p = subst (All P) (sym e) h

pub all_pushed : {A : Type 0} (P : A → Type 0) (b : Bool) (xs ys zs : List A) → ys ≡ (if b then xs ++ zs else xs) → All P xs → All P zs → All P ys
all_pushed P true xs ys zs e h p = subst (All P) (sym e) (All-append P xs zs h p)
all_pushed P false xs ys zs e h p = subst (All P) (sym e) h

-- an act that names nothing
abbrev quiet : Act → Bool
quiet (act.Store n place value) = false
quiet (act.Call n) = false
quiet (act.Fill object n) = false
quiet _ = true

quiet_named : (tables : Tables) (a : Act) → quiet a ≡ true → IsNamed tables a
quiet_named tables a q = (
  λ n place value e. absurd (cc (q, ap quiet e)),
  λ n e. absurd (cc (q, ap quiet e)),
  λ object n e. absurd (cc (q, ap quiet e)),
)

value_named : (tables : Tables) (h : Head) (s : Sight) (a : Act) → IsValue h s a → IsNamed tables a
value_named tables (shape.Load how) s a v = quiet_named tables a (ap quiet v.2)
value_named tables (shape.Conv c) s a v = quiet_named tables a (ap quiet v)
value_named tables (shape.Un op) s a v = quiet_named tables a (ap quiet v)
value_named tables (shape.Bin op kind) s a v = quiet_named tables a (ap quiet v)
value_named tables (shape.PtrAdd size subtract) s a v = quiet_named tables a (ap quiet v)
value_named tables (shape.PtrDiff size) s a v = quiet_named tables a (ap quiet v)
value_named tables (shape.Rel op pointers) s a v = quiet_named tables a (ap quiet v)
value_named tables (shape.Eq op) s a v = quiet_named tables a (ap quiet v)
value_named tables (shape.Member offset) s a v = quiet_named tables a (ap quiet v)
value_named tables (shape.Part offset how) s a v = quiet_named tables a (ap quiet v)
value_named tables (shape.Assign first how) s a v = quiet_named tables a (ap quiet v)
value_named tables (shape.Update c old) s a v = quiet_named tables a (ap quiet v.2)
value_named tables shape.And s a v = quiet_named tables a (ap quiet v)
value_named tables shape.Or s a v = quiet_named tables a (ap quiet v)
value_named tables shape.Cond s a v = quiet_named tables a (ap quiet v)
value_named tables shape.Comma s a v = quiet_named tables a (ap quiet v)
value_named tables (shape.Call discarded) s a v = quiet_named tables a (ap quiet v)
value_named tables (shape.List slot bytes) s a v = quiet_named tables a (ap quiet v)
value_named tables (shape.Isolated tree) s a v = quiet_named tables a (ap quiet v)
value_named tables _ s a v = quiet_named tables a (ap quiet v)

-- the number that an act names, where it names a store, a call or constant bytes
abbrev named_store : Act → ℕ
named_store (act.Store n place value) = n
named_store _ = 0

abbrev named_call : Act → ℕ
named_call (act.Call n) = n
named_call _ = 0

abbrev named_constants : Act → ℕ
named_constants (act.Fill object n) = n
named_constants _ = 0

abbrev sort : Act → ℕ
sort (act.Store n place value) = 1
sort (act.Call n) = 2
sort (act.Fill object n) = 3
sort _ = 0

store_named : (tables : Tables) (a : Act) (n : ℕ) → sort a ≡ 1 → named_store a ≡ n → n < length tables.stores.items → IsNamed tables a
store_named tables a n k e l = (
  λ m place value f. subst (λ z. z < length tables.stores.items) (sym e ∙ ap named_store f) l,
  λ m f. absurd (cc (k, ap sort f)),
  λ object m f. absurd (cc (k, ap sort f)),
)

call_named : (tables : Tables) (a : Act) (n : ℕ) → sort a ≡ 2 → named_call a ≡ n → n < length tables.calls.items → IsNamed tables a
call_named tables a n k e l = (
  λ m place value f. absurd (cc (k, ap sort f)),
  λ m f. subst (λ z. z < length tables.calls.items) (sym e ∙ ap named_call f) l,
  λ object m f. absurd (cc (k, ap sort f)),
)

constants_named : (tables : Tables) (a : Act) (n : ℕ) → sort a ≡ 3 → named_constants a ≡ n → n < length tables.constants.items → IsNamed tables a
constants_named tables a n k e l = (
  λ m place value f. absurd (cc (k, ap sort f)),
  λ m f. absurd (cc (k, ap sort f)),
  λ object m f. subst (λ z. z < length tables.constants.items) (sym e ∙ ap named_constants f) l,
)

effect_named : (firsts : List ℕ) (tables : Tables) (h : Head) (s : Sight) (a : Act) → IsEffect firsts tables h s a → IsNamed tables a
effect_named firsts tables (shape.Assign first how) s a e =
    store_named tables a e.0 (ap sort e.4) (ap named_store e.4) (slice_get_within tables.stores.items e.0 e.1 e.2)
effect_named firsts tables (shape.Update c old) s a e =
    store_named tables a e.0 (ap sort e.4) (ap named_store e.4) (slice_get_within tables.stores.items e.0 e.1 e.2)
effect_named firsts tables (shape.List slot bytes) s a e =
    constants_named tables a e.0 (ap sort e.4) (ap named_constants e.4) (slice_get_within tables.constants.items e.0 e.1 e.2)
effect_named firsts tables _ s a e = quiet_named tables a (ap quiet e)

body_named : (tables : Tables) (initializer : ℕ) (h : Head) (s : Sight) (a : Act) → IsBody tables initializer h s a → IsNamed tables a
body_named tables initializer (shape.Call discarded) s a b =
    call_named tables a b.0 (ap sort b.4) (ap named_call b.4) (slice_get_within tables.calls.items b.0 b.1 b.2)
body_named tables initializer (shape.Isolated tree) s a b = quiet_named tables a (ap quiet b)
body_named tables initializer _ s a b = quiet_named tables a (ap quiet b)

act_named : (firsts : List ℕ) (tables : Tables) (initializer : ℕ) (h : Head) (s : Sight) (kind : Kind) (a : Act) →
    IsAct firsts tables initializer h s kind a → IsNamed tables a
act_named firsts tables initializer h s Val a i = value_named tables h s a i
act_named firsts tables initializer h s Eff a i = effect_named firsts tables h s a i
act_named firsts tables initializer h s Body a i = body_named tables initializer h s a i

abbrev due_or : Due → Listed → Due
due_or d (listed.Event e) = e
due_or d (listed.Operand node index count) = d

abbrev is_event : Listed → Bool
is_event (listed.Event e) = true
is_event (listed.Operand node index count) = false

-- an event of a node names what is there
pub entry_named : (firsts : List ℕ) (tables : Tables) (nodes : List NodeInfo) (x : Listed) → IsEntry firsts tables nodes x → IsListedOf tables x
entry_named firsts tables nodes (listed.Event d) e = λ f k.
    subst (IsDueOf tables) (ap (due_or d) k) (act_named firsts tables _ _ _ d.place.kind d.act e.2.does, e.2.choice)
entry_named firsts tables nodes (listed.Operand node index count) e = λ f k. absurd (cc (ap is_event k))

pub entries_named : (firsts : List ℕ) (root : Typed) (tables : Tables) (nodes : List NodeInfo) (es : List Listed) → AreNodes firsts root nodes →
    AreEntries firsts tables nodes es → All (IsListedOf tables) es
entries_named firsts root tables nodes es n a =
    All-weaker (IsEntry firsts tables nodes) (IsListedOf tables) (entry_named firsts tables nodes) es (a n.each)

slice_get_at : {A : Type 0} (xs : List A) (n : ℕ) → n < length xs → (x : A) × (slice_get xs n ≡ Some x)
slice_get_at xs n l = elim (slice_get_cases xs n).1 [ inl k ↦ (k.0, k.2) | inr k ↦ absurd (omega (arith, l, k.0)) ]

first_longer : {A : Type 0} (xs ys : List A) → ((n : ℕ) (x : A) → slice_get xs n ≡ Some x → slice_get ys n ≡ Some x) → (n : ℕ) → n < length xs → n < length ys
first_longer xs ys f n l = let there = slice_get_at xs n l in slice_get_within ys n there.0 (f n there.0 there.1)

act_of_longer : (old new : Tables) → AreGrown old new → (a : Act) → IsNamed old a → IsNamed new a
act_of_longer old new g a h = (
  λ n place value e. first_longer old.stores.items new.stores.items g.stores n (h.0 n place value e),
  λ n e. first_longer old.calls.items new.calls.items g.calls n (h.1 n e),
  λ object n e. first_longer old.constants.items new.constants.items g.constants n (h.2 object n e),
)

listed_longer : (old new : Tables) → AreGrown old new → (x : Listed) → IsListedOf old x → IsListedOf new x
listed_longer old new g x h = λ d e.
    (act_of_longer old new g d.act (h d e).0, λ n k. first_longer old.choices.items new.choices.items g.choices n ((h d e).1 n k))

pub named_grown : (old new : Tables) (es : List Listed) → AreGrown old new → All (IsListedOf old) es → All (IsListedOf new) es
named_grown old new es g h = All-weaker (IsListedOf old) (IsListedOf new) (listed_longer old new g) es h

pub within_grown : (old new : Tables) (entries longer : List Listed) (es : List Expression) → AreGrown old new → length entries ≤ length longer →
    All (IsExpressionOf old entries) es → All (IsExpressionOf new longer) es
within_grown old new entries longer es g l h =
    All-weaker (IsExpressionOf old entries) (IsExpressionOf new longer)
    (λ e k. (k.0, omega (arith, k.1, l), omega (arith, k.2, front_longer old.chosen.items new.chosen.items g.chosen), k.3)) es h
