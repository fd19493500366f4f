-- What is laid out stays as more is laid out behind it.
use Rattle.std.proofs.Common.{
  arith,
  ◌≡◌,
  ◌<◌,
  ◌+◌,
  ◌-◌,
  ◌^◌,
  min,
  Bool,
  true,
  false,
  if◌then◌else◌,
  ◌⊎◌,
  inl,
  inr,
  ℕ,
  zero,
  suc,
  List,
  [],
  ◌∷◌,
  ◌++◌,
  length,
  Option,
  Some,
  None,
  slice_get,
  refl,
  sym,
  ap,
  subst,
  ◌∙◌,
  length-append,
}
use Rattle.std.proofs.Math.Logic.{∥∥₁_map}
use Rattle.std.specs.List.{All}
use Rattle.std.specs.Option.{ForSome, IfSome}
use Rattle.std.proofs.Math.ListN.{get_or, set}
use Rattle.std.proofs.lemmas.List.{append-nil}
use Rattle.std.proofs.lemmas.List.Elements.{All-nil, All-weaker, All-push, All-get_or, All-set}
use Rattle.std.proofs.lemmas.Option.{slice_get_within, slice_get-get_or, get_or_from_slice_get}
use Rattle.ub_base.specs.declared.clause.Kind.{Kind}
use Rattle.ub_base.specs.declared.clause.Kind.TheVariants.{Val, Eff, Body}
use Rattle.c_types.specs.Types.{CType}
use Rattle.c_typed.specs.declared.program.Constant.{Constant}
use Rattle.c_typed.specs.declared.tree.Access.{Access}
use Rattle.c_typed.specs.declared.tree.Node.TheOpen as shape
use Rattle.c_typed.specs.declared.tree.Typed.{Typed, out-Typed}
use Rattle.c_typed.specs.Sites.{Head}
use Rattle.run_layout.specs.declared.steps.Due.{Due}
use Rattle.run_layout.specs.declared.nodes.NodeInfo.{NodeInfo}
use Rattle.run_layout.specs.declared.steps.Operand.{Operand}
use Rattle.run_layout.specs.declared.steps.Act.{Act}
use Rattle.run_layout.specs.declared.steps.Choice.{Choice}
use Rattle.run_layout.specs.declared.steps.Expression.{Expression}
use Rattle.run_layout.specs.declared.steps.Listed.{Listed}
use Rattle.run_layout.specs.declared.steps.Listed.TheVariants as listed
use Rattle.run_layout.specs.declared.steps.Way.{Way}
use Rattle.run_layout.specs.declared.tables.Tables.{Tables}
use Rattle.run_layout.specs.Resolved.{resolved, operands_from}
use Rattle.run_layout.specs.Numbered.{AreNodes, AreNoted, AreBelow}
use Rattle.run_layout.specs.EventActs.{
  head_at,
  seen,
  sight_of,
  room_of,
  ends_with,
  Sight,
  Stores,
  Fills,
  Calls,
  IsEffect,
  IsBody,
  IsAct,
  IsDue,
  IsEntry,
  AreEntries,
  AreFirst,
  AreGrown,
}
use Rattle.run_layout.specs.AtOnce.{chosen_in, chosen_of, Lists}
use Rattle.run_layout.specs.Choices.{Goes, IsChoiceOf, MakesChoice, ChoosesAt}
use Rattle.run_layout.specs.LaidOut.{LaidOutBy, IsLaidOut}
use Rattle.run_layout.specs.Rooms.{IsRoomedBy}
use Rattle.run_layout.proofs.AtOnce.{lists_grown, front_longer}
use Rattle.run_layout.proofs.Collected.{same_some, slice_get-front}

pub nothing_grown : (tables : Tables) → AreGrown tables tables
nothing_grown tables = record {
  calls = λ n x h. h;
  stores = λ n x h. h;
  constants = λ n x h. h;
  chosen = λ n x h. h;
  choices = λ n x h. h;
  objects = omega arith;
  each_object = λ n x h. h;
  blocks = λ n x h. h;
}

pub grown_both : (first second third : Tables) → AreGrown first second → AreGrown second third → AreGrown first third
grown_both first second third g h = record {
  calls = λ n x k. h.calls n x (g.calls n x k);
  stores = λ n x k. h.stores n x (g.stores n x k);
  constants = λ n x k. h.constants n x (g.constants n x k);
  chosen = λ n x k. h.chosen n x (g.chosen n x k);
  choices = λ n x k. h.choices n x (g.choices n x k);
  objects = omega (arith, g.objects, h.objects);
  each_object = λ n x k. h.each_object n x (g.each_object n x k);
  blocks = λ n x k. h.blocks n x (g.blocks n x k);
}

stores_grown : (old new : Tables) (how : Access) (first : _) (object : CType) (place value : Operand) (a : Act) → AreGrown old new →
    Stores old how first object place value a → Stores new how first object place value a
stores_grown old new how first object place value a g s = (s.0, s.1, g.stores s.0 s.1 s.2, s.3, s.4)

fills_grown : (old new : Tables) (object : Operand) (bytes : List Constant) (a : Act) → AreGrown old new → Fills old object bytes a → Fills new object bytes a
fills_grown old new object bytes a g s = (s.0, s.1, g.constants s.0 s.1 s.2, s.3, s.4)

calls_grown : (old new : Tables) (s : Sight) (a : Act) → AreGrown old new → Calls old s a → Calls new s a
calls_grown old new s a g c = (c.0, c.1, g.calls c.0 c.1 c.2, c.3, c.4)

effect_grown : (firsts : List ℕ) (old new : Tables) (h : Head) (s : Sight) (a : Act) → AreGrown old new → IsEffect firsts old h s a → IsEffect firsts new h s a
effect_grown firsts old new (shape.Assign first how) s a g e = stores_grown old new _ _ _ _ _ a g e
effect_grown firsts old new (shape.Update c before) s a g e = stores_grown old new _ _ _ _ _ a g e
effect_grown firsts old new (shape.List slot bytes) s a g e = fills_grown old new _ _ a g e
effect_grown firsts old new _ s a g e = e

body_grown : (old new : Tables) (initializer : ℕ) (h : Head) (s : Sight) (a : Act) → AreGrown old new → IsBody old initializer h s a →
    IsBody new initializer h s a
body_grown old new initializer (shape.Call discarded) s a g e = calls_grown old new s a g e
body_grown old new initializer (shape.Isolated tree) s a g e = e
body_grown old new initializer _ s a g e = e

pub act_grown : (firsts : List ℕ) (old new : Tables) (initializer : ℕ) (h : Head) (s : Sight) (kind : Kind) (a : Act) → AreGrown old new →
    IsAct firsts old initializer h s kind a → IsAct firsts new initializer h s kind a
act_grown firsts old new initializer h s Val a g e = e
act_grown firsts old new initializer h s Eff a g e = effect_grown firsts old new h s a g e
act_grown firsts old new initializer h s Body a g e = body_grown old new initializer h s a g e

-- an event of this kind has the act of the kind
pub effect_acts : (firsts : List ℕ) (tables : Tables) (initializer : ℕ) (h : Head) (s : Sight) (kind : Kind) (a : Act) → kind ≡ Eff →
    IsEffect firsts tables h s a → IsAct firsts tables initializer h s kind a
effect_acts firsts tables initializer h s kind a e i = subst (λ k. IsAct firsts tables initializer h s k a) (sym e) i

pub body_acts : (firsts : List ℕ) (tables : Tables) (initializer : ℕ) (h : Head) (s : Sight) (kind : Kind) (a : Act) → kind ≡ Body →
    IsBody tables initializer h s a → IsAct firsts tables initializer h s kind a
body_acts firsts tables initializer h s kind a e i = subst (λ k. IsAct firsts tables initializer h s k a) (sym e) i

some_weaker : {A : Type 0} (o : Option A) (P Q : A → Type 0) → ((x : A) → P x → Q x) → IfSome o P → IfSome o Q
some_weaker None P Q f h = h
some_weaker (Some x) P Q f h = f x h

pub goes_grown : (firsts : List ℕ) (old new : Tables) (number : ℕ) (above : NodeInfo) (test : Bool) (w : Way) → AreGrown old new →
    Goes firsts old number above test w → Goes firsts new number above test w
goes_grown firsts old new number above test w g h = record {
  operand = h.operand;
  chosen = some_weaker w.operand _ _
      (λ i. lists_grown old.chosen.items new.chosen.items w.chosen (chosen_in firsts (out-Typed above.tree.now).children i (suc number)) g.chosen) h.chosen;
}

pub choice_of_grown : (firsts : List ℕ) (old new : Tables) (number : ℕ) (above : NodeInfo) (value : Operand) (c : Choice) → AreGrown old new →
    IsChoiceOf firsts old number above value c → IsChoiceOf firsts new number above value c
choice_of_grown firsts old new number above value c g h = record {
  node = h.node;
  test = h.test;
  yes = goes_grown firsts old new number above true c.yes g h.yes;
  no = goes_grown firsts old new number above false c.no g h.no;
}

makes_grown : (firsts : List ℕ) (old new : Tables) (nodes : List NodeInfo) (n : ℕ) (x : NodeInfo) (o : Option ℕ) → AreGrown old new →
    MakesChoice firsts old nodes n x o → MakesChoice firsts new nodes n x o
makes_grown firsts old new nodes n x None g h = h
makes_grown firsts old new nodes n x (Some number) g h =
    (h.0, h.1, h.2, h.3, g.choices number h.3 h.4, choice_of_grown firsts old new h.0 h.1 x.operand h.3 g h.5)

choice_grown : (firsts : List ℕ) (old new : Tables) (nodes : List NodeInfo) (n : ℕ) (x : NodeInfo) (kind : Kind) (o : Option ℕ) → AreGrown old new →
    ChoosesAt firsts old nodes n x kind o → ChoosesAt firsts new nodes n x kind o
choice_grown firsts old new nodes n x Val o g h = makes_grown firsts old new nodes n x o g h
choice_grown firsts old new nodes n x Eff o g h = h
choice_grown firsts old new nodes n x Body o g h = h

-- a choice that is made is in the table
made_there : (firsts : List ℕ) (tables : Tables) (nodes : List NodeInfo) (n : ℕ) (x : NodeInfo) (o : Option ℕ) → MakesChoice firsts tables nodes n x o →
    ForSome o (λ k. k < length tables.choices.items)
made_there firsts tables nodes n x None h = λ k e. absurd (cc)
made_there firsts tables nodes n x (Some number) h = λ k e.
    let same : number ≡ k = cc in
    subst (λ z. z < length tables.choices.items) same (slice_get_within tables.choices.items number h.3 h.4)

pub choice_there : (firsts : List ℕ) (tables : Tables) (nodes : List NodeInfo) (n : ℕ) (x : NodeInfo) (kind : Kind) (o : Option ℕ) →
    ChoosesAt firsts tables nodes n x kind o → ForSome o (λ k. k < length tables.choices.items)
choice_there firsts tables nodes n x Val o h = made_there firsts tables nodes n x o h
choice_there firsts tables nodes n x Eff o h = λ k e. absurd (cc)
choice_there firsts tables nodes n x Body o h = λ k e. absurd (cc)

pub entry_grown : (firsts : List ℕ) (old new : Tables) (nodes : List NodeInfo) → AreGrown old new → (x : Listed) → IsEntry firsts old nodes x →
    IsEntry firsts new nodes x
entry_grown firsts old new nodes g (listed.Event d) e = (
  e.0,
  e.1,
  record {
    line = e.2.line;
    parent = e.2.parent;
    completes = e.2.completes;
    does = act_grown firsts old new _ _ _ d.place.kind d.act g e.2.does;
    choice = λ n h. omega (arith, e.2.choice n h, front_longer old.choices.items new.choices.items g.choices);
  },
  choice_grown firsts old new nodes d.place.node e.0 d.place.kind d.choice g e.3,
)
entry_grown firsts old new nodes g (listed.Operand node index count) e = tt

pub entries_grown : (firsts : List ℕ) (old new : Tables) (nodes : List NodeInfo) (es : List Listed) → AreGrown old new → AreEntries firsts old nodes es →
    AreEntries firsts new nodes es
entries_grown firsts old new nodes es g h noted = All-weaker (IsEntry firsts old nodes) (IsEntry firsts new nodes) (entry_grown firsts old new nodes g) es
    (h noted)

-- an element of two lists stands in the one or in the other
pub in_both : {A : Type 0} (xs ys : List A) (i : ℕ) (x : A) → slice_get (xs ++ ys) i ≡ Some x → (slice_get xs i ≡ Some x) ⊎
    ((j : ℕ) × (slice_get ys j ≡ Some x) × (i ≡ length xs + j))
in_both [] ys i x h = inr (i, h, omega arith)
in_both (z ∷ xs) ys zero x h = inl h
in_both (z ∷ xs) ys (suc i) x h = elim (in_both xs ys i x h) [ inl a ↦ inl a | inr b ↦ inr (b.0, b.1, omega (arith, b.2)) ]

pub at_all : {A : Type 0} (P : A → Type 0) (xs : List A) (i : ℕ) (x : A) → All P xs → slice_get xs i ≡ Some x → P x
at_all P xs i x a h = subst P (get_or_from_slice_get xs i x x h) (All-get_or P xs i x (slice_get_within xs i x h) a)

pub front_of : {A : Type 0} (xs ys zs : List A) → ys ≡ xs ++ zs → AreFirst xs ys
front_of xs ys zs e n x h = ap (λ l. slice_get l n) e ∙ slice_get-front xs zs n x h

-- what is laid out stays as more is laid out behind it
pub laid_later : (firsts : List ℕ) (nodes : List NodeInfo) (old new : Tables) (entries longer : List Listed) (e : Expression) → AreGrown old new →
    AreFirst entries longer → LaidOutBy firsts nodes old entries e → LaidOutBy firsts nodes new longer e
laid_later firsts nodes old new entries longer e g f l =
    let more = front_longer entries longer f in record {
      numbered = l.numbered;
      value = l.value;
      rooms = l.rooms;
      chosen = lists_grown old.chosen.items new.chosen.items e.chosen (chosen_of firsts e.root.now 0) g.chosen l.chosen;
      order = l.order;
      within = omega (arith, l.within, more);
      each = λ i x a b h.
          let at = slice_get-get_or entries i x (omega (arith, b, l.within)) in
          let same = same_some (slice_get longer i) (get_or entries i x) x (f i (get_or entries i x) at) h in
          entry_grown firsts old new nodes g x (l.each i x a b (at ∙ ap Some same));
    }

laid_out_grown : (old new : Tables) (entries more : List Listed) → AreGrown old new → (e : Expression) → IsLaidOut old entries e →
    IsLaidOut new (entries ++ more) e
laid_out_grown old new entries more g e l =
    (l.0, l.1, laid_later l.0 l.1 old new entries (entries ++ more) e g (front_of entries (entries ++ more) more refl) l.2)

-- more in the tables, and more entries
pub all_grown : (old new : Tables) (entries longer more : List Listed) (es : List Expression) → AreGrown old new → longer ≡ entries ++ more →
    ∥ All (IsLaidOut old entries) es ∥₁ → ∥ All (IsLaidOut new longer) es ∥₁
all_grown old new entries longer more es g e h =
    ∥∥₁_map h (λ a. subst (λ z. All (IsLaidOut new z) es) (sym e)
    (All-weaker (IsLaidOut old entries) (IsLaidOut new (entries ++ more)) (laid_out_grown old new entries more g) es a))

-- one more full expression, whose entries come last
pub one_laid : (tables : Tables) (entries longer more : List Listed) (firsts : List ℕ) (nodes : List NodeInfo) (e : Expression) → longer ≡ entries ++ more
    → AreNodes firsts e.root.now nodes → IsRoomedBy nodes e.rooms → AreEntries firsts tables nodes more
    → Lists tables.chosen.items e.chosen (chosen_of firsts e.root.now 0) → e.value ≡ resolved firsts e.root.now 0 → e.first ≡ length entries
    → e.end ≡ length longer → LaidOutBy firsts nodes tables longer e
one_laid tables entries longer more firsts nodes e l n w a k v f t =
    let count : length longer ≡ length entries + length more = ap length l ∙ length-append entries more in record {
      numbered = n;
      value = v;
      rooms = w;
      chosen = k;
      order = omega (arith, f, t, count);
      within = omega (arith, t);
      each = λ i x b c g. elim (in_both entries more i x (ap (λ z. slice_get z i) (sym l) ∙ g)) [
        | inl k ↦ absurd (omega (arith, slice_get_within entries i x k, b, f))
        | inr k ↦ at_all (IsEntry firsts tables nodes) more k.0 x (a n.each) k.1
      ];
    }

pub one_more : (tables : Tables) (entries longer more : List Listed) (es : List Expression) (firsts : List ℕ) (nodes : List NodeInfo) (e : Expression) →
    longer ≡ entries ++ more
    → AreNodes firsts e.root.now nodes → IsRoomedBy nodes e.rooms → AreEntries firsts tables nodes more
    → Lists tables.chosen.items e.chosen (chosen_of firsts e.root.now 0) → e.value ≡ resolved firsts e.root.now 0 → e.first ≡ length entries
    → e.end ≡ length longer → ∥ All (IsLaidOut tables longer) es ∥₁ → ∥ All (IsLaidOut tables longer) (es ++ e ∷ []) ∥₁
one_more tables entries longer more es firsts nodes e l n w a k v f t h =
    let new : IsLaidOut tables longer e = (firsts, nodes, one_laid tables entries longer more firsts nodes e l n w a k v f t) in
    ∥∥₁_map h (λ g. All-push (IsLaidOut tables longer) es e g new)

pub no_entries : (firsts : List ℕ) (tables : Tables) (nodes : List NodeInfo) (es : List Listed) → es ≡ [] → AreEntries firsts tables nodes es
no_entries firsts tables nodes es e = λ noted. subst (All (IsEntry firsts tables nodes)) (sym e) (All-nil (IsEntry firsts tables nodes))

-- one entry more, and one that is written over another
pub entries_pushed : (firsts : List ℕ) (tables : Tables) (nodes : List NodeInfo) (es : List Listed) (node index count : ℕ) →
    AreEntries firsts tables nodes es → AreEntries firsts tables nodes (es ++ listed.Operand node index count ∷ [])
entries_pushed firsts tables nodes es node index count h noted = All-push (IsEntry firsts tables nodes) es (listed.Operand node index count) (h noted) tt

pub entries_set : (firsts : List ℕ) (tables : Tables) (nodes : List NodeInfo) (es : List Listed) (at node index count : ℕ) →
    AreEntries firsts tables nodes es → AreEntries firsts tables nodes (set es at (listed.Operand node index count))
entries_set firsts tables nodes es at node index count h noted = All-set (IsEntry firsts tables nodes) es at (listed.Operand node index count) tt (h noted)

pub event_added : (firsts firsts2 : List ℕ) (old new : Tables) (nodes : List NodeInfo) (es longer : List Listed) (d : Due) (x : NodeInfo) (number : ℕ) →
    firsts2 ≡ firsts → AreGrown old new → longer ≡ es ++ listed.Event d ∷ []
    → d.place.node ≡ number → slice_get nodes number ≡ Some x →
    (AreNoted firsts nodes → slice_get nodes number ≡ Some x → IsDue firsts new (length nodes) d x) →
    (AreNoted firsts nodes → slice_get nodes number ≡ Some x → ChoosesAt firsts new nodes number x d.place.kind d.choice) → AreEntries firsts old nodes es →
    AreEntries firsts2 new nodes longer
event_added firsts firsts2 old new nodes es longer d x number f g l p at due choice h =
    subst (λ fs. AreEntries fs new nodes longer) (sym f)
    (λ noted. subst (All (IsEntry firsts new nodes)) (sym l)
    (All-push (IsEntry firsts new nodes) es (listed.Event d) (entries_grown firsts old new nodes es g h noted)
    (x, ap (slice_get nodes) p ∙ at, due noted at, subst (λ n. ChoosesAt firsts new nodes n x d.place.kind d.choice) (sym p) (choice noted at))))

pub noted_due : (firsts : List ℕ) (tables : Tables) (nodes : List NodeInfo) (number room : ℕ) (x : NodeInfo) (d : Due) (os : List Operand) →
    AreNoted firsts nodes → slice_get nodes number ≡ Some x
    → d.place.node ≡ number → d.line ≡ (out-Typed x.tree.now).line → d.parent ≡ x.parent →
    d.completes ≡ ends_with (head_at (out-Typed x.tree.now).node) d.place.kind
    → (AreNoted firsts nodes → AreBelow nodes number (suc number) (out-Typed x.tree.now).children →
    os ≡ operands_from firsts (suc number) (out-Typed x.tree.now).children)
    → room ≡ room_of (head_at (out-Typed x.tree.now).node) (min (length nodes) (2 ^ 32 - 1)) number x.room
    → IsAct firsts tables x.initializer (head_at (out-Typed x.tree.now).node) (seen x.tree.now os x.operand room) d.place.kind d.act
    → ForSome d.choice (λ n. n < length tables.choices.items) → IsDue firsts tables (length nodes) d x
noted_due firsts tables nodes number room x d os noted at p line parent completes walked rooms does choice =
    let own = noted number x at in
    let h = head_at (out-Typed x.tree.now).node in
    let sight : seen x.tree.now os x.operand room ≡ sight_of firsts (length nodes) d.place.node x =
    ap (λ o. seen x.tree.now o x.operand room) (walked noted own.below)
    ∙ ap (λ o. seen x.tree.now (operands_from firsts (suc number) (out-Typed x.tree.now).children) o room) own.operand
    ∙ ap (λ r. seen x.tree.now (operands_from firsts (suc number) (out-Typed x.tree.now).children) (resolved firsts x.tree.now number) r) rooms
    ∙ ap (λ n. sight_of firsts (length nodes) n x) (sym p) in
    record {
      line = line;
      parent = parent;
      completes = completes;
      does = subst (λ s. IsAct firsts tables x.initializer h s d.place.kind d.act) sight does;
      choice = choice;
    }

pub extended : {A : Type 0} (b : Bool) (xs ys zs : List A) → ys ≡ (if b then xs ++ zs else xs) → ys ≡ xs ++ (if b then zs else [])
extended true xs ys zs e = e
extended false xs ys zs e = e ∙ sym (append-nil xs)

pub tables_grown : (old new : Tables) (entries : List Listed) (es : List Expression) → AreGrown old new → ∥ All (IsLaidOut old entries) es ∥₁ →
    ∥ All (IsLaidOut new entries) es ∥₁
tables_grown old new entries es g h = all_grown old new entries entries [] es g (sym (append-nil entries)) h

pub expression_pushed : (b : Bool) (tables : Tables) (entries longer more : List Listed) (es fs : List Expression) (firsts : List ℕ) (nodes : List NodeInfo)
    (e : Expression) → fs ≡ (if b then es ++ e ∷ [] else es) → longer ≡ entries ++ more
    → AreNodes firsts e.root.now nodes → IsRoomedBy nodes e.rooms → AreEntries firsts tables nodes more
    → Lists tables.chosen.items e.chosen (chosen_of firsts e.root.now 0)
    → e.value ≡ resolved firsts e.root.now 0 → e.first ≡ length entries → e.end ≡ length longer
    → ∥ All (IsLaidOut tables longer) es ∥₁ → ∥ All (IsLaidOut tables longer) fs ∥₁
expression_pushed true tables entries longer more es fs firsts nodes e p l n w a k v f t h =
    subst (λ z. ∥ All (IsLaidOut tables longer) z ∥₁) (sym p) (one_more tables entries longer more es firsts nodes e l n w a k v f t h)
expression_pushed false tables entries longer more es fs firsts nodes e p l n w a k v f t h = subst (λ z. ∥ All (IsLaidOut tables longer) z ∥₁) (sym p) h

-- the value of the root
pub root_value : (firsts : List ℕ) (root : Typed) (nodes : List NodeInfo) (x : NodeInfo) → AreNodes firsts root nodes →
    (get_or nodes 0 x).operand ≡ resolved firsts root 0
root_value firsts root nodes x n =
    ap (λ (y : NodeInfo). y.operand) (get_or_from_slice_get nodes 0 n.top.0 x n.top.1) ∙ (n.each 0 n.top.0 n.top.1).operand ∙ ap
    (λ t. resolved firsts t 0) n.top.2
