-- Frames over a store, as far as the order of their picks goes: a machine, its permitted orders, and its runs, nested as bodies nest.
use Rattle.std.specs.Prelude.{◌≡◌, ℕ, suc, ◌+◌, Bool, true, false, ◌||◌, List, [], ◌∷◌, ◌++◌, Option, Some}
use Rattle.c_model.specs.Moves.{Move, Stay, Start, End}

-- what an act did
pub record Did (V S I : Type 0) : Type 0 where
  pub value : V
  pub items : List I
  pub store : S

-- A machine of frames F, picks P, values V, stores S and items I. A Part of a store is Seen by a look; a Fact is what items leave so.
pub record Machine (F P V S I Part Seen Fact : Type 0) : Type 0 where
  -- what comes before the pick is done, and the pick isn't
  pub ready : F → P → Bool
  -- and where it is a body, no update is open
  pub may_start : F → P → Bool
  pub move : F → P → Move F
  pub next : F → P → V → F
  -- none where it raises, ends the run or passes a limit
  pub does : F → P → S → Option (Did V S I)
  pub is_control : P → Bool
  -- the value of an update, whose effect is its other half
  pub opens : F → P → Bool
  pub half : P → P
  -- neither is sequenced before the other, and both were reached
  pub beside : F → P → P → Bool
  pub level : F → P → P → Bool
  pub is_done : F → P → Bool
  pub look : Part → S → Seen
  pub alters : I → Part → Bool
  pub clash : I → I → Bool
  pub says : List I → Fact → Bool
  pub is_so : Fact → S → Bool
  -- what is counted, and how an item adds to it
  pub counted : S → ℕ
  pub counts : I → ℕ → ℕ

-- the picks of one frame in their order, each with what it did: one act, or a body, with the picks of its frame and the pick that ends it
mutual
  pub data FrameRun (P V I : Type 0) : Type 0 where
    nil : FrameRun P V I
    put : (p : P) → Evaluation P V I → FrameRun P V I → FrameRun P V I

  pub data Evaluation (P V I : Type 0) : Type 0 where
    act : (v : V) (is : List I) → Evaluation P V I
    body : FrameRun P V I → (l : P) (v : V) (is : List I) → Evaluation P V I

-- what is left of a frame: its picks, and the one that ends it with what it gives
pub record Rest (P V I : Type 0) : Type 0 where
  pub t : FrameRun P V I
  pub l : P
  pub v : V
  pub is : List I

abbrev pub value : {P V I : Type 0} → Evaluation P V I → V
value (act v is) = v
value (body t l v is) = v

abbrev mutual
  pub items : {P V I : Type 0} → FrameRun P V I → List I
  items nil = []
  items (put p u r) = its u ++ items r

  pub its : {P V I : Type 0} → Evaluation P V I → List I
  its (act v is) = is
  its (body t l v is) = items t ++ is

-- how many picks
abbrev mutual
  pub count : {P V I : Type 0} → FrameRun P V I → ℕ
  count nil = 0
  count (put p b r) = picks b + count r

  pub picks : {P V I : Type 0} → Evaluation P V I → ℕ
  picks (act v is) = 1
  picks (body t l v is) = suc (count t + 1)

abbrev pub all_picks : {P V I : Type 0} → List (Rest P V I) → ℕ
all_picks [] = 0
all_picks (g ∷ gs) = suc (count g.t) + all_picks gs

-- a state: the top frame, those below with the body that waits in each, and the store; or the end
pub data State (F P V S : Type 0) : Type 0 where
  going : F → List (F × P) → S → State F P V S
  over : V → S → State F P V S

module _ {F P V S I Part Seen Fact : Type 0} (m : Machine F P V S I Part Seen Fact) where
  abbrev pub alter : List I → Part → Bool
  alter [] x = false
  alter (i ∷ is) x = m.alters i x || alter is x

  abbrev pub clash_one : I → List I → Bool
  clash_one i [] = false
  clash_one i (j ∷ js) = m.clash i j || clash_one i js

  abbrev pub clash_any : List I → List I → Bool
  clash_any [] js = false
  clash_any (i ∷ is) js = clash_one i js || clash_any is js

  -- no two of the items conflict
  abbrev pub Apart : List I → List I → Type 0
  Apart is js = clash_any is js ≡ false

  -- two stores differ only in what the items alter
  abbrev pub Diff : List I → S → S → Type 0
  Diff is s t = (x : Part) → alter is x ≡ false → m.look x s ≡ m.look x t

  -- what the items leave so is so
  abbrev pub Holds : List I → S → Type 0
  Holds is s = (x : Fact) → m.says is x ≡ true → m.is_so x s ≡ true

  abbrev pub count_all : List I → ℕ → ℕ
  count_all [] n = n
  count_all (i ∷ is) n = count_all is (m.counts i n)

  abbrev pub Does : F → P → S → V → List I → S → Type 0
  Does f p s v is s' = m.does f p s ≡ Some (record { value = v; items = is; store = s' })

  -- the frame after the picks
  abbrev pub after : FrameRun P V I → F → F
  after nil f = f
  after (put p u r) f = after r (m.next f p (value u))

  -- the picks can be done in this order, and lead from one store to the other
  abbrev mutual
    pub Valid : FrameRun P V I → F → S → S → Type 0
    Valid nil f s s' = s ≡ s'
    Valid (put p u r) f s s' = (m.ready f p ≡ true) × ((s1 : S) × Made u f p s s1 × Valid r (m.next f p (value u)) s1 s')

    pub Made : Evaluation P V I → F → P → S → S → Type 0
    Made (act v is) f p s s' = (m.move f p ≡ Stay) × Does f p s v is s'
    Made (body t l v is) f p s s' =
        (g : F) × (m.move f p ≡ Start g) × (m.ready (after t g) l ≡ true) × (m.move (after t g) l ≡ End)
        × ((s1 : S) × Valid t g s s1 × Does (after t g) l s1 v is s')

  -- each body starts where bodies may start
  abbrev mutual
    pub Calm : FrameRun P V I → F → Type 0
    Calm nil f = Unit {0}
    Calm (put p b r) f = (m.may_start f p ≡ true) × CalmIn b f p × Calm r (m.next f p (value b))

    pub CalmIn : Evaluation P V I → F → P → Type 0
    CalmIn (act v is) f p = Unit {0}
    CalmIn (body t l v is) f p = (g : F) → m.move f p ≡ Start g → Calm t g

  -- a pick p with these items has no conflict with a pick beside it in the rest of its full expression
  abbrev pub Free : List I → P → FrameRun P V I → F → Type 0
  Free is p nil f = Unit {0}
  Free is p (put q b r) f =
      m.is_control q ≡ false → (m.beside f p q ≡ true → Apart is (its b)) × Free is p r (m.next f q (value b))

  -- no two picks of a full expression conflict where neither is before the other
  abbrev mutual
    pub Clear : FrameRun P V I → F → Type 0
    Clear nil f = Unit {0}
    Clear (put p b r) f = Free (its b) p r (m.next f p (value b)) × ClearIn b f p × Clear r (m.next f p (value b))

    pub ClearIn : Evaluation P V I → F → P → Type 0
    ClearIn (act v is) f p = Unit {0}
    ClearIn (body t l v is) f p = (g : F) → m.move f p ≡ Start g → Clear t g

  -- picks that are permitted and have no conflicts
  pub record Good (t : FrameRun P V I) (f : F) (s s' : S) : Type 0 where
    pub valid : Valid t f s s'
    pub calm : Calm t f
    pub clear : Clear t f

  -- what is left of a frame goes on without conflicts to its end
  pub record Finishes (g : Rest P V I) (f : F) (s s' : S) : Type 0 where
    pub before : S
    pub good : Good g.t f s before
    pub is_ready : m.ready (after g.t f) g.l ≡ true
    pub leaves : m.move (after g.t f) g.l ≡ End
    pub done : Does (after g.t f) g.l before g.v g.is s'

  -- what is left of the open frames goes on without conflicts to the end of the run, with this value and store
  abbrev pub Remains : List (F × P) → List (Rest P V I) → F → S → V → S → Type 0
  Remains [] (g ∷ []) f s v s' = Finishes g f s s' × (g.v ≡ v)
  Remains [] (g ∷ h ∷ gs) f s v s' = ⊥
  Remains hs [] f s v s' = ⊥
  Remains (h ∷ hs) (g ∷ gs) f s v s' = (s1 : S) × Finishes g f s s1 × Remains hs gs (m.next h.0 h.1 g.v) s1 v s'

  abbrev pub RemainsAt : State F P V S → List (Rest P V I) → V → S → Type 0
  RemainsAt (going f hs s) gs v s' = Remains hs gs f s v s'
  RemainsAt (over v s) gs v' s' = (gs ≡ []) × (v ≡ v') × (s ≡ s')

  -- the frame below goes on with what the body gave
  abbrev pub back : List (F × P) → V → S → State F P V S
  back [] v s = over v s
  back (h ∷ hs) v s = going (m.next h.0 h.1 v) hs s

  -- a permitted pick and the state after it
  pub data Step (f : F) (hs : List (F × P)) (s : S) (q : P) : State F P V S → Type 0 where
    stay : (v : V) (is : List I) (s1 : S) → m.ready f q ≡ true → m.may_start f q ≡ true → m.move f q ≡ Stay
        → Does f q s v is s1 → Step f hs s q (going (m.next f q v) hs s1)
    enter : (g : F) → m.ready f q ≡ true → m.may_start f q ≡ true → m.move f q ≡ Start g → Step f hs s q (going g ((f, q) ∷ hs) s)
    leave : (v : V) (is : List I) (s1 : S) → m.ready f q ≡ true → m.move f q ≡ End → Does f q s v is s1 → Step f hs s q (back hs v s1)

  -- a permitted order
  pub data Order : State F P V S → List P → State F P V S → Type 0 where
    here : (a : State F P V S) → Order a [] a
    pick : (f : F) (hs : List (F × P)) (s : S) (q : P) (a b : State F P V S) (ps : List P) → m.may_start f q ≡ true → Step f hs s q a
        → Order a ps b → Order (going f hs s) (q ∷ ps) b
