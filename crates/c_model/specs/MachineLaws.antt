-- What a machine's picks owe so that the order doesn't matter, and what follows for every permitted order.
use Rattle.std.specs.Prelude.{◌≡◌, ◌≢◌, ℕ, ◌+◌, true, false, List, [], ◌++◌, length, ◌⊎◌}
use Rattle.c_model.specs.Moves.{End}
use Rattle.c_model.specs.Machine.{Machine, Rest, State, going, over, all_picks, Apart, Diff, Holds, count_all, Does, Step, Order, RemainsAt}

module _ {F P V S I Part Seen Fact : Type 0} (m : Machine F P V S I Part Seen Fact) where
  abbrev pub Ready : F → P → Type 0
  Ready f p = m.ready f p ≡ true

  -- of acts: an act does the same, and alters the same, in a store that differs by what doesn't conflict with its items
  pub record StoreLaws : Type 0 where
    pub elsewhere : (f : F) (p : P) (s t : S) (v : V) (is : List I) (s1 : S) (j : List I) → Does m f p s v is s1 → Diff m j s t → Apart m is j
        → (t1 : S) × Does m f p t v is t1 × Diff m j s1 t1
    pub changes : (f : F) (p : P) (s : S) (v : V) (is : List I) (s1 : S) → Does m f p s v is s1 → Diff m is s s1
    pub clash_sym : (i j : I) → m.clash i j ≡ false → m.clash j i ≡ false
    pub holds_nil : (s : S) → Holds m [] s
    pub holds_next : (f : F) (p : P) (s : S) (v : V) (is : List I) (s1 : S) (j : List I) → Does m f p s v is s1 → Holds m j s → Holds m (j ++ is) s1
    pub adds : (f : F) (p : P) (s : S) (v : V) (is : List I) (s1 : S) → Does m f p s v is s1 → m.counted s1 ≡ count_all m is (m.counted s)
    pub counts_swap : (i j : I) (n : ℕ) → m.counts i (m.counts j n) ≡ m.counts j (m.counts i n)
    -- stores are one that differ only in what both lists alter, where these don't conflict, both have happened, and the counts agree
    pub meet : (i j : List I) (x y : S) → Apart m i j → Diff m i x y → Diff m j x y → Holds m (i ++ j) x → Holds m (j ++ i) y
        → m.counted x ≡ m.counted y → x ≡ y

  -- of two different picks that are ready at once: either leaves the other as it was
  pub record FrameLaws : Type 0 where
    pub keeps : (f : F) (x q : P) (w : V) → Ready f x → Ready f q → x ≢ q → Ready (m.next f x w) q
    pub swaps : (f : F) (x q : P) (w v : V) → Ready f x → Ready f q → x ≢ q → m.next (m.next f x w) q v ≡ m.next (m.next f q v) x w
    pub same_move : (f : F) (x q : P) (w : V) → Ready f x → Ready f q → x ≢ q → m.move (m.next f x w) q ≡ m.move f q
    pub same_does : (f : F) (x q : P) (w : V) → Ready f x → Ready f q → x ≢ q → m.does (m.next f x w) q ≡ m.does f q

  -- of the order within a full expression
  pub record OrderLaws : Type 0 where
    pub same_opens : (f : F) (x q : P) (w : V) → Ready f x → Ready f q → x ≢ q → m.opens (m.next f x w) q ≡ m.opens f q
    pub leave_control : (f : F) (l : P) → Ready f l → m.move f l ≡ End → m.is_control l ≡ true
    pub same_pick : (p q : P) → (p ≡ q) ⊎ (p ≢ q)
    pub alone : (f : F) (c q : P) → Ready f c → m.is_control c ≡ true → Ready f q → c ≡ q
    pub level_ready : (f : F) (p q : P) → Ready f p → Ready f q → p ≢ q → m.level f p q ≡ true
    pub level_next : (f : F) (p q x : P) (w : V) → m.level f p q ≡ true → Ready f x → m.is_control x ≡ false → m.level (m.next f x w) p q ≡ true
    pub level_beside : (f : F) (p q : P) → m.level f p q ≡ true → m.beside f p q ≡ true
    pub beside_before : (f : F) (p x q : P) (v : V) → Ready f q → Ready f x → x ≢ q → m.beside (m.next f q v) p x ≡ true → m.beside f p x ≡ true
    pub done_next : (f : F) (p : P) (v : V) → Ready f p → m.is_control p ≡ false → m.is_done (m.next f p v) p ≡ true
    pub done_stays : (f : F) (p x : P) (w : V) → m.is_done f p ≡ true → Ready f x → m.is_control x ≡ false → m.is_done (m.next f x w) p ≡ true
    pub control_starts : (f : F) (c : P) → Ready f c → m.is_control c ≡ true → m.may_start f c ≡ true
    pub control_beside : (f : F) (c q : P) → m.is_control c ≡ true → m.beside f c q ≡ true → ⊥
    pub level_done : (f : F) (p q : P) → m.is_done f p ≡ true → Ready f q → m.is_control q ≡ false → m.beside f p q ≡ true → m.level f p q ≡ true
    pub start_next : (f : F) (x q : P) (v : V) → m.opens f q ≡ false → Ready f x → Ready f q → x ≢ q → m.may_start f x ≡ true
        → m.may_start (m.next f q v) x ≡ true

  -- of the two halves of an update
  pub record UpdateLaws : Type 0 where
    pub half_ready : (f : F) (q : P) (v : V) → Ready f q → m.opens f q ≡ true → Ready (m.next f q v) (m.half q)
    pub half_later : (f : F) (q : P) → Ready f q → m.opens f q ≡ true → Ready f (m.half q) → ⊥
    pub half_event : (f : F) (q : P) → m.opens f q ≡ true → m.is_control (m.half q) ≡ false
    pub opens_event : (f : F) (q : P) → m.opens f q ≡ true → m.is_control q ≡ false
    pub half_closes : (f : F) (q : P) (v : V) → Ready f q → m.opens f q ≡ true → m.opens (m.next f q v) (m.half q) ≡ false
    pub half_starts : (f : F) (q : P) (v : V) → Ready f q → m.opens f q ≡ true → m.may_start (m.next f q v) (m.half q) ≡ true
    pub half_beside : (f : F) (q : P) (v : V) → Ready f q → m.opens f q ≡ true → m.beside (m.next f q v) q (m.half q) ≡ true → ⊥
    pub start_pair : (f : F) (x q : P) (v w : V) → Ready f x → Ready f q → m.opens f q ≡ true → x ≢ q → m.may_start f x ≡ true
        → m.may_start (m.next (m.next f q v) (m.half q) w) x ≡ true

  -- a state has a permitted next pick, where the run isn't over
  abbrev pub GoesOn : State F P V S → Type 0
  GoesOn (going f hs s) = (q : P) × (a : State F P V S) × (m.may_start f q ≡ true) × Step m f hs s q a
  GoesOn (over v s) = Unit {0}

  -- the state goes on without conflicts to that value and store, in so many picks
  pub record GoesOnTo (b : State F P V S) (n : ℕ) (v : V) (s' : S) : Type 0 where
    pub rest : List (Rest P V I)
    pub remains : RemainsAt m b rest v s'
    pub long : n ≡ all_picks rest
    pub goes_on : GoesOn b

  abbrev pub Keeps : Type 0
  Keeps = StoreLaws × FrameLaws × OrderLaws × UpdateLaws

-- From a state from which one run goes on without conflicts to its end, every permitted order has at most as many picks, goes on with
-- a permitted pick until the run is over, and then has the same value and store.
abbrev pub OrdersEndAlike : (F P V S I Part Seen Fact : Type 0) → Type 0
OrdersEndAlike F P V S I Part Seen Fact =
    (m : Machine F P V S I Part Seen Fact) → Keeps m
    → (a b : State F P V S) (ps : List P) (gs : List (Rest P V I)) (v : V) (s' : S) → RemainsAt m a gs v s' → Order m a ps b
    → (n : ℕ) × (length ps + n ≡ all_picks gs) × GoesOnTo m b n v s'
