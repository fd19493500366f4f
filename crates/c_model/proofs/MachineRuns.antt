-- Picks of a machine of frames, one after another: what they do in another store, and what comes to the front of them.
use Rattle.std.proofs.Common.{◌≡◌, ◌≢◌, ℕ, ◌+◌, Bool, true, false, ◌||◌, List, [], ◌∷◌, ◌++◌, refl, sym, ap, ◌∙◌, subst, append_assoc, append-nil, arith}
use Rattle.c_model.specs.Machine.{
  Machine,
  FrameRun as Trace,
  nil,
  put,
  Evaluation as Block,
  act,
  body,
  value,
  items,
  its,
  clash_one,
  clash_any,
  alter,
  count_all,
  Apart as Apart_m,
  Diff as Diff_m,
  Holds as Holds_m,
  Does as Does_m,
  after as after_m,
  Valid as Valid_m,
  Made as Made_m,
}
use Rattle.c_model.specs.MachineLaws.{StoreLaws, FrameLaws}

pub or_left : (a b : Bool) → (a || b) ≡ false → a ≡ false
or_left false b h = refl
or_left true b h = h

pub or_right : (a b : Bool) → (a || b) ≡ false → b ≡ false
or_right false b h = h
or_right true b h = absurd (cc)

pub or_both : (a b : Bool) → a ≡ false → b ≡ false → (a || b) ≡ false
or_both false b h k = k
or_both true b h k = h

module _ {F P V S I Part Seen Fact : Type 0} (machine : Machine F P V S I Part Seen Fact) where
  open machine use {move, next, does}

  abbrev pub ready : F → P → Type 0
  ready f p = machine.ready f p ≡ true

  abbrev pub Apart : List I → List I → Type 0
  Apart = Apart_m machine

  abbrev pub Diff : List I → S → S → Type 0
  Diff = Diff_m machine

  abbrev pub Holds : List I → S → Type 0
  Holds = Holds_m machine

  abbrev pub Does : F → P → S → V → List I → S → Type 0
  Does = Does_m machine

  abbrev pub after : Trace P V I → F → F
  after = after_m machine

  abbrev pub Valid : Trace P V I → F → S → S → Type 0
  Valid = Valid_m machine

  abbrev pub Made : Block P V I → F → P → S → S → Type 0
  Made = Made_m machine

  -- differences of stores
  pub alter_joined : (j k : List I) (x : Part) → alter machine (j ++ k) x ≡ (alter machine j x || alter machine k x)
  alter_joined [] k x = refl
  alter_joined (i ∷ j) k x = ap (λ b. machine.alters i x || b) (alter_joined j k x) ∙ or_assoc (machine.alters i x) (alter machine j x) (alter machine k x)
    where
      or_assoc : (a b c : Bool) → (a || (b || c)) ≡ ((a || b) || c)
      or_assoc true b c = refl
      or_assoc false b c = refl

  pub diff_refl : (j : List I) (s : S) → Diff j s s
  diff_refl j s = λ x h. refl

  pub diff_sym : (j : List I) (s t : S) → Diff j s t → Diff j t s
  diff_sym j s t d = λ x h. sym (d x h)

  pub diff_trans : (j : List I) (s t u : S) → Diff j s t → Diff j t u → Diff j s u
  diff_trans j s t u d e = λ x h. d x h ∙ e x h

  pub diff_left : (j k : List I) (s t : S) → Diff j s t → Diff (j ++ k) s t
  diff_left j k s t d = λ x h. d x (or_left (alter machine j x) (alter machine k x) (sym (alter_joined j k x) ∙ h))

  pub diff_right : (j k : List I) (s t : S) → Diff k s t → Diff (j ++ k) s t
  diff_right j k s t d = λ x h. d x (or_right (alter machine j x) (alter machine k x) (sym (alter_joined j k x) ∙ h))

  -- lists of items without conflicts
  pub apart_nil : (j : List I) → Apart [] j
  apart_nil j = refl

  pub apart_left : (i k j : List I) → Apart (i ++ k) j → Apart i j
  apart_left [] k j h = refl
  apart_left (a ∷ i) k j h = or_both _ _ (or_left (clash_one machine a j) (clash_any machine (i ++ k) j) h)
      (apart_left i k j (or_right (clash_one machine a j) (clash_any machine (i ++ k) j) h))

  pub apart_right : (i k j : List I) → Apart (i ++ k) j → Apart k j
  apart_right [] k j h = h
  apart_right (a ∷ i) k j h = apart_right i k j (or_right (clash_one machine a j) (clash_any machine (i ++ k) j) h)

  pub apart_both : (i k j : List I) → Apart i j → Apart k j → Apart (i ++ k) j
  apart_both [] k j h g = g
  apart_both (a ∷ i) k j h g = or_both _ _ (or_left (clash_one machine a j) (clash_any machine i j) h)
      (apart_both i k j (or_right (clash_one machine a j) (clash_any machine i j) h) g)

  -- counts
  pub count_joined : (i j : List I) (n : ℕ) → count_all machine (i ++ j) n ≡ count_all machine j (count_all machine i n)
  count_joined [] j n = refl
  count_joined (a ∷ i) j n = count_joined i j (machine.counts a n)

  -- one trace after another
  abbrev pub joined : Trace P V I → Trace P V I → Trace P V I
  joined nil t = t
  joined (put p u r) t = put p u (joined r t)

  pub after_joined : (a b : Trace P V I) (f : F) → after (joined a b) f ≡ after b (after a f)
  after_joined nil b f = refl
  after_joined (put p u r) b f = after_joined r b (next f p (value u))

  pub valid_joined : (a b : Trace P V I) (f : F) (s s1 s' : S) → Valid a f s s1 → Valid b (after a f) s1 s' → Valid (joined a b) f s s'
  valid_joined nil b f s s1 s' ha hb = subst (λ x. Valid b f x s') (sym ha) hb
  valid_joined (put p u r) b f s s1 s' (rd, (m, d, hr)) hb = (rd, (m, d, valid_joined r b (next f p (value u)) m s1 s' hr hb))

  pub valid_split : (a b : Trace P V I) (f : F) (s s' : S) → Valid (joined a b) f s s' → (s1 : S) × Valid a f s s1 × Valid b (after a f) s1 s'
  valid_split nil b f s s' h = (s, refl, h)
  valid_split (put p u r) b f s s' (rd, (m, d, hr)) =
      let w = valid_split r b (next f p (value u)) m s' hr in (w.0, (rd, (m, d, w.1)), w.2)

  -- no pick of the frame itself is q
  abbrev pub Without : P → Trace P V I → Type 0
  Without q nil = Unit {0}
  Without q (put p u r) = (p ≢ q) × Without q r

  module _ (store_laws : StoreLaws machine) where
    open store_laws use {elsewhere, changes, clash_sym, holds_nil, holds_next, adds, counts_swap, meet}

    -- every item of i against one item
    abbrev Each : I → List I → Type 0
    Each b [] = Unit {0}
    Each b (a ∷ i) = (machine.clash a b ≡ false) × Each b i

    one_flip : (b : I) (i : List I) → Each b i → clash_one machine b i ≡ false
    one_flip b [] h = refl
    one_flip b (a ∷ i) (h, k) = or_both _ _ (clash_sym a b h) (one_flip b i k)

    each_of : (b : I) (j i : List I) → Apart i (b ∷ j) → Each b i
    each_of b j [] h = tt
    each_of b j (a ∷ i) h =
        let first = or_left (machine.clash a b || clash_one machine a j) (clash_any machine i (b ∷ j)) h in (
          or_left (machine.clash a b) (clash_one machine a j) first,
          each_of b j i
              (or_right (machine.clash a b || clash_one machine a j) (clash_any machine i (b ∷ j)) h),
        )

    rest_of : (b : I) (j i : List I) → Apart i (b ∷ j) → Apart i j
    rest_of b j [] h = refl
    rest_of b j (a ∷ i) h =
        let first = or_left (machine.clash a b || clash_one machine a j) (clash_any machine i (b ∷ j)) h in
        or_both _ _ (or_right (machine.clash a b) (clash_one machine a j) first)
        (rest_of b j i (or_right (machine.clash a b || clash_one machine a j) (clash_any machine i (b ∷ j)) h))

    pub apart_sym : (i j : List I) → Apart i j → Apart j i
    apart_sym i [] h = refl
    apart_sym i (b ∷ j) h = or_both _ _ (one_flip b i (each_of b j i h)) (apart_sym i j (rest_of b j i h))

    counts_one : (a : I) (j : List I) (n : ℕ) → machine.counts a (count_all machine j n) ≡ count_all machine j (machine.counts a n)
    counts_one a [] n = refl
    counts_one a (b ∷ j) n = counts_one a j (machine.counts b n) ∙ ap (count_all machine j) (counts_swap a b n)

    counts_swap_all : (i j : List I) (n : ℕ) → count_all machine j (count_all machine i n) ≡ count_all machine i (count_all machine j n)
    counts_swap_all [] j n = refl
    counts_swap_all (a ∷ i) j n = counts_swap_all i j (machine.counts a n) ∙ ap (count_all machine i) (sym (counts_one a j n))

    -- a run gives the same in another store, where that differs by what doesn't conflict
    mutual
      pub sim : (t : Trace P V I) (f : F) (s s' u : S) (j : List I) → Valid t f s s' → Diff j s u → Apart (items t) j →
          (u' : S) × Valid t f u u' × Diff j s' u'
      sim nil f s s' u j h d fr = (u, refl, subst (λ x. Diff j x u) h d)
      sim (put p b r) f s s' u j (rd, (m, mk, hr)) d fr =
          let a = sim_block b f p s m u j mk d (apart_left (its b) (items r) j fr) in
          let c = sim r (next f p (value b)) m s' a.0 j hr a.2 (apart_right (its b) (items r) j fr) in
          (c.0, (rd, (a.0, a.1, c.1)), c.2)

      pub sim_block : (b : Block P V I) (f : F) (p : P) (s s' u : S) (j : List I) → Made b f p s s' → Diff j s u → Apart (its b) j →
          (u' : S) × Made b f p u u' × Diff j s' u'
      sim_block (act v is) f p s s' u j (mv, dn) d fr =
          let a = elsewhere f p s u v is s' j dn d fr in (a.0, (mv, a.1), a.2)
      sim_block (body t l v is) f p s s' u j (g, mv, rl, ml, (m, hi, dn)) d fr =
          let a = sim t g s m u j hi d (apart_left (items t) is j fr) in
          let b = elsewhere (after t g) l m a.0 v is s' j dn a.2 (apart_right (items t) is j fr) in
          (b.0, (g, mv, rl, ml, (a.0, a.1, b.1)), b.2)

    -- a run changes only what its items name
    mutual
      pub changed : (t : Trace P V I) (f : F) (s s' : S) → Valid t f s s' → Diff (items t) s s'
      changed nil f s s' h = subst (λ x. Diff [] s x) h (diff_refl [] s)
      changed (put p b r) f s s' (rd, (m, mk, hr)) =
          diff_trans (its b ++ items r) s m s' (diff_left (its b) (items r) s m (changed_block b f p s m mk))
          (diff_right (its b) (items r) m s' (changed r (next f p (value b)) m s' hr))

      pub changed_block : (b : Block P V I) (f : F) (p : P) (s s' : S) → Made b f p s s' → Diff (its b) s s'
      changed_block (act v is) f p s s' (mv, dn) = changes f p s v is s' dn
      changed_block (body t l v is) f p s s' (g, mv, rl, ml, (m, hi, dn)) =
          diff_trans (items t ++ is) s m s' (diff_left (items t) is s m (changed t g s m hi))
          (diff_right (items t) is m s' (changes (after t g) l m v is s' dn))

    -- what the items say has happened still holds after a run
    mutual
      holds_run : (t : Trace P V I) (f : F) (s s' : S) (j : List I) → Valid t f s s' → Holds j s → Holds (j ++ items t) s'
      holds_run nil f s s' j h k = subst (λ x. Holds (j ++ []) x) h (subst (λ x. Holds x s) (sym (append-nil j)) k)
      holds_run (put p b r) f s s' j (rd, (m, mk, hr)) k =
          let a = holds_block b f p s m j mk k in
          subst (λ x. Holds x s') (append_assoc j (its b) (items r)) (holds_run r (next f p (value b)) m s' (j ++ its b) hr a)

      holds_block : (b : Block P V I) (f : F) (p : P) (s s' : S) (j : List I) → Made b f p s s' → Holds j s → Holds (j ++ its b) s'
      holds_block (act v is) f p s s' j (mv, dn) k = holds_next f p s v is s' j dn k
      holds_block (body t l v is) f p s s' j (g, mv, rl, ml, (m, hi, dn)) k =
          subst (λ x. Holds x s') (append_assoc j (items t) is) (holds_next (after t g) l m v is s' (j ++ items t) dn (holds_run t g s m j hi k))

    -- a run counts what its items count
    mutual
      adds_run : (t : Trace P V I) (f : F) (s s' : S) → Valid t f s s' → machine.counted s' ≡ count_all machine (items t) (machine.counted s)
      adds_run nil f s s' h = sym (ap machine.counted h)
      adds_run (put p b r) f s s' (rd, (m, mk, hr)) =
          adds_run r (next f p (value b)) m s' hr ∙ ap (count_all machine (items r)) (adds_block b f p s m mk) ∙ sym
          (count_joined (its b) (items r) (machine.counted s))

      adds_block : (b : Block P V I) (f : F) (p : P) (s s' : S) → Made b f p s s' → machine.counted s' ≡ count_all machine (its b) (machine.counted s)
      adds_block (act v is) f p s s' (mv, dn) = adds f p s v is s' dn
      adds_block (body t l v is) f p s s' (g, mv, rl, ml, (m, hi, dn)) =
          adds (after t g) l m v is s' dn ∙ ap (count_all machine is) (adds_run t g s m hi) ∙ sym (count_joined (items t) is (machine.counted s))

    -- a block looks at its frame only through the move and the act of its pick
    pub made_at : (b : Block P V I) (f g : F) (p : P) (s s' : S) → move f p ≡ move g p → does f p ≡ does g p → Made b f p s s' → Made b g p s s'
    made_at (act v is) f g p s s' mv ds (m, dn) = (sym mv ∙ m, sym (ap (λ h. h s) ds) ∙ dn)
    made_at (body t l v is) f g p s s' mv ds (h, m, rl, ml, r) = (h, sym mv ∙ m, rl, ml, r)

    module _ (frame_laws : FrameLaws machine) where
      open frame_laws use {keeps, swaps, same_move, same_does}

      -- what a ready pick does is the same after other picks
      pub record Waits (t : Trace P V I) (f : F) (q : P) : Type 0 where
        pub is_ready : ready (after t f) q
        pub as_move : move (after t f) q ≡ move f q
        pub as_does : does (after t f) q ≡ does f q
        pub at_end : (v : V) → next (after t f) q v ≡ after t (next f q v)

      pub waits : (t : Trace P V I) (f : F) (q : P) (s s' : S) → Valid t f s s' → ready f q → Without q t → Waits t f q
      waits nil f q s s' h rq wo = record { is_ready = rq; as_move = refl; as_does = refl; at_end = λ v. refl }
      waits (put p b r) f q s s' (rd, (m, mk, hr)) rq (ne, wo) =
          let v = value b in
          let k = waits r (next f p v) q m s' hr (keeps f p q v rd rq ne) wo in
          record {
            is_ready = k.is_ready;
            as_move = k.as_move ∙ same_move f p q v rd rq ne;
            as_does = k.as_does ∙ same_does f p q v rd rq ne;
            at_end = λ w. k.at_end w ∙ ap (after r) (swaps f p q v w rd rq ne);
          }

      -- the picks can be done after q too, in a store that differs by what doesn't conflict
      pub over : (t : Trace P V I) (f : F) (q : P) (w : V) (s s' u : S) (j : List I) → Valid t f s s' → ready f q → Without q t → Diff j s u →
          Apart (items t) j → (u' : S) × Valid t (next f q w) u u' × Diff j s' u'
      over nil f q w s s' u j h rq wo d fr = (u, refl, subst (λ x. Diff j x u) h d)
      over (put p b r) f q w s s' u j (rd, (m, mk, hr)) rq (ne, wo) d fr =
          let en : q ≢ p = λ e. ne (sym e) in
          let a = sim_block b f p s m u j mk d (apart_left (its b) (items r) j fr) in
          let c = over r (next f p (value b)) q w m s' a.0 j hr (keeps f p q (value b) rd rq ne) wo a.2 (apart_right (its b) (items r) j fr) in
          let mk' = made_at b f (next f q w) p u a.0 (sym (same_move f q p w rq rd en)) (sym (same_does f q p w rq rd en)) a.1 in
          (c.0, (keeps f q p w rq rd en, (a.0, mk', subst (λ h. Valid r h a.0 c.0) (swaps f p q (value b) w rd rq ne) c.1)), c.2)

      -- what is ready moves to the front of the picks that don't conflict with it
      pub front : (t r : Trace P V I) (f : F) (q : P) (b : Block P V I) (s s' : S) → Valid (joined t (put q b r)) f s s' → ready f q → Without q t →
          Apart (items t) (its b) → Valid (put q b (joined t r)) f s s'
      front t r f q b s s' h rq wo fr =
          let w = valid_split t (put q b r) f s s' h in
          let sx = w.0 in
          let ht = w.1 in
          let m = w.2.1.0 in
          let mk = w.2.1.1 in
          let hr = w.2.1.2 in
          let k = waits t f q s sx ht rq wo in
          let cx = changed t f s sx ht in
          let e = sim_block b f q sx m s (items t) (made_at b (after t f) f q sx m k.as_move k.as_does mk) (diff_sym (items t) s sx cx)
          (apart_sym (items t) (its b) fr) in
          let su = e.0 in
          let o = over t f q (value b) s sx su (its b) ht rq wo (changed_block b f q s su e.1) fr in
          let sux = o.0 in
          let i = items t in
          let j = its b in
          let d1 = diff_trans i m su sux e.2 (changed t (next f q (value b)) su sux o.1) in
          let d2 = diff_trans j m sx sux (diff_sym j sx m (changed_block b (after t f) q sx m mk)) o.2 in
          let h1 = holds_block b (after t f) q sx m i mk (holds_run t f s sx [] ht (holds_nil s)) in
          let h2 = holds_run t (next f q (value b)) su sux j o.1 (holds_block b f q s su [] e.1 (holds_nil s)) in
          let a1 = adds_run t f s sx ht in
          let a2 = adds_block b (after t f) q sx m mk in
          let a3 = adds_block b f q s su e.1 in
          let a4 = adds_run t (next f q (value b)) su sux o.1 in
          let sums : machine.counted m ≡ machine.counted sux =
          a2 ∙ ap (count_all machine j) a1 ∙ counts_swap_all i j (machine.counted s) ∙ sym (a4 ∙ ap (count_all machine i) a3) in
          let same : m ≡ sux = meet i j m sux fr d1 d2 h1 h2 sums in
          let hr1 = subst (λ x. Valid r x m s') (k.at_end (value b)) hr in
          let hr2 = subst (λ x. Valid r (after t (next f q (value b))) x s') same hr1 in
          (rq, (su, e.1, valid_joined t r (next f q (value b)) su o.0 s' o.1 hr2))

      pub front_end : (t r : Trace P V I) (f : F) (q : P) (b : Block P V I) (s s' : S) → Valid (joined t (put q b r)) f s s' → ready f q → Without q t →
          after (put q b (joined t r)) f ≡ after (joined t (put q b r)) f
      front_end t r f q b s s' h rq wo =
          let w = valid_split t (put q b r) f s s' h in
          let k = waits t f q s w.0 w.1 rq wo in
          after_joined t r (next f q (value b)) ∙ ap (after r) (sym (k.at_end (value b))) ∙ sym (after_joined t (put q b r) f)

      -- a sum over the frame's own picks
      abbrev pub total : (P → Block P V I → ℕ) → Trace P V I → ℕ
      total k nil = 0
      total k (put p b r) = k p b + total k r

      pub total_front : (k : P → Block P V I → ℕ) (t r : Trace P V I) (q : P) (b : Block P V I) →
          total k (put q b (joined t r)) ≡ total k (joined t (put q b r))
      total_front k nil r q b = refl
      total_front k (put p u t) r q b = let ih = total_front k t r q b in omega (arith, ih)
