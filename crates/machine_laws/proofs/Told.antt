-- A run without told conflicts has none for the machine, and what is quiet for the machine is so as told.
use Rattle.std.proofs.Common.{◌≡◌, ℕ, ◌+◌, length, Bool, true, false, ◌||◌, List, [], ◌∷◌, ◌++◌, Option, Some, refl, sym, ap, ◌∙◌, subst, ◌⊎◌, inl, inr}
use Rattle.c_model.specs.Moves.{Start, End}
use Rattle.c_model.specs.Machine.{Machine, FrameRun as Trace, nil, put, Evaluation as Block, act, body, Rest, value, items, its, after, Valid, Made, Calm}
use Rattle.c_model.specs.Machine.{CalmIn, Free, Clear, ClearIn, Good, Finishes, Apart, clash_one, clash_any}
use Rattle.c_model.specs.MachineLaws.{Keeps}
use Rattle.machine_laws.specs.Orders.{Stopped, Event, Held, State, going, over, ended, Order, here, pick, Step, stay, enter, leave, stop, Ends, QuietWith}
use Rattle.machine_laws.specs.Orders.{Quiet, HeldQuiet, NoneBeside, Alone, AllAlone, then_past}
use Rattle.machine_laws.specs.Cuts.{Cut, stops, inside, Result, NoControl, NoneAside, Reaches, CutAt, RunsTo, finishes, is_cut}
use Rattle.machine_laws.specs.EveryOrder.{EndLaws, IsFine}
use Rattle.machine_laws.specs.ToldConflicts.{bear, telling, Tells}
use Rattle.machine_laws.proofs.AllOrders.{every_order_ends_alike}

or_false : (a b : Bool) → (a || b) ≡ true → (a ≡ true) ⊎ (b ≡ true)
or_false true b h = inl refl
or_false false b h = inr h

neither : (a b : Bool) → a ≡ false → b ≡ false → (a || b) ≡ false
neither false b h k = k
neither true b h k = absurd (cc)

or_l : (a b : Bool) → (a || b) ≡ false → a ≡ false
or_l false b h = refl
or_l true b h = h

or_r : (a b : Bool) → (a || b) ≡ false → b ≡ false
or_r false b h = h
or_r true b h = absurd (cc)

module _ {F P V N S I Part Seen Fact Name : Type 0} (m : Machine F P V S I Part Seen Fact) (ends : F → P → S → Option (Stopped N S I)) (told : I → I → Bool)
    (bears : I → Name → Bool) (lives : Name → S → Bool) (is_backed : List I → Bool) (tells : Tells m told bears lives is_backed) where
  open tells use {stricter, backed_nil, backed_joined, backed_act, born_new, lives_on, apart}

  abbrev w : Machine F P V S I Part Seen Fact
  w = telling m told

  abbrev Backed : List I → Type 0
  Backed is = is_backed is ≡ true

  abbrev Bears : List I → Name → Type 0
  Bears is x = bear bears is x ≡ true

  abbrev Lives : Name → S → Type 0
  Lives x s = lives x s ≡ true

  bears_joined : (is js : List I) (x : Name) → Bears (is ++ js) x → Bears is x ⊎ Bears js x
  bears_joined [] js x h = inr h
  bears_joined (i ∷ is) js x h = elim (or_false (bears i x) (bear bears (is ++ js) x) h) [
    | inl a ↦ inl (ap (λ b. b || bear bears is x) a)
    | inr a ↦ later (bears_joined is js x a)
  ]
    where
      later : Bears is x ⊎ Bears js x → Bears (i ∷ is) x ⊎ Bears js x
      later (inl b) = inl (right (bears i x) (bear bears is x) b)
        where
          right : (a b : Bool) → b ≡ true → (a || b) ≡ true
          right true b h = refl
          right false b h = h
      later (inr b) = inr b

  -- what lives goes on to do so, and isn't born again
  mutual
    on : (t : Trace P V I) (f : F) (s s' : S) (x : Name) → Valid m t f s s' → Lives x s → Lives x s'
    on nil f s s' x h l = subst (Lives x) h l
    on (put p u r) f s s' x (rd, (s1, mk, h)) l = on r (m.next f p (value u)) s1 s' x h (on_in u f p s s1 x mk l)

    on_in : (u : Block P V I) (f : F) (p : P) (s s' : S) (x : Name) → Made m u f p s s' → Lives x s → Lives x s'
    on_in (act v is) f p s s' x (mv, dn) l = lives_on f p s v is s' x dn l
    on_in (body t q v is) f p s s' x (g, mv, rl, ml, (s1, h, dn)) l = lives_on (after m t g) q s1 v is s' x dn (on t g s s1 x h l)

  mutual
    not_again : (t : Trace P V I) (f : F) (s s' : S) (x : Name) → Valid m t f s s' → Lives x s → Bears (items t) x → ⊥
    not_again nil f s s' x h l b = cc
    not_again (put p u r) f s s' x (rd, (s1, mk, h)) l b = elim (bears_joined (its u) (items r) x b) [
      | inl a ↦ not_again_in u f p s s1 x mk l a
      | inr a ↦ not_again r (m.next f p (value u)) s1 s' x h (on_in u f p s s1 x mk l) a
    ]

    pub not_again_in : (u : Block P V I) (f : F) (p : P) (s s' : S) (x : Name) → Made m u f p s s' → Lives x s → Bears (its u) x → ⊥
    not_again_in (act v is) f p s s' x (mv, dn) l b = (let a = (born_new f p s v is s' x dn b).0 in cc (a, l))
    not_again_in (body t q v is) f p s s' x (g, mv, rl, ml, (s1, h, dn)) l b = elim (bears_joined (items t) is x b) [
      | inl a ↦ not_again t g s s1 x h l a
      | inr a ↦ (let c = (born_new (after m t g) q s1 v is s' x dn a).0 in let d = on t g s s1 x h l in cc (c, d))
    ]

  -- what is born lives
  mutual
    born : (t : Trace P V I) (f : F) (s s' : S) (x : Name) → Valid m t f s s' → Bears (items t) x → Lives x s'
    born nil f s s' x h b = absurd (cc)
    born (put p u r) f s s' x (rd, (s1, mk, h)) b = elim (bears_joined (its u) (items r) x b) [
      | inl a ↦ on r (m.next f p (value u)) s1 s' x h (born_in u f p s s1 x mk a)
      | inr a ↦ born r (m.next f p (value u)) s1 s' x h a
    ]

    pub born_in : (u : Block P V I) (f : F) (p : P) (s s' : S) (x : Name) → Made m u f p s s' → Bears (its u) x → Lives x s'
    born_in (act v is) f p s s' x (mv, dn) b = (born_new f p s v is s' x dn b).1
    born_in (body t q v is) f p s s' x (g, mv, rl, ml, (s1, h, dn)) b = elim (bears_joined (items t) is x b) [
      | inl a ↦ lives_on (after m t g) q s1 v is s' x dn (born t g s s1 x h a)
      | inr a ↦ (born_new (after m t g) q s1 v is s' x dn a).1
    ]

  mutual
    backed : (t : Trace P V I) (f : F) (s s' : S) → Valid m t f s s' → Backed (items t)
    backed nil f s s' h = backed_nil
    backed (put p u r) f s s' (rd, (s1, mk, h)) = backed_joined (its u) (items r) (backed_in u f p s s1 mk) (backed r (m.next f p (value u)) s1 s' h)

    pub backed_in : (u : Block P V I) (f : F) (p : P) (s s' : S) → Made m u f p s s' → Backed (its u)
    backed_in (act v is) f p s s' (mv, dn) = backed_act f p s v is s' dn
    backed_in (body t q v is) f p s s' (g, mv, rl, ml, (s1, h, dn)) = backed_joined (items t) is (backed t g s s1 h) (backed_act (after m t g) q s1 v is s' dn)

  -- conditions that don't speak of conflicts are the same
  same_after : (t : Trace P V I) (f : F) → after w t f ≡ after m t f
  same_after nil f = refl
  same_after (put p u r) f = same_after r (m.next f p (value u))

  mutual
    as_valid : (t : Trace P V I) (f : F) (s s' : S) → Valid w t f s s' → Valid m t f s s'
    as_valid nil f s s' h = h
    as_valid (put p u r) f s s' (rd, (s1, mk, h)) = (rd, (s1, as_made u f p s s1 mk, as_valid r (m.next f p (value u)) s1 s' h))

    as_made : (u : Block P V I) (f : F) (p : P) (s s' : S) → Made w u f p s s' → Made m u f p s s'
    as_made (act v is) f p s s' mk = mk
    as_made (body t q v is) f p s s' (g, mv, rl, ml, (s1, h, dn)) =
        let e = same_after t g in (
          g,
          mv,
          subst (λ x. m.ready x q ≡ true) e rl,
          subst (λ x. m.move x q ≡ End) e ml,
          (s1, as_valid t g s s1 h, subst (λ x. m.does x q s1 ≡ Some (record { value = v; items = is; store = s' })) e dn),
        )

  mutual
    as_calm : (t : Trace P V I) (f : F) → Calm w t f → Calm m t f
    as_calm nil f c = tt
    as_calm (put p u r) f (ok, ci, c) = (ok, as_calm_in u f p ci, as_calm r (m.next f p (value u)) c)

    as_calm_in : (u : Block P V I) (f : F) (p : P) → CalmIn w u f p → CalmIn m u f p
    as_calm_in (act v is) f p c = tt
    as_calm_in (body t q v is) f p c = λ g mv. as_calm t g (c g mv)

  -- no told conflict is none for the machine
  as_free : (is : List I) (p : P) (r : Trace P V I) (f : F) (s s' : S) → Backed is → ((x : Name) → Bears is x → Lives x s) → Valid m r f s s'
      → Free w is p r f → Free m is p r f
  as_free is p nil f s s' bk lv h fr = tt
  as_free is p (put q b r) f s s' bk lv (rd, (s1, mk, h)) fr = λ c.
      let a = fr c in (
        (λ be. apart is (its b) bk (backed_in b f q s s1 mk) (λ x bx by. not_again_in b f q s s1 x mk (lv x bx) by) (a.0 be)),
        as_free is p r (m.next f q (value b)) s1 s' bk (λ x bx. on_in b f q s s1 x mk (lv x bx)) h a.1,
      )

  start_same : (g k : F) → Start g ≡ Start k → g ≡ k
  start_same g k e = cc

  mutual
    as_clear : (t : Trace P V I) (f : F) (s s' : S) → Valid m t f s s' → Clear w t f → Clear m t f
    as_clear nil f s s' h c = tt
    as_clear (put p u r) f s s' (rd, (s1, mk, h)) (fr, ci, c) = (
      as_free (its u) p r (m.next f p (value u)) s1 s' (backed_in u f p s s1 mk) (λ x bx. born_in u f p s s1 x mk bx) h fr,
      as_clear_in u f p s s1 mk ci,
      as_clear r (m.next f p (value u)) s1 s' h c,
    )

    as_clear_in : (u : Block P V I) (f : F) (p : P) (s s' : S) → Made m u f p s s' → ClearIn w u f p → ClearIn m u f p
    as_clear_in (act v is) f p s s' mk c = tt
    as_clear_in (body t q v is) f p s s' (g, mv, rl, ml, (s1, h, dn)) c = λ k mk.
        subst (λ x. Clear m t x) (start_same g k (sym mv ∙ mk)) (as_clear t g s s1 h (c g mv))

  as_good : (t : Trace P V I) (f : F) (s s' : S) → Good w t f s s' → Good m t f s s'
  as_good t f s s' g =
      let v = as_valid t f s s' g.valid in
      record { valid = v; calm = as_calm t f g.calm; clear = as_clear t f s s' v g.clear }

  as_finishes : (g : Rest P V I) (f : F) (s s' : S) → Finishes w g f s s' → Finishes m g f s s'
  as_finishes g f s s' fin =
      let e = same_after g.t f in
      record {
        before = fin.before;
        good = as_good g.t f s fin.before fin.good;
        is_ready = subst (λ x. m.ready x g.l ≡ true) e fin.is_ready;
        leaves = subst (λ x. m.move x g.l ≡ End) e fin.leaves;
        done = subst (λ x. m.does x g.l fin.before ≡ Some (record { value = g.v; items = g.is; store = s' })) e fin.done;
      }

  no_control : (t : Trace P V I) → NoControl m ends t → NoControl w ends t
  no_control nil n = tt
  no_control (put p b r) (n, ns) = (n, no_control r ns)

  as_aside : (e : F) (q : P) (t : Trace P V I) → NoneAside w ends e q t → NoneAside m ends e q t
  as_aside e q nil n = tt
  as_aside e q (put p b r) (n, ns) = ((λ nc. n (no_control r nc)), as_aside e q r ns)

  as_reaches : (t : Trace P V I) (q : P) (f : F) (s s' : S) → Reaches w ends t q f s s' → Reaches m ends t q f s s'
  as_reaches t q f s s' r =
      let e = same_after t f in
      record {
        good = as_good t f s s' r.good;
        is_ready = subst (λ x. m.ready x q ≡ true) e r.is_ready;
        may_start = subst (λ x. m.may_start x q ≡ true) e r.may_start;
        only = subst (λ z. (x : P) → m.ready z x ≡ true → x ≡ q) e r.only;
        none_aside = subst (λ x. NoneAside m ends x q t) e (as_aside (after w t f) q t r.none_aside);
      }

  as_cut : (c : Cut P V N I) (f : F) (s : S) (n : N) (s' : S) → CutAt w ends c f s n s' → CutAt m ends c f s n s'
  as_cut (stops t q k is) f s n s' (s1, r, en, e) = (s1, as_reaches t q f s s1 r, subst (λ x. Ends m ends x q s1 k is s') (same_after t f) en, e)
  as_cut (inside t q c) f s n s' (s1, r, (g, mv, at)) = (
    s1,
    as_reaches t q f s s1 r,
    (g, subst (λ x. m.move x q ≡ Start g) (same_after t f) mv, as_cut c g s1 n s' at),
  )

  pub as_runs : (f : F) (s : S) (k : ℕ) (o : Result V N) (s' : S) → RunsTo w ends f s k o s' → RunsTo m ends f s k o s'
  as_runs f s _ _ s' (finishes g _ fin) = finishes g s' (as_finishes g f s s' fin)
  as_runs f s _ _ s' (is_cut c n _ at) = is_cut c n s' (as_cut c f s n s' at)

  as_step : (f : F) (es : List (Event F P I)) (hs : List (Held F P I)) (s : S) (q : P) (a : State F P V N S I) → Step w ends f es hs s q a
      → Step m ends f es hs s q a
  as_step f es hs s q _ (stay v is s1 mv d) = stay v is s1 mv d
  as_step f es hs s q _ (enter g mv) = enter g mv
  as_step f es (h ∷ hs) s q _ (leave v is s1 mv d) = leave v is s1 mv d
  as_step f es [] s q _ (leave v is s1 mv d) = leave v is s1 mv d
  as_step f es hs s q _ (stop n is s1 e) = stop n is s1 e

  told_step : (f : F) (es : List (Event F P I)) (hs : List (Held F P I)) (s : S) (q : P) (a : State F P V N S I) → Step m ends f es hs s q a
      → Step w ends f es hs s q a
  told_step f es hs s q _ (stay v is s1 mv d) = stay v is s1 mv d
  told_step f es hs s q _ (enter g mv) = enter g mv
  told_step f es (h ∷ hs) s q _ (leave v is s1 mv d) = leave v is s1 mv d
  told_step f es [] s q _ (leave v is s1 mv d) = leave v is s1 mv d
  told_step f es hs s q _ (stop n is s1 e) = stop n is s1 e

  pub as_order : (a b : State F P V N S I) (ps : List P) → Order w ends a ps b → Order m ends a ps b
  as_order a _ _ (here _) = here a
  as_order _ b _ (pick f es hs s q a _ ps may st o) = pick f es hs s q a b ps may (as_step f es hs s q a st) (as_order a b ps o)

  -- and what is quiet for the machine is so as told
  one_told : (i : I) (js : List I) → clash_one m i js ≡ false → clash_one w i js ≡ false
  one_told i [] h = refl
  one_told i (j ∷ js) h = neither (told i j) (clash_one w i js) (stricter i j (or_l (m.clash i j) (clash_one m i js) h))
      (one_told i js (or_r (m.clash i j) (clash_one m i js) h))

  told_apart : (is js : List I) → Apart m is js → Apart w is js
  told_apart [] js h = refl
  told_apart (i ∷ is) js h =
      neither (clash_one w i js) (clash_any w is js) (one_told i js (or_l (clash_one m i js) (clash_any m is js) h))
      (told_apart is js (or_r (clash_one m i js) (clash_any m is js) h))

  told_quiet_with : (e : Event F P I) (es : List (Event F P I)) → QuietWith m ends e es → QuietWith w ends e es
  told_quiet_with e [] q = tt
  told_quiet_with e (d ∷ ds) (q, qs) = ((λ be. told_apart d.items e.items (q be)), told_quiet_with e ds qs)

  told_quiet : (es : List (Event F P I)) → Quiet m ends es → Quiet w ends es
  told_quiet [] q = tt
  told_quiet (e ∷ es) (q, qs) = (told_quiet_with e es q, told_quiet es qs)

  told_held : (hs : List (Held F P I)) → HeldQuiet m ends hs → HeldQuiet w ends hs
  told_held [] q = tt
  told_held (h ∷ hs) (q, qs) = (told_quiet (then_past m ends h.frame h.pick h.items h.past) q, told_held hs qs)

  told_beside : (f : F) (q : P) (es : List (Event F P I)) → NoneBeside m ends f q es → NoneBeside w ends f q es
  told_beside f q [] n = tt
  told_beside f q (e ∷ es) (n, ns) = (n, told_beside f q es ns)

  told_alone : (f : F) (q : P) (es : List (Event F P I)) → Alone m ends f q es → Alone w ends f q es
  told_alone f q es a = record { only = a.only; none_beside = told_beside f q es a.none_beside }

  told_all : (hs : List (Held F P I)) → AllAlone m ends hs → AllAlone w ends hs
  told_all [] a = tt
  told_all (h ∷ hs) (a, as') = (told_alone h.frame h.pick h.past a, told_all hs as')

  told_fine : (b : State F P V N S I) (n : ℕ) (o : Result V N) (s' : S) → IsFine m ends b n o s' → IsFine w ends b n o s'
  told_fine (going f es hs s) n o s' (ok, q, h, a, z) = (
    record { every = λ p may. (let r = ok.every p may in (r.0, told_step f es hs s p r.0 r.1)); one = ok.one },
    told_quiet es q,
    told_held hs h,
    (λ p may k is s1 e. (let r = a p may k is s1 e in (told_alone f p es r.0, told_all hs r.1))),
    z,
  )
  told_fine (over v s) n o s' r = r
  told_fine (ended k s) n o s' r = r

  pub every_order_tells : Keeps m → EndLaws m ends → (f : F) (s : S) (k : ℕ) (o : Result V N) (s' : S) → RunsTo w ends f s k o s'
      → (b : State F P V N S I) (ps : List P) → Order w ends (going f [] [] s) ps b → (n : ℕ) × (length ps + n ≡ k) × IsFine w ends b n o s'
  every_order_tells kp el f s k o s' run b ps ord =
      let r = every_order_ends_alike m ends kp.0 kp.1 kp.2 kp.3 el f s k o s' (as_runs f s k o s' run) b ps (as_order (going f [] [] s) b ps ord) in
      (r.0, r.1, told_fine b r.0 o s' r.2)
