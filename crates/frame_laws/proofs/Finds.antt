-- The work from a label on, or from a case on, goes with the blocks round it, and so do the moves to it.
use Rattle.std.proofs.Common.{◌≡◌, ℕ, Bool, true, false, ◌==◌, List, [], ◌∷◌, ◌++◌, Option, Some, None, if◌then◌else◌, ℤ, arith}
use Rattle.std.proofs.Common.{refl, sym, ap, ◌∙◌, subst, append_assoc, append-nil}
use Rattle.c_model.specs.Program.{Decl, Stmt, Value, Empty, Declare, Block, If, If_only, Switch, Do, For, Goto, Continue, Break}
use Rattle.c_model.specs.Program.{Return, Return_none, Label, Case, Default, Stmts, end, and_then}
use Rattle.c_model.specs.Control.{Todo, Work, Enter, Leave, Unwrite, Begin, Nothing_to_do, Go_to, Go_out, Go_on, Go_back, To_do, Rest, Round}
use Rattle.c_model.specs.Control.{Again, Test, Break_here, blocks_round, enter_all, leave_all, unshared, gone_to}
use Rattle.c_model.specs.Control.{Use, Unused, To_branch, To_enter, To_select, To_go_round, To_go_again, Result, leaves, work_after, selected}
use Rattle.c_model.specs.Control.{moved_in}
use Rattle.c_model.specs.Control.{Target, to_case, to_default, is_label, is_case, is_default, goes_into_switch, found_here, first_of, and_after}
use Rattle.c_model.specs.Control.{if_goes, find, find_in}
use Rattle.c_model.specs.OpenBlocks.{NoEnters}
use Rattle.c_model.proofs.OpenKeeps.{finds_no_enters}
use Rattle.frame_laws.specs.Scopes.{Objects, IsBlockIn, Fits, AllFit}
use Rattle.frame_laws.specs.Todos.{IsInside, EntersFirst, UseFits, Runs}
use Rattle.frame_laws.specs.Frames.{IsOutermost}
use Rattle.frame_laws.proofs.Runs.{append_runs, leaves_run, leaves_enter, none_first, append_enters}

-- 1. Blocks that a list leaves, and those round it.

abbrev pub left_in : Todo → List ℕ
left_in [] = []
left_in (Leave b ds ∷ rest) = b ∷ left_in rest
left_in (w ∷ rest) = left_in rest

left_append : (ws us : Todo) → left_in (ws ++ us) ≡ left_in ws ++ left_in us
left_append [] us = refl
left_append (Enter b ds ∷ ws) us = left_append ws us
left_append (Leave b ds ∷ ws) us = ap (λ xs. b ∷ xs) (left_append ws us)
left_append (Unwrite d ∷ ws) us = left_append ws us
left_append (Begin e what ∷ ws) us = left_append ws us
left_append (Nothing_to_do ∷ ws) us = left_append ws us
left_append (Go_to k ∷ ws) us = left_append ws us
left_append (Go_out ∷ ws) us = left_append ws us
left_append (Go_on ∷ ws) us = left_append ws us
left_append (Go_back ∷ ws) us = left_append ws us
left_append (To_do s ∷ ws) us = left_append ws us
left_append (Rest ss ∷ ws) us = left_append ws us
left_append (Round test step s ∷ ws) us = left_append ws us
left_append (Again e s ∷ ws) us = left_append ws us
left_append (Test test step s ∷ ws) us = left_append ws us
left_append (Break_here ∷ ws) us = left_append ws us

-- the numbers of blocks from the outermost on, the innermost first, before those of further blocks round them
abbrev numbers : List (ℕ × List Decl) → List ℕ → List ℕ
numbers [] outer = outer
numbers (b ∷ bs) outer = numbers bs (b.0 ∷ outer)

round_is : (ws : Todo) (inner : List (ℕ × List Decl)) (outer : List ℕ) → numbers (blocks_round ws inner) outer ≡ numbers inner (left_in ws ++ outer)
round_is [] inner outer = refl
round_is (Leave b ds ∷ rest) inner outer = round_is rest ((b, ds) ∷ inner) outer
round_is (Enter b ds ∷ rest) inner outer = round_is rest inner outer
round_is (Unwrite d ∷ rest) inner outer = round_is rest inner outer
round_is (Begin e what ∷ rest) inner outer = round_is rest inner outer
round_is (Nothing_to_do ∷ rest) inner outer = round_is rest inner outer
round_is (Go_to k ∷ rest) inner outer = round_is rest inner outer
round_is (Go_out ∷ rest) inner outer = round_is rest inner outer
round_is (Go_on ∷ rest) inner outer = round_is rest inner outer
round_is (Go_back ∷ rest) inner outer = round_is rest inner outer
round_is (To_do s ∷ rest) inner outer = round_is rest inner outer
round_is (Rest ss ∷ rest) inner outer = round_is rest inner outer
round_is (Round test step s ∷ rest) inner outer = round_is rest inner outer
round_is (Again e s ∷ rest) inner outer = round_is rest inner outer
round_is (Test test step s ∷ rest) inner outer = round_is rest inner outer
round_is (Break_here ∷ rest) inner outer = round_is rest inner outer

outermost_of : (own : ℕ) (bs : List (ℕ × List Decl)) (x : ℕ) (outer : List ℕ) → IsOutermost own (numbers bs (x ∷ outer)) → IsOutermost own (x ∷ outer)
outermost_of own [] x outer o = o
outermost_of own (b ∷ bs) x outer o = outermost_of own bs b.0 (x ∷ outer) o

last_is : (b : ℕ) (xs : List ℕ) → IsOutermost b (xs ++ b ∷ [])
last_is b [] = refl
last_is b (x ∷ []) = refl
last_is b (x ∷ y ∷ ys) = last_is b (y ∷ ys)

enter_first : (bs : List (ℕ × List Decl)) (rest : Todo) → EntersFirst rest → EntersFirst (enter_all bs rest)
enter_first [] rest n = n
enter_first (b ∷ bs) rest n = enter_first bs rest n

leave_first : (bs : List (ℕ × List Decl)) (rest : Todo) → EntersFirst rest → EntersFirst (leave_all bs rest)
leave_first [] rest n = n
leave_first (b ∷ bs) rest n = leave_first bs (Leave b.0 b.1 ∷ rest) n

module _ (objects : Objects) where
  -- 2. Each block has its objects, in those round it.

  abbrev AllDeclared : List (ℕ × List Decl) → (outer : List ℕ) → Type 0
  AllDeclared [] outer = Unit {0}
  AllDeclared (b ∷ bs) outer = IsBlockIn objects outer b.0 b.1 × AllDeclared bs (b.0 ∷ outer)

  -- two places in blocks that are the same from the outermost on, so far
  record Shared (bs cs : List (ℕ × List Decl)) (outer : List ℕ) : Type 0 where
    base : List ℕ
    first : numbers bs outer ≡ numbers (unshared bs cs) base
    second : numbers cs outer ≡ numbers (unshared cs bs) base
    inside : IsInside outer → IsInside base
    declares : AllDeclared bs outer → AllDeclared (unshared bs cs) base
    declares_other : AllDeclared cs outer → AllDeclared (unshared cs bs) base

  if_same : (b c : ℕ × List Decl) (bs cs : List (ℕ × List Decl)) (x y : Bool) → (b.0 == c.0) ≡ x → (c.0 == b.0) ≡ y → (outer : List ℕ)
      → ((o : List ℕ) → Shared bs cs o) → Shared (b ∷ bs) (c ∷ cs) outer
  if_same b c bs cs true true p q outer f =
      let r = f (b.0 ∷ outer) in
      let e : c.0 ≡ b.0 = grind (arith, q) in
      let P : Bool → Type 0 = λ t. AllDeclared (if t then unshared bs cs else b ∷ bs) r.base in
      let Q : Bool → Type 0 = λ t. AllDeclared (if t then unshared cs bs else c ∷ cs) r.base in
      let C : ℕ → Type 0 = λ n. AllDeclared cs (n ∷ outer) in
      record {
        base = r.base;
        first = r.first ∙ ap (λ t. numbers (if t then unshared bs cs else b ∷ bs) r.base) (sym p);
        second = ap (λ n. numbers cs (n ∷ outer)) e ∙ (r.second ∙ ap (λ t. numbers (if t then unshared cs bs else c ∷ cs) r.base) (sym q));
        inside = λ i. r.inside tt;
        declares = λ d. subst P (sym p) (r.declares d.1);
        declares_other = λ d. subst Q (sym q) (r.declares_other (subst C e d.1));
      }
  if_same b c bs cs false false p q outer f =
      let P : Bool → Type 0 = λ t. AllDeclared (if t then unshared bs cs else b ∷ bs) outer in
      let Q : Bool → Type 0 = λ t. AllDeclared (if t then unshared cs bs else c ∷ cs) outer in
      record {
        base = outer;
        first = ap (λ t. numbers (if t then unshared bs cs else b ∷ bs) outer) (sym p);
        second = ap (λ t. numbers (if t then unshared cs bs else c ∷ cs) outer) (sym q);
        inside = λ i. i;
        declares = λ d. subst P (sym p) d;
        declares_other = λ d. subst Q (sym q) d;
      }
  if_same b c bs cs true false p q outer f = absurd (grind (arith, p, q))
  if_same b c bs cs false true p q outer f = absurd (grind (arith, p, q))

  shared : (bs cs : List (ℕ × List Decl)) (outer : List ℕ) → Shared bs cs outer
  shared [] [] outer = record { base = outer; first = refl; second = refl; inside = λ i. i; declares = λ d. d; declares_other = λ d. d }
  shared [] (c ∷ cs) outer = record { base = outer; first = refl; second = refl; inside = λ i. i; declares = λ d. d; declares_other = λ d. d }
  shared (b ∷ bs) [] outer = record { base = outer; first = refl; second = refl; inside = λ i. i; declares = λ d. d; declares_other = λ d. d }
  shared (b ∷ bs) (c ∷ cs) outer = if_same b c bs cs (b.0 == c.0) (c.0 == b.0) refl refl outer (shared bs cs)

  -- of two places in one body the outermost block is shared
  record SharedInside (bs cs : List (ℕ × List Decl)) : Type 0 where
    base : List ℕ
    first : numbers bs [] ≡ numbers (unshared bs cs) base
    second : numbers cs [] ≡ numbers (unshared cs bs) base
    inside : IsInside base
    declares : AllDeclared bs [] → AllDeclared (unshared bs cs) base
    declares_other : AllDeclared cs [] → AllDeclared (unshared cs bs) base

  both_inside : (own : ℕ) (b c : ℕ × List Decl) (bs cs : List (ℕ × List Decl)) (x y : Bool) → (b.0 == c.0) ≡ x → (c.0 == b.0) ≡ y → b.0 ≡ own → c.0 ≡ own
      → SharedInside (b ∷ bs) (c ∷ cs)
  both_inside own b c bs cs true true p q h k =
      let r = shared bs cs (b.0 ∷ []) in
      let e : c.0 ≡ b.0 = grind (arith, q) in
      let P : Bool → Type 0 = λ t. AllDeclared (if t then unshared bs cs else b ∷ bs) r.base in
      let Q : Bool → Type 0 = λ t. AllDeclared (if t then unshared cs bs else c ∷ cs) r.base in
      let C : ℕ → Type 0 = λ n. AllDeclared cs (n ∷ []) in
      record {
        base = r.base;
        first = r.first ∙ ap (λ t. numbers (if t then unshared bs cs else b ∷ bs) r.base) (sym p);
        second = ap (λ n. numbers cs (n ∷ [])) e ∙ (r.second ∙ ap (λ t. numbers (if t then unshared cs bs else c ∷ cs) r.base) (sym q));
        inside = r.inside tt;
        declares = λ d. subst P (sym p) (r.declares d.1);
        declares_other = λ d. subst Q (sym q) (r.declares_other (subst C e d.1));
      }
  both_inside own b c bs cs true false p q h k = absurd (grind (arith, p, q, h, k))
  both_inside own b c bs cs false y p q h k = absurd (grind (arith, p, h, k))

  shared_inside : (own : ℕ) (bs cs : List (ℕ × List Decl)) → IsOutermost own (numbers bs []) → IsOutermost own (numbers cs []) → SharedInside bs cs
  shared_inside own [] cs o p = absurd o
  shared_inside own (b ∷ bs) [] o p = absurd p
  shared_inside own (b ∷ bs) (c ∷ cs) o p =
      both_inside own b c bs cs (b.0 == c.0) (c.0 == b.0) refl refl (outermost_of own bs b.0 [] o) (outermost_of own cs c.0 [] p)

  round_declared : (ws : Todo) (inner : List (ℕ × List Decl)) (around last : List ℕ) → NoEnters ws → Runs objects ws around last
      → AllDeclared inner around → AllDeclared (blocks_round ws inner) last
  round_declared [] inner around last n r a = let P : List ℕ → Type 0 = AllDeclared inner in subst P r a
  round_declared (Enter b ds ∷ rest) inner around last n r a = absurd n
  round_declared (Leave b ds ∷ rest) inner [] last n r a = absurd r
  round_declared (Leave b ds ∷ rest) inner (o ∷ os) last n r a =
      let P : ℕ → Type 0 = λ k. AllDeclared inner (k ∷ os) in
      round_declared rest ((b, ds) ∷ inner) os last n r.2 (r.1, subst P r.0 a)
  round_declared (Unwrite d ∷ rest) inner around last n r a = round_declared rest inner around last n r.2 a
  round_declared (Begin e what ∷ rest) inner around last n r a = round_declared rest inner around last n r.2 a
  round_declared (Nothing_to_do ∷ rest) inner around last n r a = round_declared rest inner around last n r.2 a
  round_declared (Go_to k ∷ rest) inner around last n r a = round_declared rest inner around last n r.2 a
  round_declared (Go_out ∷ rest) inner around last n r a = round_declared rest inner around last n r.2 a
  round_declared (Go_on ∷ rest) inner around last n r a = round_declared rest inner around last n r.2 a
  round_declared (Go_back ∷ rest) inner around last n r a = round_declared rest inner around last n r.2 a
  round_declared (To_do s ∷ rest) inner around last n r a = round_declared rest inner around last n r.2 a
  round_declared (Rest ss ∷ rest) inner around last n r a = round_declared rest inner around last n r.2 a
  round_declared (Round test step s ∷ rest) inner around last n r a = round_declared rest inner around last n r.2 a
  round_declared (Again e s ∷ rest) inner around last n r a = round_declared rest inner around last n r.2 a
  round_declared (Test test step s ∷ rest) inner around last n r a = round_declared rest inner around last n r.2 a
  round_declared (Break_here ∷ rest) inner around last n r a = round_declared rest inner around last n r.2 a

  enters_run : (bs : List (ℕ × List Decl)) (rest : Todo) (around last : List ℕ) → IsInside around → AllDeclared bs around
      → Runs objects rest (numbers bs around) last → Runs objects (enter_all bs rest) around last
  enters_run [] rest around last i d r = r
  enters_run (b ∷ bs) rest around last i d r = (i, d.0, enters_run bs rest (b.0 ∷ around) last tt d.1 r)

  leaves_all_run : (bs : List (ℕ × List Decl)) (rest : Todo) (around last : List ℕ) → AllDeclared bs around → Runs objects rest around last
      → Runs objects (leave_all bs rest) (numbers bs around) last
  leaves_all_run [] rest around last d r = r
  leaves_all_run (b ∷ bs) rest around last d r = leaves_all_run bs (Leave b.0 b.1 ∷ rest) (b.0 ∷ around) last d.1 (refl, d.0, r)

  left_is : (ws : Todo) (around : List ℕ) → NoEnters ws → Runs objects ws around [] → around ≡ left_in ws
  left_is [] around n c = c
  left_is (Leave b ds ∷ rest) [] n c = absurd c
  left_is (Leave b ds ∷ rest) (o ∷ os) n c = ap (λ x. x ∷ os) c.0 ∙ ap (λ xs. b ∷ xs) (left_is rest os n c.2)
  left_is (Enter b ds ∷ rest) around n c = absurd n
  left_is (Unwrite d ∷ rest) around n c = left_is rest around n c.2
  left_is (Begin e what ∷ rest) around n c = left_is rest around n c.2
  left_is (Nothing_to_do ∷ rest) around n c = left_is rest around n c.2
  left_is (Go_to k ∷ rest) around n c = left_is rest around n c.2
  left_is (Go_out ∷ rest) around n c = left_is rest around n c.2
  left_is (Go_on ∷ rest) around n c = left_is rest around n c.2
  left_is (Go_back ∷ rest) around n c = left_is rest around n c.2
  left_is (To_do s ∷ rest) around n c = left_is rest around n c.2
  left_is (Rest ss ∷ rest) around n c = left_is rest around n c.2
  left_is (Round test step s ∷ rest) around n c = left_is rest around n c.2
  left_is (Again e s ∷ rest) around n c = left_is rest around n c.2
  left_is (Test test step s ∷ rest) around n c = left_is rest around n c.2
  left_is (Break_here ∷ rest) around n c = left_is rest around n c.2

  -- 3. What is found.

  abbrev FoundRuns : Option Todo → List ℕ → Type 0
  FoundRuns None around = Unit {0}
  FoundRuns (Some ws) around = Runs objects ws (left_in ws ++ around) around

  after_runs : (o : Option Todo) (w : Work) (middle around : List ℕ) → FoundRuns o middle → Runs objects (w ∷ []) middle around
      → middle ≡ left_in (w ∷ []) ++ around → FoundRuns (and_after o w) around
  after_runs None w middle around f r e = tt
  after_runs (Some ws) w middle around f r e =
      let is : left_in ws ++ middle ≡ left_in (ws ++ w ∷ []) ++ around =
      ap (λ xs. left_in ws ++ xs) e
      ∙ (sym (append_assoc (left_in ws) (left_in (w ∷ [])) around) ∙ ap (λ xs. xs ++ around) (sym (left_append ws (w ∷ [])))) in
      let P : List ℕ → Type 0 = λ xs. Runs objects (ws ++ w ∷ []) xs around in
      subst P is (append_runs objects ws (w ∷ []) (left_in ws ++ middle) middle around f r)

  first_runs : (o p : Option Todo) (around : List ℕ) → FoundRuns o around → FoundRuns p around → FoundRuns (first_of o p) around
  first_runs None p around f g = g
  first_runs (Some ws) p around f g = f

  here_runs : (b : Bool) (s : Stmt) (o : Option Todo) (around : List ℕ) → IsInside around → Fits objects around s → FoundRuns o around
      → FoundRuns (found_here b s o) around
  here_runs true s o around i f g = (i, f, refl)
  here_runs false s o around i f g = g

  where_runs : (b : Bool) (o : Option Todo) (around : List ℕ) → FoundRuns o around → FoundRuns (if_goes b o) around
  where_runs true o around f = f
  where_runs false o around f = tt

  mutual
    find_runs : (t : Target) (s : Stmt) (around : List ℕ) → IsInside around → Fits objects around s → FoundRuns (find t s) around
    find_runs t (Label k s) around i f = here_runs (is_label t k) s (find t s) around i f (find_runs t s around i f)
    find_runs t (Case z s) around i f = here_runs (is_case t z) s (find t s) around i f (find_runs t s around i f)
    find_runs t (Default s) around i f = here_runs (is_default t) s (find t s) around i f (find_runs t s around i f)
    find_runs t (Block b ds ss) around i f =
        after_runs (find_in t ss) (Leave b ds) (b ∷ around) around (find_in_runs t ss (b ∷ around) tt f.1) (refl, f.0, refl) refl
    find_runs t (If e s u) around i f = first_runs (find t s) (find t u) around (find_runs t s around i f.1) (find_runs t u around i f.2)
    find_runs t (If_only e s) around i f = find_runs t s around i f.1
    find_runs t (Switch e s) around i f =
        where_runs (goes_into_switch t) (and_after (find t s) Break_here) around
        (after_runs (find t s) Break_here around around (find_runs t s around i f.1) (i, tt, refl) refl)
    find_runs t (Do s e) around i f = after_runs (find t s) (Again e s) around around (find_runs t s around i f.1) (i, f, refl) refl
    find_runs t (For start test step s) around i f =
        after_runs (find t s) (Round test step s) around around (find_runs t s around i f.3) (i, (f.1, f.2, f.3), refl) refl
    find_runs t (Value e) around i f = tt
    find_runs t Empty around i f = tt
    find_runs t (Declare d) around i f = tt
    find_runs t (Goto k) around i f = tt
    find_runs t Continue around i f = tt
    find_runs t Break around i f = tt
    find_runs t (Return e) around i f = tt
    find_runs t Return_none around i f = tt

    find_in_runs : (t : Target) (ss : Stmts) (around : List ℕ) → IsInside around → AllFit objects around ss → FoundRuns (find_in t ss) around
    find_in_runs t end around i f = tt
    find_in_runs t (and_then s ss) around i f =
        first_runs (and_after (find t s) (Rest ss)) (find_in t ss) around
        (after_runs (find t s) (Rest ss) around around (find_runs t s around i f.0) (i, f.1, refl) refl) (find_in_runs t ss around i f.1)

  -- 4. The moves.

  -- the list goes with the open blocks, and blocks are entered in front
  abbrev pub Goes : Todo → (around last : List ℕ) → Type 0
  Goes todo around last = Runs objects todo around last × EntersFirst todo

  moved_goes : (o : Option Todo) (rest : Todo) (around last : List ℕ) → ((ws : Todo) → o ≡ Some ws → NoEnters ws) → IsInside around → FoundRuns o around
      → NoEnters rest → Runs objects rest around last → Goes (moved_in o rest) around last
  moved_goes None rest around last none i f n r = (r, none_first rest n)
  moved_goes (Some ws) rest around last none i f n r =
      let P : List ℕ → Type 0 = λ xs. Runs objects (ws ++ rest) xs last in (
        enters_run (blocks_round ws []) (ws ++ rest) around last i (round_declared ws [] (left_in ws ++ around) around (none ws refl) f tt)
            (subst P (sym (round_is ws [] around)) (append_runs objects ws rest (left_in ws ++ around) around last f r)),
        enter_first (blocks_round ws []) (ws ++ rest) (none_first (ws ++ rest) (append_enters ws rest (none ws refl) n)),
      )

  none_in_first : (s : Stmt) (t u : Target) (ws : Todo) → first_of (find t s) (find u s) ≡ Some ws → NoEnters ws
  none_in_first s t u ws e = go (find t s) (λ vs k. finds_no_enters t s vs k) e
    where
      go : (o : Option Todo) → ((vs : Todo) → o ≡ Some vs → NoEnters vs) → first_of o (find u s) ≡ Some ws → NoEnters ws
      go None f k = finds_no_enters u s ws k
      go (Some vs) f k = f ws k

  selected_goes : (z : ℤ) (s : Stmt) (rest : Todo) (around last : List ℕ) → IsInside around → Fits objects around s → NoEnters rest
      → Runs objects rest around last → Goes (selected z s rest) around last
  selected_goes z s rest around last i f n r =
      moved_goes (first_of (find (to_case z) s) (find to_default s)) rest around last (none_in_first s (to_case z) to_default) i
      (first_runs (find (to_case z) s) (find to_default s) around (find_runs (to_case z) s around i f) (find_runs to_default s around i f)) n r

  -- what follows a full expression goes with the blocks round it
  pub after_goes : (b : Bool) (z : ℤ) (what : Use) (rest : Todo) (around last : List ℕ) → IsInside around → UseFits objects around what → NoEnters rest
      → Runs objects rest around last → Goes (work_after b z what rest) around last
  after_goes true z (To_branch s t) rest around last i f n r = ((i, f.0, r), n)
  after_goes false z (To_branch s t) rest around last i f n r = ((i, f.1, r), n)
  after_goes true z (To_enter s) rest around last i f n r = ((i, f, r), n)
  after_goes false z (To_enter s) rest around last i f n r = (r, none_first rest n)
  after_goes true z (To_select s) rest around last i f n r = selected_goes z s (Break_here ∷ rest) around last i f n (i, tt, r)
  after_goes false z (To_select s) rest around last i f n r = selected_goes z s (Break_here ∷ rest) around last i f n (i, tt, r)
  after_goes true z (To_go_round test step s) rest around last i f n r = ((i, f.2, (i, f, r)), n)
  after_goes false z (To_go_round test step s) rest around last i f n r = (r, none_first rest n)
  after_goes true z (To_go_again e s) rest around last i f n r = ((i, f.1, (i, f, r)), n)
  after_goes false z (To_go_again e s) rest around last i f n r = (r, none_first rest n)
  after_goes true z Result rest around last i f n r = (leaves_run objects rest around last n r, none_first (leaves rest) (leaves_enter rest))
  after_goes false z Result rest around last i f n r = (leaves_run objects rest around last n r, none_first (leaves rest) (leaves_enter rest))
  after_goes true z Unused rest around last i f n r = (r, none_first rest n)
  after_goes false z Unused rest around last i f n r = (r, none_first rest n)

  gone_goes_to : (own : ℕ) (ws todo : Todo) (around : List ℕ) → IsOutermost own around → NoEnters todo → Runs objects todo around []
      → NoEnters ws → Runs objects ws (left_in ws) [] → IsOutermost own (left_in ws) → Goes (gone_to todo (Some ws)) around []
  gone_goes_to own ws todo around o n r m f p =
      let is : around ≡ numbers (blocks_round todo []) [] =
      left_is todo around n r ∙ (sym (append-nil (left_in todo)) ∙ sym (round_is todo [] [])) in
      let comes : left_in ws ≡ numbers (blocks_round ws []) [] = sym (append-nil (left_in ws)) ∙ sym (round_is ws [] []) in
      let O : List ℕ → Type 0 = IsOutermost own in
      let s = shared_inside own (blocks_round todo []) (blocks_round ws []) (subst O is o) (subst O comes p) in
      let us = unshared (blocks_round todo []) (blocks_round ws []) in
      let vs = unshared (blocks_round ws []) (blocks_round todo []) in
      let P : List ℕ → Type 0 = λ xs. Runs objects ws xs [] in
      let Q : List ℕ → Type 0 = λ xs. Runs objects (gone_to todo (Some ws)) xs [] in (
        subst Q (sym (is ∙ s.first)) (leaves_all_run us (enter_all vs ws) s.base []
            (s.declares (round_declared todo [] around [] n r tt))
            (enters_run vs ws s.base [] s.inside (s.declares_other (round_declared ws [] (left_in ws) [] m f tt)) (subst P (comes ∙ s.second) f))),
        leave_first us (enter_all vs ws) (enter_first vs ws (none_first ws m)),
      )

  -- `goto` in a body: to its label, if it has it
  gone_goes_in : (t : Target) (b : ℕ) (ds : List Decl) (ss : Stmts) (o : Option Todo) → find_in t ss ≡ o → (todo : Todo) (around : List ℕ)
      → IsOutermost b around → NoEnters todo → Runs objects todo around [] → Fits objects [] (Block b ds ss)
      → Goes (gone_to todo (and_after o (Leave b ds))) around []
  gone_goes_in t b ds ss None e todo around u n r f = (r, none_first todo n)
  gone_goes_in t b ds ss (Some ws) e todo around u n r f =
      let F : Option Todo → Type 0 = λ x. FoundRuns x (b ∷ []) in
      let found : FoundRuns (Some ws) (b ∷ []) = subst F e (find_in_runs t ss (b ∷ []) tt f.1) in
      let whole : FoundRuns (Some (ws ++ Leave b ds ∷ [])) [] =
      after_runs (Some ws) (Leave b ds) (b ∷ []) [] found (refl, f.0, refl) refl in
      let P : List ℕ → Type 0 = λ xs. Runs objects (ws ++ Leave b ds ∷ []) xs [] in
      let O : List ℕ → Type 0 = IsOutermost b in
      gone_goes_to b (ws ++ Leave b ds ∷ []) todo around u n r
      (finds_no_enters t (Block b ds ss) (ws ++ Leave b ds ∷ []) (ap (λ x. and_after x (Leave b ds)) e))
      (subst P (append-nil (left_in (ws ++ Leave b ds ∷ []))) whole) (subst O (sym (left_append ws (Leave b ds ∷ []))) (last_is b (left_in ws)))

  pub gone_goes : (t : Target) (b : ℕ) (ds : List Decl) (ss : Stmts) (todo : Todo) (around : List ℕ)
      → IsOutermost b around → NoEnters todo → Runs objects todo around [] → Fits objects [] (Block b ds ss)
      → Goes (gone_to todo (find t (Block b ds ss))) around []
  gone_goes t b ds ss todo around u n r f = gone_goes_in t b ds ss (find_in t ss) refl todo around u n r f
