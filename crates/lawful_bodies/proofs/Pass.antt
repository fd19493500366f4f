-- How the full expressions of one part of a function's statements are joined to those of the next one.
use Rattle.std.proofs.Common.{
  ◌≡◌,
  ℕ,
  ◌+◌,
  ◌<◌,
  ◌≤◌,
  List,
  [],
  ◌∷◌,
  ◌++◌,
  length,
  get_or,
  take,
  drop,
  map,
  Option,
  Some,
  refl,
  sym,
  ap,
  ◌∙◌,
  subst,
  arith,
  length-append,
}
use Rattle.std.specs.List.{All}
use Rattle.std.proofs.lemmas.List.{drop_more, drop_all, take_all}
use Rattle.std.proofs.lemmas.List.Elements.{All-append, All-nil}
use Rattle.c_types.specs.Types.{Signature, qualified_of}
use Rattle.c_typed.specs.declared.program.Program.{Program}
use Rattle.c_typed.specs.declared.tree.Typed.{Typed}
use Rattle.c_typed.specs.declared.statement.Body.{Body, fold-roll-Body}
use Rattle.c_typed.specs.declared.statement.Body.TheOpen as form
use Rattle.c_typed.specs.declared.statement.Body.TheVariants as bodies
use Rattle.c_typed.specs.declared.statement.ForStart.{ForStart}
use Rattle.c_typed.specs.declared.statement.Block.{Block, out-Block, fold_out-Block}
use Rattle.c_typed.specs.declared.statement.Entry.{Entry}
use Rattle.c_typed.specs.Sites.{
  Found,
  Opened,
  Blocks,
  Expression,
  one,
  perhaps,
  both,
  tested,
  unused,
  inside,
  found_body,
  found_entry,
  found_start,
  found_block,
  found_entries,
}
use Rattle.c_typed.specs.Lawful.{ExpressionIsLawful}
use Rattle.lawful_bodies.specs.declared.full.Place.{Place}
use Rattle.lawful_bodies.specs.Full.{Passes, Opens, blocks_at, in_body, in_start, in_block, in_entry}
use Rattle.lawful_trees.specs.Places.{blocks_of}
use Rattle.c_typed.specs.Sites.{no_block}

added : (a b c : ℕ) (s u : List Expression) → b ≡ a + length s → c ≡ b + length u → c ≡ a + length (s ++ u)
added a b c s u p q =
    let e : length (s ++ u) ≡ length s + length u = length-append s u in
    omega arith

module _ (p : Program) (f : Signature) where
  same_blocks : (a b : Place) → b.around.items ≡ a.around.items → blocks_at b ≡ blocks_at a
  same_blocks a b e = ap (blocks_of no_block) e

  -- one part, and the next
  pub compose : (a b c : Place) (s u : Found) → Passes p f a s b → Passes p f b u c → Passes p f a (both s u) c
  compose a b c s u x y =
      let e = same_blocks a b x.around in
      record {
        around = y.around ∙ x.around;
        lawful = All-append (ExpressionIsLawful p f) (s (blocks_at a)) (u (blocks_at a)) x.lawful
            (subst (λ (z : Blocks). All (ExpressionIsLawful p f) (u z)) e y.lawful);
        count = added a.count b.count c.count (s (blocks_at a)) (u (blocks_at a)) x.count (subst (λ (z : Blocks). c.count ≡ b.count + length (u z)) e y.count);
      }

  pub still : (a : Place) → Passes p f a (λ blocks. []) a
  still a = record { around = refl; lawful = All-nil (ExpressionIsLawful p f); count = omega arith }

  -- what opens no block
  pub opens : (a b : Place) (s : Found) → Passes p f a s b → Opens p f a (record { around = λ blocks. blocks; found = s }) b
  opens a b s x = record {
    kept = ap (take (length a.around.items)) x.around ∙ take_all (length a.around.items) a.around.items (omega arith);
    blocks = same_blocks a b x.around;
    lawful = x.lawful;
    count = x.count;
  }

  -- a block that is open, and what is in it
  pub enters : (a b c : Place) (around : Blocks → Blocks) (s : Found) → take (length a.around.items) b.around.items ≡ a.around.items →
      blocks_at b ≡ around (blocks_at a) → b.count ≡ a.count → Passes p f b s c →
      Opens p f a (record { around = around; found = λ blocks. s (around blocks) }) c
  enters a b c around s k e n x = record {
    kept = ap (take (length a.around.items)) x.around ∙ k;
    blocks = same_blocks b c x.around ∙ e;
    lawful = subst (λ (z : Blocks). All (ExpressionIsLawful p f) (s z)) e x.lawful;
    count = subst (λ (z : Blocks). c.count ≡ a.count + length (s z)) e (subst (λ (z : ℕ). c.count ≡ z + length (s (blocks_at b))) n x.count);
  }

  -- a block that ends
  pub closes : (a b c : Place) (x : Opened) → Opens p f a x b → c.around.items ≡ take (length a.around.items) b.around.items → c.count ≡ b.count →
      Passes p f a x.found c
  closes a b c x o k n = record { around = k ∙ o.kept; lawful = o.lawful; count = n ∙ o.count }

  -- the first part of a `for`, what is inside the block that it opens, and the end of that block
  pub loops : (a b c d : Place) (x : Opened) (s : Found) → Opens p f a x b → Passes p f b s c → d.around.items ≡ take (length a.around.items) c.around.items →
      d.count ≡ c.count → Passes p f a (both x.found (λ blocks. s (x.around blocks))) d
  loops a b c d x s o y k n = record {
    around = k ∙ (ap (take (length a.around.items)) y.around ∙ o.kept);
    lawful = All-append (ExpressionIsLawful p f) (x.found (blocks_at a)) (s (x.around (blocks_at a))) o.lawful
        (subst (λ (z : Blocks). All (ExpressionIsLawful p f) (s z)) o.blocks y.lawful);
    count = added a.count b.count d.count (x.found (blocks_at a)) (s (x.around (blocks_at a))) o.count
        (subst (λ (z : Blocks). d.count ≡ b.count + length (s z)) o.blocks (n ∙ y.count));
  }

  at_if : (body : Body) (t : Typed) (x y : Body) (o : Option Body) → body ≡ bodies.If t x o → o ≡ Some y →
      in_body body ≡ both (one tested t) (both (in_body x) (in_body y))
  at_if body t x y o e h =
      ap in_body (e ∙ (ap (λ z. bodies.If t x z) h ∙ sym (bodies.rolls-If t x (Some y))))
      ∙ fold-roll-Body Found Found Opened Opened found_body found_entry found_start found_block (form.If t x (Some y))

  at_do : (body x : Body) (t : Typed) → body ≡ bodies.Do x t → in_body body ≡ both (in_body x) (one tested t)
  at_do body x t e =
      ap in_body (e ∙ sym (bodies.rolls-Do x t))
      ∙ fold-roll-Body Found Found Opened Opened found_body found_entry found_start found_block (form.Do x t)

  at_for : (body : Body) (start : ForStart) (test step : Option Typed) (x : Body) → body ≡ bodies.For start test step x →
      in_body body ≡ both (in_start start).found
      (λ blocks. both (perhaps tested test) (both (perhaps unused step) (in_body x)) ((in_start start).around blocks))
  at_for body start test step x e =
      ap in_body (e ∙ sym (bodies.rolls-For start test step x))
      ∙ fold-roll-Body Found Found Opened Opened found_body found_entry found_start found_block (form.For start test step x)

  pub after_if : (a b c d : Place) (body : Body) (t : Typed) (x y u v : Body) (o : Option Body) → body ≡ bodies.If t x o → o ≡ Some y → u ≡ x → v ≡ y →
      Passes p f a (one tested t) b → Passes p f b (in_body u) c → Passes p f c (in_body v) d → Passes p f a (in_body body) d
  after_if a b c d body t x y u v o e h g k q r s =
      subst (λ (z : Found). Passes p f a z d) (sym (at_if body t x y o e h))
      (compose a b d (one tested t) (both (in_body x) (in_body y)) q (compose b c d (in_body x) (in_body y)
      (subst (λ (z : Body). Passes p f b (in_body z) c) g r) (subst (λ (z : Body). Passes p f c (in_body z) d) k s)))

  pub after_do : (a b c : Place) (body x u : Body) (t : Typed) → body ≡ bodies.Do x t → u ≡ x → Passes p f a (in_body u) b → Passes p f b (one tested t) c →
      Passes p f a (in_body body) c
  after_do a b c body x u t e g q r =
      subst (λ (z : Found). Passes p f a z c) (sym (at_do body x t e))
      (compose a b c (in_body x) (one tested t) (subst (λ (z : Body). Passes p f a (in_body z) b) g q) r)

  pub after_for : (a b c d e g : Place) (body : Body) (start : ForStart) (test step : Option Typed) (x u : Body) → body ≡ bodies.For start test step x →
      u ≡ x →
      Opens p f a (in_start start) b → Passes p f b (perhaps tested test) c → Passes p f c (perhaps unused step) d → Passes p f d (in_body u) e →
      g.around.items ≡ take (length a.around.items) e.around.items → g.count ≡ e.count → Passes p f a (in_body body) g
  after_for a b c d e g body start test step x u is same o q r s k n =
      let inner = compose b c e (perhaps tested test) (both (perhaps unused step) (in_body x)) q
      (compose c d e (perhaps unused step) (in_body x) r (subst (λ (z : Body). Passes p f d (in_body z) e) same s)) in
      subst (λ (z : Found). Passes p f a z g) (sym (at_for body start test step x is))
      (loops a b e g (in_start start) (both (perhaps tested test) (both (perhaps unused step) (in_body x))) o inner k n)

  -- one entry of a block more
  pub entry_more : (start now next : Place) (items : List Entry) (i : ℕ) (x : Entry) (whole : Found) → i < length items → x ≡ get_or items i x →
      ((after : Place) → Passes p f now (found_entries (map in_entry (drop i items))) after → Passes p f start whole after) →
      Passes p f now (in_entry x) next →
      (after : Place) → Passes p f next (found_entries (map in_entry (drop (i + 1) items))) after → Passes p f start whole after
  entry_more start now next items i x whole l e h q after r =
      let d : drop i items ≡ x ∷ drop (i + 1) items =
      drop_more items i x l ∙ ap (λ (z : Entry). z ∷ drop (i + 1) items) (sym e) in
      h after (subst (λ (ys : List Entry). Passes p f now (found_entries (map in_entry ys)) after) (sym d)
      (compose now next after (in_entry x) (found_entries (map in_entry (drop (i + 1) items))) q r))

  at_block : (b : Block) →
      let around = inside (out-Block b).number (map qualified_of (out-Block b).objects)
      in in_block b ≡ record { around = around; found = λ blocks. found_entries (map in_entry (out-Block b).entries) (around blocks) }
  at_block b = fold_out-Block Found Found Opened Opened found_body found_entry found_start found_block b

  -- all of them
  pub entries_all : (a m c : Place) (x : Block) (entries : List Entry) (i : ℕ) → entries ≡ (out-Block x).entries → length entries ≤ i →
      take (length a.around.items) m.around.items ≡ a.around.items → blocks_at m ≡ inside (out-Block x).number (map qualified_of (out-Block x).objects)
      (blocks_at a) → m.count ≡ a.count →
      ((after : Place) → Passes p f c (found_entries (map in_entry (drop i entries))) after → Passes p f m (found_entries (map in_entry entries)) after) →
      Opens p f a (in_block x) c
  entries_all a m c x entries i e l k b n h =
      let none : drop i entries ≡ [] = drop_all i entries l in
      let whole = h c (subst (λ (ys : List Entry). Passes p f c (found_entries (map in_entry ys)) c) (sym none) (still c)) in
      subst (λ (z : Opened). Opens p f a z c) (sym (at_block x))
      (enters a m c (inside (out-Block x).number (map qualified_of (out-Block x).objects)) (found_entries (map in_entry (out-Block x).entries)) k b n
      (subst (λ (ys : List Entry). Passes p f m (found_entries (map in_entry ys)) c) e whole))
