-- The statements that a lawful body is seen as name automatic objects of blocks round the place alone.
use Rattle.std.proofs.Common.{◌≡◌, ℕ, zero, suc, ◌+◌, ◌<◌, Bool, true, false, ◌==◌, if◌then◌else◌, inl, inr, List, [], ◌∷◌, ◌++◌, map, length}
use Rattle.std.proofs.Common.{Option, Some, None, is_some, slice_get, arith, refl, sym, ap, ◌∙◌, subst}
use Rattle.std.specs.List.{All}
use Rattle.std.proofs.lemmas.List.{length-map}
use Rattle.std.proofs.lemmas.List.Elements.{All-nil, All-cons, All-head, All-tail}
use Rattle.c_types.specs.declared.tags.Tag.{Tag}
use Rattle.c_types.specs.declared.ty.Qual.{Qual}
use Rattle.c_types.specs.Types.{Signature, Qualified, qualified_of}
use Rattle.c_typed.specs.declared.tree.Slot.{Slot}
use Rattle.c_typed.specs.declared.tree.Slot.TheVariants as slot
use Rattle.c_typed.specs.declared.tree.Node.TheOpen as shape
use Rattle.c_typed.specs.declared.tree.Typed.{Typed}
use Rattle.c_typed.specs.declared.statement.Body.{Body, fold-Body, fold-roll-Body, map-Body, roll-Body}
use Rattle.c_typed.specs.declared.statement.Body.TheFolds.{ind-Body}
use Rattle.c_typed.specs.declared.statement.Body.TheOpen as form
use Rattle.c_typed.specs.declared.statement.Body.TheOpen.{Body-F, ForStart-F, Block-F, Entry-F}
use Rattle.c_typed.specs.declared.statement.Block.{Block, fold-Block, fold-roll-Block, map-Block, roll-Block}
use Rattle.c_typed.specs.declared.statement.Entry.{Entry, fold-Entry, fold-roll-Entry, map-Entry, roll-Entry}
use Rattle.c_typed.specs.declared.statement.ForStart.{ForStart, fold-ForStart, fold-roll-ForStart, map-ForStart, roll-ForStart}
use Rattle.c_typed.specs.declared.program.Program.{Program}
use Rattle.c_typed.specs.Sites.{Site, sites, Head, Expression, Use, unused, tested, selects, returned, initializes, Blocks, Found, one, both, Opened}
use Rattle.c_typed.specs.Sites.{inside}
use Rattle.c_typed.specs.Sites.{found_body, found_entry, found_start, found_entries, found_block, BlockRow, Summary, summary, summary_step}
use Rattle.c_typed.specs.Sites.{entry_summary}
use Rattle.c_typed.specs.Sites.{start_summary, block_summary, entries_summary, declared_in}
use Rattle.c_typed.specs.Sites as found
use Rattle.c_typed.specs.Lawful.{ExpressionIsLawful, SiteIsLawful, NamesThere, NumberedFrom, object_at, object_of_block}
use Rattle.c_model.specs.Program as model
use Rattle.c_model.specs.Program.{Decl, Expr, Stmt}
use Rattle.program_view.specs.Trees.{expr_of}
use Rattle.program_view.specs.Objects.{decl_of}
use Rattle.program_view.specs.Statements as view
use Rattle.program_view.specs.Statements.{Inner, Loop, in_turn, stmt_of, inner_of, entry_of, loop_of}
use Rattle.frame_laws.specs.Scopes.{Objects, IsAbove, IsBlockIn, IsOneOf, HasObject, IsOpen, AreOpen, ExprFits, PerhapsFits, DeclareFits, Fits, AllFit}
use Rattle.frame_laws.specs.Named.{named_at, all_named}
use Rattle.frame_laws.proofs.NamedNodes.{names_are_seen}

-- 1. What a typed statement holds.

abbrev pub in_body : Body → Found
in_body = fold-Body Found Found Opened Opened found_body found_entry found_start found_block

abbrev in_entry : Entry → Found
in_entry = fold-Entry Found Found Opened Opened found_body found_entry found_start found_block

abbrev in_start : ForStart → Opened
in_start = fold-ForStart Found Found Opened Opened found_body found_entry found_start found_block

abbrev in_block : Block → Opened
in_block = fold-Block Found Found Opened Opened found_body found_entry found_start found_block

abbrev E : Type 0
E = Summary × List ℕ

abbrev of_entry : Entry → E
of_entry = fold-Entry Summary E Summary Summary summary_step entry_summary start_summary block_summary

abbrev of_start : ForStart → Summary
of_start = fold-ForStart Summary E Summary Summary summary_step entry_summary start_summary block_summary

abbrev of_block : Block → Summary
of_block = fold-Block Summary E Summary Summary summary_step entry_summary start_summary block_summary

all_both : {X : Type 0} (P : X → Type 0) (xs ys : List X) → All P (xs ++ ys) → All P xs × All P ys
all_both P [] ys h = (All-nil P, h)
all_both P (x ∷ xs) ys h =
    let rest = all_both P xs ys (All-tail P x (xs ++ ys) h) in
    (All-cons P x xs (All-head P x (xs ++ ys) h) rest.0, rest.1)

there_within : {X : Type 0} (xs : List X) (i : ℕ) → is_some (slice_get xs i) ≡ true → i < length xs
there_within [] i h = absurd (cc (h))
there_within (x ∷ xs) zero h = omega arith
there_within (x ∷ xs) (suc i) h = let r = there_within xs i h in omega (arith, r)

decls_of : (tags : List Tag) (qs : List Qual) → map (λ q. decl_of tags (qualified_of q)) qs ≡ map (decl_of tags) (map qualified_of qs)
decls_of tags [] = refl
decls_of tags (q ∷ qs) = ap (λ ds. decl_of tags (qualified_of q) ∷ ds) (decls_of tags qs)

abbrev objects_or : List Qualified → Option (List Qualified) → List Qualified
objects_or qs None = qs
objects_or qs (Some rs) = rs

-- a block's number has its objects, those that are declared among them
pub record RowIs (tags : List Tag) (objects : Objects) (r : BlockRow) : Type 0 where
  pub objects_are : objects r.number ≡ Some (map (decl_of tags) r.objects)
  pub declares : All (λ d. d < length r.objects) r.declares

module _ (p : Program) (f : Signature) (objects : Objects) where
  abbrev AllLawful : List Expression → Type 0
  AllLawful = All (ExpressionIsLawful p f)

  -- the blocks of a statement in these blocks: they are numbered from this number on, which is higher than those of the blocks round them
  pub record Rows (low : ℕ) (around : List ℕ) (rows : List BlockRow) : Type 0 where
    pub numbered : NumberedFrom low rows
    pub above : IsAbove low around
    pub are : All (RowIs p.tags objects) rows

  -- 2. The blocks round a place.

  abbrev pub AreRound : Blocks → List ℕ → Type 0
  AreRound blocks around = (n : ℕ) (qs : List Qualified) → blocks.objects n ≡ Some qs → IsOneOf n around × (objects n ≡ Some (map (decl_of p.tags) qs))

  round_inside : (number : ℕ) (qs : List Qualified) (blocks : Blocks) (around : List ℕ) → objects number ≡ Some (map (decl_of p.tags) qs)
      → AreRound blocks around → AreRound (inside number qs blocks) (number ∷ around)
  round_inside number qs blocks around is r n rs q = go (n == number) refl q
    where
      go : (b : Bool) → (n == number) ≡ b → (if b then Some qs else blocks.objects n) ≡ Some rs
          → IsOneOf n (number ∷ around) × (objects n ≡ Some (map (decl_of p.tags) rs))
      go true e q =
          let same : number ≡ n = grind (arith, e) in
          let objects_same : qs ≡ rs = ap (objects_or qs) q in
          (inl same, ap objects (sym same) ∙ (is ∙ ap (λ xs. Some (map (decl_of p.tags) xs)) objects_same))
      go false e q = let at = r n rs q in (inr at.0, at.1)

  slot_open : (blocks : Blocks) (around : List ℕ) (s : Slot) → AreRound blocks around → is_some (object_at p blocks s) ≡ true → IsOpen objects around s
  slot_open blocks around (slot.Static n) r h = tt
  slot_open blocks around (slot.Auto b d) r h = go (blocks.objects b) refl h
    where
      go : (o : Option (List Qualified)) → blocks.objects b ≡ o → is_some (object_of_block o d) ≡ true → IsOneOf b around × HasObject d (objects b)
      go None e h = absurd (cc (h))
      go (Some qs) e h =
          let at = r b qs e in
          let P : Option (List Decl) → Type 0 = HasObject d in
          let few : d < length (map (decl_of p.tags) qs) =
          let w = there_within qs d h in let l = length-map qs (decl_of p.tags) in omega (arith, w, l) in
          (at.0, subst P (sym at.1) few)

  node_open : (blocks : Blocks) (around : List ℕ) (h : Head) → AreRound blocks around → NamesThere p blocks h → AreOpen objects around (named_at h)
  node_open blocks around (shape.Obj s) r h = (slot_open blocks around s r h, tt)
  node_open blocks around (shape.List s bytes) r h = (slot_open blocks around s r h, tt)
  node_open blocks around _ r h = tt

  open_both : (around : List ℕ) (xs ys : List Slot) → AreOpen objects around xs → AreOpen objects around ys → AreOpen objects around (xs ++ ys)
  open_both around [] ys a b = b
  open_both around (x ∷ xs) ys a b = (a.0, open_both around xs ys a.1 b)

  sites_open : (blocks : Blocks) (around : List ℕ) (ss : List Site) → AreRound blocks around → All (SiteIsLawful p blocks) ss
      → AreOpen objects around (all_named ss)
  sites_open blocks around [] r a = tt
  sites_open blocks around (s ∷ ss) r a =
      open_both around (named_at s.head) (all_named ss) (node_open blocks around s.head r (All-head (SiteIsLawful p blocks) s ss a).names)
      (sites_open blocks around ss r (All-tail (SiteIsLawful p blocks) s ss a))

  -- 3. One layer.

  abbrev BodyScoped : Body → Type 0
  BodyScoped b = (blocks : Blocks) (around : List ℕ) (low : ℕ) → AreRound blocks around → AllLawful (in_body b blocks) → Rows low around (summary b).blocks
      → Fits objects around (stmt_of p.tags b)

  abbrev Declared : List ℕ → List ℕ → Type 0
  Declared around = All (DeclareFits objects around)

  abbrev EntryScoped : Entry → Type 0
  EntryScoped e = (blocks : Blocks) (around : List ℕ) (low : ℕ) → AreRound blocks around → AllLawful (in_entry e blocks)
      → Rows low around (of_entry e).0.blocks
      → Declared around (of_entry e).1 → Fits objects around (entry_of p.tags e)

  -- whatever follows what a `for` begins with, in the blocks that this opens; further blocks have numbers from `next` on
  record LoopFits (l : Loop) (around : List ℕ) (blocks : Blocks) (next : ℕ) : Type 0 where
    inner : List ℕ
    under : IsAbove next inner
    round : AreRound blocks inner
    fits : (test step : Option Expr) (s : Stmt) → PerhapsFits objects inner test → PerhapsFits objects inner step → Fits objects inner s
        → Fits objects around (l test step s)

  abbrev StartScoped : ForStart → Type 0
  StartScoped s = (blocks : Blocks) (around : List ℕ) (low : ℕ) → AreRound blocks around → AllLawful ((in_start s).found blocks)
      → Rows low around (of_start s).blocks → LoopFits (loop_of p.tags s) around ((in_start s).around blocks) (low + length (of_start s).blocks)

  record BlockFits (i : Inner) (around : List ℕ) (blocks : Blocks) (next : ℕ) : Type 0 where
    is : IsBlockIn objects around i.number i.decls
    under : i.number < next
    fits : AllFit objects (i.number ∷ around) (in_turn i.statements)
    round : AreRound blocks (i.number ∷ around)

  abbrev BlockScoped : Block → Type 0
  BlockScoped b = (blocks : Blocks) (around : List ℕ) (low : ℕ) → AreRound blocks around → AllLawful ((in_block b).found blocks)
      → Rows low around (of_block b).blocks → BlockFits (inner_of p.tags b) around ((in_block b).around blocks) (low + length (of_block b).blocks)

  split : (a b : Found) (blocks : Blocks) → AllLawful (both a b blocks) → AllLawful (a blocks) × AllLawful (b blocks)
  split a b blocks h = all_both (ExpressionIsLawful p f) (a blocks) (b blocks) h

  of_one : (u : Use) (t : Typed) (blocks : Blocks) (around : List ℕ) → AreRound blocks around → AllLawful (one u t blocks)
      → ExprFits objects around (expr_of t)
  of_one u t blocks around r h =
      let e : Expression = record { tree = t; for_use = u; blocks = blocks } in
      let P : List Slot → Type 0 = AreOpen objects around in
      subst P (sym (names_are_seen t)) (sites_open blocks around (sites t) r (All-head (ExpressionIsLawful p f) e [] h).nodes)

  of_perhaps : (u : Use) (o : Option Typed) (blocks : Blocks) (around : List ℕ) → AreRound blocks around → AllLawful (found.perhaps u o blocks)
      → PerhapsFits objects around (view.perhaps o)
  of_perhaps u None blocks around r h = tt
  of_perhaps u (Some t) blocks around r h = of_one u t blocks around r h

  append_fits : (ss : List Stmt) (s : Stmt) (around : List ℕ) → AllFit objects around (in_turn ss) → Fits objects around s
      → AllFit objects around (in_turn (ss ++ s ∷ []))
  append_fits [] s around h k = (k, tt)
  append_fits (x ∷ ss) s around h k = (h.0, append_fits ss s around h.1 k)

  abbrev found_at : Body-F Body Entry ForStart Block → Found
  found_at z = found_body (map-Body Body Entry ForStart Block Found Found Opened Opened in_body in_entry in_start in_block z)

  abbrev held_at : Body-F Body Entry ForStart Block → Summary
  held_at z = summary_step (map-Body Body Entry ForStart Block Summary E Summary Summary summary of_entry of_start of_block z)

  abbrev seen_at : Body-F Body Entry ForStart Block → Stmt
  seen_at z = view.body_step (map-Body Body Entry ForStart Block Stmt Stmt Loop Inner (stmt_of p.tags) (entry_of p.tags) (loop_of p.tags) (inner_of p.tags) z)

  abbrev BodyAt : Body-F Body Entry ForStart Block → Type 0
  BodyAt z = (blocks : Blocks) (around : List ℕ) (low : ℕ) → AreRound blocks around → AllLawful (found_at z blocks) → Rows low around (held_at z).blocks
      → Fits objects around (seen_at z)

  abbrev entry_found : Entry-F Body Entry ForStart Block → Found
  entry_found z = found_entry (map-Entry Body Entry ForStart Block Found Found Opened Opened in_body in_entry in_start in_block z)

  abbrev entry_held : Entry-F Body Entry ForStart Block → E
  entry_held z = entry_summary (map-Entry Body Entry ForStart Block Summary E Summary Summary summary of_entry of_start of_block z)

  abbrev entry_seen : Entry-F Body Entry ForStart Block → Stmt
  entry_seen z =
      view.entry_step (map-Entry Body Entry ForStart Block Stmt Stmt Loop Inner (stmt_of p.tags) (entry_of p.tags) (loop_of p.tags) (inner_of p.tags) z)

  abbrev EntryAt : Entry-F Body Entry ForStart Block → Type 0
  EntryAt z = (blocks : Blocks) (around : List ℕ) (low : ℕ) → AreRound blocks around → AllLawful (entry_found z blocks)
      → Rows low around (entry_held z).0.blocks
      → Declared around (entry_held z).1 → Fits objects around (entry_seen z)

  abbrev start_found : ForStart-F Body Entry ForStart Block → Opened
  start_found z = found_start (map-ForStart Body Entry ForStart Block Found Found Opened Opened in_body in_entry in_start in_block z)

  abbrev start_held : ForStart-F Body Entry ForStart Block → Summary
  start_held z = start_summary (map-ForStart Body Entry ForStart Block Summary E Summary Summary summary of_entry of_start of_block z)

  abbrev start_seen : ForStart-F Body Entry ForStart Block → Loop
  start_seen z =
      view.start_step (map-ForStart Body Entry ForStart Block Stmt Stmt Loop Inner (stmt_of p.tags) (entry_of p.tags) (loop_of p.tags) (inner_of p.tags) z)

  abbrev StartAt : ForStart-F Body Entry ForStart Block → Type 0
  StartAt z = (blocks : Blocks) (around : List ℕ) (low : ℕ) → AreRound blocks around → AllLawful ((start_found z).found blocks)
      → Rows low around (start_held z).blocks → LoopFits (start_seen z) around ((start_found z).around blocks) (low + length (start_held z).blocks)

  abbrev block_found : Block-F Body Entry ForStart Block → Opened
  block_found z = found_block (map-Block Body Entry ForStart Block Found Found Opened Opened in_body in_entry in_start in_block z)

  abbrev block_held : Block-F Body Entry ForStart Block → Summary
  block_held z = block_summary (map-Block Body Entry ForStart Block Summary E Summary Summary summary of_entry of_start of_block z)

  abbrev block_seen : Block-F Body Entry ForStart Block → Inner
  block_seen z = view.block_step p.tags (map-Block Body Entry ForStart Block Stmt Stmt Loop Inner (stmt_of p.tags) (entry_of p.tags) (loop_of p.tags)
      (inner_of p.tags) z)

  abbrev BlockAt : Block-F Body Entry ForStart Block → Type 0
  BlockAt z = (blocks : Blocks) (around : List ℕ) (low : ℕ) → AreRound blocks around → AllLawful ((block_found z).found blocks)
      → Rows low around (block_held z).blocks → BlockFits (block_seen z) around ((block_found z).around blocks) (low + length (block_held z).blocks)

  rolled_body : (z : Body-F Body Entry ForStart Block) → BodyAt z → BodyScoped (roll-Body z)
  rolled_body z h = λ blocks around low r a rows.
      subst (Fits objects around) (sym (fold-roll-Body Stmt Stmt Loop Inner view.body_step view.entry_step view.start_step (view.block_step p.tags) z))
      (h blocks around low r
      (subst (λ (g : Found). AllLawful (g blocks)) (fold-roll-Body Found Found Opened Opened found_body found_entry found_start found_block z) a)
      (subst (λ (s : Summary). Rows low around s.blocks)
      (fold-roll-Body Summary E Summary Summary summary_step entry_summary start_summary block_summary z) rows))

  rolled_entry : (z : Entry-F Body Entry ForStart Block) → EntryAt z → EntryScoped (roll-Entry z)
  rolled_entry z h = λ blocks around low r a rows d.
      let e = fold-roll-Entry Summary E Summary Summary summary_step entry_summary start_summary block_summary z in
      subst (Fits objects around) (sym (fold-roll-Entry Stmt Stmt Loop Inner view.body_step view.entry_step view.start_step (view.block_step p.tags) z))
      (h blocks around low r
      (subst (λ (g : Found). AllLawful (g blocks)) (fold-roll-Entry Found Found Opened Opened found_body found_entry found_start found_block z) a)
      (subst (λ (s : E). Rows low around s.0.blocks) e rows) (subst (λ (s : E). Declared around s.1) e d))

  rolled_start : (z : ForStart-F Body Entry ForStart Block) → StartAt z → StartScoped (roll-ForStart z)
  rolled_start z h = λ blocks around low r a rows.
      let e = fold-roll-ForStart Found Found Opened Opened found_body found_entry found_start found_block z in
      let held = fold-roll-ForStart Summary E Summary Summary summary_step entry_summary start_summary block_summary z in
      let next : Summary → ℕ = λ s. low + length s.blocks in
      subst (λ (s : Summary). LoopFits (loop_of p.tags (roll-ForStart z)) around ((in_start (roll-ForStart z)).around blocks) (next s)) (sym held)
      (subst (λ (l : Loop). LoopFits l around ((in_start (roll-ForStart z)).around blocks) (next (start_held z)))
      (sym (fold-roll-ForStart Stmt Stmt Loop Inner view.body_step view.entry_step view.start_step (view.block_step p.tags) z))
      (subst (λ (g : Opened). LoopFits (start_seen z) around (g.around blocks) (next (start_held z))) (sym e)
      (h blocks around low r (subst (λ (g : Opened). AllLawful (g.found blocks)) e a) (subst (λ (s : Summary). Rows low around s.blocks) held rows))))

  rolled_block : (z : Block-F Body Entry ForStart Block) → BlockAt z → BlockScoped (roll-Block z)
  rolled_block z h = λ blocks around low r a rows.
      let e = fold-roll-Block Found Found Opened Opened found_body found_entry found_start found_block z in
      let held = fold-roll-Block Summary E Summary Summary summary_step entry_summary start_summary block_summary z in
      let next : Summary → ℕ = λ s. low + length s.blocks in
      subst (λ (s : Summary). BlockFits (inner_of p.tags (roll-Block z)) around ((in_block (roll-Block z)).around blocks) (next s)) (sym held)
      (subst (λ (i : Inner). BlockFits i around ((in_block (roll-Block z)).around blocks) (next (block_held z)))
      (sym (fold-roll-Block Stmt Stmt Loop Inner view.body_step view.entry_step view.start_step (view.block_step p.tags) z))
      (subst (λ (g : Opened). BlockFits (block_seen z) around (g.around blocks) (next (block_held z))) (sym e)
      (h blocks around low r (subst (λ (g : Opened). AllLawful (g.found blocks)) e a) (subst (λ (s : Summary). Rows low around s.blocks) held rows))))

  -- the parts, each with what holds of it
  abbrev ScopedBody : Type 0
  ScopedBody = (b : Body) × BodyScoped b

  abbrev ScopedEntry : Type 0
  ScopedEntry = (e : Entry) × EntryScoped e

  abbrev ScopedStart : Type 0
  ScopedStart = (s : ForStart) × StartScoped s

  abbrev ScopedBlock : Type 0
  ScopedBlock = (b : Block) × BlockScoped b

  numbered_both : (low : ℕ) (a b : List BlockRow) → NumberedFrom low (a ++ b) → NumberedFrom low a × NumberedFrom (low + length a) b
  numbered_both low [] b h = let same : low ≡ low + 0 = omega arith in (tt, subst (λ (n : ℕ). NumberedFrom n b) same h)
  numbered_both low (x ∷ a) b h =
      let rest = numbered_both (1 + low) a b h.1 in
      let same : (1 + low) + length a ≡ low + length (x ∷ a) = omega arith in
      ((h.0, rest.0), subst (λ (n : ℕ). NumberedFrom n b) same rest.1)

  above_more : (low more : ℕ) (around : List ℕ) → IsAbove low around → IsAbove (low + more) around
  above_more low more [] h = tt
  above_more low more (o ∷ os) h = omega (arith, h)

  rows_both : (low : ℕ) (around : List ℕ) (a b : List BlockRow) → Rows low around (a ++ b) → Rows low around a × Rows (low + length a) around b
  rows_both low around a b h =
      let n = numbered_both low a b h.numbered in
      let all = all_both (RowIs p.tags objects) a b h.are in (
        record { numbered = n.0; above = h.above; are = all.0 },
        record { numbered = n.1; above = above_more low (length a) around h.above; are = all.1 },
      )

  -- .. in the blocks that a loop opens
  rows_in : (low : ℕ) (around inner : List ℕ) (rows : List BlockRow) → IsAbove low inner → Rows low around rows → Rows low inner rows
  rows_in low around inner rows above h = record { numbered = h.numbered; above = above; are = h.are }

  at_body : (y : Body-F ScopedBody ScopedEntry ScopedStart ScopedBlock)
      → BodyAt (map-Body ScopedBody ScopedEntry ScopedStart ScopedBlock Body Entry ForStart Block (λ e. e.0) (λ e. e.0) (λ e. e.0) (λ e. e.0) y)
  at_body (form.Simple None) = λ blocks around low r a rows. tt
  at_body (form.Simple (Some t)) = λ blocks around low r a rows. of_one unused t blocks around r a
  at_body (form.Block b) = λ blocks around low r a rows. let i = b.1 blocks around low r a rows in (i.is, i.fits)
  at_body (form.If t b None) = λ blocks around low r a rows.
      let s = split (one tested t) (both (in_body b.0) (λ z. [])) blocks a in
      (of_one tested t blocks around r s.0, b.1 blocks around low r (split (in_body b.0) (λ z. []) blocks s.1).0 rows)
  at_body (form.If t b (Some c)) = λ blocks around low r a rows.
      let s = split (one tested t) (both (in_body b.0) (in_body c.0)) blocks a in
      let q = split (in_body b.0) (in_body c.0) blocks s.1 in
      let each = rows_both low around (summary b.0).blocks (summary c.0).blocks rows in
      (of_one tested t blocks around r s.0, b.1 blocks around low r q.0 each.0, c.1 blocks around (low + length (summary b.0).blocks) r q.1 each.1)
  at_body (form.Switch t b) = λ blocks around low r a rows.
      let s = split (one selects t) (in_body b.0) blocks a in
      (of_one selects t blocks around r s.0, b.1 blocks around low r s.1 rows)
  at_body (form.While t b) = λ blocks around low r a rows.
      let s = split (one tested t) (in_body b.0) blocks a in
      (tt, of_one tested t blocks around r s.0, tt, b.1 blocks around low r s.1 rows)
  at_body (form.Do b t) = λ blocks around low r a rows.
      let s = split (in_body b.0) (one tested t) blocks a in
      (of_one tested t blocks around r s.1, b.1 blocks around low r s.0 rows)
  at_body (form.For start test step b) = λ blocks around low r a rows.
      let opens = (in_start start.0).around in
      let s = split (in_start start.0).found (λ z. both (found.perhaps tested test) (both (found.perhaps unused step) (in_body b.0)) (opens z)) blocks a in
      let u = split (found.perhaps tested test) (both (found.perhaps unused step) (in_body b.0)) (opens blocks) s.1 in
      let q = split (found.perhaps unused step) (in_body b.0) (opens blocks) u.1 in
      let each = rows_both low around (of_start start.0).blocks (summary b.0).blocks rows in
      let next = low + length (of_start start.0).blocks in
      let l = start.1 blocks around low r s.0 each.0 in
      l.fits (view.perhaps test) (view.perhaps step) (stmt_of p.tags b.0) (of_perhaps tested test (opens blocks) l.inner l.round u.0)
      (of_perhaps unused step (opens blocks) l.inner l.round q.0)
      (b.1 (opens blocks) l.inner next l.round q.1 (rows_in next around l.inner (summary b.0).blocks l.under each.1))
  at_body (form.Goto k) = λ blocks around low r a rows. tt
  at_body form.Continue = λ blocks around low r a rows. tt
  at_body form.Break = λ blocks around low r a rows. tt
  at_body (form.Return None) = λ blocks around low r a rows. tt
  at_body (form.Return (Some t)) = λ blocks around low r a rows. of_one returned t blocks around r a
  at_body (form.Label k b) = λ blocks around low r a rows. b.1 blocks around low r a rows
  at_body (form.Case z b) = λ blocks around low r a rows. b.1 blocks around low r a rows
  at_body (form.Default b) = λ blocks around low r a rows. b.1 blocks around low r a rows

  at_entry : (y : Entry-F ScopedBody ScopedEntry ScopedStart ScopedBlock)
      → EntryAt (map-Entry ScopedBody ScopedEntry ScopedStart ScopedBlock Body Entry ForStart Block (λ e. e.0) (λ e. e.0) (λ e. e.0) (λ e. e.0) y)
  at_entry (form.Statement b) = λ blocks around low r a rows d. b.1 blocks around low r a rows
  at_entry (form.Initializer t) = λ blocks around low r a rows d. of_one initializes t blocks around r a
  at_entry (form.Declare n) = λ blocks around low r a rows d. All-head (DeclareFits objects around) n [] d

  at_start : (y : ForStart-F ScopedBody ScopedEntry ScopedStart ScopedBlock)
      → StartAt (map-ForStart ScopedBody ScopedEntry ScopedStart ScopedBlock Body Entry ForStart Block (λ e. e.0) (λ e. e.0) (λ e. e.0) (λ e. e.0) y)
  at_start form.Empty = λ blocks around low r a rows.
      record { inner = around; under = above_more low 0 around rows.above; round = r; fits = λ test step s h k l. (tt, h, k, l) }
  at_start (form.Value t) = λ blocks around low r a rows.
      record {
        inner = around;
        under = above_more low 0 around rows.above;
        round = r;
        fits = λ test step s h k l. (of_one unused t blocks around r a, h, k, l);
      }
  at_start (form.Declared b) = λ blocks around low r a rows.
      let i = b.1 blocks around low r a rows in
      let own = inner_of p.tags b.0 in
      record {
        inner = own.number ∷ around;
        under = i.under;
        round = i.round;
        fits = λ test step s h k l. (i.is, append_fits own.statements (model.For None test step s) (own.number ∷ around) i.fits (tt, h, k, l));
      }

  entries_scoped : (es : List ScopedEntry) (blocks : Blocks) (around : List ℕ) (low : ℕ) → AreRound blocks around
      → AllLawful (found_entries (map in_entry (map (λ (e : ScopedEntry). e.0) es)) blocks)
      → Rows low around (entries_summary (map of_entry (map (λ (e : ScopedEntry). e.0) es))).blocks
      → Declared around (declared_in (map of_entry (map (λ (e : ScopedEntry). e.0) es)))
      → AllFit objects around (in_turn (map (entry_of p.tags) (map (λ (e : ScopedEntry). e.0) es)))
  entries_scoped [] blocks around low r a rows d = tt
  entries_scoped (e ∷ es) blocks around low r a rows d =
      let rest = map (λ (x : ScopedEntry). x.0) es in
      let s = split (in_entry e.0) (found_entries (map in_entry rest)) blocks a in
      let each = rows_both low around (of_entry e.0).0.blocks (entries_summary (map of_entry rest)).blocks rows in
      let ds = all_both (DeclareFits objects around) (of_entry e.0).1 (declared_in (map of_entry rest)) d in
      (e.1 blocks around low r s.0 each.0 ds.0, entries_scoped es blocks around (low + length (of_entry e.0).0.blocks) r s.1 each.1 ds.1)

  declared_within : (number : ℕ) (around : List ℕ) (qs : List Qualified) (ds : List ℕ) → objects number ≡ Some (map (decl_of p.tags) qs)
      → All (λ d. d < length qs) ds → Declared (number ∷ around) ds
  declared_within number around qs [] is a = All-nil (DeclareFits objects (number ∷ around))
  declared_within number around qs (d ∷ ds) is a =
      let W : ℕ → Type 0 = λ x. x < length qs in
      let P : Option (List Decl) → Type 0 = HasObject d in
      let few : d < length (map (decl_of p.tags) qs) =
      let w = All-head W d ds a in let l = length-map qs (decl_of p.tags) in omega (arith, w, l) in
      All-cons (DeclareFits objects (number ∷ around)) d ds (subst P (sym is) few) (declared_within number around qs ds is (All-tail W d ds a))

  at_block : (y : Block-F ScopedBody ScopedEntry ScopedStart ScopedBlock)
      → BlockAt (map-Block ScopedBody ScopedEntry ScopedStart ScopedBlock Body Entry ForStart Block (λ e. e.0) (λ e. e.0) (λ e. e.0) (λ e. e.0) y)
  at_block y = λ blocks around low r a rows.
      let qs = map qualified_of y.objects in
      let entries = map of_entry (map (λ (e : ScopedEntry). e.0) y.entries) in
      let row : BlockRow = record { number = y.number; objects = qs; declares = declared_in entries } in
      let inner = (entries_summary entries).blocks in
      let first = All-head (RowIs p.tags objects) row inner rows.are in
      let number : y.number ≡ low = rows.numbered.0 in
      let here = round_inside y.number qs blocks around first.objects_are r in
      record {
        is = record {
          declares = first.objects_are ∙ ap Some (sym (decls_of p.tags y.objects));
          above = subst (λ (n : ℕ). IsAbove n around) (sym number) rows.above;
        };
        under = omega (arith, number);
        fits = entries_scoped y.entries (inside y.number qs blocks) (y.number ∷ around) (1 + low) here a
            (record { numbered = rows.numbered.1; above = omega (arith, number); are = All-tail (RowIs p.tags objects) row inner rows.are })
            (declared_within y.number around qs (declared_in entries) first.objects_are first.declares);
        round = here;
      }

  pub body_scoped : (b : Body) → BodyScoped b
  body_scoped = ind-Body BodyScoped EntryScoped StartScoped BlockScoped
      (λ x y is. rolled_body x (subst BodyAt is (at_body y)))
      (λ x y is. rolled_entry x (subst EntryAt is (at_entry y)))
      (λ x y is. rolled_start x (subst StartAt is (at_start y)))
      (λ x y is. rolled_block x (subst BlockAt is (at_block y)))
