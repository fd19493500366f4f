-- What each form of statement holds, from the statements inside it.
use Rattle.std.proofs.Common.{◌≡◌, ℕ, ℤ, ◌+◌, ◌<◌, ◌≤◌, ◌^◌, List, [], ◌∷◌, ◌++◌, length, get_or, drop, map, Option, Some, sym, ap, ◌∙◌, subst}
use Rattle.std.specs.List.{All}
use Rattle.std.proofs.lemmas.List.{drop_more, drop_all, length-map}
use Rattle.std.proofs.lemmas.List.Elements.{All-append, All-nil}
use Rattle.c_types.specs.declared.tags.Tag.{Tag}
use Rattle.c_types.specs.declared.ty.Qual.{Qual}
use Rattle.c_types.specs.Types.{Qualified, qualified_of}
use Rattle.c_typed.specs.declared.tree.Typed.{Typed}
use Rattle.c_typed.specs.declared.statement.Body.{Body, fold-roll-Body}
use Rattle.c_typed.specs.declared.statement.Body.TheOpen as form
use Rattle.c_typed.specs.declared.statement.Body.TheVariants as bodies
use Rattle.c_typed.specs.declared.statement.ForStart.{ForStart}
use Rattle.c_typed.specs.declared.statement.Block.{Block, out-Block, fold_out-Block}
use Rattle.c_typed.specs.declared.statement.Entry.{Entry}
use Rattle.c_typed.specs.Sites.{Summary, summary, summary_step, entry_summary, start_summary, block_summary, entries_summary, declared_in, and, looped}
use Rattle.c_typed.specs.Lawful.{BlockIsLawful, IsSized}
use Rattle.lawful_bodies.specs.declared.found.Found.{Found}
use Rattle.lawful_bodies.specs.declared.found.Inside.{Inside}
use Rattle.lawful_bodies.specs.Statements.{Follows, start_found, entry_found, block_found}
use Rattle.lawful_bodies.proofs.Follow.{compose, loop, labelled, cased, still, block}

at_if : (body : Body) (t : Typed) (a b : Body) (o : Option Body) → body ≡ bodies.If t a o → o ≡ Some b → summary body ≡ and (summary a) (summary b)
at_if body t a b o e f =
    ap summary (e ∙ (ap (λ z. bodies.If t a z) f ∙ sym (bodies.rolls-If t a (Some b))))
    ∙ fold-roll-Body Summary (Summary × List ℕ) Summary Summary summary_step entry_summary start_summary block_summary (form.If t a (Some b))

at_for : (body : Body) (start : ForStart) (test step : Option Typed) (a : Body) → body ≡ bodies.For start test step a →
    summary body ≡ and (start_found start) (looped (summary a))
at_for body start test step a e =
    ap summary (e ∙ sym (bodies.rolls-For start test step a))
    ∙ fold-roll-Body Summary (Summary × List ℕ) Summary Summary summary_step entry_summary start_summary block_summary (form.For start test step a)

at_label : (body : Body) (label : ℕ) (a : Body) → body ≡ bodies.Label label a → summary body ≡ record (summary a) { labels = label ∷ (summary a).labels }
at_label body label a e =
    ap summary (e ∙ sym (bodies.rolls-Label label a))
    ∙ fold-roll-Body Summary (Summary × List ℕ) Summary Summary summary_step entry_summary start_summary block_summary (form.Label label a)

at_case : (body : Body) (value : ℤ) (a : Body) → body ≡ bodies.Case value a → summary body ≡ record (summary a) { cases = value ∷ (summary a).cases }
at_case body value a e =
    ap summary (e ∙ sym (bodies.rolls-Case value a))
    ∙ fold-roll-Body Summary (Summary × List ℕ) Summary Summary summary_step entry_summary start_summary block_summary (form.Case value a)

module _ (tags : List Tag) (inside : Inside) (a b c : Found) where
  pub after_if : (body : Body) (t : Typed) (x y u v : Body) (o : Option Body) → body ≡ bodies.If t x o → o ≡ Some y → u ≡ x → v ≡ y →
      Follows tags inside a (summary u) b → Follows tags inside b (summary v) c → Follows tags inside a (summary body) c
  after_if body t x y u v o e f g h p q =
      let whole = at_if body t x y o e f in
      subst (λ (z : Summary). Follows tags inside a z c) (sym whole)
      (compose tags inside a b c (summary x) (summary y) (subst (λ (z : Body). Follows tags inside a (summary z) b) g p)
      (subst (λ (z : Body). Follows tags inside b (summary z) c) h q))

  pub after_for : (within : Inside) (body : Body) (start : ForStart) (test step : Option Typed) (x u : Body) → body ≡ bodies.For start test step x → u ≡ x →
      Follows tags inside a (start_found start) b → Follows tags within b (summary u) c → Follows tags inside a (summary body) c
  after_for within body start test step x u e g p q =
      subst (λ (z : Summary). Follows tags inside a z c) (sym (at_for body start test step x e))
      (compose tags inside a b c (start_found start) (looped (summary x)) p
      (loop tags inside within b c (summary x) (subst (λ (z : Body). Follows tags within b (summary z) c) g q)))

  pub after_label : (body : Body) (label : ℕ) (x u : Body) → body ≡ bodies.Label label x → u ≡ x → b ≡ record a { labels = a.labels ++ label ∷ [] } →
      Follows tags inside b (summary u) c → Follows tags inside a (summary body) c
  after_label body label x u e g m q =
      subst (λ (z : Summary). Follows tags inside a z c) (sym (at_label body label x e))
      (labelled tags inside a b c (summary x) label m (subst (λ (z : Body). Follows tags inside b (summary z) c) g q))

  pub after_case : (body : Body) (value : ℤ) (x u : Body) → body ≡ bodies.Case value x → u ≡ x → b ≡ record a { cases = a.cases ++ value ∷ [] } →
      Follows tags inside b (summary u) c → Follows tags inside a (summary body) c
  after_case body value x u e g m q =
      subst (λ (z : Summary). Follows tags inside a z c) (sym (at_case body value x e))
      (cased tags inside a b c (summary x) value m (subst (λ (z : Body). Follows tags inside b (summary z) c) g q))

-- what is left of a block's entries at a place
next_of : (items : List Entry) (i : ℕ) (x : Entry) → i < length items → x ≡ get_or items i x → drop i items ≡ x ∷ drop (i + 1) items
next_of items i x l e = drop_more items i x l ∙ ap (λ (z : Entry). z ∷ drop (i + 1) items) (sym e)

-- one entry more is seen
pub entry_found_more : (tags : List Tag) (inside : Inside) (start now next : Found) (items : List Entry) (i : ℕ) (x : Entry) (whole : Summary) →
    i < length items → x ≡ get_or items i x →
    ((after : Found) → Follows tags inside now (entries_summary (map entry_found (drop i items))) after → Follows tags inside start whole after) →
    Follows tags inside now (entry_found x).0 next →
    (after : Found) → Follows tags inside next (entries_summary (map entry_found (drop (i + 1) items))) after → Follows tags inside start whole after
entry_found_more tags inside start now next items i x whole l e h p after q =
    h after (subst (λ (ys : List Entry). Follows tags inside now (entries_summary (map entry_found ys)) after) (sym (next_of items i x l e))
    (compose tags inside now next after (entry_found x).0 (entries_summary (map entry_found (drop (i + 1) items))) p q))

pub entry_declared_more : (P : ℕ → Type 0) (items : List Entry) (i : ℕ) (x : Entry) (whole : Type 0) → i < length items → x ≡ get_or items i x →
    (All P (declared_in (map entry_found (drop i items))) → whole) → All P (entry_found x).1 →
    All P (declared_in (map entry_found (drop (i + 1) items))) → whole
entry_declared_more P items i x whole l e h p q =
    h (subst (λ (ys : List Entry). All P (declared_in (map entry_found ys))) (sym (next_of items i x l e))
    (All-append P (entry_found x).1 (declared_in (map entry_found (drop (i + 1) items))) p q))

-- all of them are seen
at_block : (b : Block) →
    let inner = entries_summary (map entry_found (out-Block b).entries)
    in block_found b ≡ record inner {
      blocks = record {
        number = (out-Block b).number;
        objects = map qualified_of (out-Block b).objects;
        declares = declared_in (map entry_found (out-Block b).entries);
      } ∷ inner.blocks;
    }
at_block b = fold_out-Block Summary (Summary × List ℕ) Summary Summary summary_step entry_summary start_summary block_summary b

row_is_lawful : (tags : List Tag) (number : ℕ) (objects : List Qual) (declares : List ℕ) →
    All (λ (q : Qualified). IsSized tags q.ty) (map qualified_of objects) → All (λ decl. decl < length objects) declares → length objects < 2 ^ 32 →
    BlockIsLawful tags (record { number = number; objects = map qualified_of objects; declares = declares })
row_is_lawful tags number objects declares sized declared few =
    let e : length (map qualified_of objects) ≡ length objects = length-map objects qualified_of in
    record {
      objects = sized;
      declared = subst (λ (n : ℕ). All (λ decl. decl < n) declares) (sym e) declared;
      few = subst (λ (n : ℕ). n < 2 ^ 32) (sym e) few;
    }

pub block_found_all : (tags : List Tag) (inside : Inside) (a m b : Found) (x : Block) (objects : List Qual) (entries : List Entry) (i count : ℕ) →
    objects ≡ (out-Block x).objects → entries ≡ (out-Block x).entries → length entries ≤ i → count ≡ length (out-Block x).objects →
    (out-Block x).number ≡ a.next → m ≡ record a { next = a.next + 1 } → All (λ (q : Qualified). IsSized tags q.ty) (map qualified_of objects) →
    length objects < 2 ^ 32 →
    ((after : Found) → Follows tags inside b (entries_summary (map entry_found (drop i entries))) after →
    Follows tags inside m (entries_summary (map entry_found entries)) after) →
    (All (λ decl. decl < count) (declared_in (map entry_found (drop i entries))) → All (λ decl. decl < count) (declared_in (map entry_found entries))) →
    Follows tags inside a (block_found x) b
block_found_all tags inside a m b x objects entries i count o e l n number f sized few found declared =
    let none : drop i entries ≡ [] = drop_all i entries l in
    let inner = found b (subst (λ (ys : List Entry). Follows tags inside b (entries_summary (map entry_found ys)) b) (sym none) (still tags inside b)) in
    let names = declared (subst (λ (ys : List Entry). All (λ decl. decl < count) (declared_in (map entry_found ys))) (sym none)
    (All-nil (λ decl. decl < count))) in
    let few' : length (out-Block x).objects < 2 ^ 32 = subst (λ (ys : List Qual). length ys < 2 ^ 32) o few in
    let sized' = subst (λ (ys : List Qual). All (λ (q : Qualified). IsSized tags q.ty) (map qualified_of ys)) o sized in
    let names' = subst (λ (k : ℕ). All (λ decl. decl < k) (declared_in (map entry_found (out-Block x).entries))) n
    (subst (λ (ys : List Entry). All (λ decl. decl < count) (declared_in (map entry_found ys))) e names) in
    let inner' = subst (λ (ys : List Entry). Follows tags inside m (entries_summary (map entry_found ys)) b) e inner in
    let declares = declared_in (map entry_found (out-Block x).entries) in
    subst (λ (z : Summary). Follows tags inside a z b) (sym (at_block x))
    (block tags inside a m b (entries_summary (map entry_found (out-Block x).entries))
    (record { number = (out-Block x).number; objects = map qualified_of (out-Block x).objects; declares = declares })
    number f (row_is_lawful tags (out-Block x).number (out-Block x).objects declares sized' names' few') inner')
