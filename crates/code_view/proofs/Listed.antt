-- The constants of the initializer lists of a lawful program are lawful.
use Rattle.std.proofs.Common.{◌≡◌, Bool, List, [], ◌∷◌, ◌++◌, map, sym, ap, subst, ◌∙◌}
use Rattle.std.specs.List.{All}
use Rattle.std.proofs.lemmas.List.Elements.{All-nil, All-cons, All-head, All-tail, All-append, All-weaker}
use Rattle.c_types.specs.Types.{CType, Signature, type_of}
use Rattle.c_typed.specs.declared.program.Program.{Program}
use Rattle.c_typed.specs.declared.tree.Access.{Access}
use Rattle.c_typed.specs.declared.tree.Slot.{Slot}
use Rattle.c_typed.specs.declared.tree.Node.{Node, fold-Node, fold_out-Node, map-Node}
use Rattle.c_typed.specs.declared.tree.Node.TheOpen as shape
use Rattle.c_typed.specs.declared.tree.Typed.{Typed, out-Typed, fold_out-Typed}
use Rattle.c_typed.specs.Lawful.{IsPlain, IsPlainTree, Root, root_of, operands_of, IsOwnObject, IsObject, IsPart, StoresPart, IsListed, Initializes}
use Rattle.c_typed.specs.Lawful.{SiteIsLawful, InitialFits, ExpressionIsLawful}
use Rattle.c_typed.specs.Sites.{Head, Site, Seen, SeenNode, seen_node, seen_tree, type_seen, all_sites, seen, sites, Blocks, Expression, Use}
use Rattle.c_typed.specs.Sites.{unused, tested, selects, returned, initializes}
use Rattle.run_layout.specs.Fitting.{AreLawful}
use Rattle.code_view.proofs.Viewed.{all_both}

-- the constants of an initializer list are lawful
abbrev pub HeadLists : Program → Head → Type 0
HeadLists p (shape.List slot bytes) = AreLawful p bytes
HeadLists p _ = Unit {0}

abbrev Lists : Program → Site → Type 0
Lists p s = HeadLists p s.head

abbrev sites_seen : Seen → List Site
sites_seen s = s.sites

-- a root as the node above sees it
abbrev pub seen_root : Root → SeenNode
seen_root z = seen_node (map-Node Node Typed SeenNode Seen (fold-Node SeenNode Seen seen_node seen_tree) seen z)

-- the nodes of a tree with this root and these operands
abbrev pub opened : Root → CType → List Typed → List Site
opened z ty ts =
    record { head = (seen_root z).head; ty = ty; operands = map type_seen (map seen ts) } ∷ ((seen_root z).inner ++ all_sites (map seen ts))

abbrev by_node : Typed → SeenNode → List Site
by_node t n =
    let ss = map seen (out-Typed t).children in
    record { head = n.head; ty = type_of (out-Typed t).ty; operands = map type_seen ss } ∷ (n.inner ++ all_sites ss)

pub sites_of : (t : Typed) → sites t ≡ opened (root_of t) (type_of (out-Typed t).ty) (operands_of t)
sites_of t =
    ap sites_seen (fold_out-Typed SeenNode Seen seen_node seen_tree t)
    ∙ ap (by_node t) (fold_out-Node SeenNode Seen seen_node seen_tree (out-Typed t).node)

plain_lists : (p : Program) (s : Site) → IsPlain s.head → Lists p s
plain_lists p s h = by_head s.head h
  where
    by_head : (k : Head) → IsPlain k → HeadLists p k
    by_head (shape.List slot bytes) h = absurd h
    by_head _ h = tt

plain_tree : (p : Program) (t : Typed) → IsPlainTree t → All (Lists p) (sites t)
plain_tree p t h = All-weaker (λ s. IsPlain s.head) (Lists p) (plain_lists p) (sites t) h

-- an object that is named has no operands
abbrev IsNamed : Root → Type 0
IsNamed (shape.Obj slot) = Unit {0}
IsNamed _ = ⊥

own_named : (blocks : Blocks) (z : Root) → IsOwnObject blocks z → IsNamed z
own_named blocks (shape.Obj slot) h = tt
own_named blocks _ h = absurd h

part_named : (slot : Slot) (z : Root) → IsObject slot z → IsNamed z
part_named slot (shape.Obj named) h = tt
part_named slot _ h = absurd h

no_lists : (p : Program) (blocks : Blocks) (z : Root) (ty : CType) (ts : List Typed) → All (SiteIsLawful p blocks) (opened z ty ts) → IsNamed z
    → All (Lists p) (opened z ty ts)
no_lists p blocks (shape.Obj slot) ty [] h n =
    let s : Site = record { head = shape.Obj slot; ty = ty; operands = [] } in All-cons (Lists p) s [] tt (All-nil (Lists p))
no_lists p blocks (shape.Obj slot) ty (t ∷ ts) h n =
    let s : Site = record { head = shape.Obj slot; ty = ty; operands = map type_seen (map seen (t ∷ ts)) } in
    let there = All-head (SiteIsLawful p blocks) s (all_sites (map seen (t ∷ ts))) h in
    let is = there.operands in absurd (cc)
no_lists p blocks _ ty ts h n = absurd n

module _ (p : Program) (blocks : Blocks) where
  abbrev Good : List Site → Type 0
  Good = All (SiteIsLawful p blocks)

  abbrev Fine : List Site → Type 0
  Fine = All (Lists p)

  by_opened : (t : Typed) → Good (sites t) → Good (opened (root_of t) (type_of (out-Typed t).ty) (operands_of t))
  by_opened t h = subst Good (sites_of t) h

  of_opened : (t : Typed) → Fine (opened (root_of t) (type_of (out-Typed t).ty) (operands_of t)) → Fine (sites t)
  of_opened t h = subst Fine (sym (sites_of t)) h

  named_tree : (t : Typed) → Good (sites t) → IsNamed (root_of t) → Fine (sites t)
  named_tree t h n = of_opened t (no_lists p blocks (root_of t) (type_of (out-Typed t).ty) (operands_of t) (by_opened t h) n)

  part_sites : (slot : Slot) (z : Root) (ty : CType) (ts : List Typed) → Good (opened z ty ts) → IsPart slot z ts → Fine (opened z ty ts)
  part_sites slot (shape.Member offset) ty (object ∷ []) h k =
      let s : Site = record { head = shape.Member offset; ty = ty; operands = type_seen (seen object) ∷ [] } in
      let below = all_both (SiteIsLawful p blocks) (sites object) [] (All-tail (SiteIsLawful p blocks) s (sites object ++ []) h) in
      All-cons (Lists p) s (sites object ++ []) tt
      (All-append (Lists p) (sites object) [] (named_tree object below.0 (part_named slot (root_of object) k)) (All-nil (Lists p)))
  part_sites slot (shape.Member offset) ty [] h k = absurd k
  part_sites slot (shape.Member offset) ty (a ∷ b ∷ ts) h k = absurd k
  part_sites slot _ ty ts h k = absurd k

  -- an assignment to a place
  to_place : (first : Bool) (how : Access) (ty : CType) (place value : Typed) → Fine (sites place) → IsPlainTree value
      → Fine (opened (shape.Assign first how) ty (place ∷ value ∷ []))
  to_place first how ty place value h k =
      let s : Site = record { head = shape.Assign first how; ty = ty; operands = type_seen (seen place) ∷ (type_seen (seen value) ∷ []) } in
      All-cons (Lists p) s (sites place ++ (sites value ++ [])) tt
      (All-append (Lists p) (sites place) (sites value ++ []) h
      (All-append (Lists p) (sites value) [] (plain_tree p value k) (All-nil (Lists p))))

  place_good : (first : Bool) (how : Access) (ty : CType) (place value : Typed) → Good (opened (shape.Assign first how) ty (place ∷ value ∷ []))
      → Good (sites place)
  place_good first how ty place value h =
      let s : Site = record { head = shape.Assign first how; ty = ty; operands = type_seen (seen place) ∷ (type_seen (seen value) ∷ []) } in
      (all_both (SiteIsLawful p blocks) (sites place) (sites value ++ []) (All-tail (SiteIsLawful p blocks) s (sites place ++ (sites value ++ [])) h)).0

  stored_sites : (slot : Slot) (z : Root) (ty : CType) (ts : List Typed) → Good (opened z ty ts) → StoresPart slot z ts → Fine (opened z ty ts)
  stored_sites slot (shape.Assign first how) ty (place ∷ value ∷ []) h k =
      let good = place_good first how ty place value h in
      to_place first how ty place value
      (of_opened place (part_sites slot (root_of place) (type_of (out-Typed place).ty) (operands_of place) (by_opened place good) k.1)) k.2
  stored_sites slot (shape.Assign first how) ty [] h k = absurd k
  stored_sites slot (shape.Assign first how) ty (a ∷ []) h k = absurd k
  stored_sites slot (shape.Assign first how) ty (a ∷ b ∷ c ∷ ts) h k = absurd k
  stored_sites slot _ ty ts h k = absurd k

  listed_sites : (slot : Slot) (z : Root) (ty : CType) (ts : List Typed) → Good (opened z ty ts) → IsListed slot z → Fine (opened z ty ts)
  listed_sites slot (shape.Isolated tree) ty [] h k =
      let s : Site = record { head = shape.Isolated tt; ty = ty; operands = [] } in
      let below = all_both (SiteIsLawful p blocks) (sites tree) [] (All-tail (SiteIsLawful p blocks) s (sites tree ++ []) h) in
      All-cons (Lists p) s (sites tree ++ []) tt
      (All-append (Lists p) (sites tree) []
      (of_opened tree (stored_sites slot (root_of tree) (type_of (out-Typed tree).ty) (operands_of tree) (by_opened tree below.0) k)) (All-nil (Lists p)))
  listed_sites slot (shape.Isolated tree) ty (t ∷ ts) h k =
      let s : Site = record { head = shape.Isolated tt; ty = ty; operands = map type_seen (map seen (t ∷ ts)) } in
      let there = All-head (SiteIsLawful p blocks) s (sites tree ++ all_sites (map seen (t ∷ ts))) h in
      let is = there.operands in absurd (cc)
  listed_sites slot _ ty ts h k = absurd k

  each_listed : (slot : Slot) (ts : List Typed) → Good (all_sites (map seen ts)) → All (λ t. IsListed slot (root_of t)) ts → Fine (all_sites (map seen ts))
  each_listed slot [] h k = All-nil (Lists p)
  each_listed slot (t ∷ ts) h k =
      let two = all_both (SiteIsLawful p blocks) (sites t) (all_sites (map seen ts)) h in
      All-append (Lists p) (sites t) (all_sites (map seen ts))
      (of_opened t (listed_sites slot (root_of t) (type_of (out-Typed t).ty) (operands_of t) (by_opened t two.0)
      (All-head (λ x. IsListed slot (root_of x)) t ts k)))
      (each_listed slot ts two.1 (All-tail (λ x. IsListed slot (root_of x)) t ts k))

  initial_sites : (z : Root) (ty : CType) (ts : List Typed) → Good (opened z ty ts) → Initializes p blocks z ts → Fine (opened z ty ts)
  initial_sites (shape.Assign first how) ty (place ∷ value ∷ []) h k =
      to_place first how ty place value (named_tree place (place_good first how ty place value h) (own_named blocks (root_of place) k.1)) k.2
  initial_sites (shape.Assign first how) ty [] h k = absurd k
  initial_sites (shape.Assign first how) ty (a ∷ []) h k = absurd k
  initial_sites (shape.Assign first how) ty (a ∷ b ∷ c ∷ ts) h k = absurd k
  initial_sites (shape.List slot bytes) ty ts h k =
      let s : Site = record { head = shape.List slot bytes; ty = ty; operands = map type_seen (map seen ts) } in
      All-cons (Lists p) s (all_sites (map seen ts)) k.2 (each_listed slot ts (All-tail (SiteIsLawful p blocks) s (all_sites (map seen ts)) h) k.1)
  initial_sites _ ty ts h k = absurd k

pub lists_lawful : (p : Program) (f : Signature) (e : Expression) → ExpressionIsLawful p f e → All (λ s. HeadLists p s.head) (sites e.tree)
lists_lawful p f e h = by_use e.for_use h.initial
  where
    by_use : (u : Use) → InitialFits p e.blocks u e.tree → All (Lists p) (sites e.tree)
    by_use initializes k =
        of_opened p e.blocks e.tree (initial_sites p e.blocks (root_of e.tree) (type_of (out-Typed e.tree).ty) (operands_of e.tree)
        (by_opened p e.blocks e.tree h.nodes) k)
    by_use unused k = plain_tree p e.tree k
    by_use tested k = plain_tree p e.tree k
    by_use selects k = plain_tree p e.tree k
    by_use returned k = plain_tree p e.tree k
