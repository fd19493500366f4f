-- Trees whose nodes fit, and tables that do.
use Rattle.std.proofs.Common.{◌≡◌, Bool, ℕ, zero, suc, List, [], ◌∷◌, ◌++◌, map, length, drop, Some, slice_get}
use Rattle.std.proofs.Common.{flat_map, refl, sym, ap, subst, ◌∙◌}
use Rattle.std.specs.Prelude.{Result, Ok, Err, OnOk}
use Rattle.std.specs.List.{All}
use Rattle.std.proofs.Math.ListN.{set}
use Rattle.std.proofs.lemmas.List.Elements.{All-nil, All-cons, All-head, All-tail, All-push, All-set, All-get_or}
use Rattle.std.proofs.lemmas.Option.{slice_get_within, get_or_from_slice_get}
use Rattle.c_types.specs.Types.{CType, type_of}
use Rattle.c_typed.specs.declared.program.Program.{Program}
use Rattle.c_typed.specs.declared.tree.Access.{Access}
use Rattle.c_typed.specs.declared.tree.Change.{Change}
use Rattle.c_typed.specs.declared.tree.Node.{fold-Node}
use Rattle.c_typed.specs.declared.tree.Node.TheVariants as nodes
use Rattle.c_typed.specs.declared.tree.Typed.{Typed, out-Typed, fold_out-Typed}
use Rattle.c_typed.specs.Sites.{Site, Seen, SeenNode, seen_node, seen_tree, seen, type_seen, all_sites, sites}
use Rattle.run_layout.specs.declared.nodes.NodeInfo.{NodeInfo}
use Rattle.run_layout.specs.EventActs.{head_at, pointed, first_type, change_access}
use Rattle.run_layout.specs.Fitting.{AccessFits, HeadFits, first_operand, SiteFits, TreeFits, RootFits, NodesFit}
use Rattle.run_code.proofs.Heads.{head_at-Assign, head_at-Update}

abbrev sites_seen : Seen → List Site
sites_seen s = s.sites

abbrev root_site : Typed → Site
root_site t = record {
  head = head_at (out-Typed t).node;
  ty = type_of (out-Typed t).ty;
  operands = map type_seen (map seen (out-Typed t).children);
}

abbrev inner : Typed → List Site
inner t = (fold-Node SeenNode Seen seen_node seen_tree (out-Typed t).node).inner

sites_of : (t : Typed) → sites t ≡ root_site t ∷ (inner t ++ all_sites (map seen (out-Typed t).children))
sites_of t = ap sites_seen (fold_out-Typed SeenNode Seen seen_node seen_tree t)

first_same : (ty : CType) (ts : List Typed) → first_operand ty (map type_seen (map seen ts)) ≡ first_type ty ts
first_same ty [] = refl
first_same ty (t ∷ ts) = ap type_seen (fold_out-Typed SeenNode Seen seen_node seen_tree t)

all_behind : {A : Type 0} (P : A → Type 0) (xs ys : List A) → All P (xs ++ ys) → All P ys
all_behind P [] ys h = h
all_behind P (x ∷ xs) ys h = all_behind P xs ys (All-tail P x (xs ++ ys) h)

all_before : {A : Type 0} (P : A → Type 0) (xs ys : List A) → All P (xs ++ ys) → All P xs
all_before P [] ys h = All-nil P
all_before P (x ∷ xs) ys h = All-cons P x xs (All-head P x (xs ++ ys) h) (all_before P xs ys (All-tail P x (xs ++ ys) h))

each_tree : (p : Program) (ts : List Typed) → All (SiteFits p) (all_sites (map seen ts)) → All (TreeFits p) ts
each_tree p [] h = All-nil (TreeFits p)
each_tree p (t ∷ ts) h =
    All-cons (TreeFits p) t ts (all_before (SiteFits p) (sites t) (all_sites (map seen ts)) h)
    (each_tree p ts (all_behind (SiteFits p) (sites t) (all_sites (map seen ts)) h))

pub root_fits : (p : Program) (t : Typed) → TreeFits p t → RootFits p t
root_fits p t h =
    subst (λ ty. HeadFits p (head_at (out-Typed t).node) (pointed ty)) (first_same (type_of (out-Typed t).ty) (out-Typed t).children)
    (All-head (SiteFits p) (root_site t) (inner t ++ all_sites (map seen (out-Typed t).children)) (subst (All (SiteFits p)) (sites_of t) h))

children_fit : (p : Program) (t : Typed) → TreeFits p t → All (TreeFits p) (out-Typed t).children
children_fit p t h =
    each_tree p (out-Typed t).children (all_behind (SiteFits p) (inner t) (all_sites (map seen (out-Typed t).children))
    (All-tail (SiteFits p) (root_site t) (inner t ++ all_sites (map seen (out-Typed t).children)) (subst (All (SiteFits p)) (sites_of t) h)))

pub all_drop : {A : Type 0} (P : A → Type 0) (i : ℕ) (xs : List A) → All P xs → All P (drop i xs)
all_drop P zero xs h = h
all_drop P (suc i) [] h = h
all_drop P (suc i) (x ∷ xs) h = all_drop P i xs (All-tail P x xs h)

-- the next of some that all fit
pub next_fits : {A : Type 0} (P : A → Type 0) (items rest : List A) (i : ℕ) (x : A) → drop i items ≡ x ∷ rest → All P items → P x
next_fits P items rest i x e h = All-head P x rest (subst (All P) e (all_drop P i items h))

pub child_fits : (p : Program) (t child : Typed) (items rest : List Typed) (i : ℕ) → items ≡ (out-Typed t).children → drop i items ≡ child ∷ rest → TreeFits p t
    → TreeFits p child
child_fits p t child items rest i e d h = next_fits (TreeFits p) items rest i child d (subst (All (TreeFits p)) (sym e) (children_fit p t h))

pub node_fits : (p : Program) (nodes : List NodeInfo) (n : ℕ) (x : NodeInfo) → NodesFit p nodes → slice_get nodes n ≡ Some x → RootFits p x.tree.now
node_fits p nodes n x h e =
    subst (λ (y : NodeInfo). RootFits p y.tree.now) (get_or_from_slice_get nodes n x x e)
    (All-get_or (λ (y : NodeInfo). RootFits p y.tree.now) nodes n x (slice_get_within nodes n x e) h)

pub nodes_set : (p : Program) (xs end : List NodeInfo) (n : ℕ) (last y : NodeInfo) → end ≡ set xs n last → last.tree.now ≡ y.tree.now
    → slice_get xs n ≡ Some y → NodesFit p xs → NodesFit p end
nodes_set p xs end n last y e t at h =
    subst (NodesFit p) (sym e) (All-set (λ (x : NodeInfo). RootFits p x.tree.now) xs n last (subst (RootFits p) (sym t) (node_fits p xs n y h at)) h)

pub assign_fits : (p : Program) (t : Typed) (first : Bool) (how : Access) → (out-Typed t).node ≡ nodes.Assign first how → RootFits p t
    → AccessFits how (pointed (first_type (type_of (out-Typed t).ty) (out-Typed t).children))
assign_fits p t first how e =
    subst (λ h. HeadFits p h (pointed (first_type (type_of (out-Typed t).ty) (out-Typed t).children))) (head_at-Assign (out-Typed t).node first how e)

pub update_fits : (p : Program) (t : Typed) (c : Change) (old : Bool) (how : Access) → (out-Typed t).node ≡ nodes.Update c old → how ≡ change_access c
    → RootFits p t → AccessFits how (pointed (first_type (type_of (out-Typed t).ty) (out-Typed t).children))
update_fits p t c old how e k r =
    let object = pointed (first_type (type_of (out-Typed t).ty) (out-Typed t).children) in
    subst (λ a. AccessFits a object) (sym k) (subst (λ h. HeadFits p h object) (head_at-Update (out-Typed t).node c old e) r)

-- a node more
pub node_pushed : (p : Program) (xs end : List NodeInfo) (x : NodeInfo) (t : Typed) → end ≡ xs ++ x ∷ [] → x.tree.now ≡ t → RootFits p t → NodesFit p xs
    → NodesFit p end
node_pushed p xs end x t e is r h =
    subst (NodesFit p) (sym e) (All-push (λ (y : NodeInfo). RootFits p y.tree.now) xs x h (subst (RootFits p) (sym is) r))

-- what holds of all parts holds of each
pub part_fits : {A B : Type 0} (P : B → Type 0) (f : A → List B) (i : ℕ) (items rest : List A) (x : A) → drop i items ≡ x ∷ rest
    → All P (flat_map f items) → All P (f x)
part_fits P f zero items rest x e h = all_before P (f x) (flat_map f rest) (subst (λ z. All P (flat_map f z)) e h)
part_fits P f (suc i) [] rest x e h = absurd (cc)
part_fits P f (suc i) (y ∷ items) rest x e h = part_fits P f i items rest x e (all_behind P (f y) (flat_map f items) h)

pub mapped_drop : {A B : Type 0} (f : A → B) (i : ℕ) (xs : List A) → map f (drop i xs) ≡ drop i (map f xs)
mapped_drop f zero xs = refl
mapped_drop f (suc i) [] = refl
mapped_drop f (suc i) (x ∷ xs) = mapped_drop f i xs

pub next_mapped_fits : {A B : Type 0} (P : B → Type 0) (f : A → B) (items rest : List A) (i : ℕ) (x : A) → drop i items ≡ x ∷ rest
    → All P (map f items) → P (f x)
next_mapped_fits P f items rest i x e h = next_fits P (map f items) (map f rest) i (f x) (sym (mapped_drop f i items) ∙ ap (map f) e) h

pub dropped : {A : Type 0} (xs ys zs : List A) (n : ℕ) → zs ≡ xs ++ ys → n ≡ length xs → drop n zs ≡ ys
dropped xs ys zs n e k = ap (drop n) e ∙ (ap (λ m. drop m (xs ++ ys)) k ∙ behind xs ys)
  where
    behind : {A : Type 0} (xs ys : List A) → drop (length xs) (xs ++ ys) ≡ ys
    behind [] ys = refl
    behind (x ∷ xs) ys = behind xs ys

-- a fact that may fail to be asked for
pub always : {A E : Type 0} (r : Result A E) (P : Type 0) → P → OnOk r P
always (Ok x) P h = h
always (Err e) P h = tt
