-- A name more in a list of members: its symbol in the set and in the list.
use Rattle.std.proofs.Common.{◌≡◌, ℕ, zero, suc, ◌<◌, ◌+◌, Bool, true, false, cond, List, []}
use Rattle.std.proofs.Common.{◌∷◌, ◌++◌, length, map, take, drop, refl, sym, ap, ◌∙◌, subst, true≢false, arith}
use Rattle.std.specs.Prelude.{◌==◌, get_or, not, ◌&&◌, ◌||◌}
use Rattle.std.specs.BTreeSet.{BTreeSet, contains}
use Rattle.std.specs.BTreeMap.{is_at}
use Rattle.std.specs.List.{list_any}
use Rattle.std.specs.Ordering.{nat_cmp, is_eq}
use Rattle.std.specs.Cmp.{unsigned_ties}
use Rattle.std.proofs.lemmas.List.{append_assoc, take_more}
use Rattle.c_lex.specs.TokenText.{TokenText, text_at}
use Rattle.c_types.specs.declared.tags.Member.{Member}
use Rattle.typing_env.specs.Seen.{SeenTag, member_seen}
use Rattle.type_declarators.specs.declared.tag.MemberList.{MemberList}
use Rattle.type_declarators.specs.MemberNames.{names_in, all_brought, symbol_of_name, has_symbol, are_apart, HoldsSymbols, HasNames, AddsSymbols}
use Rattle.type_declarators.proofs.NamesTold.{has_one_more, apart_more, clash}

-- 1. In the set.

ties : (m n : ℕ) → is_eq (nat_cmp m n) ≡ (m == n)
ties m n = sym (unsigned_ties m n)

cond_or : (t b : Bool) → cond t true b ≡ (b || t)
cond_or true true = refl
cond_or true false = refl
cond_or false true = refl
cond_or false false = refl

pub held_more : (s now : BTreeSet ℕ) (symbol : ℕ)
    → ((q : ℕ) → contains nat_cmp now q ≡ cond (is_at (nat_cmp symbol) q) true (contains nat_cmp s q))
    → (q : ℕ) → contains nat_cmp now q ≡ (contains nat_cmp s q || (symbol == q))
held_more s now symbol updates q =
    updates q ∙ ap (λ t. cond t true (contains nat_cmp s q)) (ties symbol q) ∙ cond_or (symbol == q) (contains nat_cmp s q)

-- 2. In the list.

append_none : (xs : List ℕ) → xs ++ [] ≡ xs
append_none [] = refl
append_none (x ∷ xs) = ap (λ ys. x ∷ ys) (append_none xs)

pub adds_none : (l : MemberList) → AddsSymbols [] l l
adds_none l = record { added = sym (append_none (l.symbols).items); held = λ h. h; apart = λ h a. a }

apart_by : (a b : Bool) → a ≡ true → b ≡ false → (a && not b) ≡ true
apart_by true b p e = ap not e
apart_by false b p e = p

-- a name that is new
pub adds_more : (xs : List ℕ) (x : ℕ) (l m now : MemberList) (fresh : Bool) → fresh ≡ not (contains nat_cmp m.names x) → fresh ≡ true
    → (now.symbols).items ≡ (m.symbols).items ++ x ∷ []
    → ((k : ℕ) → contains nat_cmp now.names k ≡ (contains nat_cmp m.names k || (x == k)))
    → AddsSymbols xs l m → AddsSymbols (xs ++ x ∷ []) l now
adds_more xs x l m now fresh told is more held adds = record {
  added = more ∙ ap (λ ys. ys ++ x ∷ []) adds.added ∙ append_assoc (l.symbols).items xs (x ∷ []);
  held = λ h k. held k ∙ ap (λ b. b || (x == k)) (adds.held h k) ∙ sym (has_one_more k x (m.symbols).items)
      ∙ sym (ap (has_symbol k) more);
  apart = λ h a.
      ap are_apart more ∙ apart_more x (m.symbols).items
      ∙ apart_by (are_apart (m.symbols).items) (has_symbol x (m.symbols).items) (adds.apart h a)
      (sym (adds.held h x) ∙ not_true (contains nat_cmp m.names x) (sym told ∙ is));
}
  where
    not_true : (b : Bool) → not b ≡ true → b ≡ false
    not_true true e = sym e
    not_true false e = refl

not_false : (b : Bool) → not b ≡ false → b ≡ true
not_false true e = refl
not_false false e = absurd (true≢false e)

-- a name that is there
pub adds_twice : (xs rest : List ℕ) (x : ℕ) (l m : MemberList) (fresh : Bool) → fresh ≡ not (contains nat_cmp m.names x) → fresh ≡ false
    → AddsSymbols xs l m → HoldsSymbols l → are_apart ((l.symbols).items ++ (xs ++ x ∷ rest)) ≡ false
adds_twice xs rest x l m fresh told is adds held =
    ap are_apart (sym (append_assoc (l.symbols).items xs (x ∷ rest)) ∙ ap (λ ys. ys ++ x ∷ rest) (sym adds.added))
    ∙ clash x (m.symbols).items rest (sym (adds.held held x) ∙ not_false (contains nat_cmp m.names x) (sym told ∙ is))

pub there_by : (fresh had : Bool) → fresh ≡ not had → fresh ≡ false → had ≡ true
there_by fresh had told is = not_false had (sym told ∙ is)

-- 3. In a loop.

pub adds_next : (xs : List ℕ) (i x d : ℕ) (l m now : MemberList) (fresh : Bool) → i < length xs → fresh ≡ not (contains nat_cmp m.names x)
    → fresh ≡ true → (now.symbols).items ≡ (m.symbols).items ++ x ∷ []
    → ((k : ℕ) → contains nat_cmp now.names k ≡ (contains nat_cmp m.names k || (x == k))) → x ≡ get_or xs i d
    → AddsSymbols (take i xs) l m → AddsSymbols (take (i + 1) xs) l now
adds_next xs i x d l m now fresh less told new more held is adds =
    subst (λ ys. AddsSymbols ys l now) (ap (λ y. take i xs ++ y ∷ []) is ∙ sym (take_more xs i d less))
    (adds_more (take i xs) x l m now fresh told new more held adds)

split_by : (xs : List ℕ) (i d : ℕ) → i < length xs → take i xs ++ get_or xs i d ∷ drop (suc i) xs ≡ xs
split_by [] i d less = absurd (omega arith)
split_by (x ∷ xs) zero d less = refl
split_by (x ∷ xs) (suc i) d less = ap (λ ys. x ∷ ys) (split_by xs i d (omega arith))

pub twice_next : (xs : List ℕ) (i x d : ℕ) (l m : MemberList) (fresh : Bool) → i < length xs → fresh ≡ not (contains nat_cmp m.names x)
    → fresh ≡ false → x ≡ get_or xs i d → AddsSymbols (take i xs) l m → HoldsSymbols l → are_apart ((l.symbols).items ++ xs) ≡ false
twice_next xs i x d l m fresh less told old is adds held =
    ap (λ ys. are_apart ((l.symbols).items ++ ys)) (sym (ap (λ y. take i xs ++ y ∷ drop (suc i) xs) is ∙ split_by xs i d less))
    ∙ adds_twice (take i xs) (drop (suc i) xs) x l m fresh told old adds held

pub rest_next : (l m now : MemberList) → m ≡ record l { names = m.names; symbols = m.symbols }
    → now ≡ record m { names = now.names; symbols = now.symbols } → now ≡ record l { names = now.names; symbols = now.symbols }
rest_next l m now before e = e ∙ ap (λ (x : MemberList). record x { names = now.names; symbols = now.symbols }) before

-- 4. None so far.

pub nothing_named : (t : TokenText) (tags : List SeenTag) (l : MemberList) → l.members ≡ [] → (l.names).keys ≡ [] → (l.symbols).items ≡ []
    → HasNames t tags l
nothing_named t tags l none empty blank = record {
  named = λ now keeps. (
    ap (map (text_at t)) blank ∙ sym (ap (λ (ms : List Member). all_brought (names_in now) (map member_seen ms)) none),
    ap (λ (ms : List Member). map (symbol_of_name t) (all_brought (names_in now) (map member_seen ms))) none ∙ sym blank,
  );
  held = λ symbol. ap (list_any (is_at (nat_cmp symbol))) empty ∙ sym (ap (has_symbol symbol) blank);
  apart = ap are_apart blank;
}
