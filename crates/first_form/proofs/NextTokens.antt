-- The next token of what is left of a text is determined.
use Rattle.std.proofs.Common.{◌≡◌, ℕ, suc, ◌+◌, ◌≤◌, Bool, true, false, List, [], ◌∷◌, ◌++◌, length, take, drop, refl, ap, sym, subst, ◌∙◌, arith, length-drop}
use Rattle.std.specs.List.{prefix_len, list_all, count_by}
use Rattle.std.proofs.lemmas.List.{take_at, drop_at, take-append-drop, take_all, drop-drop, append-nil, length-take-le, nil_from_length}
use Rattle.std.proofs.lemmas.List.Sums.{prefix_len-le-length}
use Rattle.first_form.specs.Bytes.{is_white, begins, run_of}
use Rattle.std.specs.Prelude.{◌≢◌, ◌==◌, Some, None, Ok, Err}
use Rattle.first_form.specs.declared.fault.FormFault.TheVariants.{NotFirstForm}
use Rattle.first_form.specs.declared.token.TokenKind.{TokenKind}
use Rattle.first_form.specs.Tokens.{GivesNext, IsNext, IsSpelling, goes_on}
use Rattle.first_form.specs.declared.token.Token.{Token}
use Rattle.first_form.proofs.Runs.{run_of_front, list_all-take_run, begins-drop_run}
use Rattle.first_form.proofs.Spellings.{Shape, shape, kinds_agree}

-- only white space is left where none stands behind the run
pub white_to_the_end : (rest : List ℕ) → drop (prefix_len is_white rest) rest ≡ [] → list_all is_white rest ≡ true
white_to_the_end rest none =
    let whole : take (prefix_len is_white rest) rest ≡ rest =
    take_all _ rest (omega (arith, length-drop (prefix_len is_white rest) rest, ap length none))
    in subst (λ xs. list_all is_white xs ≡ true) whole (list_all-take_run is_white rest)

-- the bytes of a token
pub record Lies {at line : ℕ} {rest : List ℕ} {t : Token} (next : IsNext at line rest t) : Type 0 where
  pub blank : length next.blank ≡ prefix_len is_white rest
  pub behind : drop (prefix_len is_white rest) rest ≡ next.spelling ++ next.after
  pub len : (first : ℕ) (tail : List ℕ) → next.spelling ++ next.after ≡ first ∷ tail → length next.spelling ≡ 1 + prefix_len (run_of first) tail

begins_behind : (p : ℕ → Bool) (x : ℕ) (xs ys text : List ℕ) → text ≡ x ∷ xs → p x ≡ false → begins p (text ++ ys) ≡ false
begins_behind p x xs ys text is black = rw is black

len_of : (kind : _) (spelling after : List ℕ) (s : Shape kind spelling) (first : ℕ) (tail : List ℕ)
    → begins (goes_on kind) after ≡ false → spelling ++ after ≡ first ∷ tail → length spelling ≡ 1 + prefix_len (run_of first) tail
len_of kind spelling after s first tail longest is =
    let all : (s.first ∷ (s.tail ++ after)) ≡ first ∷ tail = sym (ap (λ xs. xs ++ after) s.is) ∙ is in
    let head : s.first ≡ first = cc in
    let rest : s.tail ++ after ≡ tail = cc in
    let stops : begins (run_of s.first) after ≡ false = rw (← s.same) longest in
    let run : prefix_len (run_of s.first) (s.tail ++ after) ≡ length s.tail = run_of_front (run_of s.first) s.tail after s.run stops in
    let here : prefix_len (run_of first) tail ≡ length s.tail = rw (← head, ← rest) run in
    let count = ap length s.is in
    omega (arith, count, here)

pub lies : {at line : ℕ} {rest : List ℕ} {t : Token} (next : IsNext at line rest t) → Lies next
lies {at = at} {line = line} {rest = rest} {t = t} next =
    let s = shape t.kind next.spelling next.lexeme.spelled in
    let blank : prefix_len is_white rest ≡ length next.blank =
    ap (prefix_len is_white) next.text ∙ run_of_front is_white next.blank (next.spelling ++ next.after) next.white
    (begins_behind is_white s.first s.tail next.after next.spelling s.is s.black) in
    record {
      blank = sym blank;
      behind = ap (λ n. drop n rest) blank ∙ ap (drop (length next.blank)) next.text ∙ drop_at next.blank (next.spelling ++ next.after) _ refl;
      len = λ first tail is. len_of t.kind next.spelling next.after s first tail next.lexeme.longest is;
    }

token_ext : (t u : Token) → t.kind ≡ u.kind → t.start ≡ u.start → t.end ≡ u.end → t.line ≡ u.line → t ≡ u
token_ext t u kind start end line = λ i. record { kind = kind i; start = start i; end = end i; line = line i }

-- there is one next token, and one rest behind it
pub same_next : {at line : ℕ} {rest : List ℕ} {t u : Token} (n : IsNext at line rest t) (m : IsNext at line rest u) → (t ≡ u) × (n.after ≡ m.after)
same_next {at = at} {line = line} {rest = rest} {t = t} {u = u} n m =
    let a = lies n in
    let b = lies m in
    let s = shape t.kind n.spelling n.lexeme.spelled in
    let fronts : n.spelling ++ n.after ≡ m.spelling ++ m.after = sym a.behind ∙ b.behind in
    let cons : n.spelling ++ n.after ≡ s.first ∷ (s.tail ++ n.after) = ap (λ xs. xs ++ n.after) s.is in
    let lens : length n.spelling ≡ length m.spelling = a.len _ _ cons ∙ sym (b.len _ _ (sym fronts ∙ cons)) in
    let spelled : n.spelling ≡ m.spelling =
    sym (take_at n.spelling n.after _ refl) ∙ ap (take (length n.spelling)) fronts ∙ take_at m.spelling m.after _ (sym lens) in
    let after : n.after ≡ m.after =
    sym (drop_at n.spelling n.after _ refl) ∙ ap (drop (length n.spelling)) fronts ∙ drop_at m.spelling m.after _ (sym lens) in
    let blanks : n.blank ≡ m.blank =
    sym (take_at n.blank (n.spelling ++ n.after) _ refl) ∙ ap (take (length n.blank)) (sym n.text ∙ m.text)
    ∙ take_at m.blank (m.spelling ++ m.after) _ (b.blank ∙ sym a.blank) in
    let kind : t.kind ≡ u.kind = kinds_agree t.kind u.kind m.spelling (subst (IsSpelling t.kind) spelled n.lexeme.spelled) m.lexeme.spelled in
    let start : t.start ≡ u.start = n.start ∙ ap (λ xs. at + length xs) blanks ∙ sym m.start in
    let end : t.end ≡ u.end = n.end ∙ ap (λ k. t.start + k) lens ∙ ap (λ k. k + length m.spelling) start ∙ sym m.end in
    let lines : t.line ≡ u.line = n.line ∙ ap (λ xs. line + count_by (λ b. b == 10) xs) blanks ∙ sym m.line in
    (token_ext t u kind start end lines, after)

-- where a byte stands behind the white space, not all is white
pub not_all_white : (rest : List ℕ) (first : ℕ) (tail : List ℕ) → drop (prefix_len is_white rest) rest ≡ first ∷ tail → list_all is_white rest ≢ true
not_all_white rest first tail behind all =
    let run : prefix_len is_white (rest ++ []) ≡ length rest = run_of_front is_white rest [] all refl in
    let here : prefix_len is_white rest ≡ length rest = ap (prefix_len is_white) (sym (append-nil rest)) ∙ run in
    let count = ap length behind in
    omega (arith, count, here, length-drop (prefix_len is_white rest) rest)

-- no kind has the longest run as its spelling
pub no_next : {at line : ℕ} {rest : List ℕ} {t : Token} (first : ℕ) (tail : List ℕ) → drop (prefix_len is_white rest) rest ≡ first ∷ tail
    → ((kind : TokenKind) → IsSpelling kind (take (1 + prefix_len (run_of first) tail) (drop (prefix_len is_white rest) rest)) → ⊥)
    → IsNext at line rest t → ⊥
no_next {at = at} {line = line} {rest = rest} {t = t} first tail behind none n =
    let a = lies n in
    let len : length n.spelling ≡ 1 + prefix_len (run_of first) tail = a.len first tail (sym a.behind ∙ behind) in
    let spelled : take (1 + prefix_len (run_of first) tail) (drop (prefix_len is_white rest) rest) ≡ n.spelling =
    ap (take (1 + prefix_len (run_of first) tail)) a.behind ∙ take_at n.spelling n.after _ len in
    none t.kind (rw spelled n.lexeme.spelled)

one_plus : (n : ℕ) → 1 + n ≡ suc n
one_plus n = omega arith

first_of_take : (n first : ℕ) (tail : List ℕ) (x : ℕ) (xs : List ℕ) → take (1 + n) (first ∷ tail) ≡ x ∷ xs → x ≡ first
first_of_take n first tail x xs is = let e = rw (one_plus n) at is in cc

drop_tail : (n first : ℕ) (tail : List ℕ) → drop (1 + n) (first ∷ tail) ≡ drop n tail
drop_tail n first tail = rw (one_plus n) refl

-- behind the longest run stands no byte that goes on with the token
run_is_longest : (kind : TokenKind) (first : ℕ) (tail : List ℕ) → IsSpelling kind (take (1 + prefix_len (run_of first) tail) (first ∷ tail))
    → begins (goes_on kind) (drop (1 + prefix_len (run_of first) tail) (first ∷ tail)) ≡ false
run_is_longest kind first tail spelled =
    let s = shape kind (take (1 + prefix_len (run_of first) tail) (first ∷ tail)) spelled in
    let head : s.first ≡ first = first_of_take _ first tail s.first s.tail s.is in
    rw (s.same, head, drop_tail (prefix_len (run_of first) tail) first tail) (begins-drop_run (run_of first) tail)

-- the longest run behind the white space, where it is a spelling
pub is_next : (at line : ℕ) (rest : List ℕ) (kind : TokenKind) (first : ℕ) (tail : List ℕ) → drop (prefix_len is_white rest) rest ≡ first ∷ tail
    → IsSpelling kind (take (1 + prefix_len (run_of first) tail) (drop (prefix_len is_white rest) rest))
    → GivesNext at line rest (Ok (Some (record {
      kind = kind;
      start = at + prefix_len is_white rest;
      end = at + prefix_len is_white rest + (1 + prefix_len (run_of first) tail);
      line = line + count_by (λ b. b == 10) (take (prefix_len is_white rest) rest);
    })))
is_next at line rest kind first tail behind spelled =
    let white = prefix_len is_white rest in
    let len = 1 + prefix_len (run_of first) tail in
    let within : white ≤ length rest = prefix_len-le-length is_white rest in
    let run_within : prefix_len (run_of first) tail ≤ length tail = prefix_len-le-length (run_of first) tail in
    let count = ap length behind in
    let left = length-drop white rest in (
      record {
        blank = take white rest;
        spelling = take len (drop white rest);
        after = drop len (drop white rest);
        text = sym (take-append-drop white rest) ∙ ap (λ xs. take white rest ++ xs) (sym (take-append-drop len (drop white rest)));
        white = list_all-take_run is_white rest;
        lexeme = record { spelled = spelled; longest = rw behind (run_is_longest kind first tail (rw behind at spelled)) };
        start = ap (λ k. at + k) (sym (length-take-le white rest within));
        end = ap (λ k. at + white + k) (sym (length-take-le len (drop white rest) (omega (arith, count))));
        line = refl;
      },
      drop-drop len white rest ∙ ap (λ k. drop k rest) (omega arith),
      omega arith,
      omega (arith, count, left),
    )

-- what the code reads of the front of a text
pub record Reads (rest white behind spelling tail : List ℕ) (blank run first : ℕ) : Type 0 where
  pub blank_is : blank ≡ prefix_len is_white rest
  pub white_is : white ≡ take blank rest
  pub behind_is : behind ≡ drop blank rest
  pub cons : behind ≡ first ∷ tail
  pub run_is : run ≡ prefix_len (run_of first) tail
  pub spelling_is : spelling ≡ take (1 + run) behind

behind_of : {rest white behind spelling tail : List ℕ} {blank run first : ℕ} (r : Reads rest white behind spelling tail blank run first)
    → drop (prefix_len is_white rest) rest ≡ first ∷ tail
behind_of {rest = rest} r = ap (λ n. drop n rest) (sym r.blank_is) ∙ sym r.behind_is ∙ r.cons

spelling_of : {rest white behind spelling tail : List ℕ} {blank run first : ℕ} (r : Reads rest white behind spelling tail blank run first)
    → spelling ≡ take (1 + prefix_len (run_of first) tail) (drop (prefix_len is_white rest) rest)
spelling_of {rest = rest} {behind = behind} {tail = tail} {first = first} r =
    r.spelling_is ∙ ap (λ k. take (1 + k) behind) r.run_is
    ∙ ap (take (1 + prefix_len (run_of first) tail)) (r.behind_is ∙ ap (λ n. drop n rest) r.blank_is)

pub gives_none : (at line : ℕ) {rest white behind spelling tail : List ℕ} {blank run first : ℕ} (r : Reads rest white behind spelling tail blank run first)
    → ((kind : TokenKind) → IsSpelling kind spelling → ⊥) → GivesNext at line rest (Err NotFirstForm)
gives_none at line {rest = rest} {tail = tail} {first = first} r none = (
  refl,
  not_all_white rest first tail (behind_of r),
  λ token next.
      no_next first tail (behind_of r) (λ kind is. none kind (rw (spelling_of r) is)) next,
)

pub gives_some : (at line lines : ℕ) (kind : TokenKind) {rest white behind spelling tail : List ℕ} {blank run first : ℕ}
    (r : Reads rest white behind spelling tail blank run first)
    → IsSpelling kind spelling → lines ≡ count_by (λ b. b == 10) white
    → GivesNext at line rest (Ok (Some (record { kind = kind; start = at + blank; end = at + blank + (1 + run); line = line + lines })))
gives_some at line lines kind {rest = rest} {tail = tail} {first = first} r is count =
    rw (count, r.white_is, r.blank_is, r.run_is) (is_next at line rest kind first tail (behind_of r) (rw (spelling_of r) at is))

pub gives_end : (at line : ℕ) (rest behind : List ℕ) (blank : ℕ) → blank ≡ prefix_len is_white rest → behind ≡ drop blank rest → length behind ≡ 0
    → GivesNext at line rest (Ok None)
gives_end at line rest behind blank blank_is behind_is none =
    white_to_the_end rest (ap (λ n. drop n rest) (sym blank_is) ∙ sym behind_is ∙ nil_from_length behind none)
