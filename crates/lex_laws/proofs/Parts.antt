-- A text as a front and what is left.
use Rattle.std.proofs.Common.{◌≡◌, ℕ, suc, ◌+◌, ◌<◌, Bool, true, false, List, [], ◌∷◌, ◌++◌, length, take, drop, refl, ap, ◌∙◌, arith}
use Rattle.std.specs.List.{prefix_len}
use Rattle.std.proofs.Math.Seq.{take-append_seam, drop-append_seam}
use Rattle.lex_laws.specs.Fronts.{Each, Stops, IsRun}

one_more : (n : ℕ) → 1 + n ≡ suc n
one_more n = omega arith

pub front_of : (part rest text : List ℕ) → text ≡ part ++ rest → take (length part) text ≡ part
front_of part rest text is = ap (take (length part)) is ∙ take-append_seam part rest

pub behind_of : (part rest text : List ℕ) → text ≡ part ++ rest → drop (length part) text ≡ rest
behind_of part rest text is = ap (drop (length part)) is ∙ drop-append_seam part rest

-- the bytes of a class at the front
pub record Run (p : ℕ → Bool) (text : List ℕ) : Type 0 where
  pub part : List ℕ
  pub rest : List ℕ
  pub spelled : text ≡ part ++ rest
  pub run : IsRun p part rest
  pub len : prefix_len p text ≡ length part

run_step : (p : ℕ → Bool) (b : ℕ) (bs : List ℕ) (is : Bool) → p b ≡ is → Run p bs → Run p (b ∷ bs)
run_step p b bs true is r = record {
  part = b ∷ r.part;
  rest = r.rest;
  spelled = ap (λ xs. b ∷ xs) r.spelled;
  run = record { each = (is, r.run.each); stops = r.run.stops };
  len = rw is (ap (λ n. 1 + n) r.len ∙ one_more (length r.part));
}
run_step p b bs false is r = record {
  part = [];
  rest = b ∷ bs;
  spelled = refl;
  run = record { each = tt; stops = is };
  len = rw is refl;
}

pub run_of : (p : ℕ → Bool) (text : List ℕ) → Run p text
run_of p [] = record { part = []; rest = []; spelled = refl; run = record { each = tt; stops = tt }; len = refl }
run_of p (b ∷ bs) = run_step p b bs (p b) refl (run_of p bs)

stopped_len : (p : ℕ → Bool) (rest : List ℕ) → Stops p rest → prefix_len p rest ≡ 0
stopped_len p [] stops = refl
stopped_len p (b ∷ bs) stops = rw stops refl

pub len_of_run : (p : ℕ → Bool) (part rest : List ℕ) → Each p part → Stops p rest → prefix_len p (part ++ rest) ≡ length part
len_of_run p [] rest each stops = stopped_len p rest stops
len_of_run p (b ∷ bs) rest each stops = rw each.0 (ap (λ n. 1 + n) (len_of_run p bs rest each.1 stops) ∙ one_more (length bs))

pub len_is : (p : ℕ → Bool) (part rest text : List ℕ) → text ≡ part ++ rest → IsRun p part rest → prefix_len p text ≡ length part
len_is p part rest text is run = ap (prefix_len p) is ∙ len_of_run p part rest run.each run.stops

-- nothing or something is left
pub some_left : (b : ℕ) (bs part rest : List ℕ) → b ∷ bs ≡ part ++ rest → 0 < length part → (others : List ℕ) × (part ≡ b ∷ others) × (bs ≡ others ++ rest)
some_left b bs [] rest is some = absurd (omega arith)
some_left b bs (c ∷ others) rest is some = (others, (let e = is in cc), (let e = is in cc))
