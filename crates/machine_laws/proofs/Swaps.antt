-- Picks of a machine that don't conflict change places.
use Rattle.std.proofs.Common.{◌≡◌, ◌≢◌, ℕ, true, List, [], ◌∷◌, refl, sym, ap, ◌∙◌, subst, append-nil}
use Rattle.c_model.specs.Machine.{Machine, nil, put, Evaluation, act, value, its, count_all, Does, Made, Apart}
use Rattle.c_model.specs.MachineLaws.{StoreLaws, FrameLaws, UpdateLaws}
use Rattle.c_model.proofs.MachineRuns.{diff_sym, diff_trans, apart_sym, front}

module _ {F P V S I Part Seen Fact : Type 0} (m : Machine F P V S I Part Seen Fact) (sl : StoreLaws m) where
  open sl use {elsewhere, changes, holds_nil, holds_next, adds, counts_swap, meet}

  -- what is counted of two lists is the same in either order
  counts_one : (i : I) (js : List I) (n : ℕ) → m.counts i (count_all m js n) ≡ count_all m js (m.counts i n)
  counts_one i [] n = refl
  counts_one i (j ∷ js) n = counts_one i js (m.counts j n) ∙ ap (count_all m js) (counts_swap i j n)

  counts_both : (is js : List I) (n : ℕ) → count_all m js (count_all m is n) ≡ count_all m is (count_all m js n)
  counts_both [] js n = refl
  counts_both (i ∷ is) js n = counts_both is js (m.counts i n) ∙ ap (count_all m is) (sym (counts_one i js n))

  -- two acts, of whatever frames
  pub acts_swap : (f g : F) (p q : P) (v w : V) (is js : List I) (s s1 s2 : S) → Does m f p s v is s1 → Does m g q s1 w js s2 → Apart m is js
      → (t : S) × Does m g q s w js t × Does m f p t v is s2
  acts_swap f g p q v w is js s s1 s2 a b free =
      let ca = changes f p s v is s1 a in
      let cb = changes g q s1 w js s2 b in
      let e = elsewhere g q s1 s w js s2 is b (diff_sym m is s s1 ca) (apart_sym m sl is js free) in
      let ce = changes g q s w js e.0 e.1 in
      let o = elsewhere f p s e.0 v is s1 js a ce free in
      let d1 = diff_trans m is s2 e.0 o.0 e.2 (changes f p e.0 v is o.0 o.1) in
      let d2 = diff_trans m js s2 s1 o.0 (diff_sym m js s1 s2 cb) o.2 in
      let h1 = holds_next g q s1 w js s2 is b (holds_next f p s v is s1 [] a (holds_nil s)) in
      let h2 = holds_next f p e.0 v is o.0 js o.1 (holds_next g q s w js e.0 [] e.1 (holds_nil s)) in
      let sums : m.counted s2 ≡ m.counted o.0 =
      adds g q s1 w js s2 b ∙ ap (count_all m js) (adds f p s v is s1 a) ∙ counts_both is js (m.counted s)
      ∙ sym (adds f p e.0 v is o.0 o.1 ∙ ap (count_all m is) (adds g q s w js e.0 e.1)) in
      let same = meet is js s2 o.0 free d1 d2 h1 h2 sums in
      (e.0, e.1, subst (λ z. Does m f p e.0 v is z) (sym same) o.1)

  module _ (fl : FrameLaws m) where
    open fl use {keeps as keeps_ready, swaps, same_does}

    pub steps_swap : (f : F) (p q : P) (v w : V) (is js : List I) (s s1 s2 : S) → m.ready f p ≡ true → m.ready f q ≡ true → p ≢ q → Does m f p s v is s1
        → Does m (m.next f p v) q s1 w js s2
        → Apart m is js → (t : S) × Does m f q s w js t × Does m (m.next f q w) p t v is s2 × (m.next (m.next f p v) q w ≡ m.next (m.next f q w) p v)
    steps_swap f p q v w is js s s1 s2 rp rq ne a b free =
        let b' : Does m f q s1 w js s2 = sym (ap (λ h. h s1) (same_does f p q v rp rq ne)) ∙ b in
        let r = acts_swap f f p q v w is js s s1 s2 a b' free in
        (r.0, r.1, ap (λ h. h r.0) (same_does f q p w rq rp (λ e. ne (sym e))) ∙ r.2, swaps f p q v w rp rq ne)

    pub evaluations_swap : (f : F) (p q : P) (b c : Evaluation P V I) (s s1 s2 : S) → m.ready f p ≡ true → m.ready f q ≡ true → p ≢ q → Made m b f p s s1
        → Made m c (m.next f p (value b)) q s1 s2
        → Apart m (its b) (its c) → (t : S) × Made m c f q s t × Made m b (m.next f q (value c)) p t s2
        × (m.next (m.next f p (value b)) q (value c) ≡ m.next (m.next f q (value c)) p (value b))
    evaluations_swap f p q b c s s1 s2 rp rq ne hb hc free =
        let r = front m sl fl (put p b nil) nil f q c s s2 (rp, (s1, hb, (keeps_ready f p q (value b) rp rq ne, (s2, hc, refl)))) rq (ne, tt)
        (subst (λ z. Apart m z (its c)) (sym (append-nil (its b))) free) in
        (r.1.0, r.1.1, subst (Made m b (m.next f q (value c)) p r.1.0) r.1.2.1.2 r.1.2.1.1, swaps f p q (value b) (value c) rp rq ne)

    pub update_first : UpdateLaws m → (f : F) (p q : P) (b : Evaluation P V I) (v w : V) (is js : List I) (s s1 s2 s3 : S) → m.ready f p ≡ true
        → m.ready f q ≡ true → p ≢ q → m.opens f q ≡ true
        → Made m b f p s s1 → Made m (act v is) (m.next f p (value b)) q s1 s2 → Made m (act w js) (m.next (m.next f p (value b)) q v) (m.half q) s2 s3
        → Apart m (its b) is → Apart m (its b) js
        → (t1 t2 : S) × Made m (act v is) f q s t1 × Made m (act w js) (m.next f q v) (m.half q) t1 t2 × Made m b (m.next (m.next f q v) (m.half q) w) p t2 s3
        × (m.next (m.next (m.next f p (value b)) q v) (m.half q) w ≡ m.next (m.next (m.next f q v) (m.half q) w) p (value b))
        × (m.may_start f p ≡ true → m.may_start (m.next (m.next f q v) (m.half q) w) p ≡ true)
    update_first ul f p q b v w is js s s1 s2 s3 rp rq ne op hb hv hw free1 free2 =
        let one = evaluations_swap f p q b (act v is) s s1 s2 rp rq ne hb hv free1 in
        let f1 = m.next f q v in
        let rp1 = keeps_ready f q p v rq rp (λ e. ne (sym e)) in
        let rh = ul.half_ready f q v rq op in
        let apart : p ≢ m.half q = λ e. ul.half_later f q rq op (subst (λ z. m.ready f z ≡ true) e rp) in
        let hw' = subst (λ z. Made m (act w js) z (m.half q) s2 s3) one.3 hw in
        let two = evaluations_swap f1 p (m.half q) b (act w js) one.0 s2 s3 rp1 rh apart one.2 hw' free2 in (
          one.0,
          two.0,
          one.1,
          two.1,
          two.2,
          ap (λ z. m.next z (m.half q) w) one.3 ∙ two.3,
          (λ st. ul.start_pair f p q v w rp rq op ne st),
        )
