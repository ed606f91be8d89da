-- Least sets by their gains. A part of a set that lacks a band gains at most what the set gains without its least gain; and the
-- set without the band of least gain gains just that. So no smaller part reaches exactly where that one does not. A set of one
-- band is left with nothing, which does not reach. Assumes nothing.
use mathlib.Core.Path.{◌≡◌, refl, sym, ◌∙◌, ap, subst}
use mathlib.Core.Bool.{Bool, true, false, not, cond, ◌&&◌, ◌||◌}
use mathlib.Core.Logic.{◌⊎◌, inl, inr, ⊎_elim}
use Prim.Native.Nat.{ℕ, zero, suc, ◌+◌, ◌≤◌, ◌<◌, min}
use native.Mathlib.Nat.{le_refl, le_of_eq, not-le_of_lt, lt_of_not-le}
use native.Mathlib.Decide.{dec_lt, dec_le, ℕ_discrete as dec_eq}
use native.Mathlib.Omega.{arith}
use borrow.Author.Tests.{eq-eqb, ne_eqb}
use lib.Dec.{T, eqb, leb, ltb, leb→le, le→leb, ltb→lt, lt→ltb, eqb→eq, T_not, not_T}
use Rattle.laws.specs.Sums.{sum_to}
use Rattle.laws.proofs.Sums.{sum_same, sum_mono, sum-const}
use Rattle.laws.specs.Tests.{all_to, bit}
use Rattle.sets.specs.Masks.{part, smaller}
use Rattle.sets.specs.Gains.{gains_of, least_of, listed_by}
use Rattle.laws.proofs.Tests.{holds, one-test, and_left, and_right, and_both}
use Rattle.laws.proofs.Ranges.{all_read, all_hold}
use Rattle.sets.proofs.Bits.{zero_bit, pack, pack-bit, pack-below, same_bits, Apart, parted}

-- two sums that differ at one place only
pub sum-but-one : (f h : ℕ → ℕ) (d e b n : ℕ) → b < n → f b + d ≤ h b + e → ((i : ℕ) → i < n → (i ≡ b → ⊥) → f i ≤ h i)
    → sum_to f n + d ≤ sum_to h n + e
unfolding sum_to
sum-but-one f h d e b zero p q r = absurd (omega arith)
sum-but-one f h d e b (suc n) p q r = go (λ s. sum-but-one f h d e b n s q (λ i t. r i (omega arith))) (dec_lt b n)
  where
    go : (b < n → sum_to f n + d ≤ sum_to h n + e) → Dec (b < n) → sum_to f n + f n + d ≤ sum_to h n + h n + e
    go before (yes s) = omega (arith, before s, r n (le_refl (suc n)) (λ t. omega arith))
    go before (no s) =
        let t : b ≡ n = omega arith in
        omega (arith, ap f t, ap h t, sum_mono f h n (λ i u. r i (omega arith) (λ v. omega arith)))

-- the gain of band i where it is in the set
abbrev pub share : (ℕ → ℕ) → ℕ → ℕ → ℕ
share g m i = cond (bit m i) (g i) 0

pub with-band : (g : ℕ → ℕ) (m i : ℕ) → bit m i ≡ true → share g m i ≡ g i
with-band g m i e = ap (λ (b : Bool). cond b (g i) 0) e

pub no-band : (g : ℕ → ℕ) (m i : ℕ) → bit m i ≡ false → share g m i ≡ 0
no-band g m i e = ap (λ (b : Bool). cond b (g i) 0) e

-- a part shares no more
part-share : (g : ℕ → ℕ) (p m i : ℕ) → T (not (bit p i) || bit m i) → share g p i ≤ share g m i
part-share g p m i t = go (bit p i) (bit m i) t
  where
    go : (a b : Bool) → T (not a || b) → cond a (g i) 0 ≤ cond b (g i) 0
    go true true t = le_refl (g i)
    go true false t = absurd t
    go false b t = omega arith

-- ---- the least gain
pub least-below : (g : ℕ → ℕ) (m n b : ℕ) → b < n → bit m b ≡ true → least_of g m n ≤ g b
unfolding least_of
least-below g m zero b h e = absurd (omega arith)
least-below g m (suc n) b h e = go (λ p. least-below g m n b p e) (dec_lt b n) (bit m n) refl
  where
    go : (b < n → least_of g m n ≤ g b) → Dec (b < n) → (d : Bool) → bit m n ≡ d → cond d (min (least_of g m n) (g n)) (least_of g m n) ≤ g b
    go before (yes p) true s = omega (arith, before p)
    go before (yes p) false s = before p
    go before (no p) true s = let t : b ≡ n = omega arith in omega (arith, ap g t)
    go before (no p) false s =
        let t : b ≡ n = omega arith in absurd (subst T (sym e ∙ ap (bit m) t ∙ s) tt)

-- it is 10000, or the gain of a band of the set
record Reached (g : ℕ → ℕ) (m n : ℕ) : Type 0 where
  band : ℕ
  below : band < n
  there : bit m band ≡ true
  least : least_of g m n ≡ g band

least-reached : (g : ℕ → ℕ) (m n : ℕ) → (least_of g m n ≡ 10000) ⊎ Reached g m n
unfolding least_of
least-reached g m zero = inl refl
least-reached g m (suc n) = go (least-reached g m n) (bit m n) refl (dec_le (least_of g m n) (g n))
  where
    low : ℕ
    low = least_of g m n

    wider : (d : Bool) → bit m n ≡ d → cond d (min low (g n)) low ≡ low → Reached g m n → Reached g m (suc n)
    wider d s e r = record {
      band = r.band;
      below = omega (arith, r.below);
      there = r.there;
      least = ap (λ (c : Bool). cond c (min low (g n)) low) s ∙ e ∙ r.least;
    }

    go : (low ≡ 10000) ⊎ Reached g m n → (d : Bool) → bit m n ≡ d → Dec (low ≤ g n)
        → (cond (bit m n) (min low (g n)) low ≡ 10000) ⊎ Reached g m (suc n)
    go (inl e) false s k = inl (ap (λ (c : Bool). cond c (min low (g n)) low) s ∙ e)
    go (inr r) false s k = inr (wider false s refl r)
    go (inl e) true s (yes k) = inl (ap (λ (c : Bool). cond c (min low (g n)) low) s ∙ omega arith)
    go (inr r) true s (yes k) = inr (wider true s (omega arith) r)
    go q true s (no k) = inr (record {
      band = n;
      below = le_refl (suc n);
      there = s;
      least = ap (λ (c : Bool). cond c (min low (g n)) low) s ∙ omega arith;
    })

-- ---- a set without one of its bands
abbrev leave : ℕ → ℕ → ℕ → Bool
leave m b i = bit m i && not (eqb i b)

rest : ℕ → ℕ → ℕ
rest m b = pack (leave m b) 16

rest_below : (m b : ℕ) → rest m b < 65536
unfolding rest
rest_below m b = pack-below (leave m b) 16

rest-same : (m b : ℕ) → b < 16 → bit (rest m b) b ≡ false
unfolding rest
rest-same m b h = pack-bit (leave m b) 16 b h ∙ ap (λ (e : Bool). bit m b && not e) (eq-eqb b b refl) ∙ never (bit m b)
  where
    never : (d : Bool) → d && false ≡ false
    never true = refl
    never false = refl

rest-other : (m b i : ℕ) → i < 16 → (i ≡ b → ⊥) → bit (rest m b) i ≡ bit m i
unfolding rest
rest-other m b i h f = pack-bit (leave m b) 16 i h ∙ ap (λ (e : Bool). bit m i && not e) (ne_eqb i b f) ∙ always (bit m i)
  where
    always : (d : Bool) → d && true ≡ d
    always true = refl
    always false = refl

rest_part : (m b : ℕ) → T (part (rest m b) m)
unfolding part rest
rest_part m b = all_hold (λ i. not (bit (rest m b) i) || bit m i) 16
    (λ i h. subst (λ (d : Bool). T (not d || bit m i)) (sym (pack-bit (leave m b) 16 i h)) (kept (bit m i) (not (eqb i b))))
  where
    kept : (d e : Bool) → T (not (d && e) || d)
    kept true true = tt
    kept true false = tt
    kept false e = tt

rest-smaller : (m b : ℕ) → b < 16 → bit m b ≡ true → (rest m b ≡ 0 → ⊥) → T (smaller (rest m b) m)
unfolding smaller
rest-smaller m b h e f =
    and_both (part (rest m b) m && not (eqb (rest m b) m)) (not (eqb (rest m b) 0))
    (and_both (part (rest m b) m) (not (eqb (rest m b) m)) (rest_part m b)
    (not_T (eqb (rest m b) m) (λ t. subst T (sym (ap (λ (p : ℕ). bit p b) (eqb→eq (rest m b) m t) ∙ e) ∙ rest-same m b h) tt)))
    (not_T (eqb (rest m b) 0) (λ t. f (eqb→eq (rest m b) 0 t)))

rest-gains : (g : ℕ → ℕ) (m b : ℕ) → b < 16 → bit m b ≡ true → gains_of g m 16 ≤ gains_of g (rest m b) 16 + g b
unfolding gains_of
rest-gains g m b h e =
    omega (
      arith,
      sum-but-one (share g m) (share g (rest m b)) 0 (g b) b 16 h
          (omega (arith, with-band g m b e))
          (λ i p f. le_of_eq (ap (λ (d : Bool). cond d (g i) 0) (sym (rest-other m b i p f)))),
    )

-- a part that lacks band b
part-gains : (g : ℕ → ℕ) (p m b : ℕ) → T (part p m) → b < 16 → bit p b ≡ false → bit m b ≡ true
    → gains_of g p 16 + g b ≤ gains_of g m 16
unfolding gains_of part
part-gains g p m b t h d e =
    omega (
      arith,
      sum-but-one (share g p) (share g m) (g b) 0 b 16 h
          (omega (arith, no-band g p b d, with-band g m b e))
          (λ i q f. part-share g p m i (all_read (λ j. not (bit p j) || bit m j) 16 t i q)),
    )

pub no-gains : (g : ℕ → ℕ) → gains_of g 0 16 ≡ 0
unfolding gains_of
no-gains g = sum_same (share g 0) (λ i. 0) 16 (λ i h. no-band g 0 i (zero_bit i)) ∙ sum-const 0 16

-- what it is to be a smaller part
smaller-part : (p m : ℕ) → T (smaller p m) → T (part p m)
unfolding smaller
smaller-part p m t = and_left (part p m) (not (eqb p m)) (and_left (part p m && not (eqb p m)) (not (eqb p 0)) t)

smaller-other : (p m : ℕ) → T (smaller p m) → p ≡ m → ⊥
unfolding smaller
smaller-other p m t e =
    T_not (eqb p m) (and_right (part p m) (not (eqb p m)) (and_left (part p m && not (eqb p m)) (not (eqb p 0)) t)) (holds (eq-eqb p m e))

-- ---- listed by its gains, as the definition lists by reaching
module _ (g : ℕ → ℕ) (need m : ℕ) (some : 0 < need) (small : (i : ℕ) → g i < 10000) (word : m < 65536) (bands : m ≡ 0 → ⊥) where
  abbrev reach : ℕ → Bool
  reach p = leb need (gains_of g p 16)

  abbrev least_set : Bool
  least_set = all_to (λ p. not (smaller p m && reach p)) 65536

  -- a smaller part lacks a band of the set
  lacks : (p : ℕ) → p < 65536 → T (smaller p m) → Apart (bit p) (bit m) 16
  unfolding part
  lacks p h t = ⊎_elim
      (λ (s : (i : ℕ) → i < 16 → bit p i ≡ bit m i). absurd (smaller-other p m t (same_bits 16 p m h word s)))
      (λ (a : Apart (bit p) (bit m) 16). a)
      (parted (bit p) (bit m) 16 (all_read (λ j. not (bit p j) || bit m j) 16 (smaller-part p m t)))

  -- the band of least gain
  least-band : Reached g m 16
  least-band = ⊎_elim (λ (e : least_of g m 16 ≡ 10000). absurd (none e)) (λ (r : Reached g m 16). r) (least-reached g m 16)
    where
      none : least_of g m 16 ≡ 10000 → ⊥
      none e = ⊎_elim
          (λ (s : (i : ℕ) → i < 16 → bit 0 i ≡ bit m i). bands (sym (same_bits 16 0 m (omega arith) word s)))
          (λ (a : Apart (bit 0) (bit m) 16).
          not-le_of_lt (small a.place) (subst (λ (l : ℕ). l ≤ g a.place) e (least-below g m 16 a.place a.below a.having)))
          (parted (bit 0) (bit m) 16 (λ i h. subst (λ (d : Bool). T (not d || bit m i)) (sym (zero_bit i)) tt))

  forth : T (listed_by g need m) → T least_set
  unfolding listed_by
  forth t = all_hold (λ p. not (smaller p m && reach p)) 65536 (λ p h. not_T (smaller p m && reach p) (fails p h))
    where
      near : gains_of g m 16 < need + least_of g m 16
      near = ltb→lt (gains_of g m 16) (need + least_of g m 16)
          (and_right (reach m) (ltb (gains_of g m 16) (need + least_of g m 16)) t)

      fails : (p : ℕ) → p < 65536 → T (smaller p m && reach p) → ⊥
      fails p h s =
          let sm : T (smaller p m) = and_left (smaller p m) (reach p) s in
          let a : Apart (bit p) (bit m) 16 = lacks p h sm in
          not-le_of_lt
          (omega (
            arith,
            near,
            part-gains g p m a.place (smaller-part p m sm) a.below a.without a.having,
            least-below g m 16 a.place a.below a.having,
          ))
          (leb→le need (gains_of g p 16) (and_right (smaller p m) (reach p) s))

  back : T least_set → gains_of g m 16 < need + least_of g m 16
  back t =
      let r : Reached g m 16 = least-band in
      omega (arith, rest-gains g m r.band r.below r.there, r.least, short r.band r.below r.there)
    where
      short : (b : ℕ) → b < 16 → bit m b ≡ true → gains_of g (rest m b) 16 < need
      short b h e = go (dec_eq (rest m b) 0)
        where
          go : Dec (rest m b ≡ 0) → gains_of g (rest m b) 16 < need
          go (yes z) = omega (arith, ap (λ (p : ℕ). gains_of g p 16) z, no-gains g)
          go (no f) = lt_of_not-le (λ k.
              T_not (smaller (rest m b) m && reach (rest m b))
              (all_read (λ p. not (smaller p m && reach p)) 65536 t (rest m b) (rest_below m b))
              (and_both (smaller (rest m b) m) (reach (rest m b)) (rest-smaller m b h e f) (le→leb need (gains_of g (rest m b) 16) k)))

  pub least-is : (reach m && least_set) ≡ listed_by g need m
  unfolding listed_by
  least-is = one-test (reach m && least_set) (listed_by g need m)
      (λ t. and_both (reach m) (ltb (gains_of g m 16) (need + least_of g m 16)) (and_left (reach m) least_set t)
      (lt→ltb (gains_of g m 16) (need + least_of g m 16) (back (and_right (reach m) least_set t))))
      (λ t. and_both (reach m) least_set (and_left (reach m) (ltb (gains_of g m 16) (need + least_of g m 16)) t) (forth t))
