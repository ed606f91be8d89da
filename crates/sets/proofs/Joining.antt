-- A set put together band by band, from the lowest up: what one band more adds to the gains and to the least of them, the test of
-- the last band, and the list in that order. Assumes nothing.
use mathlib.Core.Path.{◌≡◌, refl, sym, ◌∙◌, ap, ap₂, subst}
use mathlib.Core.Bool.{Bool, true, false, cond}
use mathlib.Core.List.{List, [], ◌∷◌, ◌++◌, map, map-append}
use Prim.Native.Nat.{ℕ, zero, suc, ◌+◌, ◌-◌, ◌^◌, ◌≤◌, ◌<◌, min}
use native.Mathlib.Nat.{le_refl, le_of_eq, not-le_of_lt, zero-add, add-zero, add_assoc}
use native.Mathlib.Numerals.{add-one}
use native.Mathlib.Decide.{dec_lt}
use native.Mathlib.Omega.{arith}
use lib.Dec.{T, leb, ltb, leb→le, le→leb, ltb→lt, lt→ltb}
use lib.Pow.{pow_mono}
use Rattle.laws.proofs.Sums.{sum_bound}
use Rattle.laws.specs.Tests.{bit}
use Rattle.sets.specs.Masks.{choose, masks_in_order, filter}
use Rattle.sets.specs.Gains.{gains_of, least_of, listed_by, by_gains, joined_by, PartOf}
use Rattle.laws.proofs.Tests.{is_true, is_false, and_left, and_right, and_both}
use Rattle.sets.proofs.Bits.{zero_bit, bit_past, bit-here, bit-other}
use Rattle.sets.proofs.Filters.{filter-append}
use Rattle.sets.proofs.Minimal.{sum-but-one, share, with-band, no-band, no-gains}

-- ---- a band on top of a set
module _ (g : ℕ → ℕ) where
  gains-joined : (m i : ℕ) → m < 2 ^ i → i < 16 → gains_of g (m + 2 ^ i) 16 ≡ gains_of g m 16 + g i
  unfolding gains_of
  gains-joined m i h k =
      let same : (j : ℕ) → (j ≡ i → ⊥) → share g (m + 2 ^ i) j ≡ share g m j = λ j f. ap (λ (b : Bool). cond b (g j) 0) (bit-other i m j h f) in
      let here : share g (m + 2 ^ i) i ≡ g i = with-band g (m + 2 ^ i) i (bit-here i m h) in
      let none : share g m i ≡ 0 = no-band g m i (bit_past m i h) in
      omega (
        arith,
        sum-but-one (share g (m + 2 ^ i)) (share g m) 0 (g i) i 16 k (omega arith) (λ j p f. le_of_eq (same j f)),
        sum-but-one (share g m) (share g (m + 2 ^ i)) (g i) 0 i 16 k (omega arith) (λ j p f. le_of_eq (sym (same j f))),
      )

  -- the least of some bands, where they are the same
  least-same : (m p n : ℕ) → ((j : ℕ) → j < n → bit p j ≡ bit m j) → least_of g p n ≡ least_of g m n
  unfolding least_of
  least-same m p zero same = refl
  least-same m p (suc n) same = rw (same n (le_refl (suc n)), least-same m p n (λ j h. same j (omega arith)))

  least_more : (m i n : ℕ) → m < 2 ^ i → i < n → least_of g (m + 2 ^ i) n ≡ min (least_of g m n) (g i)
  unfolding least_of
  least_more m i zero h k = absurd (omega arith)
  least_more m i (suc n) h k = go (λ q. least_more m i n h q) (dec_lt i n)
    where
      swap : (b : Bool) (l : ℕ) → cond b (min (min l (g i)) (g n)) (min l (g i)) ≡ min (cond b (min l (g n)) l) (g i)
      swap true l = omega arith
      swap false l = refl

      go : (i < n → least_of g (m + 2 ^ i) n ≡ min (least_of g m n) (g i)) → Dec (i < n)
          → cond (bit (m + 2 ^ i) n) (min (least_of g (m + 2 ^ i) n) (g n)) (least_of g (m + 2 ^ i) n)
          ≡ min (cond (bit m n) (min (least_of g m n) (g n)) (least_of g m n)) (g i)
      go before (yes q) = rw (bit-other i m n h (λ e. omega arith), before q) (swap (bit m n) (least_of g m n))
      go before (no q) =
          let e : i ≡ n = omega arith in
          let top : bit (m + 2 ^ i) n ≡ true = ap (bit (m + 2 ^ i)) (sym e) ∙ bit-here i m h in
          let past : bit m n ≡ false = ap (bit m) (sym e) ∙ bit_past m i h in
          let low : least_of g (m + 2 ^ i) n ≡ least_of g m n = least-same m (m + 2 ^ i) n (λ j p. bit-other i m j h (λ d. omega arith)) in
          rw (top, past, low) (ap (λ (j : ℕ). min (least_of g m n) (g j)) (sym e))

  least-most : (m n : ℕ) → least_of g m n ≤ 10000
  unfolding least_of
  least-most m zero = le_refl 10000
  least-most m (suc n) = go (bit m n) (least-most m n)
    where
      go : (b : Bool) → least_of g m n ≤ 10000 → cond b (min (least_of g m n) (g n)) (least_of g m n) ≤ 10000
      go true h = omega arith
      go false h = h

  least-none : (n : ℕ) → 10000 ≡ least_of g 0 n
  unfolding least_of
  least-none zero = refl
  least-none (suc n) = rw (zero_bit n) (least-none n)

  pub no_part : PartOf g 0 0 10000 0
  no_part = record { lower = omega arith; summed = sym (no-gains g); smallest = least-none 16 }

  module _ (m s l j : ℕ) (w : PartOf g m s l j) where
    -- how large the sum and the least of gains are
    pub sum-small : ((p : ℕ) → g p < 10000) → s < 200000
    unfolding gains_of
    sum-small small = omega (arith, w.summed, sum_bound (share g m) 9999 16 (λ p h. one p (bit m p)))
      where
        one : (p : ℕ) (b : Bool) → cond b (g p) 0 ≤ 9999
        one p true = omega (arith, small p)
        one p false = omega arith

    pub least-small : l ≤ 10000
    least-small = omega (arith, w.smallest, least-most m 16)

    module _ (i : ℕ) (k : j ≤ i) where
      pub below-band : m < 2 ^ i
      below-band = omega (arith, w.lower, pow_mono k)

      pub part-joined : i < 16 → PartOf g (m + 2 ^ i) (s + g i) (min l (g i)) (i + 1)
      part-joined h = record {
        lower = subst (λ (p : ℕ). m + 2 ^ i < 2 ^ p) (sym (add-one i)) (omega (arith, below-band));
        summed = ap (λ (t : ℕ). t + g i) w.summed ∙ sym (gains-joined m i below-band h);
        smallest = ap (λ (t : ℕ). min t (g i)) w.smallest ∙ sym (least_more m i 16 below-band h);
      }

      -- ---- the last band: with it the gains make up what is needed, without it or without the least of the others they do not
      module _ (need : ℕ) (h : i < 16) where
        abbrev reach : Bool
        reach = leb need (gains_of g (m + 2 ^ i) 16)

        abbrev near : Bool
        near = ltb (gains_of g (m + 2 ^ i) 16) (need + least_of g (m + 2 ^ i) 16)

        sum_is : s + g i ≡ gains_of g (m + 2 ^ i) 16
        sum_is = (part-joined h).summed

        least-is : min l (g i) ≡ least_of g (m + 2 ^ i) 16
        least-is = (part-joined h).smallest

        listed-yes : s < need → need - s ≤ g i → g i < need - s + l → listed_by g need (m + 2 ^ i) ≡ true
        unfolding listed_by
        listed-yes a b c = is_true (listed_by g need (m + 2 ^ i))
            (and_both reach near (le→leb need (gains_of g (m + 2 ^ i) 16) (omega (arith, sum_is)))
            (lt→ltb (gains_of g (m + 2 ^ i) 16) (need + least_of g (m + 2 ^ i) 16) (omega (arith, sum_is, least-is))))

        listed-read : T (listed_by g need (m + 2 ^ i)) → (need ≤ s + g i) × (s + g i < need + min l (g i))
        unfolding listed_by
        listed-read t = (
          omega (arith, sum_is, leb→le need (gains_of g (m + 2 ^ i) 16) (and_left reach near t)),
          omega (arith, sum_is, least-is, ltb→lt (gains_of g (m + 2 ^ i) 16) (need + least_of g (m + 2 ^ i) 16) (and_right reach near t)),
        )

-- a set of bands below band i, and band i as its last: it is listed, falls short, or one of the others is idle
pub record Last (g : ℕ → ℕ) (need n m s l i : ℕ) : Type 0 where
  pub below : m < 2 ^ i
  pub listed : need - s ≤ g i → g i < need - s + l → joined_by g need n 1 m i ≡ (m + 2 ^ i) ∷ joined_by g need n 1 m (i + 1)
  pub short : g i < need - s → joined_by g need n 1 m i ≡ joined_by g need n 1 m (i + 1)
  pub idle : need - s + l ≤ g i → joined_by g need n 1 m i ≡ joined_by g need n 1 m (i + 1)

-- ---- the list in the order in which sets are put together
module _ (g : ℕ → ℕ) (need n : ℕ) where
  abbrev ok : ℕ → Bool
  ok = listed_by g need

  abbrev onto : ℕ → List ℕ → List ℕ
  onto m l = map (λ (r : ℕ). m + r) l

  onto-twice : (m p : ℕ) (l : List ℕ) → onto m (onto p l) ≡ onto (m + p) l
  onto-twice m p [] = refl
  onto-twice m p (a ∷ l) = ap₂ (λ (b : ℕ) (r : List ℕ). b ∷ r) (sym (add_assoc m p a)) (onto-twice m p l)

  -- the sets with band i, then those without
  pub joined_step : (b m i : ℕ) → i < n → joined_by g need n (b + 1) m i ≡ joined_by g need n b (m + 2 ^ i) (i + 1) ++ joined_by g need n (b + 1) m (i + 1)
  unfolding joined_by choose
  joined_step b m i h =
      let left : n - i ≡ suc (n - suc i) = omega arith in
      let with : List ℕ = choose b (n - suc i) (suc i) in
      let rest : List ℕ = choose (suc b) (n - suc i) (suc i) in
      ap (λ (c : ℕ). filter ok (onto m (choose c (n - i) i))) (add-one b)
      ∙ ap (λ (d : ℕ). filter ok (onto m (choose (suc b) d i))) left
      ∙ ap (filter ok) (map-append (λ (r : ℕ). m + r) (onto (2 ^ i) with) rest)
      ∙ filter-append ok (onto m (onto (2 ^ i) with)) (onto m rest)
      ∙ ap (λ (l : List ℕ). filter ok l ++ filter ok (onto m rest)) (onto-twice m (2 ^ i) with)
      ∙ ap (λ (j : ℕ). joined_by g need n b (m + 2 ^ i) j ++ joined_by g need n (suc b) m j) (sym (add-one i))
      ∙ ap (λ (c : ℕ). joined_by g need n b (m + 2 ^ i) (i + 1) ++ joined_by g need n c m (i + 1)) (sym (add-one b))

  pub joined_end : (b m i : ℕ) → n ≤ i → joined_by g need n (b + 1) m i ≡ []
  unfolding joined_by choose filter
  joined_end b m i h =
      let none : n - i ≡ 0 = omega arith in
      ap (λ (c : ℕ). filter ok (onto m (choose c (n - i) i))) (add-one b) ∙ ap (λ (d : ℕ). filter ok (onto m (choose (suc b) d i))) none

  -- no band more: the set itself, where it is listed
  joined-none : (m i : ℕ) → joined_by g need n 0 m i ≡ cond (ok m) (m ∷ []) []
  unfolding joined_by choose filter
  joined-none m i = ap (λ (p : ℕ). cond (ok p) (p ∷ []) []) (add-zero m)

  -- ---- the list by size: the sets of one band, of two and of three, each those of the empty part
  sized-is : (b : ℕ) → filter ok (choose b n 0) ≡ joined_by g need n b 0 0
  unfolding joined_by
  sized-is b =
      let whole : n ≡ n - 0 = omega arith in
      ap (λ (d : ℕ). filter ok (choose b d 0)) whole ∙ ap (filter ok) (onto-none (choose b (n - 0) 0))
    where
      onto-none : (l : List ℕ) → l ≡ onto 0 l
      onto-none [] = refl
      onto-none (a ∷ l) = ap₂ (λ (c : ℕ) (r : List ℕ). c ∷ r) (sym (zero-add a)) (onto-none l)

  pub by-size : by_gains g need n ≡ joined_by g need n 1 0 0 ++ (joined_by g need n 2 0 0 ++ joined_by g need n 3 0 0)
  unfolding by_gains masks_in_order
  by-size =
      filter-append ok (choose 1 n 0) (choose 2 n 0 ++ choose 3 n 0)
      ∙ ap (λ (l : List ℕ). filter ok (choose 1 n 0) ++ l) (filter-append ok (choose 2 n 0) (choose 3 n 0))
      ∙ (λ i. sized-is 1 i ++ (sized-is 2 i ++ sized-is 3 i))

  -- ---- the sets of a part and one band more
  module _ (m s l j : ℕ) (w : PartOf g m s l j) (most : n ≤ 16) where
    last-by : (i : ℕ) (b : Bool) → i < n → ok (m + 2 ^ i) ≡ b
        → joined_by g need n 1 m i ≡ cond b ((m + 2 ^ i) ∷ []) [] ++ joined_by g need n 1 m (i + 1)
    last-by i b h e =
        joined_step 0 m i h
        ∙ ap (λ (l : List ℕ). l ++ joined_by g need n 1 m (i + 1))
        (joined-none (m + 2 ^ i) (i + 1) ∙ ap (λ (c : Bool). cond c ((m + 2 ^ i) ∷ []) []) e)

    listed-not : (i : ℕ) → j ≤ i → i < n → ((need ≤ s + g i) × (s + g i < need + min l (g i)) → ⊥)
        → joined_by g need n 1 m i ≡ joined_by g need n 1 m (i + 1)
    listed-not i k h f =
        last-by i false h (is_false (ok (m + 2 ^ i)) (λ t. f (listed-read g m s l j w i k need (omega arith) t)))

    pub last-band : (i : ℕ) → j ≤ i → i < n → s < need → Last g need n m s l i
    last-band i k h a = record {
      below = below-band g m s l j w i k;
      listed = λ b c. last-by i true h (listed-yes g m s l j w i k need (omega arith) a b c);
      short = λ b. listed-not i k h (λ p. not-le_of_lt b (omega (arith, p.0)));
      idle = λ b. listed-not i k h (λ p. not-le_of_lt p.1 (omega arith));
    }

    -- where the part reaches without one, none is listed
    pub last_none : need ≤ s → joined_by g need n 1 m j ≡ []
    last_none h = go (n - j) j (le_refl j) (omega arith)
      where
        go : (left i : ℕ) → j ≤ i → n ≤ i + left → joined_by g need n 1 m i ≡ []
        go zero i k p = joined_end 0 m i (omega arith)
        go (suc left) i k p = pick (go left (i + 1) (omega arith) (omega arith)) (dec_lt i n)
          where
            pick : joined_by g need n 1 m (i + 1) ≡ [] → Dec (i < n) → joined_by g need n 1 m i ≡ []
            pick rest (yes q) = listed-not i k q (λ r. not-le_of_lt r.1 (omega arith)) ∙ rest
            pick rest (no q) = joined_end 0 m i (omega arith)
