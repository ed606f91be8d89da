-- The sets of 1 to 3 bands, in order. That each is such a set, that each is before the next, and that the sets of fewer bands are those
-- below 2 ^ n are computed; that every set is there goes by induction over the bands. Assumes nothing.
use mathlib.Core.Path.{◌≡◌, refl, sym, ◌∙◌, ap, subst}
use mathlib.Core.Bool.{Bool, true, false, cond, ◌&&◌}
use mathlib.Core.List.Memᴰ
use mathlib.Core.List.{List, [], ◌∷◌, ◌++◌, map, Memᴰ}
use Prim.Native.Nat.{ℕ, zero, suc, ◌+◌, ◌*◌, ◌/◌, ◌%◌, ◌^◌, ◌≤◌, ◌<◌}
use native.Mathlib.Nat.{add-zero, not-suc-le-zero, pow-suc, div-add-mod', div-div-eq-div-mul, div-eq_of_lt}
use native.Mathlib.Omega.{arith}
use borrow.Author.Tests.{eqb-true, eqb-false}
use lib.Dec.{T, leb, ltb, leb→le, ltb→lt}
use lib.ListN.{length}
use Rattle.laws.specs.Tests.{bit}
use Rattle.kinds.specs.declared.kinds.Kind.{Kind}
use Rattle.kinds.specs.declared.kinds.Kind.TheVariants.{A3, A1, I3, I1}
use Rattle.kinds.specs.Kinds.{bands_of}
use Rattle.sets.specs.Masks.{bands_from, bands_in, size, is_mask, earlier, before, choose, masks_in_order, filter}
use Rattle.laws.proofs.Tests.{and_left, and_right}
use Rattle.sets.proofs.Filters.{all_in, rising_by, filter-made}

-- ---- computed: for thirds and for octaves
pub all-sets : (k : Kind) → T (all_in (is_mask (bands_of k)) (masks_in_order (bands_of k)))
unfolding masks_in_order choose all_in is_mask size bands_in bands_from
all-sets A3 = tt
all-sets A1 = tt
all-sets I3 = tt
all-sets I1 = tt

pub sets-rise : (k : Kind) → T (rising_by before 0 (masks_in_order (bands_of k)))
unfolding masks_in_order choose rising_by before earlier size bands_in bands_from
sets-rise A3 = tt
sets-rise A1 = tt
sets-rise I3 = tt
sets-rise I1 = tt

pub fewer : (k : Kind) → masks_in_order (bands_of k) ≡ filter (λ m. ltb m (2 ^ bands_of k)) (masks_in_order 16)
unfolding masks_in_order choose filter
fewer A3 = refl
fewer A1 = refl
fewer I3 = refl
fewer I1 = refl

-- ---- every set is there
map-member : (f : ℕ → ℕ) (a : ℕ) (l : List ℕ) → Memᴰ a l → Memᴰ (f a) (map f l)
map-member f a [] h = elim h [ ]
map-member f a (b ∷ l) (Memᴰ.head e) = Memᴰ.head (ap f e)
map-member f a (b ∷ l) (Memᴰ.tail h) = Memᴰ.tail (map-member f a l h)

-- a set without band i is among those that do not look at it
without : (s left i a : ℕ) → Memᴰ a (choose s left (suc i)) → Memᴰ a (choose s (suc left) i)
unfolding choose
without zero left i a h = h
without (suc s) left i a h = Memᴰ.append_right (map (λ (m : ℕ). 2 ^ i + m) (choose s left (suc i))) h

-- what band i adds to the part of m above it
halves : (m i : ℕ) → m / 2 ^ suc i * 2 ^ suc i + m / 2 ^ i % 2 * 2 ^ i ≡ m / 2 ^ i * 2 ^ i
halves m i =
    let up : m / 2 ^ suc i ≡ m / 2 ^ i / 2 = ap (λ (d : ℕ). m / d) (pow-suc 2 i) ∙ sym (div-div-eq-div-mul m (2 ^ i) 2) in
    let whole : (m / 2 ^ i / 2 * 2 + m / 2 ^ i % 2) * 2 ^ i ≡ m / 2 ^ i * 2 ^ i = ap (λ (q : ℕ). q * 2 ^ i) (div-add-mod' (m / 2 ^ i) 2) in
    ap (λ (q : ℕ). q * 2 ^ suc i + m / 2 ^ i % 2 * 2 ^ i) up
    ∙ ap (λ (w : ℕ). m / 2 ^ i / 2 * w + m / 2 ^ i % 2 * 2 ^ i) (pow-suc 2 i)
    ∙ omega (arith, whole)

-- the part of m from band i on, where m has no band past the last
from-band : (left i m : ℕ) → m / 2 ^ (i + left) ≡ 0 → Memᴰ (m / 2 ^ i * 2 ^ i) (choose (length (bands_from left i m)) left i)
unfolding choose bands_from
from-band zero i m h = Memᴰ.head (none (m / 2 ^ i) (2 ^ i) (ap (λ (j : ℕ). m / 2 ^ j) (sym (add-zero i)) ∙ h))
  where
    none : (q w : ℕ) → q ≡ 0 → q * w ≡ 0
    none q w e = ap (λ (r : ℕ). r * w) e ∙ omega arith
from-band (suc left) i m h =
    go (bit m i) refl (from-band left (suc i) m (ap (λ (j : ℕ). m / 2 ^ j) (shift i left) ∙ h))
  where
    shift : (i left : ℕ) → suc i + left ≡ i + suc left
    shift i left = omega arith

    above : ℕ
    above = m / 2 ^ suc i * 2 ^ suc i

    with-band : m / 2 ^ i % 2 ≡ 1 → 2 ^ i + above ≡ m / 2 ^ i * 2 ^ i
    with-band e = omega (arith, halves m i, ap (λ (b : ℕ). b * 2 ^ i) e)

    no-band : m / 2 ^ i % 2 ≡ 0 → above ≡ m / 2 ^ i * 2 ^ i
    no-band e = omega (arith, halves m i, ap (λ (b : ℕ). b * 2 ^ i) e)

    even : (b : ℕ) → (b % 2 ≡ 1 → ⊥) → b % 2 ≡ 0
    even b f = omega arith

    go : (b : Bool) → bit m i ≡ b → Memᴰ above (choose (length (bands_from left (suc i) m)) left (suc i))
        → Memᴰ (m / 2 ^ i * 2 ^ i)
        (choose (length (cond b (i ∷ bands_from left (suc i) m) (bands_from left (suc i) m))) (suc left) i)
    go true e q =
        Memᴰ.cast (sym (with-band (eqb-true (m / 2 ^ i % 2) 1 e)))
        (Memᴰ.append_left (choose (suc (length (bands_from left (suc i) m))) left (suc i))
        (map-member (λ (m : ℕ). 2 ^ i + m) above (choose (length (bands_from left (suc i) m)) left (suc i)) q))
    go false e q =
        Memᴰ.cast (sym (no-band (even (m / 2 ^ i) (eqb-false (m / 2 ^ i % 2) 1 e))))
        (without (length (bands_from left (suc i) m)) left i above q)

by_size : (s n m : ℕ) → 1 ≤ s → s ≤ 3 → Memᴰ m (choose s n 0) → Memᴰ m (masks_in_order n)
unfolding masks_in_order
by_size zero n m h k q = absurd (omega arith)
by_size (suc zero) n m h k q = Memᴰ.append_left (choose 2 n 0 ++ choose 3 n 0) q
by_size (suc (suc zero)) n m h k q = Memᴰ.append_right (choose 1 n 0) (Memᴰ.append_left (choose 3 n 0) q)
by_size (suc (suc (suc zero))) n m h k q = Memᴰ.append_right (choose 1 n 0) (Memᴰ.append_right (choose 2 n 0) q)
by_size (suc (suc (suc (suc s)))) n m h k q = absurd (omega arith)

-- every set of 1 to 3 of 16 bands
all_there : (m : ℕ) → m < 65536 → 1 ≤ size m → size m ≤ 3 → Memᴰ m (masks_in_order 16)
unfolding size bands_in
all_there m h lo hi =
    by_size (size m) 16 m lo hi (Memᴰ.cast (whole m) (from-band 16 0 m (div-eq_of_lt h)))
  where
    whole : (m : ℕ) → m ≡ m / 2 ^ 0 * 2 ^ 0
    whole m = omega arith

-- what is said of a set of a kind's bands
narrow : (k : Kind) (m : ℕ) → m < 2 ^ bands_of k → m < 65536
narrow A3 m h = h
narrow A1 m h = omega arith
narrow I3 m h = h
narrow I1 m h = omega arith

module _ (k : Kind) (m : ℕ) (t : T (is_mask (bands_of k) m)) where
  front-tests : T (ltb m (2 ^ bands_of k) && leb 1 (size m))
  unfolding is_mask
  front-tests = and_left (ltb m (2 ^ bands_of k) && leb 1 (size m)) (leb (size m) 3) t

  few : size m ≤ 3
  unfolding is_mask
  few = leb→le (size m) 3 (and_right (ltb m (2 ^ bands_of k) && leb 1 (size m)) (leb (size m) 3) t)

  below : T (ltb m (2 ^ bands_of k))
  below = and_left (ltb m (2 ^ bands_of k)) (leb 1 (size m)) front-tests

  one : 1 ≤ size m
  one = leb→le 1 (size m) (and_right (ltb m (2 ^ bands_of k)) (leb 1 (size m)) front-tests)

  pub set_word : m < 65536
  set_word = narrow k m (ltb→lt m (2 ^ bands_of k) below)

  pub set-some : m ≡ 0 → ⊥
  unfolding size bands_in bands_from
  set-some e = absurd (not-suc-le-zero (subst (λ (r : ℕ). 1 ≤ size r) e one))

  -- every set of 1 to 3 of a kind's bands is there
  pub every_set : Memᴰ m (masks_in_order (bands_of k))
  every_set = rw (fewer k) (filter-made (λ r. ltb r (2 ^ bands_of k)) (masks_in_order 16) m (all_there m set_word one few) below)
