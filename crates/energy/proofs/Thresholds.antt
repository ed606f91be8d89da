-- A table of thresholds: entry i is the least number whose size meets need (i + 1). Where a number reaches r entries, it meets
-- need r and not need (r + 1): no order of the table is used. Where the needs rise, the table does. Here for the sums of sixteen
-- bands. Assumes nothing.
use mathlib.Core.Path.{◌≡◌, refl, sym, subst}
use mathlib.Core.Bool.{Bool, true, false}
use mathlib.Core.List.{List}
use Prim.Native.Nat.{ℕ, zero, suc, ◌+◌, ◌*◌, ◌-◌, ◌^◌, ◌≤◌, ◌<◌}
use native.Mathlib.Nat.{pow-le-pow_left, le_refl, le_trans, lt_of_le_of_lt, not-le_of_lt}
use native.Mathlib.Decide.{dec_lt}
use native.Mathlib.Omega.{arith}
use lib.Dec.{T, leb, ltb, leb→le, le→leb, ltb→lt, lit<, lit≤}
use lib.ListN.{length, get_or}
use Rattle.std.specs.List.Sorted.{IsNonDecreasing, IsPartitionPoint}
use Rattle.std.proofs.lemmas.Bool.{leb-true, leb-false}
use Rattle.std.proofs.lemmas.List.Sorted.{IsNonDecreasingBy-from_default}
use Rattle.laws.specs.Extremes.{Greatest, Least, Number}
use Rattle.laws.proofs.Extremes.{Down, found, number_of}
use Rattle.laws.proofs.Table.{both, both_left, both_right, every, at}
use Rattle.energy.specs.Energies.{u, level_rule, AtLeast, Summed}
use Rattle.energy.proofs.Powers.{ten-up, pass-down}
use Rattle.energy.proofs.Lists.{levels}

-- the r entries before place r end with one that is at most s, and the entry at r, if there is one, is above s
pub record Reached (table : List ℕ) (s r : ℕ) : Type 0 where
  pub within : r ≤ length table
  pub below : (i : ℕ) → suc i ≡ r → get_or table i 0 ≤ s
  pub above : r < length table → s < get_or table r 0

-- so do the entries of an ascending table that are at most s
pub point_reached : (table : List ℕ) (s r : ℕ) → r ≤ length table
    → IsPartitionPoint (λ y. leb y s ≡ true) (λ y. leb y s ≡ false) table r → Reached table s r
point_reached table s r h p = record {
  within = h;
  below = λ i e. leb-true (get_or table i 0) s (p.0 i 0 (omega arith) (omega arith));
  above = λ k. leb-false (get_or table r 0) s (p.1 r 0 (le_refl r) k);
}

abbrev pub threshold : (ℕ → ℕ) → (ℕ → ℕ) → ℕ → ℕ → Bool
threshold need size i x = both (leb (need (suc i)) (size x)) (ltb (size (x - 1)) (need (suc i)))

module _ (need size : ℕ → ℕ) (up : (a b : ℕ) → a ≤ b → size a ≤ size b)
    (table : List ℕ) (checked : T (every (threshold need size) 0 table)) where
  met : (i : ℕ) → i < length table → need (suc i) ≤ size (get_or table i 0)
  met i h = leb→le (need (suc i)) (size (get_or table i 0))
      (both_left (leb (need (suc i)) (size (get_or table i 0))) (ltb (size (get_or table i 0 - 1)) (need (suc i)))
      (at (threshold need size) table checked i h))

  missed : (i : ℕ) → i < length table → size (get_or table i 0 - 1) < need (suc i)
  missed i h = ltb→lt (size (get_or table i 0 - 1)) (need (suc i))
      (both_right (leb (need (suc i)) (size (get_or table i 0))) (ltb (size (get_or table i 0 - 1)) (need (suc i)))
      (at (threshold need size) table checked i h))

  -- an entry is reached exactly where its need is met
  pub enough : (s i : ℕ) → i < length table → get_or table i 0 ≤ s → T (leb (need (suc i)) (size s))
  enough s i h k = le→leb (need (suc i)) (size s) (le_trans (met i h) (up (get_or table i 0) s k))

  pub too_few : (s i : ℕ) → i < length table → s < get_or table i 0 → T (leb (need (suc i)) (size s)) → ⊥
  too_few s i h k t =
      not-le_of_lt (missed i h) (le_trans (leb→le (need (suc i)) (size s) t) (up s (get_or table i 0 - 1) (omega arith)))

  -- the least that meets a greater need is no less
  pub rising : ((i j : ℕ) → i ≤ j → need i ≤ need j) → IsNonDecreasing table
  rising more = IsNonDecreasingBy-from_default (λ x. x) table 0 (λ i j h k. go i j h k (dec_lt (get_or table j 0) (get_or table i 0)))
    where
      go : (i j : ℕ) → i ≤ j → j < length table → Dec (get_or table j 0 < get_or table i 0) → get_or table i 0 ≤ get_or table j 0
      go i j h k (yes q) = absurd (too_few (get_or table j 0) i (omega arith) q
          (le→leb (need (suc i)) (size (get_or table j 0)) (le_trans (more (suc i) (suc j) (omega arith)) (met j k))))
      go i j h k (no q) = omega arith

module _ (need size : ℕ → ℕ) (up : (a b : ℕ) → a ≤ b → size a ≤ size b)
    (table : List ℕ) (checked : T (every (threshold need size) 0 table))
    (s r : ℕ) (reach : Reached table s r) where
  pub meets : need 0 ≤ size s → T (leb (need r) (size s))
  meets base = go r refl
    where
      go : (k : ℕ) → r ≡ k → T (leb (need r) (size s))
      go zero e = subst (λ (n : ℕ). T (leb (need n) (size s))) (sym e) (le→leb (need 0) (size s) base)
      go (suc i) e = subst (λ (n : ℕ). T (leb (need n) (size s))) (sym e)
          (enough need size up table checked s i (omega (arith, reach.within)) (reach.below i (sym e)))

  pub misses : size s < need (suc (length table)) → T (leb (need (suc r)) (size s)) → ⊥
  misses end t = go (dec_lt r (length table))
    where
      go : Dec (r < length table) → ⊥
      go (yes h) = too_few need size up table checked s r h (reach.above h) t
      go (no h) = let e : r ≡ length table = omega (arith, reach.within) in
          not-le_of_lt end (subst (λ (n : ℕ). need (suc n) ≤ size s) e (leb→le (need (suc r)) (size s) t))

-- ---- sums of sixteen bands: need j is 10 ^ (1799 + 2 j), size s is s ^ 200
abbrev need_u : ℕ → ℕ
need_u j = 10 ^ (1799 + 2 * j)

abbrev size_u : ℕ → ℕ
size_u s = s ^ 200

up-u : (a b : ℕ) → a ≤ b → size_u a ≤ size_u b
up-u a b h = pow-le-pow_left h 200

down-u : (S : ℕ) → Down (level_rule S)
unfolding level_rule
down-u S m n h t = pass-down (need_u m) (need_u n) (size_u S) (ten-up (omega arith)) t

most-u : (S : ℕ) → S ≤ 16000000000 → size_u S ≤ 16000000000 ^ 200
most-u S h = up-u S 16000000000 h

top-u : (S : ℕ) → S ≤ 16000000000 → T (level_rule S (2 ^ 8)) → ⊥
unfolding level_rule
top-u S h t = not-le_of_lt (lt_of_le_of_lt (most-u S h) (lit< {n = need_u (2 ^ 8)} tt)) (leb→le (need_u (2 ^ 8)) (size_u S) t)

checked-u : T (every (threshold need_u size_u) 0 levels)
unfolding levels
checked-u = tt

base-u : (S : ℕ) → 1000000000 ≤ S → need_u 0 ≤ size_u S
base-u S h = le_trans (lit≤ {m = need_u 0} {n = 1000000000 ^ 200} tt) (up-u 1000000000 S h)

u-greatest : (S : ℕ) → 1000000000 ≤ S → S ≤ 16000000000 → Greatest (λ j. T (level_rule S j)) (u S)
unfolding u level_rule
u-greatest S a b = found 8 (level_rule S) (down-u S) (le→leb (need_u 0) (size_u S) (base-u S a)) (top-u S b)

-- the table's entries against u: one is reached exactly where u is above its place, and no such sum goes on
pub record Thresholds (table : List ℕ) : Type 0 where
  pub reached : (S j : ℕ) → Summed S → j < 123 → get_or table j 0 ≤ S → j < u S
  pub missed : (S j : ℕ) → Summed S → j < 123 → S < get_or table j 0 → u S ≤ j
  pub most : (S : ℕ) → Summed S → u S ≤ 120

pub levels-are : Thresholds levels
unfolding levels level_rule
levels-are = record {
  reached = λ S j h l k. (u-greatest S h.0 h.1).best (suc j) (enough need_u size_u up-u levels checked-u S j l k);
  missed = λ S j h l k. at_most S j h (too_few need_u size_u up-u levels checked-u S j l k);
  most = λ S h. at_most S 120 h (λ t. not-le_of_lt (lt_of_le_of_lt (most-u S h.1) (lit< {n = need_u 121} tt)) (leb→le (need_u 121) (size_u S) t));
}
  where
    at_most : (S j : ℕ) → Summed S → (T (level_rule S (suc j)) → ⊥) → u S ≤ j
    at_most S j h f = go (dec_lt j (u S))
      where
        go : Dec (j < u S) → u S ≤ j
        go (yes k) = absurd (f (down-u S (suc j) (u S) k (u-greatest S h.0 h.1).holds))
        go (no k) = omega arith

-- the meaning of u: by any H that is the least with its rule, u(S) is the number of j >= 1 with H(j) <= S, of all j
pub u-number : (H : ℕ → ℕ) → ((j : ℕ) → Least (AtLeast j) (H j)) → (S : ℕ) → 1000000000 ≤ S → S ≤ 16000000000
    → Number (λ j. leb (H j) S) (u S)
unfolding AtLeast level_rule
u-number H is-H S a b = number_of (λ j. leb (H j) S) down (record { holds = to (u S) g.holds; best = λ m t. g.best m (from m t) })
  where
    g : Greatest (λ j. T (level_rule S j)) (u S)
    g = u-greatest S a b

    up : (j m n : ℕ) → m ≤ n → need_u j ≤ size_u m → need_u j ≤ size_u n
    up j m n h k = le_trans k (up-u m n h)

    to : (j : ℕ) → T (level_rule S j) → T (leb (H j) S)
    to j t = le→leb (H j) S ((is-H j).best S (leb→le (need_u j) (size_u S) t))

    from : (j : ℕ) → T (leb (H j) S) → T (level_rule S j)
    from j t = le→leb (need_u j) (size_u S) (up j (H j) S (leb→le (H j) S t) (is-H j).holds)

    down : Down (λ j. leb (H j) S)
    down m n h t = to m (down-u S m n h (from n t))
