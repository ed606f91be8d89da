-- What the shared rating asks of levels, and what it gives: small sums, a least that is reached, totals and energies that are
-- those of the set, and a search that always ends. Assumes nothing.
use mathlib.Core.Path.{◌≡◌, refl, sym, ◌∙◌, ap, ap₂, subst}
use mathlib.Core.Bool.{Bool, true, not, ◌||◌, or-true, or-false}
use mathlib.Core.List.{List}
use mathlib.Core.Logic.{⊎_elim}
use Prim.Native.Nat.{ℕ, zero, suc, ◌+◌, ◌*◌, ◌-◌, ◌/◌, ◌%◌, ◌^◌, ◌≤◌, ◌<◌, min}
use native.Mathlib.Nat.{div-add-mod', mod-lt, le_refl, lt_irrefl}
use native.Mathlib.Numerals.{one-add}
use native.Mathlib.Decide.{dec_le}
use native.Mathlib.Omega.{arith}
use lib.Dec.{eqb}
use lib.Pow.{mod-pow-add, pow_pos}
use borrow.Author.Tests.{eq-eqb, ne_eqb}
use Rattle.laws.specs.Sums.{sum_to}
use Rattle.laws.proofs.Sums.{sum_same, sum_mono, sum-plus, sum-const, sum-term, sum_bound}
use Rattle.energy.specs.Energies.{F}
use Rattle.energy.proofs.Scaled.{F-first}
use Rattle.quantity.specs.Quantities.{in_range, band_of}
use Rattle.quantity.specs.declared.quantities.BandSet.{BandSet}
use Rattle.curve.specs.Bands.{accepted}
use Rattle.laws.specs.Tests.{any_to, bit}
use Rattle.curve.specs.Levels.{at, level_at, Levels, Entries, Count, start_at, total_at, min_to, least_of, energies_of, Settled}
use Rattle.curve.proofs.Counted.{counted, level-most}
use Rattle.curve.proofs.Walks.{total-zero, min-below, energies-most, next-over}
use Rattle.laws.proofs.Ranges.{all-at}

pub count_most : {n : ℕ} → Count n → n ≤ 16
count_most c = ⊎_elim (λ e. omega arith) (λ e. omega arith) c

pub count-some : {n : ℕ} → Count n → 1 ≤ n
count-some c = ⊎_elim (λ e. omega arith) (λ e. omega arith) c

-- a band of an accepted set is in range
pub band-in : (s : BandSet) (n : ℕ) → accepted s n ≡ true → (i : ℕ) → i < n → in_range (band_of s i) ≡ true
unfolding accepted
band-in s n e i h = all-at (λ j. in_range (band_of s j)) n e i h

module _ (sign : Bool) (s : BandSet) (entries : List ℕ) (n : ℕ) (most : n ≤ 16) (acc : accepted s n ≡ true)
    (ent : (i : ℕ) → i < 16 → Entries sign (at entries i)) where
  pub level-at-most : (i : ℕ) → i < n → level_at sign s entries i ≤ 4500
  level-at-most i h = level-most sign (band_of s i) (at entries i)
      (counted sign (band_of s i) (at entries i) (band-in s n acc i h) (ent i (omega arith)))

  pub levels-most : (levels : List ℕ) → Levels sign (band_of s) entries n levels → (i : ℕ) → i < n → at levels i ≤ 4500
  levels-most levels l i h = omega (arith, l.each i h, level-at-most i h)

  pub sum-small : sum_to (level_at sign s entries) n ≤ n * 4500
  sum-small = sum_bound (level_at sign s entries) 4500 n level-at-most

-- the start stays small
pub start_small : (n sum add : ℕ) → Count n → sum ≤ n * 4500 → add < 2000 → (sum + add) / (10 * n) < 500
start_small n sum add c h k = ⊎_elim
    (λ e. rw e (omega (arith, subst (λ (m : ℕ). sum ≤ m * 4500) e h)))
    (λ e. rw e (omega (arith, subst (λ (m : ℕ). sum ≤ m * 4500) e h))) c

-- levels that are alike have the same totals, sums, least and energies
pub total-alike : (f g : ℕ → ℕ) (n p : ℕ) → ((i : ℕ) → i < n → f i ≡ g i) → total_at f n p ≡ total_at g n p
unfolding total_at
total-alike f g n p h = sum_same (λ i. 10 * p - f i) (λ i. 10 * p - g i) n (λ i q. ap (λ (m : ℕ). 10 * p - m) (h i q))

pub min-alike : (f g : ℕ → ℕ) (n : ℕ) → ((i : ℕ) → i < suc n → f i ≡ g i) → min_to f n ≡ min_to g n
unfolding min_to
min-alike f g zero h = h 0 (omega arith)
min-alike f g (suc n) h = ap₂ min (min-alike f g n (λ i q. h i (omega arith))) (h (suc n) (le_refl (suc (suc n))))

pub least-alike : (f g : ℕ → ℕ) (n : ℕ) → 1 ≤ n → ((i : ℕ) → i < n → f i ≡ g i) → least_of f n ≡ least_of g n
unfolding least_of
least-alike f g n k h = min-alike f g (n - 1) (λ i q. h i (omega arith))

pub energies-alike : (f g : ℕ → ℕ) (n m : ℕ) → ((i : ℕ) → i < n → f i ≡ g i) → energies_of f n m ≡ energies_of g n m
unfolding energies_of
energies-alike f g n m h = sum_same (λ i. F (f i - m)) (λ i. F (g i - m)) n (λ i q. ap (λ (x : ℕ). F (x - m)) (h i q))

pub settled-alike : (f g : ℕ → ℕ) (n limit start start' p shifts : ℕ) → ((i : ℕ) → i < n → f i ≡ g i) → start ≡ start'
    → Settled f n limit start p shifts → Settled g n limit start' p shifts
settled-alike f g n limit start start' p shifts h e w = record {
  distance = w.distance ∙ e;
  fits = subst (λ (t : ℕ). t ≤ limit) (total-alike f g n p h) w.fits;
  over = λ s q. subst (λ (t : ℕ). limit < t) (total-alike f g n (start - s) h ∙ ap (λ (m : ℕ). total_at g n (m - s)) e) (w.over s q);
}

-- the least is reached, so one energy is whole
min-reached : (f : ℕ → ℕ) (n : ℕ) → (i : ℕ) × (i ≤ n) × (f i ≡ min_to f n)
unfolding min_to
min-reached f zero = (0, omega arith, refl)
min-reached f (suc n) = go (min-reached f n) (dec_le (min_to f n) (f (suc n)))
  where
    go : (i : ℕ) × (i ≤ n) × (f i ≡ min_to f n) → Dec (min_to f n ≤ f (suc n)) → (i : ℕ) × (i ≤ suc n) × (f i ≡ min (min_to f n) (f (suc n)))
    go r (yes h) = (r.0, omega arith, r.2 ∙ omega arith)
    go r (no h) = (suc n, le_refl (suc n), omega arith)

pub energies-bounds : (f : ℕ → ℕ) (n : ℕ) → Count n → (1000000000 ≤ energies_of f n (least_of f n)) × (energies_of f n (least_of f n) ≤ 16000000000)
unfolding energies_of least_of
energies-bounds f n c =
    let r = min-reached f (n - 1) in
    let i : ℕ = r.0 in
    let m : ℕ = min_to f (n - 1) in
    let z : f i - m ≡ 0 = omega (arith, r.2) in
    let k : 1 ≤ n = count-some c in
    let q : n ≤ 16 = count_most c in (
      omega (arith, sum-term (λ j. F (f j - m)) n i (omega (arith, r.1)), ap F z, F-first),
      omega (arith, energies-most f n m),
    )

pub least-below : (f : ℕ → ℕ) (n i : ℕ) → i < n → least_of f n ≤ f i
unfolding least_of
least-below f n i h = min-below f (n - 1) i (omega arith)

-- ---- the search always ends
pub record Found (f : ℕ → ℕ) (n limit start : ℕ) : Type 0 where
  pub place : ℕ
  pub moves : ℕ
  pub settled : Settled f n limit start place moves

-- stop here, or go on below
choose : (f : ℕ → ℕ) (n limit start p shifts : ℕ) → p + shifts ≡ start → ((s : ℕ) → s < shifts → limit < total_at f n (start - s))
    → (limit < total_at f n p → Found f n limit start) → Dec (total_at f n p ≤ limit) → Found f n limit start
choose f n limit start p shifts e over next (yes h) =
    record { place = p; moves = shifts; settled = record { distance = e; fits = h; over = over } }
choose f n limit start p shifts e over next (no h) = next (omega arith)

down-from : (f : ℕ → ℕ) (n limit start p shifts : ℕ) → p + shifts ≡ start → ((s : ℕ) → s < shifts → limit < total_at f n (start - s))
    → Found f n limit start
down-from f n limit start zero shifts e over =
    choose f n limit start 0 shifts e over (λ h. absurd (omega (arith, total-zero f n))) (dec_le (total_at f n 0) limit)
down-from f n limit start (suc p) shifts e over =
    choose f n limit start (suc p) shifts e over
    (λ h. down-from f n limit start p (shifts + 1) (omega arith)
    (next-over f n limit start (suc p) shifts (total_at f n (suc p)) e refl h over))
    (dec_le (total_at f n (suc p)) limit)

pub found : (f : ℕ → ℕ) (n limit start : ℕ) → Found f n limit start
found f n limit start = down-from f n limit start start 0 (omega arith) (λ s h. absurd (omega arith))

-- ---- past the start every position is over the limit
pub over-past : (f : ℕ → ℕ) (n add p : ℕ) → 0 < n → start_at f n add < p → add < total_at f n p
unfolding total_at
over-past f n add p h k =
    let m : ℕ = 10 * n in
    let S : ℕ = sum_to f n in
    let d : (S + add) / m * m + (S + add) % m ≡ S + add = div-add-mod' (S + add) m in
    let r : (S + add) % m < m = mod-lt (S + add) (omega arith) in
    let a : sum_to (λ i. 10 * p) n ≤ sum_to (λ i. (10 * p - f i) + f i) n = sum_mono (λ i. 10 * p) (λ i. (10 * p - f i) + f i) n (λ i q. omega arith) in
    let b : sum_to (λ i. (10 * p - f i) + f i) n ≡ sum_to (λ i. 10 * p - f i) n + S = sum-plus (λ i. 10 * p - f i) f n in
    let c : sum_to (λ i. 10 * p) n ≡ n * (10 * p) = sum-const (10 * p) n in
    let w : m * suc ((S + add) / m) ≤ m * p = native.Mathlib.Nat.mul-le-mul_left m k in
    omega arith

-- ---- the marks: some mark below n is set where the remainder by 2 ^ n is not 0
or_is : (m n x : ℕ) (b : Bool) → x < 2 → m % 2 ^ suc n ≡ x * 2 ^ n + m % 2 ^ n → b ≡ not (eqb (m % 2 ^ n) 0)
    → b || eqb x 1 ≡ not (eqb (m % 2 ^ suc n) 0)
or_is m n zero b h e g =
    let w : m % 2 ^ suc n ≡ m % 2 ^ n = omega arith in
    or-false b ∙ g ∙ ap (λ (r : ℕ). not (eqb r 0)) (sym w)
or_is m n (suc zero) b h e g =
    let p : 0 < 2 ^ n = pow_pos n in
    or-true b ∙ sym (ap not (ne_eqb (m % 2 ^ suc n) 0 (λ z. lt_irrefl 0 (omega arith))))
or_is m n (suc (suc x)) b h e g = absurd (omega arith)

pub any-bits : (m n : ℕ) → any_to (bit m) n ≡ not (eqb (m % 2 ^ n) 0)
unfolding any_to
any-bits m zero = let z : m % 2 ^ 0 ≡ 0 = omega arith in sym (ap not (eq-eqb (m % 2 ^ 0) 0 z))
any-bits m (suc n) =
    or_is m n (m / 2 ^ n % 2) (any_to (bit m) n) (omega arith)
    (ap (λ (k : ℕ). m % 2 ^ k) (sym (one-add n)) ∙ mod-pow-add m 1 n) (any-bits m n)
