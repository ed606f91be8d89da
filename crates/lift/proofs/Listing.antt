-- The list by gains is the list by ratings. At the target's position the total of a lifted set is the total less the gains of
-- its bands, so a set reaches where its gains make up what is over the limit. One proof over the kind. Assumes nothing.
use mathlib.Core.Path.{◌≡◌, refl, sym, ◌∙◌, ap, ap₂, subst}
use mathlib.Core.Bool.{Bool, true, false, not, cond, ◌&&◌}
use mathlib.Core.List.{List}
use Prim.Native.Nat.{ℕ, zero, suc, ◌+◌, ◌*◌, ◌-◌, ◌≤◌, ◌<◌}
use native.Mathlib.Nat.{add-zero, add-suc, lt_of_not-le, not-le_of_lt}
use native.Mathlib.Decide.{dec_lt}
use native.Mathlib.Omega.{arith}
use lib.Dec.{T, leb, leb→le, le→leb}
use lib.IntN.{ℤ, pos, negsuc, ◌+ℤ◌, ◌-ℤ◌}
use lib.ListN.{length}
use lib.Signed.{le_z}
use Rattle.laws.specs.Parts.{P, N}
use Rattle.laws.specs.Sums.{sum_to}
use Rattle.laws.proofs.Ints.{plus, minus, apart, eq-made, lt_yes, le_yes}
use Rattle.laws.proofs.Lists.{listed_at}
use Rattle.laws.proofs.Sums.{sum_same, sum-plus}
use Rattle.quantity.specs.Quantities.{in_range, band_of}
use Rattle.quantity.specs.declared.quantities.BandSet.{BandSet}
use Rattle.quantity.proofs.Rim.{sum-value, difference-value}
use Rattle.curve.specs.Bands.{accepted}
use Rattle.laws.specs.Tests.{bit}
use Rattle.curve.specs.Levels.{at, level_by, level_at, start_at, Countable}
use Rattle.curve.proofs.Walks.{total-most}
use Rattle.curve.proofs.Counted.{counted, level-parts}
use Rattle.curve.proofs.Searched.{band-in, count_most, found}
use Rattle.kinds.specs.declared.kinds.Kind.{Kind}
use Rattle.kinds.specs.declared.kinds.Kind.TheVariants.{A3, A1, I3, I1}
use Rattle.kinds.specs.Kinds.{airborne, bands_of, limit_of, reference_of}
use Rattle.kinds.specs.Numbers.{entry_by, entries_of, start_add, rating_at}
use Rattle.kinds.proofs.Facts.{count-of, entries_fit}
use Rattle.rating.specs.Curve.{deficit_by, deficit, total, within, rating_of}
use Rattle.rating.specs.Found.{rating_by}
use Rattle.rating.proofs.Bridge.{position_by, EntryOf, entry-parts, deficit-level}
use Rattle.rating.proofs.Meaning.{total-is, rating-is}
use Rattle.sets.specs.Masks.{is_mask, smaller, choose, masks_in_order}
use Rattle.sets.specs.Highest.{highest}
use Rattle.sets.specs.Gains.{target_at, lacking, gain, gains_of, listed_by, by_gains, Gained}
use Rattle.laws.proofs.Tests.{holds, is_true, one-test, and_left, and_right}
use Rattle.laws.proofs.Ranges.{all_same}
use Rattle.sets.proofs.Filters.{filter_same, filter-length, each_of}
use Rattle.sets.proofs.Enumeration.{all-sets, set_word, set-some}
use Rattle.sets.proofs.Counting.{best-in, best-most}
use Rattle.sets.proofs.Minimal.{least-is}
use Rattle.lift.specs.Reach.{better_by, meets_by, lifted, reaches, listed_mask, lift_list}
use Rattle.lift.specs.Calls.{in_targets, places_of}
use Rattle.lift.proofs.Reached.{meets-is, reaches-is}
use Rattle.rating.proofs.Small.{origin-small}

-- ---- the target's position, as a natural
pub position_at : (k : Kind) (target : ℤ) → Countable (airborne k) target (rating_at k)
    → target_at k target ≡ position_by (airborne k) (level_by (airborne k) target (rating_at k))
unfolding level_by
position_at A3 t h =
    eq-made (omega (arith, plus t (pos 0), minus (pos (P (t +ℤ pos 24))) (pos 24), sum-value t 24 h.0))
position_at A1 t h =
    eq-made (omega (arith, plus t (pos 0), minus (pos (P (t +ℤ pos 24))) (pos 24), sum-value t 24 h.0))
position_at I3 t h =
    eq-made (omega (arith, plus t (pos 0), minus (pos 168) (pos (P (pos 168 -ℤ t))), difference-value t 168 h.0))
position_at I1 t h =
    eq-made (omega (arith, plus t (pos 5), minus (pos 168) (pos (P (pos 163 -ℤ t))), difference-value t 163 h.0))

-- a target better than a rating at p is stricter than position 0
better-counts : (sign : Bool) (origin p : ℕ) (t : ℤ) → origin < 200 → N t ≤ 100 → P t ≤ 200
    → better_by sign t (rating_by sign origin p) ≡ true → Countable sign t origin
better-counts true origin p t o lo hi e = (
  omega (arith, lt_yes (pos p -ℤ pos origin) t e, minus (pos p) (pos origin), apart t, apart (pos p -ℤ pos origin)),
  omega arith,
)
better-counts false origin p t o lo hi e = (
  omega (arith, lt_yes t (pos origin -ℤ pos p) e, minus (pos origin) (pos p), apart t, apart (pos origin -ℤ pos p)),
  omega arith,
)

targets-read : (t : ℤ) → in_targets t ≡ true → (N t ≤ 100) × (P t ≤ 200)
unfolding in_targets
targets-read t e =
    let w : T (le_z (negsuc 99) t && le_z t (pos 200)) = holds e in (
      omega (arith, le_yes (negsuc 99) t (is_true (le_z (negsuc 99) t) (and_left (le_z (negsuc 99) t) (le_z t (pos 200)) w)), apart t),
      omega (arith, le_yes t (pos 200) (is_true (le_z t (pos 200)) (and_right (le_z (negsuc 99) t) (le_z t (pos 200)) w)), apart t),
    )

level-small : (sign : Bool) (t : ℤ) (origin : ℕ) → origin < 200 → N t ≤ 100 → P t ≤ 200 → Countable sign t origin → level_by sign t origin < 500
unfolding level_by
level-small true t origin o lo hi h = omega (arith, sum-value t origin h.0)
level-small false t origin o lo hi h = omega (arith, difference-value t origin h.0)

-- not better is as good
not-better : (sign : Bool) (t r : ℤ) → better_by sign t r ≡ true → T (meets_by sign t r) → ⊥
not-better true t r e m =
    let a : P r + N t < P t + N r = lt_yes r t e in
    let b : P t + N r ≤ P r + N t = le_yes t r (is_true (le_z t r) m) in
    not-le_of_lt a b
not-better false t r e m =
    let a : P t + N r < P r + N t = lt_yes t r e in
    let b : P r + N t ≤ P t + N r = le_yes r t (is_true (le_z r t) m) in
    not-le_of_lt a b

-- places past the bands add nothing
sum-rest : (h : ℕ → ℕ) (n j : ℕ) → ((i : ℕ) → n ≤ i → h i ≡ 0) → sum_to h (n + j) ≡ sum_to h n
unfolding sum_to
sum-rest h n zero z = ap (sum_to h) (add-zero n)
sum-rest h n (suc j) z = ap (sum_to h) (add-suc n j) ∙ omega (arith, sum-rest h n j z, z (n + j) (omega arith))

no-share : (b : Bool) (d : ℕ) → d ≡ 0 → cond b d 0 ≡ 0
no-share true d e = e
no-share false d e = refl

module _ (k : Kind) (s : BandSet) (acc : accepted s (bands_of k) ≡ true) (t : ℤ) (range : in_targets t ≡ true)
    (good : better_by (airborne k) t (rating_of k (band_of s)) ≡ true) where
  abbrev n : ℕ
  n = bands_of k

  abbrev x : ℕ → ℤ
  x = band_of s

  abbrev q : ℤ
  q = target_at k t

  abbrev p : ℕ
  p = level_by (airborne k) t (rating_at k)

  most : n ≤ 16
  most = count_most (count-of k)

  pub can-count : Countable (airborne k) t (rating_at k)
  can-count =
      let f : ℕ → ℕ = level_at (airborne k) s (entries_of k) in
      let r = found f n (limit_of k) (start_at f n (start_add k)) in
      let w = targets-read t range in
      better-counts (airborne k) (rating_at k) r.place t (origin-small k) w.0 w.1
      (subst (λ (z : ℤ). better_by (airborne k) t z ≡ true) (rating-is k s acc r.place r.moves r.settled) good)

  pub position-small : p < 500
  position-small = let w = targets-read t range in level-small (airborne k) t (rating_at k) (origin-small k) w.0 w.1 can-count

  at_position : q ≡ position_by (airborne k) p
  at_position = position_at k t can-count

  -- the deficit of a band value at the target
  lacking-is : (i : ℕ) → i < n → (z : ℤ) → in_range z ≡ true → lacking k q i z ≡ 10 * p - level_by (airborne k) z (at (entries_of k) i)
  unfolding deficit entries_of
  lacking-is i h z r =
      let sixteen : i < 16 = omega (arith, most) in
      let e : at (entries_of k) i ≡ entry_by (airborne k) (reference_of k i) = listed_at 0 (λ j. entry_by (airborne k) (reference_of k j)) 16 i sixteen in
      ap (λ (v : ℤ). deficit_by (airborne k) v (reference_of k i) z) at_position
      ∙ deficit-level (airborne k) (reference_of k i) z p (at (entries_of k) i) (level_by (airborne k) z (at (entries_of k) i))
      (subst (EntryOf (airborne k) (reference_of k i)) (sym e)
      (entry-parts (airborne k) (reference_of k i) (omega (arith, (entries_fit k i sixteen).low))))
      (level-parts (airborne k) z (at (entries_of k) i) (counted (airborne k) z (at (entries_of k) i) r (entries_fit k i sixteen)))

  -- no value lacks less than a lifted one
  lifted-least : (i : ℕ) → i < n → lacking k q i (highest (airborne k)) ≤ lacking k q i (x i)
  lifted-least i h =
      omega (
        arith,
        lacking-is i h (x i) (band-in s n acc i h),
        lacking-is i h (highest (airborne k)) (best-in (airborne k)),
        best-most (airborne k) (x i) (at (entries_of k) i) (band-in s n acc i h) (entries_fit k i (omega (arith, most))),
      )

  -- the target is over the limit as it stands
  over : limit_of k < total k x q
  unfolding within
  over = lt_of_not-le (λ h.
      not-better (airborne k) t (rating_of k x) good
      (subst T (sym (meets-is k s acc t)) (le→leb (total k x q) (limit_of k) h)))

  module _ (gains : List ℕ) (sum : ℕ) (w : Gained (airborne k) s (entries_of k) n p gains sum) where
    pub sum_is : sum ≡ total k x q
    sum_is = w.all ∙ sym (total-is k s acc p) ∙ ap (total k x) (sym at_position)

    pub above-limit : limit_of k < sum
    above-limit = omega (arith, sum_is, over)

    abbrev need : ℕ
    need = sum - limit_of k

    pub need-small : need < 1000000
    need-small = omega (arith, w.all, total-most (level_at (airborne k) s (entries_of k)) n p (omega (arith, position-small)), most)

    pub gains-small : (i : ℕ) → at gains i < 10000
    gains-small i = go (dec_lt i n)
      where
        go : Dec (i < n) → at gains i < 10000
        go (yes h) = omega (arith, w.each i h, position-small)
        go (no h) = omega (arith, w.rest i (omega arith))

    -- the gains by deficits
    gain-is : (i : ℕ) → i < n → at gains i ≡ gain k x q i
    unfolding gain
    gain-is i h =
        w.each i h
        ∙ ap₂ ◌-◌ (sym (lacking-is i h (x i) (band-in s n acc i h))) (sym (lacking-is i h (highest (airborne k)) (best-in (airborne k))))

    -- a lifted set's total and its gains make up the total, band by band
    band-total : (m i : ℕ) → i < n → lacking k q i (lifted k x m i) + cond (bit m i) (at gains i) 0 ≡ lacking k q i (x i)
    unfolding lifted gain
    band-total m i h = go (bit m i)
      where
        go : (b : Bool) → lacking k q i (cond b (highest (airborne k)) (x i)) + cond b (at gains i) 0 ≡ lacking k q i (x i)
        go true = omega (arith, gain-is i h, lifted-least i h)
        go false = omega arith

    lifted-total : (m : ℕ) → total k (lifted k x m) q + gains_of (at gains) m 16 ≡ total k x q
    unfolding total gains_of
    lifted-total m =
        let share : ℕ → ℕ = λ i. cond (bit m i) (at gains i) 0 in
        let tail : sum_to share (n + (16 - n)) ≡ sum_to share n = sum-rest share n (16 - n) (λ i h. no-share (bit m i) (at gains i) (w.rest i h)) in
        let whole : n + (16 - n) ≡ 16 = omega (arith, most) in
        ap (λ (r : ℕ). sum_to (λ i. lacking k q i (lifted k x m i)) n + r) (ap (sum_to share) (sym whole) ∙ tail)
        ∙ sym (sum-plus (λ i. lacking k q i (lifted k x m i)) share n)
        ∙ sum_same (λ i. lacking k q i (lifted k x m i) + share i) (λ i. lacking k q i (x i)) n (band-total m)

    -- a set reaches where its gains make up what is over the limit
    reach-by : (m : ℕ) → reaches k x t m ≡ leb need (gains_of (at gains) m 16)
    unfolding within
    reach-by m =
        reaches-is k s acc m t
        ∙ one-test (leb (total k (lifted k x m) q) (limit_of k)) (leb need (gains_of (at gains) m 16))
        (λ u. le→leb need (gains_of (at gains) m 16)
        (omega (arith, leb→le (total k (lifted k x m) q) (limit_of k) u, lifted-total m, sum_is)))
        (λ u. le→leb (total k (lifted k x m) q) (limit_of k)
        (omega (arith, leb→le need (gains_of (at gains) m 16) u, lifted-total m, sum_is, above-limit)))

    -- so the two tests are one
    listed_by_lem : (m : ℕ) → T (is_mask n m) → listed_mask k x t m ≡ listed_by (at gains) need m
    unfolding listed_mask
    listed_by_lem m u =
        ap₂ ◌&&◌ (reach-by m)
        (all_same (λ r. not (smaller r m && reaches k x t r)) (λ r. not (smaller r m && leb need (gains_of (at gains) r 16))) 65536
        (λ r h. ap (λ (b : Bool). not (smaller r m && b)) (reach-by r)))
        ∙ least-is (at gains) need m (omega (arith, above-limit)) gains-small (set_word k m u) (set-some k m u)

    pub list-is : by_gains (at gains) need n ≡ lift_list k x t
    unfolding by_gains lift_list
    list-is =
        sym (filter_same (listed_mask k x t) (listed_by (at gains) need) (masks_in_order n)
        (λ m h. listed_by_lem m (each_of (is_mask n) (masks_in_order n) m (all-sets k) h)))

-- the list has room where the kind's places are lent
places-are : (k : Kind) → length (masks_in_order (bands_of k)) ≡ places_of k
unfolding masks_in_order choose
places-are A3 = refl
places-are A1 = refl
places-are I3 = refl
places-are I1 = refl

pub list-room : (k : Kind) (x : ℕ → ℤ) (t : ℤ) (room : ℕ) → places_of k ≤ room → length (lift_list k x t) ≤ room
unfolding lift_list
list-room k x t room h = omega (arith, filter-length (listed_mask k x t) (masks_in_order (bands_of k)), places-are k)
