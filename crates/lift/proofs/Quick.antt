-- The lift list of given bands, computed: by gains, which is proved to be the list by ratings. Assumes nothing.
use mathlib.Core.Path.{◌≡◌, refl, sym, ◌∙◌, ap, subst, fun_ext}
use mathlib.Core.Bool.{Bool, true, ◌&&◌}
use mathlib.Core.List.{List, map}
use Prim.Native.Nat.{ℕ, zero, suc, ◌-◌, ◌≤◌}
use native.Mathlib.Omega.{arith}
use lib.Dec.{T}
use lib.IntN.{ℤ, pos}
use lib.ListN.{length, get_or, get_or-map}
use Rattle.laws.specs.Lists.{listed}
use Rattle.laws.proofs.Lists.{listed_at}
use Rattle.quantity.specs.Quantities.{band_of, tenths}
use Rattle.quantity.specs.declared.quantities.Tenths.{Tenths}
use Rattle.quantity.specs.declared.quantities.BandSet.{BandSet}
use Rattle.curve.specs.Bands.{accepted}
use Rattle.curve.specs.Levels.{at, level_by, level_at, total_at}
use Rattle.kinds.specs.declared.kinds.Kind.{Kind}
use Rattle.kinds.specs.Kinds.{airborne, bands_of, limit_of}
use Rattle.kinds.specs.Numbers.{entries_of, rating_at}
use Rattle.rating.specs.Curve.{rating_of}
use Rattle.sets.specs.Gains.{by_gains, gain_at, Gained}
use Rattle.laws.proofs.Tests.{is_true, and_left, and_right}
use Rattle.lift.specs.Reach.{better_by, lift_list}
use Rattle.lift.specs.Calls.{in_targets}
use Rattle.lift.proofs.Listing.{list-is}

-- bands from the lowest, as a band set
abbrev set_of : List ℤ → BandSet
set_of x = record { values = map tenths x; marks = 0; len = length x }

abbrev pub band_at : List ℤ → ℕ → ℤ
band_at x i = get_or x i (pos 0)

set_is : (x : List ℤ) (i : ℕ) → band_of (set_of x) i ≡ band_at x i
set_is x i = ap (λ (v : Tenths). v.0) (get_or-map tenths x i (pos 0))

-- the gains of a set at a position, in their places
listed-past : (f : ℕ → ℕ) (n j i : ℕ) → n ≤ i → get_or (listed f n j) i 0 ≡ 0
unfolding listed
listed-past f zero j i h = refl
listed-past f (suc n) j zero h = absurd (omega arith)
listed-past f (suc n) j (suc i) h = listed-past f n (suc j) i (omega arith)

abbrev gains_at : Kind → BandSet → ℕ → List ℕ
gains_at k s p = listed (gain_at (airborne k) s (entries_of k) p) (bands_of k) 0

abbrev total_of : Kind → BandSet → ℕ → ℕ
total_of k s p = total_at (level_at (airborne k) s (entries_of k)) (bands_of k) p

gained : (k : Kind) (s : BandSet) (p : ℕ) → Gained (airborne k) s (entries_of k) (bands_of k) p (gains_at k s p) (total_of k s p)
gained k s p = record {
  each = λ i h. listed_at 0 (gain_at (airborne k) s (entries_of k) p) (bands_of k) i h;
  rest = λ i h. listed-past (gain_at (airborne k) s (entries_of k) p) (bands_of k) 0 i h;
  all = refl;
}

-- the list by gains, and when it may be asked for
abbrev place_of : Kind → ℤ → ℕ
place_of k t = level_by (airborne k) t (rating_at k)

unfoldable pub quick_list : Kind → List ℤ → ℤ → List ℕ
quick_list k x t = by_gains (at (gains_at k (set_of x) (place_of k t))) (total_of k (set_of x) (place_of k t) - limit_of k) (bands_of k)

unfoldable pub listable : Kind → List ℤ → ℤ → Bool
listable k x t = accepted (set_of x) (bands_of k) && in_targets t && better_by (airborne k) t (rating_of k (band_at x))

pub quick-is : (k : Kind) (x : List ℤ) (t : ℤ) → T (listable k x t) → lift_list k (band_at x) t ≡ quick_list k x t
unfolding quick_list listable
quick-is k x t w =
    let s : BandSet = set_of x in
    let a : Bool = accepted s (bands_of k) in
    let b : Bool = in_targets t in
    let c : Bool = better_by (airborne k) t (rating_of k (band_at x)) in
    let e : band_at x ≡ band_of s = sym (fun_ext (set_is x)) in
    ap (λ (y : ℕ → ℤ). lift_list k y t) e
    ∙ sym (list-is k s (is_true a (and_left a b (and_left (a && b) c w))) t (is_true b (and_right a b (and_left (a && b) c w)))
    (subst (λ (y : ℕ → ℤ). better_by (airborne k) t (rating_of k y) ≡ true) e (is_true c (and_right (a && b) c w)))
    (gains_at k s (place_of k t)) (total_of k s (place_of k t)) (gained k s (place_of k t)))
