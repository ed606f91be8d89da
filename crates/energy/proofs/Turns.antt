-- The steps of means by stretches: v is told by the thresholds below a stretch's start and the next two, and whether a sum has
-- reached these the low 32 bits tell. Computed tests over the 61 stretches and the thresholds. Assumes nothing.
use mathlib.Core.Path.{◌≡◌, refl, sym, ◌∙◌, ap, ap₂, subst}
use mathlib.Core.Bool.{Bool}
use mathlib.Core.List.{List, ◌∷◌, ◌++◌}
use Prim.Native.Nat.{ℕ, zero, suc, ◌+◌, ◌*◌, ◌-◌, ◌/◌, ◌%◌, ◌≤◌, ◌<◌}
use native.Mathlib.Decide.{dec_lt}
use native.Mathlib.Omega.{arith}
use lib.Dec.{T, leb, leb→le, lit≤}
use lib.ListN.{get_or, get_or-append}
use lib.Seq.{get_or-append-add}
use Rattle.laws.proofs.Table.{every, at}
use Rattle.energy.specs.Means.{v}
use Rattle.energy.specs.Tabled.{MeanTabled, Summed₃, turn_in, missed_by, missed_at}
use Rattle.energy.proofs.Lists.{energies, means, ends, turns}
use Rattle.energy.proofs.Counted.{bits-reached, bits_above}
use Rattle.energy.proofs.Scaled.{entry-is}
use Rattle.energy.proofs.Threes.{step_is}

-- the thresholds with their ends
abbrev steps : List ℕ
steps = means ++ ends

abbrev stretch : ℕ → ℕ
stretch S = (S - 1) / 33554432 - 29

abbrev turn : ℕ → ℕ
turn S = get_or turns (stretch S) 0

among : (S : ℕ) → Summed₃ S → stretch S < 61
among S h = omega (arith, h.0, h.1)

fits : ℕ → ℕ → Bool
fits i k = leb k 48

low : ℕ → ℕ → Bool
low i k = leb (get_or (0 ∷ means) k 0) ((i + 29) * 33554432)

high : ℕ → ℕ → Bool
high i k = leb ((i + 30) * 33554432) (get_or means (k + 2) 0 + 5000000000 * (k / 46))

near : ℕ → ℕ → Bool
near i n = leb 1000000000 n

far : ℕ → ℕ → Bool
far i n = leb n 3000000000

checked-near : T (every near 0 steps)
unfolding near means ends
checked-near = tt

checked-far : T (every far 0 steps)
unfolding far means ends
checked-far = tt

checked-fits : T (every fits 0 turns)
unfolding fits turns
checked-fits = tt

checked-low : T (every low 0 turns)
unfolding low turns means
checked-low = tt

checked-high : T (every high 0 turns)
unfolding high turns means
checked-high = tt

module _ (S : ℕ) (h : Summed₃ S) where
  turn-fits : turn S ≤ 48
  unfolding fits turns
  turn-fits = leb→le (turn S) 48 (at fits turns checked-fits (stretch S) (among S h))

  behind : (i : ℕ) → suc i ≡ turn S → get_or means i 0 ≤ S - 1
  unfolding low turns
  behind i e = go (turn S) e (at low turns checked-low (stretch S) (among S h))
    where
      go : (k : ℕ) → suc i ≡ k → T (low (stretch S) k) → get_or means i 0 ≤ S - 1
      go zero e t = absurd (omega arith)
      go (suc k) e t =
          let q : k ≡ i = omega arith in
          subst (λ (n : ℕ). get_or means n 0 ≤ S - 1) q
          (omega (arith, leb→le (get_or means k 0) ((stretch S + 29) * 33554432) t, h.0))

  before : turn S + 2 < 48 → S - 1 < get_or means (turn S + 2) 0
  unfolding high turns
  before l = omega (
    arith,
    leb→le ((stretch S + 30) * 33554432) (get_or means (turn S + 2) 0 + 5000000000 * (turn S / 46)) (at high turns checked-high (stretch S) (among S h)),
    h.0,
  )

  step-at : (r : ℕ) → r ≤ 48 → ((i : ℕ) → suc i ≡ r → get_or means i 0 ≤ S - 1) → (r < 48 → S - 1 < get_or means r 0) → 48 - r ≡ v S
  unfolding means
  step-at r w b a = step_is S r h.0 h.1 (record { within = w; below = b; above = a })

  -- a threshold that was reached is none of the ends
  inner : (k : ℕ) → k ≤ 49 → get_or steps k 0 ≤ S - 1 → k < 48
  unfolding means ends
  inner k l p = go (dec_lt k 48)
    where
      end : (k : ℕ) → k < 2 → get_or ends k 0 ≡ 3000000000
      end zero q = refl
      end (suc zero) q = refl
      end (suc (suc k)) q = absurd (omega arith)

      go : Dec (k < 48) → k < 48
      go (yes q) = q
      go (no q) =
          let e : k ≡ 48 + (k - 48) = omega arith in
          absurd (omega (arith, p, h.1, ap (λ (n : ℕ). get_or steps n 0) e ∙ get_or-append-add means ends (k - 48) 0 ∙ end (k - 48) (omega arith)))

  of-means : (k : ℕ) → k < 48 → get_or steps k 0 ≡ get_or means k 0
  unfolding means
  of-means k l = get_or-append means ends 0 k l

  none : S - 1 < get_or steps (turn S) 0 → 48 - turn S ≡ v S
  none p = step-at (turn S) turn-fits behind (λ l. subst (λ (n : ℕ). S - 1 < n) (of-means (turn S) l) p)

  one : get_or steps (turn S) 0 ≤ S - 1 → S - 1 < get_or steps (1 + turn S) 0 → (turn S ≤ 47) × (47 - turn S ≡ v S)
  one p q =
      let l : turn S < 48 = inner (turn S) (omega (arith, turn-fits)) p in
      let e : 48 - (1 + turn S) ≡ v S = step-at (1 + turn S) (omega arith)
      (λ i e. let t : turn S ≡ i = omega arith in subst (λ (n : ℕ). get_or means n 0 ≤ S - 1) t (subst (λ (n : ℕ). n ≤ S - 1) (of-means (turn S) l) p))
      (λ m. subst (λ (n : ℕ). S - 1 < n) (of-means (1 + turn S) m) q) in
      (omega arith, omega (arith, e))

  two : get_or steps (1 + turn S) 0 ≤ S - 1 → (turn S ≤ 46) × (46 - turn S ≡ v S)
  two p =
      let l : 1 + turn S < 48 = inner (1 + turn S) (omega (arith, turn-fits)) p in
      let e : 48 - (2 + turn S) ≡ v S = step-at (2 + turn S) (omega arith)
      (λ i e. let t : 1 + turn S ≡ i = omega arith in subst (λ (n : ℕ). get_or means n 0 ≤ S - 1) t (subst (λ (n : ℕ). n ≤ S - 1) (of-means (1 + turn S) l) p))
      (λ m. let t : turn S + 2 ≡ 2 + turn S = omega arith in subst (λ (n : ℕ). S - 1 < get_or means n 0) t (before (omega arith))) in
      (omega arith, omega (arith, e))

  -- a threshold and a sum lie within 2 ^ 31 of each other
  module _ (k : ℕ) (l : k < 50) where
    abbrev G : ℕ
    G = get_or steps k 0

    above : 1000000000 ≤ G
    unfolding near means ends
    above = leb→le 1000000000 G (at near steps checked-near k l)

    below : G ≤ 3000000000
    unfolding far means ends
    below = leb→le G 3000000000 (at far steps checked-far k l)

    whole : G ≡ G % 4294967296
    whole = omega (arith, below)

    reached : G ≤ S - 1 → missed_by (S - 1) G ≡ 0
    reached p = ap (missed_by (S - 1)) whole ∙ bits-reached (S - 1) G p (omega (arith, above, h.1))

    missed : S - 1 < G → missed_by (S - 1) G ≡ 1
    missed p = ap (missed_by (S - 1)) whole ∙ bits_above (S - 1) G p (omega (arith, below, h.0))

  counted : v S + turn S ≡ 46 + missed_by (S - 1) (get_or steps (turn S) 0) + missed_by (S - 1) (get_or steps (1 + turn S) 0)
  counted = go (dec_lt (S - 1) (get_or steps (turn S) 0)) (dec_lt (S - 1) (get_or steps (1 + turn S) 0))
    where
      l : turn S < 50
      l = omega (arith, turn-fits)

      m : 1 + turn S < 50
      m = omega (arith, turn-fits)

      go : Dec (S - 1 < get_or steps (turn S) 0) → Dec (S - 1 < get_or steps (1 + turn S) 0)
          → v S + turn S ≡ 46 + missed_by (S - 1) (get_or steps (turn S) 0) + missed_by (S - 1) (get_or steps (1 + turn S) 0)
      go (yes p) (yes q) = omega (arith, none p, turn-fits, missed (turn S) l p, missed (1 + turn S) m q)
      go (yes p) (no q) = absurd (omega (arith, none p, two (omega arith)))
      go (no p) (yes q) = omega (arith, one (omega arith) q, reached (turn S) l (omega arith), missed (1 + turn S) m q)
      go (no p) (no q) = omega (arith, two (omega arith), reached (turn S) l (omega arith), reached (1 + turn S) m (omega arith))

-- ---- as they are lent
abbrev pub mean_laid : List ℕ
mean_laid = energies ++ (steps ++ turns)

in-steps : (j : ℕ) → j < 50 → get_or mean_laid (100 + j) 0 ≡ get_or steps j 0
unfolding energies means ends
in-steps j h = get_or-append-add energies (steps ++ turns) j 0 ∙ get_or-append steps turns 0 j h

in_turns : (i : ℕ) → get_or mean_laid (150 + i) 0 ≡ get_or turns i 0
unfolding energies means ends
in_turns i = get_or-append-add (energies ++ steps) turns i 0

pub mean-laid-is : MeanTabled mean_laid
unfolding energies means ends turns
mean-laid-is = record {
  scaled = record { long = lit≤ tt; each = λ d h. get_or-append energies (steps ++ turns) 0 d h ∙ entry-is d h };
  long = lit≤ tt;
  fits = λ S h. subst (λ (k : ℕ). k ≤ 48) (is S) (turn-fits S h);
  counted = λ S h.
      let e : 101 + turn S ≡ 100 + (1 + turn S) = omega arith in
      subst (λ (k : ℕ). v S + k ≡ 46 + missed_at (S - 1) mean_laid (100 + k) + missed_at (S - 1) mean_laid (101 + k)) (is S)
      (counted S h
      ∙ ap₂ (λ (a b : ℕ). 46 + missed_by (S - 1) a + missed_by (S - 1) b) (sym (in-steps (turn S) (omega (arith, turn-fits S h))))
      (sym (ap (λ (n : ℕ). get_or mean_laid n 0) e ∙ in-steps (1 + turn S) (omega (arith, turn-fits S h)))));
}
  where
    is : (S : ℕ) → turn S ≡ turn_in mean_laid S
    is S = sym (in_turns (stretch S))
