-- The order of sets: one before another before a third is before the third, and none is before itself. Assumes nothing.
use mathlib.Core.Path.{◌≡◌, ◌∙◌}
use mathlib.Core.Bool.{Bool, true, false, ◌&&◌, ◌||◌}
use mathlib.Core.List.{List, [], ◌∷◌}
use mathlib.Core.Logic.{◌⊎◌, inl, inr, ⊎_elim}
use Prim.Native.Nat.{ℕ, ◌<◌}
use native.Mathlib.Nat.{lt_irrefl}
use native.Mathlib.Omega.{arith}
use borrow.Author.Tests.{eq-eqb}
use lib.Dec.{T, eqb, ltb, ltb→lt, lt→ltb, eqb→eq}
use Rattle.sets.specs.Masks.{bands_in, size, earlier, before}
use Rattle.laws.proofs.Tests.{holds, and_left, and_right, and_both}

or-read : (a b : Bool) → T (a || b) → T a ⊎ T b
or-read true b t = inl t
or-read false b t = inr t

or_left : (a b : Bool) → T a → T (a || b)
or_left true b t = tt
or_left false b t = absurd t

or_right : (a b : Bool) → T b → T (a || b)
or_right true b t = tt
or_right false b t = t

-- at the first number, or past it
earlier-read : (a b : ℕ) (l r : List ℕ) → T (earlier (a ∷ l) (b ∷ r)) → (a < b) ⊎ ((a ≡ b) × T (earlier l r))
unfolding earlier
earlier-read a b l r t = ⊎_elim
    (λ u. inl (ltb→lt a b u))
    (λ u. inr (eqb→eq a b (and_left (eqb a b) (earlier l r) u), and_right (eqb a b) (earlier l r) u))
    (or-read (ltb a b) (eqb a b && earlier l r) t)

at_first : (a b : ℕ) (l r : List ℕ) → a < b → T (earlier (a ∷ l) (b ∷ r))
unfolding earlier
at_first a b l r h = or_left (ltb a b) (eqb a b && earlier l r) (lt→ltb a b h)

past_first : (a b : ℕ) (l r : List ℕ) → a ≡ b → T (earlier l r) → T (earlier (a ∷ l) (b ∷ r))
unfolding earlier
past_first a b l r e t = or_right (ltb a b) (eqb a b && earlier l r) (and_both (eqb a b) (earlier l r) (holds (eq-eqb a b e)) t)

earlier-chain : (x y z : List ℕ) → T (earlier x y) → T (earlier y z) → T (earlier x z)
earlier-chain [] y z s t = absurd (unfold earlier in s)
earlier-chain (a ∷ x) [] z s t = absurd (unfold earlier in s)
earlier-chain (a ∷ x) (b ∷ y) [] s t = absurd (unfold earlier in t)
earlier-chain (a ∷ x) (b ∷ y) (c ∷ z) s t =
    go (λ p q. earlier-chain x y z p q) (earlier-read a b x y s) (earlier-read b c y z t)
  where
    go : (T (earlier x y) → T (earlier y z) → T (earlier x z)) → (a < b) ⊎ ((a ≡ b) × T (earlier x y)) → (b < c) ⊎ ((b ≡ c) × T (earlier y z))
        → T (earlier (a ∷ x) (c ∷ z))
    go more (inl h) (inl k) = at_first a c x z (omega arith)
    go more (inl h) (inr k) = at_first a c x z (omega (arith, k.0))
    go more (inr h) (inl k) = at_first a c x z (omega (arith, h.0))
    go more (inr h) (inr k) = past_first a c x z (h.0 ∙ k.0) (more h.1 k.1)

earlier-other : (l : List ℕ) → T (earlier l l) → ⊥
earlier-other [] t = unfold earlier in t
earlier-other (a ∷ l) t = ⊎_elim (λ (h : a < a). lt_irrefl a h) (λ h. earlier-other l h.1) (earlier-read a a l l t)

pub before-chain : (a b c : ℕ) → T (before a b) → T (before b c) → T (before a c)
unfolding before
before-chain a b c s t = earlier-chain (size a ∷ bands_in a) (size b ∷ bands_in b) (size c ∷ bands_in c) s t

pub before-other : (a : ℕ) → T (before a a) → ⊥
unfolding before
before-other a t = earlier-other (size a ∷ bands_in a) t
