-- A list that a loop fills from its front, place after place: of k places the first n hold f, the rest 0. Assumes nothing.
use mathlib.Core.Path.{◌≡◌, sym, ◌∙◌, ap}
use mathlib.Core.Bool.{cond}
use mathlib.Core.List.{List}
use Prim.Native.Nat.{ℕ, ◌+◌, ◌<◌}
use native.Mathlib.Decide.{dec_lt, ℕ_discrete}
use native.Mathlib.Omega.{arith}
use borrow.Author.Tests.{lt-ltb, le-ltb}
use lib.Dec.{ltb}
use lib.ListN.{length, get_or, set, length-set}
use lib.Seq.{get_or-set_same, get_or-set_other, ext_get_or}
use Rattle.laws.specs.Lists.{listed}
use Rattle.laws.proofs.Lists.{length-listed, listed_at}
use Rattle.quantity.specs.declared.quantities.Tenths.{Tenths}
use Rattle.quantity.specs.Quantities.{nought}

module _ (f : ℕ → Tenths) where
  abbrev place : ℕ → ℕ → Tenths
  place n i = cond (ltb i n) (f i) nought

  abbrev pub filled : ℕ → ℕ → List Tenths
  filled n k = listed (place n) k 0

  pub filled_length : (n k : ℕ) → length (filled n k) ≡ k
  filled_length n k = length-listed nought (place n) k 0

  pub filled_at : (n k j : ℕ) → j < k → get_or (filled n k) j nought ≡ place n j
  filled_at n k j h = listed_at nought (place n) k j h

  other : (n j : ℕ) → (j ≡ n → ⊥) → place n j ≡ place (n + 1) j
  other n j d = go (dec_lt j n)
    where
      go : Dec (j < n) → place n j ≡ place (n + 1) j
      go (yes h) = rw (lt-ltb j (n + 1) (omega arith), lt-ltb j n h)
      go (no h) = rw (le-ltb j (n + 1) (omega arith), le-ltb j n (omega arith))

  here : (n : ℕ) → f n ≡ place (n + 1) n
  here n = rw (lt-ltb n (n + 1) (omega arith))

  -- one more
  pub filled_more : (n k : ℕ) → n < k → set (filled n k) n (f n) ≡ filled (n + 1) k
  filled_more n k h =
      ext_get_or nought (set (filled n k) n (f n)) (filled (n + 1) k) (length-set (filled n k) n (f n) ∙ filled_length n k ∙ sym (filled_length (n + 1) k)) each
    where
      at : (j : ℕ) → j < k → Dec (j ≡ n) → get_or (set (filled n k) n (f n)) j nought ≡ get_or (filled (n + 1) k) j nought
      at j g (yes e) =
          ap (λ (i : ℕ). get_or (set (filled n k) n (f n)) i nought) e
          ∙ get_or-set_same (filled n k) n (f n) nought (omega (arith, filled_length n k))
          ∙ here n
          ∙ sym (filled_at (n + 1) k n h)
          ∙ ap (λ (i : ℕ). get_or (filled (n + 1) k) i nought) (sym e)
      at j g (no d) = get_or-set_other (filled n k) n j (f n) nought d ∙ filled_at n k j g ∙ other n j d ∙ sym (filled_at (n + 1) k j g)

      each : (j : ℕ) → j < length (set (filled n k) n (f n)) → get_or (set (filled n k) n (f n)) j nought ≡ get_or (filled (n + 1) k) j nought
      each j g = at j (omega (arith, length-set (filled n k) n (f n), filled_length n k)) (ℕ_discrete j n)
