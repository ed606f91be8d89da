-- A list by index: its length, its entries, and a list that agrees with it at each index so far. Every loop that fills an array
-- of a fixed length from a function of the index is one law. Assumes nothing.
use mathlib.Core.Path.{◌≡◌, refl, sym, ◌∙◌, ap}
use mathlib.Core.List.{List, [], ◌∷◌, ◌++◌}
use Prim.Native.Nat.{ℕ, zero, suc, ◌+◌, ◌≤◌, ◌<◌}
use native.Mathlib.Nat.{add-zero, zero-add}
use native.Mathlib.Numerals.{add-one}
use native.Mathlib.Decide.{ℕ_discrete}
use native.Mathlib.Omega.{arith}
use lib.ListN.{length, get_or, take, set, length-set}
use lib.Seq.{get_or-set_same, get_or-set_other, get_or-take, take-suc-set, length-take-le, ext_get_or}
use Rattle.laws.specs.Lists.{listed}

module _ {A : Type 0} (d : A) (f : ℕ → A) where
  pub length-listed : (k i : ℕ) → length (listed f k i) ≡ k
  unfolding listed
  length-listed zero i = refl
  length-listed (suc k) i = ap suc (length-listed k (suc i))

  pub get_or-listed : (k i j : ℕ) → j < k → get_or (listed f k i) j d ≡ f (i + j)
  unfolding listed
  get_or-listed zero i j h = absurd (omega arith)
  get_or-listed (suc k) i zero h = ap f (sym (add-zero i))
  get_or-listed (suc k) i (suc j) h = get_or-listed k (suc i) j (omega arith) ∙ ap f (omega arith)

  pub listed_at : (k j : ℕ) → j < k → get_or (listed f k 0) j d ≡ f j
  listed_at k j h = get_or-listed k 0 j h ∙ ap f (zero-add j)

  -- the first i of k entries are those of f
  pub record Agreed (k : ℕ) (l : List A) (i : ℕ) : Type 0 where
    pub within : i ≤ k
    pub whole : length l ≡ k
    pub same : (j : ℕ) → j < i → get_or l j d ≡ f j

  pub agreed-none : (k : ℕ) (l : List A) → length l ≡ k → Agreed k l 0
  agreed-none k l e = record { within = omega arith; whole = e; same = λ j h. absurd (omega arith) }

  -- an entry that is already right
  pub agreed-next : (k : ℕ) (l : List A) (i : ℕ) → i < k → get_or l i d ≡ f i → Agreed k l i → Agreed k l (i + 1)
  agreed-next k l i h e a = record { within = omega arith; whole = a.whole; same = each }
    where
      at : (j : ℕ) → j < i + 1 → Dec (j ≡ i) → get_or l j d ≡ f j
      at j g (yes q) = ap (λ (n : ℕ). get_or l n d) q ∙ e ∙ ap f (sym q)
      at j g (no q) = a.same j (omega arith)

      each : (j : ℕ) → j < i + 1 → get_or l j d ≡ f j
      each j g = at j g (ℕ_discrete j i)

  -- an entry that is stored
  pub agreed-set : (k : ℕ) (l : List A) (i : ℕ) (v : A) → i < k → v ≡ f i → Agreed k l i → Agreed k (set l i v) (i + 1)
  agreed-set k l i v h e a =
      agreed-next k (set l i v) i h (get_or-set_same l i v d (omega (arith, a.whole)) ∙ e)
      (record {
        within = a.within;
        whole = length-set l i v ∙ a.whole;
        same = λ j g. get_or-set_other l i j v d (λ q. omega arith) ∙ a.same j g;
      })

  pub agreed-all : (k : ℕ) (l : List A) (i : ℕ) → k ≤ i → Agreed k l i → l ≡ listed f k 0
  agreed-all k l i h a =
      ext_get_or d l (listed f k 0) (a.whole ∙ sym (length-listed k 0))
      (λ j g. a.same j (omega (arith, a.whole, a.within)) ∙ sym (listed_at k j (omega (arith, a.whole))))

  -- the first n of a longer list, with one more stored after them
  pub agreed-then : (k : ℕ) (l : List A) (n i : ℕ) (v : A) → n < k → n ≤ i → i ≤ n → Agreed k l i → take (n + 1) (set l n v) ≡ listed f n 0 ++ (v ∷ [])
  agreed-then k l n i v h g b a =
      ap (λ (m : ℕ). take m (set l n v)) (add-one n)
      ∙ take-suc-set l n v (omega (arith, a.whole))
      ∙ ap (λ (t : List A). t ++ (v ∷ []))
      (agreed-all n (take n l) n (omega arith) (record {
        within = omega arith;
        whole = length-take-le n l (omega (arith, a.whole));
        same = λ j q. get_or-take n l j d q ∙ a.same j (omega arith);
      }))
