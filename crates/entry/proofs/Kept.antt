-- What an entry keeps of a key and of values: a list with the rest of its places as they were opened. Assumes nothing.
use mathlib.Core.Path.{◌≡◌, sym, ◌∙◌}
use mathlib.Core.Bool.{cond}
use mathlib.Core.List.{List, ◌++◌}
use Prim.Native.Nat.{ℕ, ◌-◌, ◌≤◌, ◌<◌}
use native.Mathlib.Decide.{dec_lt}
use native.Mathlib.Omega.{arith}
use borrow.Author.Tests.{lt-ltb, le-ltb}
use lib.Dec.{ltb}
use lib.ListN.{length, get_or, take, drop, replicate, length-append, length-drop, length-replicate, get_or-append, get_or-eq_default}
use lib.Seq.{get_or-take, length-take-le}
use Rattle.std.proofs.lemmas.List.{drop-replicate, get_or-replicate, get_or-append_right}
use Rattle.laws.specs.Lists.{listed}
use Rattle.laws.proofs.Lists.{agreed-all}

module _ {A : Type 0} (d : A) where
  module _ (f : ℕ → A) (k n : ℕ) (xs : List A) (l : length xs ≡ n) (fits : n ≤ k) (same : (j : ℕ) → j < k → get_or xs j d ≡ f j) where
    pub kept : xs ++ drop n (replicate k d) ≡ listed f k 0
    kept = agreed-all d f k (xs ++ drop n (replicate k d)) k (omega arith) (record {
      within = omega arith;
      whole = omega (arith, length-append xs (drop n (replicate k d)), length-drop n (replicate k d), length-replicate k d);
      same = λ j h. at j h (dec_lt j n);
    })
      where
        at : (j : ℕ) → j < k → Dec (j < n) → get_or (xs ++ drop n (replicate k d)) j d ≡ f j
        at j h (yes p) = get_or-append xs (drop n (replicate k d)) d j (omega arith) ∙ same j h
        at j h (no p) =
            get_or-append_right xs (drop n (replicate k d)) n j d l (omega arith)
            ∙ rw drop-replicate (get_or-replicate (k - n) (j - n) d d (omega arith))
            ∙ sym (get_or-eq_default xs d (omega arith))
            ∙ same j h

  -- the first n of a list, and d past them
  pub first_or : (xs : List A) (n j : ℕ) → n ≤ length xs → get_or (take n xs) j d ≡ cond (ltb j n) (get_or xs j d) d
  first_or xs n j fits = at (dec_lt j n)
    where
      at : Dec (j < n) → get_or (take n xs) j d ≡ cond (ltb j n) (get_or xs j d) d
      at (yes p) = rw (lt-ltb j n p) (get_or-take n xs j d p)
      at (no p) = rw (le-ltb j n (omega arith)) (get_or-eq_default (take n xs) d (omega (arith, length-take-le n xs fits)))
