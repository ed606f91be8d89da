-- Lists of numbers and what a filter keeps: its members, its order, its length, and of one list after another. Assumes nothing.
use mathlib.Core.Path.{◌≡◌, refl, sym, ap, subst}
use mathlib.Core.Bool.{Bool, true, false, cond, ◌&&◌}
use mathlib.Core.Logic.{⊎_elim}
use mathlib.Core.List.Memᴰ
use mathlib.Core.List.{List, [], ◌∷◌, ◌++◌, Memᴰ}
use Prim.Native.Nat.{ℕ, zero, suc, ◌≤◌, ◌<◌}
use native.Mathlib.Nat.{le_refl}
use native.Mathlib.Omega.{arith}
use lib.Dec.{T}
use lib.ListN.{length, get_or}
use Rattle.sets.specs.Masks.{filter}
use Rattle.laws.proofs.Tests.{holds, is_true, and_left, and_right, and_both}

-- ---- members
pub record Kept (ok : ℕ → Bool) (l : List ℕ) (m : ℕ) : Type 0 where
  pub passes : T (ok m)
  pub stands : Memᴰ m l

pub filter-read : (ok : ℕ → Bool) (l : List ℕ) (m : ℕ) → Memᴰ m (filter ok l) → Kept ok l m
unfolding filter
filter-read ok [] m h = absurd (Memᴰ.not-nil h)
filter-read ok (a ∷ l) m h = go (λ q. filter-read ok l m q) (ok a) refl h
  where
    later : Kept ok l m → Kept ok (a ∷ l) m
    later q = record { passes = q.passes; stands = Memᴰ.tail q.stands }

    go : (Memᴰ m (filter ok l) → Kept ok l m)
        → (b : Bool) → ok a ≡ b → Memᴰ m (cond b (a ∷ filter ok l) (filter ok l)) → Kept ok (a ∷ l) m
    go rest true e h =
        ⊎_elim
        (λ (s : m ≡ a). record { passes = subst (λ (n : ℕ). T (ok n)) (sym s) (holds e); stands = Memᴰ.head s })
        (λ (q : Memᴰ m (filter ok l)). later (rest q))
        (Memᴰ.cases_cons h)
    go rest false e h = later (rest h)

pub filter-made : (ok : ℕ → Bool) (l : List ℕ) (m : ℕ) → Memᴰ m l → T (ok m) → Memᴰ m (filter ok l)
unfolding filter
filter-made ok [] m h t = elim h [ ]
filter-made ok (a ∷ l) m (Memᴰ.head s) t =
    rw (is_true (ok a) (subst (λ (n : ℕ). T (ok n)) s t)) (Memᴰ.head s)
filter-made ok (a ∷ l) m (Memᴰ.tail h) t = go (ok a) (filter-made ok l m h t)
  where
    go : (b : Bool) → Memᴰ m (filter ok l) → Memᴰ m (cond b (a ∷ filter ok l) (filter ok l))
    go true q = Memᴰ.tail q
    go false q = q

-- a test at each member
unfoldable pub all_in : (ℕ → Bool) → List ℕ → Bool
all_in ok [] = true
all_in ok (a ∷ l) = ok a && all_in ok l

pub each_of : (ok : ℕ → Bool) (l : List ℕ) (m : ℕ) → T (all_in ok l) → Memᴰ m l → T (ok m)
unfolding all_in
each_of ok [] m t h = elim h [ ]
each_of ok (a ∷ l) m t (Memᴰ.head s) = subst (λ (n : ℕ). T (ok n)) (sym s) (and_left (ok a) (all_in ok l) t)
each_of ok (a ∷ l) m t (Memᴰ.tail h) = each_of ok l m (and_right (ok a) (all_in ok l) t) h

-- ---- two filters that are one: the same test at each member
pub filter_same : (f g : ℕ → Bool) (l : List ℕ) → ((m : ℕ) → Memᴰ m l → f m ≡ g m) → filter f l ≡ filter g l
unfolding filter
filter_same f g [] h = refl
filter_same f g (a ∷ l) h =
    rw (h a (Memᴰ.head refl), filter_same f g l (λ m q. h m (Memᴰ.tail q)))

pub filter-length : (ok : ℕ → Bool) (l : List ℕ) → length (filter ok l) ≤ length l
unfolding filter
filter-length ok [] = le_refl 0
filter-length ok (a ∷ l) = go (ok a) (filter-length ok l)
  where
    go : (b : Bool) → length (filter ok l) ≤ length l → length (cond b (a ∷ filter ok l) (filter ok l)) ≤ suc (length l)
    go true h = omega arith
    go false h = omega arith

-- ---- order: each before the next, the first after r
unfoldable pub rising_by : (ℕ → ℕ → Bool) → ℕ → List ℕ → Bool
rising_by before r [] = true
rising_by before r (a ∷ l) = before r a && rising_by before a l

module _ (before : ℕ → ℕ → Bool) (chain : (a b c : ℕ) → T (before a b) → T (before b c) → T (before a c)) where
  abbrev rising : ℕ → List ℕ → Bool
  rising = rising_by before

  lower : (r s : ℕ) (l : List ℕ) → T (before r s) → T (rising s l) → T (rising r l)
  unfolding rising_by
  lower r s [] h t = tt
  lower r s (a ∷ l) h t =
      and_both (before r a) (rising a l) (chain r s a h (and_left (before s a) (rising a l) t)) (and_right (before s a) (rising a l) t)

  pub rising-filter : (ok : ℕ → Bool) (r : ℕ) (l : List ℕ) → T (rising r l) → T (rising r (filter ok l))
  unfolding rising_by filter
  rising-filter ok r [] t = tt
  rising-filter ok r (a ∷ l) t = go (ok a) (rising-filter ok a l (and_right (before r a) (rising a l) t))
    where
      first : T (before r a)
      first = and_left (before r a) (rising a l) t

      go : (b : Bool) → T (rising a (filter ok l)) → T (rising r (cond b (a ∷ filter ok l) (filter ok l)))
      go true q = and_both (before r a) (rising a (filter ok l)) first q
      go false q = lower r a (filter ok l) first q

  after : (r : ℕ) (l : List ℕ) → T (rising r l) → (i : ℕ) → i < length l → T (before r (get_or l i 0))
  unfolding rising_by
  after r [] t i h = absurd (omega arith)
  after r (a ∷ l) t zero h = and_left (before r a) (rising a l) t
  after r (a ∷ l) t (suc i) h =
      chain r a (get_or l i 0) (and_left (before r a) (rising a l) t) (after a l (and_right (before r a) (rising a l) t) i (omega arith))

  pub in_order : (r : ℕ) (l : List ℕ) → T (rising r l) → (i j : ℕ) → i < j → j < length l → T (before (get_or l i 0) (get_or l j 0))
  unfolding rising_by
  in_order r [] t i j h k = absurd (omega arith)
  in_order r (a ∷ l) t i zero h k = absurd (omega arith)
  in_order r (a ∷ l) t zero (suc j) h k = after a l (and_right (before r a) (rising a l) t) j (omega arith)
  in_order r (a ∷ l) t (suc i) (suc j) h k =
      in_order a l (and_right (before r a) (rising a l) t) i j (omega arith) (omega arith)

-- ---- one list after another
pub filter-append : (ok : ℕ → Bool) (l r : List ℕ) → filter ok (l ++ r) ≡ filter ok l ++ filter ok r
unfolding filter
filter-append ok [] r = refl
filter-append ok (a ∷ l) r = go (ok a) (filter-append ok l r)
  where
    go : (b : Bool) → filter ok (l ++ r) ≡ filter ok l ++ filter ok r
        → cond b (a ∷ filter ok (l ++ r)) (filter ok (l ++ r)) ≡ cond b (a ∷ filter ok l) (filter ok l) ++ filter ok r
    go true e = ap (λ (s : List ℕ). a ∷ s) e
    go false e = e
