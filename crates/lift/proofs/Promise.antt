-- What the lift list means, in document 01's words: it holds exactly the sets of one to three bands that reach and of which no
-- smaller part reaches, none twice and in order; and what the call leaves in the buffer. Assumes nothing.
use mathlib.Core.Path.{◌≡◌, sym, ◌∙◌, ap, subst}
use mathlib.Core.Bool.{Bool, true, false, not, ◌&&◌}
use mathlib.Core.List.{List, ◌++◌, Memᴰ}
use Prim.Native.Nat.{ℕ, ◌+◌, ◌-◌, ◌≤◌, ◌<◌}
use native.Mathlib.Decide.{dec_lt}
use native.Mathlib.Omega.{arith}
use lib.Dec.{T, leb, T_not, not_T}
use lib.IntN.{ℤ}
use lib.ListN.{length, get_or, drop, get_or-append}
use lib.Seq.{get_or-append-add, get_or-drop}
use Rattle.quantity.specs.Quantities.{band_of}
use Rattle.quantity.specs.declared.quantities.BandSet.{BandSet}
use Rattle.quantity.specs.declared.refusals.Refusal.TheVariants.{TargetNotBetter, TargetRange, OutputTooSmall}
use Rattle.laws.specs.Tests.{all_to}
use Rattle.kinds.specs.declared.kinds.Kind.{Kind}
use Rattle.kinds.specs.Kinds.{airborne, bands_of}
use Rattle.rating.specs.Sheets.{asked, rated_of}
use Rattle.sets.specs.Masks.{is_mask, smaller, before, masks_in_order}
use Rattle.laws.proofs.Tests.{and_left, and_right, and_both}
use Rattle.laws.proofs.Ranges.{all_read, all_hold}
use Rattle.sets.proofs.Filters.{Kept, filter-read, filter-made, each_of, rising-filter, in_order}
use Rattle.sets.proofs.Order.{before-chain, before-other}
use Rattle.sets.proofs.Enumeration.{all-sets, sets-rise, every_set}
use Rattle.lift.specs.Reach.{better_by, reaches, listed_mask, lift_list, Listed}
use Rattle.lift.specs.Calls.{in_targets, places_of, count_of, answer_by, answer_of, buffer_by, LiftIs}
use Rattle.std.specs.Prelude.{Result, Ok, Err}
use Rattle.quantity.specs.declared.refusals.Refusal.{Refusal}
use Rattle.rating.specs.declared.sheets.Sheet.{Sheet}

module _ (k : Kind) (x : ℕ → ℤ) (t : ℤ) where
  abbrev fails : ℕ → ℕ → Bool
  fails m p = not (smaller p m && reaches k x t p)

  -- each set of the list is one that the document lists
  pub listed-sound : (m : ℕ) → Memᴰ m (lift_list k x t) → Listed k x t m
  unfolding lift_list listed_mask
  listed-sound m h =
      let q : Kept (listed_mask k x t) (masks_in_order (bands_of k)) m = filter-read (listed_mask k x t) (masks_in_order (bands_of k)) m h in
      record {
        bands = each_of (is_mask (bands_of k)) (masks_in_order (bands_of k)) m (all-sets k) q.stands;
        reaching = and_left (reaches k x t m) (all_to (fails m) 65536) q.passes;
        least = λ p w s r.
            T_not (smaller p m && reaches k x t p)
            (all_read (fails m) 65536 (and_right (reaches k x t m) (all_to (fails m) 65536) q.passes) p w)
            (and_both (smaller p m) (reaches k x t p) s r);
      }

  -- each set that the document lists is in the list
  pub listed-complete : (m : ℕ) → Listed k x t m → Memᴰ m (lift_list k x t)
  unfolding lift_list listed_mask
  listed-complete m l =
      filter-made (listed_mask k x t) (masks_in_order (bands_of k)) m (every_set k m l.bands)
      (and_both (reaches k x t m) (all_to (fails m) 65536) l.reaching
      (all_hold (fails m) 65536 (λ p w. not_T (smaller p m && reaches k x t p)
      (λ u. l.least p w (and_left (smaller p m) (reaches k x t p) u) (and_right (smaller p m) (reaches k x t p) u)))))

  -- "Order: by size, then by lowest band, next band, last band."
  pub listed-order : (i j : ℕ) → i < j → j < length (lift_list k x t) → T (before (get_or (lift_list k x t) i 0) (get_or (lift_list k x t) j 0))
  unfolding lift_list
  listed-order i j h e =
      in_order before before-chain 0 (lift_list k x t)
      (rising-filter before before-chain (listed_mask k x t) 0 (masks_in_order (bands_of k)) (sets-rise k)) i j h e

  -- so no set stands at two places
  pub listed-once : (i j : ℕ) → i < length (lift_list k x t) → j < length (lift_list k x t)
      → get_or (lift_list k x t) i 0 ≡ get_or (lift_list k x t) j 0 → i ≡ j
  listed-once i j h g e = go (dec_lt i j) (dec_lt j i)
    where
      never : (a b : ℕ) → a < b → b < length (lift_list k x t) → get_or (lift_list k x t) a 0 ≡ get_or (lift_list k x t) b 0 → ⊥
      never a b lt le same =
          before-other (get_or (lift_list k x t) b 0)
          (subst (λ (m : ℕ). T (before m (get_or (lift_list k x t) b 0))) same (listed-order a b lt le))

      go : Dec (i < j) → Dec (j < i) → i ≡ j
      go (yes p) q = absurd (never i j p g e)
      go (no p) (yes q) = absurd (never j i q h (sym e))
      go (no p) (no q) = omega arith

-- ---- what the call leaves
-- how many places an answer takes
abbrev pub taken : Result ℕ Refusal → ℕ
taken (Ok n) = n
taken (Err r) = 0

module _ (k : Kind) (s : BandSet) (t : ℤ) (lent : List ℕ) where
  abbrev list : List ℕ
  list = lift_list k (band_of s) t

  counted : (a b c : Bool) (n : ℕ)
      → Ok n ≡ asked a (asked b (asked c (Ok (length list)) OutputTooSmall) TargetNotBetter) TargetRange → n ≡ length list
  counted true true true n e = cc
  counted true true false n e = cc
  counted true false c n e = cc
  counted false b c n e = cc

  -- the count is that of the list
  pub count-right : (n : ℕ) (after : List ℕ) → LiftIs k s t lent (Ok n) after → n ≡ length list
  unfolding answer_of count_of
  count-right n after w = go (rated_of k s) w.answer
    where
      go : (q : Result Sheet Refusal) → Ok n ≡ answer_by q k s t (length lent) → n ≡ length list
      go (Ok sheet) e =
          counted (in_targets t) (better_by (airborne k) t sheet.rating.0) (leb (places_of k) (length lent)) n e
      go (Err r) e = cc

  -- the list stands from place 0 on
  pub list_written : (n : ℕ) (after : List ℕ) → LiftIs k s t lent (Ok n) after → (i : ℕ) → i < n → get_or after i 0 ≡ get_or list i 0
  list_written n after w i h =
      ap (λ (l : List ℕ). get_or l i 0) w.buffer
      ∙ get_or-append list (drop (length list) lent) 0 i (omega (arith, count-right n after w))

  -- every other place is as it was: after the count, and on a refusal all of them
  pub rest-kept : (r : Result ℕ Refusal) (after : List ℕ) → LiftIs k s t lent r after → (i : ℕ) → taken r ≤ i → get_or after i 0 ≡ get_or lent i 0
  rest-kept (Err r) after w i h = ap (λ (l : List ℕ). get_or l i 0) w.buffer
  rest-kept (Ok n) after w i h =
      let c : n ≡ length list = count-right n after w in
      let e : length list + (i - length list) ≡ i = omega arith in
      ap (λ (l : List ℕ). get_or l i 0) w.buffer
      ∙ subst (λ (j : ℕ). get_or (list ++ drop (length list) lent) j 0 ≡ get_or lent j 0) e
      (get_or-append-add list (drop (length list) lent) (i - length list) 0 ∙ get_or-drop (length list) lent (i - length list) 0)

  -- two outcomes that the promise allows are one
  pub one-outcome : (r q : Result ℕ Refusal) (after last : List ℕ) → LiftIs k s t lent r after → LiftIs k s t lent q last → (r ≡ q) × (after ≡ last)
  one-outcome r q after last v w =
      let e : r ≡ q = v.answer ∙ sym w.answer in
      (e, v.buffer ∙ ap (λ (a : Result ℕ Refusal). buffer_by a list lent) e ∙ sym w.buffer)
