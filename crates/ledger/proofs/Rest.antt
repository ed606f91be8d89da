-- What a closing leaves (document 02, (xi)) is the register that the others would make if they were entered one by one: it is
-- sound, it knows and holds of the others what it did, and owes them what it did. Assumes nothing.
use mathlib.Core.Path.{◌≡◌, refl, sym, ◌∙◌, ap, subst⁻¹}
use mathlib.Core.Bool.{Bool, true, false, ◌&&◌, ◌||◌, not, cond, or-false}
use mathlib.Core.List.{List, [], ◌∷◌, ◌++◌}
use Prim.Native.Nat.{ℕ, zero, suc, ◌+◌, ◌-◌, ◌≤◌, ◌<◌}
use native.Mathlib.Nat.{le_refl, add-zero}
use native.Mathlib.Omega.{arith}
use borrow.Author.Tests.{eqb-true, eq-eqb, ne_eqb}
use lib.ListN.{length, get_or, drop, replicate, length-set, length-replicate, length-append, length-drop, get_or-append}
use lib.Seq.{get_or-append_seam}
use Rattle.laws.specs.Sums.{sum_to}
use Rattle.laws.proofs.Sums.{sum_same, sum-const, sum-plus, sum_zeros}
use Rattle.laws.proofs.Tests.{never, refuted, both}
use Rattle.laws.specs.Tests.{any_to}
use Rattle.laws.proofs.Ranges.{all-at, any_same, any_none, any-mono}
use Rattle.entry.specs.declared.entries.Entry.{Entry}
use Rattle.register.specs.declared.registers.Register.{Register}
use Rattle.entry.specs.Entries.{same_key, same_bands, entry_ok, no_entry}
use Rattle.register.specs.Registers.{opened, past_end, entry_at, sound, known, held, with_entry, price_for, total_in}
use Rattle.ledger.specs.Closings.{others, moved_to, without, closed_of}
use Rattle.ledger.specs.Histories.{SameEntry, SameRegister}
use Rattle.ledger.proofs.Grown.{Grown, each_to, opened-grown, with-grown, entry_old, entry_new, any-with, sum-with}
use Rattle.ledger.proofs.Moves.{theirs, others-goes, others-stays, others_most, closed_is}
use Rattle.ledger.proofs.Sameness.{same-entry, sound-same}
use Rattle.register.proofs.Soundness.{all-ok, sound-fresh, sound_most}
use Rattle.entry.proofs.Texts.{key-same}

-- ---- the others, entered one by one

module _ (customer : ℕ) (r : Register) where
  unfoldable pub rest : ℕ → Register
  rest zero = opened
  rest (suc n) = cond (theirs customer (entry_at r n)) (rest n) (with_entry (rest n) (entry_at r n))

  pub rest_goes : (n : ℕ) → theirs customer (entry_at r n) ≡ true → rest (suc n) ≡ rest n
  unfolding rest
  rest_goes n q = ap (λ (b : Bool). cond b (rest n) (with_entry (rest n) (entry_at r n))) q

  pub rest-stays : (n : ℕ) → theirs customer (entry_at r n) ≡ false → rest (suc n) ≡ with_entry (rest n) (entry_at r n)
  unfolding rest
  rest-stays n q = ap (λ (b : Bool). cond b (rest n) (with_entry (rest n) (entry_at r n))) q

  -- a law of these registers, by the two ways of one step
  pub rest-by : (P : ℕ → Register → Type 0) → P 0 opened → ((n : ℕ) → n < 512 → theirs customer (entry_at r n) ≡ true → P n (rest n) → P (suc n) (rest n))
      → ((n : ℕ) → n < 512 → theirs customer (entry_at r n) ≡ false → P n (rest n) → P (suc n) (with_entry (rest n) (entry_at r n)))
      → (n : ℕ) → n ≤ 512 → P n (rest n)
  unfolding rest
  rest-by P none goes stays zero h = none
  rest-by P none goes stays (suc n) h = go (rest-by P none goes stays n (omega arith)) (theirs customer (entry_at r n)) refl
    where
      go : P n (rest n) → (b : Bool) → theirs customer (entry_at r n) ≡ b → P (suc n) (rest (suc n))
      go before true q = subst⁻¹ (P (suc n)) (rest_goes n q) (goes n (omega arith) q before)
      go before false q = subst⁻¹ (P (suc n)) (rest-stays n q) (stays n (omega arith) q before)

  -- there is room for the next one
  record Roomy (n : ℕ) (s : Register) : Type 0 where
    places : length s.entries ≡ 512
    most : s.count ≤ n

  roomy : (n : ℕ) → n ≤ 512 → Roomy n (rest n)
  unfolding opened with_entry
  roomy =
      rest-by Roomy (record { places = length-replicate 512 no_entry; most = le_refl 0 })
      (λ n h q b. record { places = b.places; most = omega (arith, b.most) })
      (λ n h q b. record { places = length-set (rest n).entries (rest n).count (entry_at r n) ∙ b.places; most = omega (arith, b.most) })

  pub room : (n : ℕ) → n < 512 → (rest n).count < length (rest n).entries
  room n h = let b = roomy n (omega arith) in omega (arith, b.places, b.most)

  -- a test of some entry, and a sum over all
  any-rest : (f : Entry → Bool) (n : ℕ) → n ≤ 512
      → any_to (λ i. f (entry_at (rest n) i)) (rest n).count ≡ any_to (λ i. not (theirs customer (entry_at r i)) && f (entry_at r i)) n
  unfolding any_to opened
  any-rest f =
      rest-by (λ n s. any_to (λ i. f (entry_at s i)) s.count ≡ any_to (λ i. not (theirs customer (entry_at r i)) && f (entry_at r i)) n) refl
      (λ n h q b. b ∙ sym (or-false (before n)) ∙ ap (λ (t : Bool). before n || (not t && f (entry_at r n))) (sym q))
      (λ n h q b.
      any-with (rest n) (entry_at r n) f (room n h)
      ∙ ap (λ (t : Bool). t || f (entry_at r n)) b
      ∙ ap (λ (t : Bool). before n || (not t && f (entry_at r n))) (sym q))
    where
      before : ℕ → Bool
      before n = any_to (λ i. not (theirs customer (entry_at r i)) && f (entry_at r i)) n

  sum-rest : (worth : Entry → ℕ) (n : ℕ) → n ≤ 512
      → sum_to (λ i. worth (entry_at (rest n) i)) (rest n).count ≡ sum_to (λ i. cond (theirs customer (entry_at r i)) 0 (worth (entry_at r i))) n
  unfolding sum_to opened
  sum-rest worth =
      rest-by (λ n s. sum_to (λ i. worth (entry_at s i)) s.count ≡ sum_to (λ i. cond (theirs customer (entry_at r i)) 0 (worth (entry_at r i))) n) refl
      (λ n h q b. b ∙ sym (add-zero (before n)) ∙ ap (λ (t : Bool). before n + cond t 0 (worth (entry_at r n))) (sym q))
      (λ n h q b.
      sum-with (rest n) (entry_at r n) worth (room n h)
      ∙ ap (λ (m : ℕ). m + worth (entry_at r n)) b
      ∙ ap (λ (t : Bool). before n + cond t 0 (worth (entry_at r n))) (sym q))
    where
      before : ℕ → ℕ
      before n = sum_to (λ i. cond (theirs customer (entry_at r i)) 0 (worth (entry_at r i))) n

  -- its entries are the others
  record Listed (n : ℕ) (s : Register) : Type 0 where
    count : s.count ≡ length (others customer r n)
    entries : (i : ℕ) → i < s.count → entry_at s i ≡ get_or (others customer r n) i past_end

  -- one more at the end
  listed_more : (n : ℕ) → n < 512 → Listed n (rest n) → (i : ℕ) → i < (rest n).count + 1
      → entry_at (with_entry (rest n) (entry_at r n)) i ≡ get_or (others customer r n ++ (entry_at r n ∷ [])) i past_end
  listed_more n h b =
      each_to (λ i. entry_at (with_entry (rest n) e) i ≡ get_or (l ++ (e ∷ [])) i past_end) (rest n).count
      (λ i p. entry_old (rest n) e i p ∙ b.entries i p ∙ sym (get_or-append l (e ∷ []) past_end i (omega (arith, b.count))))
      (entry_new (rest n) e (room n h)
      ∙ sym (get_or-append_seam l e [] past_end)
      ∙ ap (λ (j : ℕ). get_or (l ++ (e ∷ [])) j past_end) (sym b.count))
    where
      l : List Entry
      l = others customer r n

      e : Entry
      e = entry_at r n

  listed : (n : ℕ) → n ≤ 512 → Listed n (rest n)
  unfolding others opened with_entry
  listed =
      rest-by Listed (record { count = refl; entries = λ i p. absurd (omega arith) })
      (λ n h q b. record {
        count = b.count ∙ ap length (sym (others-goes customer r n q));
        entries = λ i p. b.entries i p ∙ ap (λ (l : List Entry). get_or l i past_end) (sym (others-goes customer r n q));
      })
      (λ n h q b. record {
        count = ap (λ (m : ℕ). m + 1) b.count ∙ sym (length-append (others customer r n) (entry_at r n ∷ [])) ∙ ap length (sym (others-stays customer r n q));
        entries = λ i p. listed_more n h b i p ∙ ap (λ (l : List Entry). get_or l i past_end) (sym (others-stays customer r n q));
      })

-- ---- a register without a customer's entries

-- how tests and sums go over them
aside : (t b : Bool) → (t ≡ true → b ≡ false) → not t && b ≡ b
aside true b f = sym (f refl)
aside false b f = refl

gone : (t b : Bool) → (t ≡ false → b ≡ false) → not t && b ≡ false
gone true b f = refl
gone false b f = f refl

aside-sum : (t : Bool) (n : ℕ) → (t ≡ true → n ≡ 0) → cond t 0 n ≡ n
aside-sum true n f = sym (f refl)
aside-sum false n f = refl

gone-sum : (t : Bool) (n : ℕ) → (t ≡ false → n ≡ 0) → cond t 0 n ≡ 0
gone-sum true n f = refl
gone-sum false n f = f refl

either : (t : Bool) → cond t 0 1 + cond t 1 0 ≡ 1
either true = refl
either false = refl

module _ (r : Register) (customer : ℕ) (most : r.count ≤ 512) where
  abbrev s : Register
  s = without r customer

  abbrev full : Register
  full = rest customer r r.count

  pub without-count : s.count ≡ full.count
  unfolding without
  without-count = sym (listed customer r r.count most).count

  pub without_at : (i : ℕ) → i < s.count → entry_at s i ≡ entry_at full i
  unfolding without moved_to
  without_at i h =
      get_or-append (others customer r r.count) (replicate (r.count - length (others customer r r.count)) no_entry ++ drop r.count r.entries) past_end i h
      ∙ sym ((listed customer r r.count most).entries i (omega (arith, without-count)))

  any-without : (f : Entry → Bool)
      → any_to (λ i. f (entry_at s i)) s.count ≡ any_to (λ i. not (theirs customer (entry_at r i)) && f (entry_at r i)) r.count
  any-without f =
      any_same (λ i. f (entry_at s i)) (λ i. f (entry_at full i)) s.count (λ i h. ap f (without_at i h))
      ∙ ap (any_to (λ i. f (entry_at full i))) without-count
      ∙ any-rest customer r f r.count most

  sum-without : (worth : Entry → ℕ)
      → sum_to (λ i. worth (entry_at s i)) s.count ≡ sum_to (λ i. cond (theirs customer (entry_at r i)) 0 (worth (entry_at r i))) r.count
  sum-without worth =
      sum_same (λ i. worth (entry_at s i)) (λ i. worth (entry_at full i)) s.count (λ i h. ap worth (without_at i h))
      ∙ ap (sum_to (λ i. worth (entry_at full i))) without-count
      ∙ sum-rest customer r worth r.count most

  -- what the customer's own entries fail is passed as before, and what they alone pass no more
  any-others : (f : Entry → Bool) → ((e : Entry) → theirs customer e ≡ true → f e ≡ false)
      → any_to (λ i. f (entry_at s i)) s.count ≡ any_to (λ i. f (entry_at r i)) r.count
  any-others f nil =
      any-without f
      ∙ any_same (λ i. not (theirs customer (entry_at r i)) && f (entry_at r i)) (λ i. f (entry_at r i)) r.count
      (λ i h. aside (theirs customer (entry_at r i)) (f (entry_at r i)) (nil (entry_at r i)))

  any-theirs : (f : Entry → Bool) → ((e : Entry) → theirs customer e ≡ false → f e ≡ false) → any_to (λ i. f (entry_at s i)) s.count ≡ false
  any-theirs f nil =
      any-without f
      ∙ any_none (λ i. not (theirs customer (entry_at r i)) && f (entry_at r i)) r.count
      (λ i h. gone (theirs customer (entry_at r i)) (f (entry_at r i)) (nil (entry_at r i)))

  pub sum-others : (worth : Entry → ℕ) → ((e : Entry) → theirs customer e ≡ true → worth e ≡ 0)
      → sum_to (λ i. worth (entry_at s i)) s.count ≡ sum_to (λ i. worth (entry_at r i)) r.count
  sum-others worth nil =
      sum-without worth
      ∙ sum_same (λ i. cond (theirs customer (entry_at r i)) 0 (worth (entry_at r i))) (λ i. worth (entry_at r i)) r.count
      (λ i h. aside-sum (theirs customer (entry_at r i)) (worth (entry_at r i)) (nil (entry_at r i)))

  pub sum-theirs : (worth : Entry → ℕ) → ((e : Entry) → theirs customer e ≡ false → worth e ≡ 0) → sum_to (λ i. worth (entry_at s i)) s.count ≡ 0
  sum-theirs worth nil =
      sum-without worth
      ∙ sum_same (λ i. cond (theirs customer (entry_at r i)) 0 (worth (entry_at r i))) (λ i. 0) r.count
      (λ i h. gone-sum (theirs customer (entry_at r i)) (worth (entry_at r i)) (nil (entry_at r i)))
      ∙ sum_zeros r.count

  pub total-others : (c : ℕ) → (customer ≡ c → ⊥) → total_in s c ≡ total_in r c
  unfolding total_in price_for
  total-others c differ =
      sum-others (price_for c)
      (λ e q. ap (λ (b : Bool). cond b e.price.0 0) (ne_eqb e.customer c (λ p. differ (sym (eqb-true e.customer customer q) ∙ p))))

  -- the entries that stay and those that go are all
  pub count-without : s.count + sum_to (λ i. cond (theirs customer (entry_at r i)) 1 0) r.count ≡ r.count
  count-without =
      omega (
        arith,
        sum-const 1 s.count,
        sum-without (λ e. 1),
        sum-plus (λ i. cond (theirs customer (entry_at r i)) 0 1) (λ i. cond (theirs customer (entry_at r i)) 1 0) r.count,
        sum_same (λ i. cond (theirs customer (entry_at r i)) 0 1 + cond (theirs customer (entry_at r i)) 1 0) (λ i. 1) r.count
            (λ i h. either (theirs customer (entry_at r i))),
        sum-const 1 r.count,
      )

  -- keys of others are known and held as before, the customer's own are not
  theirs-not : (e f : Entry) → (f.customer ≡ customer → ⊥) → theirs customer e ≡ true → same_key e f ≡ false
  theirs-not e f differ q = refuted (same_key e f) (λ k. differ (sym (key-same e f k).0 ∙ eqb-true e.customer customer q))

  pub known-others : (e : Entry) → (e.customer ≡ customer → ⊥) → known s e ≡ known r e
  unfolding known
  known-others e differ = any-others (λ f. same_key f e) (λ f q. theirs-not f e differ q)

  pub held-others : (e : Entry) → (e.customer ≡ customer → ⊥) → held s e ≡ held r e
  unfolding held
  held-others e differ =
      any-others (λ f. same_key f e && same_bands f e) (λ f q. ap (λ (b : Bool). b && same_bands f e) (theirs-not f e differ q))

  pub known-theirs : (e : Entry) → e.customer ≡ customer → known s e ≡ false
  unfolding known
  known-theirs e c =
      any-theirs (λ f. same_key f e) (λ f q.
      refuted (same_key f e) (λ k. never (eq-eqb f.customer customer ((key-same f e k).0 ∙ c)) q))

-- ---- what a closing leaves is sound
rest-known : (customer : ℕ) (r : Register) → sound r ≡ true → (n : ℕ) → n < r.count → known (rest customer r n) (entry_at r n) ≡ false
unfolding known
rest-known customer r whole n h =
    any-rest customer r (λ f. same_key f (entry_at r n)) n (omega (arith, sound_most r whole))
    ∙ refuted (any_to (λ i. not (theirs customer (entry_at r i)) && same_key (entry_at r i) (entry_at r n)) n)
    (λ a. never
    (any-mono (λ i. not (theirs customer (entry_at r i)) && same_key (entry_at r i) (entry_at r n)) (λ i. same_key (entry_at r i) (entry_at r n)) n
    (λ i b. (both (not (theirs customer (entry_at r i))) (same_key (entry_at r i) (entry_at r n)) b).1) a)
    (sound-fresh r whole n h))

rest-grown : (customer : ℕ) (r : Register) → sound r ≡ true → (n : ℕ) → n ≤ r.count → Grown (rest customer r n)
rest-grown customer r whole n h =
    rest-by customer r (λ n s. n ≤ r.count → Grown s) (λ h. opened-grown) (λ n g q b h. b (omega arith))
    (λ n g q b h.
    with-grown (rest customer r n) (entry_at r n) (b (omega arith)) (all-at (λ i. entry_ok (entry_at r i)) r.count (all-ok r whole) n h)
    (rest-known customer r whole n h) (omega (arith, (roomy customer r n (omega arith)).most)))
    n (omega (arith, sound_most r whole)) h

without-length : (r : Register) (customer : ℕ) → r.count ≤ 512 → length r.entries ≡ 512 → length (without r customer).entries ≡ 512
unfolding without moved_to
without-length r customer most h =
    let l : List Entry = others customer r r.count in
    let k : length l ≤ r.count = others_most customer r r.count in
    omega (
      arith,
      length-append l (replicate (r.count - length l) no_entry ++ drop r.count r.entries),
      length-append (replicate (r.count - length l) no_entry) (drop r.count r.entries),
      length-replicate (r.count - length l) no_entry,
      length-drop r.count r.entries,
      k,
      h,
    )

pub without-sound : (r : Register) (customer : ℕ) → sound r ≡ true → sound (without r customer) ≡ true
without-sound r customer whole = sym (sound-same same) ∙ (rest-grown customer r whole r.count (le_refl r.count)).whole
  where
    n : (without r customer).count ≡ (rest customer r r.count).count
    n = without-count r customer (sound_most r whole)

    same : SameRegister (rest customer r r.count) (without r customer)
    same = record {
      count = sym n;
      entries = λ i h. subst⁻¹ (SameEntry (entry_at (rest customer r r.count) i)) (without_at r customer (sound_most r whole) i (omega (arith, n)))
          (same-entry (entry_at (rest customer r r.count) i));
    }

pub closed-grown : (r : Register) (customer : ℕ) → Grown r → Grown (closed_of r customer)
closed-grown r customer g =
    subst⁻¹ Grown (closed_is r customer g.whole) (record {
      whole = without-sound r customer g.whole;
      places = without-length r customer (sound_most r g.whole) g.places;
    })
