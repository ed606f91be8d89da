-- What a closing leaves in each place (document 02, (xi)): the others move together in their order, and nothing of the customer's
-- stays, there or past the count; that of a customer without entries changes nothing. Assumes nothing.
use mathlib.Core.Path.{◌≡◌, refl, sym, ◌∙◌, ap, ap₂, subst⁻¹}
use mathlib.Core.Bool.{Bool, true, false, cond}
use mathlib.Core.List.{List, [], ◌∷◌, ◌++◌}
use Prim.Native.Nat.{ℕ, zero, suc, ◌+◌, ◌-◌, ◌≤◌, ◌<◌}
use native.Mathlib.Nat.{le_refl}
use native.Mathlib.Decide.{ℕ_discrete, dec_lt}
use native.Mathlib.Omega.{arith}
use borrow.Author.Tests.{lt-ltb, le-ltb, eq-eqb, ne_eqb}
use lib.Dec.{ltb}
use lib.ListN.{length, get_or, take, drop, replicate, length-replicate, get_or-replicate, get_or-append, take-append-drop}
use lib.Seq.{get_or-set_other, get_or-append-add, get_or-drop, take-suc, length-take-le}
use Rattle.laws.proofs.Sums.{sum_same, sum_zeros}
use Rattle.laws.proofs.Tests.{never}
use Rattle.entry.specs.declared.entries.Entry.{Entry}
use Rattle.register.specs.declared.registers.Register.{Register}
use Rattle.entry.specs.Entries.{Call, entry_of, no_entry}
use Rattle.register.specs.Registers.{opened, past_end, entry_at, sound, after_of, with_entry, price_for, total_in, owed_of}
use Rattle.ledger.specs.Closings.{others, moved_to, without, closed_of, Among, Moved, Cleared}
use Rattle.ledger.specs.Histories.{Calls, left}
use Rattle.ledger.specs.Histories.Calls.{start, next, close}
use Rattle.ledger.proofs.Grown.{each_to, entry_old, entry_new}
use Rattle.ledger.proofs.Histories.{left_grown, left-most, after_is}
use Rattle.ledger.proofs.Moves.{theirs, closed_is, closed-not, others_most}
use Rattle.ledger.proofs.Rest.{rest, rest-by, room, without-count, without_at}
use Rattle.register.proofs.Seen.{Seen, seen}
use Rattle.register.proofs.Seen.Seen.{turned, retried, added}
use Rattle.register.proofs.Soundness.{owed-total}
use Rattle.std.specs.Prelude.{Ok}

-- where the entries of the others came from, among the first n
record Came (customer : ℕ) (r : Register) (n : ℕ) (s : Register) : Type 0 where
  from : ℕ → ℕ
  old : (i : ℕ) → i < s.count → from i < n
  same : (i : ℕ) → i < s.count → entry_at s i ≡ entry_at r (from i)
  other : (i : ℕ) → i < s.count → theirs customer (entry_at s i) ≡ false
  order : (i j : ℕ) → i < j → j < s.count → from i < from j
  all : (j : ℕ) → j < n → theirs customer (entry_at r j) ≡ false → Among from s.count j

module _ (customer : ℕ) (r : Register) where
  came-none : Came customer r 0 opened
  unfolding opened
  came-none = record {
    from = λ i. i;
    old = λ i h. absurd (omega arith);
    same = λ i h. absurd (omega arith);
    other = λ i h. absurd (omega arith);
    order = λ i j h g. absurd (omega arith);
    all = λ j h q. absurd (omega arith);
  }

  -- entry n is the customer's
  came-goes : (n : ℕ) (s : Register) → theirs customer (entry_at r n) ≡ true → Came customer r n s → Came customer r (suc n) s
  came-goes n s q b = record {
    from = b.from;
    old = λ i h. omega (arith, b.old i h);
    same = b.same;
    other = b.other;
    order = b.order;
    all = λ j h o. among j h o (ℕ_discrete j n);
  }
    where
      among : (j : ℕ) → j < suc n → theirs customer (entry_at r j) ≡ false → Dec (j ≡ n) → Among b.from s.count j
      among j h o (yes e) = absurd (never q (ap (λ (i : ℕ). theirs customer (entry_at r i)) (sym e) ∙ o))
      among j h o (no e) = b.all j (omega arith) o

  -- entry n is another's
  module _ (n : ℕ) (s : Register) (q : theirs customer (entry_at r n) ≡ false) (fits : s.count < length s.entries) (b : Came customer r n s) where
    abbrev t : Register
    t = with_entry s (entry_at r n)

    origin : ℕ → ℕ
    origin i = cond (ltb i s.count) (b.from i) n

    before : (i : ℕ) → i < s.count → origin i ≡ b.from i
    unfolding origin
    before i h = ap (λ (c : Bool). cond c (b.from i) n) (lt-ltb i s.count h)

    last : origin s.count ≡ n
    unfolding origin
    last = ap (λ (c : Bool). cond c (b.from s.count) n) (le-ltb s.count s.count (le_refl s.count))

    among : (j : ℕ) → j < suc n → theirs customer (entry_at r j) ≡ false → Dec (j ≡ n) → Among origin (s.count + 1) j
    among j h o (yes e) = record { at = s.count; below = omega arith; is = last ∙ sym e }
    among j h o (no e) =
        let a = b.all j (omega arith) o in
        record { at = a.at; below = omega (arith, a.below); is = before a.at a.below ∙ a.is }

    came-stays : Came customer r (suc n) t
    unfolding with_entry
    came-stays = record {
      from = origin;
      old = each_to (λ i. origin i < suc n) s.count (λ i h. omega (arith, before i h, b.old i h)) (omega (arith, last));
      same = each_to (λ i. entry_at t i ≡ entry_at r (origin i)) s.count
          (λ i h. entry_old s (entry_at r n) i h ∙ b.same i h ∙ ap (entry_at r) (sym (before i h)))
          (entry_new s (entry_at r n) fits ∙ ap (entry_at r) (sym last));
      other = each_to (λ i. theirs customer (entry_at t i) ≡ false) s.count
          (λ i h. ap (theirs customer) (entry_old s (entry_at r n) i h) ∙ b.other i h)
          (ap (theirs customer) (entry_new s (entry_at r n) fits) ∙ q);
      order = λ i j h g. each_to (λ k. i < k → origin i < origin k) s.count
          (λ k p l. omega (arith, before i (omega arith), before k p, b.order i k l p))
          (λ l. omega (arith, before i l, last, b.old i l)) j g h;
      all = λ j h o. among j h o (ℕ_discrete j n);
    }

  came : (n : ℕ) → n ≤ 512 → Came customer r n (rest customer r n)
  came =
      rest-by customer r (Came customer r) came-none (λ n h q b. came-goes n (rest customer r n) q b)
      (λ n h q b. came-stays n (rest customer r n) q (room customer r n h) b)

module _ (r : Register) (customer : ℕ) (most : r.count ≤ 512) where
  abbrev s : Register
  s = without r customer

  abbrev kept : List Entry
  kept = others customer r r.count

  abbrev zeros : List Entry
  zeros = replicate (r.count - length kept) no_entry

  fewer : length kept ≤ r.count
  fewer = others_most customer r r.count

  past : (i : ℕ) → length kept ≤ i → entry_at s i ≡ get_or (zeros ++ drop r.count r.entries) (i - length kept) past_end
  unfolding without moved_to
  past i h =
      ap (λ (j : ℕ). get_or (kept ++ (zeros ++ drop r.count r.entries)) j past_end) (omega arith)
      ∙ get_or-append-add kept (zeros ++ drop r.count r.entries) (i - length kept) past_end

  gone_at : (i : ℕ) → length kept ≤ i → i < r.count → entry_at s i ≡ no_entry
  gone_at i h g =
      past i h
      ∙ get_or-append zeros (drop r.count r.entries) past_end (i - length kept) (omega (arith, length-replicate (r.count - length kept) no_entry))
      ∙ get_or-replicate (r.count - length kept) (i - length kept) no_entry past_end (omega arith)

  beyond-at : (i : ℕ) → r.count ≤ i → entry_at s i ≡ entry_at r i
  beyond-at i h =
      past i (omega (arith, fewer))
      ∙ ap (λ (j : ℕ). get_or (zeros ++ drop r.count r.entries) j past_end)
      (omega (arith, fewer, length-replicate (r.count - length kept) no_entry))
      ∙ get_or-append-add zeros (drop r.count r.entries) (i - r.count) past_end
      ∙ get_or-drop r.count r.entries (i - r.count) past_end
      ∙ ap (entry_at r) (omega arith)

  -- "the entries go, and the others move together in their order"
  pub moved : Moved r s customer
  unfolding without
  moved = record {
    from = c.from;
    old = λ i h. c.old i (below i h);
    same = λ i h. without_at r customer most i h ∙ c.same i (below i h);
    other = λ i h e. never (eq-eqb (entry_at s i).customer customer e) (ap (theirs customer) (without_at r customer most i h) ∙ c.other i (below i h));
    order = λ i j h g. c.order i j h (below j g);
    all = λ j h f. let a = c.all j h (ne_eqb (entry_at r j).customer customer f) in record { at = a.at; below = omega (arith, a.below, n); is = a.is };
    zeros = gone_at;
    beyond = beyond-at;
  }
    where
      c : Came customer r r.count (rest customer r r.count)
      c = came customer r r.count most

      n : s.count ≡ (rest customer r r.count).count
      n = without-count r customer most

      below : (i : ℕ) → i < s.count → i < (rest customer r r.count).count
      below i h = omega (arith, n)

-- ---- places that are not in use
cleared-opened : Cleared opened
unfolding opened
cleared-opened i p q = get_or-replicate 512 i no_entry past_end q

cleared-with : (s : Register) (e : Entry) → Cleared s → Cleared (with_entry s e)
unfolding with_entry
cleared-with s e zeros i p q = get_or-set_other s.entries s.count i e past_end (λ c. omega arith) ∙ zeros i (omega arith) q

cleared-after : (s : Register) (x : Call) → Cleared s → Cleared (after_of s x)
cleared-after s x zeros = go (seen s x)
  where
    go : Seen s x → Cleared (after_of s x)
    go (turned n w d) = subst⁻¹ Cleared (after_is s x d) zeros
    go (retried sheet t k d) = subst⁻¹ Cleared (after_is s x d) zeros
    go (added sheet t k room d) = subst⁻¹ Cleared (after_is s x d) (cleared-with s (entry_of x) zeros)

cleared-without : (s : Register) (c : ℕ) → s.count ≤ 512 → Cleared s → Cleared (without s c)
cleared-without s c most zeros i p q = go (dec_lt i s.count)
  where
    go : Dec (i < s.count) → entry_at (without s c) i ≡ no_entry
    go (yes l) = (moved s c most).zeros i p l
    go (no l) = (moved s c most).beyond i (omega arith) ∙ zeros i (omega arith) q

-- so nothing that was closed stands in any place
pub left-cleared : (h : Calls) → Cleared (left h)
unfolding left
left-cleared start = cleared-opened
left-cleared (next h x) = cleared-after (left h) x (left-cleared h)
left-cleared (close h c) =
    subst⁻¹ Cleared (closed_is (left h) c (left_grown h).whole) (cleared-without (left h) c (left-most h) (left-cleared h))

-- ---- a customer without entries

module _ (r : Register) (c : ℕ) (alone : (i : ℕ) → i < r.count → (entry_at r i).customer ≡ c → ⊥) where
  others-all : (n : ℕ) → n ≤ r.count → r.count ≤ length r.entries → others c r n ≡ take n r.entries
  unfolding others
  others-all zero h g = refl
  others-all (suc n) h g =
      ap (λ (b : Bool). cond b (others c r n) (others c r n ++ (entry_at r n ∷ []))) (ne_eqb (entry_at r n).customer c (alone n h))
      ∙ ap (λ (l : List Entry). l ++ (entry_at r n ∷ [])) (others-all n (omega arith) g)
      ∙ sym (take-suc r.entries n past_end (omega arith))

  -- "changes nothing", in any place
  pub none-closed : r.count ≤ length r.entries → closed_of r c ≡ r
  unfolding without moved_to
  none-closed g = go (sound r) refl
    where
      l : others c r r.count ≡ take r.count r.entries
      l = others-all r.count (le_refl r.count) g

      n : length (others c r r.count) ≡ r.count
      n = ap length l ∙ length-take-le r.count r.entries g

      none : r.count - length (others c r r.count) ≡ 0
      none = omega (arith, n)

      entries : moved_to c r r.count ≡ r.entries
      entries =
          ap₂ (λ (k : List Entry) (m : ℕ). k ++ (replicate m no_entry ++ drop r.count r.entries)) l none
          ∙ take-append-drop r.count r.entries

      go : (b : Bool) → sound r ≡ b → closed_of r c ≡ r
      go true q = closed_is r c q ∙ (λ i. record { entries = entries i; count = n i })
      go false q = closed-not r c q

  -- "hands out 0"
  pub none-handed : sound r ≡ true → owed_of r c ≡ Ok (record { 0 = 0 })
  unfolding total_in price_for
  none-handed whole =
      sym (owed-total r c (record { 0 = total_in r c }) whole refl)
      ∙ ap (λ (n : ℕ). Ok (record { 0 = n }))
      (sum_same (λ i. price_for c (entry_at r i)) (λ i. 0) r.count (λ i h. ap (λ (b : Bool). cond b (entry_at r i).price.0 0) (ne_eqb (entry_at r i).customer c (alone i h)))
      ∙ sum_zeros r.count)
