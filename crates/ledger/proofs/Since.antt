-- The calls since a customer's last closing: all of them where there was none, and otherwise those after it. Assumes nothing.
use mathlib.Core.Path.{◌≡◌, refl, sym, ◌∙◌, ap}
use mathlib.Core.Bool.{Bool, true, false, ◌&&◌, not, cond}
use Prim.Native.Nat.{ℕ}
use Rattle.laws.proofs.Tests.{never, both, both-made}
use Rattle.ledger.specs.Histories.{History, ends, since, upon, unended, Ended}
use Rattle.ledger.specs.Histories.History.{none, then, closed}

module _ (customer : ℕ) where
  -- none of this customer's closings is among them
  pub since-unended : (h : History) → unended customer (since customer h) ≡ true
  unfolding since unended
  since-unended none = refl
  since-unended (then h x b) = since-unended h
  since-unended (closed h c o) = go (since-unended h) (ends customer c o) refl
    where
      go : unended customer (since customer h) ≡ true → (b : Bool) → ends customer c o ≡ b
          → unended customer (cond (ends customer c o) none (closed (since customer h) c o)) ≡ true
      go before true q = ap (λ (b : Bool). unended customer (cond b none (closed (since customer h) c o))) q
      go before false q =
          ap (λ (b : Bool). unended customer (cond b none (closed (since customer h) c o))) q
          ∙ both-made before (ap not q)

  pub since-all : (h : History) → unended customer h ≡ true → since customer h ≡ h
  unfolding since unended
  since-all none u = refl
  since-all (then h x b) u = ap (λ (g : History). then g x b) (since-all h u)
  since-all (closed h c o) u = go (since-all h) (ends customer c o) refl
    where
      parts : (unended customer h ≡ true) × (not (ends customer c o) ≡ true)
      parts = both (unended customer h) (not (ends customer c o)) u

      go : (unended customer h ≡ true → since customer h ≡ h) → (b : Bool) → ends customer c o ≡ b
          → cond (ends customer c o) none (closed (since customer h) c o) ≡ closed h c o
      go before true q = absurd (never parts.1 (ap not q))
      go before false q =
          ap (λ (b : Bool). cond b none (closed (since customer h) c o)) q ∙ ap (λ (g : History). closed g c o) (before parts.0)

  pub since-last : (h : History) → unended customer h ≡ false → Ended customer h
  unfolding since unended upon
  since-last none u = absurd (never refl u)
  since-last (then h x b) u =
      let e = since-last h u in
      record { before = e.before; number = e.number; answer = e.answer; last = e.last; parts = ap (λ (g : History). then g x b) e.parts }
  since-last (closed h c o) u = go (since-last h) (ends customer c o) refl
    where
      s : (b : Bool) → ends customer c o ≡ b → since customer (closed h c o) ≡ cond b none (closed (since customer h) c o)
      s b q = ap (λ (b : Bool). cond b none (closed (since customer h) c o)) q

      go : (unended customer h ≡ false → Ended customer h) → (b : Bool) → ends customer c o ≡ b → Ended customer (closed h c o)
      go before true q =
          record { before = h; number = c; answer = o; last = q; parts = sym (ap (upon (closed h c o)) (s true q)) }
      go before false q =
          let e = before (sym (still (unended customer h) (ap not q)) ∙ u) in
          record {
            before = e.before;
            number = e.number;
            answer = e.answer;
            last = e.last;
            parts = ap (λ (g : History). closed g c o) e.parts ∙ sym (ap (upon (closed e.before e.number e.answer)) (s false q));
          }
        where
          still : (a : Bool) {b : Bool} → b ≡ true → a && b ≡ a
          still true q = q
          still false q = refl
