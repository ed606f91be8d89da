-- The loop of the block call: what was answered so far, and what the rest of the part gives, are the block. Assumes nothing.
use mathlib.Core.Path.{◌≡◌, refl, sym, ◌∙◌, ap, subst}
use mathlib.Core.Bool.{Bool, true, false}
use mathlib.Core.List.{List, [], ◌++◌, append_assoc}
use Prim.Native.Nat.{ℕ, zero, suc, ◌+◌, ◌-◌, ◌≤◌, ◌<◌}
use native.Mathlib.Omega.{arith}
use borrow.Author.Tests.{lt-ltb, le-ltb, eq-eqb, ne_eqb, eqb-false, ltb-true, ltb-false, eqb-true}
use lib.Dec.{ltb, eqb}
use lib.ListN.{length, take, drop, length-append, length-drop}
use lib.Seq.{take_at, drop-append-add, drop-drop}
use Rattle.line.specs.declared.blocks.Progress.{Progress}
use Rattle.laws.specs.Lists.{front}
use Rattle.line.specs.Blocks.{Step, step_at, Block, block_from, block_of, Turned, Answered}
use Rattle.laws.proofs.Fronts.{front_length}
use Rattle.line.proofs.Turns.{piece-ahead, none_placed, feed-most, Came, came}

-- a step lies ahead, and within
step-ahead : (s : List ℕ) (at room : ℕ) (skipping last : Bool) → at ≤ length s
    → (at ≤ (step_at s at room skipping last).next) × ((step_at s at room skipping last).next ≤ length s)
step-ahead s at room skipping last h = go (came s at room skipping last)
  where
    go : {b : Bool} {x : Step} → Came s at room last b x → (at ≤ x.next) × (x.next ≤ length s)
    go (Came.past f) = (h, omega arith)
    go (Came.fed w f) = (omega arith, omega (arith, feed-most (drop at s), length-drop at s))
    go (Came.none z) = (omega arith, h)
    go (Came.told z) = piece-ahead s at last h
    go (Came.full z l) = (omega arith, h)

-- a step that takes nothing writes nothing
still-text : (s : List ℕ) (at room : ℕ) (skipping last : Bool) → (step_at s at room skipping last).next ≡ at → (step_at s at room skipping last).text ≡ []
still-text s at room skipping last = go (came s at room skipping last)
  where
    go : {b : Bool} {x : Step} → Came s at room last b x → x.next ≡ at → x.text ≡ []
    go (Came.past f) e = refl
    go (Came.fed w f) e = refl
    go (Came.none z) e = refl
    go (Came.told z) e = absurd (z e)
    go (Came.full z l) e = refl

module _ (s : List ℕ) (room at : ℕ) (text : List ℕ) (skipping last : Bool) where
  abbrev here : Block
  here = record { used = at; text = text; skipping = skipping }

  abbrev step : Step
  step = step_at s at (room - length text) skipping last

  block_out : (n : ℕ) → length s ≤ at → block_from n s room at text skipping last ≡ here
  unfolding block_from
  block_out zero h = refl
  block_out (suc n) h = rw (le-ltb at (length s) h, block_from)

  block-still : (n : ℕ) → step.next ≡ at → block_from n s room at text skipping last ≡ here
  unfolding block_from
  block-still zero e = refl
  block-still (suc n) e = go (ltb at (length s)) refl
    where
      go : (t : Bool) → ltb at (length s) ≡ t → block_from (suc n) s room at text skipping last ≡ here
      go true f = rw (f, eq-eqb step.next at e, block_from)
      go false f = rw (f, block_from)

  block_on : (n : ℕ) → at < length s → (step.next ≡ at → ⊥)
      → block_from (suc n) s room at text skipping last ≡ block_from n s room step.next (text ++ step.text) step.skipping last
  unfolding block_from
  block_on n h f = rw (lt-ltb at (length s) h, ne_eqb step.next at f, block_from)

-- What holds of a block where the turns stop holds of the whole block, if each turn that goes on carries it back. Each takes a byte
-- at least, so that as many turns as there are bytes do not run out.
module _ (s : List ℕ) (room : ℕ) (last : Bool) (P : ℕ → List ℕ → Bool → Block → Type 0)
    (out : (at : ℕ) (text : List ℕ) (skip : Bool) → at ≡ length s → P at text skip (record { used = at; text = text; skipping = skip }))
    (still : (at : ℕ) (text : List ℕ) (skip : Bool) → at < length s → (step_at s at (room - length text) skip last).next ≡ at
    → P at text skip (record { used = at; text = text; skipping = skip }))
    (on : (at : ℕ) (text : List ℕ) (skip : Bool) (b : Block) → at < length s → at < (step_at s at (room - length text) skip last).next
    → P (step_at s at (room - length text) skip last).next (text ++ (step_at s at (room - length text) skip last).text) (step_at s at (room - length text) skip last).skipping b
    → P at text skip b) where
  pub by-turns : (n at : ℕ) (text : List ℕ) (skip : Bool) → at ≤ length s → length s ≤ at + n → P at text skip (block_from n s room at text skip last)
  unfolding block_from
  by-turns zero at text skip h k = out at text skip (omega arith)
  by-turns (suc n) at text skip h k =
      go (ltb at (length s)) (eqb (step_at s at (room - length text) skip last).next at) refl refl
      (λ h' k'. by-turns n step.next (text ++ step.text) step.skipping h' k')
    where
      step : Step
      step = step_at s at (room - length text) skip last

      go : (t u : Bool) → ltb at (length s) ≡ t → eqb step.next at ≡ u
          → (step.next ≤ length s → length s ≤ step.next + n → P step.next (text ++ step.text) step.skipping (block_from n s room step.next (text ++ step.text) step.skipping last))
          → P at text skip (block_from (suc n) s room at text skip last)
      go false u p q r =
          subst (P at text skip) (sym (block_out s room at text skip last (suc n) (ltb-false at (length s) p)))
          (out at text skip (omega (arith, ltb-false at (length s) p)))
      go true true p q r =
          subst (P at text skip) (sym (block-still s room at text skip last (suc n) (eqb-true step.next at q)))
          (still at text skip (ltb-true at (length s) p) (eqb-true step.next at q))
      go true false p q r =
          let b = step-ahead s at (room - length text) skip last h in
          let f = eqb-false step.next at q in
          let ahead : at < step.next = omega arith in
          subst (P at text skip) (sym (block_on s room at text skip last n (ltb-true at (length s) p) f))
          (on at text skip (block_from n s room step.next (text ++ step.text) step.skipping last) (ltb-true at (length s) p) ahead (r b.1 (omega arith)))

-- what the loop holds
pub record Going (s l : List ℕ) (skip last : Bool) (done : Progress) (out : List ℕ) : Type 0 where
  pub text : List ℕ
  pub fuel : ℕ
  pub same : block_of s (length l) skip last ≡ block_from fuel s (length l) done.used text done.skipping last
  pub enough : length s ≤ done.used + fuel
  pub within : done.used ≤ length s
  pub wrote-is : done.wrote ≡ length text
  pub fits : length text ≤ length l
  pub out-is : out ≡ front text l

pub going_start : (s l : List ℕ) (skip last : Bool) → Going s l skip last (record { used = 0; wrote = 0; skipping = skip }) l
unfolding block_of
going_start s l skip last = record {
  text = [];
  fuel = length s;
  same = refl;
  enough = omega arith;
  within = omega arith;
  wrote-is = refl;
  fits = omega arith;
  out-is = refl;
}

pub going-length : {s l : List ℕ} {skip last : Bool} {done : Progress} {out : List ℕ} → Going s l skip last done out → length out ≡ length l
going-length {l = l} g = ap length g.out-is ∙ front_length g.text l g.fits

module _ {s l : List ℕ} {skip last : Bool} {done : Progress} {out : List ℕ} (g : Going s l skip last done out) where
  same-room : length out - done.wrote ≡ length l - length g.text
  same-room = omega (arith, going-length g, g.wrote-is)

  abbrev now_step : Step
  now_step = step_at s done.used (length out - done.wrote) done.skipping last

  then-step : Step
  then-step = step_at s done.used (length l - length g.text) done.skipping last

  steps : now_step ≡ then-step
  unfolding then-step
  steps = ap (λ (k : ℕ). step_at s done.used k done.skipping last) same-room

  -- an end: nothing left, or a turn that takes nothing
  ended : (x : Block) → block_of s (length l) skip last ≡ x → x ≡ record { used = done.used; text = g.text; skipping = done.skipping }
      → Answered (block_of s (length l) skip last) s l done out
  ended x e f =
      subst (λ (b : Block). Answered b s l done out) (sym (e ∙ f))
      (record {
        used = refl;
        wrote = g.wrote-is;
        skipping = refl;
        out = g.out-is;
        within = g.within;
        fits = omega (arith, g.wrote-is, g.fits);
      })

  pub going-out : length s ≤ done.used → Answered (block_of s (length l) skip last) s l done out
  going-out h = ended (block_from g.fuel s (length l) done.used g.text done.skipping last) g.same (block_out s (length l) done.used g.text done.skipping last g.fuel h)

  module _ {r : Progress} {after : List ℕ} (t : Turned now_step out done.wrote r after) where
    pub kept : r.used ≡ done.used → out ≡ after
    kept e =
        none_placed out done.wrote
        ∙ ap (λ (x : List ℕ). take done.wrote out ++ (x ++ drop (done.wrote + length x) out)) (sym (still-text s done.used (length out - done.wrote) done.skipping last (sym t.used ∙ e)))
        ∙ sym t.out

    pub going-still : r.used ≡ done.used → Answered (block_of s (length l) skip last) s l done after
    unfolding then-step
    going-still e =
        subst (λ (x : List ℕ). Answered (block_of s (length l) skip last) s l done x) (kept e)
        (ended (block_from g.fuel s (length l) done.used g.text done.skipping last) g.same
        (block-still s (length l) done.used g.text done.skipping last g.fuel (sym (ap (λ (x : Step). x.next) steps) ∙ sym t.used ∙ e)))

    pub turn-ahead : (r.used ≡ done.used → ⊥) → (done.used < r.used) × (r.used ≤ length s)
    turn-ahead f =
        let b = step-ahead s done.used (length out - done.wrote) done.skipping last g.within in
        (omega (arith, t.used), omega (arith, t.used))

    pub going_on : done.used < length s → (r.used ≡ done.used → ⊥) → Going s l skip last r after
    unfolding then-step
    going_on h f =
        let n = fuels g.fuel refl in
        record {
          text = g.text ++ now_step.text;
          fuel = n.0;
          same = g.same ∙ ap (λ (k : ℕ). block_from k s (length l) done.used g.text done.skipping last) n.1
              ∙ block_on s (length l) done.used g.text done.skipping last n.0 h (λ q. f (t.used ∙ ap (λ (x : Step). x.next) steps ∙ q))
              ∙ ap (λ (x : Step). block_from n.0 s (length l) x.next (g.text ++ x.text) x.skipping last) (sym steps)
              ∙ ap (λ (k : ℕ). block_from n.0 s (length l) k (g.text ++ now_step.text) now_step.skipping last) (sym t.used)
              ∙ ap (λ (b : Bool). block_from n.0 s (length l) r.used (g.text ++ now_step.text) b last) (sym t.skipping);
          enough = omega (arith, n.1, g.enough, turn-ahead f);
          within = (turn-ahead f).1;
          wrote-is = omega (arith, t.wrote-is, g.wrote-is, length-append g.text now_step.text);
          fits = omega (arith, t.fits, g.wrote-is, length-append g.text now_step.text, going-length g);
          out-is = t.out ∙ home;
        }
      where
        fuels : (n : ℕ) → g.fuel ≡ n → (m : ℕ) × (g.fuel ≡ suc m)
        fuels zero e = absurd (omega (arith, g.enough))
        fuels (suc m) e = (m, e)

        home : take done.wrote out ++ (now_step.text ++ drop (done.wrote + length now_step.text) out) ≡ front (g.text ++ now_step.text) l
        home =
            ap (λ (x : List ℕ). take done.wrote x ++ (now_step.text ++ drop (done.wrote + length now_step.text) x)) g.out-is
            ∙ ap (λ (x : List ℕ). x ++ (now_step.text ++ drop (done.wrote + length now_step.text) (front g.text l))) (take_at g.text (drop (length g.text) l) done.wrote (sym g.wrote-is))
            ∙ ap (λ (k : ℕ). g.text ++ (now_step.text ++ drop (k + length now_step.text) (front g.text l))) g.wrote-is
            ∙ ap (λ (x : List ℕ). g.text ++ (now_step.text ++ x)) (drop-append-add g.text (drop (length g.text) l) (length now_step.text) ∙ drop-drop (length now_step.text) (length g.text) l)
            ∙ sym (append_assoc g.text now_step.text (drop (length g.text + length now_step.text) l))
            ∙ ap (λ (k : ℕ). (g.text ++ now_step.text) ++ drop k l) (sym (length-append g.text now_step.text))
