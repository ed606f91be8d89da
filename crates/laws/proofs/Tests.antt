-- Tests that are booleans, as facts and back: one that holds or does not, two that hold together, two that are one. Assumes
-- nothing.
use mathlib.Core.Path.{◌≡◌, refl, sym, ◌∙◌, ap, ap₂, subst}
use mathlib.Core.Bool.{Bool, true, false, ◌&&◌, and-false}
use Prim.Native.Nat.{ℕ}
use native.Mathlib.Omega.{arith}
use lib.Dec.{T}

pub never : {b : Bool} → b ≡ true → b ≡ false → ⊥
never e f = subst T (sym e ∙ f) tt

-- two cases that differ
pub clash : {A : Type 0} → ◌≡◌ {A = ℕ} 0 1 → A
clash z = absurd (omega arith)

-- as a fact, and back
pub holds : {b : Bool} → b ≡ true → T b
holds e = subst T (sym e) tt

pub is_true : (b : Bool) → T b → b ≡ true
is_true true t = refl
is_true false t = absurd t

pub is_false : (b : Bool) → (T b → ⊥) → b ≡ false
is_false true f = absurd (f tt)
is_false false f = refl

pub one-test : (a b : Bool) → (T a → T b) → (T b → T a) → a ≡ b
one-test true b f g = sym (is_true b (f tt))
one-test false b f g = sym (is_false b g)

pub and_left : (a b : Bool) → T (a && b) → T a
and_left true b t = tt
and_left false b t = t

pub and_right : (a b : Bool) → T (a && b) → T b
and_right true b t = t
and_right false b t = absurd t

pub and_both : (a b : Bool) → T a → T b → T (a && b)
and_both true b s t = t
and_both false b s t = absurd s

-- a test that does not hold
pub refuted : (b : Bool) → (b ≡ true → ⊥) → b ≡ false
refuted true f = absurd (f refl)
refuted false f = refl

pub sure : (b : Bool) → (b ≡ false → ⊥) → b ≡ true
sure true f = refl
sure false f = absurd (f refl)

-- two tests that hold together
pub both : (a b : Bool) → a && b ≡ true → (a ≡ true) × (b ≡ true)
both true b e = (refl, e)
both false b e = absurd (never e refl)

pub both-made : {a b : Bool} → a ≡ true → b ≡ true → a && b ≡ true
both-made e f = ap₂ ◌&&◌ e f

pub left-fails : {a : Bool} (b : Bool) → a ≡ false → false ≡ a && b
left-fails b e = sym (ap (λ (a : Bool). a && b) e)

pub right-fails : (a : Bool) {b : Bool} → b ≡ false → false ≡ a && b
right-fails a e = sym (ap (λ (b : Bool). a && b) e ∙ and-false a)

pub left-holds : {a : Bool} (b : Bool) → a ≡ true → b ≡ a && b
left-holds b e = sym (ap (λ (a : Bool). a && b) e)
