-- That a text stands in a line from a position on: byte by byte, within the line. Assumes nothing.
use mathlib.Core.Path.{◌≡◌, refl, sym, ◌∙◌, ap, subst}
use mathlib.Core.List.{List, [], ◌∷◌, ◌++◌}
use Prim.Native.Nat.{ℕ, suc, ◌+◌, ◌≤◌, ◌<◌}
use native.Mathlib.Omega.{arith}
use lib.ListN.{length, take, drop, length-append}
use lib.Seq.{drop-cons, get_or_at}
use Rattle.quantity.specs.Keys.{byte_at}

pub record Stood (s : List ℕ) (at b : ℕ) : Type 0 where
  pub within : at < length s
  pub is : byte_at s at ≡ b

abbrev pub Stands : List ℕ → ℕ → List ℕ → Type 0
Stands s at [] = Unit {0}
Stands s at (b ∷ t) = Stood s at b × Stands s (suc at) t

pub move : (s t : List ℕ) (i j : ℕ) → i ≡ j → Stands s i t → Stands s j t
move s t i j e h = subst (λ (k : ℕ). Stands s k t) e h

zero-on : (i : ℕ) → i ≡ i + 0
zero-on i = omega arith

suc-on : (i n : ℕ) → suc i + n ≡ i + suc n
suc-on i n = omega arith

pub joined : (s t u : List ℕ) (at : ℕ) → Stands s at t → Stands s (at + length t) u → Stands s at (t ++ u)
joined s [] u at h k = move s u (at + 0) at (sym (zero-on at)) k
joined s (b ∷ t) u at h k = (h.0, joined s t u (suc at) h.1 (move s u (at + suc (length t)) (suc at + length t) (sym (suc-on at (length t))) k))

pub front-part : (s t u : List ℕ) (at : ℕ) → Stands s at (t ++ u) → Stands s at t
front-part s [] u at h = tt
front-part s (b ∷ t) u at h = (h.0, front-part s t u (suc at) h.1)

pub back-part : (s t u : List ℕ) (at : ℕ) → Stands s at (t ++ u) → Stands s (at + length t) u
back-part s [] u at h = move s u at (at + 0) (zero-on at) h
back-part s (b ∷ t) u at h = move s u (suc at + length t) (at + suc (length t)) (suc-on at (length t)) (back-part s t u (suc at) h.1)

-- one byte more
pub one_more : (s t : List ℕ) (at j b : ℕ) → Stands s at t → j ≡ at + length t → j < length s → byte_at s j ≡ b → Stands s at (t ++ (b ∷ []))
one_more s t at j b h e k f =
    joined s t (b ∷ []) at h (move s (b ∷ []) j (at + length t) e (record { within = k; is = f }, tt))

pub fits : (s t : List ℕ) (at : ℕ) → 0 < length t → Stands s at t → at + length t ≤ length s
fits s [] at h k = absurd (omega arith)
fits s (b ∷ []) at h k = omega (arith, k.0.within)
fits s (b ∷ b' ∷ t) at h k = omega (arith, fits s (b' ∷ t) (suc at) (omega arith) k.1)

-- what stands is what the line has there
pub taken : (s t : List ℕ) (at : ℕ) → Stands s at t → take (length t) (drop at s) ≡ t
taken s [] at h = refl
taken s (b ∷ t) at h =
    ap (λ (l : List ℕ). take (suc (length t)) l) (drop-cons s at 0 h.0.within)
    ∙ ap (λ (x : ℕ). x ∷ take (length t) (drop (suc at) s)) h.0.is
    ∙ ap (λ (l : List ℕ). b ∷ l) (taken s t (suc at) h.1)

-- a text stands in itself, wherever it is
pub itself : (p t q : List ℕ) (at : ℕ) → length p ≡ at → Stands (p ++ (t ++ q)) at t
itself p [] q at e = tt
itself p (b ∷ t) q at e = (
  record { within = omega (arith, length-append p (b ∷ (t ++ q))); is = get_or_at p b (t ++ q) 0 at e },
  subst (λ (l : List ℕ). Stands l (suc at) t) (shift p b (t ++ q))
      (itself (p ++ (b ∷ [])) t q (suc at) (omega (arith, length-append p (b ∷ [])))),
)
  where
    shift : (p : List ℕ) (b : ℕ) (l : List ℕ) → (p ++ (b ∷ [])) ++ l ≡ p ++ (b ∷ l)
    shift [] b l = refl
    shift (x ∷ p) b l = ap (λ (r : List ℕ). x ∷ r) (shift p b l)
