-- Lists by index, and a list written at the front of another.
use Rattle.std.specs.Prelude.{List, [], ◌∷◌, ◌++◌, ℕ, zero, suc, length, drop}

-- f i, f (i + 1), .., k of them
unfoldable pub listed : {A : Type 0} → (ℕ → A) → ℕ → ℕ → List A
listed f zero i = []
listed f (suc k) i = f i ∷ listed f k (suc i)

-- t at the front of a list; what lies behind it stays
abbrev pub front : {A : Type 0} → List A → List A → List A
front t l = t ++ drop (length t) l
