-- Document 02, (xi): "one customer's entries are closed: their total is handed out, the entries go, and the others move together
-- in their order". What is handed out is `owed_of`; here is what a closing leaves.
use Rattle.std.specs.Prelude.{cond, ◌≡◌, List, [], ◌∷◌, ◌++◌, ℕ, zero, suc, ◌-◌, ◌≤◌, ◌<◌, eqb, length, replicate, drop}
use Rattle.entry.specs.declared.entries.Entry.{Entry}
use Rattle.register.specs.declared.registers.Register.{Register}
use Rattle.entry.specs.Entries.{no_entry}
use Rattle.register.specs.Registers.{entry_at, sound}

-- the entries of other customers among the first n, in their order
unfoldable pub others : ℕ → Register → ℕ → List Entry
others customer r zero = []
others customer r (suc n) = cond (eqb (entry_at r n).customer customer) (others customer r n) (others customer r n ++ (entry_at r n ∷ []))

-- the places when the first n were gone through: the others together, zeros after them, and from n on what stood there
unfoldable pub moved_to : ℕ → Register → ℕ → List Entry
moved_to customer r n = others customer r n ++ (replicate (n - length (others customer r n)) no_entry ++ drop n r.entries)

-- a register without a customer's entries: nothing of them stays in its places
unfoldable pub without : Register → ℕ → Register
without r customer = record { entries = moved_to customer r r.count; count = length (others customer r r.count) }

-- "Refusals: 19, the register unchanged"
unfoldable pub closed_of : Register → ℕ → Register
closed_of r customer = cond (sound r) (without r customer) r

-- ---- what it means

-- one of the first n places, `at`, has its entry from place j
pub record Among (from : ℕ → ℕ) (n j : ℕ) : Type 0 where
  pub at : ℕ
  pub below : at < n
  pub is : from at ≡ j

-- "the entries go, and the others move together in their order", from the register r to the register s
pub record Moved (r s : Register) (customer : ℕ) : Type 0 where
  -- entry i of s is entry `from i` of r, one in use
  pub from : ℕ → ℕ
  pub old : (i : ℕ) → i < s.count → from i < r.count
  pub same : (i : ℕ) → i < s.count → entry_at s i ≡ entry_at r (from i)
  -- none is the customer's
  pub other : (i : ℕ) → i < s.count → (entry_at s i).customer ≡ customer → ⊥
  -- their order is kept
  pub order : (i j : ℕ) → i < j → j < s.count → from i < from j
  -- no entry of another customer is left out
  pub all : (j : ℕ) → j < r.count → ((entry_at r j).customer ≡ customer → ⊥) → Among from s.count j
  -- zeros from the new count up to the old one
  pub zeros : (i : ℕ) → s.count ≤ i → i < r.count → entry_at s i ≡ no_entry
  -- from the old count on nothing changed
  pub beyond : (i : ℕ) → r.count ≤ i → entry_at s i ≡ entry_at r i

-- the places that are not in use hold zeros
abbrev pub Cleared : Register → Type 0
Cleared r = (i : ℕ) → r.count ≤ i → i < 512 → entry_at r i ≡ no_entry
