-- How the code looks keys up, by words of customer and key. No answer depends on it.
use Rattle.std.specs.Prelude.{List, ◌≡◌, true, false, ℕ, ◌≤◌, ◌<◌, get_or, Option, MatchOption}
use Rattle.laws.specs.Tests.{any_to}
use Rattle.entry.specs.declared.entries.Entry.{Entry}
use Rattle.register.specs.declared.registers.Register.{Register}
use Rattle.entry.specs.Entries.{same_key, word_of}
use Rattle.register.specs.Registers.{entry_at, sound}

-- the first n entries have keys of at most 32 bytes
abbrev pub Short : Register → ℕ → Type 0
Short r n = (i : ℕ) → i < n → (entry_at r i).length ≤ 32

-- the words of the first n entries
abbrev pub WordsOf : Register → ℕ → List ℕ → Type 0
WordsOf r n words = (i : ℕ) → i < n → get_or words i 0 ≡ word_of (entry_at r i)

-- the place of an entry's customer and key among the first n, if they are there
abbrev pub PlaceOf : Register → ℕ → Entry → Option ℕ → Type 0
PlaceOf r n e place =
    MatchOption place (any_to (λ i. same_key (entry_at r i) e) n ≡ false) (λ at. (at < n) × (same_key (entry_at r at) e ≡ true))

-- a register looked through: the words of its entries, if it is sound
abbrev pub LookedAt : Register → Option (List ℕ) → Type 0
LookedAt r looked = MatchOption looked (sound r ≡ false) (λ words. (sound r ≡ true) × WordsOf r r.count words)
