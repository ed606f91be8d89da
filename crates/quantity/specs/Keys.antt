-- Document 01, "Request and answer lines": a text as a list of bytes, its byte at a position, and the key of a request.
use Rattle.std.specs.Prelude.{Bool, true, ◌&&◌, ◌||◌, List, [], ◌∷◌, ◌≡◌, ℕ, ◌≤◌, leb, eqb, length, get_or}

-- the byte at a position; 0 past the end
abbrev pub byte_at : List ℕ → ℕ → ℕ
byte_at s i = get_or s i 0

-- "Key: 1 to 32 of ASCII letters, digits, hyphen."
abbrev pub between : ℕ → ℕ → ℕ → Bool
between lo hi b = leb lo b && leb b hi

unfoldable pub key_byte : ℕ → Bool
key_byte b = eqb b 45 || (between 48 57 b || (between 65 90 b || between 97 122 b))

pub data KeyBytes : List ℕ → Type 0 where
  none : KeyBytes []
  more : {b : ℕ} {key : List ℕ} → key_byte b ≡ true → KeyBytes key → KeyBytes (b ∷ key)

pub record KeyOk (key : List ℕ) : Type 0 where
  pub some : 1 ≤ length key
  pub most : length key ≤ 32
  pub each : KeyBytes key

-- every byte may stand in a key
unfoldable pub all_key : List ℕ → Bool
all_key [] = true
all_key (b ∷ s) = key_byte b && all_key s

-- "Key: 1 to 32 of ASCII letters, digits, hyphen.", as a test
unfoldable pub key_shape : List ℕ → Bool
key_shape key = leb 1 (length key) && (leb (length key) 32 && all_key key)
