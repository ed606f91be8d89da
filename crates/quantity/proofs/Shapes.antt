-- The key of a request: its bytes, and its shape, as a test and in the words of the paper. Assumes nothing.
use mathlib.Core.Path.{◌≡◌, refl, sym, ◌∙◌, subst}
use mathlib.Core.Bool.{Bool, true, false, ◌&&◌}
use mathlib.Core.List.{List, [], ◌∷◌}
use Prim.Native.Nat.{ℕ, ◌+◌, ◌≤◌, ◌<◌}
use native.Mathlib.Numerals.{add-one}
use native.Mathlib.Omega.{arith}
use borrow.Author.Tests.{le-leb, lt-leb, leb-true, leb-false, ne_eqb}
use lib.Dec.{leb, T}
use lib.ListN.{length, get_or, drop, drop_of_length-le}
use lib.Seq.{drop-cons}
use Rattle.laws.proofs.Tests.{both}
use Rattle.quantity.specs.Keys.{key_byte, KeyBytes, KeyOk, all_key, key_shape}

key-low : (b : ℕ) → b < 45 → false ≡ key_byte b
unfolding key_byte
key-low b h = simp (ne_eqb b 45 (omega arith), lt-leb 48 b (omega arith), lt-leb 65 b (omega arith), lt-leb 97 b (omega arith))

-- a byte of a key is neither 0 nor a tab nor a line feed
pub key-range : (b : ℕ) → key_byte b ≡ true → 45 ≤ b
unfolding key_byte
key-range b e = go (leb 45 b) refl
  where
    go : (t : Bool) → leb 45 b ≡ t → 45 ≤ b
    go true p = leb-true 45 b p
    go false p =
        let h : b < 45 = leb-false 45 b p in
        let k : ◌≡◌ {A = Bool} false true = key-low b h ∙ e in
        absurd (subst T (sym k) tt)

-- a text, byte after byte: what is left of it after a byte of a key, at another byte, and at its end
pub all_more : (key : List ℕ) (i : ℕ) → i < length key → key_byte (get_or key i 0) ≡ true → all_key (drop i key) ≡ all_key (drop (i + 1) key)
unfolding all_key
all_more key i h e = rw (add-one, drop-cons key i 0, e)

pub all-fails : (key : List ℕ) (i : ℕ) → i < length key → key_byte (get_or key i 0) ≡ false → all_key (drop i key) ≡ false
unfolding all_key
all-fails key i h e = rw (drop-cons key i 0, e)

pub all-ends : (key : List ℕ) (i : ℕ) → length key ≤ i → all_key (drop i key) ≡ true
unfolding all_key
all-ends key i h = rw (drop_of_length-le key h)

-- the shape of a text of 1 to 32 bytes
pub shape-by : (key : List ℕ) → 1 ≤ length key → length key ≤ 32 → all_key key ≡ key_shape key
unfolding key_shape
shape-by key h k = simp (le-leb 1 (length key) h, le-leb (length key) 32 k)

all-bytes : (key : List ℕ) → all_key key ≡ true → KeyBytes key
unfolding all_key
all-bytes [] e = KeyBytes.none
all-bytes (b ∷ key) e = KeyBytes.more (both (key_byte b) (all_key key) e).0 (all-bytes key (both (key_byte b) (all_key key) e).1)

bytes-all : (key : List ℕ) → KeyBytes key → all_key key ≡ true
unfolding all_key
bytes-all [] KeyBytes.none = refl
bytes-all (b ∷ key) (KeyBytes.more e k) = rw e (bytes-all key k)

-- the test says what the words say: of a text that passes it, and of a key
pub key-shape : (key : List ℕ) → key_shape key ≡ true → KeyOk key
unfolding key_shape
key-shape key e =
    let a = both (leb 1 (length key)) (leb (length key) 32 && all_key key) e in
    let b = both (leb (length key) 32) (all_key key) a.1 in
    record { some = leb-true 1 (length key) a.0; most = leb-true (length key) 32 b.0; each = all-bytes key b.1 }

pub key-ok : {key : List ℕ} → KeyOk key → key_shape key ≡ true
key-ok {key} k = sym (shape-by key k.some k.most) ∙ bytes-all key k.each
