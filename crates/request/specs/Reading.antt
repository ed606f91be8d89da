-- How a request is read, byte by byte from a position: a byte past the end reads as 0, which stands in no request. That these
-- readers accept exactly the texts of `Texts` is proved in `proofs/Exact.antt` and, of whole requests, in `proofs/Wholes.antt`.
use Rattle.std.specs.Prelude.{Bool, true, false, cond, ◌&&◌, List, [], ◌∷◌, ◌++◌, ℕ, zero, suc, ◌+◌, ◌*◌, ◌-◌, leb, ltb, eqb, pos, neg_ℤ, length, take, drop, Option, None, Some}
use Rattle.quantity.specs.Keys.{byte_at, between, key_byte}
use Rattle.kinds.specs.declared.kinds.Kind.{Kind}
use Rattle.kinds.specs.declared.kinds.Kind.TheVariants.{A3, A1, I3, I1}
use Rattle.answer.specs.Texts.{tab, line_feed, hyphen, point, digit}
use Rattle.request.specs.declared.bands.Figure.{Figure}
use Rattle.request.specs.Texts.{Band}
use Rattle.request.specs.Texts.Band.{missing, level}

-- the value of a digit; 10 for any other byte
unfoldable pub digit_of : ℕ → ℕ
digit_of b = cond (between (digit 0) (digit 9) b) (b - digit 0) 10

abbrev pub digit_at : List ℕ → ℕ → ℕ
digit_at s i = digit_of (byte_at s i)

-- the digit after the point: tenths without a sign, and the position after them
abbrev pub tenth_by : ℕ → ℕ → ℕ → Option Figure
tenth_by b whole next = cond (ltb (digit_of b) 10) (Some (record { tenths = 10 * whole + digit_of b; next = next })) None

unfoldable pub tenth_at : List ℕ → ℕ → ℕ → Option Figure
tenth_at s at whole = tenth_by (byte_at s at) whole (at + 1)

-- after three digits of the whole part, after two, after one: a point, or one more digit, if the first is no 0
unfoldable pub third_at : List ℕ → ℕ → ℕ → Option Figure
third_at s at whole = cond (eqb (byte_at s at) point) (tenth_at s (at + 1) whole) None

unfoldable pub second_at : List ℕ → ℕ → ℕ → Option Figure
second_at s at whole =
    cond (eqb (byte_at s at) point) (tenth_at s (at + 1) whole)
    (cond (ltb (digit_at s at) 10) (third_at s (at + 1) (10 * whole + digit_at s at)) None)

unfoldable pub first_at : List ℕ → ℕ → ℕ → Option Figure
first_at s at whole =
    cond (eqb (byte_at s at) point) (tenth_at s (at + 1) whole)
    (cond (eqb whole 0) None
    (cond (ltb (digit_at s at) 10) (second_at s (at + 1) (10 * whole + digit_at s at)) None))

unfoldable pub figure_at : List ℕ → ℕ → Option Figure
figure_at s at = cond (ltb (digit_at s at) 10) (first_at s (at + 1) (digit_at s at)) None

-- what stands where a band is expected: a band and the position after it, or none
pub data Found : Type 0 where
  nothing : Found
  found : Band → ℕ → Found

abbrev pub signed_by : Bool → Bool → Option Figure → Found
signed_by limit minus None = nothing
signed_by limit false (Some f) = found (level limit (pos f.tenths)) f.next
signed_by limit true (Some f) = cond (eqb f.tenths 0) nothing (found (level limit (neg_ℤ (pos f.tenths))) f.next)

unfoldable pub level_at : List ℕ → ℕ → Bool → Found
level_at s at limit = cond (eqb (byte_at s at) hyphen) (signed_by limit true (figure_at s (at + 1))) (signed_by limit false (figure_at s at))

-- a hyphen that no digit follows is a missing band; 76 is L
unfoldable pub band_at : List ℕ → ℕ → Found
band_at s at =
    cond (eqb (byte_at s at) 76) (level_at s (at + 1) true)
    (cond (eqb (byte_at s at) hyphen) (cond (ltb (digit_at s (at + 1)) 10) (level_at s at false) (found missing (at + 1)))
    (level_at s at false))

-- the bands from a position on, each behind a tab, up to the line feed: with those already read, and the position after it
pub data Bands : Type 0 where
  broken : Bands
  ended : List Band → ℕ → Bands

unfoldable pub bands_from : ℕ → List ℕ → ℕ → List Band → Bands
bands_from zero s at before = broken
bands_from (suc more) s at before =
    elim (eqb (byte_at s at) tab) [
      | true ↦ elim (band_at s (at + 1)) [ nothing ↦ broken | found b next ↦ bands_from more s next (before ++ (b ∷ [])) ]
      | false ↦ elim (eqb (byte_at s at) line_feed) [ true ↦ ended before (at + 1) | false ↦ broken ]
    ]

-- each band takes at least a byte
unfoldable pub bands_at : List ℕ → ℕ → Bands
bands_at s at = bands_from (suc (length s)) s at []

-- how many bytes of a key stand in front
unfoldable pub key_span : List ℕ → ℕ
key_span [] = 0
key_span (b ∷ s) = elim (key_byte b) [ true ↦ suc (key_span s) | false ↦ 0 ]

-- 65 is A, 73 is I
unfoldable pub kind_at : List ℕ → ℕ → Option Kind
kind_at s at =
    cond (eqb (byte_at s at) 65)
    (cond (eqb (byte_at s (at + 1)) (digit 3)) (Some A3) (cond (eqb (byte_at s (at + 1)) (digit 1)) (Some A1) None))
    (cond (eqb (byte_at s at) 73)
    (cond (eqb (byte_at s (at + 1)) (digit 3)) (Some I3) (cond (eqb (byte_at s (at + 1)) (digit 1)) (Some I1) None))
    None)

-- what stands where a request is expected: a request and the position after it, or none
pub data Asked : Type 0 where
  nothing : Asked
  asked : Kind → List ℕ → List Band → ℕ → Asked

-- "one or more bands"
abbrev pub with_bands : Kind → List ℕ → Bands → Asked
with_bands kind key broken = Asked.nothing
with_bands kind key (ended [] next) = Asked.nothing
with_bands kind key (ended (b ∷ bs) next) = asked kind key (b ∷ bs) next

-- "1 to 32"
unfoldable pub with_key : Kind → List ℕ → ℕ → ℕ → Asked
with_key kind s at n = cond (leb 1 n && leb n 32) (with_bands kind (take n (drop at s)) (bands_at s (at + n))) Asked.nothing

abbrev pub with_kind : Option Kind → List ℕ → ℕ → Asked
with_kind None s at = Asked.nothing
with_kind (Some kind) s at = cond (eqb (byte_at s (at + 2)) tab) (with_key kind s (at + 3) (key_span (drop (at + 3) s))) Asked.nothing

unfoldable pub request_at : List ℕ → ℕ → Asked
request_at s at = with_kind (kind_at s at) s at

-- the request that a whole line is, "at most 512 bytes" with its line feed
pub data Request : Type 0 where
  none : Request
  request : Kind → List ℕ → List Band → Request

abbrev pub whole : ℕ → Asked → Request
whole n Asked.nothing = none
whole n (asked kind key bands next) = cond (eqb next n && leb next 512) (request kind key bands) none

unfoldable pub request_of : List ℕ → Request
request_of line = whole (length line) (request_at line 0)
