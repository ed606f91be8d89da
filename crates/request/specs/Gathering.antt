-- Document 01, "Request and answer lines" and "Refusal numbers": what the bands of a request hold, and what the code gathers
-- of them.
use Rattle.std.specs.Prelude.{Bool, true, false, cond, List, [], ◌∷◌, ◌++◌, map, ◌≡◌, ℕ, ◌+◌, ◌*◌, ◌-◌, ◌≤◌, length, replicate, Option, None, Some, MatchOption, IfSome}
use Rattle.quantity.specs.Quantities.{in_range, nought, tenths}
use Rattle.quantity.specs.Refusals.{or_else}
use Rattle.quantity.specs.declared.quantities.Tenths.{Tenths}
use Rattle.quantity.specs.declared.refusals.Refusal.{Refusal}
use Rattle.quantity.specs.declared.refusals.Refusal.TheVariants.{ReadingMissing, BandRange}
use Rattle.request.specs.declared.bands.Field.{Field}
use Rattle.request.specs.declared.bands.Figure.{Figure}
use Rattle.request.specs.declared.bands.Gathered.{Gathered}
use Rattle.request.specs.Texts.{Band}
use Rattle.request.specs.Texts.Band.{missing, level}
use Rattle.request.specs.Reading.{Found, Bands}
use Rattle.request.specs.Reading.Found.{found}
use Rattle.request.specs.Reading.Bands.{broken, ended}
use Rattle.laws.specs.Extremes.{one_if}

-- a band's value and its mark; a missing band has none
abbrev pub value_of : Band → Tenths
value_of missing = nought
value_of (level limit z) = tenths z

abbrev pub mark_of : Band → Bool
mark_of missing = false
mark_of (level limit z) = limit

-- the refusal that a band gives, if any: "bands from the lowest, each 3, 2, 4"
abbrev pub fault_of : Band → Option Refusal
fault_of missing = Some ReadingMissing
fault_of (level limit z) = cond (in_range z) None (Some BandRange)

-- of all bands, that of the lowest that gives one
unfoldable pub first_fault : List Band → Option Refusal
first_fault [] = None
first_fault (b ∷ bs) = or_else (fault_of b) (first_fault bs)

-- bit i of the marks for band i
unfoldable pub marks_of : List Band → ℕ
marks_of [] = 0
marks_of (b ∷ bs) = one_if (mark_of b) + 2 * marks_of bs

-- the values of a set of at most 16 bands
unfoldable pub values_of : List Band → List Tenths
values_of bands = map value_of bands ++ replicate (16 - length bands) nought

-- What the code carries between its parts. A field as the code reads it:
unfoldable pub field_of : Found → Option Field
field_of Found.nothing = None
field_of (found b next) = Some (record { next = next; value = value_of b; limit = mark_of b; fault = fault_of b })

-- a figure has at most four digits
abbrev pub Small : Option Figure → Type 0
Small figure = IfSome figure (λ f. f.tenths ≤ 9999)

-- the short way reads the figure of a level below 100 dB as it is, or leaves it
abbrev pub Short : Option Figure → Option Figure → Type 0
Short figure short = IfSome short (λ f. (figure ≡ Some f) × (f.tenths ≤ 999))

abbrev pub weight_by : Bool → ℕ → ℕ
weight_by true w = w
weight_by false w = 0

-- the bands of a line as the code gathers them
pub record Holds (bands : List Band) (r : Gathered) : Type 0 where
  pub count : r.count ≡ length bands
  pub fault : r.fault ≡ first_fault bands
  pub marks : length bands ≤ 16 → r.marks ≡ marks_of bands
  pub values : length bands ≤ 16 → r.values ≡ values_of bands

abbrev pub GatheredAt : Bands → Option Gathered → Type 0
GatheredAt broken r = r ≡ None
GatheredAt (ended bands next) r = MatchOption r ⊥ (λ g. (g.next ≡ next) × Holds bands g)
