-- Document 02, (x): "customer number, key, tenths and limit marks of all bands, kind, price in fen": what an entry says, when
-- two say the same, and the entry that a call makes. Bytes of a key past its length, values and marks past the kind's bands
-- never matter; what is entered has zeros there.
use Rattle.std.specs.Prelude.{Bool, true, false, ◌&&◌, cond, List, ℕ, zero, suc, ◌+◌, ◌*◌, ◌%◌, ◌^◌, eqb, leb, ltb, ℤ, length, get_or, take, replicate, Option, None, Some, Result, Ok, Err}
use Rattle.std.specs.Int.Signed.{le_z}
use Rattle.laws.specs.Lists.{listed}
use Rattle.quantity.specs.Keys.{key_shape}
use Rattle.quantity.specs.Quantities.{priced, nought}
use Rattle.quantity.specs.declared.refusals.Refusal.{Refusal}
use Rattle.quantity.specs.declared.quantities.Tenths.{Tenths}
use Rattle.quantity.specs.declared.quantities.BandSet.{BandSet}
use Rattle.laws.specs.Tests.{all_to}
use Rattle.kinds.specs.declared.kinds.Kind.{Kind}
use Rattle.kinds.specs.Kinds.{bands_of, kind_of, kind_number}
use Rattle.rating.specs.declared.sheets.Sheet.{Sheet}
use Rattle.rating.specs.Sheets.{rated_of}
use Rattle.entry.specs.declared.entries.Entry.{Entry}

-- ---- what an entry says

-- the key
abbrev pub key_of : Entry → List ℕ
key_of e = take e.length e.key

-- band i, counted from 0, in tenths
abbrev pub value_of : Entry → ℕ → ℤ
value_of e i = (get_or e.values i nought).0

-- the bands as rating takes them
abbrev pub set_of : Kind → Entry → BandSet
set_of k e = record { values = e.values; marks = e.marks; len = bands_of k }

-- how many bands the kind of a number has; what is no kind has none
abbrev pub bands_by : Option Kind → ℕ
bands_by (Some k) = bands_of k
bands_by None = 0

-- the marks of the first n bands
abbrev pub marks_to : ℕ → ℕ → ℕ
marks_to n marks = marks % 2 ^ n

-- ---- when two say the same

-- two texts are the same
unfoldable pub same_text : List ℕ → List ℕ → Bool
same_text s t = eqb (length s) (length t) && all_to (λ i. eqb (get_or s i 0) (get_or t i 0)) (length s)

-- two values are the same
abbrev pub same_value : ℤ → ℤ → Bool
same_value x y = le_z x y && le_z y x

-- "one customer and key"
unfoldable pub same_key : Entry → Entry → Bool
same_key e f = eqb e.customer f.customer && same_text (key_of e) (key_of f)

-- the first n values, and marks
unfoldable pub same_values : ℕ → Entry → Entry → Bool
same_values n e f = all_to (λ i. same_value (value_of e i) (value_of f i)) n

abbrev pub same_marks : ℕ → Entry → Entry → Bool
same_marks n e f = eqb (marks_to n e.marks) (marks_to n f.marks)

-- "kind and bands": tenths and limit marks of all bands
abbrev pub bands_in : Entry → ℕ
bands_in e = bands_by (kind_of e.kind)

unfoldable pub same_bands : Entry → Entry → Bool
same_bands e f = eqb e.kind f.kind && (same_marks (bands_in e) e f && same_values (bands_in e) e f)

-- ---- an entry that a call could have made

-- "bands that rating refuses", or a number that is no kind's
abbrev pub is_sheet : Result Sheet Refusal → Bool
is_sheet (Ok sheet) = true
is_sheet (Err refusal) = false

abbrev pub ratable : Option Kind → Entry → Bool
ratable (Some k) e = is_sheet (rated_of k (set_of k e))
ratable None e = false

-- "a key of another shape"
abbrev pub keyed : Entry → Bool
keyed e = leb e.length 32 && key_shape (key_of e)

unfoldable pub entry_ok : Entry → Bool
entry_ok e = priced e.price.0 && (ratable (kind_of e.kind) e && keyed e)

-- ---- the entry of a call

-- one call: the customer, the key, what is to be rated, and the price
pub record Call : Type 0 where
  pub customer : ℕ
  pub key : List ℕ
  pub kind : Kind
  pub set : BandSet
  pub price : ℕ

abbrev pub call_of : ℕ → List ℕ → Kind → BandSet → ℕ → Call
call_of customer key kind set price = record { customer = customer; key = key; kind = kind; set = set; price = price }

-- value i of the first n; zero past them
abbrev pub kept_value : BandSet → ℕ → ℕ → Tenths
kept_value s n i = cond (ltb i n) (get_or s.values i nought) nought

unfoldable pub entry_of : Call → Entry
entry_of x = record {
  customer = x.customer;
  key = listed (λ i. get_or x.key i 0) 32 0;
  values = listed (kept_value x.set (bands_of x.kind)) 16 0;
  price = record { 0 = x.price };
  marks = marks_to (bands_of x.kind) x.set.marks;
  length = length x.key;
  kind = kind_number x.kind;
}

-- an entry of zeros
unfoldable pub no_entry : Entry
no_entry = record {
  customer = 0;
  key = replicate 32 0;
  values = replicate 16 nought;
  price = record { 0 = 0 };
  marks = 0;
  length = 0;
  kind = 0;
}

-- ---- between the definitions and the code

-- the word of a customer and the first n bytes of a key
unfoldable pub word_to : ℕ → List ℕ → ℕ → ℕ
word_to customer key zero = customer % 4294967296
word_to customer key (suc n) = (word_to customer key n * 33 + get_or key n 0) % 4294967296

unfoldable pub word_of : Entry → ℕ
word_of e = word_to e.customer (key_of e) (length (key_of e))
