-- The loop over the bands: what was read so far, and what the rest of the line gives, are the bands of the line. Assumes nothing.
use mathlib.Core.Path.{◌≡◌, refl, sym, ◌∙◌, ap, subst}
use mathlib.Core.Bool.{Bool, true, false}
use mathlib.Core.List.{List, [], ◌∷◌, ◌++◌, map, append_assoc}
use Prim.Native.Nat.{ℕ, zero, suc, ◌+◌, ◌*◌, ◌-◌, ◌^◌, ◌≤◌, ◌<◌}
use native.Mathlib.Nat.{pow-suc}
use lib.Pow.{pow_mono}
use native.Mathlib.Omega.{arith}
use lib.ListN.{length, set, replicate, length-map, length-set}
use lib.Seq.{set_at}
use Rattle.quantity.specs.Keys.{byte_at}
use Rattle.quantity.specs.declared.quantities.Tenths.{Tenths}
use Rattle.quantity.specs.declared.refusals.Refusal.{Refusal}
use Rattle.quantity.specs.Refusals.{or_else}
use Rattle.request.specs.declared.bands.Field.{Field}
use Rattle.request.specs.declared.bands.Gathered.{Gathered}
use Rattle.request.specs.Texts.{Band}
use Rattle.request.specs.Reading.{Found, band_at, Bands, bands_from, bands_at}
use Rattle.request.specs.Reading.Found.{found}
use Rattle.request.specs.Reading.Bands.{broken, ended}
use Rattle.request.specs.Gathering.{value_of, mark_of, fault_of, first_fault, marks_of, values_of, field_of, weight_by, GatheredAt}
use Rattle.quantity.specs.Quantities.{nought}
use Rattle.laws.specs.Extremes.{one_if}
use Rattle.request.proofs.Leaves.{inside}
use Rattle.request.proofs.Readers.{bands-tab, bands-broken, bands-end, bands-none}
use Rattle.request.proofs.Exact.{band-ok, FoundOk}
use Rattle.laws.proofs.Fronts.{snoc-length}
use Rattle.std.specs.Prelude.{Option, Some, None}
use Rattle.std.specs.Option.{option_or, is_some}

-- one band more, at the end
or-none : (o : Option Refusal) → or_else o None ≡ o
or-none None = refl
or-none (Some r) = refl

fault-more : (bs : List Band) (b : Band) → first_fault (bs ++ (b ∷ [])) ≡ or_else (first_fault bs) (fault_of b)
unfolding first_fault
fault-more [] b = or-none (fault_of b)
fault-more (x ∷ bs) b = ap (or_else (fault_of x)) (fault-more bs b) ∙ regroup (fault_of x) (first_fault bs) (fault_of b)
  where
    regroup : (l m n : Option Refusal) → or_else l (or_else m n) ≡ or_else (or_else l m) n
    regroup None m n = refl
    regroup (Some r) m n = refl

marks-more : (bs : List Band) (b : Band) → marks_of (bs ++ (b ∷ [])) ≡ marks_of bs + weight_by (mark_of b) (2 ^ length bs)
unfolding marks_of
marks-more [] b = last (mark_of b)
  where
    last : (m : Bool) → one_if m + 2 * 0 ≡ 0 + weight_by m 1
    last true = refl
    last false = refl
marks-more (x ∷ bs) b =
    ap (λ (k : ℕ). one_if (mark_of x) + 2 * k) (marks-more bs b) ∙ regroup (one_if (mark_of x)) (marks_of bs) (2 ^ length bs) (2 ^ suc (length bs)) (pow-suc 2 (length bs) ∙ omega arith) (mark_of b)
  where
    regroup : (x m w w2 : ℕ) → w2 ≡ 2 * w → (t : Bool) → x + 2 * (m + weight_by t w) ≡ x + 2 * m + weight_by t w2
    regroup x m w w2 e true = omega arith
    regroup x m w w2 e false = omega arith

map_more : (bs : List Band) (b : Band) → map value_of (bs ++ (b ∷ [])) ≡ map value_of bs ++ (value_of b ∷ [])
map_more [] b = refl
map_more (x ∷ bs) b = ap (λ (l : List Tenths). value_of x ∷ l) (map_more bs b)

values-more : (bs : List Band) (b : Band) → length bs < 16 → set (values_of bs) (length bs) (value_of b) ≡ values_of (bs ++ (b ∷ []))
unfolding values_of
values-more bs b h =
    ap (λ (k : ℕ). set (map value_of bs ++ replicate k nought) (length bs) (value_of b)) (one_less (length bs) h)
    ∙ set_at (map value_of bs) nought (replicate (15 - length bs) nought) (value_of b) (length bs) (length-map bs value_of)
    ∙ sym (append_assoc (map value_of bs) (value_of b ∷ []) (replicate (15 - length bs) nought))
    ∙ ap (λ (l : List Tenths). l ++ replicate (15 - length bs) nought) (sym (map_more bs b))
    ∙ ap (λ (k : ℕ). map value_of (bs ++ (b ∷ [])) ++ replicate k nought) (rest (length bs) h ∙ ap (λ (k : ℕ). 16 - k) (sym (snoc-length bs b)))
  where
    one_less : (n : ℕ) → n < 16 → 16 - n ≡ suc (15 - n)
    one_less n h = omega arith

    rest : (n : ℕ) → n < 16 → 15 - n ≡ 16 - suc n
    rest n h = omega arith

-- what the loop holds
pub record Few (bands : List Band) (values : List Tenths) (marks weight : ℕ) : Type 0 where
  pub marks-are : marks ≡ marks_of bands
  pub values-are : values ≡ values_of bands
  pub weight_is : weight ≡ 2 ^ length bands

pub record Gathering (s : List ℕ) (start : ℕ) (values : List Tenths) (marks weight count : ℕ) (fault : Option Refusal) (at : ℕ) : Type 0 where
  pub bands : List Band
  pub fuel : ℕ
  pub same : bands_at s start ≡ bands_from fuel s at bands
  pub enough : length s < at + fuel
  pub count-is : count ≡ length bands
  pub fault-is : fault ≡ first_fault bands
  pub short : count ≤ at
  pub whole : length values ≡ 16
  pub low : marks < weight
  pub high : weight ≤ 65536
  pub few : length bands ≤ 16 → Few bands values marks weight

pub gather-start : (s : List ℕ) (start : ℕ) → Gathering s start (replicate 16 nought) 0 1 0 None start
unfolding bands_at values_of marks_of first_fault
gather-start s start = record {
  bands = [];
  fuel = suc (length s);
  same = refl;
  enough = omega arith;
  count-is = refl;
  fault-is = refl;
  short = omega arith;
  whole = refl;
  low = omega arith;
  high = omega arith;
  few = λ _. record { marks-are = refl; values-are = refl; weight_is = refl };
}

-- the field that the code reads, by what stands there
no-field : (f : Found) → None ≡ field_of f → f ≡ Found.nothing
unfolding field_of
no-field Found.nothing e = refl
no-field (found b next) e = cc

pub record Met (f : Found) (r : Field) : Type 0 where
  pub band : Band
  pub is : f ≡ found band r.next
  pub value : r.value ≡ value_of band
  pub limit : r.limit ≡ mark_of band
  pub fault : r.fault ≡ fault_of band

met : (f : Found) (r : Field) → Some r ≡ field_of f → Met f r
unfolding field_of
met Found.nothing r e = cc
met (found b next) r e =
    let k : r ≡ record { next = next; value = value_of b; limit = mark_of b; fault = fault_of b } = cc in
    record {
      band = b;
      is = ap (found b) (sym (ap (λ (x : Field). x.next) k));
      value = ap (λ (x : Field). x.value) k;
      limit = ap (λ (x : Field). x.limit) k;
      fault = ap (λ (x : Field). x.fault) k;
    }

module _ {s : List ℕ} {start : ℕ} {values : List Tenths} {marks weight count : ℕ} {fault : Option Refusal} {at : ℕ} (g : Gathering s start values marks weight count fault at)
    (r : Field) (tab : byte_at s at ≡ 9) (read : Some r ≡ field_of (band_at s (at + 1))) where
  here : at < length s
  here = inside s at (omega arith)

  found_here : Met (band_at s (at + 1)) r
  found_here = met (band_at s (at + 1)) r read

  stands_here : FoundOk s (at + 1) (found found_here.band r.next)
  stands_here = subst (FoundOk s (at + 1)) found_here.is (band-ok s (at + 1))

  pub further : at + 1 ≤ r.next
  further = omega (arith, stands_here.ends)

  all : List Band
  all = g.bands ++ (found_here.band ∷ [])

  all-length : length all ≡ suc (length g.bands)
  unfolding all
  all-length = snoc-length g.bands found_here.band

  next-fuel : (n : ℕ) → g.fuel ≡ n → (m : ℕ) × (g.fuel ≡ suc m)
  next-fuel zero e = absurd (omega (arith, here, g.enough))
  next-fuel (suc m) e = (m, e)

  step : (m : ℕ) → g.fuel ≡ suc m → bands_at s start ≡ bands_from m s r.next all
  unfolding all
  step m e = g.same ∙ ap (λ (k : ℕ). bands_from k s at g.bands) e ∙ bands-tab m s at g.bands found_here.band r.next tab found_here.is

  turned : (values' : List Tenths) (marks' weight' : ℕ) → length values' ≡ 16 → marks' < weight' → weight' ≤ 65536
      → (length all ≤ 16 → Few all values' marks' weight')
      → Gathering s start values' marks' weight' (count + 1) (or_else fault r.fault) r.next
  unfolding all
  turned values' marks' weight' l lo hi f =
      let n = next-fuel g.fuel refl in
      record {
        bands = all;
        fuel = n.0;
        same = step n.0 n.1;
        enough = omega (arith, n.1, g.enough, further);
        count-is = omega (arith, g.count-is, all-length);
        fault-is = ap (λ (o : Option Refusal). or_else o r.fault) g.fault-is ∙ ap (or_else (first_fault g.bands)) found_here.fault
            ∙ sym (fault-more g.bands found_here.band);
        short = omega (arith, g.short, further);
        whole = l;
        low = lo;
        high = hi;
        few = f;
      }

  weight-small : (t : Bool) (w : ℕ) → weight_by t w ≤ w
  weight-small true w = omega arith
  weight-small false w = omega arith

  power_small : (k : ℕ) → k < 16 → 2 ^ k ≤ 32768
  power_small k h = pow_mono {i = k} {j = 15} (omega arith)

  -- a place for it
  pub turn-few : (w : ℕ) → w ≡ weight_by r.limit weight → count < 16
      → Gathering s start (set values count r.value) (marks + w) (weight + weight) (count + 1) (or_else fault r.fault) r.next
  unfolding all
  turn-few w e h =
      let f : Few g.bands values marks weight = g.few (omega (arith, g.count-is)) in
      turned (set values count r.value) (marks + w) (weight + weight)
      (length-set values count r.value ∙ g.whole)
      (omega (arith, g.low, weight-small r.limit weight))
      (omega (arith, f.weight_is, power_small (length g.bands) (omega (arith, g.count-is))))
      (λ few. record {
        marks-are = regroup marks w weight r.limit f.marks-are e found_here.limit f.weight_is ∙ sym (marks-more g.bands found_here.band);
        values-are = ap (λ (v : List Tenths). set v count r.value) f.values-are
            ∙ ap (λ (k : ℕ). set (values_of g.bands) k r.value) g.count-is
            ∙ ap (set (values_of g.bands) (length g.bands)) found_here.value
            ∙ values-more g.bands found_here.band (omega (arith, g.count-is));
        weight_is = omega (arith, f.weight_is, pow-suc 2 (length g.bands)) ∙ ap (λ (k : ℕ). 2 ^ k) (sym all-length);
      })
    where
      regroup : (marks w weight : ℕ) (t : Bool) → marks ≡ marks_of g.bands → w ≡ weight_by t weight → t ≡ mark_of found_here.band → weight ≡ 2 ^ length g.bands
          → marks + w ≡ marks_of g.bands + weight_by (mark_of found_here.band) (2 ^ length g.bands)
      regroup marks w weight t a b c d =
          ap (λ (k : ℕ). k + w) a ∙ ap (λ (k : ℕ). marks_of g.bands + k) (b ∙ ap (λ (x : Bool). weight_by x weight) c ∙ ap (weight_by (mark_of found_here.band)) d)

  -- no place for it: such a request is refused for its count
  pub turn_many : 16 ≤ count → Gathering s start values marks weight (count + 1) (or_else fault r.fault) r.next
  unfolding all
  turn_many h = turned values marks weight g.whole g.low g.high (λ few. absurd (omega (arith, all-length, g.count-is)))

-- the ways out
module _ {s : List ℕ} {start : ℕ} {values : List Tenths} {marks weight count : ℕ} {fault : Option Refusal} {at : ℕ} (g : Gathering s start values marks weight count fault at) where
  by-fuel : (x : Bands) → ((m : ℕ) → bands_from (suc m) s at g.bands ≡ x) → bands_from 0 s at g.bands ≡ x → bands_at s start ≡ x
  by-fuel x f z = g.same ∙ go g.fuel
    where
      go : (n : ℕ) → bands_from n s at g.bands ≡ x
      go zero = z
      go (suc m) = f m

  zero-broken : bands_from 0 s at g.bands ≡ broken
  unfolding bands_from
  zero-broken = refl

  pub out-broken : (r : Option Gathered) → r ≡ None → byte_at s at ≡ 9 → None ≡ field_of (band_at s (at + 1)) → GatheredAt (bands_at s start) r
  out-broken r z e f =
      subst (λ (b : Bands). GatheredAt b r)
      (sym (by-fuel broken (λ m. bands-broken m s at g.bands e (no-field (band_at s (at + 1)) f)) zero-broken)) z

  pub out_none : (byte_at s at ≡ 9 → ⊥) → (byte_at s at ≡ 10 → ⊥) → GatheredAt (bands_at s start) None
  out_none e f = subst (λ (b : Bands). GatheredAt b None) (sym (by-fuel broken (λ m. bands-none m s at g.bands e f) zero-broken)) refl

  pub out-end : byte_at s at ≡ 10
      → GatheredAt (bands_at s start) (Some (record { next = at + 1; count = count; fault = fault; marks = marks; values = values }))
  out-end e =
      subst (λ (b : Bands). GatheredAt b (Some (record { next = at + 1; count = count; fault = fault; marks = marks; values = values })))
      (sym (go g.fuel refl)) (
        refl,
        record {
          count = g.count-is;
          fault = g.fault-is;
          marks = λ few. (g.few few).marks-are;
          values = λ few. (g.few few).values-are;
        },
      )
    where
      go : (n : ℕ) → g.fuel ≡ n → bands_at s start ≡ ended g.bands (at + 1)
      go zero f = absurd (omega (arith, inside s at (omega arith), g.enough))
      go (suc m) f = g.same ∙ ap (λ (k : ℕ). bands_from k s at g.bands) f ∙ bands-end m s at g.bands e

-- where the two ways of a turn meet
module _ {s : List ℕ} {start : ℕ} {values : List Tenths} {marks weight count : ℕ} {fault : Option Refusal} {at : ℕ} (g : Gathering s start values marks weight count fault at)
    (r : Field) (tab : byte_at s at ≡ 9) (read : Some r ≡ field_of (band_at s (at + 1)))
    (values' : List Tenths) (marks' weight' : ℕ) (fault' : Option Refusal) (first : fault' ≡ or_else fault r.fault) where
  moved : (v : List Tenths) (m w : ℕ) → values' ≡ v → marks' ≡ m → weight' ≡ w
      → Gathering s start v m w (count + 1) (or_else fault r.fault) r.next → Gathering s start values' marks' weight' (count + 1) fault' r.next
  moved v m w a b c k =
      subst (λ (x : List Tenths). Gathering s start x marks' weight' (count + 1) fault' r.next) (sym a)
      (subst (λ (x : ℕ). Gathering s start v x weight' (count + 1) fault' r.next) (sym b)
      (subst (λ (x : ℕ). Gathering s start v m x (count + 1) fault' r.next) (sym c)
      (subst (λ (x : Option Refusal). Gathering s start v m w (count + 1) x r.next) (sym first) k)))

  pub again-few : (w : ℕ) → w ≡ weight_by r.limit weight → count < 16 → values' ≡ set values count r.value → marks' ≡ marks + w → weight' ≡ weight + weight
      → Gathering s start values' marks' weight' (count + 1) fault' r.next
  again-few w e h a b c =
      moved (set values count r.value) (marks + w) (weight + weight) a b c (turn-few g r tab read w e h)

  pub again-many : 16 ≤ count → values' ≡ values → marks' ≡ marks → weight' ≡ weight → Gathering s start values' marks' weight' (count + 1) fault' r.next
  again-many h a b c = moved values marks weight a b c (turn_many g r tab read h)

-- the refusal of a band is put after the one that stands, if it gives any
pub or-given : (o p : Option Refusal) → option_or o p ≡ or_else o p
or-given None p = refl
or-given (Some r) p = refl

pub or-kept : (o p : Option Refusal) → false ≡ is_some p → o ≡ or_else o p
or-kept o None e = sym (or-none o)
or-kept o (Some r) e = cc
