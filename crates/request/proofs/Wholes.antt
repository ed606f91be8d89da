-- Whole requests are read exactly: kind, key and bands stand in the line as their text, and where a request's text stands it is
-- read. Assumes nothing.
use mathlib.Core.Path.{◌≡◌, refl, sym, ◌∙◌, ap, subst}
use mathlib.Core.Bool.{Bool, true, false, cond, ◌&&◌}
use mathlib.Core.List.{List, [], ◌∷◌, ◌++◌, map, append_assoc}
use Prim.Native.Nat.{ℕ, zero, suc, ◌+◌, ◌≤◌, ◌<◌}
use native.Mathlib.Omega.{arith}
use borrow.Author.Tests.{le-leb, leb-true, eq-eqb, eqb-true, eqb-false}
use lib.Dec.{leb, eqb}
use lib.ListN.{length, take, drop, length-append, length-drop}
use lib.Seq.{drop-cons, length-take-le, take_all}
use Rattle.quantity.specs.Keys.{byte_at, key_byte, KeyBytes, KeyOk}
use Rattle.quantity.proofs.Shapes.{key-range}
use Rattle.kinds.specs.declared.kinds.Kind.{Kind}
use Rattle.kinds.specs.declared.kinds.Kind.TheVariants.{A3, A1, I3, I1}
use Rattle.answer.specs.Texts.{others, line_text, kind_text}
use Rattle.request.specs.Texts.{Band, band_text, BandsOk, request_text}
use Rattle.request.specs.Reading.{Found, band_at, Bands, bands_from, bands_at, key_span, kind_at, Asked, with_bands, with_key, with_kind, request_at, Request, whole, request_of}
use Rattle.request.specs.Reading.Found.{found}
use Rattle.request.specs.Reading.Bands.{broken, ended}
use Rattle.request.specs.Reading.Asked.{asked}
use Rattle.request.specs.Reading.Request.{request}
use Rattle.request.proofs.Leaves.{inside, digit_low}
use Rattle.request.proofs.Readers.{bands-tab, bands-broken, bands-end, bands-none, kind-A, kind-I, thirds, octaves, span_more, span-end}
use Rattle.request.proofs.Stands.{Stands, Stood, joined, front-part, back-part, move, taken, itself}
use Rattle.request.proofs.Exact.{FoundOk, FoundAt, band-ok, band-here}
use Rattle.laws.proofs.Tests.{clash}
use Rattle.std.specs.Prelude.{Option, Some, None}

-- ---- bands
pub record BandsAt (s : List ℕ) (at : ℕ) (before all : List Band) (next : ℕ) : Type 0 where
  pub new : List Band
  pub all-is : all ≡ before ++ new
  pub stands : Stands s at (others (map band_text new))
  pub ends : next ≡ at + length (others (map band_text new))
  pub ok : BandsOk new

abbrev pub BandsGood : List ℕ → ℕ → List Band → Bands → Type 0
BandsGood s at before broken = Unit {0}
BandsGood s at before (ended all next) = BandsAt s at before all next

module _ (s : List ℕ) (at : ℕ) (before : List Band) where
  one-band : (b : Band) (next : ℕ) (r : Bands) → byte_at s at ≡ 9 → FoundAt s (at + 1) b next → BandsGood s next (before ++ (b ∷ [])) r → BandsGood s at before r
  unfolding others
  one-band b next broken e f g = tt
  one-band b next (ended all nx) e f g = record {
    new = b ∷ g.new;
    all-is = g.all-is ∙ append_assoc before (b ∷ []) g.new;
    stands = (
      record { within = inside s at (omega arith); is = e },
      joined s (band_text b) (others (map band_text g.new)) (suc at)
          (move s (band_text b) (at + 1) (suc at) (omega arith) f.stands)
          (move s (others (map band_text g.new)) next (suc at + length (band_text b)) (omega (arith, f.ends)) g.stands),
    );
    ends = omega (arith, g.ends, f.ends, length-append (band_text b) (others (map band_text g.new)));
    ok = BandsOk.more f.small g.ok;
  }

pub bands-ok : (n : ℕ) (s : List ℕ) (at : ℕ) (before : List Band) → BandsGood s at before (bands_from n s at before)
unfolding bands_from others
bands-ok zero s at before = tt
bands-ok (suc n) s at before =
    by_byte (eqb (byte_at s at) 9) (eqb (byte_at s at) 10) refl refl (λ next b. bands-ok n s next (before ++ (b ∷ [])))
  where
    by-band : byte_at s at ≡ 9 → (f : Found) → band_at s (at + 1) ≡ f → FoundOk s (at + 1) f
        → ((next : ℕ) (b : Band) → BandsGood s next (before ++ (b ∷ [])) (bands_from n s next (before ++ (b ∷ []))))
        → BandsGood s at before (bands_from (suc n) s at before)
    by-band e Found.nothing f ok r = subst (BandsGood s at before) (sym (bands-broken n s at before e f)) tt
    by-band e (found b next) f ok r =
        subst (BandsGood s at before) (sym (bands-tab n s at before b next e f))
        (one-band s at before b next (bands_from n s next (before ++ (b ∷ []))) e ok (r next b))

    by_byte : (t u : Bool) → eqb (byte_at s at) 9 ≡ t → eqb (byte_at s at) 10 ≡ u
        → ((next : ℕ) (b : Band) → BandsGood s next (before ++ (b ∷ [])) (bands_from n s next (before ++ (b ∷ []))))
        → BandsGood s at before (bands_from (suc n) s at before)
    by_byte true u e f r = by-band (eqb-true (byte_at s at) 9 e) (band_at s (at + 1)) refl (band-ok s (at + 1)) r
    by_byte false true e f r =
        subst (BandsGood s at before) (sym (bands-end n s at before (eqb-true (byte_at s at) 10 f)))
        (no_more (eqb-true (byte_at s at) 10 f))
      where
        no_more : byte_at s at ≡ 10 → BandsAt s at before before (at + 1)
        no_more e = record {
          new = [];
          all-is = sym (mathlib.Core.List.append-nil before);
          stands = (record { within = inside s at (omega arith); is = e }, tt);
          ends = refl;
          ok = BandsOk.none;
        }
    by_byte false false e f r =
        subst (BandsGood s at before) (sym (bands-none n s at before (eqb-false (byte_at s at) 9 e) (eqb-false (byte_at s at) 10 f))) tt

-- after a field stands a tab or a line feed
head_of : (s : List ℕ) (at : ℕ) (fs : List (List ℕ)) → Stands s at (others fs) → (byte_at s at ≤ 10) × (9 ≤ byte_at s at)
unfolding others
head_of s at [] h = (omega (arith, h.0.is), omega (arith, h.0.is))
head_of s at (f ∷ fs) h = (omega (arith, h.0.is), omega (arith, h.0.is))

pub bands-here : (n : ℕ) (s : List ℕ) (at : ℕ) (before bs : List Band) → length s < at + n → BandsOk bs → Stands s at (others (map band_text bs))
    → bands_from n s at before ≡ ended (before ++ bs) (at + length (others (map band_text bs)))
unfolding others
bands-here zero s at before [] f ok h = absurd (omega (arith, h.0.within))
bands-here zero s at before (b ∷ bs) f ok h = absurd (omega (arith, h.0.within))
bands-here (suc n) s at before [] f ok h =
    bands-end n s at before h.0.is ∙ ap (λ (l : List Band). ended l (at + 1)) (sym (mathlib.Core.List.append-nil before))
bands-here (suc n) s at before (b ∷ bs) f (BandsOk.more one ok) h =
    let rest : Stands s (suc at + length (band_text b)) (others (map band_text bs)) = back-part s (band_text b) (others (map band_text bs)) (suc at) h.1 in
    let next : ℕ = at + 1 + length (band_text b) in
    let rest' : Stands s next (others (map band_text bs)) = move s (others (map band_text bs)) (suc at + length (band_text b)) next (omega arith) rest in
    let hd = head_of s next (map band_text bs) rest' in
    bands-tab n s at before b next h.0.is
    (band-here s (at + 1) b one (move s (band_text b) (suc at) (at + 1) (omega arith) (front-part s (band_text b) (others (map band_text bs)) (suc at) h.1))
    (omega (arith, digit_low (byte_at s next) (omega arith))))
    ∙ bands-here n s next (before ++ (b ∷ [])) bs (omega arith) ok rest'
    ∙ ap (λ (l : List Band). ended l (next + length (others (map band_text bs)))) (append_assoc before (b ∷ []) bs)
    ∙ ap (ended (before ++ (b ∷ bs))) (omega (arith, length-append (band_text b) (others (map band_text bs))))

-- ---- keys
pub span-most : (l : List ℕ) → key_span l ≤ length l
unfolding key_span
span-most [] = omega arith
span-most (b ∷ l) = go (key_byte b) refl (span-most l)
  where
    go : (t : Bool) → key_byte b ≡ t → key_span l ≤ length l → key_span (b ∷ l) ≤ suc (length l)
    go true e h = rw (e, key_span) (omega arith)
    go false e h = rw (e, key_span) (omega arith)

span_key : (l : List ℕ) → KeyBytes (take (key_span l) l)
unfolding key_span
span_key [] = KeyBytes.none
span_key (b ∷ l) = go (key_byte b) refl (span_key l)
  where
    go : (t : Bool) → key_byte b ≡ t → KeyBytes (take (key_span l) l) → KeyBytes (take (key_span (b ∷ l)) (b ∷ l))
    go true e h = rw (e, key_span) (KeyBytes.more e h)
    go false e h = rw (e, key_span) KeyBytes.none

pub part-stands : (n : ℕ) (s : List ℕ) (at : ℕ) → at + n ≤ length s → Stands s at (take n (drop at s))
part-stands zero s at h = tt
part-stands (suc n) s at h =
    subst (λ (l : List ℕ). Stands s at (take (suc n) l)) (sym (drop-cons s at 0 (omega arith)))
    (record { within = omega arith; is = refl }, part-stands n s (suc at) (omega arith))

key_here : (key s : List ℕ) (at : ℕ) → KeyBytes key → Stands s at key → byte_at s (at + length key) ≤ 10 → key_span (drop at s) ≡ length key
key_here [] s at KeyBytes.none h e =
    span-end s at (go (key_byte (byte_at s at)) refl)
  where
    go : (t : Bool) → key_byte (byte_at s at) ≡ t → key_byte (byte_at s at) ≡ false
    go true f = absurd (omega (arith, key-range (byte_at s at) f, ap (byte_at s) (zero-on at)))
      where
        zero-on : (i : ℕ) → i + 0 ≡ i
        zero-on i = omega arith
    go false f = f
key_here (b ∷ key) s at (KeyBytes.more k ks) h e =
    span_more s at (ap key_byte h.0.is ∙ k)
    ∙ ap suc (key_here key s (suc at) ks h.1 (subst (λ (i : ℕ). byte_at s i ≤ 10) (index at (length key)) e))
  where
    index : (i n : ℕ) → i + suc n ≡ suc i + n
    index i n = omega arith

-- ---- kinds
abbrev pub KindGood : List ℕ → ℕ → Option Kind → Type 0
KindGood s at (Some k) = Stands s at (kind_text k)
KindGood s at None = Unit {0}

if-kind : (s : List ℕ) (at : ℕ) (t : Bool) (a b : Option Kind) → (t ≡ true → KindGood s at a) → (t ≡ false → KindGood s at b) → KindGood s at (cond t a b)
if-kind s at true a b f g = f refl
if-kind s at false a b f g = g refl

pub kind_ok : (s : List ℕ) (at : ℕ) → KindGood s at (kind_at s at)
unfolding kind_at
kind_ok s at =
    if-kind s at (eqb (byte_at s at) 65) (cond (eqb (byte_at s (at + 1)) 51) (Some A3) (cond (eqb (byte_at s (at + 1)) 49) (Some A1) None))
    (cond (eqb (byte_at s at) 73) (cond (eqb (byte_at s (at + 1)) 51) (Some I3) (cond (eqb (byte_at s (at + 1)) 49) (Some I1) None)) None)
    (λ e. by-digit 65 A3 A1 refl refl (eqb-true (byte_at s at) 65 e) (omega arith))
    (λ e. if-kind s at (eqb (byte_at s at) 73) (cond (eqb (byte_at s (at + 1)) 51) (Some I3) (cond (eqb (byte_at s (at + 1)) 49) (Some I1) None)) None
    (λ f. by-digit 73 I3 I1 refl refl (eqb-true (byte_at s at) 73 f) (omega arith)) (λ f. tt))
  where
    two : (b d : ℕ) → byte_at s at ≡ b → 0 < b → byte_at s (at + 1) ≡ d → 0 < d → Stands s at (b ∷ d ∷ [])
    two b d e p f q = (
      record { within = inside s at (omega arith); is = e },
      move s (d ∷ []) (at + 1) (suc at) (omega arith) (record { within = inside s (at + 1) (omega arith); is = f }, tt),
    )

    by-digit : (b : ℕ) (x y : Kind) → kind_text x ≡ b ∷ 51 ∷ [] → kind_text y ≡ b ∷ 49 ∷ [] → byte_at s at ≡ b → 0 < b
        → KindGood s at (cond (eqb (byte_at s (at + 1)) 51) (Some x) (cond (eqb (byte_at s (at + 1)) 49) (Some y) None))
    by-digit b x y p q e z =
        if-kind s at (eqb (byte_at s (at + 1)) 51) (Some x) (cond (eqb (byte_at s (at + 1)) 49) (Some y) None)
        (λ f. subst (Stands s at) (sym p) (two b 51 e z (eqb-true (byte_at s (at + 1)) 51 f) (omega arith)))
        (λ f. if-kind s at (eqb (byte_at s (at + 1)) 49) (Some y) None
        (λ g. subst (Stands s at) (sym q) (two b 49 e z (eqb-true (byte_at s (at + 1)) 49 g) (omega arith))) (λ g. tt))

pub kind-two : (k : Kind) → length (kind_text k) ≡ 2
kind-two A3 = refl
kind-two A1 = refl
kind-two I3 = refl
kind-two I1 = refl

kind-here : (s : List ℕ) (at : ℕ) (k : Kind) → Stands s at (kind_text k) → kind_at s at ≡ Some k
kind-here s at k h = go k h
  where
    second : (b d : ℕ) → Stands s at (b ∷ d ∷ []) → d ≡ byte_at s (at + 1)
    second b d h = sym (ap (byte_at s) (index at) ∙ h.1.0.is)
      where
        index : (i : ℕ) → i + 1 ≡ suc i
        index i = omega arith

    go : (k : Kind) → Stands s at (kind_text k) → kind_at s at ≡ Some k
    go A3 h = sym (thirds 51 (Some A3) (Some A1) refl ∙ kind-A s at 65 51 (sym h.0.is) (second 65 51 h) refl)
    go A1 h = sym (octaves 49 (Some A3) (Some A1) (omega arith) refl ∙ kind-A s at 65 49 (sym h.0.is) (second 65 49 h) refl)
    go I3 h = sym (thirds 51 (Some I3) (Some I1) refl ∙ kind-I s at 73 51 (sym h.0.is) (second 73 51 h) refl)
    go I1 h = sym (octaves 49 (Some I3) (Some I1) (omega arith) refl ∙ kind-I s at 73 49 (sym h.0.is) (second 73 49 h) refl)

-- ---- requests
pub record RequestAt (s : List ℕ) (at : ℕ) (kind : Kind) (key : List ℕ) (bands : List Band) (next : ℕ) : Type 0 where
  pub stands : Stands s at (request_text kind key bands)
  pub ends : next ≡ at + length (request_text kind key bands)
  pub key-ok : KeyOk key
  pub bands-ok : BandsOk bands
  pub some : 1 ≤ length bands
  pub key-is : key ≡ take (length key) (drop (at + 3) s)

abbrev pub RequestGood : List ℕ → ℕ → Asked → Type 0
RequestGood s at Asked.nothing = Unit {0}
RequestGood s at (asked kind key bands next) = RequestAt s at kind key bands next

pub text-length : (kind : Kind) (key : List ℕ) (bands : List Band) → length (request_text kind key bands) ≡ 3 + (length key + length (others (map band_text bands)))
unfolding request_text line_text others
text-length kind key bands =
    length-append (kind_text kind) (9 ∷ (key ++ others (map band_text bands)))
    ∙ omega (arith, kind-two kind, length-append key (others (map band_text bands)))

module _ (s : List ℕ) (at : ℕ) (kind : Kind) (named_here : Stands s at (kind_text kind)) (tab : byte_at s (at + 2) ≡ 9) where
  abbrev n : ℕ
  n = key_span (drop (at + 3) s)

  three : at + 3 ≤ length s
  three = omega (arith, inside s (at + 2) (omega arith))

  room : at + 3 + n ≤ length s
  room = omega (arith, three, span-most (drop (at + 3) s), length-drop (at + 3) s)

  abbrev key : List ℕ
  key = take n (drop (at + 3) s)

  key-length : length key ≡ n
  key-length = length-take-le n (drop (at + 3) s) (span-most (drop (at + 3) s))

  bands-made : 1 ≤ n → n ≤ 32 → (b : Bands) → BandsGood s (at + 3 + n) [] b → RequestGood s at (with_bands kind key b)
  unfolding request_text line_text others
  bands-made lo hi broken g = tt
  bands-made lo hi (ended [] next) g = tt
  bands-made lo hi (ended (b ∷ bs) next) g =
      let all : List Band = b ∷ bs in
      let same : all ≡ g.new = g.all-is in
      let stands-bands : Stands s (at + 3 + n) (others (map band_text all)) = subst (λ (l : List Band). Stands s (at + 3 + n) (others (map band_text l))) (sym same) g.stands in
      record {
        stands = text-made all stands-bands;
        ends = omega (arith, g.ends, text-length kind key all, key-length, ap (λ (l : List Band). length (others (map band_text l))) same);
        key-ok = record { some = omega (arith, key-length); most = omega (arith, key-length); each = span_key (drop (at + 3) s) };
        bands-ok = subst BandsOk (sym same) g.ok;
        some = omega arith;
        key-is = ap (λ (k : ℕ). take k (drop (at + 3) s)) (sym key-length);
      }
    where
      text-made : (all : List Band) → Stands s (at + 3 + n) (others (map band_text all)) → Stands s at (request_text kind key all)
      text-made all h =
          joined s (kind_text kind) (9 ∷ (key ++ others (map band_text all))) at named_here (
            subst (λ (i : ℕ). Stood s i 9) (ap (λ (k : ℕ). at + k) (sym (kind-two kind))) (record { within = inside s (at + 2) (omega arith); is = tab }),
            joined s key (others (map band_text all)) (suc (at + length (kind_text kind)))
                (move s key (at + 3) (suc (at + length (kind_text kind))) (omega (arith, kind-two kind)) (part-stands n s (at + 3) room))
                (move s (others (map band_text all)) (at + 3 + n) (suc (at + length (kind_text kind)) + length key) (omega (arith, kind-two kind, key-length)) h),
          )

  key-made : RequestGood s at (with_key kind s (at + 3) n)
  unfolding with_key bands_at
  key-made = go (leb 1 n) (leb n 32) refl refl
    where
      go : (t u : Bool) → leb 1 n ≡ t → leb n 32 ≡ u
          → RequestGood s at (cond (t && u) (with_bands kind key (bands_from (suc (length s)) s (at + 3 + n) [])) Asked.nothing)
      go true true e f =
          bands-made (leb-true 1 n e) (leb-true n 32 f) (bands_from (suc (length s)) s (at + 3 + n) []) (bands-ok (suc (length s)) s (at + 3 + n) [])
      go true false e f = tt
      go false u e f = tt

pub request-ok : (s : List ℕ) (at : ℕ) → RequestGood s at (request_at s at)
unfolding request_at
request-ok s at = go (kind_at s at) (kind_ok s at)
  where
    go : (k : Option Kind) → KindGood s at k → RequestGood s at (with_kind k s at)
    go None h = tt
    go (Some kind) h = by-tab (eqb (byte_at s (at + 2)) 9) refl
      where
        by-tab : (t : Bool) → eqb (byte_at s (at + 2)) 9 ≡ t → RequestGood s at (cond t (with_key kind s (at + 3) (key_span (drop (at + 3) s))) Asked.nothing)
        by-tab true e = key-made s at kind h (eqb-true (byte_at s (at + 2)) 9 e)
        by-tab false e = tt

-- and where the text of a request stands, it is read
pub request-here : (s : List ℕ) (at : ℕ) (kind : Kind) (key : List ℕ) (bands : List Band) → KeyOk key → BandsOk bands → 1 ≤ length bands
    → Stands s at (request_text kind key bands) → request_at s at ≡ asked kind key bands (at + length (request_text kind key bands))
unfolding request_at with_key bands_at request_text line_text others
request-here s at kind key [] k ok some h = absurd (omega arith)
request-here s at kind key (b ∷ bs) k ok some h =
    ap (λ (x : Option Kind). with_kind x s at) (kind-here s at kind kind-part)
    ∙ ap (λ (t : Bool). cond t (with_key kind s (at + 3) (key_span (drop (at + 3) s))) Asked.nothing) (eq-eqb (byte_at s (at + 2)) 9 tab)
    ∙ ap (with_key kind s (at + 3)) span
    ∙ ap (λ (t : Bool). cond (t && leb (length key) 32) read Asked.nothing) (le-leb 1 (length key) k.some)
    ∙ ap (λ (t : Bool). cond t read Asked.nothing) (le-leb (length key) 32 k.most)
    ∙ ap (λ (l : List ℕ). with_bands kind l (bands_from (suc (length s)) s (at + 3 + length key) [])) (taken s key (at + 3) key-part)
    ∙ ap (with_bands kind key) (bands-here (suc (length s)) s (at + 3 + length key) [] (b ∷ bs) (omega arith) ok bands-part)
    ∙ ap (asked kind key (b ∷ bs)) (omega (arith, text-length kind key (b ∷ bs)))
  where
    parts : Stands s at (kind_text kind ++ (9 ∷ (key ++ others (map band_text (b ∷ bs)))))
    parts = h

    kind-part : Stands s at (kind_text kind)
    kind-part = front-part s (kind_text kind) (9 ∷ (key ++ others (map band_text (b ∷ bs)))) at parts

    rest : Stands s (at + 2) (9 ∷ (key ++ others (map band_text (b ∷ bs))))
    rest = move s (9 ∷ (key ++ others (map band_text (b ∷ bs)))) (at + length (kind_text kind)) (at + 2) (omega (arith, kind-two kind))
        (back-part s (kind_text kind) (9 ∷ (key ++ others (map band_text (b ∷ bs)))) at parts)

    tab : byte_at s (at + 2) ≡ 9
    tab = rest.0.is

    tail : Stands s (at + 3) (key ++ others (map band_text (b ∷ bs)))
    tail = move s (key ++ others (map band_text (b ∷ bs))) (suc (at + 2)) (at + 3) (omega arith) rest.1

    key-part : Stands s (at + 3) key
    key-part = front-part s key (others (map band_text (b ∷ bs))) (at + 3) tail

    bands-part : Stands s (at + 3 + length key) (others (map band_text (b ∷ bs)))
    bands-part = back-part s key (others (map band_text (b ∷ bs))) (at + 3) tail

    span : key_span (drop (at + 3) s) ≡ length key
    span = key_here key s (at + 3) k.each key-part (head_of s (at + 3 + length key) (map band_text (b ∷ bs)) bands-part).0

    read : Asked
    read = with_bands kind (take (length key) (drop (at + 3) s)) (bands_from (suc (length s)) s (at + 3 + length key) [])

-- ---- whole lines: "a line is accepted exactly when it is the text of some kind, key and bands, and then it means those"
pub record IsText (line : List ℕ) (kind : Kind) (key : List ℕ) (bands : List Band) : Type 0 where
  pub is : line ≡ request_text kind key bands
  pub key-ok : KeyOk key
  pub bands-ok : BandsOk bands
  pub some : 1 ≤ length bands
  pub short : length line ≤ 512

-- what a request found in front of a line's end says
stands-whole : (line t : List ℕ) → Stands line 0 t → length t ≡ length line → line ≡ t
stands-whole line t h e = sym (take_all (length t) line (omega arith)) ∙ taken line t 0 h

pub text_of : (line : List ℕ) (kind : Kind) (key : List ℕ) (bands : List Band) → request_of line ≡ request kind key bands → IsText line kind key bands
unfolding request_of
text_of line kind key bands e = go (request_at line 0) (request-ok line 0) e
  where
    one : (k k' : Kind) (l l' : List ℕ) (b b' : List Band) → request k l b ≡ request k' l' b' → (k ≡ k') × (l ≡ l') × (b ≡ b')
    one k k' l l' b b' e = ((cc), (cc), (cc))

    never : (k : Kind) (l : List ℕ) (b : List Band) → Request.none ≡ request k l b → ⊥
    never k l b e = clash cc

    go : (a : Asked) → RequestGood line 0 a → whole (length line) a ≡ request kind key bands → IsText line kind key bands
    go Asked.nothing g e = absurd (never kind key bands e)
    go (asked k l b next) g e = by_tests (eqb next (length line)) (leb next 512) refl refl e
      where
        by_tests : (t u : Bool) → eqb next (length line) ≡ t → leb next 512 ≡ u → cond (t && u) (request k l b) Request.none ≡ request kind key bands
            → IsText line kind key bands
        by_tests true true p q e =
            let same = one k kind l key b bands e in
            let fin : next ≡ length line = eqb-true next (length line) p in
            subst (λ (x : Kind). IsText line x key bands) same.0
            (subst (λ (x : List ℕ). IsText line k x bands) same.1
            (subst (λ (x : List Band). IsText line k l x) same.2
            (record {
              is = stands-whole line (request_text k l b) g.stands (omega (arith, g.ends));
              key-ok = g.key-ok;
              bands-ok = g.bands-ok;
              some = g.some;
              short = omega (arith, leb-true next 512 q);
            })))
        by_tests true false p q e = absurd (never kind key bands e)
        by_tests false u p q e = absurd (never kind key bands e)

pub means : (line : List ℕ) (kind : Kind) (key : List ℕ) (bands : List Band) → IsText line kind key bands → request_of line ≡ request kind key bands
unfolding request_of
means line kind key bands t =
    let text : List ℕ = request_text kind key bands in
    let h : Stands line 0 text = subst (λ (l : List ℕ). Stands l 0 text) (mathlib.Core.List.append-nil text ∙ sym t.is) (itself [] text [] 0 refl) in
    let n : ℕ = 0 + length text in
    let e : n ≡ length line = omega (arith, ap length t.is) in
    ap (whole (length line)) (request-here line 0 kind key bands t.key-ok t.bands-ok t.some h)
    ∙ ap (λ (b : Bool). cond (b && leb n 512) (request kind key bands) Request.none) (eq-eqb n (length line) e)
    ∙ ap (λ (b : Bool). cond b (request kind key bands) Request.none) (le-leb n 512 (omega (arith, t.short)))
