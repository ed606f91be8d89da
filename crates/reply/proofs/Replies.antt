-- What the code answers to what it read is what the request is answered; and the text of a reply. Assumes nothing.
use mathlib.Core.Path.{◌≡◌, refl, sym, ◌∙◌, ap, subst}
use mathlib.Core.Bool.{Bool, true, false, cond}
use mathlib.Core.List.{List, [], ◌∷◌, ◌++◌, map, append_assoc}
use Prim.Native.Nat.{ℕ, zero, suc, ◌+◌, ◌-◌, ◌≤◌, ◌<◌}
use native.Mathlib.Omega.{arith}
use borrow.Author.Tests.{le-leb, eqb-true}
use lib.Dec.{leb, eqb}
use lib.IntN.{ℤ}
use lib.ListN.{length, get_or, replicate, take, drop, length-append, length-drop}
use lib.Seq.{length-take-le}
use Rattle.quantity.specs.Quantities.{in_range, nought}
use Rattle.quantity.specs.declared.quantities.Tenths.{Tenths}
use Rattle.quantity.specs.declared.refusals.Refusal.{Refusal}
use Rattle.quantity.specs.declared.refusals.Refusal.TheVariants.{BandCount, BandRange}
use Rattle.quantity.specs.Refusals.{or_else}
use Rattle.curve.specs.Bands.{accepted}
use Rattle.laws.proofs.Ranges.{all_made}
use Rattle.kinds.proofs.Facts.{bands_most}
use Rattle.kinds.specs.declared.kinds.Kind.{Kind}
use Rattle.kinds.specs.declared.kinds.Kind.TheVariants.{A3, A1, I3, I1}
use Rattle.kinds.specs.Kinds.{bands_of}
use Rattle.rating.specs.Sheets.{rated_of}
use Rattle.request.specs.declared.bands.Gathered.{Gathered}
use Rattle.reply.specs.declared.requests.Reply.{Reply}
use Rattle.answer.specs.Texts.{others, line_text, kind_text, fields_of, rated_text}
use Rattle.answer.proofs.Writers.{none-length}
use Rattle.request.specs.Texts.{Band, request_text}
use Rattle.request.specs.Texts.Band.{missing, level}
use Rattle.request.specs.Reading.{Bands, bands_at, key_span, kind_at, Asked, with_bands, with_key, request_at}
use Rattle.request.specs.Reading.Bands.{broken, ended}
use Rattle.request.specs.Reading.Asked.{asked}
use Rattle.request.specs.Gathering.{value_of, fault_of, first_fault, marks_of, values_of, Holds, GatheredAt}
use Rattle.reply.specs.Answers.{set_of, judged_by, judged, judged_in, Clean, reply_to, reply_at, reply_text, Keyed}
use Rattle.request.proofs.Stands.{Stands, fits}
use Rattle.request.proofs.Wholes.{span-most, KindGood, kind_ok, kind-two, text-length, RequestGood, request-ok}
use Rattle.std.specs.Prelude.{Result, Err, Option, Some, None, IfSome}
use Rattle.rating.specs.declared.sheets.Sheet.{Sheet}

-- what the code gathered is judged as the bands are
pub judged-same : (kind : Kind) (bands : List Band) (r : Gathered) → Holds bands r → judged_in kind r ≡ judged kind bands
unfolding judged set_of
judged-same kind bands r h =
    ap (λ (n : ℕ). cond (eqb n (bands_of kind)) (judged_by r.fault set) (Err BandCount)) h.count
    ∙ go (eqb (length bands) (bands_of kind)) refl
  where
    set : Result Sheet Refusal
    set = rated_of kind (record { values = r.values; marks = r.marks; len = r.count })

    pick : Bool → Result Sheet Refusal
    pick t = elim t [ true ↦ judged_by (first_fault bands) (rated_of kind (record { values = values_of bands; marks = marks_of bands; len = length bands })) | false ↦ Err BandCount ]

    sets : length bands ≤ 16 → set ≡ rated_of kind (record { values = values_of bands; marks = marks_of bands; len = length bands })
    sets few =
        ap (λ (v : List Tenths). rated_of kind (record { values = v; marks = r.marks; len = r.count })) (h.values few)
        ∙ ap (λ (m : ℕ). rated_of kind (record { values = values_of bands; marks = m; len = r.count })) (h.marks few)
        ∙ ap (λ (n : ℕ). rated_of kind (record { values = values_of bands; marks = marks_of bands; len = n })) h.count

    go : (t : Bool) → eqb (length bands) (bands_of kind) ≡ t → cond (eqb (length bands) (bands_of kind)) (judged_by r.fault set) (Err BandCount)
        ≡ pick (eqb (length bands) (bands_of kind))
    go true e =
        rw e
        (ap (λ (o : Option Refusal). judged_by o set) h.fault
        ∙ ap (judged_by (first_fault bands)) (sets (omega (arith, eqb-true (length bands) (bands_of kind) e, bands_most kind))))
    go false e = rw e

-- bands that give no refusal are in range, so that the set of them is accepted
none_first : (z : ℤ) (o : Option Refusal) → or_else (fault_of (level true z)) o ≡ None → in_range z ≡ true
none_first z o e = go (in_range z) e
  where
    go : (t : Bool) → or_else (cond t None (Some BandRange)) o ≡ None → t ≡ true
    go true e = refl
    go false e = cc

none_after : (o p : Option Refusal) → or_else o p ≡ None → p ≡ None
none_after None p e = e
none_after (Some r) p e = cc

in-range-at : (bs : List Band) (rest : List Tenths) (i : ℕ) → first_fault bs ≡ None → i < length bs
    → in_range (get_or (map value_of bs ++ rest) i nought).0 ≡ true
unfolding first_fault
in-range-at [] rest i e h = absurd (omega arith)
in-range-at (missing ∷ bs) rest i e h = cc
in-range-at (level limit z ∷ bs) rest zero e h = none_first z (first_fault bs) e
in-range-at (level limit z ∷ bs) rest (suc i) e h = in-range-at bs rest i (none_after (fault_of (level limit z)) (first_fault bs) e) (omega arith)

pub clean_of : (kind : Kind) (b : Bands) (r : Gathered) → GatheredAt b (Some r) → Clean kind r
unfolding accepted values_of
clean_of kind broken r g = cc
clean_of kind (ended bands next) r g = λ f c.
    let h : Holds bands r = g.1 in
    let few : length bands ≤ 16 = omega (arith, h.count, c, bands_most kind) in
    all_made (λ i. in_range (get_or r.values i nought).0) (bands_of kind)
    (λ i q. ap (λ (v : List Tenths). in_range (get_or v i nought).0) (h.values few)
    ∙ in-range-at bands (replicate (16 - length bands) nought) i (sym h.fault ∙ f) (omega (arith, h.count, c, q)))

-- a key of 1 to 32 bytes, and bands behind it: the request that stands there, and what it is answered
module _ (s : List ℕ) (at : ℕ) (kind : Kind) (n : ℕ) (span : n ≡ key_span (drop (at + 3) s)) where
  by-key : 1 ≤ n → n ≤ 32
      → with_key kind s (at + 3) (key_span (drop (at + 3) s)) ≡ with_bands kind (take n (drop (at + 3) s)) (bands_at s (at + 3 + n))
  unfolding with_key
  by-key lo hi = rw (← span, le-leb 1 n lo, le-leb n 32 hi)

  size : n ≡ length (take n (drop (at + 3) s))
  size = sym (length-take-le n (drop (at + 3) s) (subst (λ (k : ℕ). k ≤ length (drop (at + 3) s)) (sym span) (span-most (drop (at + 3) s))))

  abbrev replied : ℕ → ℕ → Result Sheet Refusal → Option Reply
  replied next len rated = Some (record { next = next; kind = kind; key = at + 3; len = len; rated = rated })

  pub bands-read : 1 ≤ n → n ≤ 32 → (r : Gathered) → GatheredAt (bands_at s (at + 3 + n)) (Some r) → 1 ≤ r.count → r.next ≤ at + 512
      → (rated : Result Sheet Refusal) → rated ≡ judged_in kind r
      → replied r.next n rated ≡ reply_to at (with_key kind s (at + 3) (key_span (drop (at + 3) s)))
  unfolding reply_to
  bands-read lo hi r g c h rated e = go (bands_at s (at + 3 + n)) g ∙ sym (ap (reply_to at) (by-key lo hi))
    where
      go : (b : Bands) → GatheredAt b (Some r) → replied r.next n rated ≡ reply_to at (with_bands kind (take n (drop (at + 3) s)) b)
      go broken g = cc
      go (ended [] next) g = absurd (omega (arith, g.1.count))
      go (ended (b ∷ bs) next) g =
          ap (λ (k : ℕ). replied k n rated) g.0 ∙ ap (λ (k : ℕ). replied next k rated) size
          ∙ ap (replied next (length (take n (drop (at + 3) s)))) (e ∙ judged-same kind (b ∷ bs) r g.1)
          ∙ sym (rw (le-leb next (at + 512) (omega (arith, g.0))))

-- a kind stands within the line
pub kind-inside : (s : List ℕ) (at : ℕ) (k : Kind) → kind_at s at ≡ Some k → at + 1 < length s
kind-inside s at k e = go k (subst (KindGood s at) e (kind_ok s at))
  where
    go : (k : Kind) → Stands s at (kind_text k) → at + 1 < length s
    go A3 h = omega (arith, h.1.0.within)
    go A1 h = omega (arith, h.1.0.within)
    go I3 h = omega (arith, h.1.0.within)
    go I1 h = omega (arith, h.1.0.within)

-- the key of a reply stands within the line
pub reply_keyed : (s : List ℕ) (at : ℕ) → IfSome (reply_at s at) (Keyed s)
unfolding reply_at reply_to
reply_keyed s at = go (request_at s at) (request-ok s at)
  where
    go : (a : Asked) → RequestGood s at a → IfSome (reply_to at a) (Keyed s)
    go Asked.nothing g = tt
    go (asked kind key bands next) g = by-test (leb next (at + 512))
      where
        within : at + 3 + length key ≤ length s
        within = omega (arith, fits s (request_text kind key bands) at (omega (arith, text-length kind key bands)) g.stands, text-length kind key bands)

        by-test : (t : Bool) → IfSome (cond t (Some (record { next = next; kind = kind; key = at + 3; len = length key; rated = judged kind bands })) None) (Keyed s)
        by-test true = record { within = within; most = g.key-ok.most }
        by-test false = tt

-- the text of a reply, and how long it is
pub reply-none : (s : List ℕ) → length (reply_text s None) ≡ 7
unfolding reply_text
reply-none s = sym none-length

module _ (s : List ℕ) (r : Reply) where
  abbrev head_text : List ℕ
  head_text = kind_text r.kind ++ (9 ∷ take r.len (drop r.key s))

  pub reply-some : reply_text s (Some r) ≡ head_text ++ others (fields_of r.rated)
  unfolding reply_text rated_text line_text others
  reply-some = sym (append_assoc (kind_text r.kind) (9 ∷ take r.len (drop r.key s)) (others (fields_of r.rated)))

  pub head-length : Keyed s r → length head_text ≡ 3 + r.len
  head-length k =
      length-append (kind_text r.kind) (9 ∷ take r.len (drop r.key s))
      ∙ omega (arith, kind-two r.kind, length-take-le r.len (drop r.key s) (omega (arith, k.within, length-drop r.key s)))

  pub reply-length : Keyed s r → length (reply_text s (Some r)) ≡ 3 + r.len + length (others (fields_of r.rated))
  reply-length k = ap length reply-some ∙ length-append head_text (others (fields_of r.rated)) ∙ ap (λ (n : ℕ). n + length (others (fields_of r.rated))) (head-length k)

pub ruleset reply_lengths = (reply-none, reply-length)
