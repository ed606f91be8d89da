-- No answer line is longer than 64 bytes with its line feed, so an output of 64 has room for any. Assumes nothing.
use mathlib.Core.Path.{◌≡◌, refl}
use mathlib.Core.Bool.{Bool, true, false}
use mathlib.Core.List.{List, ◌∷◌}
use Prim.Native.Nat.{ℕ, suc, ◌^◌, ◌≤◌, ◌<◌}
use native.Mathlib.Omega.{arith}
use lib.Dec.{eqb}
use lib.IntN.{ℤ, pos, negsuc}
use lib.ListN.{length, length-append}
use Rattle.laws.specs.Parts.{P, N}
use Rattle.quantity.specs.Quantities.{band_of}
use Rattle.quantity.specs.Refusals.{number_of}
use Rattle.quantity.specs.declared.quantities.BandSet.{BandSet}
use Rattle.quantity.specs.declared.refusals.Refusal.{Refusal}
use Rattle.quantity.specs.declared.refusals.Refusal.TheVariants.{BandCount, BandRange}
use Rattle.kinds.specs.declared.kinds.Kind.{Kind}
use Rattle.kinds.specs.Kinds.{bands_of}
use Rattle.rating.specs.declared.sheets.Sheet.{Sheet}
use Rattle.curve.specs.Bands.{accepted}
use Rattle.rating.specs.Sheets.{asked, sheet_of, rated_of, term_of}
use Rattle.rating.specs.Bounds.{Small, SmallSheet}
use Rattle.rating.proofs.Small.{shifts-most, rating-near, sheet-small}
use Rattle.answer.specs.Texts.{others, line_text, number_text, term_text, kind_text, fields_of, rated_text}
use Rattle.answer.proofs.Decimals.{digits-most}
use Rattle.answer.proofs.Writers.{number_small, none-length, others-length, sheet-length, refused-length}
use Rattle.request.specs.Texts.{Band}
use Rattle.request.specs.Reading.{Request, request_of}
use Rattle.request.specs.Reading.Request.{none, request}
use Rattle.request.specs.Gathering.{first_fault}
use Rattle.request.proofs.Wholes.{text_of, kind-two}
use Rattle.reply.specs.Answers.{set_of, judged_by, judged, answer_to, answer_of}
use Rattle.std.specs.Prelude.{Result, Ok, Err, Option, Some, None}
use Rattle.quantity.specs.declared.quantities.Decibels.{Decibels}

-- a number of k digits, with its minus
number-most : (k : ℕ) (z : ℤ) → P z < 10 ^ suc k → N z < 10 ^ suc k → length (number_text z) ≤ suc (suc k)
unfolding number_text
number-most k (pos n) p q = omega (arith, digits-most k n p)
number-most k (negsuc n) p q = omega (arith, digits-most k (suc n) q)

term-most : (t : Option Decibels) → Small (term_of t) → length (term_text t) ≤ 6
unfolding term_text
term-most (Some d) h = number-most 4 d.0 (omega (arith, h.0)) (omega (arith, h.1))
term-most None h = omega arith

-- what follows the key
refused-most : (r : Refusal) → length (others (fields_of (Err r))) ≤ 29
refused-most r = omega (arith, refused-length (number_of r), digits-most 1 (number_of r) (number_small r))

sheet-most : (k : Kind) (s : BandSet) → accepted s (bands_of k) ≡ true → length (others (fields_of (Ok (sheet_of k s)))) ≤ 29
unfolding sheet_of
sheet-most k s acc =
    let sheet : Sheet = sheet_of k s in
    let near : (P sheet.rating.0 < 500) × (N sheet.rating.0 < 500) = rating-near k s acc in
    let small : SmallSheet sheet = sheet-small k s acc in
    omega (
      arith,
      sheet-length sheet,
      number-most 2 sheet.rating.0 (omega (arith, near.0)) (omega (arith, near.1)),
      number-most 4 sheet.first.0 (omega (arith, small.first.0)) (omega (arith, small.first.1)),
      term-most sheet.second small.second,
      digits-most 2 sheet.shifts (omega (arith, shifts-most k (band_of s))),
    )

rated-most : (k : Kind) (s : BandSet) → length (others (fields_of (rated_of k s))) ≤ 29
unfolding rated_of
rated-most k s = go (eqb s.len (bands_of k)) (accepted s (bands_of k)) refl
  where
    go : (a b : Bool) → accepted s (bands_of k) ≡ b
        → length (others (fields_of (asked a (asked b (Ok (sheet_of k s)) BandRange) BandCount))) ≤ 29
    go true true e = sheet-most k s e
    go true false e = refused-most BandRange
    go false b e = refused-most BandCount

judged-most : (k : Kind) (bands : List Band) → length (others (fields_of (judged k bands))) ≤ 29
unfolding judged
judged-most k bands = go (eqb (length bands) (bands_of k))
  where
    by : (o : Option Refusal) (r : Result Sheet Refusal) → length (others (fields_of r)) ≤ 29 → length (others (fields_of (judged_by o r))) ≤ 29
    by None r h = h
    by (Some q) r h = refused-most q

    go : (t : Bool) → length (others (fields_of (elim t [ true ↦ judged_by (first_fault bands) (rated_of k (set_of bands)) | false ↦ Err BandCount ]))) ≤ 29
    go true = by (first_fault bands) (rated_of k (set_of bands)) (rated-most k (set_of bands))
    go false = refused-most BandCount

-- every answer
pub answer-short : (line : List ℕ) → length (answer_of line) ≤ 64
unfolding answer_of rated_text line_text
answer-short line = go (request_of line) refl
  where
    go : (r : Request) → request_of line ≡ r → length (answer_to r) ≤ 64
    go none e = omega (arith, none-length)
    go (request kind key bands) e =
        omega (
          arith,
          length-append (kind_text kind) (others (key ∷ fields_of (judged kind bands))),
          kind-two kind,
          others-length key (fields_of (judged kind bands)),
          (text_of line kind key bands e).key-ok.most,
          judged-most kind bands,
        )
