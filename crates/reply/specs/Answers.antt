-- Document 01, "Request and answer lines" and "Refusal numbers": what a request is answered.
use Rattle.std.specs.Prelude.{true, false, cond, List, ◌≡◌, ℕ, ◌+◌, ◌≤◌, leb, eqb, length, take, drop, Option, None, Some, Result, Err}
use Rattle.quantity.specs.declared.quantities.BandSet.{BandSet}
use Rattle.quantity.specs.declared.refusals.Refusal.{Refusal}
use Rattle.quantity.specs.declared.refusals.Refusal.TheVariants.{BandCount}
use Rattle.kinds.specs.declared.kinds.Kind.{Kind}
use Rattle.kinds.specs.Kinds.{bands_of}
use Rattle.rating.specs.declared.sheets.Sheet.{Sheet}
use Rattle.curve.specs.Bands.{accepted}
use Rattle.rating.specs.Sheets.{rated_of}
use Rattle.answer.specs.Texts.{rated_text, no_request_text}
use Rattle.request.specs.declared.bands.Gathered.{Gathered}
use Rattle.request.specs.Texts.{Band}
use Rattle.request.specs.Reading.{Asked, Request, request_at, request_of}
use Rattle.request.specs.Reading.Asked.{asked}
use Rattle.request.specs.Reading.Request.{none, request}
use Rattle.request.specs.Gathering.{first_fault, marks_of, values_of}
use Rattle.reply.specs.declared.requests.Reply.{Reply}

-- the set of at most 16 bands
unfoldable pub set_of : List Band → BandSet
set_of bands = record { values = values_of bands; marks = marks_of bands; len = length bands }

-- "Order: 11, 12, 1; then bands from the lowest"; then the sheet
abbrev pub judged_by : Option Refusal → Result Sheet Refusal → Result Sheet Refusal
judged_by None rated = rated
judged_by (Some r) rated = Err r

unfoldable pub judged : Kind → List Band → Result Sheet Refusal
judged kind bands = elim (eqb (length bands) (bands_of kind)) [
  | true ↦ judged_by (first_fault bands) (rated_of kind (set_of bands))
  | false ↦ Err BandCount
]

-- the answer of a line, whatever it is
abbrev pub answer_to : Request → List ℕ
answer_to none = no_request_text
answer_to (request kind key bands) = rated_text kind key (judged kind bands)

unfoldable pub answer_of : List ℕ → List ℕ
answer_of line = answer_to (request_of line)

-- the same where it stands in a longer input, of which a block call answers line after line: the position after the request,
-- where its key stands, and what it is answered; none where no request stands ("at most 512 bytes")
unfoldable pub reply_to : ℕ → Asked → Option Reply
reply_to at Asked.nothing = None
reply_to at (asked kind key bands next) =
    cond (leb next (at + 512)) (Some (record { next = next; kind = kind; key = at + 3; len = length key; rated = judged kind bands })) None

unfoldable pub reply_at : List ℕ → ℕ → Option Reply
reply_at s at = reply_to at (request_at s at)

-- and the text of that
unfoldable pub reply_text : List ℕ → Option Reply → List ℕ
reply_text s None = no_request_text
reply_text s (Some r) = rated_text r.kind (take r.len (drop r.key s)) r.rated

-- ---- What the code carries between its parts.

-- what it makes of the bands that it gathered
abbrev pub judged_in : Kind → Gathered → Result Sheet Refusal
judged_in kind r =
    cond (eqb r.count (bands_of kind))
    (judged_by r.fault (rated_of kind (record { values = r.values; marks = r.marks; len = r.count })))
    (Err BandCount)

-- where none of them gives a refusal, all are in range
abbrev pub Clean : Kind → Gathered → Type 0
Clean kind r =
    r.fault ≡ None → r.count ≡ bands_of kind → accepted (record { values = r.values; marks = r.marks; len = r.count }) (bands_of kind) ≡ true

-- the key of a reply stands within the line
pub record Keyed (s : List ℕ) (r : Reply) : Type 0 where
  pub within : r.key + r.len ≤ length s
  pub most : r.len ≤ 32
