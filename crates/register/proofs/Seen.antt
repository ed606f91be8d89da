-- What a call comes to, by the tests in their order: refused, the same again, or entered, each with the facts that led there.
-- Assumes nothing.
use mathlib.Core.Path.{◌≡◌, refl, ◌∙◌}
use mathlib.Core.Bool.{Bool, true, false}
use Prim.Native.Nat.{◌≤◌, ◌<◌}
use borrow.Author.Tests.{ltb-true, ltb-false}
use lib.Dec.{ltb}
use Rattle.quantity.specs.Keys.{key_shape}
use Rattle.quantity.specs.Quantities.{priced}
use Rattle.quantity.specs.declared.refusals.Refusal.{Refusal}
use Rattle.quantity.specs.declared.refusals.Refusal.TheVariants.{NotARequest, PriceRange, OtherBands, RegisterFull, RegisterDamaged}
use Rattle.rating.specs.declared.sheets.Sheet.{Sheet}
use Rattle.rating.specs.Sheets.{rated_of}
use Rattle.register.specs.declared.registers.Register.{Register}
use Rattle.entry.specs.Entries.{Call, entry_of}
use Rattle.register.specs.Registers.{sound, known, held, place_due, due_of}
use Rattle.register.specs.Registers.Due.{refuse, repeat, enter}
use Rattle.register.proofs.Dues.{place-held, place-known, place-free, place-full, due-damaged, due-shape, due-refused, due-price, due-placed}
use Rattle.std.specs.Prelude.{Result, Ok, Err}

-- what is known of a call that is rated and charged
pub record Taken (r : Register) (x : Call) (sheet : Sheet) : Type 0 where
  pub whole : sound r ≡ true
  pub shape : key_shape x.key ≡ true
  pub rated : rated_of x.kind x.set ≡ Ok sheet
  pub price : priced x.price ≡ true

pub placed : (r : Register) (x : Call) (sheet : Sheet) → Taken r x sheet → due_of r x ≡ place_due r (entry_of x) sheet
placed r x sheet t = due-placed r x t.whole t.shape sheet t.rated t.price

-- why a call is refused, in the order of the tests
pub data Why (r : Register) (x : Call) : Refusal → Type 0 where
  damaged : sound r ≡ false → Why r x RegisterDamaged
  misshapen : sound r ≡ true → key_shape x.key ≡ false → Why r x NotARequest
  unrated : {refusal : Refusal} → sound r ≡ true → key_shape x.key ≡ true → rated_of x.kind x.set ≡ Err refusal → Why r x refusal
  dear : {sheet : Sheet} → sound r ≡ true → key_shape x.key ≡ true → rated_of x.kind x.set ≡ Ok sheet → priced x.price ≡ false
      → Why r x PriceRange
  other : {sheet : Sheet} → Taken r x sheet → held r (entry_of x) ≡ false → known r (entry_of x) ≡ true → Why r x OtherBands
  crowded : {sheet : Sheet} → Taken r x sheet → known r (entry_of x) ≡ false → 512 ≤ r.count → Why r x RegisterFull

-- the three ways, with what is known on each
pub data Seen (r : Register) (x : Call) : Type 0 where
  turned : (refusal : Refusal) → Why r x refusal → due_of r x ≡ refuse refusal → Seen r x
  retried : (sheet : Sheet) → Taken r x sheet → held r (entry_of x) ≡ true → due_of r x ≡ repeat sheet → Seen r x
  added : (sheet : Sheet) → Taken r x sheet → known r (entry_of x) ≡ false → r.count < 512 → due_of r x ≡ enter sheet → Seen r x

pub seen : (r : Register) (x : Call) → Seen r x
seen r x = by-sound (sound r) refl
  where
    by-room : (sheet : Sheet) → Taken r x sheet → held r (entry_of x) ≡ false → known r (entry_of x) ≡ false → (b : Bool) → ltb r.count 512 ≡ b
        → Seen r x
    by-room sheet t h k true l = added sheet t k (ltb-true r.count 512 l) (placed r x sheet t ∙ place-free r (entry_of x) sheet h k l)
    by-room sheet t h k false l = turned RegisterFull (crowded t k (ltb-false r.count 512 l)) (placed r x sheet t ∙ place-full r (entry_of x) sheet h k l)

    by-known : (sheet : Sheet) → Taken r x sheet → held r (entry_of x) ≡ false → (b : Bool) → known r (entry_of x) ≡ b → Seen r x
    by-known sheet t h true k = turned OtherBands (other t h k) (placed r x sheet t ∙ place-known r (entry_of x) sheet h k)
    by-known sheet t h false k = by-room sheet t h k (ltb r.count 512) refl

    by-held : (sheet : Sheet) → Taken r x sheet → (b : Bool) → held r (entry_of x) ≡ b → Seen r x
    by-held sheet t true h = retried sheet t h (placed r x sheet t ∙ place-held r (entry_of x) sheet h)
    by-held sheet t false h = by-known sheet t h (known r (entry_of x)) refl

    by-price : (sheet : Sheet) → sound r ≡ true → key_shape x.key ≡ true → rated_of x.kind x.set ≡ Ok sheet → (b : Bool)
        → priced x.price ≡ b → Seen r x
    by-price sheet s k e true p =
        by-held sheet (record { whole = s; shape = k; rated = e; price = p }) (held r (entry_of x)) refl
    by-price sheet s k e false p = turned PriceRange (dear s k e p) (due-price r x s k sheet e p)

    by-rated : sound r ≡ true → key_shape x.key ≡ true → (d : Result Sheet Refusal) → rated_of x.kind x.set ≡ d → Seen r x
    by-rated s k (Ok sheet) e = by-price sheet s k e (priced x.price) refl
    by-rated s k (Err refusal) e = turned refusal (unrated s k e) (due-refused r x s k refusal e)

    by_shape : sound r ≡ true → (b : Bool) → key_shape x.key ≡ b → Seen r x
    by_shape s true k = by-rated s k (rated_of x.kind x.set) refl
    by_shape s false k = turned NotARequest (misshapen s k) (due-shape r x s k)

    by-sound : (b : Bool) → sound r ≡ b → Seen r x
    by-sound true s = by_shape s (key_shape x.key) refl
    by-sound false s = turned RegisterDamaged (damaged s) (due-damaged r x s)
