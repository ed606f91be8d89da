-- The ways out of the rating call: whether a set can be rated, by the two tests, and the answers that follow. Assumes nothing.
use mathlib.Core.Path.{◌≡◌, refl, sym, ◌∙◌, ap}
use mathlib.Core.Bool.{true}
use Prim.Native.Nat.{ℕ}
use borrow.Author.Tests.{eq-eqb, ne_eqb}
use Rattle.quantity.specs.declared.quantities.BandSet.{BandSet}
use Rattle.quantity.specs.declared.refusals.Refusal.TheVariants.{BandCount}
use Rattle.curve.specs.Bands.{accepted}
use Rattle.kinds.specs.declared.kinds.Kind.{Kind}
use Rattle.kinds.specs.Kinds.{bands_of}
use Rattle.rating.specs.declared.sheets.Sheet.{Sheet}
use Rattle.rating.specs.Sheets.{rated_of, sheet_of}
use Rattle.std.specs.Prelude.{Ok, Err}

-- a set of another length is refused for it, and a set in order has its sheet
module _ (k : Kind) (s : BandSet) (m : ℕ) where
  pub wrong-count : m ≡ bands_of k → (s.len ≡ m → ⊥) → Err BandCount ≡ rated_of k s
  unfolding rated_of
  wrong-count e f = rw (ne_eqb s.len (bands_of k) (λ h. f (h ∙ sym e))) refl

  pub in_order : (r : Sheet) → m ≡ bands_of k → s.len ≡ m → accepted s m ≡ true → r ≡ sheet_of k s → Ok r ≡ rated_of k s
  unfolding rated_of
  in_order r e h f g = rw (eq-eqb s.len (bands_of k) (h ∙ e), ← e, f) (ap Ok g)
