-- What makes an entry sound: bands of a kind are rated where they are in range; and what a sound entry is. Assumes nothing.
use mathlib.Core.Path.{◌≡◌, refl}
use mathlib.Core.Bool.{Bool, true, false, ◌&&◌}
use Prim.Native.Nat.{◌≤◌}
use borrow.Author.Tests.{leb-true, eq-eqb}
use lib.Dec.{leb}
use Rattle.laws.proofs.Tests.{both}
use Rattle.quantity.specs.Keys.{key_shape}
use Rattle.quantity.specs.Quantities.{priced}
use Rattle.quantity.specs.declared.refusals.Refusal.{Refusal}
use Rattle.curve.specs.Bands.{accepted}
use Rattle.kinds.specs.declared.kinds.Kind.{Kind}
use Rattle.kinds.specs.Kinds.{bands_of, kind_of}
use Rattle.rating.specs.declared.sheets.Sheet.{Sheet}
use Rattle.rating.specs.Sheets.{rated_of, sheet_of, asked}
use Rattle.entry.specs.declared.entries.Entry.{Entry}
use Rattle.entry.specs.Entries.{key_of, set_of, is_sheet, ratable, keyed, entry_ok}
use Rattle.std.specs.Prelude.{Ok, Some}

-- bands that are as many as the kind has are rated where they are in range
rated-by : (b : Bool) (s : Sheet) (f : Refusal) → b ≡ is_sheet (asked b (Ok s) f)
rated-by true s f = refl
rated-by false s f = refl

pub ratable_as : (e : Entry) (k : Kind) → accepted (set_of k e) (bands_of k) ≡ ratable (Some k) e
unfolding rated_of
ratable_as e k = rw (eq-eqb (bands_of k) (bands_of k) refl) (rated-by (accepted (set_of k e) (bands_of k)) (sheet_of k (set_of k e)) _)

module _ (e : Entry) where
  -- what a sound entry is
  pub ok-short : entry_ok e ≡ true → e.length ≤ 32
  unfolding entry_ok
  ok-short h =
      let a = both (priced e.price.0) (ratable (kind_of e.kind) e && keyed e) h in
      let b = both (ratable (kind_of e.kind) e) (keyed e) a.1 in
      leb-true e.length 32 (both (leb e.length 32) (key_shape (key_of e)) b.1).0

  pub ok-priced : entry_ok e ≡ true → e.price.0 ≤ 1000000
  unfolding entry_ok priced
  ok-priced h = leb-true e.price.0 1000000 (both (priced e.price.0) (ratable (kind_of e.kind) e && keyed e) h).0
