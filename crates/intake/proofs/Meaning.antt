-- What the definitions mean, in document 01's words: the nearest unit of a float, and that what was taken is in range. Assumes
-- nothing.
use mathlib.Core.Path.{◌≡◌, refl, ◌∙◌, ap}
use mathlib.Core.Bool.{Bool, true, false, cond, ◌&&◌}
use Prim.Native.Nat.{ℕ, ◌*◌, ◌≤◌}
use native.Mathlib.Omega.{arith}
use borrow.Author.Tests.{leb-true}
use lib.Dec.{leb}
use lib.IntN.{ℤ, pos, negsuc}
use lib.Ieee.{Float, nan, inf, fin, up, down}
use lib.Ieee.Fits.{down_pos}
use Rattle.laws.specs.Parts.{P}
use Rattle.quantity.specs.Quantities.{in_range}
use Rattle.quantity.specs.declared.quantities.Hundredths.{Hundredths}
use Rattle.quantity.specs.declared.quantities.Reading.{Reading}
use Rattle.quantity.specs.declared.quantities.Reading.TheVariants.{Level, Limit, Missing}
use Rattle.quantity.specs.declared.refusals.Refusal.TheVariants.{BandRange, TimeRange}
use Rattle.intake.specs.Nearest.{nearest}
use Rattle.intake.specs.Taken.{taken, float_taken, taken_of}
use Rattle.intake.specs.Times.{in_time, time_of}
use Rattle.intake.proofs.Nearest.{IsNearest, is-nearest, nearest-unique}
use Rattle.laws.proofs.Tests.{clash}
use Rattle.std.specs.Prelude.{Ok, Err}
use Rattle.intake.specs.declared.singles.Taken.{Taken}

-- ---- "the tenth nearest its exact binary value, a tie going to the greater": 2 t - 1 <= 2 scale value < 2 t + 1, and no other t

pub float-nearest : (scale : ℕ) (s : Bool) (m : ℕ) (e : ℤ) → IsNearest s (scale * (m * up e)) (down e) (nearest scale s m e)
float-nearest scale s m e = is-nearest s (scale * (m * up e)) (down e) (down_pos e)

pub float-only : (scale : ℕ) (s : Bool) (m : ℕ) (e t : ℤ) → IsNearest s (scale * (m * up e)) (down e) t → t ≡ nearest scale s m e
float-only scale s m e t h = nearest-unique s (scale * (m * up e)) (down e) t (down_pos e) h

-- ---- what was taken is in range

by-range : (b limit : Bool) (t : ℤ) (x : Taken) → cond b (Ok (taken t limit)) (Err BandRange) ≡ Ok x → in_range t ≡ b → in_range x.value.0 ≡ true
by-range true limit t x e f = let g : x ≡ taken t limit = cc in ap (λ (y : Taken). in_range y.value.0) g ∙ f
by-range false limit t x e f = clash cc

float-range : (limit : Bool) (x : Float) (y : Taken) → float_taken limit x ≡ Ok y → in_range y.value.0 ≡ true
unfolding float_taken
float-range limit nan y e = clash cc
float-range limit (inf s) y e = clash cc
float-range limit (fin s m k) y e = let t = nearest 10 s m k in by-range (in_range t) limit t y e refl

pub taken-range : (r : Reading) (x : Taken) → taken_of r ≡ Ok x → in_range x.value.0 ≡ true
unfolding taken_of
taken-range (Level x) y e = float-range false x y e
taken-range (Limit x) y e = float-range true x y e
taken-range Missing y e = clash cc

by-time : (b : Bool) (t : ℤ) (h : Hundredths) → cond b (Ok (record { 0 = P t })) (Err TimeRange) ≡ Ok h
    → (b ≡ true) × (P t ≡ h.0)
by-time true t h e = (refl, cc)
by-time false t h e = clash cc

time-bounds : (t : ℤ) → in_time t ≡ true → (10 ≤ P t) × (P t ≤ 2000)
unfolding in_time
time-bounds (pos n) e = go (leb 10 n) (leb n 2000) refl refl e
  where
    go : (a b : Bool) → leb 10 n ≡ a → leb n 2000 ≡ b → a && b ≡ true → (10 ≤ n) × (n ≤ 2000)
    go true true f g h = (leb-true 10 n f, leb-true n 2000 g)
    go true false f g h = clash cc
    go false b f g h = clash cc
time-bounds (negsuc n) e = clash cc

pub time-range : (x : Float) (h : Hundredths) → time_of x ≡ Ok h → (10 ≤ h.0) × (h.0 ≤ 2000)
unfolding time_of
time-range nan h e = clash cc
time-range (inf s) h e = clash cc
time-range (fin s m k) h e =
    let t = nearest 100 s m k in
    let r = by-time (in_time t) t h e in
    let b = time-bounds t r.0 in
    (omega (arith, r.1), omega (arith, r.1))
