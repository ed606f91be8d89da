-- `energy::lent::tables_of_many` meets its contract. The invariant: the numbers so far are those of F. Assumes nothing.
use mathlib.Core.Path.{◌≡◌, refl, sym, ◌∙◌, ap}
use mathlib.Core.List.{List, ◌++◌}
use native.Mathlib.Omega.{arith}
use Prim.Native.Nat.{ℕ, ◌-◌, ◌/◌}
use lib.ListN.{length, take, get_or, get_or-append, length-append}
use lib.Seq.{get_or-take, length-take-le}
use Rattle.laws.proofs.Lists.{Agreed, agreed-set}
use Rattle.energy.specs.Energies.{F}
use Rattle.energy.proofs.Lists.{energies, levels, starts}
use Rattle.energy.proofs.Laid.{laid, lows, laid-powers, widened_is}
use Rattle.energy.proofs.Scaled.{F-tenth}
use Rattle.energy.proofs.lent.tables_of_many.Goals as goal

-- the first hundred numbers, and behind them what was there
hundred : (front rest : List ℕ) → front ≡ take 100 laid → length rest ≡ 1018 → Agreed 0 F 1118 (front ++ rest) 100
unfolding energies levels starts lows
hundred front rest e h =
    let n : length front ≡ 100 = ap length e in
    record {
      within = omega arith;
      whole = length-append front rest ∙ omega arith;
      same = λ j k.
          get_or-append front rest 0 j (omega arith) ∙ ap (λ (l : List ℕ). get_or l j 0) e ∙ get_or-take 100 laid j 0 k ∙ laid-powers j k;
    }

pub loop-i-init : goal.loop-i-init
unfolding energies levels starts lows
loop-i-init c = hundred _ _ c.copy_from_slice.ensures.after refl

pub loop-i-preserved : goal.loop-i-preserved
loop-i-preserved c =
    let l = c.loop-i in
    let a = l.invariant in
    agreed-set 0 F 1118 l.out l.i _ (omega arith)
    (ap (λ (x : ℕ). x / 10) (a.same (l.i - 100) (omega arith)) ∙ sym (F-tenth (l.i - 100)) ∙ ap F (omega arith)) a

pub returns : goal.returns
unfolding energies levels starts lows
returns c =
    let l = c.loop-i in
    let a = l.invariant in
    widened_is (take 901 l.out) c.copy_from_slice-2.new.self _ (length-take-le 901 l.out (omega (arith, a.whole)))
    (λ d h. get_or-take 901 l.out d 0 h ∙ a.same d (omega arith)) c.copy_from_slice-2.ensures.after
