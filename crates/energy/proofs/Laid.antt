-- The tables that are lent, for one set and for many, are what is asked of them. Assumes nothing.
use mathlib.Core.Path.{◌≡◌, refl, sym, subst, ◌∙◌, ap}
use mathlib.Core.Bool.{Bool, true, false}
use mathlib.Core.List.{List, [], ◌∷◌, ◌++◌}
use Prim.Native.Nat.{ℕ, zero, suc, ◌+◌, ◌%◌, ◌≤◌, ◌<◌}
use native.Mathlib.Nat.{add_assoc}
use native.Mathlib.Omega.{arith}
use lib.Dec.{lit≤}
use lib.ListN.{length, drop, get_or, get_or-append, length-append}
use lib.Seq.{get_or-append-add, get_or-drop}
use Rattle.std.proofs.lemmas.List.{get_or-append_right}
use Rattle.energy.specs.Energies.{u, Summed}
use Rattle.energy.specs.Tabled.{Powers, Stepped, Tabled, reach, start_in, missed_by, missed_at, stretch_of}
use Rattle.energy.proofs.Lists.{energies, levels, starts}
use Rattle.energy.proofs.Scaled.{entry-is}
use Rattle.energy.proofs.Starts.{start_of, stretch_among, start_fits, start-least, start-most, low-passed, low-missed}

-- the thresholds by their low 32 bits
unfoldable pub lows : List ℕ → List ℕ
lows [] = []
lows (h ∷ hs) = (h % 4294967296) ∷ lows hs

low-at : (hs : List ℕ) (j : ℕ) → get_or (lows hs) j 0 ≡ get_or hs j 0 % 4294967296
unfolding lows
low-at [] j = refl
low-at (h ∷ hs) zero = refl
low-at (h ∷ hs) (suc j) = low-at hs j

-- tables with the thresholds and the starts behind F
module _ (many : Bool) (table : List ℕ) (long : reach many + 217 ≤ length table)
    (thresholds : (j : ℕ) → j < 123 → get_or table (reach many + j) 0 ≡ get_or levels j 0 % 4294967296)
    (places : (i : ℕ) → i < 94 → get_or table (reach many + 123 + i) 0 ≡ get_or starts i 0) where
  start_is : (S : ℕ) → Summed S → start_of S ≡ start_in many table S
  start_is S h = sym (places (stretch_of S) (stretch_among S h))

  threshold : (S i : ℕ) → Summed S → i < 3 → get_or table (reach many + start_of S + i) 0 ≡ get_or levels (start_of S + i) 0 % 4294967296
  threshold S i h l =
      ap (λ (n : ℕ). get_or table n 0) (add_assoc (reach many) (start_of S) i)
      ∙ thresholds (start_of S + i) (omega (arith, start_fits S h))

  stepped : Stepped many table
  stepped = record {
    long = long;
    fits = λ S h. subst (λ (k : ℕ). k ≤ 120) (start_is S h) (start_fits S h);
    least = λ S h. subst (λ (k : ℕ). k ≤ u S) (start_is S h) (start-least S h);
    most = λ S h. subst (λ (k : ℕ). u S ≤ k + 3) (start_is S h) (start-most S h);
    passed = λ S i h l. subst (λ (k : ℕ). k + i < u S → missed_at S table (reach many + k + i) ≡ 0) (start_is S h)
        (λ p. ap (missed_by S) (threshold S i h l) ∙ low-passed S h i l p);
    missed = λ S i h l. subst (λ (k : ℕ). u S ≤ k + i → missed_at S table (reach many + k + i) ≡ 1) (start_is S h)
        (λ p. ap (missed_by S) (threshold S i h l) ∙ low-missed S h i l p);
  }

-- ---- for one set
abbrev pub laid : List ℕ
laid = energies ++ (lows levels ++ starts)

in-levels : (j : ℕ) → j < 123 → get_or laid (100 + j) 0 ≡ get_or levels j 0 % 4294967296
unfolding energies levels lows
in-levels j h = get_or-append-add energies (lows levels ++ starts) j 0 ∙ get_or-append (lows levels) starts 0 j h ∙ low-at levels j

in-starts : (i : ℕ) → get_or laid (223 + i) 0 ≡ get_or starts i 0
unfolding energies levels lows
in-starts i = get_or-append-add (energies ++ lows levels) starts i 0

pub laid-powers : Powers 100 laid
unfolding energies
laid-powers d h = get_or-append energies (lows levels ++ starts) 0 d h ∙ entry-is d h

pub laid-is : Tabled false laid
unfolding energies levels starts lows
laid-is = record {
  scaled = record { long = lit≤ tt; each = laid-powers };
  stepped = stepped false laid (lit≤ tt) in-levels (λ i h. in-starts i);
}

-- ---- for many sets: F whole, and behind it what follows F for one
pub widened_is : (front back rest : List ℕ) → length front ≡ 901 → Powers 901 front → back ≡ drop 100 laid → Tabled true (front ++ (back ++ rest))
unfolding energies levels starts lows
widened_is front back rest h powers e = record {
  scaled = record { long = omega (arith, long); each = λ d k. get_or-append front (back ++ rest) 0 d (omega arith) ∙ powers d k };
  stepped = stepped true table long (λ j k. follows j (omega arith) ∙ in-levels j k)
      (λ i k. let p : reach true + 123 + i ≡ 901 + (123 + i) = omega arith in
      let q : 100 + (123 + i) ≡ 223 + i = omega arith in
      ap (λ (n : ℕ). get_or table n 0) p ∙ follows (123 + i) (omega arith) ∙ ap (λ (n : ℕ). get_or laid n 0) q ∙ in-starts i);
}
  where
    table : List ℕ
    table = front ++ (back ++ rest)

    behind : length back ≡ 217
    behind = ap length e

    long : 1118 ≤ length table
    long = omega (arith, behind, length-append front (back ++ rest), length-append back rest)

    follows : (i : ℕ) → i < 217 → get_or table (901 + i) 0 ≡ get_or laid (100 + i) 0
    follows i k =
        get_or-append_right front (back ++ rest) 901 (901 + i) 0 h (omega arith)
        ∙ ap (λ (n : ℕ). get_or (back ++ rest) n 0) (omega arith)
        ∙ get_or-append back rest 0 i (omega (arith, behind))
        ∙ ap (λ (l : List ℕ). get_or l i 0) e
        ∙ get_or-drop 100 laid i 0
