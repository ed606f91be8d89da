-- Bytes that are moved: to the front of the buffer, behind those that wait, and past those that were used. Assumes nothing.
use mathlib.Core.Path.{◌≡◌, refl, sym, ◌∙◌, ap}
use mathlib.Core.List.{List, ◌++◌}
use Prim.Native.Nat.{ℕ, ◌+◌, ◌-◌, ◌≤◌}
use native.Mathlib.Omega.{arith}
use borrow.Rule.Slice.PartMut.{put_mid, post_of}
use lib.Dec.{eqb}
use lib.ListN.{length, take, drop, length-drop, take-append-drop}
use lib.Seq.{length-take-le, take-take, drop-drop, take-add, take-append-le, take_at, drop_at}
use native.Mathlib.Nat.{zero-add}
use Rattle.std.specs.List.{copy_within}
use Rattle.std.proofs.lemmas.List.{drop-take}
use Rattle.line.specs.declared.blocks.Progress.{Progress}
use Rattle.line.specs.Blocks.{Block, Answered}
use Rattle.rate.specs.declared.State.{State}
use Rattle.rate.specs.Waits.{Waits, waiting, Refilled}

-- ---- the first `n` bytes from `start` on, moved to the front
abbrev moved : ℕ → ℕ → List ℕ → List ℕ
moved start n buf = take n (drop start buf) ++ drop n buf

moved_is : (start end : ℕ) (buf : List ℕ) → copy_within buf start end 0 ≡ moved start (end - start) buf
moved_is start end buf = simp zero-add

moved_front : (start n : ℕ) (buf : List ℕ) → start + n ≤ length buf → take n (moved start n buf) ≡ take n (drop start buf)
moved_front start n buf h = take_at (take n (drop start buf)) (drop n buf) n (length-take-le n (drop start buf) (omega (arith, length-drop start buf)))

-- ---- a call leaves what it did not use
module _ (s : State) (buf : List ℕ) (w : Waits s (length buf)) where
  pub waiting-length : length (waiting s buf) ≡ s.end - s.start
  waiting-length = length-take-le (s.end - s.start) (drop s.start buf) (omega (arith, w.order, w.within, length-drop s.start buf))

  pub left_over : (used n : ℕ) → used ≤ length (waiting s buf) → used ≡ n
      → take (s.end - (s.start + used)) (drop (s.start + used) buf) ≡ drop n (waiting s buf)
  left_over used n u e =
      ap (take (s.end - (s.start + used))) (sym (drop-drop used s.start buf))
      ∙ sym (drop_at (take used rest) (take (s.end - (s.start + used)) (drop used rest)) used (length-take-le used rest (omega (arith, waiting-length, w.within, length-drop s.start buf))))
      ∙ ap (drop used) (sym (take-add used (s.end - (s.start + used)) rest))
      ∙ ap (λ (k : ℕ). drop used (take k rest)) (both s.start s.end (omega (arith, waiting-length, w.order)))
      ∙ ap (λ (k : ℕ). drop k (waiting s buf)) e
    where
      rest : List ℕ
      rest = drop s.start buf

      both : (start end : ℕ) → start + used ≤ end → used + (end - (start + used)) ≡ end - start
      both start end h = omega arith

-- its answer stands in front of the output
pub text-front : {block : Block} {input before : List ℕ} {r : Progress} {after : List ℕ} → Answered block input before r after
    → take r.wrote after ≡ block.text
text-front {block = block} {before = before} {r = r} a =
    ap (take r.wrote) a.out ∙ take_at block.text (drop (length block.text) before) r.wrote (sym a.wrote)

-- ---- what was read into the tail waits behind what waited
module _ (s : State) (buf shifted ys : List ℕ) (n more : ℕ) where
  abbrev keep : ℕ
  keep = s.end - s.start

  abbrev after : List ℕ
  after = put_mid keep n shifted ys

  abbrev refilled : State
  refilled = record { start = 0; end = keep + more; skipping = s.skipping; last = eqb more 0 }

  pub read_behind : Waits s (length buf) → shifted ≡ copy_within buf s.start s.end 0 → length shifted ≡ length buf → length after ≡ length buf → keep + more ≤ length buf
      → Refilled s buf refilled after
  read_behind w e shift-size size fits = record {
    waits = sym (take-append-drop keep (waiting refilled after))
        ∙ ap (λ (l : List ℕ). l ++ drop keep (waiting refilled after)) (take-take keep (keep + more - 0) after (omega arith) ∙ front);
    last = ap (λ (k : ℕ). eqb k 0) (sym (length-drop keep (waiting refilled after) ∙ count));
    skipping = refl;
    size = size;
  }
    where
      front : take keep after ≡ waiting s buf
      front =
          take_at (take keep shifted) (ys ++ post_of keep n shifted) keep (length-take-le keep shifted (omega (arith, w.order, w.within)))
          ∙ ap (take keep) (e ∙ moved_is s.start s.end buf)
          ∙ moved_front s.start keep buf (omega (arith, w.order, w.within))

      count : length (waiting refilled after) - keep ≡ more
      count = omega (arith, length-take-le (keep + more - 0) after (omega arith))

  pub taken_behind : Waits s (length buf) → length shifted ≡ length buf → more ≤ length ys → drop keep (waiting refilled after) ≡ take more ys
  taken_behind w size few =
      ap (λ (k : ℕ). drop keep (take k after)) (whole (keep + more))
      ∙ drop-take keep more after
      ∙ ap (take more) (drop_at (take keep shifted) (ys ++ post_of keep n shifted) keep (length-take-le keep shifted (omega (arith, w.order, w.within))))
      ∙ take-append-le more ys (post_of keep n shifted) few
    where
      whole : (k : ℕ) → k - 0 ≡ k
      whole k = omega arith
