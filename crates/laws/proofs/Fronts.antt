-- A list at the front of a buffer: one element more, a tail that is lent to be written to, and a list written piece by piece.
-- Assumes nothing.
use mathlib.Core.Path.{◌≡◌, refl, sym, ◌∙◌, ap}
use mathlib.Core.List.{List, [], ◌∷◌, ◌++◌, append_assoc, append-nil}
use Prim.Native.Nat.{ℕ, suc, ◌+◌, ◌-◌, ◌≤◌, ◌<◌}
use native.Mathlib.Omega.{arith}
use native.Mathlib.Numerals.{add-one}
use lib.ListN.{length, get_or, take, drop, set, length-append, length-drop, drop_of_length-le}
use lib.Seq.{drop-cons, set_at, take_at, drop_at, drop-drop, take_all, take-suc, length-take-le}
use borrow.Rule.Slice.PartMut.{put_mid, mid_of, post_of}
use Rattle.laws.specs.Lists.{front}

module _ {A : Type 0} where
  pub snoc-length : (t : List A) (v : A) → length (t ++ (v ∷ [])) ≡ suc (length t)
  snoc-length t v = length-append t (v ∷ []) ∙ omega arith

  -- one more
  pub front-more : (t l : List A) (k : ℕ) (v : A) → k ≡ length t → k < length l → set (front t l) k v ≡ front (t ++ (v ∷ [])) l
  front-more t l k v e h =
      ap (λ (r : List A). set (t ++ r) k v) (drop-cons l (length t) v (omega arith))
      ∙ set_at t (get_or l (length t) v) (drop (suc (length t)) l) v k (sym e)
      ∙ sym (append_assoc t (v ∷ []) (drop (suc (length t)) l))
      ∙ ap (λ (n : ℕ). (t ++ (v ∷ [])) ++ drop n l) (sym (snoc-length t v))

  pub front_length : (t l : List A) → length t ≤ length l → length (front t l) ≡ length l
  front_length t l h = length-append t (drop (length t) l) ∙ omega (arith, length-drop (length t) l)

  -- of a list that is written from its start on, the next element
  pub next-written : (t l out : List A) (i : ℕ) (v d : A) → i < length t → i < length l → v ≡ get_or t i d
      → out ≡ front (take i t) l → set out i v ≡ front (take (i + 1) t) l
  next-written t l out i v d h k e w =
      ap (λ (r : List A). set r i v) w
      ∙ ap (set (front (take i t) l) i) e
      ∙ front-more (take i t) l i (get_or t i d) (sym (length-take-le i t (omega arith))) k
      ∙ ap (λ (r : List A). front r l) (sym (take-suc t i d h))
      ∙ ap (λ (n : ℕ). front (take n t) l) (sym (add-one i))

  -- a tail that is lent: it lies within, it is what follows the list, and it comes home with a list at its own front
  module _ (t l : List A) {xs : List A} (a : ℕ) (e : xs ≡ front t l) (f : a ≡ length t) (h : length t ≤ length l) where
    same : length xs ≡ length l
    same = ap length e ∙ front_length t l h

    pub tail-is : mid_of a (length xs - a) xs ≡ drop a l
    tail-is =
        ap (λ (r : List A). take (length xs - a) (drop a r)) e
        ∙ ap (take (length xs - a)) (drop_at t (drop (length t) l) a (sym f))
        ∙ take_all (length xs - a) (drop (length t) l) (omega (arith, length-drop (length t) l, same))
        ∙ ap (λ (n : ℕ). drop n l) (sym f)

    pub tail-length : length (mid_of a (length xs - a) xs) ≡ length l - a
    tail-length = ap length tail-is ∙ length-drop a l

    none_after : post_of a (length xs - a) xs ≡ []
    none_after =
        ap (λ (r : List A). drop (length xs - a) (drop a r)) e
        ∙ ap (drop (length xs - a)) (drop_at t (drop (length t) l) a (sym f))
        ∙ drop_of_length-le (drop (length t) l) {i = length xs - a} (omega (arith, length-drop (length t) l, same))

    pub tail-home : (u : List A) {ys : List A} → ys ≡ front u (mid_of a (length xs - a) xs) → put_mid a (length xs - a) xs ys ≡ front (t ++ u) l
    tail-home u {ys} y =
        ap (λ (r : List A). take a r ++ (ys ++ post_of a (length xs - a) xs)) e
        ∙ ap (λ (r : List A). r ++ (ys ++ post_of a (length xs - a) xs)) (take_at t (drop (length t) l) a (sym f))
        ∙ ap (λ (r : List A). t ++ (ys ++ r)) none_after
        ∙ ap (λ (r : List A). t ++ r) (append-nil ys ∙ y ∙ ap (front u) tail-is)
        ∙ ap (λ (r : List A). t ++ (u ++ r)) (drop-drop (length u) a l ∙ ap (λ (n : ℕ). drop n l) (ap (λ (n : ℕ). n + length u) f ∙ sym (length-append t u)))
        ∙ sym (append_assoc t u (drop (length (t ++ u)) l))

  -- a list is written piece by piece: `rest` of it is still to come
  pub record Writing (whole rest l : List A) (count : ℕ) (out : List A) : Type 0 where
    pub done : List A
    pub parted : done ++ rest ≡ whole
    pub counted : count ≡ length done
    pub written : out ≡ front done l

  -- one turn: what is still to come is a piece and the rest, the piece has room, and once it is written to the tail that is lent
  -- the rest is still to come
  pub record Turn (whole piece rest l : List A) (count : ℕ) (out : List A) : Type 0 where
    pub left : Writing whole (piece ++ rest) l count out
    pub room : count + length piece ≤ length l
    pub within : count ≤ length out
    pub lent : length piece ≤ length (mid_of count (length out - count) out)
    pub written : (n : ℕ) (ys : List A) → n ≡ length piece → ys ≡ front piece (mid_of count (length out - count) out)
        → Writing whole rest l (count + n) (put_mid count (length out - count) out ys)

  module _ (whole now l : List A) (count : ℕ) (out : List A) (room : length whole ≤ length l) (w : Writing whole now l count out) where
    done-room : length w.done + length now ≤ length l
    done-room = omega (arith, ap length w.parted, length-append w.done now)

    pub same-room : length out ≡ length l
    same-room = ap length w.written ∙ front_length w.done l (omega (arith, done-room))

    pub turn : (piece rest : List A) → now ≡ piece ++ rest → Turn whole piece rest l count out
    turn piece rest e =
        let fits : length w.done ≤ length l = omega (arith, done-room) in
        let more : count + length piece ≤ length l = omega (arith, done-room, w.counted, ap length e, length-append piece rest) in
        let next : w.done ++ (piece ++ rest) ≡ whole = ap (λ (r : List A). w.done ++ r) (sym e) ∙ w.parted in
        record {
          left = record { done = w.done; parted = next; counted = w.counted; written = w.written };
          room = more;
          within = omega (arith, same-room);
          lent = omega (arith, tail-length w.done l count w.written w.counted fits);
          written = λ n ys f y. record {
            done = w.done ++ piece;
            parted = append_assoc w.done piece rest ∙ next;
            counted = omega (arith, w.counted, length-append w.done piece);
            written = tail-home w.done l count w.written w.counted fits piece y;
          };
        }

    pub ended : now ≡ [] → (count ≡ length whole) × (out ≡ front whole l)
    ended e =
        let all : w.done ≡ whole = sym (append-nil w.done) ∙ ap (λ (r : List A). w.done ++ r) (sym e) ∙ w.parted in
        (w.counted ∙ ap length all, w.written ∙ ap (λ (t : List A). front t l) all)

  -- one element is stored
  pub one_written : (whole rest l : List A) (v : A) (count : ℕ) (out : List A) → length whole ≤ length l → Writing whole (v ∷ rest) l count out
      → Writing whole rest l (count + 1) (set out count v)
  one_written whole rest l v count out room w = record {
    done = w.done ++ (v ∷ []);
    parted = append_assoc w.done (v ∷ []) rest ∙ w.parted;
    counted = omega (arith, w.counted, snoc-length w.done v);
    written =
        ap (λ (o : List A). set o count v) w.written
        ∙ front-more w.done l count v w.counted (omega (arith, (turn whole (v ∷ rest) l count out room w (v ∷ []) rest refl).room));
  }
