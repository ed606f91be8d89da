-- The answer of the lift call: a count for one lent array, the listed sets for another.
use Rattle.std.specs.Prelude.{cond, List, ℕ, leb, ℤ, length, Option, None, Some}
use Rattle.quantity.specs.Quantities.{band_of}
use Rattle.quantity.specs.declared.quantities.BandSet.{BandSet}
use Rattle.kinds.specs.declared.kinds.Kind.{Kind}
use Rattle.kinds.specs.Kinds.{kind_of}
use Rattle.lift.specs.Reach.{lift_list}
use Rattle.lift.specs.Calls.{answer_of, buffer_by, count_answer}
use Rattle.quantity.specs.Answers.{Answer}
use Rattle.door.specs.Lists.{set_from}
use Rattle.desk_c.specs.Ratings.{by_kind}

-- imbrolt_lift, with so many places lent for the list
unfoldable pub lift_answer : ℕ → List ℤ → ℕ → ℤ → ℕ → Answer ℤ
lift_answer kind values marks target places =
    by_kind (kind_of kind) (λ k. count_answer (answer_of k (set_from values marks) target places))

-- what the list then holds, with so many places lent for the count: the sets in front, if there is room for the count too
unfoldable pub list_by : Kind → BandSet → ℤ → List ℕ → ℕ → List ℕ
list_by k s target list places =
    cond (leb 1 places) (buffer_by (answer_of k s target (length list)) (lift_list k (band_of s) target) list) list

abbrev pub kept_or : Option Kind → (Kind → List ℕ) → List ℕ → List ℕ
kept_or (Some kind) after before = after kind
kept_or None after before = before

unfoldable pub lift_held : ℕ → List ℤ → ℕ → ℤ → List ℕ → ℕ → List ℕ
lift_held kind values marks target list places =
    kept_or (kind_of kind) (λ k. list_by k (set_from values marks) target list places) list
