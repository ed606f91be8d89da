-- The paper's number and values tell an answer: answers of which they are the same are the same. So a promise about them leaves no
-- room, and two outcomes that it allows coincide. Assumes nothing.
use mathlib.Core.Path.{◌≡◌, refl, ap, sym, ◌∙◌}
use mathlib.Core.List.{List, [], ◌∷◌, ◌++◌}
use Prim.Native.Nat.{ℕ}
use lib.IntN.{pos}
use Rattle.quantity.specs.Refusals.{number_of}
use Rattle.quantity.specs.Answers.{Answer, flag}
use Rattle.quantity.specs.Answers.Answer.{refused, numbers}
use Rattle.quantity.proofs.Answers.{number-one, flag_one, differ}
use Rattle.intake.specs.Taken.{taken_answer}
use Rattle.rating.specs.declared.sheets.Sheet.{Sheet}
use Rattle.rating.specs.Sheets.{term_of, term_flag, sheet_numbers, rated_answer}
use Rattle.products.specs.Covers.{improvement_answer}
use Rattle.products.specs.Grades.{grade_numbers, graded_answer}
use Rattle.lift.specs.Calls.{count_answer}
use Rattle.line.specs.Answers.{wrote_answer}
use Rattle.register.specs.Registers.{billed_answer, owed_answer}
use Rattle.laws.proofs.Tests.{clash}
use Rattle.std.specs.Prelude.{Result, Ok, Err, Option, Some, None}
use Rattle.register.specs.declared.steps.Billed.{Billed}
use Rattle.products.specs.declared.covers.Cover.{Cover}
use Rattle.quantity.specs.declared.quantities.Decibels.{Decibels}
use Rattle.quantity.specs.declared.quantities.Fen.{Fen}
use Rattle.products.specs.declared.grades.Grade.{Grade}
use Rattle.quantity.specs.declared.refusals.Refusal.{Refusal}
use Rattle.intake.specs.declared.singles.Taken.{Taken}

-- of an answer: a value by its numbers, a refusal by its own. Where the numbers tell values, they tell answers
module _ {A B : Type 0} (said : Result A Refusal → Answer B) (told : A → List B) where
  pub one-answer : ((x : A) → said (Ok x) ≡ numbers (told x)) → ((r : Refusal) → said (Err r) ≡ refused (number_of r))
      → ((x y : A) → told x ≡ told y → x ≡ y) → (a b : Result A Refusal) → said a ≡ said b → a ≡ b
  one-answer ok err one (Ok x) (Ok y) e = let p : told x ≡ told y = cc (ok x, ok y) in ap Ok (one x y p)
  one-answer ok err one (Ok x) (Err r) e = differ (sym (sym (ok x) ∙ e ∙ err r))
  one-answer ok err one (Err r) (Ok y) e = differ (sym (err r) ∙ e ∙ ok y)
  one-answer ok err one (Err r) (Err q) e = let p : number_of r ≡ number_of q = cc (err r, err q) in ap Err (number-one r q p)

pub taken-one : (a b : Result Taken Refusal) → taken_answer a ≡ taken_answer b → a ≡ b
taken-one =
    one-answer taken_answer (λ x. x.value.0 ∷ flag x.limit ∷ []) (λ x. refl) (λ r. refl) (λ x y e.
    let p : x.value.0 ≡ y.value.0 = cc in
    let q : flag x.limit ≡ flag y.limit = cc in
    λ i. record { value = record { 0 = p i }; limit = flag_one x.limit y.limit q i })

term-one : (a b : Option Decibels) → term_of a ≡ term_of b → term_flag a ≡ term_flag b → a ≡ b
term-one (Some d) (Some e) p q = λ i. Some (record { 0 = p i })
term-one (Some d) None p q = clash cc
term-one None (Some e) p q = clash cc
term-one None None p q = refl

sheet-one : (s t : Sheet) → sheet_numbers s ≡ sheet_numbers t → s ≡ t
sheet-one s t e =
    let rating : s.rating.0 ≡ t.rating.0 = cc in
    let first : s.first.0 ≡ t.first.0 = cc in
    let value : term_of s.second ≡ term_of t.second = cc in
    let given : term_flag s.second ≡ term_flag t.second = cc in
    let shifts : s.shifts ≡ t.shifts = cc in
    let mark : flag s.limit ≡ flag t.limit = cc in
    λ i. record {
      rating = record { 0 = rating i };
      first = record { 0 = first i };
      second = term-one s.second t.second value given i;
      shifts = shifts i;
      limit = flag_one s.limit t.limit mark i;
    }

pub rated-one : (a b : Result Sheet Refusal) → rated_answer a ≡ rated_answer b → a ≡ b
rated-one = one-answer rated_answer sheet_numbers (λ x. refl) (λ r. refl) sheet-one

pub cover_one : (a b : Result Cover Refusal) → improvement_answer a ≡ improvement_answer b → a ≡ b
cover_one =
    one-answer improvement_answer (λ x. x.improvement.0 ∷ x.term.0 ∷ flag x.limit ∷ []) (λ x. refl) (λ r. refl) (λ x y e.
    let rating : x.improvement.0 ≡ y.improvement.0 = cc in
    let term : x.term.0 ≡ y.term.0 = cc in
    let mark : flag x.limit ≡ flag y.limit = cc in
    λ i. record { improvement = record { 0 = rating i }; term = record { 0 = term i }; limit = flag_one x.limit y.limit mark i })

pub graded-one : (a b : Result Grade Refusal) → graded_answer a ≡ graded_answer b → a ≡ b
graded-one =
    one-answer graded_answer grade_numbers (λ x. refl) (λ r. refl) (λ g h e.
    let rating : g.rating.0 ≡ h.rating.0 = cc in
    let c : g.c.0 ≡ h.c.0 = cc in
    let ctr : g.ctr.0 ≡ h.ctr.0 = cc in
    let deciding : g.deciding.0 ≡ h.deciding.0 = cc in
    let grade : g.grade ≡ h.grade = cc in
    let mark : flag g.limit ≡ flag h.limit = cc in
    λ i. record {
      rating = record { 0 = rating i };
      c = record { 0 = c i };
      ctr = record { 0 = ctr i };
      deciding = record { 0 = deciding i };
      grade = grade i;
      limit = flag_one g.limit h.limit mark i;
    })

pub lifted-one : (a b : Result ℕ Refusal) → count_answer a ≡ count_answer b → a ≡ b
lifted-one = one-answer count_answer (λ n. pos n ∷ []) (λ x. refl) (λ r. refl) (λ m n e. cc)

pub wrote_one : (a b : Result ℕ Refusal) → wrote_answer a ≡ wrote_answer b → a ≡ b
wrote_one = one-answer wrote_answer (λ n. n ∷ []) (λ x. refl) (λ r. refl) (λ m n e. cc)

pub billed-one : (a b : Result Billed Refusal) → billed_answer a ≡ billed_answer b → a ≡ b
billed-one =
    one-answer billed_answer (λ b. sheet_numbers b.sheet ++ (pos b.charged.0 ∷ [])) (λ x. refl) (λ r. refl) (λ x y e.
    let p : sheet_numbers x.sheet ≡ sheet_numbers y.sheet = cc in
    let q : x.charged.0 ≡ y.charged.0 = cc in
    λ i. record { sheet = sheet-one x.sheet y.sheet p i; charged = record { 0 = q i } })

pub owed-one : (a b : Result Fen Refusal) → owed_answer a ≡ owed_answer b → a ≡ b
owed-one = one-answer owed_answer (λ t. pos t.0 ∷ []) (λ x. refl) (λ r. refl) (λ m n e. let p : m.0 ≡ n.0 = cc in λ i. record { 0 = p i })
