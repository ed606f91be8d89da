-- A run over an input and an output whose bytes are known: what its steps read makes up the input, and what they hand out the
-- output, so that at its end the output has grown by the answers of the input. Assumes nothing.
use Rattle.std.proofs.Common.{◌≡◌, ℕ, suc, ◌+◌, ◌≤◌, List, [], ◌++◌, Option, None, Some, Ok, refl, sym, ap, subst, ◌∙◌, append_assoc, append-nil, length, IfSome, arith}
use Rattle.std.specs.Io.KnownBytes.{Keeps, Consumes, Appends, IsAtEnd}
use Rattle.line.specs.Answers.{answers_of}
use Rattle.rate.specs.declared.State.{State}
use Rattle.rate.specs.Waits.{block_at, first_state, read_behind, Advanced, Took, Steps, Ran}
use Rattle.rate.specs.Waits.Advanced.{answered, ended, read}
use Rattle.rate.proofs.Follows.{Reads, Moved, run-answers}

-- ---- bytes that are known
keeps_some : (now : Option (List ℕ)) (xs : List ℕ) → Keeps (Some xs) now → now ≡ Some xs
keeps_some None xs k = absurd k
keeps_some (Some ys) xs k = ap Some k

consumes_some : (now : Option (List ℕ)) (xs bs : List ℕ) → Consumes (Some xs) now bs → (ys : List ℕ) × (now ≡ Some ys) × (xs ≡ bs ++ ys)
consumes_some None xs bs k = absurd k
consumes_some (Some ys) xs bs k = (ys, refl, k)

appends_more : (a b c : Option (List ℕ)) (xs ys : List ℕ) → Appends a b xs → Appends b c ys → Appends a c (xs ++ ys)
appends_more None b c xs ys h k = tt
appends_more (Some a) None c xs ys h k = absurd h
appends_more (Some a) (Some b) None xs ys h k = absurd k
appends_more (Some a) (Some b) (Some c) xs ys h k = k ∙ ap (λ (l : List ℕ). l ++ ys) h ∙ append_assoc a xs ys

-- ---- one step
reads_of : {s : State} {buf : List ℕ} {room : ℕ} {next : Option State} {after : List ℕ} (a : Advanced s buf room (Ok next) after) (coming : List ℕ)
    (now : Option (List ℕ)) → Took s buf room next after (Some coming) now → (future : List ℕ) × (now ≡ Some future) × Reads a coming future
reads_of (answered u e l) coming now t = (coming, keeps_some now coming (t.by_answer u), refl)
reads_of (ended u l) coming now t = (coming, keeps_some now coming (t.by_end l), refl)
reads_of {s = s} (read {r = r} {after = after} u l h) coming now t =
    let k = t.by_read u l in
    let c = consumes_some now coming (read_behind s r after) k.front in
    (c.0, c.1, (c.2, λ some empty. subst IsAtEnd c.1 (k.end some empty)))

-- ---- all steps
module _ (room : ℕ) (start : List ℕ) (given held : Option (List ℕ)) where
  -- so many steps: what is still to come of the input, and what was handed out
  abbrev pub Carried : ℕ → State → List ℕ → Option (List ℕ) → Option (List ℕ) → Type 0
  Carried n s buf left now =
      (steps : Steps room start n s buf)
      × ((xs : List ℕ) → given ≡ Some xs
      → (coming : List ℕ) × (handed : List ℕ) × (left ≡ Some coming) × Appends held now handed × Moved steps xs coming handed)

  pub begins : Carried 0 first_state start given held
  begins = (Steps.none, λ xs e. (xs, [], e, same held, (refl, refl)))
    where
      same : (o : Option (List ℕ)) → Appends o o []
      same None = tt
      same (Some xs) = sym (append-nil xs)

  module _ {n : ℕ} {s : State} {buf after : List ℕ} (left now left' now' : Option (List ℕ)) (c : Carried n s buf left now)
      (handed : Appends now now' (block_at s buf room).text) where
    -- a step more: what it read and what it handed out come behind the others'
    moved : {next : Option State} (a : Advanced s buf room (Ok next) after) → Took s buf room next after left left' → (xs : List ℕ) → given ≡ Some xs
        → (future : List ℕ) × (out : List ℕ) × (left' ≡ Some future) × Appends held now' out
        × ((coming : List ℕ) × (before : List ℕ) × Moved c.0 xs coming before × Reads a coming future × (out ≡ before ++ (block_at s buf room).text))
    moved {next} a took xs e =
        let b = c.1 xs e in
        let t = reads_of a b.0 left' (subst (λ (o : Option (List ℕ)). Took s buf room next after o left') b.2 took) in
        (t.0, b.1 ++ (block_at s buf room).text, t.1, appends_more held now now' b.1 (block_at s buf room).text b.3 handed, (b.0, b.1, b.4, t.2, refl))

    pub one_step : {r : State} → Advanced s buf room (Ok (Some r)) after → Took s buf room (Some r) after left left' → Carried (n + 1) r after left' now'
    one_step {r} a took = subst (λ (k : ℕ). Carried k r after left' now') (suc-is n) (Steps.more c.0 a, moved a took)
      where
        suc-is : (n : ℕ) → suc n ≡ n + 1
        suc-is n = omega arith

    -- a run that ended has handed out the answers of its input
    pub finished : Advanced s buf room (Ok None) after → Took s buf room None after left left' → 64 ≤ room → 512 ≤ length start
        → IfSome given (λ (xs : List ℕ). Appends held now' (answers_of xs))
    finished a took wide large = go given refl
      where
        go : (o : Option (List ℕ)) → given ≡ o → IfSome o (λ (xs : List ℕ). Appends held now' (answers_of xs))
        go None q = tt
        go (Some xs) q =
            let m = moved a took xs q in
            subst (Appends held now') (run-answers wide large (Ran.ended c.0 a) xs m.0 m.1 m.4) m.3
