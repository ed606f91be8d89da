-- The calls of a run. From the first state on, the answers that are handed out are those of the whole input, in order: the calls
-- are a `Run` of `line`, where a call that used nothing hands out nothing, and with room for any one answer the run ends only
-- where nothing waits. Assumes nothing.
use mathlib.Core.Path.{◌≡◌, refl, sym, ◌∙◌, ap, subst}
use mathlib.Core.Bool.{Bool, true, false}
use mathlib.Core.List.{List, [], ◌∷◌, ◌++◌, append_assoc}
use Prim.Native.Nat.{ℕ, zero, suc, ◌≤◌, ◌<◌}
use native.Mathlib.Omega.{arith}
use borrow.Author.Tests.{eqb-true}
use lib.ListN.{length, drop}
use Rattle.line.specs.Answers.{answers_of}
use Rattle.line.specs.Blocks.{Block, block_of, Run}
use Rattle.line.proofs.Meaning.{run_is}
use Rattle.line.proofs.Stops.{none-used, gets-on}
use Rattle.std.specs.Prelude.{Option, None, Some, Result, Ok}
use Rattle.rate.specs.declared.State.{State}
use Rattle.rate.specs.declared.Unfinished.{Unfinished}
use Rattle.rate.specs.Waits.{waiting, block_at, first_state, read_behind, Advanced, Steps, Ran}
use Rattle.rate.specs.Waits.Advanced.{answered, ended, read, broken}
use Rattle.rate.specs.Waits.Steps.{none, more}
use Rattle.laws.proofs.Tests.{never}

-- What is still to come, before a step and after it. A read takes its bytes from the front, and one that has room takes none only
-- where nothing is to come: this is what is asked of the input.
abbrev pub Reads : {s : State} {buf : List ℕ} {room : ℕ} {r : Result (Option State) Unfinished} {after : List ℕ} → Advanced s buf room r after
    → List ℕ → List ℕ → Type 0
Reads (answered u e l) before future = before ≡ future
Reads (ended u l) before future = before ≡ future
Reads {s = s} {buf = buf} (read {r = r} {after = after} u l h) before future =
    (before ≡ read_behind s r after ++ future) × (length (waiting s buf) < length buf → read_behind s r after ≡ [] → future ≡ [])
Reads broken before future = before ≡ future

-- The calls of a run, from a state and its buffer, with what is still to come: each step is what `advance` promises, and its output
-- is the answer of what waits, which is what `hand_out` asks for; `out` is all of it. The last of them ends the run.
pub data Calls (room : ℕ) : State → List ℕ → List ℕ → List ℕ → Type 0 where
  last : {s : State} {buf after before : List ℕ} → (a : Advanced s buf room (Ok None) after) → (future : List ℕ) → Reads a before future
      → Calls room s buf before (block_at s buf room).text
  step : {s r : State} {buf after before future out : List ℕ} → (a : Advanced s buf room (Ok (Some r)) after) → Reads a before future
      → Calls room r after future out → Calls room s buf before ((block_at s buf room).text ++ out)

empty : (l : List ℕ) → length l ≡ 0 → l ≡ []
empty [] e = refl
empty (b ∷ l) e = absurd (omega arith)

-- ---- one step
one-call : (room : ℕ) (pending : List ℕ) (skip last : Bool) (future out : List ℕ) → (last ≡ true → future ≡ [])
    → Run (drop (block_of pending room skip last).used pending) (block_of pending room skip last).skipping future out
    → Run pending skip future ((block_of pending room skip last).text ++ out)
one-call room pending skip false future out end r = Run.part pending future skip room out r
one-call room pending skip true future out end r =
    subst (λ (f : List ℕ). Run pending skip f ((block_of pending room skip true).text ++ out)) (sym (end refl))
    (Run.end pending skip room out
    (subst (λ (f : List ℕ). Run (drop (block_of pending room skip true).used pending) (block_of pending room skip true).skipping f out) (end refl) r))

module _ (room : ℕ) (wide : 64 ≤ room) (s : State) (buf : List ℕ) where
  abbrev block : Block
  block = block_at s buf room

  -- a call that used nothing wrote nothing, and what waits is no whole line
  quiet : block.used ≡ 0 → block.text ≡ []
  quiet u = ap (λ (b : Block). b.text) (none-used (waiting s buf) room s.skipping s.last u)

  few : block.used ≡ 0 → length (waiting s buf) < 512
  few u = go (length (waiting s buf)) refl
    where
      go : (n : ℕ) → length (waiting s buf) ≡ n → length (waiting s buf) < 512
      go zero e = omega arith
      go (suc n) e = (gets-on (waiting s buf) room wide (omega arith) s.skipping s.last u).short

  none_left : block.used ≡ 0 → s.last ≡ true → waiting s buf ≡ []
  none_left u l = go (length (waiting s buf)) refl
    where
      go : (n : ℕ) → length (waiting s buf) ≡ n → waiting s buf ≡ []
      go zero e = empty (waiting s buf) e
      go (suc n) e = absurd (never l (gets-on (waiting s buf) room wide (omega arith) s.skipping s.last u).open-end)

  -- the last step: nothing waits, nothing is to come, and nothing is handed out
  last-runs : {after before : List ℕ} (a : Advanced s buf room (Ok None) after) → (future : List ℕ) → Reads a before future → (s.last ≡ true → before ≡ [])
      → Run (waiting s buf) s.skipping before block.text
  last-runs {before = before} (ended u l) future reads end =
      subst (Run (waiting s buf) s.skipping before) (sym (quiet u))
      (subst (λ (f : List ℕ). Run (waiting s buf) s.skipping f []) (sym (end l))
      (subst (λ (p : List ℕ). Run p s.skipping [] []) (sym (none_left u l)) Run.done))

  step-runs : {r : State} {after before future out : List ℕ} (a : Advanced s buf room (Ok (Some r)) after) → Reads a before future → 512 ≤ length buf
      → (s.last ≡ true → before ≡ []) → (512 ≤ length after → (r.last ≡ true → future ≡ []) → Run (waiting r after) r.skipping future out)
      → Run (waiting s buf) s.skipping before (block.text ++ out)
  step-runs {r = r} {future = future} {out = out} (answered u e l) reads size end next =
      subst (λ (f : List ℕ). Run (waiting s buf) s.skipping f (block.text ++ out)) (sym reads)
      (one-call room (waiting s buf) s.skipping s.last future out (λ q. sym reads ∙ end q)
      (subst (λ (b : Bool). Run (drop block.used (waiting s buf)) b future out) l.skipping
      (subst (λ (p : List ℕ). Run p r.skipping future out) (ap (waiting r) e ∙ l.waits)
      (next (omega (arith, ap length e)) (λ q. sym reads ∙ end (sym l.last ∙ q))))))
  step-runs {r = r} {after = after} {before = before} {future = future} {out = out} (read u l h) reads size end next =
      let chunk : List ℕ = read_behind s r after in
      subst (Run (waiting s buf) s.skipping before) (sym (ap (λ (t : List ℕ). t ++ out) (quiet u)))
      (subst (λ (f : List ℕ). Run (waiting s buf) s.skipping f out) (sym reads.0)
      (Run.read (waiting s buf) chunk future s.skipping out
      (subst (λ (b : Bool). Run (waiting s buf ++ chunk) b future out) h.skipping
      (subst (λ (p : List ℕ). Run p r.skipping future out) h.waits
      (next (omega (arith, h.size)) (λ q. reads.1 (omega (arith, few u)) (empty chunk (eqb-true (length chunk) 0 (sym h.last ∙ q)))))))))

-- ---- all steps
pub follows : {room : ℕ} {s : State} {buf future out : List ℕ} → Calls room s buf future out → 64 ≤ room → 512 ≤ length buf
    → (s.last ≡ true → future ≡ []) → Run (waiting s buf) s.skipping future out
follows {room = room} {s = s} {buf = buf} (Calls.last a future reads) wide size end = last-runs room wide s buf a future reads end
follows {room = room} {s = s} {buf = buf} (Calls.step a reads next) wide size end =
    step-runs room wide s buf a reads size end (λ n e. follows next wide n e)

pub all-answered : {room : ℕ} {buf input out : List ℕ} → 64 ≤ room → 512 ≤ length buf → Calls room first_state buf input out → out ≡ answers_of input
all-answered wide size calls = run_is (follows calls wide size (λ e. absurd (never e refl)))

-- ---- the same of what `run` promises: what its steps read makes up the input, and what they hand out the output
abbrev pub Moved : {room : ℕ} {buf : List ℕ} {n : ℕ} {after : List ℕ} {s : State} → Steps room buf n s after → List ℕ → List ℕ → List ℕ → Type 0
Moved none input future out = (input ≡ future) × (out ≡ [])
Moved {room = room} (more {s = s} {before = before} steps a) input future out =
    (coming : List ℕ) × (handed : List ℕ) × Moved steps input coming handed × Reads a coming future × (out ≡ handed ++ (block_at s before room).text)

steps-call : {room : ℕ} {buf : List ℕ} {n : ℕ} {after : List ℕ} {s : State} (steps : Steps room buf n s after) (input future out rest : List ℕ)
    → Moved steps input future out → Calls room s after future rest → Calls room first_state buf input (out ++ rest)
steps-call {room = room} {buf = buf} none input future out rest m calls =
    subst (λ (o : List ℕ). Calls room first_state buf input (o ++ rest)) (sym m.1)
    (subst (λ (f : List ℕ). Calls room first_state buf f rest) (sym m.0) calls)
steps-call {room = room} {buf = buf} (more {s = s} {before = before} steps a) input future out rest m calls =
    subst (Calls room first_state buf input) (sym (ap (λ (o : List ℕ). o ++ rest) m.4 ∙ append_assoc m.1 (block_at s before room).text rest))
    (steps-call steps input m.0 m.1 ((block_at s before room).text ++ rest) m.2 (Calls.step a m.3 calls))

-- and its last step, which ended it
abbrev pub Whole : {room : ℕ} {buf after : List ℕ} → Ran room buf (Ok tt) after → List ℕ → List ℕ → List ℕ → Type 0
Whole {room = room} (Ran.ended {s = s} {before = before} steps a) input future out =
    (coming : List ℕ) × (handed : List ℕ) × Moved steps input coming handed × Reads a coming future × (out ≡ handed ++ (block_at s before room).text)

pub run-answers : {room : ℕ} {buf after : List ℕ} → 64 ≤ room → 512 ≤ length buf → (r : Ran room buf (Ok tt) after) → (input future out : List ℕ)
    → Whole r input future out → out ≡ answers_of input
run-answers {room = room} {buf = buf} wide size (Ran.ended {s = s} {before = before} steps a) input future out m =
    all-answered wide size
    (subst (Calls room first_state buf input) (sym m.4) (steps-call steps input m.0 m.1 (block_at s before room).text m.2 (Calls.last a future m.3)))
