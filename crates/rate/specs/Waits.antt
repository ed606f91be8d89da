-- What the program does with its bytes from turn to turn: what can be said without its input and output, and, of a reader whose
-- bytes are known, what it takes from it.
use Rattle.std.specs.Prelude.{true, false, List, [], ◌++◌, ◌≡◌, ℕ, suc, ◌-◌, ◌≤◌, ◌<◌, eqb, length, take, drop, Option, None, Some, Result, Ok, Err, IfSome}
use Rattle.std.specs.Io.KnownBytes.{Keeps, Consumes, IsAtEnd}
use Rattle.line.specs.Blocks.{Block, block_of}
use Rattle.rate.specs.declared.State.{State}
use Rattle.rate.specs.declared.Turn.{Turn}
use Rattle.rate.specs.declared.Unfinished.{Unfinished}

-- the bytes that wait lie within the buffer, from `start` to `end`
pub record Waits (s : State) (n : ℕ) : Type 0 where
  pub order : s.start ≤ s.end
  pub within : s.end ≤ n

abbrev pub waiting : State → List ℕ → List ℕ
waiting s buf = take (s.end - s.start) (drop s.start buf)

-- what the block call makes of them
abbrev pub block_at : State → List ℕ → ℕ → Block
block_at s buf room = block_of (waiting s buf) room s.skipping s.last

-- the first state: nothing waits
abbrev pub first_state : State
first_state = record { start = 0; end = 0; skipping = false; last = false }

-- after a call: what it left waits
pub record Left (s : State) (buf : List ℕ) (room : ℕ) (r : State) : Type 0 where
  pub waits : waiting r buf ≡ drop (block_at s buf room).used (waiting s buf)
  pub skipping : r.skipping ≡ (block_at s buf room).skipping
  pub last : r.last ≡ s.last

-- a call, with its answer in front of the output
pub record Called (s : State) (buf : List ℕ) (room : ℕ) (t : Turn) (out : List ℕ) : Type 0 where
  pub within : Waits t.state (length buf)
  pub left : Left s buf room t.state
  pub used : t.used ≡ (block_at s buf room).used
  pub text : take t.wrote out ≡ (block_at s buf room).text
  pub fits : t.wrote ≤ length out

-- after a read: what waited still waits, in front; behind it, whatever waits now besides. The input has ended where that is nothing
abbrev pub read_behind : State → State → List ℕ → List ℕ
read_behind s r after = drop (s.end - s.start) (waiting r after)

pub record Refilled (s : State) (buf : List ℕ) (r : State) (after : List ℕ) : Type 0 where
  pub waits : waiting r after ≡ waiting s buf ++ read_behind s r after
  pub last : r.last ≡ eqb (length (read_behind s r after)) 0
  pub skipping : r.skipping ≡ s.skipping
  pub size : length after ≡ length buf

-- One step of a run: where the call used something, the run goes on with what it left; where it used nothing, the run ends
-- with the input, or goes on with what was read. Or a read or a write failed.
pub data Advanced (s : State) (buf : List ℕ) (room : ℕ) : Result (Option State) Unfinished → List ℕ → Type 0 where
  answered : {r : State} {after : List ℕ} → ((block_at s buf room).used ≡ 0 → ⊥) → after ≡ buf → Left s buf room r → Advanced s buf room (Ok (Some r)) after
  ended : {after : List ℕ} → (block_at s buf room).used ≡ 0 → s.last ≡ true → Advanced s buf room (Ok None) after
  read : {r : State} {after : List ℕ} → (block_at s buf room).used ≡ 0 → s.last ≡ false → Refilled s buf r after → Advanced s buf room (Ok (Some r)) after
  broken : {why : Unfinished} {after : List ℕ} → Advanced s buf room (Err why) after

-- What a read takes of an input whose bytes are known: those that wait behind what waited. With room for one it takes none only at
-- the end.
pub record Taken (s : State) (buf : List ℕ) (r : State) (after : List ℕ) (old new : Option (List ℕ)) : Type 0 where
  pub front : Consumes old new (read_behind s r after)
  pub end : length (waiting s buf) < length buf → read_behind s r after ≡ [] → IsAtEnd new

-- What a step takes of it: something only where the call used nothing and the input had not ended.
pub record Took (s : State) (buf : List ℕ) (room : ℕ) (next : Option State) (after : List ℕ) (old new : Option (List ℕ)) : Type 0 where
  pub by_answer : ((block_at s buf room).used ≡ 0 → ⊥) → Keeps old new
  pub by_end : s.last ≡ true → Keeps old new
  pub by_read : (block_at s buf room).used ≡ 0 → s.last ≡ false → IfSome next (λ r. Taken s buf r after old new)

-- steps one after another, from the first state on: the state and the buffer that so many of them lead to
pub data Steps (room : ℕ) (buf : List ℕ) : ℕ → State → List ℕ → Type 0 where
  none : Steps room buf 0 first_state buf
  more : {n : ℕ} {s r : State} {before after : List ℕ} → Steps room buf n s before → Advanced s before room (Ok (Some r)) after
      → Steps room buf (suc n) r after

-- A run: such steps until one more ends it, or fails, or until all turns are used up.
abbrev pub most_turns : ℕ
most_turns = 18446744073709551615

pub data Ran (room : ℕ) (buf : List ℕ) : Result Unit Unfinished → List ℕ → Type 0 where
  ended : {n : ℕ} {s : State} {before after : List ℕ} → Steps room buf n s before → Advanced s before room (Ok None) after → Ran room buf (Ok tt) after
  broken : {n : ℕ} {s : State} {before after : List ℕ} {why told : Unfinished} → Steps room buf n s before → Advanced s before room (Err why) after
      → Ran room buf (Err told) after
  used_up : {s : State} {after : List ℕ} {told : Unfinished} → Steps room buf most_turns s after → Ran room buf (Err told) after
