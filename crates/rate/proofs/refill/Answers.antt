-- `rate::refill` meets its contract: the bytes that wait stand in front, and what is read goes into the tail. Assumes nothing.
use borrow.Rule.Slice.PartMut.{same_len_mid}
use Rattle.std.proofs.Common.{ℕ, List, [], ◌≡◌, sym, ap, subst, take, length-take-le, ◌+◌, ◌-◌, ◌≤◌, ◌∙◌, arith, length}
use Rattle.std.specs.Io.KnownBytes.{Consumes}
use Rattle.rate.proofs.Moves.{read_behind, taken_behind, waiting-length}
use Rattle.rate.proofs.refill.Goals as goal

pub returns-clause-refilled : goal.returns-clause-refilled
returns-clause-refilled g c =
    let st = c.args.state in
    let buf = c.args.buf.now in
    let keep = st.end - st.start in
    let moves = c.copy_within in
    let shifted = moves.new.self in
    let n = length shifted - keep in
    let got = c.read.new.buf in
    let fits : keep + c.in-Ok.more ≤ length buf =
    omega (arith, c.in-Ok.ensures.bound.0, c.read.auto.buf, moves.ensures.len, c.requires.order, c.requires.within) in
    read_behind st buf shifted got n c.in-Ok.more c.requires moves.ensures.after moves.ensures.len
    (same_len_mid keep n shifted got c.read.auto.buf ∙ moves.ensures.len) fits

none : (n : ℕ) (l : List ℕ) → n ≤ length l → take n l ≡ [] → n ≡ 0
none n l h e = sym (length-take-le n l h) ∙ ap length e

pub returns-clause-taken : goal.returns-clause-taken
returns-clause-taken g c =
    let st = c.args.state in
    let buf = c.args.buf.now in
    let keep = st.end - st.start in
    let moves = c.copy_within in
    let shifted = moves.new.self in
    let n = length shifted - keep in
    let got = c.read.new.buf in
    let more = c.in-Ok.more in
    let behind = taken_behind st buf shifted got n more c.requires moves.ensures.len c.in-Ok.ensures.bound.0 in
    let bytes = c.in-Ok.ensures.bytes in
    record {
      front = subst (Consumes (g.R.Read.remaining c.args.input.now) (g.R.Read.remaining c.read.new.self)) (sym behind) bytes.0;
      end = λ room empty.
          bytes.1 (none more got c.in-Ok.ensures.bound.0 (sym behind ∙ empty))
          (omega (arith, room, waiting-length st buf c.requires, c.read.auto.buf, moves.ensures.len));
    }
