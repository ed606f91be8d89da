-- `energy::corrections::reverberation` meets its contract: the table of times is one of thresholds, and ascends. Assumes nothing.
use borrow.Author.Rules.{rules}
use lib.Dec.{leb}
use Rattle.std.proofs.lemmas.List.Sorted.{IsPartitionedBy-leb, IsPartitionPoint-from_clause}
use Rattle.energy.proofs.Lists.{times}
use Rattle.energy.proofs.Thresholds.{point_reached}
use Rattle.energy.proofs.Amounts.{time-is, times-rise}
use Rattle.energy.proofs.corrections.reverberation.Goals as goal

pub returns : goal.returns
unfolding times
returns c =
    let t = c.args.t in
    let r = c.partition_point.result in
    time-is t r c.requires.0 c.requires.1
    (point_reached times t r c.partition_point.ensures.bound
    (IsPartitionPoint-from_clause (λ y. leb y t) times r c.partition_point.ensures.partitioned
    (IsPartitionedBy-leb (λ y. y) times t times-rise) (λ a r f k. search rules)))
