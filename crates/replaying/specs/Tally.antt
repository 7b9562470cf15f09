-- How answers are counted, as a machine counts. Assumes nothing.
use Rattle.std.specs.Prelude.{ℕ, ◌+◌, ◌%◌, ◌^◌, cond, ◌==◌}
use Rattle.entitlements.specs.declared.Answer.{Answer}
use Rattle.entitlements.specs.declared.Answer.TheVariants as answer
use Rattle.replaying.specs.declared.Counts.{Counts}

-- which of the six answers this is, from 1 on; 0 for one that no record gets
abbrev pub rank_of : Answer → ℕ
rank_of answer.Activated = 1
rank_of answer.Already = 2
rank_of answer.Cancelled = 3
rank_of answer.NotActive = 4
rank_of answer.Old = 5
rank_of answer.Full = 6
rank_of answer.Account = 0
rank_of answer.Number = 0
rank_of answer.Code = 0

-- one more where the rank is the one that is counted, as a machine counts
abbrev pub more_of : ℕ → ℕ → ℕ → ℕ
more_of count rank counted = cond (rank == counted) ((count + 1) % 2 ^ 64) count

-- the counts with one more answer
abbrev pub tallied : Counts → Answer → Counts
tallied counts a = record {
  activated = more_of counts.activated (rank_of a) 1;
  already = more_of counts.already (rank_of a) 2;
  cancelled = more_of counts.cancelled (rank_of a) 3;
  inactive = more_of counts.inactive (rank_of a) 4;
  old = more_of counts.old (rank_of a) 5;
  full = more_of counts.full (rank_of a) 6;
}
