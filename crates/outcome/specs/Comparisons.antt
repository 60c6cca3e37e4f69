-- Document 02, M-103: the count of a call, for every bucket and line.
use Rattle.std.specs.Prelude.{ℕ, eqb}
use Rattle.buffers.specs.Choices.{pick}
use Rattle.model.specs.Settings.{Bucket}
use Rattle.model.specs.Requests.{Heard, unreadable, says}
use Rattle.model.specs.Comparisons.{comparisons_by}
use Rattle.bucket.specs.Whole.{Lent, bucket_of}
use Rattle.outcome.specs.Calls.{Call, heard}
use Rattle.outcome.specs.Outcome.{outcome}

-- The comparisons of what is heard.
abbrev pub comparisons_heard : Bucket → Heard → ℕ
comparisons_heard b (unreadable room) = 0
comparisons_heard b (says q) = comparisons_by b q.verb

-- The comparisons of an accepted call; a refused one counts none.
unfoldable pub comparisons_of : Lent → Call → ℕ
comparisons_of b g = pick (eqb (outcome b g).number 0) (comparisons_heard (bucket_of b) (heard g)) 0
