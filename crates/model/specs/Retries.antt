-- Document 02, M-101: a PUT that is a retry, and what a request then means.
use Rattle.std.specs.Prelude.{ℕ, ◌≡◌, Bool, ◌&&◌, List, eqb}
use Rattle.std.specs.Prelude.{Option, Some, None}
use Rattle.buffers.specs.Choices.{pick, then_some}
use Rattle.model.specs.Rows.{Row, is_data}
use Rattle.model.specs.Settings.{Bucket}
use Rattle.model.specs.Requests.{numbered, name, Repeat, Verb, Put, Copy, Retain, Hold, AddMarker, DeleteVersion, Set, Sweep, Ask, Request}
use Rattle.model.specs.Effects.{row_of}

-- The row is data with this body number and length.
abbrev pub repeats : ℕ → ℕ → Row → Bool
repeats body size x = is_data x && (eqb x.body body && eqb x.size size)

-- The row that a PUT is a retry of: the key's current row, if it is data with the same body number and length.
abbrev pub retry_of : List Row → List ℕ → ℕ → ℕ → Option Row
retry_of xs k body size = then_some (row_of xs (name k None)) None (λ x. pick (repeats body size x) (Some x) None)

-- The same as a statement: x is the key's current row, and data with the same body number and length.
pub record IsRetry (xs : List Row) (k : List ℕ) (body size : ℕ) (x : Row) : Type 0 where
  pub is_current : row_of xs (name k None) ≡ Some x
  pub kind_is_data : x.kind ≡ 1
  pub same_body : x.body ≡ body
  pub same_size : x.size ≡ size

-- What a verb means on these rows: a retry only asks for its row's number, and every other verb means itself.
abbrev pub meant : List Row → Verb → Verb
meant xs (Put k body size t) = then_some (retry_of xs k body size) (Put k body size t) (λ x. Ask (Repeat (numbered x.number)))
meant xs (Copy n k t) = Copy n k t
meant xs (Retain n r y) = Retain n r y
meant xs (Hold n on) = Hold n on
meant xs (AddMarker k y) = AddMarker k y
meant xs (DeleteVersion k v y) = DeleteVersion k v y
meant xs (Set s) = Set s
meant xs Sweep = Sweep
meant xs (Ask q) = Ask q

-- What a request means on a bucket.
abbrev pub meaning : Bucket → Request → Request
meaning b q = record { context = q.context; verb = meant b.rows q.verb }
