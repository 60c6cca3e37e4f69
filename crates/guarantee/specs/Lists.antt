-- A list of lines on one bucket with one answer buffer.
use Rattle.std.specs.Prelude.{ℕ, ◌+◌, ◌≤◌, List, [], ◌∷◌, ◌≡◌, length, drop}
use Rattle.text.specs.Lines.{lines_of}
use Rattle.model.specs.Run.{left, gathered}
use Rattle.bucket.specs.Whole.{Lent}
use Rattle.outcome.specs.Calls.{Call, call}
use Rattle.outcome.specs.Outcome.{outcome}

-- What a list of lines leaves.
pub record Ended : Type 0 where
  pub bucket : Lent
  pub answer : List ℕ

abbrev pub ended : Lent → List ℕ → Ended
ended s answer = record { bucket = s; answer = answer }

-- A line is handed the bucket and the answer buffer that the one before it left.
abbrev pub line_step : Ended → List ℕ → Ended
line_step e l = let o = outcome e.bucket (call l e.answer) in ended o.bucket o.answer

abbrev pub served_lines : Lent → List ℕ → List (List ℕ) → Ended
served_lines s answer ls = left line_step (ended s answer) ls

-- The same lines as calls.
abbrev pub calls_of : Lent → List ℕ → List (List ℕ) → List Call
calls_of s answer ls = gathered line_step (λ e l. call l e.answer ∷ []) (ended s answer) ls

-- What holds between two lines: the lines from i on lead to the end, and the buffers have their lengths.
pub record Serving (text : List ℕ) (end : Ended) (b₀ : Lent) (answer₀ : List ℕ) (i : ℕ) (b : Lent) (answer : List ℕ) : Type 0 where
  pub leads : end ≡ served_lines b answer (lines_of (drop i text))
  pub most : i ≤ length text + 1
  pub numbers_long : length b.numbers ≡ length b₀.numbers
  pub keys_long : length b.keys ≡ length b₀.keys
  pub answer_long : length answer ≡ length answer₀
