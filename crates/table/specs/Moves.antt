-- What the moves of rows do to a buffer, of which each row takes k elements.
use Rattle.std.specs.Prelude.{ℕ, ◌+◌, ◌-◌, ◌*◌, List, take, drop}
use Rattle.buffers.specs.Moves.{moved_up, moved_down}
use Rattle.buffers.specs.Writes.{placed}

-- the elements from a on and before e, changed
abbrev pub between : {A : Type 0} → ℕ → ℕ → (List A → List A) → List A → List A
between a e change l = placed l a (change (take (e - a) (drop a l)))

-- the used rows from position `at` on are moved by one, over the free row behind them
unfoldable pub opened : {A : Type 0} → ℕ → ℕ → ℕ → List A → List A
opened k used at l = between (k * at) (k * used + k) (moved_up k) l

-- the used rows behind position `at` are moved by one, over the row there; k times z comes in behind them
unfoldable pub closed : {A : Type 0} → ℕ → A → ℕ → ℕ → List A → List A
closed k z used at l = between (k * at) (k * used) (moved_down k z) l
