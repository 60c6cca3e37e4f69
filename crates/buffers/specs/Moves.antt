-- What a move by some places leaves of a list, within its own length.
use Rattle.std.specs.Prelude.{ℕ, ◌-◌, List, ◌++◌, length, take, drop, replicate}

-- moved up: the first `by` stay where they were, the last `by` are lost
unfoldable pub moved_up : {A : Type 0} → ℕ → List A → List A
moved_up by l = take by l ++ take (length l - by) l

-- moved down: the first `by` are lost, copies of x come in at the end
unfoldable pub moved_down : {A : Type 0} → ℕ → A → List A → List A
moved_down by x l = drop by l ++ replicate by x
