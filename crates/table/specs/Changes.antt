-- The changes of a table by position.
use Rattle.std.specs.Prelude.{ℕ, suc, List, ◌∷◌, ◌++◌, take, drop}
use Rattle.model.specs.Rows.{Row}

-- a row more at position i: the rows from there on move by one
abbrev pub insert_at : ℕ → Row → List Row → List Row
insert_at i x xs = take i xs ++ x ∷ drop i xs

-- a row fewer: the rows after position i move by one
abbrev pub remove_at : ℕ → List Row → List Row
remove_at i xs = take i xs ++ drop (suc i) xs
