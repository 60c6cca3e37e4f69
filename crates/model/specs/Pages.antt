-- LIST: the rows of a page.
use Rattle.std.specs.Prelude.{ℕ, Bool, ◌&&◌, ◌||◌, List, eqb, ltb, take}
use Rattle.buffers.specs.Lists.{keep, same, begins}
use Rattle.model.specs.Rows.{Row, before}
use Rattle.model.specs.Requests.{Page}

-- The row's key begins with the prefix.
abbrev pub matches : List ℕ → Row → Bool
matches prefix x = begins prefix x.key

-- The row comes after this key and version: 0 means before that key's first row.
unfoldable pub comes_after : List ℕ → ℕ → Row → Bool
comes_after k v x = before k x.key || (same k x.key && (eqb v 0 || ltb x.number v))

-- The matching rows after a place.
abbrev pub rows_after_place : List ℕ → List ℕ → ℕ → List Row → List Row
rows_after_place prefix k v xs = keep (λ x. matches prefix x && comes_after k v x) xs

-- The first of them in table order, as many as the count says, or all if fewer.
abbrev pub page_rows : Page → List Row → List Row
page_rows p xs = take p.count (rows_after_place p.prefix p.key p.version xs)
