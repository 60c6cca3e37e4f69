-- Where a page's rows stand in an ordered table: one run, from its start to its end.
use Rattle.std.specs.Prelude.{ℕ, ◌+◌, ◌-◌, ◌≤◌, min, max, ◌≡◌, Bool, false, not, ◌||◌, List}
use Rattle.std.specs.declared.cmp.Ordering.{Ordering}
use Rattle.std.specs.declared.cmp.Ordering.TheVariants.{Less, Equal, Greater}
use Rattle.model.specs.Rows.{Row, before}
use Rattle.model.specs.Pages.{matches, comes_after}
use Rattle.search.specs.Places.{leading, key_place}

-- the place after a key and a version: behind the rows that do not come after them
unfoldable pub place_after : List ℕ → ℕ → List Row → ℕ
place_after k v xs = leading (λ x. not (comes_after k v x)) xs

-- a page's start: the later of the prefix's place and the place after the key and the version
unfoldable pub page_start : List ℕ → List ℕ → ℕ → List Row → ℕ
page_start prefix k v xs = max (key_place prefix xs) (place_after k v xs)

-- the row's key is before the prefix or begins with it
abbrev pub up_to : List ℕ → Row → Bool
up_to prefix x = before x.key prefix || matches prefix x

-- what an `Ordering` says of a row and the end of a prefix's rows, from where these begin on
abbrev pub is_prefix_order : Ordering → List ℕ → Row → Bool
is_prefix_order Less prefix x = matches prefix x
is_prefix_order Equal prefix x = false
is_prefix_order Greater prefix x = not (matches prefix x)

-- behind the last row whose key begins with the prefix
unfoldable pub prefix_end : List ℕ → List Row → ℕ
prefix_end prefix xs = leading (up_to prefix) xs

-- a page's end: behind the prefix's rows, or behind `count` rows
unfoldable pub page_end : List ℕ → ℕ → ℕ → List Row → ℕ
page_end prefix start count xs = start + min count (prefix_end prefix xs - start)

-- A page's end: exactly there, at most `count` rows behind its start, and within the used rows.
pub record Ends (start count r end used : ℕ) : Type 0 where
  pub is : r ≡ end
  pub from : start ≤ r
  pub few : r ≤ start + count
  pub to : r ≤ used
