-- Document 02, M-103: how many comparisons of a prefix with a key a line makes. Neither the table's order nor the sweep's way plays a part.
use Rattle.std.specs.Prelude.{ℕ, ◌*◌, ◌≡◌, Bool, true, not, ◌&&◌, List, [], ◌∷◌, map, length}
use Rattle.buffers.specs.Choices.{pick}
use Rattle.buffers.specs.Lists.{keep, any, same}
use Rattle.model.specs.Rows.{Row}
use Rattle.model.specs.Settings.{Rule, Bucket, is_set}
use Rattle.model.specs.Requests.{Verb, Put, Copy, Retain, Hold, AddMarker, DeleteVersion, Set, Sweep, Ask}

-- The rules that are set.
abbrev pub set_rules : List Rule → List Rule
set_rules rules = keep is_set rules

-- The keys of rows, one for each row.
abbrev pub row_keys : List Row → List (List ℕ)
row_keys rows = map (λ x. x.key) rows

abbrev pub is_among : List ℕ → List (List ℕ) → Bool
is_among k ks = any (same k) ks

-- The different keys of a list, each of them once.
abbrev pub different : List (List ℕ) → List (List ℕ)
different [] = []
different (k ∷ ks) = pick (is_among k ks) (different ks) (k ∷ different ks)

-- A sweep compares each rule that is set with each different key once.
unfoldable pub comparisons : List Rule → List Row → ℕ
comparisons rules rows = length (set_rules rules) * length (different (row_keys rows))

-- SWEEP alone compares.
unfoldable pub comparisons_by : Bucket → Verb → ℕ
comparisons_by b (Put k body size t) = 0
comparisons_by b (Copy n k t) = 0
comparisons_by b (Retain n r y) = 0
comparisons_by b (Hold n on) = 0
comparisons_by b (AddMarker k y) = 0
comparisons_by b (DeleteVersion k v y) = 0
comparisons_by b (Set s) = 0
comparisons_by b Sweep = comparisons b.settings.config.rules b.rows
comparisons_by b (Ask q) = 0

-- ## Different keys, whatever the list's order

-- No key stands twice.
abbrev pub all_differ : List (List ℕ) → Bool
all_differ [] = true
all_differ (k ∷ ks) = not (is_among k ks) && all_differ ks

-- The second list has the keys of the first, none of them twice.
pub record Different (ks ds : List (List ℕ)) : Type 0 where
  pub same_keys : (k : List ℕ) → is_among k ds ≡ is_among k ks
  pub once : all_differ ds ≡ true
