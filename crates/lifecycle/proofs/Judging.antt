-- Judging a table's rows key by key is judging the list, and compares each rule with each different key once.
use Rattle.std.proofs.lemmas.List.{length-map}
use Rattle.std.proofs.Common.{◌≡◌, ℕ, zero, suc, ◌+◌, ◌-◌, ◌*◌, ◌<◌, ◌≤◌, Bool, true, false, eqb, List, [], ◌∷◌, ◌++◌, length, take, drop, map, sym, refl, ap, ◌∙◌, inl, inr, append_assoc, append-nil, mul-suc, arith, length-drop, length-take, length-take-le, take-append-drop, drop_of_length-le, get_or-drop, drop-cons, take-suc, ext_get_or, eqb-true}
use mathlib.Core.Bool.{false≢true}
use Rattle.std.specs.Prelude.{Option, Some, None}
use borrow.Author.Tests.{eqb-false}
use Rattle.buffers.specs.Choices.{pick}
use Rattle.buffers.specs.Lists.{all, same}
use Rattle.buffers.proofs.Lists.{same_path, keep_narrower, all_keep}
use Rattle.buffers.proofs.Tests.{either, and_l}
use Rattle.calendar.specs.Periods.{day_start}
use Rattle.model.specs.declared.Fate.{Fate}
use Rattle.model.specs.declared.Fate.TheVariants.{Stays}
use Rattle.model.specs.Rows.{Row, ordered}
use Rattle.model.specs.Settings as model
use Rattle.model.specs.Settings.{is_set}
use Rattle.model.specs.Sweep.{applying, fates}
use Rattle.model.specs.Comparisons.{set_rules, comparisons}
use Rattle.model.proofs.Comparisons.{beginnings, different_ordered}
use Rattle.table.specs.Contents.{spare_row, row_no}
use Rattle.lifecycle.specs.declared.Matched.{Matched}
use Rattle.lifecycle.specs.declared.KeyDone.{KeyDone}
use Rattle.lifecycle.specs.declared.Counts.{Counts}
use Rattle.lifecycle.specs.declared.Judged.{Judged}
use Rattle.lifecycle.specs.Least.{limits_of, most_comparisons, KeyMatched}
use Rattle.lifecycle.specs.declared.laid.LaidRule.{LaidRule}
use Rattle.lifecycle.specs.LaidRules.{rule_of, rules_in}
use Rattle.lifecycle.specs.Days.{few_days}
use Rattle.lifecycle.specs.Fates.{fates_after}
use Rattle.lifecycle.specs.Judging.{current_by, noncurrent_by, row_before, same_key, version_fate, fate_at, Counted, CountedOn, KeyEnds, Stored, JudgedKey, JudgedAll, JudgedRows}
use Rattle.lifecycle.proofs.Days.{current_most, noncurrent_most}
use Rattle.lifecycle.proofs.Fates.{fates_after_lem, counted_all}
use Rattle.lifecycle.proofs.RowFates.{current_is, noncurrent_is}
use Rattle.lifecycle.proofs.KeyRows.{same_none, same_some, stored_none, stored_more}

-- ## The ways through judge_key

-- A key's counts lie within its rows, so that all sums fit.
pub counts_fit : {A : Type 0} (fate_in : A → Fate) (x at : ℕ) (m : List A) → x ≤ length (take at (map fate_in m)) → at ≤ length m → x ≤ at
counts_fit fate_in x at m h l =
    let k : at ≤ length (map fate_in m) = omega (arith, l, length-map m fate_in) in
    omega (arith, h, length-take-le at (map fate_in m) k)

module _ (xs : List Row) (i r : ℕ) (e : KeyEnds xs i r) where
  pub versions_some : i < r
  versions_some = e.more

  pub versions_there : r ≤ length xs
  versions_there = e.most

  pub versions_fit : {A : Type 0} (m : List A) → length xs ≤ length m → r ≤ length m
  versions_fit m l = omega (arith, e.most)

module _ (us : List model.Rule) (t : ℕ) (xs : List Row) (u : ℕ) (d : u ≡ day_start t) where
  first_fate : (i : ℕ) → same_key xs i ≡ false → current_by (limits_of us (row_no xs i).key).current u (row_no xs i) ≡ fate_at us t xs i
  first_fate zero e = current_is us t u d (row_no xs 0)
  first_fate (suc i) e =
      let s : same (row_no xs i).key (row_no xs (suc i)).key ≡ false = sym (same_some xs i) ∙ e in
      rw s (current_is us t u d (row_no xs (suc i)))

  later_fate : (i : ℕ) → same_key xs i ≡ true → noncurrent_by (limits_of us (row_no xs i).key).noncurrent (row_no xs (i - 1)).created t u (row_no xs i) ≡ fate_at us t xs i
  later_fate zero e = absurd (false≢true (sym (same_none xs) ∙ e))
  later_fate (suc i) e =
      let s : same (row_no xs i).key (row_no xs (suc i)).key ≡ true = sym (same_some xs i) ∙ e in
      let p : suc i - 1 ≡ i = omega arith in
      rw (p, s) (noncurrent_is us t u d (row_no xs i) (row_no xs (suc i)))

-- Up to its end the rows have the key.
alike_key : (xs : List Row) (at r : ℕ) → KeyEnds xs at r → (i : ℕ) → at ≤ i → i < r → (row_no xs i).key ≡ (row_no xs at).key
alike_key xs at r e zero p q = let z : zero ≡ at = omega arith in ap (λ (k : ℕ). (row_no xs k).key) z
alike_key xs at r e (suc i) p q =
    elim (either (eqb (suc i) at)) [
      | inl s ↦ ap (λ (k : ℕ). (row_no xs k).key) (eqb-true (suc i) at s)
      | inr s ↦
          let y : at ≤ i = omega (arith, eqb-false (suc i) at s) in
          sym (same_path (row_no xs i).key (row_no xs (suc i)).key (sym (same_some xs i) ∙ e.alike (suc i) (omega arith) q)) ∙ alike_key xs at r e i y (omega arith)
    ]

module _ (us : List model.Rule) (xs : List Row) (at c : ℕ) (m : Matched) (h : KeyMatched us (row_no xs at).key c m) where
  pub current_few : all few_days us ≡ true → m.limits.current ≤ 36500
  current_few e = current_most us (row_no xs at).key m.limits e h.limits_are

  pub noncurrent_few : all few_days us ≡ true → m.limits.noncurrent ≤ 36500
  noncurrent_few e = noncurrent_most us (row_no xs at).key m.limits e h.limits_are

  pub judged_key : {A : Type 0} (cell : Fate → A) (fate_in : A → Fate) (t r u : ℕ) (so_far : Judged) (counts : Counts) (entry exit : List A) → KeyEnds xs at r → same_key xs at ≡ false → u ≡ day_start t → so_far.comparisons ≡ c
      → Stored cell (version_fate xs m.limits t u at) at r entry exit → CountedOn (map fate_in entry) (map fate_in exit) at r counts.removed counts.added → Counted (take at (map fate_in entry)) so_far.counts.removed so_far.counts.added
      → JudgedKey cell fate_in us t xs at so_far entry exit (record { end = r; judged = record { counts = record { removed = so_far.counts.removed + counts.removed; added = so_far.counts.added + counts.added }; comparisons = m.comparisons } })
  judged_key cell fate_in t r u so_far counts entry exit ends first d e s k o =
      record {
        ends = ends;
        stored = record { long = s.long; early = s.early; inside = λ i p q. s.inside i p q ∙ ap cell (own i p q); late = s.late };
        counts = k.on so_far.counts.removed so_far.counts.added o;
        compared = rw e h.counted;
      }
    where
      limits_at : (i : ℕ) → at ≤ i → i < r → m.limits ≡ limits_of us (row_no xs i).key
      limits_at i p q = h.limits_are ∙ ap (limits_of us) (sym (alike_key xs at r ends i p q))

      own : (i : ℕ) → at ≤ i → i < r → version_fate xs m.limits t u at i ≡ fate_at us t xs i
      own i p q =
          elim (either (eqb i at)) [
            | inl e ↦ rw (e, limits_at i p q) (first_fate us t xs u d i (ap (same_key xs) (eqb-true i at e) ∙ first))
            | inr e ↦ rw (e, limits_at i p q) (later_fate us t xs u d i (ends.alike i (omega (arith, eqb-false i at e)) q))
          ]

pub ruleset key_cases = (counts_fit, versions_some, versions_there, versions_fit, current_few, noncurrent_few, judged_key)

-- ## The rows of the table

rows_next : (xs : List Row) (i : ℕ) → i < length xs → drop i xs ≡ row_no xs i ∷ drop (suc i) xs
rows_next xs i h = drop-cons xs i spare_row h

rows_end : (xs : List Row) → drop (length xs) xs ≡ []
rows_end xs = drop_of_length-le xs {i = length xs} (omega arith)

-- Fates stored for all rows are theirs, and those behind them are as they were.
stored_all : {A : Type 0} (cell : Fate → A) (us : List model.Rule) (t : ℕ) (xs : List Row) (entry m : List A) → Stored cell (fate_at us t xs) 0 (length xs) entry m → length xs ≤ length entry → m ≡ fates_after cell us t xs entry
unfolding fates_after
stored_all cell us t xs entry m h l =
    let d : take (length xs) m ≡ map cell (fates us t None xs) = rw (rows_end xs, append-nil) at (done (length xs) (omega arith)) in
    sym (take-append-drop (length xs) m) ∙ rw (d, behind)
  where
    done : (i : ℕ) → i ≤ length xs → take i m ++ map cell (fates us t (row_before xs i) (drop i xs)) ≡ map cell (fates us t None xs)
    done zero g = refl
    done (suc i) g =
        rw (take-suc m i (cell Stays) (omega (arith, h.long)), append_assoc, h.inside i (omega arith) (omega arith)) (sym (rw (rows_next xs i (omega arith))) ∙ done i (omega arith))

    behind : drop (length xs) m ≡ drop (length xs) entry
    behind =
        ext_get_or (cell Stays) (drop (length xs) m) (drop (length xs) entry) (rw (length-drop (length xs) m, length-drop (length xs) entry, h.long))
        (λ i _. get_or-drop (length xs) m i (cell Stays) ∙ h.late (length xs + i) (omega arith) ∙ sym (get_or-drop (length xs) entry i (cell Stays)))

-- ## Where keys begin

module _ (xs : List Row) where
  -- how many keys begin from a position on
  abbrev begin_from : ℕ → ℕ
  begin_from i = beginnings (row_before xs i) (drop i xs)

  begin_next : (i : ℕ) (s : Bool) → i < length xs → same_key xs i ≡ s → begin_from i ≡ pick s 0 1 + begin_from (suc i)
  begin_next zero s g e = rw (rows_next xs 0 g, sym e ∙ same_none xs)
  begin_next (suc i) s g e = rw (rows_next xs (suc i) g, sym (same_some xs i) ∙ e)

  -- In the rows of a key one begins, its own.
  begin_key : (at r : ℕ) → KeyEnds xs at r → same_key xs at ≡ false → begin_from at ≡ 1 + begin_from r
  begin_key at r e f =
      let z : suc at + (r - suc at) ≡ r = omega (arith, e.more) in
      begin_next at false (omega (arith, e.more, e.most)) f ∙ ap (λ (x : ℕ). 1 + x) (go (r - suc at) (omega (arith, e.more)) ∙ ap begin_from z)
    where
      go : (x : ℕ) → suc at + x ≤ r → begin_from (suc at) ≡ begin_from (suc at + x)
      go zero l = let q : suc at + 0 ≡ suc at = omega arith in rw q
      go (suc x) l =
          let q : suc at + suc x ≡ suc (suc at + x) = omega arith in
          let s = begin_next (suc at + x) true (omega (arith, e.most)) (e.alike (suc at + x) (omega arith) (omega arith)) in
          rw q (omega (arith, go x (omega arith), s))

-- ## The loop over the keys

-- what holds at each turn: the fates so far are stored and counted, and the comparisons so far and those of the keys to come are all
pub record JudgingKeys {A : Type 0} (cell : Fate → A) (fate_in : A → Fate) (us : List model.Rule) (t : ℕ) (xs : List Row) (entry m : List A) (c : Judged) (i : ℕ) : Type 0 where
  pub low : i ≤ length xs
  pub first : i < length xs → same_key xs i ≡ false
  pub long : length m ≡ length entry
  pub stored : Stored cell (fate_at us t xs) 0 i entry m
  pub few : c.comparisons ≤ 8 * i
  pub counts : Counted (take i (map fate_in m)) c.counts.removed c.counts.added
  pub counted : c.comparisons + length us * beginnings (row_before xs i) (drop i xs) ≡ length us * beginnings None xs

pub keys_start : {A : Type 0} (cell : Fate → A) (fate_in : A → Fate) (us : List model.Rule) (t : ℕ) (xs : List Row) (entry : List A) → JudgingKeys cell fate_in us t xs entry entry (record { counts = record { removed = 0; added = 0 }; comparisons = 0 }) 0
keys_start cell fate_in us t xs entry =
    record { counts = counted_all; low = omega arith; first = λ _. same_none xs; long = refl; stored = stored_none cell (fate_at us t xs) 0 entry; few = omega arith; counted = omega arith }

module _ {A : Type 0} (cell : Fate → A) (fate_in : A → Fate) (us : List model.Rule) (t : ℕ) (xs : List Row) (entry m : List A) (c : Judged) (i : ℕ) (h : JudgingKeys cell fate_in us t xs entry m c i) where
  pub keys_long : length xs ≤ length entry → length xs ≤ length m
  keys_long l = omega (arith, h.long)

  pub keys_first : i < length xs → same_key xs i ≡ false
  keys_first = h.first

  pub keys_counted : Counted (take i (map fate_in m)) c.counts.removed c.counts.added
  keys_counted = h.counts

  pub keys_room : (k : ℕ) → i < length xs → length xs ≤ 1024 → k ≤ 8 → c.comparisons + k ≤ most_comparisons
  keys_room k g l e = omega (arith, h.few)

  pub keys_end : length xs ≤ i → length xs ≤ length entry → ordered xs ≡ true → JudgedAll cell fate_in us t xs entry m c
  keys_end g l o =
      let e : i ≡ length xs = omega (arith, h.low) in
      let s : Stored cell (fate_at us t xs) 0 (length xs) entry m = rw e at h.stored in
      let k : c.comparisons + length us * 0 ≡ length us * beginnings None xs = rw (e, rows_end xs) at h.counted in
      record {
        fates_are = stored_all cell us t xs entry m s l;
        enough = omega (arith, h.long);
        counts = rw e at h.counts;
        compared = rw (different_ordered xs o) (omega (arith, k));
      }

pub keys_step : {A : Type 0} (cell : Fate → A) (fate_in : A → Fate) (rs : List LaidRule) (t : ℕ) (xs : List Row) (entry m : List A) (c : Judged) (i : ℕ) (m' : List A) (r : KeyDone) → JudgingKeys cell fate_in (rules_in rs) t xs entry m c i → length rs ≤ 8 → i < length xs
    → JudgedKey cell fate_in (rules_in rs) t xs i c m m' r → JudgingKeys cell fate_in (rules_in rs) t xs entry m' r.judged r.end
keys_step cell fate_in rs t xs entry m c i m' r h l g j =
    record {
      low = j.ends.most;
      first = j.ends.other;
      long = j.stored.long ∙ h.long;
      stored = stored_more cell (fate_at (rules_in rs) t xs) i r.end entry m m' h.stored (omega (arith, j.ends.more)) j.stored;
      few = omega (arith, h.few, j.compared, j.ends.more, length-map rs rule_of);
      counts = j.counts;
      counted = omega (arith, j.compared, h.counted, one_key);
    }
  where
    one_key : length (rules_in rs) * begin_from xs i ≡ length (rules_in rs) * begin_from xs r.end + length (rules_in rs)
    one_key =
        let q : 1 + begin_from xs r.end ≡ suc (begin_from xs r.end) = omega arith in
        ap (λ (y : ℕ). length (rules_in rs) * y) (begin_key xs i r.end j.ends (h.first g) ∙ q) ∙ mul-suc (length (rules_in rs)) (begin_from xs r.end)

pub ruleset keys_cases = (keys_start, keys_long, keys_first, keys_counted, keys_room, keys_step, keys_end)

-- ## The rules that are set

-- A rule that isn't set applies to no key.
applying_set : (us : List model.Rule) (k : List ℕ) → applying (set_rules us) k ≡ applying us k
applying_set us k = keep_narrower _ is_set (λ u e. and_l (is_set u) _ e) us

fates_set : (us : List model.Rule) (t : ℕ) (y : Option Row) (xs : List Row) → fates (set_rules us) t y xs ≡ fates us t y xs
fates_set us t y [] = refl
fates_set us t None (x ∷ xs) = rw (applying_set us x.key, fates_set us t (Some x) xs)
fates_set us t (Some y) (x ∷ xs) = rw (applying_set us x.key, fates_set us t (Some x) xs)

few_set : (us : List model.Rule) → all few_days us ≡ true → all few_days (set_rules us) ≡ true
few_set us e = all_keep few_days is_set us e

module _ (rs : List LaidRule) (us : List model.Rule) (laid : rules_in rs ≡ set_rules us) where
  pub laid_days : all few_days us ≡ true → all few_days (rules_in rs) ≡ true
  laid_days e = ap (all few_days) laid ∙ few_set us e

  module _ {A : Type 0} (cell : Fate → A) (fate_in : A → Fate) (t : ℕ) (xs : List Row) (entry exit : List A) (r : Judged) (h : JudgedAll cell fate_in (rules_in rs) t xs entry exit r) where
    pub judged_laid : ((f : Fate) → fate_in (cell f) ≡ f) → JudgedRows cell us t xs entry exit r.counts
    unfolding fates_after
    judged_laid back =
        let f : exit ≡ fates_after cell us t xs entry = h.fates_are ∙ rw (laid, fates_set us t None xs) in
        let e : take (length xs) (map fate_in exit) ≡ fates us t None xs = rw f (fates_after_lem cell fate_in back us t xs entry) in
        let n : length xs ≤ length (map fate_in exit) = omega (arith, h.enough, length-map exit fate_in) in
        let l = length-take-le (length xs) (map fate_in exit) n in
        record {
          fates_are = f;
          removed = record { is = rw e at h.counts.gone.is; most = omega (arith, h.counts.gone.most) };
          added = record { is = rw e at h.counts.come.is; most = omega (arith, h.counts.come.most) };
        }

    pub judged_compared : r.comparisons ≡ comparisons us xs
    unfolding comparisons
    judged_compared = h.compared ∙ rw laid

-- The same of an instant that is told otherwise.
pub judged_on : {A : Type 0} (cell : Fate → A) (us : List model.Rule) (s t : ℕ) (xs : List Row) (entry exit : List A) (r : Counts) → s ≡ t → JudgedRows cell us s xs entry exit r → JudgedRows cell us t xs entry exit r
judged_on cell us s t xs entry exit r e h = rw e at h

pub laid_few : (n : ℕ) (rs : List LaidRule) → n ≤ 8 → length (take n rs) ≤ 8
laid_few n rs h = omega (arith, length-take n rs)

pub ruleset laid_cases = (laid_few, laid_days, judged_laid, judged_compared)
