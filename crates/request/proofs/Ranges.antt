-- What a line says lies in 01's ranges, and its keys and prefixes lie within the line.
use Prim.Native.Nat.{ℕ}
use mathlib.Core.Path.{◌≡◌, refl, subst}
use mathlib.Core.Bool.{Bool, true, false, not, ◌&&◌, ◌||◌}
use mathlib.Core.List.{List}
use Rattle.std.specs.Prelude.{Option, Some, None, ◌==◌, if◌then◌else◌}
use native.Mathlib.Omega.{arith}
use lib.Dec.{eqb, leb, ltb}
use lib.ListN.{length, drop, length-drop}
use lib.Seq.{length-take-le}
use borrow.Author.Tests.{lt-ltb, leb-true, le-leb}
use Rattle.buffers.specs.Choices.{◌>>=◌}
use Rattle.buffers.specs.Ranges.{Span}
use Rattle.buffers.proofs.Tests.{and_i}
use Rattle.text.specs.declared.Place.{Place}
use Rattle.text.specs.Numbers.{number_of, positive_of}
use Rattle.text.specs.Fields.{field_of, place_of, part_of}
use Rattle.text.specs.Keys.{is_key, is_prefix}
use Rattle.text.proofs.Reading.{number_most, positive_range}
use Rattle.text.proofs.Fields.{place_within, place_field}
use Rattle.calendar.specs.Calendar.{latest}
use Rattle.dates.specs.Reading.{read_date}
use Rattle.dates.proofs.Reading.{read_most}
use Rattle.model.specs.Settings.{largest_number, spent_number, days, years, is_period}
use Rattle.model.specs.Rows.{bodies}
use Rattle.model.specs.Requests.{numbered, is_version, is_name, is_mode_field, is_date_field, is_retention, is_period_field, largest_count, in_range}
use Rattle.std.specs.Option.{option_map}
use Rattle.model.specs.declared.Mode.{Mode}
use Rattle.model.specs.Kinds.{mode_number}
use Rattle.fields.specs.declared.Period.{Period}
use Rattle.fields.specs.declared.Retention.{Retention}
use Rattle.fields.specs.declared.Terms.{Terms}
use Rattle.fields.specs.Fields.{read_key, read_prefix, read_version, read_mode, read_until, read_period}
use Rattle.fields.specs.Meaning.{version_means, period_means, Inside, retention_means}
use Rattle.request.specs.declared.Name.{Name}
use Rattle.request.specs.declared.Verb.{Verb}
use Rattle.request.specs.declared.Verb.TheVariants.{Act, Ask}
use Rattle.request.specs.declared.Query.TheVariants.{ListVersions}
use Rattle.request.specs.declared.Request.{Request}
use Rattle.request.specs.Meaning.{name_means, verb_means, VerbInside}
use Rattle.request.specs.Grammar.{name_at, retention_at, terms_at, put_of, copy_of, retain_of, set_hold_of, deletes, delete_of, default_of, rule_of, sweep_of, get_of, names_place, list_of, report_of, query_by_word, other_by_word, verb_by_word, request_in, Said, read_line}

-- this holds of whatever is read
pub record Passes (A : Type 0) (P : A → Type 0) (w : Option A) : Type 0 where
  pub holds : (a : A) → w ≡ Some a → P a

module _ (A : Type 0) (P : A → Type 0) where
  pub pass_none : Passes A P None
  pass_none = record { holds = λ a e. let z : ◌≡◌ {A = ℕ} 0 1 = cc in absurd (omega arith) }

  pub pass_some : (a : A) → P a → Passes A P (Some a)
  pass_some a h = record { holds = λ b e. let q : a ≡ b = cc in subst P q h }

  pub pass_if : (t : Bool) (x y : Option A) → (t ≡ true → Passes A P x) → (t ≡ false → Passes A P y) → Passes A P (if t then x else y)
  pass_if true x y f g = f refl
  pass_if false x y f g = g refl

  pub pass_bind : (B : Type 0) (w : Option B) (f : B → Option A) → ((b : B) → w ≡ Some b → Passes A P (f b)) → Passes A P (w >>= f)
  pass_bind B None f g = pass_none
  pass_bind B (Some b) f g = g b refl

pub ruleset ways = (pass_none, pass_some, pass_if, pass_bind, refl)

-- ## Keys and prefixes

-- the bytes at the place are those of field i and pass the test, and the place lies within the line
record Placed (test : List ℕ → Bool) (s : List ℕ) (i : ℕ) (k : Place) : Type 0 where
  bytes_are : part_of s k ≡ field_of s i
  tested : test (part_of s k) ≡ true
  inside : Inside s k

module _ (s : List ℕ) (i : ℕ) where
  placed : (test : List ℕ → Bool) → Passes Place (Placed test s i) (if test (field_of s i) then Some (place_of s i) else None)
  placed test =
      search (ways, there) depth 9
    where
      there : test (field_of s i) ≡ true → Placed test s i (place_of s i)
      there h = record { bytes_are = place_field s i; tested = rw (place_field s i) h; inside = record { end = place_within s i } }

  module _ (k : Place) where
    key_in : read_key s i ≡ Some k → is_key (part_of s k) ≡ true
    unfolding read_key
    key_in e = ((placed is_key).holds k e).tested

    pub key_field : read_key s i ≡ Some k → part_of s k ≡ field_of s i
    unfolding read_key
    key_field e = ((placed is_key).holds k e).bytes_are

    key_inside : read_key s i ≡ Some k → Inside s k
    unfolding read_key
    key_inside e = ((placed is_key).holds k e).inside

    prefix_in : read_prefix s i ≡ Some k → is_prefix (part_of s k) ≡ true
    unfolding read_prefix
    prefix_in e = ((placed is_prefix).holds k e).tested

    pub prefix_field : read_prefix s i ≡ Some k → part_of s k ≡ field_of s i
    unfolding read_prefix
    prefix_field e = ((placed is_prefix).holds k e).bytes_are

    prefix_inside : read_prefix s i ≡ Some k → Inside s k
    unfolding read_prefix
    prefix_inside e = ((placed is_prefix).holds k e).inside

-- ## The other fields

module _ (s : List ℕ) where
  number_in : (k n : ℕ) → number_of k s ≡ Some n → leb n k ≡ true
  number_in k n e = le-leb n k (number_most k s n e)

  body_in : (n : ℕ) → number_of 18446744073709551615 s ≡ Some n → ltb n bodies ≡ true
  body_in n e = let h = number_most 18446744073709551615 s n e in lt-ltb n bodies (omega arith)

  place_in : (n : ℕ) → number_of 7 s ≡ Some n → ltb n 8 ≡ true
  place_in n e = let h = number_most 7 s n e in lt-ltb n 8 (omega arith)

  clock_in : (t : ℕ) → read_date s ≡ Some t → leb t latest ≡ true
  clock_in t e = le-leb t latest (read_most s t e)

  numbered_in : (n : ℕ) → positive_of largest_number s ≡ Some n → is_version (Some (numbered n)) ≡ true
  numbered_in n e =
      let h = positive_range largest_number s n e in
      and_i (leb 1 n) _ (le-leb 1 n h.from) (lt-ltb n spent_number (omega arith))

  days_in : (n : ℕ) → positive_of 36500 s ≡ Some n → is_period n days ≡ true
  days_in n e = let h = positive_range 36500 s n e in rw (le-leb 1 n h.from, le-leb n 36500 h.to)

  count_in : (n : ℕ) → positive_of largest_count s ≡ Some n → Span 1 n largest_count
  count_in n e = positive_range largest_count s n e

  years_in : (n : ℕ) → positive_of 100 s ≡ Some n → is_period n years ≡ true
  years_in n e = let h = positive_range 100 s n e in rw (le-leb 1 n h.from, le-leb n 100 h.to)

module _ (s : List ℕ) where
  version_passes : Passes (Option ℕ) (λ v. is_version (version_means v) ≡ true) (read_version s)
  unfolding read_version
  version_passes = search (ways, numbered_in) depth 9

  mode_passes : Passes (Option Mode) (λ m. is_mode_field (option_map mode_number m) ≡ true) (read_mode s)
  unfolding read_mode
  mode_passes = search ways depth 9

  until_passes : Passes (Option ℕ) (λ d. is_date_field d ≡ true) (read_until s)
  unfolding read_until
  until_passes = search (ways, clock_in) depth 9

  period_passes : Passes (Option Period) (λ p. is_period_field (option_map period_means p) ≡ true) (read_period s)
  unfolding read_period
  period_passes = search (ways, days_in, years_in) depth 12

  version_in : (v : Option ℕ) → read_version s ≡ Some v → is_version (version_means v) ≡ true
  version_in = version_passes.holds

  mode_in : (m : Option Mode) → read_mode s ≡ Some m → is_mode_field (option_map mode_number m) ≡ true
  mode_in = mode_passes.holds

  until_in : (d : Option ℕ) → read_until s ≡ Some d → is_date_field d ≡ true
  until_in = until_passes.holds

  period_in : (p : Option Period) → read_period s ≡ Some p → is_period_field (option_map period_means p) ≡ true
  period_in = period_passes.holds

ruleset fields = (and_i, key_in, key_inside, prefix_in, prefix_inside, version_in, mode_in, until_in, period_in, number_in, body_in, place_in)

-- ## Several fields

record NameStands (s : List ℕ) (n : Name) : Type 0 where
  range : is_name (name_means s n) ≡ true
  inside : Inside s n.key

module _ (s : List ℕ) (i j : ℕ) where
  name_passes : Passes Name (NameStands s) (name_at s i j)
  unfolding name_at
  name_passes = search (ways, fields) depth 12

  retention_passes : Passes Retention (λ r. is_retention (retention_means r) ≡ true) (retention_at s i j)
  unfolding retention_at
  retention_passes = search (ways, fields) depth 12

  name_in : (n : Name) → name_at s i j ≡ Some n → is_name (name_means s n) ≡ true
  name_in n e = (name_passes.holds n e).range

  name_inside : (n : Name) → name_at s i j ≡ Some n → Inside s n.key
  name_inside n e = (name_passes.holds n e).inside

  retention_in : (r : Retention) → retention_at s i j ≡ Some r → is_retention (retention_means r) ≡ true
  retention_in = retention_passes.holds

module _ (s : List ℕ) where
  terms_passes : Passes Terms (λ t. is_retention (retention_means t.retention) ≡ true) (terms_at s)
  unfolding terms_at
  terms_passes = search (ways, retention_in) depth 12

  terms_in : (t : Terms) → terms_at s ≡ Some t → is_retention (retention_means t.retention) ≡ true
  terms_in = terms_passes.holds

-- ## Verbs

ruleset ranges = (fields, name_in, name_inside, retention_in, terms_in)

record Stands (s : List ℕ) (v : Verb) : Type 0 where
  range : in_range (verb_means s v) ≡ true
  inside : VerbInside s v

module _ (s : List ℕ) where
  put_passes : Passes Verb (Stands s) (put_of s)
  unfolding put_of in_range
  put_passes = search (ways, ranges) depth 16

  copy_passes : Passes Verb (Stands s) (copy_of s)
  unfolding copy_of in_range
  copy_passes = search (ways, ranges) depth 16

  retain_passes : Passes Verb (Stands s) (retain_of s)
  unfolding retain_of in_range
  retain_passes = search (ways, ranges) depth 16

  set_hold_passes : Passes Verb (Stands s) (set_hold_of s)
  unfolding set_hold_of in_range
  set_hold_passes = search (ways, ranges) depth 16

  delete_passes : Passes Verb (Stands s) (delete_of s)
  unfolding delete_of in_range
  delete_passes = search (ways, ranges, by_version) depth 16
    where
      by_version : (k : Place) (y : Bool) (v : Option ℕ) → is_key (part_of s k) ≡ true → Inside s k → is_version (version_means v) ≡ true → Stands s (Act (deletes k v y))
      by_version k y None h i e = record { range = h; inside = i }
      by_version k y (Some n) h i e = record { range = and_i (is_key (part_of s k)) _ h e; inside = i }

  default_passes : Passes Verb (Stands s) (default_of s)
  unfolding default_of in_range
  default_passes = search (ways, ranges) depth 16

  rule_passes : Passes Verb (Stands s) (rule_of s)
  unfolding rule_of in_range
  rule_passes = search (ways, ranges) depth 16

  sweep_passes : Passes Verb (Stands s) (sweep_of s)
  unfolding sweep_of in_range
  sweep_passes = search (ways, ranges) depth 16

  get_passes : Passes Verb (Stands s) (get_of s)
  unfolding get_of in_range
  get_passes = search (ways, ranges) depth 16

  page_stands : (p k : Place) (v n : ℕ) → is_prefix (part_of s p) ≡ true → Inside s p → is_prefix (part_of s k) ≡ true → Inside s k → leb v largest_number ≡ true
      → Span 1 n largest_count → names_place k v ≡ true → Stands s (Ask (ListVersions (record { prefix = p; key = k; version = v; count = n })))
  unfolding names_place in_range
  page_stands p k v n e i d j l c t =
      record {
        range = rw (e, d, lt-ltb v spent_number (omega (arith, leb-true v largest_number l)), le-leb 1 n c.from, le-leb n largest_count c.to, start);
        inside = record { prefix = i; key = j };
      }
    where
      by_length : (z : Bool) → (if z then v == 0 else true) ≡ true → (not z || eqb v 0) ≡ true
      by_length true h = h
      by_length false h = refl

      start : (not (eqb (length (part_of s k)) 0) || eqb v 0) ≡ true
      start = rw (length-take-le k.len (drop k.start s) (omega (arith, j.end, length-drop k.start s))) (by_length (eqb k.len 0) t)

  list_passes : Passes Verb (Stands s) (list_of s)
  unfolding list_of in_range
  list_passes = search (ways, ranges, count_in, page_stands) depth 16

  report_passes : Passes Verb (Stands s) (report_of s)
  unfolding report_of in_range
  report_passes = search (ways, ranges) depth 16

  query_passes : (w : List ℕ) → Passes Verb (Stands s) (query_by_word w s)
  unfolding query_by_word
  query_passes w = search (pass_if, pass_none, get_passes, list_passes, report_passes) depth 12

  other_passes : (w : List ℕ) → Passes Verb (Stands s) (other_by_word w s)
  unfolding other_by_word
  other_passes w = search (pass_if, default_passes, rule_passes, sweep_passes, query_passes) depth 12

  verb_passes : (w : List ℕ) → Passes Verb (Stands s) (verb_by_word w s)
  unfolding verb_by_word
  verb_passes w = search (pass_if, put_passes, copy_passes, retain_passes, set_hold_passes, delete_passes, other_passes) depth 12

  verb_in : (w : List ℕ) (v : Verb) → verb_by_word w s ≡ Some v → Stands s v
  verb_in w = (verb_passes w).holds

-- ## The line

-- the clock and every field of the verb lie in their ranges, and every key and prefix within the line
pub record LineStands (s : List ℕ) (q : Request) : Type 0 where
  pub clock : leb q.clock latest ≡ true
  pub range : in_range (verb_means s q.verb) ≡ true
  pub inside : VerbInside s q.verb

module _ (s : List ℕ) where
  request_passes : Passes Request (LineStands s) (request_in s)
  unfolding request_in
  request_passes =
      search (ways, clock_in, whole, verb_in) depth 16
    where
      whole : (q : Request) → leb q.clock latest ≡ true → Stands s q.verb → LineStands s q
      whole q h k = record { clock = h; range = k.range; inside = k.inside }

  pub request_stands : (q : Request) → request_in s ≡ Some q → LineStands s q
  request_stands = request_passes.holds

  -- Whatever is read lies in its range.
  pub read_in_range : (q : Said) → read_line s ≡ Some q → (leb q.clock latest && in_range q.verb) ≡ true
  unfolding read_line
  read_in_range = line.holds
    where
      said : (q : Request) → request_in s ≡ Some q → (leb q.clock latest && in_range (verb_means s q.verb)) ≡ true
      said q e = let k = request_stands q e in and_i (leb q.clock latest) _ k.clock k.range

      line : Passes Said (λ q. (leb q.clock latest && in_range q.verb) ≡ true) (read_line s)
      line = search (ways, said) depth 16
