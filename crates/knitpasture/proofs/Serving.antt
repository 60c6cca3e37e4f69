-- A call, a row's key and a fresh bucket, over numbers and over bytes: one law for each way through.
use Prim.Native.Nat.{ℕ, ◌-◌, ◌/◌, ◌≤◌}
use mathlib.Core.Path.{◌≡◌, sym, ap, ◌∙◌, subst}
use mathlib.Core.List.{List, [], ◌++◌, append-nil}
use native.Mathlib.Omega.{arith}
use lib.ListN.{length, get_or, take, drop, replicate, length-drop, drop_of_length-le}
use lib.Seq.{drop_at, length-take-le}
use mir.Val.{Fits}
use mir.Syntax.{w8}
use borrow.Author.Tests.{eq-eqb, ne_eqb}
use borrow.Rule.Slice.PartMut.{mid_of, put_mid, put_same}
use Rattle.buffers.specs.Words as words
use Rattle.buffers.specs.Words.{AllBytes}
use Rattle.buffers.proofs.Parts.{rest_all}
use Rattle.buffers.proofs.Words.{bytes_drop}
use Rattle.blocks.specs.Blocks.{block_of}
use Rattle.std.specs.Prelude.{Result, Ok, Err}
use Rattle.model.specs.declared.Refusal.{Refusal}
use Rattle.model.specs.Refusal.{number_of, code_of}
use Rattle.model.proofs.Facts.{number_not_0}
use Rattle.settings.specs.declared.Settings.{Settings}
use Rattle.settings.specs.declared.State.{State}
use Rattle.settings.specs.Bytes.{settings_length, entries_length, rules_bytes, state_bytes, settings_bytes, state_in, settings_with, settings_of}
use Rattle.settings.specs.Meaning.{fresh_settings}
use Rattle.settings.specs.State.{state_of}
use Rattle.settings.proofs.RoundTrip.{entries_back, entries_kept}
use Rattle.bucket.specs.Whole.{lent, lent_with, key_of}
use Rattle.outcome.specs.Calls.{Call, call}
use Rattle.outcome.specs.Outcome.{Outcome, outcome}
use Rattle.outcome.specs.Comparisons.{comparisons_of}
use Rattle.outcome.proofs.Demands.{outcome_refused}
use Rattle.engine.specs.declared.Counted.{Counted}
use Rattle.engine.specs.Served.{outcome_from, uncounted, count_of}
use Rattle.knitpasture.specs.Bytes.{numbers_from, numbers_bytes, table_length, Bytes, as_bytes, spelled_by, ByteOutcome, byte_outcome, words_served, spelled_served, hub_served, words_comparisons, hub_comparisons, hub_counted}
use Rattle.knitpasture.specs.Lent.{EntriesServed}
use Rattle.knitpasture.proofs.Words.{rows_spelled, spelled_words}

-- ## A call on rows as numbers

pub words_wrong : (b : Bytes) (line answer : List ℕ) → (length b.settings ≡ settings_length → ⊥) → byte_outcome 1 b answer ≡ words_served b (call line answer)
unfolding words_served
words_wrong b line answer h = rw (ne_eqb (length b.settings) settings_length h)

-- A buffer of bytes holds bytes.
all_bytes : (s : List ℕ) → ((j : ℕ) → Fits w8 (get_or s j 0)) → AllBytes s
all_bytes s h j = omega (arith, h j)

-- the entries, as they are lent of the settings' bytes
abbrev entries_in : List ℕ → List ℕ
entries_in settings = mid_of 48 (length settings - 48) settings

module _ (settings : List ℕ) (l : length settings ≡ settings_length) where
  entries_are : entries_in settings ≡ drop 48 settings
  entries_are = rest_all 48 settings

  pub entries_long : length (entries_in settings) ≡ entries_length
  entries_long = ap length entries_are ∙ length-drop 48 settings ∙ omega arith

  -- What the bytes spell is the state and the entries.
  spells : (s : State) → s ≡ state_in settings → settings_with s (entries_in settings) ≡ settings_of settings
  unfolding settings_of
  spells s d = rw (d, entries_are)

-- What was lent of them stands behind the state again.
put_back : (settings e' : List ℕ) → length settings ≡ settings_length → length e' ≡ length (entries_in settings) → drop 48 (put_mid 48 (length settings - 48) settings e') ≡ e'
put_back settings e' l k =
    let n : length settings - 48 ≡ 640 = omega arith in
    let z : drop 640 (drop 48 settings) ≡ [] = drop_of_length-le (drop 48 settings) {i = 640} (omega (arith, length-drop 48 settings)) in
    drop_at (take 48 settings) (e' ++ drop (length settings - 48) (drop 48 settings)) 48 (length-take-le 48 settings (omega arith)) ∙ rw (n, z) (append-nil e')

pub entries_served : (s : State) (r : Result Counted Refusal) (settings n keys e' n' keys' answer' : List ℕ) (g : Call) → outcome_from s (uncounted r) e' n' keys' answer' ≡ outcome (lent_with s (entries_in settings) n keys) g → count_of r ≡ comparisons_of (lent_with s (entries_in settings) n keys) g
    → s ≡ state_in settings → length settings ≡ settings_length → length e' ≡ length (entries_in settings) → ((j : ℕ) → Fits w8 (get_or (put_mid 48 (length settings - 48) settings e') j 0)) → ((j : ℕ) → Fits w8 (get_or settings j 0))
    → EntriesServed settings n keys g r (put_mid 48 (length settings - 48) settings e') n' keys' answer'
entries_served s r settings n keys e' n' keys' answer' g q c d l k be bs =
    record {
      is = rw (p, ← d) (q ∙ ap (λ (x : Settings). outcome (lent x n keys) g) (spells settings l s d));
      counted = c ∙ ap (λ (x : Settings). comparisons_of (lent x n keys) g) (spells settings l s d);
      entries_are = λ t. rw p (entries_kept t e' bytes long);
      kept = λ f w. ap (put_mid 48 (length settings - 48) settings) (same f w) ∙ put_same 48 (length settings - 48) settings;
    }
  where
    p : drop 48 (put_mid 48 (length settings - 48) settings e') ≡ e'
    p = put_back settings e' l k

    bytes : AllBytes e'
    bytes = subst (λ (x : List ℕ). AllBytes x) p (bytes_drop 48 (put_mid 48 (length settings - 48) settings e') (all_bytes (put_mid 48 (length settings - 48) settings e') be))

    long : length e' ≡ entries_length
    long = k ∙ entries_long settings l

    -- A refusal leaves the rules, and so the bytes that spell them.
    same : (f : Refusal) → r ≡ Err f → e' ≡ entries_in settings
    same f w =
        let x = rw w at q in
        let u = outcome_refused (lent_with s (entries_in settings) n keys) g (λ y. number_not_0 f (ap (λ (o : Outcome). o.number) x ∙ y)) in
        sym (entries_back e' bytes long) ∙ ap (λ (o : Outcome). rules_bytes o.bucket.settings.rules) (x ∙ u)
        ∙ entries_back (entries_in settings) (rw (entries_are settings l) (bytes_drop 48 settings (all_bytes settings bs))) (entries_long settings l)

module _ (settings n keys : List ℕ) (g : Call) (r : Result Counted Refusal) (settings' n' keys' answer' : List ℕ) (h : EntriesServed settings n keys g r settings' n' keys' answer') (l : length settings ≡ settings_length) where
  pub words_refused : (k : Refusal) → r ≡ Err k → byte_outcome (number_of k) (as_bytes settings' n' keys') answer' ≡ words_served (as_bytes settings n keys) g
  unfolding words_served
  words_refused k w =
      let q = rw w at h.is in
      let z : number_of k ≡ 0 → ⊥ = number_not_0 k in
      let u = outcome_refused (lent (settings_of settings) n keys) g (λ y. z (ap (λ (o : Outcome). o.number) q ∙ y)) in
      rw (eq-eqb (length settings) settings_length l, ← q, ne_eqb (number_of k) 0 z, h.kept k w)
      (ap (λ (o : Outcome). byte_outcome (number_of k) (as_bytes settings o.bucket.numbers o.bucket.keys) o.answer) (q ∙ u))

  pub words_accepted : (d : Counted) (exit : List ℕ) → r ≡ Ok d → exit ≡ state_bytes d.done.state ++ drop 48 settings' → byte_outcome 0 (as_bytes exit n' keys') answer' ≡ words_served (as_bytes settings n keys) g
  unfolding words_served
  words_accepted d exit w f =
      let q = rw w at h.is in
      let y : exit ≡ settings_bytes (settings_with d.done.state (drop 48 settings')) = f ∙ h.entries_are d.done.state in
      rw (eq-eqb (length settings) settings_length l, ← q, y)

pub ruleset words_cases = (words_wrong, words_refused, words_accepted)

-- Settings of another length count none.
pub wrong_count : (b : Bytes) (line answer : List ℕ) → (length b.settings ≡ settings_length → ⊥) → 0 ≡ words_comparisons b (call line answer)
unfolding words_comparisons
wrong_count b line answer h = rw (ne_eqb (length b.settings) settings_length h)

-- The count is that of the call on the settings that the bytes spell.
pub words_count : (settings n keys : List ℕ) (g : Call) (r : Result Counted Refusal) (settings' n' keys' answer' : List ℕ) (d : Counted) → EntriesServed settings n keys g r settings' n' keys' answer' → length settings ≡ settings_length → r ≡ Ok d → d.comparisons ≡ words_comparisons (as_bytes settings n keys) g
unfolding words_comparisons
words_count settings n keys g r settings' n' keys' answer' d h l w = rw (eq-eqb (length settings) settings_length l) (rw w at h.counted)

-- ## A call on rows as bytes

module _ (k : ℕ) (r : Result ℕ Refusal) (settings rows keys n settings' n' keys' answer' : List ℕ) (g : Call) (e : byte_outcome (code_of r) (as_bytes settings' n' keys') answer' ≡ words_served (as_bytes settings n keys) g) (f : n ≡ numbers_from k rows) (l : length settings ≡ settings_length) where
  abbrev b : Bytes
  b = as_bytes settings rows keys

  spelled : rows_spelled rows (byte_outcome (code_of r) (as_bytes settings' n' keys') answer') ≡ spelled_served k b g
  spelled = ap (rows_spelled rows) (rw f at e) ∙ sym (spelled_words k b g l)

  pub spelled_refused : (x : Refusal) → r ≡ Err x → byte_outcome (number_of x) (as_bytes settings' rows keys') answer' ≡ spelled_served k b g
  spelled_refused x w = rw (ne_eqb (number_of x) 0 (number_not_0 x)) at (rw w at spelled)

  pub spelled_accepted : (c : ℕ) (rows' : List ℕ) → r ≡ Ok c → rows' ≡ numbers_bytes n' → byte_outcome 0 (as_bytes settings' rows' keys') answer' ≡ spelled_served k b g
  spelled_accepted c rows' w h = rw h (rw w at spelled)

pub ruleset spelled_cases = (spelled_refused, spelled_accepted)

-- The count is that of the call on the numbers that the rows spell.
pub spelled_count : (c k : ℕ) (settings rows keys n : List ℕ) (g : Call) → n ≡ numbers_from k rows → c ≡ words_comparisons (as_bytes settings n keys) g → length settings ≡ settings_length → c ≡ comparisons_of (spelled_by k (as_bytes settings rows keys)) g
unfolding words_comparisons
spelled_count c k settings rows keys n g f e l = e ∙ rw (eq-eqb (length settings) settings_length l, f)

-- As many numbers as the rows have are lent of a room that has them.
part_long : (rows room : List ℕ) → length rows / 8 ≤ length room → length (mid_of 0 (length rows / 8 - 0) room) ≡ length rows / 8
part_long rows room h =
    let n : length rows / 8 - 0 ≡ length rows / 8 = omega arith in
    rw n (length-take-le (length rows / 8) room h)

pub part_most : (rows room : List ℕ) → length room ≡ 8192 → length rows ≤ table_length → length (mid_of 0 (length rows / 8 - 0) room) ≡ length rows / 8
part_most rows room e h = part_long rows room (omega arith)

module _ (o : ByteOutcome) (settings rows keys room : List ℕ) (g : Call) where
  abbrev served : ℕ → ByteOutcome
  served k = spelled_served k (as_bytes settings rows keys) g

  abbrev Part : Type 0
  Part = o ≡ served (length (mid_of 0 (length rows / 8 - 0) room))

  abbrev All : Type 0
  All = o ≡ served (length rows / 8)

  pub few_served : length room ≡ 512 → length rows ≤ 4096 → Part → All
  few_served e h q = q ∙ ap served (part_long rows room (omega arith))

  pub most_served : length room ≡ 8192 → length rows ≤ table_length → Part → All
  most_served e h q = q ∙ ap served (part_most rows room e h)

module _ (c : ℕ) (settings rows keys room : List ℕ) (g : Call) where
  abbrev count : ℕ → ℕ
  count k = comparisons_of (spelled_by k (as_bytes settings rows keys)) g

  pub few_count : length room ≡ 512 → length rows ≤ 4096 → c ≡ count (length (mid_of 0 (length rows / 8 - 0) room)) → c ≡ count (length rows / 8)
  few_count e h q = q ∙ ap count (part_long rows room (omega arith))

  pub most_count : length room ≡ 8192 → length rows ≤ table_length → c ≡ count (length (mid_of 0 (length rows / 8 - 0) room)) → c ≡ count (length rows / 8)
  most_count e h q = q ∙ ap count (part_most rows room e h)

-- ## The count of a call, written or not

module _ (before : ℕ) (b b' : Bytes) (g : Call) (answer' : List ℕ) where
  -- A refusal leaves what stood there.
  pub count_kept : (k : Refusal) → byte_outcome (number_of k) b' answer' ≡ hub_served b g → before ≡ hub_counted b g before
  unfolding hub_counted
  count_kept k e = rw (← e, ne_eqb (number_of k) 0 (number_not_0 k))

  -- An accepted call leaves its count.
  pub count_written : (c : ℕ) → byte_outcome 0 b' answer' ≡ hub_served b g → c ≡ hub_comparisons b g → c ≡ hub_counted b g before
  unfolding hub_counted
  count_written c e f = rw (← e) f

-- ## A row's key

pub key_spelled : (k i : ℕ) (s : State) (settings rows n keys key : List ℕ) → key ≡ key_of (lent_with s (entries_in settings) n keys) i → s ≡ state_in settings → length settings ≡ settings_length → n ≡ numbers_from k rows
    → length key ≡ length (key_of (spelled_by k (as_bytes settings rows keys)) i)
key_spelled k i s settings rows n keys key e d l f = rw (e, spells settings l s d, f)

pub key_served : (r i k n : ℕ) (b : Bytes) → r ≡ length (key_of (spelled_by n b) i) → n ≡ k → r ≡ length (key_of (spelled_by k b) i)
key_served r i k n b q e = q ∙ ap (λ (m : ℕ). length (key_of (spelled_by m b) i)) e

-- ## A fresh bucket

-- Of a buffer of zeros the state is written, and the entries are zeros already.
pub fresh_put : (b cleared exit : List ℕ) (x : Settings) (s : State) → length b ≡ settings_length → cleared ≡ replicate (length b) 0 → x ≡ fresh_settings → s ≡ state_of x → exit ≡ state_bytes s ++ drop 48 cleared → exit ≡ settings_bytes fresh_settings
unfolding settings_bytes block_of words.spelled
fresh_put b cleared exit x s l e y f g = g ∙ rw (f, y, e, l)
