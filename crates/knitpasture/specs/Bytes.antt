-- 01, the C boundary: settings and rows travel as bytes, each number 8 bytes little-endian; a wrong length meets 1. Rows may also be lent as numbers.
use Rattle.std.specs.Prelude.{ℕ, zero, suc, ◌/◌, ◌%◌, Bool, false, List, [], ◌∷◌, ◌++◌, eqb, ltb, length, take, drop, replicate}
use Rattle.buffers.specs.Choices.{pick}
use Rattle.buffers.specs.Words.{number, spelled}
use Rattle.settings.specs.Bytes.{settings_length, settings_of, settings_bytes}
use Rattle.settings.specs.Meaning.{fresh_settings}
use Rattle.bucket.specs.Whole.{Lent, lent, key_of}
use Rattle.outcome.specs.Calls.{Call}
use Rattle.outcome.specs.Outcome.{Outcome, outcome}
use Rattle.outcome.specs.Comparisons.{comparisons_of}

-- ## Numbers as bytes

-- the first k numbers, of eight bytes each
unfoldable pub numbers_from : ℕ → List ℕ → List ℕ
numbers_from zero b = []
numbers_from (suc k) b = number (take 8 b) ∷ numbers_from k (drop 8 b)

unfoldable pub numbers_bytes : List ℕ → List ℕ
numbers_bytes [] = []
numbers_bytes (n ∷ ns) = spelled 8 n ++ numbers_bytes ns

-- ## The bucket as bytes

-- the bytes of 1024 rows, and of their keys
abbrev pub table_length : ℕ
table_length = 65536

-- Settings and keys are bytes; rows are bytes, or numbers where they are lent so.
pub record Bytes : Type 0 where
  pub settings : List ℕ
  pub rows : List ℕ
  pub keys : List ℕ

abbrev pub as_bytes : List ℕ → List ℕ → List ℕ → Bytes
as_bytes settings rows keys = record { settings = settings; rows = rows; keys = keys }

-- what the bytes spell, with n numbers of rows
abbrev pub spelled_by : ℕ → Bytes → Lent
spelled_by n b = lent (settings_of b.settings) (numbers_from n b.rows) b.keys

-- What the bytes spell.
abbrev pub lent_of : Bytes → Lent
lent_of b = spelled_by (length b.rows / 8) b

-- The settings are 688 bytes, and the rows whole numbers, at most those of 1024 rows; else a length is wrong. Whether rows and keys fit one c the outcome tells.
abbrev pub spelling : {A : Type 0} → Bytes → A → A → A
spelling b served wrong =
    pick (eqb (length b.settings) settings_length)
    (pick (ltb table_length (length b.rows)) wrong
    (pick (eqb (length b.rows % 8) 0) served wrong))
    wrong

-- ## A call

-- What a call returns, and what it leaves of the bytes and the answer buffer.
pub record ByteOutcome : Type 0 where
  pub number : ℕ
  pub bytes : Bytes
  pub answer : List ℕ

abbrev pub byte_outcome : ℕ → Bytes → List ℕ → ByteOutcome
byte_outcome n b answer = record { number = n; bytes = b; answer = answer }

-- What a call leaves, `rows` being the rows after it as they are lent; a refusal leaves every byte as it was.
abbrev pub outcome_left : List ℕ → Outcome → Bytes → List ℕ → ByteOutcome
outcome_left rows o b answer =
    pick (eqb o.number 0)
    (byte_outcome 0 (as_bytes (settings_bytes o.bucket.settings) rows o.bucket.keys) o.answer)
    (byte_outcome o.number b answer)

-- with rows as numbers
abbrev pub outcome_words : Outcome → Bytes → List ℕ → ByteOutcome
outcome_words o = outcome_left o.bucket.numbers o

-- with rows as bytes
abbrev pub outcome_bytes : Outcome → Bytes → List ℕ → ByteOutcome
outcome_bytes o = outcome_left (numbers_bytes o.bucket.numbers) o

-- A call on rows that are numbers: the settings are 688 bytes.
unfoldable pub words_served : Bytes → Call → ByteOutcome
words_served b g =
    pick (eqb (length b.settings) settings_length)
    (outcome_words (outcome (lent (settings_of b.settings) b.rows b.keys) g) b g.answer)
    (byte_outcome 1 b g.answer)

-- a call on what the bytes spell, with n numbers of rows
abbrev pub spelled_served : ℕ → Bytes → Call → ByteOutcome
spelled_served n b g = outcome_bytes (outcome (spelled_by n b) g) b g.answer

-- A call on rows that are bytes.
unfoldable pub hub_served : Bytes → Call → ByteOutcome
hub_served b g = spelling b (spelled_served (length b.rows / 8) b g) (byte_outcome 1 b g.answer)

-- ## The comparisons of a call, none where a length is wrong

-- on rows that are numbers
unfoldable pub words_comparisons : Bytes → Call → ℕ
words_comparisons b g = pick (eqb (length b.settings) settings_length) (comparisons_of (lent (settings_of b.settings) b.rows b.keys) g) 0

-- on rows that are bytes
unfoldable pub hub_comparisons : Bytes → Call → ℕ
hub_comparisons b g = spelling b (comparisons_of (lent_of b) g) 0

-- What the place of the count holds after a call, and what it held before it: only an accepted call writes.
unfoldable pub hub_counted : Bytes → Call → ℕ → ℕ
hub_counted b g before = pick (eqb (hub_served b g).number 0) (hub_comparisons b g) before

-- ## A row's key

-- A wrong length gives the empty part.
unfoldable pub hub_key : Bytes → ℕ → List ℕ
hub_key b i = spelling b (key_of (lent_of b) i) []

-- ## A fresh bucket

-- What making a fresh bucket returns, and what it leaves of the bytes.
pub record FreshOutcome : Type 0 where
  pub number : ℕ
  pub bytes : Bytes

abbrev pub fresh_outcome : ℕ → Bytes → FreshOutcome
fresh_outcome n b = record { number = n; bytes = b }

-- as many key bytes as 1 to 1024 rows have
unfoldable pub fit_rows : ℕ → Bool
fit_rows n = pick (ltb n 64) false (pick (ltb table_length n) false (eqb (n % 64) 0))

-- The settings are 688 bytes, the keys those of 1 to 1024 rows, and the rows as long as is said; else every byte stays.
abbrev pub made_fresh : ℕ → Bytes → FreshOutcome
made_fresh long b =
    pick (eqb (length b.settings) settings_length)
    (pick (eqb (length b.rows) long)
    (pick (fit_rows (length b.keys)) (fresh_outcome 0 (as_bytes (settings_bytes fresh_settings) (replicate (length b.rows) 0) (replicate (length b.keys) 0)))
    (fresh_outcome 1 b))
    (fresh_outcome 1 b))
    (fresh_outcome 1 b)

-- rows as numbers, eight of them to 64 key bytes
unfoldable pub words_fresh : Bytes → FreshOutcome
words_fresh b = made_fresh (length b.keys / 8) b

-- rows as bytes, 64 of them to 64 key bytes
unfoldable pub hub_fresh : Bytes → FreshOutcome
hub_fresh b = made_fresh (length b.keys) b
