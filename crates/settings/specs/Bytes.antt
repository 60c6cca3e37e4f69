-- 01, the C boundary: the settings as 688 bytes, each number 8 bytes little-endian in the order of the fields, a prefix 64 bytes.
use Rattle.std.specs.Prelude.{ℕ, zero, suc, ◌+◌, Bool, ◌&&◌, List, [], ◌∷◌, ◌++◌, eqb, ltb, length, take, drop}
use Rattle.buffers.specs.Lists.{all}
use Rattle.buffers.specs.Words.{number, spelled}
use Rattle.settings.specs.declared.Settings.{Settings}
use Rattle.settings.specs.declared.Rule.{Rule}
use Rattle.settings.specs.declared.State.{State}
use Rattle.settings.specs.State.{state_of, settings_by}

-- the length of the settings as bytes: the state, and behind it the entries, which are the rules
abbrev pub settings_length : ℕ
settings_length = 688

abbrev pub state_length : ℕ
state_length = 48

abbrev pub entries_length : ℕ
entries_length = 640

-- ## From settings to bytes

abbrev pub rule_bytes : Rule → List ℕ
rule_bytes u = u.prefix ++ (spelled 8 u.current ++ spelled 8 u.noncurrent)

abbrev pub rules_bytes : List Rule → List ℕ
rules_bytes [] = []
rules_bytes (u ∷ us) = rule_bytes u ++ rules_bytes us

abbrev pub state_bytes : State → List ℕ
state_bytes s =
    spelled 8 s.time
    ++ (spelled 8 s.used
    ++ (spelled 8 s.next
    ++ (spelled 8 s.mode
    ++ (spelled 8 s.count
    ++ spelled 8 s.unit))))

unfoldable pub settings_bytes : Settings → List ℕ
settings_bytes s = state_bytes (state_of s) ++ rules_bytes s.rules

-- ## From bytes to settings

-- the number that the eight bytes from `at` on spell
abbrev pub word_at : List ℕ → ℕ → ℕ
word_at b at = number (take 8 (drop at b))

abbrev pub rule_at : List ℕ → ℕ → Rule
rule_at b at = record { prefix = take 64 (drop at b); current = word_at b (at + 64); noncurrent = word_at b (at + 72) }

-- the k rules from `at` on
unfoldable pub rules_at : ℕ → ℕ → List ℕ → List Rule
rules_at zero at b = []
rules_at (suc k) at b = rule_at b at ∷ rules_at k (at + 80) b

-- the eight rules of the entries
abbrev pub rules_of : List ℕ → List Rule
rules_of e = rules_at 8 0 e

abbrev pub state_in : List ℕ → State
state_in b = record { time = word_at b 0; used = word_at b 8; next = word_at b 16; mode = word_at b 24; count = word_at b 32; unit = word_at b 40 }

-- the settings of a state with these entries
abbrev pub settings_with : State → List ℕ → Settings
settings_with s e = settings_by s (rules_of e)

unfoldable pub settings_of : List ℕ → Settings
settings_of b = settings_with (state_in b) (drop state_length b)

-- ## What the bytes can hold

-- eight bytes hold the number
abbrev pub is_word : ℕ → Bool
is_word n = ltb n 18446744073709551616

-- a prefix of 64 bytes, and two such numbers
abbrev pub rule_fits : Rule → Bool
rule_fits u = eqb (length u.prefix) 64 && (is_word u.current && is_word u.noncurrent)

-- eight rules with prefixes of 64 bytes, and numbers of eight bytes
unfoldable pub settings_fit : Settings → Bool
settings_fit s =
    is_word s.time
    && (is_word s.used
    && (is_word s.next
    && (is_word s.mode
    && (is_word s.count
    && (is_word s.unit
    && (eqb (length s.rules) 8
    && all rule_fits s.rules))))))
