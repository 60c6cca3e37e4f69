-- Keys, prefixes, and bytes that stand in a text.
use Rattle.std.specs.Prelude.{ℕ, Bool, false, List, leb, ltb, eqb, length}
use Rattle.buffers.specs.Choices.{pick}
use Rattle.buffers.specs.Lists.{all, any}

-- 0x21 to 0x7E
unfoldable pub is_key_byte : ℕ → Bool
is_key_byte b = pick (ltb b 33) false (leb b 126)

-- every byte may stand in a key
abbrev pub key_bytes : List ℕ → Bool
key_bytes s = all is_key_byte s

-- a prefix: 0 to 63 such bytes
unfoldable pub is_prefix : List ℕ → Bool
is_prefix s = pick (ltb 63 (length s)) false (key_bytes s)

-- a key: 1 to 63 such bytes
unfoldable pub is_key : List ℕ → Bool
is_key s = pick (eqb (length s) 0) false (is_prefix s)

-- the byte stands in the text
abbrev pub contains : List ℕ → ℕ → Bool
contains s b = any (λ a. eqb a b) s
