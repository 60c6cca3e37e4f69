-- Laws of reading: what is built of the parts that were read.
use Prim.Native.Nat.{ℕ, ◌+◌}
use mathlib.Core.Path.{◌≡◌, refl, ◌∙◌}
use mathlib.Core.List.{List, ◌∷◌, append-nil}
use native.Mathlib.Omega.{arith}
use lib.ListN.{length, drop_of_length-le}
use Rattle.buffers.specs.Writes.{Wrote}
use Rattle.settings.specs.declared.Settings.{Settings}
use Rattle.settings.specs.declared.Rule.{Rule}

-- What fills a buffer is all that it holds.
pub filled : (out vs : List ℕ) (k : ℕ) (exit : List ℕ) (r : ℕ) → Wrote out 0 vs k exit r → length vs ≡ length out → exit ≡ vs
filled out vs k exit r w e =
    w.holds ∙ rw (drop_of_length-le out {i = 0 + length vs} (omega arith)) (append-nil vs)

pub rule_made : (p q : List ℕ) (a b c d : ℕ) → p ≡ q → a ≡ b → c ≡ d
    → ◌≡◌ {A = Rule} (record { prefix = p; current = a; noncurrent = c }) (record { prefix = q; current = b; noncurrent = d })
rule_made p q a b c d e f g = cc

pub one_more : (u v : Rule) (us vs : List Rule) → u ≡ v → us ≡ vs → u ∷ us ≡ v ∷ vs
one_more u v us vs e f = cc

pub settings_made : (a0 a1 a2 a3 a4 a5 b0 b1 b2 b3 b4 b5 : ℕ) (us vs : List Rule) → a0 ≡ b0 → a1 ≡ b1 → a2 ≡ b2 → a3 ≡ b3 → a4 ≡ b4 → a5 ≡ b5 → us ≡ vs
    → ◌≡◌ {A = Settings} (record { time = a0; used = a1; next = a2; mode = a3; count = a4; unit = a5; rules = us })
    (record { time = b0; used = b1; next = b2; mode = b3; count = b4; unit = b5; rules = vs })
settings_made a0 a1 a2 a3 a4 a5 b0 b1 b2 b3 b4 b5 us vs e0 e1 e2 e3 e4 e5 e6 = cc

pub ruleset made = (refl, rule_made, one_more)
