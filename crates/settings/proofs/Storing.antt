-- Laws of storing a rule at its place among the eight.
use Prim.Native.Nat.{ℕ, ◌+◌, ◌*◌, ◌<◌}
use mathlib.Core.Path.{◌≡◌, sym, ap, ◌∙◌}
use mathlib.Core.Bool.{true, false, ◌&&◌}
use mathlib.Core.List.{List}
use native.Mathlib.Omega.{arith}
use lib.Dec.{eqb}
use lib.ListN.{length, set, replicate, length-replicate}
use Rattle.buffers.specs.Words.{number}
use Rattle.buffers.specs.Writes.{Wrote}
use Rattle.blocks.specs.Blocks.{block_of}
use Rattle.blocks.proofs.Blocks.{block_length}
use Rattle.model.specs.Settings as model
use Rattle.model.specs.Effects.{stored}
use Rattle.settings.specs.Meaning.{rule_from}
use Rattle.settings.specs.Bytes.{rule_bytes, rule_at, rules_of}
use Rattle.settings.specs.Changes.{RulePut}
use Rattle.settings.proofs.Decoding.{filled}
use Rattle.settings.proofs.Entries.{rules_placed}
use Rattle.settings.proofs.Encoding.{rule_long, rule_own}

module _ (e exit : List ℕ) (place : ℕ) (p : List ℕ) (x y : ℕ) (l : length e ≡ 640) (h : place < 8) where
  -- the rule that these fields say
  abbrev rule : model.Rule
  rule = record { prefix = p; current_days = x; noncurrent_days = y }

  placed_at : (vs : List ℕ) (k r : ℕ) → Wrote e (80 * place) vs k exit r → length vs ≡ 80 → rules_of exit ≡ set (rules_of e) place (rule_at vs 0)
  placed_at vs k r w n =
      let z : 0 + 80 * place ≡ 80 * place = omega arith in
      rules_placed e vs exit n w.long 8 0 place (rw z w.holds) h (omega arith)

  pub stored_none : (r : ℕ) → (eqb x 0 && eqb y 0) ≡ true → Wrote e (80 * place) (replicate 80 0) 80 exit r → rules_of exit ≡ set (rules_of e) place (rule_from (stored rule))
  unfolding block_of number
  stored_none r t w = placed_at (replicate 80 0) 80 r w (length-replicate {A = ℕ} 80 0) ∙ simp t

  pub stored_set : (t : (eqb x 0 && eqb y 0) ≡ false) (b o : List ℕ) (r : ℕ) → Wrote o 0 (block_of p) 64 b r → length o ≡ 64
      → RulePut e (80 * place) (record { prefix = b; current = x; noncurrent = y }) exit → rules_of exit ≡ set (rules_of e) place (rule_from (stored rule))
  stored_set t b o r w l u =
      let f : b ≡ block_of p = filled o (block_of p) 64 b r w (block_length p ∙ sym l) in
      let v : RulePut e (80 * place) (record { prefix = block_of p; current = x; noncurrent = y }) exit = rw f at u in
      placed_at (rule_bytes (record { prefix = block_of p; current = x; noncurrent = y })) 80 (80 * place + 80) v.wrote (rule_long _ v.fits)
      ∙ ap (set (rules_of e) place) (rule_own _ v.fits ∙ simp t)

pub ruleset stored_cases = (stored_none, stored_set)
