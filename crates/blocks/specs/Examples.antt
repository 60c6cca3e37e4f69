-- Keys in their 64 bytes, computed.
use Rattle.std.specs.Prelude.{◌≡◌, refl, true, false, [], ◌∷◌, replicate}
use Rattle.buffers.specs.Texts.{bytes}
use Rattle.blocks.specs.Blocks.{block_of, key_in, is_block}

pub record Examples : Type 0 where
  pub written : block_of (bytes "ab") ≡ 2 ∷ 97 ∷ 98 ∷ replicate 61 0
  pub none : block_of [] ≡ replicate 64 0
  pub read : key_in (2 ∷ 97 ∷ 98 ∷ replicate 61 0) ≡ bytes "ab"
  pub zeros : is_block (replicate 64 0) ≡ true
  -- a byte behind the key, a length that no key has, a byte too few
  pub behind : is_block (1 ∷ 97 ∷ 98 ∷ replicate 61 0) ≡ false
  pub long : is_block (64 ∷ replicate 63 97) ≡ false
  pub short : is_block (1 ∷ 97 ∷ replicate 61 0) ≡ false

-- each by computing
pub examples : Examples
unfolding block_of is_block
examples = record { written = refl; none = refl; read = refl; zeros = refl; behind = refl; long = refl; short = refl }
