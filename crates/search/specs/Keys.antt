-- The order of two keys, and bytes as a number that orders them.
use Rattle.std.specs.Prelude.{ℕ, zero, suc, ◌+◌, ◌*◌, ◌^◌, ◌≡◌, Bool, ◌&&◌, ◌||◌, List, [], ◌∷◌, eqb, ltb, length, take, drop, min}
use Rattle.buffers.specs.Lists.{same}
use Rattle.buffers.specs.Words.{AllBytes}
use Rattle.model.specs.Rows.{Row, before}
use Rattle.std.specs.declared.cmp.Ordering.{Ordering}
use Rattle.std.specs.declared.cmp.Ordering.TheVariants.{Less, Equal, Greater}

-- what an `Ordering` says of two keys
abbrev pub is_order : Ordering → List ℕ → List ℕ → Bool
is_order Less a b = before a b
is_order Equal a b = same a b
is_order Greater a b = before b a

-- what it says of a row and a key's version: of a key's versions the highest comes first
abbrev pub is_version_order : Ordering → Row → List ℕ → ℕ → Bool
is_version_order Less x k v = before x.key k || (same x.key k && ltb v x.number)
is_version_order Equal x k v = same x.key k && eqb x.number v
is_version_order Greater x k v = before k x.key || (same x.key k && ltb x.number v)

-- the number that the first k bytes spell, the first byte counting most
unfoldable pub rank : ℕ → List ℕ → ℕ
rank zero l = 0
rank (suc k) [] = 0
rank (suc k) (b ∷ l) = b * 256 ^ k + rank k l

-- a key's head, which is its first sixteen bytes as two numbers, and how many bytes another key needs to be after it by the head alone
pub record IsHead (k : List ℕ) (first second need : ℕ) : Type 0 where
  pub bytes : AllBytes k
  pub first_is : first ≡ rank 8 k
  pub second_is : second ≡ rank 8 (drop 8 k)
  pub enough : need ≡ min 16 (length k + 1)

-- the first sixteen bytes of two keys, or all of the shorter, are the same
pub record SharesHead (a b : List ℕ) : Type 0 where
  pub shared : take (min 16 (min (length a) (length b))) a ≡ take (min 16 (min (length a) (length b))) b
