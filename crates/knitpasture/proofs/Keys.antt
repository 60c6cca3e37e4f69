-- The key that `knitpasture_key` gives the length of stands in the key bytes, from the row's second byte on.
use Prim.Native.Nat.{ℕ, zero, suc, ◌+◌, ◌*◌}
use mathlib.Core.Path.{◌≡◌, refl, ap}
use mathlib.Core.Logic.{inl, inr}
use mathlib.Core.Bool.{◌&&◌}
use mathlib.Core.List.{List, [], ◌∷◌}
use lib.Dec.{ltb}
use lib.ListN.{length, get_or, take, drop}
use lib.Seq.{drop-drop}
use Rattle.buffers.proofs.Tests.{either}
use Rattle.buffers.proofs.Lists.{drop_take}
use Rattle.bucket.specs.Whole.{Lent, whole, key_of}
use Rattle.knitpasture.specs.Bytes.{Bytes, lent_of, hub_key}
use Rattle.knitpasture.proofs.Left.{spelling_ways}

take_within : (m n : ℕ) (l : List ℕ) → take m (take n l) ≡ take (length (take m (take n l))) l
take_within zero n l = refl
take_within (suc m) zero l = refl
take_within (suc m) (suc n) [] = refl
take_within (suc m) (suc n) (x ∷ l) = ap (λ (t : List ℕ). x ∷ t) (take_within m n l)

key_within : (b : Lent) (i : ℕ) → key_of b i ≡ take (length (key_of b i)) (drop (64 * i + 1) b.keys)
unfolding key_of
key_within b i =
    let block = drop (64 * i) b.keys in
    elim (either (whole b && ltb i b.settings.used)) [
      | inl t ↦ rw (t, drop_take 1 64 block, drop-drop 1 (64 * i) b.keys) (take_within (get_or (take 64 block) 0 0) 63 (drop (64 * i + 1) b.keys))
      | inr t ↦ rw t
    ]

pub key_stands : (b : Bytes) (i : ℕ) → hub_key b i ≡ take (length (hub_key b i)) (drop (64 * i + 1) b.keys)
unfolding hub_key
key_stands b i = spelling_ways b (λ (k : List ℕ). k ≡ take (length k) (drop (64 * i + 1) b.keys)) (λ _. key_within (lent_of b) i) refl
