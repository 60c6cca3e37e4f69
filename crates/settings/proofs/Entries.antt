-- Laws of the entries: a rule by its 80 bytes, the rules one after the other, and one of them written anew.
use Prim.Native.Nat.{ℕ, zero, suc, ◌+◌, ◌*◌, ◌-◌, ◌≤◌, ◌<◌}
use mathlib.Core.Path.{◌≡◌, refl, sym, ap, ap₂, ◌∙◌}
use mathlib.Core.List.{List, ◌∷◌, ◌++◌}
use native.Mathlib.Omega.{arith}
use lib.ListN.{length, get_or, take, drop, set, length-append, length-drop, take-append-drop}
use lib.Seq.{take-take, drop-drop, take-add, length-take-le, drop-append-add}
use Rattle.buffers.specs.Words.{number, spelled, AllBytes}
use Rattle.buffers.specs.Writes.{placed}
use Rattle.buffers.proofs.Words.{spelled_number, bytes_take, bytes_drop}
use Rattle.buffers.proofs.Parts.{head_part, part_before, part_at}
use Rattle.settings.specs.declared.Rule.{Rule}
use Rattle.settings.specs.Bytes.{rule_bytes, rules_bytes, rule_at, rules_at}
use Rattle.settings.proofs.Decoding.{rule_made}

-- ## A rule by its 80 bytes

inner : (l : List ℕ) (at i k : ℕ) → at + 80 ≤ length l → i + k ≤ 80 → take k (drop i (take 80 (drop at l))) ≡ take k (drop (at + i) l)
inner l at i k h g =
    let d = length-drop at l in
    let t = length-take-le 80 (drop at l) (omega arith) in
    sym (head_part (take 80 (drop at l)) (drop 80 (drop at l)) i k (omega arith))
    ∙ ap (λ (m : List ℕ). take k (drop i m)) (take-append-drop 80 (drop at l))
    ∙ ap (take k) (drop-drop i at l)

-- It is that of these bytes alone.
pub rule_part : (l : List ℕ) (at : ℕ) → at + 80 ≤ length l → rule_at (take 80 (drop at l)) 0 ≡ rule_at l at
rule_part l at h =
    rule_made _ _ _ _ _ _
    (take-take 64 80 (drop at l) (omega arith))
    (ap number (inner l at 64 8 h (omega arith)))
    (ap number (inner l at 72 8 h (omega arith)))

-- What the same bytes spell is the same.
rule_same : (l m : List ℕ) (at to : ℕ) → at + 80 ≤ length l → to + 80 ≤ length m → take 80 (drop at l) ≡ take 80 (drop to m) → rule_at l at ≡ rule_at m to
rule_same l m at to h g e = sym (rule_part l at h) ∙ ap (λ (p : List ℕ). rule_at p 0) e ∙ rule_part m to g

-- Bytes spell no rule but their own.
pub rule_spelled : (l : List ℕ) (at : ℕ) → AllBytes l → at + 80 ≤ length l → rule_bytes (rule_at l at) ≡ take 80 (drop at l)
rule_spelled l at b h =
    let p64 = length-take-le 64 (drop at l) in
    let word : (i : ℕ) → at + i + 8 ≤ length l → spelled 8 (number (take 8 (drop (at + i) l))) ≡ take 8 (drop (at + i) l) = λ i g.
    let d = length-drop (at + i) l in
    let n : length (take 8 (drop (at + i) l)) ≡ 8 = length-take-le 8 (drop (at + i) l) (omega arith) in
    ap (λ (k : ℕ). spelled k (number (take 8 (drop (at + i) l)))) (sym n) ∙ spelled_number (take 8 (drop (at + i) l)) (bytes_take 8 (drop (at + i) l) (bytes_drop (at + i) l b)) in
    ap₂ (λ (x y : List ℕ). take 64 (drop at l) ++ (x ++ y)) (word 64 (omega arith)) (word 72 (omega arith))
    ∙ sym (take-add 64 16 (drop at l) ∙ ap (λ (m : List ℕ). take 64 (drop at l) ++ m) (ap (take 16) (drop-drop 64 at l) ∙ take-add 8 8 (drop (at + 64) l) ∙ ap (λ (m : List ℕ). take 8 (drop (at + 64) l) ++ take 8 m) (drop-drop 8 (at + 64) l ∙ ap (λ (k : ℕ). drop k l) (let z : at + 64 + 8 ≡ at + 72 = omega arith in z))))

-- ## The rules one after the other

pub rules_long : (k at : ℕ) (l : List ℕ) → length (rules_at k at l) ≡ k
unfolding rules_at
rules_long zero at l = refl
rules_long (suc k) at l = ap suc (rules_long k (at + 80) l)

pub rule_among : (k at i : ℕ) (l : List ℕ) (d : Rule) → i < k → get_or (rules_at k at l) i d ≡ rule_at l (at + 80 * i)
unfolding rules_at
rule_among zero at i l d h = absurd (omega arith)
rule_among (suc k) at zero l d h = let z : at + 80 * 0 ≡ at = omega arith in rw z
rule_among (suc k) at (suc i) l d h =
    let z : at + 80 + 80 * i ≡ at + 80 * suc i = omega arith in
    rule_among k (at + 80) i l d (omega arith) ∙ ap (rule_at l) z

pub rules_spelled : (k at : ℕ) (l : List ℕ) → AllBytes l → at + 80 * k ≤ length l → rules_bytes (rules_at k at l) ≡ take (80 * k) (drop at l)
unfolding rules_at
rules_spelled zero at l b h = refl
rules_spelled (suc k) at l b h =
    let z : 80 * suc k ≡ 80 + 80 * k = omega arith in
    rw (z, rule_spelled l at b (omega arith), rules_spelled k (at + 80) l b (omega arith), take-add 80 (80 * k) (drop at l), drop-drop 80 at l)

-- ## A rule written anew

part_behind : (l : List ℕ) (a : ℕ) (vs : List ℕ) (i k : ℕ) → a + length vs ≤ i → a ≤ length l → take k (drop i (placed l a vs)) ≡ take k (drop i l)
part_behind l a vs i k h g =
    let t = length-take-le a l g in
    let n : length (take a l ++ vs) ≡ a + length vs = length-append (take a l) vs ∙ ap (λ (m : ℕ). m + length vs) t in
    let z : i ≡ length (take a l ++ vs) + (i - (a + length vs)) = omega arith in
    let y : a + length vs + (i - (a + length vs)) ≡ i = omega arith in
    ap (λ (m : ℕ). take k (drop m (placed l a vs))) z
    ∙ ap (take k) (drop-append-add (take a l ++ vs) (drop (a + length vs) l) (i - (a + length vs)))
    ∙ ap (take k) (drop-drop (i - (a + length vs)) (a + length vs) l)
    ∙ ap (λ (m : ℕ). take k (drop m l)) y

module _ (l vs l' : List ℕ) (n : length vs ≡ 80) (w : length l' ≡ length l) where
  rules_behind : (k a b : ℕ) → l' ≡ placed l a vs → a + 80 ≤ b → b + 80 * k ≤ length l → rules_at k b l' ≡ rules_at k b l
  unfolding rules_at
  rules_behind zero a b e h g = refl
  rules_behind (suc k) a b e h g =
      ap₂ ◌∷◌
      (rule_same l' l b b (omega arith) (omega arith) (ap (λ (m : List ℕ). take 80 (drop b m)) e ∙ part_behind l a vs b 80 (omega arith) (omega arith)))
      (rules_behind k a (b + 80) e (omega arith) (omega arith))

  pub rules_placed : (k at i : ℕ) → l' ≡ placed l (at + 80 * i) vs → i < k → at + 80 * k ≤ length l → rules_at k at l' ≡ set (rules_at k at l) i (rule_at vs 0)
  unfolding rules_at
  rules_placed zero at i e h g = absurd (omega arith)
  rules_placed (suc k) at zero e h g =
      let z : at + 80 * 0 ≡ at = omega arith in
      let f : l' ≡ placed l at vs = rw z at e in
      ap₂ ◌∷◌
      (sym (rule_part l' at (omega arith)) ∙ ap (λ (p : List ℕ). rule_at p 0) (ap (λ (m : List ℕ). take 80 (drop at m)) f ∙ part_at l at vs 80 n (omega arith)))
      (rules_behind k at (at + 80) f (omega arith) (omega arith))
  rules_placed (suc k) at (suc i) e h g =
      let z : at + 80 * suc i ≡ at + 80 + 80 * i = omega arith in
      ap₂ ◌∷◌
      (rule_same l' l at at (omega arith) (omega arith) (ap (λ (m : List ℕ). take 80 (drop at m)) e ∙ part_before l (at + 80 * suc i) vs at 80 (omega arith) (omega arith)))
      (rules_placed k (at + 80) i (rw z at e) (omega arith) (omega arith))
