-- Parts of a list, and a part of a buffer that is lent, as `&mut b[a..e]`, and comes back changed.
use Prim.Native.Nat.{ℕ, zero, suc, ◌+◌, ◌-◌, ◌≤◌, ◌<◌}
use mathlib.Core.Path.{◌≡◌, refl, sym, ap, ◌∙◌}
use mathlib.Core.List.{List, [], ◌∷◌, ◌++◌, append_assoc}
use native.Mathlib.Omega.{arith}
use native.Mathlib.Nat.{add-zero, le_of_eq}
use lib.ListN.{length, get_or, take, drop, length-append, length-take, length-drop, take-append-drop}
use lib.Seq.{take_all, take_at, drop_at, drop-drop, drop-append-le, take-append-le, length-take-le, get_or-take, get_or-drop}
use borrow.Rule.Slice.PartMut.{mid_of, put_mid}
use Rattle.buffers.specs.Writes.{placed}

-- ## Parts of a list

-- `&l[s..s + k]`
pub part_cut : (l : List ℕ) (s k : ℕ) → take (s + k - s) (drop s l) ≡ take k (drop s l)
part_cut l s k = let q : s + k - s ≡ k = omega arith in rw q

-- `&l[n..]`
pub rest_all : (n : ℕ) (l : List ℕ) → take (length l - n) (drop n l) ≡ drop n l
rest_all n l = take_all (length l - n) (drop n l) (le_of_eq (length-drop n l))

-- The part p behind h.
pub middle : (h p t : List ℕ) (a n : ℕ) → length h ≡ a → length p ≡ n → take n (drop a (h ++ (p ++ t))) ≡ p
middle h p t a n e f = rw (drop_at h (p ++ t) a e) (take_at p t n f)

pub head_part : (a r : List ℕ) (i k : ℕ) → i + k ≤ length a → take k (drop i (a ++ r)) ≡ take k (drop i a)
head_part a r i k h =
    let d = length-drop i a in
    ap (take k) (drop-append-le i a r (omega arith)) ∙ take-append-le k (drop i a) r (omega arith)

pub part_before : (l : List ℕ) (a : ℕ) (vs : List ℕ) (i k : ℕ) → i + k ≤ a → a ≤ length l → take k (drop i (placed l a vs)) ≡ take k (drop i l)
part_before l a vs i k h g =
    let t = length-take-le a l g in
    ap (λ (m : List ℕ). take k (drop i m)) (append_assoc (take a l) vs (drop (a + length vs) l))
    ∙ head_part (take a l) (vs ++ drop (a + length vs) l) i k (omega arith)
    ∙ sym (head_part (take a l) (drop a l) i k (omega arith))
    ∙ ap (λ (m : List ℕ). take k (drop i m)) (take-append-drop a l)

pub part_at : (l : List ℕ) (a : ℕ) (vs : List ℕ) (k : ℕ) → length vs ≡ k → a ≤ length l → take k (drop a (placed l a vs)) ≡ vs
part_at l a vs k e g =
    ap (λ (m : List ℕ). take k (drop a m)) (append_assoc (take a l) vs (drop (a + length vs) l))
    ∙ ap (take k) (drop_at (take a l) (vs ++ drop (a + length vs) l) a (length-take-le a l g))
    ∙ take_at vs (drop (a + length vs) l) k e

pub part_element : (l : List ℕ) (a i k : ℕ) → i < k → get_or l (a + i) 0 ≡ get_or (take k (drop a l)) i 0
part_element l a i k h = sym (get_or-take k (drop a l) i 0 h ∙ get_or-drop a l i 0)

pub part_first : (l : List ℕ) (a k : ℕ) → 0 < k → get_or l a 0 ≡ get_or (take k (drop a l)) 0 0
part_first l a k h = ap (λ (n : ℕ). get_or l n 0) (sym (add-zero a)) ∙ part_element l a 0 k h

pub placed_same : (l : List ℕ) (a k : ℕ) → a + k ≤ length l → l ≡ placed l a (take k (drop a l))
placed_same l a k h =
    let s : length (take k (drop a l)) ≡ k = simp (length-take, length-drop) (omega arith) in
    let d : drop (a + k) l ≡ drop k (drop a l) = sym (drop-drop k a l) in
    rw (s, d, append_assoc, take-append-drop k (drop a l), take-append-drop a l)

-- ## A part that is lent

drop_taken : {A : Type 0} (k : ℕ) (l : List A) → drop (length (take k l)) l ≡ drop k l
drop_taken zero l = refl
drop_taken (suc k) [] = refl
drop_taken (suc k) (x ∷ l) = drop_taken k l

-- A part comes back as long as it was, so it is written over what was there.
pub part_back : {A : Type 0} (a k : ℕ) (xs ys zs : List A) → ys ≡ zs → length ys ≡ length (mid_of a k xs) → put_mid a k xs ys ≡ placed xs a zs
part_back a k xs ys zs q l =
    let n : length (take k (drop a xs)) ≡ length zs = sym l ∙ ap length q in
    rw (q, ← drop_taken k (drop a xs), n, drop-drop) (sym (append_assoc (take a xs) zs (drop (a + length zs) xs)))
