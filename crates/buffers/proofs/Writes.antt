-- Laws of writing into a buffer: a byte, a copy, and one piece after another.
use Prim.Native.Nat.{ℕ, suc, ◌+◌, ◌≤◌, ◌<◌}
use mathlib.Core.Path.{◌≡◌, refl, sym, ap, ◌∙◌}
use mathlib.Core.List.{List, [], ◌∷◌, ◌++◌, append_assoc, append-nil}
use native.Mathlib.Omega.{arith}
use native.Mathlib.Numerals.{add-one}
use native.Mathlib.Nat.{le_of_eq}
use lib.ListN.{length, take, drop, set, replicate, length-replicate, get_or, length-append, length-set, length-take, length-drop, take-append-drop, drop_of_length-le}
use lib.Seq.{take_at, drop_at, drop-drop, set_split, set_at, drop-cons, append_snoc, length-take-le, take-length}
use borrow.Rule.Slice.PartMut.{put_mid}
use Rattle.std.proofs.lemmas.Slice.{put_mid-paste}
use Rattle.std.proofs.lemmas.List.{replicate_more}
use Rattle.buffers.specs.Writes.{placed, Wrote}

module _ {A : Type 0} where
  head_long : (a : ℕ) (out vs : List A) → a ≤ length out → length (take a out ++ vs) ≡ a + length vs
  head_long a out vs h = simp (length-append, length-take-le a out h)

  -- Two pieces, the second behind the first, are one piece.
  pub placed_twice : (out : List A) (a : ℕ) (vs ws : List A) → a ≤ length out → placed (placed out a vs) (a + length vs) ws ≡ placed out a (vs ++ ws)
  placed_twice out a vs ws h =
      let t : take (a + length vs) (placed out a vs) ≡ take a out ++ vs =
      take_at (take a out ++ vs) (drop (a + length vs) out) (a + length vs) (head_long a out vs h) in
      let d : drop (a + length vs) (placed out a vs) ≡ drop (a + length vs) out =
      drop_at (take a out ++ vs) (drop (a + length vs) out) (a + length vs) (head_long a out vs h) in
      let n : a + length vs + length ws ≡ a + length (vs ++ ws) = simp length-append (omega arith) in
      let e : drop (a + length vs + length ws) (placed out a vs) ≡ drop (a + length (vs ++ ws)) out =
      sym (drop-drop (length ws) (a + length vs) (placed out a vs)) ∙ ap (λ (l : List A). drop (length ws) l) d
      ∙ drop-drop (length ws) (a + length vs) out ∙ ap (λ (k : ℕ). drop k out) n in
      ap (λ (l : List A). l ++ ws ++ drop (a + length vs + length ws) (placed out a vs)) t
      ∙ ap (λ (l : List A). (take a out ++ vs) ++ ws ++ l) e
      ∙ simp append_assoc

  pub wrote_both : (out : List A) (a : ℕ) (vs : List A) (k : ℕ) (m : List A) (r : ℕ) (ws : List A) (j : ℕ) (exit : List A) (q : ℕ)
      → a ≤ length out → Wrote out a vs k m r → Wrote m r ws j exit q → Wrote out a (vs ++ ws) (k + j) exit q
  wrote_both out a vs k m r ws j exit q h x y =
      record {
        next = simp length-append (omega arith);
        holds = y.holds ∙ rw (x.holds, x.next) (placed_twice out a vs ws h);
        long = y.long ∙ x.long;
        most = omega arith;
      }

  pub wrote_byte : (out : List A) (a : ℕ) (x : A) → a < length out → Wrote out a (x ∷ []) 1 (set out a x) (a + 1)
  wrote_byte out a x h =
      record {
        next = refl;
        holds = rw add-one (set_split out a x h ∙ sym (append_snoc (take a out) x (drop (suc a) out)));
        long = length-set out a x;
        most = omega arith;
      }

  -- The same text, and another bound.
  pub wrote_as : (out : List A) (a : ℕ) (vs ws : List A) (k j : ℕ) (exit : List A) (r : ℕ) → Wrote out a vs k exit r → vs ≡ ws → length ws ≤ j → Wrote out a ws j exit r
  wrote_as out a vs ws k j exit r x e h =
      record { next = x.next ∙ rw e; holds = x.holds ∙ rw e; long = x.long; most = let q : r ≡ a + length ws = x.next ∙ rw e in omega arith }

  -- A wider bound.
  pub wrote_wider : {out : List A} {a : ℕ} {vs : List A} {k j : ℕ} {exit : List A} {r : ℕ} → Wrote out a vs k exit r → k ≤ j → Wrote out a vs j exit r
  wrote_wider w h = record { next = w.next; holds = w.holds; long = w.long; most = let q = w.most in omega arith }

  pub wrote_nothing : (out : List A) (a : ℕ) → Wrote out a [] 0 out a
  wrote_nothing out a =
      let q : a + 0 ≡ a = omega arith in
      record { next = sym q; holds = rw (q, append-nil) (sym (take-append-drop a out)); long = refl; most = omega arith }

  -- A part that was lent comes back as zs.
  pub wrote_part : (out : List A) (a k : ℕ) (ys zs : List A) → ys ≡ zs → k ≡ length zs → a + k ≤ length out → Wrote out a zs k (put_mid a k out ys) (a + k)
  wrote_part out a k ys zs e n h =
      let p : put_mid a k out ys ≡ placed out a zs = put_mid-paste a k out ys zs k e refl n ∙ rw (n, take-length zs) in
      let l = length-take-le a out (omega arith) in
      let d = length-drop (a + length zs) out in
      record { next = rw n; holds = p; long = rw p (simp length-append (omega arith)); most = omega arith }

  -- ## A fill

  pub fill_start : (d : List A) (x : A) → d ≡ replicate 0 x ++ drop 0 d
  fill_start d x = refl

  pub fill_step : (d s : List A) (i : ℕ) (x : A) → s ≡ replicate i x ++ drop i d → i < length d → set s i x ≡ replicate (i + 1) x ++ drop (i + 1) d
  fill_step d s i x e h =
      let r : replicate (i + 1) x ≡ replicate i x ++ x ∷ [] = sym (replicate_more i x) in
      rw (e, r, add-one i, drop-cons d i x h) (set_at (replicate i x) (get_or d i x) (drop (suc i) d) x i (length-replicate i x) ∙ sym (append_snoc (replicate i x) x (drop (suc i) d)))

  pub fill_end : (out : List A) (a n k : ℕ) (x : A) (s : List A) (i : ℕ) → s ≡ replicate i x ++ drop i (take k (drop a out)) → i ≡ length (take k (drop a out)) → k ≡ n → a + n ≤ length out
      → Wrote out a (replicate n x) n (put_mid a k out s) (a + n)
  fill_end out a n k x s i e q f h =
      let t : length (take k (drop a out)) ≡ n = simp (length-take, length-drop) (omega arith) in
      let g : i ≡ n = q ∙ t in
      let d : drop n (take k (drop a out)) ≡ [] = drop_of_length-le (take k (drop a out)) (le_of_eq t) in
      let z : s ≡ replicate n x = e ∙ rw (g, d, append-nil) in
      rw f (wrote_part out a n s (replicate n x) z (sym (length-replicate n x)) h)

  pub ruleset fill_cases = (fill_start, fill_step, fill_end)
