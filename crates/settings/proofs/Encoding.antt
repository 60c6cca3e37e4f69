-- Laws of writing: a rule that is written reads as itself, the rules one after the other, and the state.
use Prim.Native.Nat.{ℕ, ◌+◌, ◌*◌, ◌≤◌, ◌<◌}
use mathlib.Core.Path.{◌≡◌, refl, sym, ap, ◌∙◌}
use mathlib.Core.Bool.{true}
use mathlib.Core.List.{List, [], ◌++◌, append_assoc, append-nil}
use native.Mathlib.Omega.{arith}
use native.Mathlib.Numerals.{add-one}
use lib.Dec.{eqb}
use lib.ListN.{length, get_or, take, drop, length-append}
use lib.Seq.{take-suc, take_all, take-suc-set}
use borrow.Author.Tests.{eqb-true, eq-eqb, ltb-true, lt-ltb}
use Rattle.buffers.specs.Words.{number, spelled}
use Rattle.buffers.specs.Writes.{Wrote}
use Rattle.buffers.proofs.Tests.{and_both, and_i}
use Rattle.buffers.proofs.Words.{length_spelled, number_spelled}
use Rattle.buffers.proofs.Parts.{middle}
use Rattle.buffers.proofs.Writes.{wrote_both}
use Rattle.settings.specs.declared.Rule.{Rule}
use Rattle.settings.specs.declared.State.{State}
use Rattle.settings.specs.Bytes.{rule_bytes, state_bytes, rule_at, rules_of, is_word, rule_fits}
use Rattle.settings.specs.Changes.{RulePut}
use Rattle.settings.proofs.Decoding.{rule_made}
use Rattle.settings.proofs.Entries.{rules_long, rules_placed}

-- ## A rule

rule_parts : (u : Rule) → rule_fits u ≡ true → (length u.prefix ≡ 64) × (is_word u.current ≡ true) × (is_word u.noncurrent ≡ true)
rule_parts u f =
    let a = and_both (eqb (length u.prefix) 64) _ f in
    let b = and_both (is_word u.current) _ a.1 in
    (eqb-true (length u.prefix) 64 a.0, b.0, b.1)

rule_length : (p : List ℕ) (x y : ℕ) → length p ≡ 64 → length (p ++ (spelled 8 x ++ spelled 8 y)) ≡ 80
rule_length p x y h = simp (length-append, length_spelled) (omega arith)

pub rule_long : (u : Rule) → rule_fits u ≡ true → length (rule_bytes u) ≡ 80
rule_long u f = rule_length u.prefix u.current u.noncurrent (rule_parts u f).0

pub word_back : (n : ℕ) → is_word n ≡ true → number (spelled 8 n) ≡ n
word_back n h = number_spelled 8 n (omega (arith, ltb-true n 18446744073709551616 h))

-- A rule that is written reads as itself.
pub rule_back : (u : Rule) (h t : List ℕ) (a : ℕ) → length h ≡ a → rule_fits u ≡ true → rule_at (h ++ (rule_bytes u ++ t)) a ≡ u
rule_back u h t a e f =
    let p = u.prefix in
    let x = spelled 8 u.current in
    let y = spelled 8 u.noncurrent in
    let k = rule_parts u f in
    let lp : length p ≡ 64 = k.0 in
    let lx : length x ≡ 8 = length_spelled 8 u.current in
    let ly : length y ≡ 8 = length_spelled 8 u.noncurrent in
    let e1 : h ++ (rule_bytes u ++ t) ≡ h ++ (p ++ ((x ++ y) ++ t)) = simp append_assoc in
    let e2 : h ++ (rule_bytes u ++ t) ≡ (h ++ p) ++ (x ++ (y ++ t)) = simp append_assoc in
    let e3 : h ++ (rule_bytes u ++ t) ≡ ((h ++ p) ++ x) ++ (y ++ t) = simp append_assoc in
    let l2 : length (h ++ p) ≡ a + 64 = simp length-append (omega arith) in
    let l3 : length ((h ++ p) ++ x) ≡ a + 72 = simp length-append (omega arith) in
    rule_made _ p _ u.current _ u.noncurrent
    (rw e1 (middle h p ((x ++ y) ++ t) a 64 e lp))
    (rw (e2, middle (h ++ p) x (y ++ t) (a + 64) 8 l2 lx) (word_back u.current k.1))
    (rw (e3, middle ((h ++ p) ++ x) y t (a + 72) 8 l3 ly) (word_back u.noncurrent k.2))

pub rule_own : (u : Rule) → rule_fits u ≡ true → rule_at (rule_bytes u) 0 ≡ u
rule_own u f = ap (λ (l : List ℕ). rule_at l 0) (sym (append-nil (rule_bytes u))) ∙ rule_back u [] [] 0 refl f

-- Exactly n elements are written.
exact : (out : List ℕ) (a : ℕ) (vs : List ℕ) (n k : ℕ) (exit : List ℕ) (r : ℕ) → Wrote out a vs k exit r → length vs ≡ n → Wrote out a vs n exit (a + n)
exact out a vs n k exit r w e = record { next = ap (λ (i : ℕ). a + i) (sym e); holds = w.holds; long = w.long; most = omega arith }

pub rule_written : (out : List ℕ) (at : ℕ) (u : Rule) (k : ℕ) (l m exit : List ℕ) (q r t : ℕ) → length u.prefix ≡ 64 → u.current < 18446744073709551616 → u.noncurrent < 18446744073709551616 → at + 80 ≤ length out
    → Wrote out at u.prefix k l q → Wrote l q (spelled 8 u.current) 8 m r → Wrote m r (spelled 8 u.noncurrent) 8 exit t → RulePut out at u exit
rule_written out at u k l m exit q r t n hx hy h v w z =
    let p = u.prefix in
    let x = u.current in
    let y = u.noncurrent in
    let long = w.long in
    record {
      fits = and_i _ _ (eq-eqb (length p) 64 n) (and_i _ _ (lt-ltb x 18446744073709551616 hx) (lt-ltb y 18446744073709551616 hy));
      wrote =
          exact out at (p ++ (spelled 8 x ++ spelled 8 y)) 80 (k + (8 + 8)) exit t
          (wrote_both out at p k l q (spelled 8 x ++ spelled 8 y) (8 + 8) exit t (omega arith) v
          (wrote_both l q (spelled 8 x) 8 m r (spelled 8 y) 8 exit t (omega (arith, v.next)) w z))
          (rule_length p x y n);
    }

-- ## The rules

abbrev pub no_rule : Rule
no_rule = record { prefix = []; current = 0; noncurrent = 0 }

-- the rule at place k; an array has none outside of its places
abbrev pub at_place : List Rule → ℕ → Rule
at_place us k = get_or us k no_rule

module _ (us : List Rule) (e : List ℕ) (k : ℕ) where
  pub rules_start : take 0 (rules_of e) ≡ take 0 us
  rules_start = refl

  pub rules_step : (exit : List ℕ) → RulePut e (80 * k) (at_place us k) exit → length us ≡ 8 → k < 8 → length e ≡ 640 → take k (rules_of e) ≡ take k us → take (k + 1) (rules_of exit) ≡ take (k + 1) us
  rules_step exit w n h l q =
      let u = at_place us k in
      let z : 0 + 80 * k ≡ 80 * k = omega arith in
      let p : rules_of exit ≡ _ = rules_placed e (rule_bytes u) exit (rule_long u w.fits) w.wrote.long 8 0 k (rw z w.wrote.holds) h (omega arith) in
      rw (add-one, p, rule_own u w.fits, take-suc-set (rules_of e) k u (omega (arith, rules_long 8 0 e)), take-suc us k no_rule (omega arith), q)

  pub rules_kept : (u : Rule) (exit : List ℕ) → RulePut e (80 * k) u exit → length e ≡ 640 → length exit ≡ 640
  rules_kept u exit w l = w.wrote.long ∙ l

  pub rules_end : length us ≡ 8 → k ≤ 8 → 8 ≤ k → take k (rules_of e) ≡ take k us → rules_of e ≡ us
  rules_end n h l q =
      let z : k ≡ 8 = omega arith in
      sym (take_all 8 (rules_of e) (omega (arith, rules_long 8 0 e))) ∙ (rw z at q) ∙ take_all 8 us (omega arith)

pub ruleset rules_put = (rules_start, rules_step, rules_kept, rules_end)

-- ## The state

pub state_length_lem : (s : State) → length (state_bytes s) ≡ 48
state_length_lem s = simp (length-append, length_spelled)

-- What a call leaves, c, is what the next one finds, b.
pub state_written : (s : State) (b c1 b1 c2 b2 c3 b3 c4 b4 c5 b5 exit : List ℕ) (r1 r2 r3 r4 r5 r6 : ℕ)
    → Wrote b 0 (spelled 8 s.time) 8 c1 r1
    → Wrote b1 r1 (spelled 8 s.used) 8 c2 r2
    → Wrote b2 r2 (spelled 8 s.next) 8 c3 r3
    → Wrote b3 r3 (spelled 8 s.mode) 8 c4 r4
    → Wrote b4 r4 (spelled 8 s.count) 8 c5 r5
    → Wrote b5 r5 (spelled 8 s.unit) 8 exit r6
    → c1 ≡ b1 → c2 ≡ b2 → c3 ≡ b3 → c4 ≡ b4 → c5 ≡ b5 → 48 ≤ length b
    → exit ≡ state_bytes s ++ drop 48 b
state_written s b c1 b1 c2 b2 c3 b3 c4 b4 c5 b5 exit r1 r2 r3 r4 r5 r6 w1 w2 w3 w4 w5 w6 e1 e2 e3 e4 e5 h =
    let u5 = rw e5 at w5 in
    let u4 = rw e4 at w4 in
    let u3 = rw e3 at w3 in
    let u2 = rw e2 at w2 in
    let u1 = rw e1 at w1 in
    let v5 = wrote_both b4 r4 _ 8 b5 r5 _ 8 exit r6 (omega arith) u5 w6 in
    let v4 = wrote_both b3 r3 _ 8 b4 r4 _ _ exit r6 (omega arith) u4 v5 in
    let v3 = wrote_both b2 r2 _ 8 b3 r3 _ _ exit r6 (omega arith) u3 v4 in
    let v2 = wrote_both b1 r1 _ 8 b2 r2 _ _ exit r6 (omega arith) u2 v3 in
    let v1 = wrote_both b 0 _ 8 b1 r1 _ _ exit r6 (omega arith) u1 v2 in
    v1.holds ∙ ap (λ (k : ℕ). state_bytes s ++ drop k b) (let z : 0 + length (state_bytes s) ≡ 48 = omega (arith, state_length_lem s) in z)
