-- Laws of a list of lines: one line more, and the end of the text.
use Prim.Native.Nat.{ℕ, ◌+◌, ◌-◌, ◌≤◌, ◌<◌}
use mathlib.Core.Path.{◌≡◌, refl, sym, ◌∙◌, ap}
use mathlib.Core.List.{List}
use native.Mathlib.Omega.{arith}
use lib.ListN.{length, take, drop, drop_of_length-le, length-drop}
use Rattle.buffers.specs.Ranges.{Within}
use Rattle.buffers.proofs.Parts.{rest_all}
use Rattle.text.specs.Lines.{lines_of, feed_at}
use Rattle.text.proofs.Lines.{lines_at}
use Rattle.std.specs.Prelude.{Result, Ok, Err}
use Rattle.model.specs.declared.Refusal.{Refusal}
use Rattle.settings.specs.declared.Settings.{Settings}
use Rattle.bucket.specs.Whole.{Lent, lent}
use Rattle.engine.specs.declared.Served.{Served}
use Rattle.engine.specs.Served.{served_outcome}
use Rattle.outcome.specs.Calls.{call}
use Rattle.outcome.specs.Outcome.{Outcome, outcome}
use Rattle.guarantee.specs.Lists.{Ended, ended, served_lines, Serving}

-- ## The loop over the lines

module _ (t : List ℕ) (i k : ℕ) where
  -- The line's end lies within the text.
  pub end_most : i < length t → Within k (feed_at (take (length t - i) (drop i t))) (length (take (length t - i) (drop i t))) → i + k ≤ length t
  end_most h w = let l = length-drop i t in let e : k ≤ length (drop i t) = rw (rest_all i t) at w.most in omega arith

  -- One line more is served.
  one_line : (end : Ended) (b₀ b : Lent) (a₀ a : List ℕ) (o : Outcome) → i < length t → Within k (feed_at (take (length t - i) (drop i t))) (length (take (length t - i) (drop i t)))
      → o ≡ outcome b (call (take (i + k - i) (drop i t)) a) → length o.bucket.numbers ≡ length b.numbers → length o.bucket.keys ≡ length b.keys → length o.answer ≡ length a
      → Serving t end b₀ a₀ i b a → Serving t end b₀ a₀ (i + k + 1) o.bucket o.answer
  one_line end b₀ b a₀ a o h w q ln lk la g =
      let e : k ≡ feed_at (drop i t) = rw (rest_all i t) at w.is in
      let z : i + k - i ≡ k = omega arith in
      let x : o ≡ outcome b (call (take k (drop i t)) a) = rw z at q in
      record {
        leads = g.leads ∙ ap (served_lines b a) (lines_at t i k h e) ∙ ap (λ (y : Outcome). served_lines y.bucket y.answer (lines_of (drop (i + k + 1) t))) (sym x);
        most = let m = end_most h w in omega arith;
        numbers_long = ln ∙ g.numbers_long;
        keys_long = lk ∙ g.keys_long;
        answer_long = la ∙ g.answer_long;
      }

  module _ (end : Ended) (b₀ : Lent) (a₀ : List ℕ) (s : Settings) (n keys a n' k' a' : List ℕ) (r : Result Served Refusal) (h : i < length t) (w : Within k (feed_at (take (length t - i) (drop i t))) (length (take (length t - i) (drop i t))))
      (q : served_outcome s r n' k' a' ≡ outcome (lent s n keys) (call (take (i + k - i) (drop i t)) a)) (ln : length n' ≡ length n) (lk : length k' ≡ length keys) (la : length a' ≡ length a) (g : Serving t end b₀ a₀ i (lent s n keys) a) where
    pub one_more : (x : Served) → r ≡ Ok x → Serving t end b₀ a₀ (i + k + 1) (lent x.settings n' k') a'
    one_more x e = one_line end b₀ (lent s n keys) a₀ a (served_outcome s (Ok x) n' k' a') h w (rw e at q) ln lk la g

    pub one_refused : (x : Refusal) → r ≡ Err x → Serving t end b₀ a₀ (i + k + 1) (lent s n' k') a'
    one_refused x e = one_line end b₀ (lent s n keys) a₀ a (served_outcome s (Err x) n' k' a') h w (rw e at q) ln lk la g

module _ (t : List ℕ) (b : Lent) (a : List ℕ) where
  -- Before the first line.
  pub none_yet : Serving t (served_lines b a (lines_of t)) b a 0 b a
  none_yet = record { leads = refl; most = omega arith; numbers_long = refl; keys_long = refl; answer_long = refl }

  -- Behind the last line.
  pub all_done : (end : Ended) (b₀ : Lent) (a₀ : List ℕ) (i : ℕ) → length t ≤ i → Serving t end b₀ a₀ i b a → ended b a ≡ end
  all_done end b₀ a₀ i h g = sym (rw (drop_of_length-le t h) at g.leads)

pub ruleset serving = (end_most, one_more, one_refused, none_yet, all_done)
