-- However the input is cut into blocks, it prints and leaves what its lines print and leave.
use Prim.Native.Nat.{ℕ, suc, ◌≤◌, ◌<◌}
use mathlib.Core.Path.{◌≡◌, refl, sym, ◌∙◌, ap}
use mathlib.Core.Logic.{inl, inr}
use mathlib.Core.Bool.{false}
use mathlib.Core.List.{List, [], ◌∷◌, ◌++◌, append-nil, append_assoc}
use Rattle.std.specs.Prelude.{None}
use native.Mathlib.Omega.{arith}
use lib.Dec.{ltb}
use lib.ListN.{length, take, drop, length-append, take-append-drop}
use lib.Seq.{length-take-le, take_all}
use borrow.Author.Tests.{lt-ltb, ltb-true, ltb-false}
use Rattle.buffers.proofs.Tests.{either}
use Rattle.text.specs.Lines.{lines_of, feed_at}
use Rattle.text.specs.Keys.{contains}
use Rattle.model.proofs.Runs.{left_append, gathered_append}
use Rattle.request.specs.Grammar.{request_in, read_line}
use Rattle.bucket.specs.Whole.{Lent}
use Rattle.outcome.specs.Outcome.{Outcome}
use Rattle.outcome.specs.Printed.{printed_of}
use Rattle.outcome.proofs.Heard.{same_outcome}
use Rattle.bucketrun.specs.Program.{answer_room, served_line, after_line, printed_line, left_by, printed_by, ended_length, ended_lines, begun_line, Waiting, waiting, after_block, after_blocks, printed_blocks, written_by, joined, CutAnywhere}
use Rattle.bucketrun.proofs.Lines.{end_cut, end_most, rest_none, none_take, lines_append, lines_begun}

-- ## Long lines

-- A line of more than 512 bytes reads as nothing.
long_unread : (l : List ℕ) → 512 < length l → read_line l ≡ None
unfolding read_line request_in
long_unread l h = simp (lt-ltb _ _ h)

cut_served : (h : Lent) (s rest : List ℕ) → 513 ≤ length s → served_line h (take 513 s ++ rest) ≡ served_line h (s ++ rest)
cut_served h s rest l =
    let n : length (take 513 s) ≡ 513 = length-take-le 513 s l in
    same_outcome h (take 513 s ++ rest) (s ++ rest) answer_room
    (long_unread (take 513 s ++ rest) (rw length-append (omega arith)) ∙ sym (long_unread (s ++ rest) (rw length-append (omega arith))))

module _ (h : Lent) (s u : List ℕ) (e : contains s 10 ≡ false) where
  -- 513 bytes of a line that has begun, with what comes behind them, are served like the whole of it.
  cut_lines : {A : Type 0} (f : List (List ℕ) → A) → ((l m : List ℕ) (ls : List (List ℕ)) → served_line h l ≡ served_line h m → f (l ∷ ls) ≡ f (m ∷ ls))
      → f (lines_of (take 513 s ++ u)) ≡ f (lines_of (s ++ u))
  cut_lines f g =
      elim (either (ltb 513 (length s))) [
        | inl t ↦
            let l : 513 < length s = ltb-true 513 (length s) t in
            let n : length (take 513 s) ≡ 513 = length-take-le 513 s (omega arith) in
            ap f (lines_begun (take 513 s) u (none_take 513 s e) (omega arith))
            ∙ g (take 513 s ++ take (feed_at u) u) (s ++ take (feed_at u) u) (lines_of (drop (suc (feed_at u)) u)) (cut_served h s (take (feed_at u) u) (omega arith))
            ∙ sym (ap f (lines_begun s u e (omega arith)))
        | inr t ↦ let l = ltb-false 513 (length s) t in ap (λ (r : List ℕ). f (lines_of (r ++ u))) (take_all 513 s (omega arith))
      ]

  cut_printed : printed_by h (lines_of (take 513 s ++ u)) ≡ printed_by h (lines_of (s ++ u))
  cut_printed = cut_lines (printed_by h) (λ l m ls q. ap (λ (o : Outcome). printed_of o ++ printed_by o.bucket ls) q)

  cut_left : left_by h (lines_of (take 513 s ++ u)) ≡ left_by h (lines_of (s ++ u))
  cut_left = cut_lines (left_by h) (λ l m ls q. ap (λ (o : Outcome). left_by o.bucket ls) q)

-- ## Blocks

-- The lines of a text are those that end in it, and those of the rest with what comes behind it.
text_lines : (t u : List ℕ) → lines_of (t ++ u) ≡ ended_lines t ++ lines_of (drop (ended_length t) t ++ u)
text_lines t u =
    let n : length (take (ended_length t) t) ≡ ended_length t = length-take-le (ended_length t) t (end_most t) in
    ap (λ (x : List ℕ). lines_of (x ++ u)) (sym (take-append-drop (ended_length t) t))
    ∙ ap lines_of (append_assoc (take (ended_length t) t) (drop (ended_length t) t) u)
    ∙ lines_append (take (ended_length t) t) (drop (ended_length t) t ++ u) (end_cut t ∙ sym n)

block_printed : (h : Lent) (t u : List ℕ) → printed_by h (ended_lines t) ++ printed_by (left_by h (ended_lines t)) (lines_of (begun_line t ++ u)) ≡ printed_by h (lines_of (t ++ u))
block_printed h t u =
    ap (λ (x : List ℕ). printed_by h (ended_lines t) ++ x) (cut_printed (left_by h (ended_lines t)) (drop (ended_length t) t) u (rest_none t))
    ∙ sym (gathered_append after_line printed_line h (ended_lines t) (lines_of (drop (ended_length t) t ++ u)))
    ∙ ap (printed_by h) (sym (text_lines t u))

block_left : (h : Lent) (t u : List ℕ) → left_by (left_by h (ended_lines t)) (lines_of (begun_line t ++ u)) ≡ left_by h (lines_of (t ++ u))
block_left h t u =
    cut_left (left_by h (ended_lines t)) (drop (ended_length t) t) u (rest_none t)
    ∙ sym (left_append after_line h (ended_lines t) (lines_of (drop (ended_length t) t ++ u)))
    ∙ ap (left_by h) (sym (text_lines t u))

blocks_printed : (h : Lent) (begun : List ℕ) (xs : List (List ℕ)) → printed_blocks (waiting h begun) xs ≡ printed_by h (lines_of (begun ++ joined xs))
blocks_printed h begun [] = ap (λ (t : List ℕ). printed_by h (lines_of t)) (sym (append-nil begun))
blocks_printed h begun (x ∷ xs) =
    ap (λ (t : List ℕ). printed_by h (ended_lines (begun ++ x)) ++ t) (blocks_printed (left_by h (ended_lines (begun ++ x))) (begun_line (begun ++ x)) xs)
    ∙ block_printed h (begun ++ x) (joined xs)
    ∙ ap (λ (t : List ℕ). printed_by h (lines_of t)) (append_assoc begun x (joined xs))

pub blocks_left : (h : Lent) (begun : List ℕ) (xs : List (List ℕ))
    → left_by (after_blocks (waiting h begun) xs).bucket (lines_of (after_blocks (waiting h begun) xs).begun) ≡ left_by h (lines_of (begun ++ joined xs))
blocks_left h begun [] = ap (λ (t : List ℕ). left_by h (lines_of t)) (sym (append-nil begun))
blocks_left h begun (x ∷ xs) =
    blocks_left (left_by h (ended_lines (begun ++ x))) (begun_line (begun ++ x)) xs
    ∙ block_left h (begun ++ x) (joined xs)
    ∙ ap (λ (t : List ℕ). left_by h (lines_of t)) (append_assoc begun x (joined xs))

pub cut_anywhere : CutAnywhere
cut_anywhere h xs = blocks_printed h [] xs

-- ## One more block

-- What is written before the input's end, and what is kept.
written_kept : (w : Waiting) (xs : List (List ℕ)) → written_by w xs ++ printed_by (after_blocks w xs).bucket (lines_of (after_blocks w xs).begun) ≡ printed_blocks w xs
written_kept w [] = refl
written_kept w (x ∷ xs) =
    append_assoc (printed_by w.bucket (ended_lines (w.begun ++ x))) (written_by (after_block w x) xs) _
    ∙ ap (λ (t : List ℕ). printed_by w.bucket (ended_lines (w.begun ++ x)) ++ t) (written_kept (after_block w x) xs)

pub all_written : (h : Lent) (xs : List (List ℕ))
    → written_by (waiting h []) xs ++ printed_by (after_blocks (waiting h []) xs).bucket (lines_of (after_blocks (waiting h []) xs).begun) ≡ printed_by h (lines_of (joined xs))
all_written h xs = written_kept (waiting h []) xs ∙ cut_anywhere h xs

pub written_more : (w : Waiting) (xs : List (List ℕ)) (x : List ℕ)
    → written_by w (xs ++ x ∷ []) ≡ written_by w xs ++ printed_by (after_blocks w xs).bucket (ended_lines ((after_blocks w xs).begun ++ x))
written_more w [] x = append-nil (printed_by w.bucket (ended_lines (w.begun ++ x)))
written_more w (y ∷ xs) x =
    ap (λ (t : List ℕ). printed_by w.bucket (ended_lines (w.begun ++ y)) ++ t) (written_more (after_block w y) xs x)
    ∙ sym (append_assoc (printed_by w.bucket (ended_lines (w.begun ++ y))) (written_by (after_block w y) xs) _)

pub joined_more : (xs : List (List ℕ)) (x : List ℕ) → joined (xs ++ x ∷ []) ≡ joined xs ++ x
joined_more [] x = append-nil x
joined_more (y ∷ xs) x = ap (λ (t : List ℕ). y ++ t) (joined_more xs x) ∙ sym (append_assoc y (joined xs) x)
