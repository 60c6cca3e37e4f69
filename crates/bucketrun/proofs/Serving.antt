-- Laws of the loops over a block: what holds between two lines, and between two parts.
use Prim.Native.Nat.{ℕ, suc, ◌+◌, ◌-◌, ◌≤◌, ◌<◌}
use mathlib.Core.Path.{◌≡◌, refl, sym, ◌∙◌, ap, ap₂, subst⁻¹}
use mathlib.Core.Bool.{true, false}
use mathlib.Core.List.{List, [], ◌∷◌, ◌++◌, append-nil}
use native.Mathlib.Omega.{arith}
use lib.ListN.{length, take, drop, length-take, length-drop, length-replicate, take-append-drop}
use lib.Seq.{length-take-le, drop_at, drop-drop, take-add, take-append-le, drop-append-le}
use borrow.Rule.Slice.PartMut.{mid_of, put_mid, take_put, same_len_mid}
use Rattle.std.proofs.Common.{Option, subst}
use Rattle.std.specs.Io.KnownBytes.{Appends}
use Rattle.std.proofs.KnownBytes.{Appends-trans}
use Rattle.buffers.specs.Ranges.{Within}
use Rattle.buffers.specs.Writes.{placed, Wrote}
use Rattle.buffers.proofs.Tests.{clash}
use Rattle.buffers.proofs.Parts.{rest_all, part_cut}
use Rattle.buffers.proofs.Writes.{wrote_both}
use Rattle.text.specs.Lines.{lines_of, feed_at}
use Rattle.model.proofs.Runs.{left_append, gathered_append}
use borrow.Author.Tests.{ne_eqb}
use Rattle.std.specs.Prelude.{Result, Ok, Err, OnOk}
use Rattle.model.specs.declared.Refusal.{Refusal}
use Rattle.model.specs.Refusal.{number_of}
use Rattle.model.proofs.Facts.{number_not_0}
use Rattle.settings.specs.declared.State.{State}
use Rattle.settings.specs.Bytes.{rules_of}
use Rattle.bucket.specs.Whole.{Lent, lent_with, whole}
use Rattle.outcome.specs.Calls.{call, heard}
use Rattle.outcome.specs.Outcome.{Outcome, outcome}
use Rattle.outcome.specs.Printed.{refusal_text, printed, printed_of}
use Rattle.outcome.proofs.Room.{outcome_fits}
use Rattle.outcome.proofs.Heard.{length_heard, same_left, same_printed, same_behind}
use Rattle.outcome.proofs.Kept.{outcome_whole}
use Rattle.engine.specs.declared.Done.{Done}
use Rattle.engine.specs.Served.{outcome_from}
use Rattle.engine.proofs.Serving.{answer_fits}
use Rattle.bucketrun.specs.Program.{answer_room, served_line, after_line, printed_line, left_by, printed_by, ended_length}
use Rattle.bucketrun.specs.Course.{Through, BetweenLines, ServedSome, BetweenParts, ServedAll}
use Rattle.bucketrun.proofs.Printing.{wrote_front, prints_answer}
use Rattle.bucketrun.proofs.Lines.{none_feed, none_end, end_append, end_first, lines_append, lines_first}

-- ## The first bytes of a block, and more of them

module _ (h : Lent) (block : List ℕ) (i : ℕ) (b : Lent) (g : Through h block i b) where
  end_behind : (u : List ℕ) → ended_length (take i block ++ u) ≡ i + ended_length u
  end_behind u =
      let t = length-take-le i block g.inside in
      let e = end_append (take i block) u (g.cut ∙ sym t) in
      omega arith

  end_rest : ended_length block ≡ i + ended_length (drop i block)
  end_rest = rw take-append-drop at (end_behind (drop i block))

  module _ (j : ℕ) (b' : Lent) (d : Through b (drop i block) j b') where
    lines_both : lines_of (take (i + j) block) ≡ lines_of (take i block) ++ lines_of (take j (drop i block))
    lines_both = ap lines_of (take-add i j block) ∙ lines_append (take i block) (take j (drop i block)) (g.cut ∙ sym (length-take-le i block g.inside))

    through_both : Through h block (i + j) b'
    through_both =
        let l = length-drop i block in
        record {
          is_whole = d.is_whole;
          leads =
              d.leads ∙ ap (λ (x : Lent). left_by x (lines_of (take j (drop i block)))) g.leads
              ∙ sym (ap (left_by h) lines_both ∙ left_append after_line h (lines_of (take i block)) (lines_of (take j (drop i block))));
          inside = omega (arith, g.inside, d.inside);
          cut = ap ended_length (take-add i j block) ∙ end_behind (take j (drop i block)) ∙ ap (λ (n : ℕ). i + n) d.cut;
        }

    printed_both : printed_by h (lines_of (take (i + j) block)) ≡ printed_by h (lines_of (take i block)) ++ printed_by b (lines_of (take j (drop i block)))
    printed_both =
        ap (printed_by h) lines_both ∙ gathered_append after_line printed_line h (lines_of (take i block)) (lines_of (take j (drop i block)))
        ∙ ap (λ (x : Lent). printed_by h (lines_of (take i block)) ++ printed_by x (lines_of (take j (drop i block)))) (sym g.leads)

-- ## The first line of the rest of a block

module _ (b : Lent) (rest : List ℕ) (k : ℕ) (f : k ≡ feed_at rest) (z : k < length rest) (a : List ℕ) (l : length a ≡ 65536) (o : Outcome) (q : o ≡ outcome b (call (take k rest) a)) where
  line_is : lines_of (take (suc k) rest) ≡ take k rest ∷ []
  line_is = rw f (lines_first rest (rw (← f) z))

  -- Of the answer buffer only its length counts.
  same_heard : heard (call (take k rest) a) ≡ heard (call (take k rest) answer_room)
  unfolding answer_room
  same_heard = length_heard (take k rest) a answer_room (l ∙ sym (length-replicate {A = ℕ} 65536 0))

  line_through : whole b ≡ true → Through b rest (suc k) o.bucket
  line_through w =
      record {
        is_whole = rw q (outcome_whole b _ w);
        leads = ap (λ (x : Outcome). x.bucket) q ∙ same_left b _ _ same_heard ∙ sym (ap (left_by b) line_is);
        inside = omega arith;
        cut = rw f (end_first rest (rw (← f) z));
      }

  line_printed : printed_of o ≡ printed_by b (lines_of (take (suc k) rest))
  line_printed = ap printed_of q ∙ same_printed b _ _ same_heard ∙ sym (ap (printed_by b) line_is ∙ append-nil (printed_of (served_line b (take k rest))))

-- ## Between two lines

-- A line's answer stands within the part of the output that it was lent.
pub answer_most : (s : State) (b : Lent) (l out e' n' k' p : List ℕ) (at : ℕ) (q : Result Done Refusal) (r : Done) → outcome_from s q e' n' k' p ≡ outcome b (call l (mid_of at (at + 65536 - at) out)) → q ≡ Ok r
    → length p ≡ length (mid_of at (at + 65536 - at) out) → r.len ≤ 65536
answer_most s b l out e' n' k' p at q r f w e =
    let m : length p ≡ _ = e ∙ ap length (part_cut out at 65536) ∙ length-take 65536 (drop at out) in
    omega (arith, answer_fits s b _ (rules_of e') n' k' p r (rw w at f))

-- A part of the output, put back.
module _ (out p : List ℕ) (at k : ℕ) (h : at + k ≤ length out) (l : length p ≡ k) where
  at_part : drop at (put_mid at k out p) ≡ p ++ drop k (drop at out)
  at_part = drop_at (take at out) (p ++ drop k (drop at out)) at (length-take-le at out (omega arith))

  part_read : (len : ℕ) → len ≤ k → take len (drop at (put_mid at k out p)) ≡ take len p
  part_read len m = ap (take len) at_part ∙ take-append-le len p (drop k (drop at out)) (omega arith)

  -- What is written over a part that has stayed behind it, is written over what was there before.
  over_part : (vs : List ℕ) → length vs ≤ k → drop (length vs) p ≡ drop (length vs) (take k (drop at out)) → placed (put_mid at k out p) at vs ≡ placed out at vs
  over_part vs m e =
      let n = length-drop at out in
      let w = length-take-le k (drop at out) (omega arith) in
      let rest = drop k (drop at out) in
      let d : drop (at + length vs) (put_mid at k out p) ≡ drop (at + length vs) out =
      sym (drop-drop (length vs) at (put_mid at k out p)) ∙ ap (drop (length vs)) at_part
      ∙ drop-append-le (length vs) p rest (omega arith)
      ∙ ap (λ (x : List ℕ). x ++ rest) e
      ∙ sym (drop-append-le (length vs) (take k (drop at out)) rest (omega arith))
      ∙ ap (drop (length vs)) (take-append-drop k (drop at out))
      ∙ drop-drop (length vs) at out in
      ap₂ (λ (x y : List ℕ). x ++ vs ++ y) (take_put at k out p (omega arith)) d

module _ (h : Lent) (block : List ℕ) (from : ℕ) (e₀ out₀ : List ℕ) (b : Lent) (e out : List ℕ) (at i : ℕ) (g : BetweenLines h block from e₀ out₀ b e out at i) where
  -- The bytes that are not served yet.
  left_is : drop i block ≡ drop (i - from) (drop from block)
  left_is = let z : i ≡ from + (i - from) = omega (arith, g.served.span.from) in ap (λ (j : ℕ). drop j block) z ∙ sym (drop-drop (i - from) from block)

  -- One line is served.
  line_after : (k : ℕ) (o : Outcome) → at ≤ 65536 → o ≡ outcome b (call (take (i + k - i) (drop i block)) (mid_of at (at + 65536 - at) out))
      → length o.answer ≡ length (mid_of at (at + 65536 - at) out) → (out' : List ℕ) (j : ℕ) → Within k (feed_at (take (length block - i) (drop i block))) (length (take (length block - i) (drop i block))) → i + k < length block
      → Wrote (put_mid at (at + 65536 - at) out o.answer) at (printed o.number (take o.len (drop at (put_mid at (at + 65536 - at) out o.answer)))) 65536 out' j
      → (e' : List ℕ) → length e' ≡ length e → length o.bucket.numbers ≡ length b.numbers → length o.bucket.keys ≡ length b.keys
      → BetweenLines h block from e₀ out₀ o.bucket e' out' j (i + k + 1)
  line_after k o m q lp out' j w' z v e' le ln lk =
      let t = g.served in
      let p = o.answer in
      let rest = drop (i - from) (drop from block) in
      let a = take 65536 (drop at out) in
      let d : i + k - i ≡ k = omega arith in
      let c : at + 65536 - at ≡ 65536 = omega arith in
      let u : i + k + 1 - from ≡ i - from + suc k = omega (arith, t.span.from) in
      let la : length a ≡ 65536 = length-take-le 65536 (drop at out) (rw length-drop (omega (arith, g.long))) in
      let lo : length out' ≡ length out = v.long ∙ same_len_mid at (at + 65536 - at) out p lp in
      let l : length p ≡ 65536 = lp ∙ ap length (part_cut out at 65536) ∙ la in
      let f : k ≡ feed_at rest = rw (rest_all i block, left_is) at w'.is in
      let y : k < length rest = rw (← left_is, length-drop) (omega arith) in
      let x : o ≡ outcome b (call (take k rest) a) = rw (d, c, left_is) at q in
      let most : o.len ≤ length p = subst⁻¹ (λ (z : Outcome). z.len ≤ length z.answer) x (outcome_fits b (call (take k rest) a)) in
      let w = line_through b rest k f y a la o x t.through.is_whole in
      let s : printed o.number (take o.len (drop at (put_mid at (at + 65536 - at) out p))) ≡ printed_of o =
      rw c (ap (printed o.number) (part_read out p at 65536 (omega (arith, g.long)) l o.len (omega (arith, most)))) in
      let behind : drop (length (printed_of o)) p ≡ drop (length (printed_of o)) a = subst⁻¹ (λ (z : Outcome). drop (length (printed_of z)) z.answer ≡ drop (length (printed_of z)) a) x (same_behind b (call (take k rest) a)) in
      let wrote : Wrote out at (printed_of o) 65536 out' j =
      (let v = rw (s, c) at v in
      record { next = v.next; holds = v.holds ∙ over_part out p at 65536 (omega (arith, g.long)) l (printed_of o) (omega (arith, v.next, v.most)) behind; long = lo; most = v.most }) in
      let both = wrote_both out₀ 0 _ 131072 out at (printed_of o) 65536 out' j (omega arith) t.prints wrote in
      let prints =
      ap (λ (z : List ℕ). printed_by h (lines_of (take (i - from) (drop from block))) ++ z) (line_printed b rest k f y a la o x)
      ∙ sym (printed_both h (drop from block) (i - from) b t.through (suc k) o.bucket w) in
      record {
        served =
            record {
              span = record { from = omega (arith, t.span.from); to = omega arith };
              through = rw u (through_both h (drop from block) (i - from) b t.through (suc k) o.bucket w);
              prints = rw u (record { next = both.next ∙ ap (λ (z : List ℕ). 0 + length z) prints; holds = both.holds ∙ ap (placed out₀ 0) prints; long = both.long; most = omega (arith, wrote.most) });
              most = omega (arith, wrote.most, g.long);
            };
        long = lo ∙ g.long;
        entries_long = le ∙ g.entries_long;
        entries_same = le ∙ g.entries_same;
        numbers_same = ln ∙ g.numbers_same;
        keys_same = lk ∙ g.keys_same;
        out_same = both.long;
      }

  -- No line feed is left.
  pub lines_done : (k : ℕ) → Within k (feed_at (take (length block - i) (drop i block))) (length (take (length block - i) (drop i block))) → length block ≤ i + k → ServedSome h block from out₀ b out at i
  lines_done k w q =
      let t = g.served in
      let x = rw (rest_all i block) at w in
      let l = length-drop i block in
      let n : ended_length (drop i block) ≡ 0 = none_end (drop i block) (none_feed (drop i block) (omega (arith, x.is, x.most))) in
      record { served = t; all = λ y. omega (arith, end_rest h (drop from block) (i - from) b t.through, rw left_is at n) }

-- One line more is answered where its answer stands already, or refused.
module _ (h : Lent) (block : List ℕ) (from : ℕ) (e₀ out₀ : List ℕ) (s : State) (e n keys out : List ℕ) (at i : ℕ) (g : BetweenLines h block from e₀ out₀ (lent_with s e n keys) e out at i) (k : ℕ) (r : Result Done Refusal) (e' n' k' p : List ℕ)
    (m : at ≤ 65536) (q : outcome_from s r e' n' k' p ≡ outcome (lent_with s e n keys) (call (take (i + k - i) (drop i block)) (mid_of at (at + 65536 - at) out))) (lp : length p ≡ length (mid_of at (at + 65536 - at) out))
    (w : Within k (feed_at (take (length block - i) (drop i block))) (length (take (length block - i) (drop i block)))) (z : i + k < length block) (le : length e' ≡ length e) (ln : length n' ≡ length n) (lk : length k' ≡ length keys) where
  part_room : at + 65536 ≤ length (put_mid at (at + 65536 - at) out p)
  part_room = omega (arith, same_len_mid at (at + 65536 - at) out p lp, g.long)

  pub next_answered : (d : Done) → r ≡ Ok d → BetweenLines h block from e₀ out₀ (lent_with d.state e' n' k') e' (put_mid at (at + 65536 - at) out p) (at + d.len) (i + k + 1)
  next_answered d f =
      line_after h block from e₀ out₀ (lent_with s e n keys) e out at i g k (outcome_from s (Ok d) e' n' k' p) m (rw f at q) lp _ _ w z
      (prints_answer (put_mid at (at + 65536 - at) out p) at 0 d.len part_room (answer_most s _ _ out e' n' k' p at r d q f lp) refl) e' le ln lk

  pub next_refused : (x : Refusal) (out' : List ℕ) (j : ℕ) → r ≡ Err x → Wrote (put_mid at (at + 65536 - at) out p) at (refusal_text (number_of x)) 65536 out' j
      → BetweenLines h block from e₀ out₀ (lent_with s e' n' k') e' out' j (i + k + 1)
  next_refused x out' j f v =
      let y : printed (number_of x) (take 0 (drop at (put_mid at (at + 65536 - at) out p))) ≡ refusal_text (number_of x) = rw (ne_eqb (number_of x) 0 (number_not_0 x)) in
      line_after h block from e₀ out₀ (lent_with s e n keys) e out at i g k (outcome_from s (Err x) e' n' k' p) m (rw f at q) lp out' j w z (rw y v) e' le ln lk

-- ## Between two parts

module _ (h : Lent) (block e₀ out₀ : List ℕ) (w₀ : Option (List ℕ)) (b : Lent) (e out : List ℕ) (w : Option (List ℕ)) (i : ℕ) (g : BetweenParts h block e₀ out₀ w₀ b e out w i) where
  module _ (b' : Lent) (out' : List ℕ) (at j : ℕ) (d : ServedSome b block i out b' out' at j) where
    on : i + (j - i) ≡ j
    on = omega (arith, d.served.span.from)

    part_through : Through h block j b'
    part_through = rw on at (through_both h block i b g.through (j - i) b' d.served.through)

    -- What waits is what the part prints.
    part_written : (w' : Option (List ℕ)) → Appends w w' (take at out') → Appends w₀ w' (printed_by h (lines_of (take j block)))
    part_written w' p =
        let front : take at out' ≡ printed_by b (lines_of (take (j - i) (drop i block))) = wrote_front out 0 _ 131072 out' at (omega arith) d.served.prints in
        let both = rw on at (printed_both h block i b g.through (j - i) b' d.served.through) in
        subst (Appends w₀ w') (sym both) (Appends-trans w₀ w w' _ _ g.writes (subst (Appends w w') front p))

    pub part_next : {A E : Type 0} (e' : List ℕ) (w' : Option (List ℕ)) (r : Result A E) (x : A) → r ≡ Ok x → OnOk r (Appends w w' (take at out')) → length e' ≡ length e → length b'.numbers ≡ length b.numbers → length b'.keys ≡ length b.keys → length out' ≡ length out → BetweenParts h block e₀ out₀ w₀ b' e' out' w' j
    part_next e' w' r x q p le ln lk lo =
        record {
          through = part_through;
          writes = part_written w' (rw q at p);
          long = lo ∙ g.long;
          entries_long = le ∙ g.entries_long;
          entries_same = le ∙ g.entries_same;
          numbers_same = ln ∙ g.numbers_same;
          keys_same = lk ∙ g.keys_same;
          out_same = lo ∙ g.out_same;
        }

    -- Nobody takes the output.
    pub parts_stopped : (w' : Option (List ℕ)) → ServedAll h block w₀ b' w' j false
    parts_stopped w' = record { through = part_through; all = λ x. absurd (clash false x refl); writes = λ x. absurd (clash false x refl) }

    pub parts_done : {A E : Type 0} (w' : Option (List ℕ)) (r : Result A E) (x : A) → r ≡ Ok x → OnOk r (Appends w w' (take at out')) → at ≤ 65536 → ServedAll h block w₀ b' w' j true
    parts_done w' r x q p m = record { through = part_through; all = λ y. omega (arith, on, d.all m, end_rest h block i b g.through); writes = λ y. part_written w' (rw q at p) }
