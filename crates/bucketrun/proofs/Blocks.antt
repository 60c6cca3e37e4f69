-- Laws of reading: what stands in the input before, between and after blocks.
use Prim.Native.Nat.{ℕ, ◌+◌, ◌-◌, ◌≤◌, min}
use mathlib.Core.Path.{◌≡◌, refl, sym, ◌∙◌, ap}
use mathlib.Core.Bool.{Bool, true, false}
use mathlib.Core.List.{List, [], ◌∷◌, ◌++◌, append-nil}
use native.Mathlib.Omega.{arith}
use lib.ListN.{length, take, drop, replicate, length-append, length-drop, length-replicate}
use lib.Seq.{paste, length-take-le, take-add}
use Rattle.std.proofs.Common.{Option, subst}
use Rattle.std.specs.Prelude.{Some, None, Result, Ok, is_some, is_ok, is_err}
use Rattle.std.specs.Io.KnownBytes.{Appends, Consumes}
use Rattle.std.proofs.KnownBytes.{Appends-trans, Consumes-trans, Consumes-whole}
use Rattle.buffers.specs.Ranges.{Span}
use Rattle.buffers.specs.Writes.{placed, Wrote}
use Rattle.buffers.proofs.Tests.{clash}
use Rattle.buffers.proofs.Lists.{drop_take, take_least}
use Rattle.text.specs.Lines.{lines_of}
use Rattle.text.specs.Keys.{contains}
use Rattle.buffers.specs.Words.{number}
use Rattle.blocks.specs.Blocks.{block_of}
use Rattle.settings.specs.declared.Settings.{Settings}
use Rattle.settings.specs.declared.State.{State}
use Rattle.settings.specs.Bytes.{rules_at, settings_with}
use Rattle.settings.specs.State.{state_of}
use Rattle.settings.specs.Meaning.{fresh_settings}
use Rattle.model.proofs.Runs.{left_append}
use Rattle.bucket.specs.Whole.{Lent, lent_with}
use Rattle.bucket.proofs.Whole.{fresh_whole}
use Rattle.bucketrun.specs.Program.{left_by, printed_by, ended_length, ended_lines, Waiting, waiting, after_block, written_by, joined}
use Rattle.bucketrun.specs.Course.{failed_in, CameBehind, TookBlock, Startable, BetweenBlocks, Ran}
use Rattle.bucketrun.proofs.Lines.{rest_none, none_take, closed_lines}
use Rattle.bucketrun.proofs.Cutting.{blocks_left, all_written, written_more, joined_more}

-- ## Reading and keeping

-- The start of a line goes to the front.
pub kept_start : (input : List ℕ) (from to len : ℕ) (exit : List ℕ) → Span from to (length input) → len ≡ min (to - from) 513 → exit ≡ paste input 0 (drop from input) (from + len - from)
    → Wrote input 0 (take 513 (drop from (take to input))) 513 exit len
kept_start input from to len exit h c e =
    let n = length-drop from input in
    let z : from + len - from ≡ len = omega arith in
    let m : len ≤ length (drop from input) = omega (arith, n, h.from, h.to, c) in
    let l : length (take len (drop from input)) ≡ len = length-take-le len (drop from input) m in
    let q : len ≡ min 513 (to - from) = omega (arith, c) in
    let t : take len (drop from input) ≡ take 513 (drop from (take to input)) = ap (λ (k : ℕ). take k (drop from input)) q ∙ take_least 513 (to - from) (drop from input) ∙ ap (take 513) (sym (drop_take from to input)) in
    let x : exit ≡ placed input 0 (take len (drop from input)) = rw z at e ∙ ap (λ (k : ℕ). take len (drop from input) ++ drop (0 + k) input) (sym l) in
    rw (← t) (record { next = omega (arith, l); holds = x; long = ap length x ∙ simp (length-append, l, length-drop) (omega (arith, h.from, h.to, c)); most = omega (arith, c) })

-- ## The run

zeros_long : (l : List ℕ) (k : ℕ) → l ≡ replicate k 0 → length l ≡ k
zeros_long l k e = rw e (length-replicate k 0)

pub may_start : (x : Settings) (s : State) (e input n k out : List ℕ) → x ≡ fresh_settings → s ≡ state_of x → e ≡ replicate 640 0 → input ≡ replicate 66560 0 → n ≡ replicate 8192 0 → k ≡ replicate 65536 0 → out ≡ replicate 131072 0 → Startable (lent_with s e n k) e input out
unfolding rules_at number block_of
may_start x s e input n k out fx f ee ei en ek eo =
    record {
      servable = record { is_whole = rw (f, fx, ee, en, ek) (fresh_whole 1024 (omega arith) (omega arith)); entries_long = zeros_long e 640 ee; long = zeros_long out 131072 eo };
      input_long = zeros_long input 66560 ei;
    }

-- Output was not taken.
pub run_stopped : (failed : Bool) (h : Lent) (u v : Option (List ℕ)) (n k : List ℕ) (u' v' : Option (List ℕ)) → Ran false failed h u v n k u' v'
run_stopped failed h u v n k u' v' =
    record { blocks = []; settings = h.settings; is = λ x. absurd (clash false x refl); reads = λ x. absurd (clash false x refl); writes = λ x. absurd (clash false x refl); at_end = λ x. absurd (clash false x refl); whole = λ x. absurd (clash false x refl) }

module _ (h : Lent) (e₀ input₀ out₀ : List ℕ) (u₀ v₀ : Option (List ℕ)) (b : Lent) (e input out : List ℕ) (u v : Option (List ℕ)) (kept : ℕ) (g : BetweenBlocks h e₀ input₀ out₀ u₀ v₀ b e input out u v kept) where
  module _ (filled : List ℕ) (u' : Option (List ℕ)) (end : ℕ) (over failed : Bool) (c : CameBehind input kept u filled u' end over failed) where
    -- What the last block prints stands behind what is written.
    last_written : over ≡ true → written_by (waiting h []) g.blocks ++ printed_by b (ended_lines (take end filled)) ≡ printed_by h (lines_of (joined g.blocks))
    last_written o =
        ap
        (λ (t : List ℕ). written_by (waiting h []) g.blocks ++ t)
        (ap (printed_by b) (ap ended_lines (c.ends o) ∙ closed_lines (take kept input) g.no_feed) ∙ ap (λ (w : Waiting). printed_by w.bucket (lines_of w.begun)) g.leads)
        ∙ all_written h g.blocks

    all_read : over ≡ true → Consumes u₀ u' (joined g.blocks)
    all_read o = subst (Consumes u₀ u') (append-nil (joined g.blocks)) (Consumes-trans u₀ u u' _ _ g.reads (c.rests o))

    run_written : (v' : Option (List ℕ)) (b' : Lent) (input' : List ℕ) (kept' : ℕ) (told : Bool) → TookBlock b (take end filled) v b' input' v' kept' told → over ≡ true → told ≡ true
        → Appends v₀ v' (printed_by h (lines_of (joined g.blocks)))
    run_written v' b' input' kept' told d o t = subst (Appends v₀ v') (last_written o) (Appends-trans v₀ v v' _ _ g.writes (d.writes t))

    pub run_ends : (s : State) (e' n k input' : List ℕ) (v' : Option (List ℕ)) (kept' : ℕ) (told : Bool) → TookBlock b (take end filled) v (lent_with s e' n k) input' v' kept' told → over ≡ true → Ran told failed h u₀ v₀ n k u' v'
    run_ends s e' n k input' v' kept' told d o =
        record {
          blocks = g.blocks;
          settings = settings_with s e';
          is =
              λ t. ap (λ (w : Waiting). w.bucket) (d.takes t)
              ∙ ap (left_by b) (ap ended_lines (c.ends o) ∙ closed_lines (take kept input) g.no_feed)
              ∙ ap (λ (w : Waiting). left_by w.bucket (lines_of w.begun)) g.leads
              ∙ blocks_left h [] g.blocks;
          reads = λ t. all_read o;
          writes = λ t. run_written v' (lent_with s e' n k) input' kept' told d o t;
          at_end = λ t. c.at_end o;
          whole =
              λ t f. Consumes-whole u₀ u' (joined g.blocks) (λ (xs : List ℕ). Appends v₀ v' (printed_by h (lines_of xs))) (all_read o) (c.at_end o f)
              (run_written v' (lent_with s e' n k) input' kept' told d o t);
        }

    -- The text up to its end is what was kept, and what came.
    came : take end filled ≡ take kept input ++ take (end - kept) (drop kept filled)
    came =
        let z : end ≡ kept + (end - kept) = omega (arith, c.span.from) in
        ap (λ (j : ℕ). take j filled) z ∙ take-add kept (end - kept) filled ∙ ap (λ (t : List ℕ). t ++ take (end - kept) (drop kept filled)) c.stays

    next_written : written_by (waiting h []) (g.blocks ++ take (end - kept) (drop kept filled) ∷ []) ≡ written_by (waiting h []) g.blocks ++ printed_by b (ended_lines (take end filled))
    next_written =
        let x = take (end - kept) (drop kept filled) in
        written_more (waiting h []) g.blocks x
        ∙ ap
        (λ (t : List ℕ). written_by (waiting h []) g.blocks ++ t)
        (ap (λ (w : Waiting). printed_by w.bucket (ended_lines (w.begun ++ x))) (sym g.leads) ∙ ap (λ (t : List ℕ). printed_by b (ended_lines t)) (sym came))

    pub next_block : (b' : Lent) (input' : List ℕ) (v' : Option (List ℕ)) (kept' : ℕ) (told : Bool) → TookBlock b (take end filled) v b' input' v' kept' told → (e' out' : List ℕ) → over ≡ false → told ≡ true → length filled ≡ length input
        → length input' ≡ length filled → length e' ≡ length e → length b'.numbers ≡ length b.numbers → length b'.keys ≡ length b.keys → length out' ≡ length out → BetweenBlocks h e₀ input₀ out₀ u₀ v₀ b' e' input' out' u' v' kept'
    next_block b' input' v' kept' told d e' out' o t lf li le ln lk lo =
        let x = take (end - kept) (drop kept filled) in
        let q : waiting b' (take kept' input') ≡ after_block (waiting b []) (take end filled) = d.takes t in
        record {
          blocks = g.blocks ++ x ∷ [];
          reads = subst (Consumes u₀ u') (sym (joined_more g.blocks x)) (Consumes-trans u₀ u u' _ _ g.reads (c.reads o));
          writes = subst (Appends v₀ v') (sym (next_written)) (Appends-trans v₀ v v' _ _ g.writes (d.writes t));
          leads = q ∙ ap (after_block (waiting b [])) came ∙ ap (λ (w : Waiting). after_block w x) g.leads ∙ sym (left_append after_block (waiting h []) g.blocks (x ∷ []));
          servable = record { is_whole = d.is_whole; entries_long = le ∙ g.servable.entries_long; long = lo ∙ g.servable.long };
          entries_same = le ∙ g.entries_same;
          few = d.few;
          no_feed = ap (λ (w : Waiting). contains w.begun 10) q ∙ none_take 513 (drop (ended_length (take end filled)) (take end filled)) (rest_none (take end filled));
          input_long = li ∙ lf ∙ g.input_long;
          input_same = li ∙ lf ∙ g.input_same;
          numbers_same = ln ∙ g.numbers_same;
          keys_same = lk ∙ g.keys_same;
          out_same = lo ∙ g.out_same;
        }

  -- By what was read.
  module _ {A E : Type 0} (filled : List ℕ) (u' : Option (List ℕ)) (end : ℕ) (over : Option (Result A E)) (c : CameBehind input kept u filled u' end (is_some over) (failed_in over)) where
    pub run_over : (read : Result A E) → over ≡ Some read → (s : State) (e' n k input' : List ℕ) (v' : Option (List ℕ)) (kept' : ℕ) (told : Bool) → TookBlock b (take end filled) v (lent_with s e' n k) input' v' kept' told
        → Ran told (is_err read) h u₀ v₀ n k u' v'
    run_over read w s e' n k input' v' kept' told d =
        let x : failed_in over ≡ is_err read = ap failed_in w in
        rw (← x) (run_ends filled u' end (is_some over) (failed_in over) c s e' n k input' v' kept' told d (ap is_some w))

    pub run_next : over ≡ None → {F G : Type 0} (written : Result F G) (x : F) → written ≡ Ok x → (b' : Lent) (input' : List ℕ) (v' : Option (List ℕ)) (kept' : ℕ) → TookBlock b (take end filled) v b' input' v' kept' (is_ok written)
        → (e' out' : List ℕ) → length filled ≡ length input
        → length input' ≡ length filled → length e' ≡ length e → length b'.numbers ≡ length b.numbers → length b'.keys ≡ length b.keys → length out' ≡ length out → BetweenBlocks h e₀ input₀ out₀ u₀ v₀ b' e' input' out' u' v' kept'
    run_next w written x q b' input' v' kept' d e' out' = next_block filled u' end (is_some over) (failed_in over) c b' input' v' kept' (is_ok written) d e' out' (ap is_some w) (ap is_ok q)
